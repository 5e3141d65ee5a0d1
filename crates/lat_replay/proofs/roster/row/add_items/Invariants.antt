use Rattle.std.proofs.Common.{◌≡◌, ◌+◌, ◌-◌, ◌≤◌, ◌++◌, take, length, vec_len}
use Rattle.std.specs.Prelude.{vec_capacity}
use Rattle.lat_replay.proofs.roster.row.add_items.Given as goal

abbrev pub invariant-loop-item : goal.invariant-loop-item
invariant-loop-item l = record {
  items : l.list.items ≡ l.initial.list.items ++ take l.item-index l.items;
  room : vec_len l.list + (length l.items - l.item-index) ≤ vec_capacity l.list;
}
