use Rattle.std.proofs.Common.{◌≡◌, ◌+◌, ◌-◌, ◌≤◌, ◌++◌, map, take, length, vec_len}
use Rattle.std.specs.Prelude.{vec_capacity}
use Rattle.lat_base.specs.declared.item.Item.TheVariants.{Byte}
use Rattle.lat_replay.proofs.roster.row.add_bytes.Given as goal

abbrev pub invariant-loop-byte : goal.invariant-loop-byte
invariant-loop-byte l = record {
  items : l.list.items ≡ l.initial.list.items ++ map Byte (take l.byte-index l.bytes);
  room : vec_len l.list + (length l.bytes - l.byte-index) ≤ vec_capacity l.list;
}
