use Rattle.std.proofs.Common.{◌≡◌, length, take, ◌≤◌}
use Rattle.lat_turns.specs.Written.{items_bytes}
use Rattle.lat_turns.proofs.write.copy_bytes.Given as goal

abbrev pub invariant-loop-item : goal.invariant-loop-item
invariant-loop-item l = record {
  count : l.count ≤ l.item-index;
  place : length l.place ≡ 1024;
  bytes : take l.count l.place ≡ items_bytes (take l.item-index l.items);
}
