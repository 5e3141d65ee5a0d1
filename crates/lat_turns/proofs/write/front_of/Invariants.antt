use Rattle.std.proofs.Common.{◌≡◌, ◌+◌, drop}
use Rattle.lat_turns.specs.Written.{front_of}
use Rattle.lat_turns.proofs.write.front_of.Given as goal

abbrev pub invariant-loop-item : goal.invariant-loop-item
invariant-loop-item l = record {
  front : l.front ≡ l.item-index;
  exact : front_of l.count l.items ≡ l.front + front_of l.left (drop l.item-index l.items);
}
