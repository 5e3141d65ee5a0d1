use Rattle.std.proofs.Common.{◌≡◌, length, take}
use Rattle.lat_node.proofs.node.copy.Given as goal

abbrev pub invariant-loop-name : goal.invariant-loop-name
invariant-loop-name l = record {
  copied : l.copied ≡ take l.name-index l.names;
  count : length l.copied ≡ l.name-index;
}
