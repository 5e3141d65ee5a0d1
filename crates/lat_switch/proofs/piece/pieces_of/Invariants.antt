use Rattle.std.proofs.Common.{◌≡◌, ◌-◌, ◌≤◌, ◌++◌, length, drop}
use Rattle.lat_switch.specs.Pieces.{pieces_of}
use Rattle.lat_switch.proofs.piece.pieces_of.Given as goal

abbrev pub decreases-loop-at : goal.decreases-loop-at
decreases-loop-at l = length l.bytes - l.at

abbrev pub invariant-loop-at : goal.invariant-loop-at
invariant-loop-at l = record {
  within : l.at ≤ length l.bytes;
  pieces : l.pieces.items ++ pieces_of (drop l.at l.bytes) ≡ pieces_of l.bytes;
}
