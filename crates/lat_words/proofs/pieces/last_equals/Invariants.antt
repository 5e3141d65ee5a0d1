use Rattle.std.proofs.Common.{◌≡◌, ◌≤◌, length}
use Rattle.lat_words.specs.Pieces.{equals, last_below, last_equals}
use Rattle.lat_words.proofs.pieces.last_equals.Given as goal

abbrev pub invariant-loop-at : goal.invariant-loop-at
invariant-loop-at l = record {
  none : last_equals l.text ≡ last_below equals l.at l.text;
  within : l.at ≤ length l.text;
}

abbrev pub decreases-loop-at : goal.decreases-loop-at
decreases-loop-at l = l.at
