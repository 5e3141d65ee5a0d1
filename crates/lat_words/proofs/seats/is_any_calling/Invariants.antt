use Rattle.std.proofs.Common.{◌≡◌, ◌≤◌, ◌-◌}
use Rattle.std.specs.Prelude.{false}
use Rattle.lat_words.specs.Seats.{some_call}
use Rattle.lat_words.proofs.seats.is_any_calling.Given as goal

abbrev pub invariant-loop-line : goal.invariant-loop-line
invariant-loop-line l = record {
  none : some_call (l.line - 1) l.offers ≡ false;
  first : 1 ≤ l.line;
}
