use Rattle.std.proofs.Common.{◌≡◌, length}
use Rattle.lat_text.specs.Lines.{lines_of}
use Rattle.lat_explain.specs.Walks.{has_line}
use Rattle.lat_explain.proofs.walk.has_line.Given as goal

abbrev pub invariant-loop-line : goal.invariant-loop-line
invariant-loop-line l = has_line l.form (lines_of l.text) ≡ has_line l.form (lines_of l.rest)

abbrev pub decreases-loop-line : goal.decreases-loop-line
decreases-loop-line l = length l.rest
