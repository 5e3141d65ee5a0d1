use Rattle.std.proofs.Common.{◌≡◌, length, []}
use Rattle.lat_text.specs.Lines.{lines_of}
use Rattle.lat_explain.specs.RefusedExplained.{final_line}
use Rattle.lat_explain.proofs.refused.final_line.Given as goal

abbrev pub invariant-loop-line : goal.invariant-loop-line
invariant-loop-line l = final_line (lines_of l.text) [] ≡ final_line (lines_of l.rest) l.found

abbrev pub decreases-loop-line : goal.decreases-loop-line
decreases-loop-line l = length l.rest
