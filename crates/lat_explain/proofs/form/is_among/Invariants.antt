use Rattle.std.proofs.Common.{◌≡◌, length}
use Rattle.lat_text.specs.Lines.{lines_of}
use Rattle.lat_explain.specs.Forms.{is_among}
use Rattle.lat_explain.proofs.form.is_among.Given as goal

abbrev pub invariant-loop-line : goal.invariant-loop-line
invariant-loop-line l = is_among l.name (lines_of l.services) ≡ is_among l.name (lines_of l.rest)

abbrev pub decreases-loop-line : goal.decreases-loop-line
decreases-loop-line l = length l.rest
