use Rattle.std.proofs.Common.{◌≡◌, length}
use Rattle.lat_text.specs.Lines.{lines_of}
use Rattle.lat_explain.specs.Forms.{taken_shown}
use Rattle.lat_explain.specs.Walks.{IsWithin, shown, walk, walked}
use Rattle.lat_explain.proofs.walk.walked.Given as goal

abbrev pub invariant-loop-form : goal.invariant-loop-form
invariant-loop-form l = record {
  walk : walked (taken_shown l.taken) l.line l.table ≡ walk (taken_shown l.taken) l.line (shown l.walk) (lines_of l.rest);
  within : IsWithin (length l.line) l.walk;
}

abbrev pub decreases-loop-form : goal.decreases-loop-form
decreases-loop-form l = length l.rest
