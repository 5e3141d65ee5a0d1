-- What is told of a core that was made.
use Rattle.std.proofs.Common.{◌≡◌, ℕ, List, ap, ◌∙◌}
use Rattle.std.specs.Prelude.{Result, Ok, Err, IfOk}
use Rattle.lat_record.specs.declared.read.Record.{Record}
use Rattle.lat_record.specs.RecordRead.{record_of}
use Rattle.lat_rerun.specs.Reruns.{rerun_of, rerun_read}

-- of a core that stands for a state, seen by view, what is told of any state that is the same
pub told_of_opened : {R E C S : Type 0} (view : R → ℕ × List ℕ) (stands : C → S → Type 0) (tell : S → ℕ × List ℕ) (result : Result R E) (core : C) (s : S)
    (wanted : ℕ × List ℕ) → stands core s → tell s ≡ wanted → IfOk result (λ r. (t : S) → stands core t → view r ≡ tell t) → IfOk result (λ r. view r ≡ wanted)
told_of_opened view stands tell (Ok r) core s wanted here same all = all s here ∙ same
told_of_opened view stands tell (Err e) core s wanted here same all = tt

-- what is read of a text decides what its rerun comes to
pub rerun_is : (text : List ℕ) (read : Result Record ℕ) → read ≡ record_of text → rerun_read read ≡ rerun_of text
unfolding rerun_of
rerun_is text read is = ap rerun_read is
