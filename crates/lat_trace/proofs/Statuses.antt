-- The statuses of what is told of a schedule.
use Rattle.std.proofs.Common.{◌≡◌, ℕ, inl, inr, Bool, true, false, List, length, refl, Option, Some, None, Result, Ok, Err, get_or}
use Rattle.std.specs.Prelude.{◌⊎◌, nat_lt, if◌then◌else◌}
use Rattle.lat_schedule.specs.Places.{opening}
use Rattle.lat_schedule.specs.ScheduleText as schedules
use Rattle.lat_schedule.specs.declared.schedule.Schedule.{Schedule}
use Rattle.lat_schedule.specs.declared.schedule.ScheduleFault.{ScheduleFault}
use Rattle.lat_schedule.specs.declared.schedule.ScheduleFault.TheVariants as faults
use Rattle.lat_wire.specs.report.RefusedText.{status}
use Rattle.lat_wire.specs.declared.report.refused.Refused.{Refused}
use Rattle.lat_wire.specs.declared.report.refused.Refused.TheVariants as lines
use Rattle.lat_trace.specs.declared.run.Stop.{Stop}
use Rattle.lat_trace.specs.Courses.{misread, unless_limit, limit_of, stop_status, run_told, schedule_told, read_told, told_of}
use Rattle.lat_trace.specs.Runs.{Run, run_of}

-- 0, 2, 3 or 6
abbrev pub IsStatus : ℕ → Type 0
IsStatus n = (n ≡ 0) ⊎ (n ≡ 2) ⊎ (n ≡ 3) ⊎ (n ≡ 6)

of_refused : (r : Refused) → IsStatus (status r)
of_refused (lines.Backward at last) = inr (inr (inl refl))
of_refused lines.OwnAddress = inr (inr (inl refl))
of_refused (lines.NoFrame index sent) = inr (inr (inl refl))
of_refused (lines.Old acknowledgement number newest) = inr (inr (inl refl))
of_refused lines.FramesLimit = inr (inr (inr refl))
of_refused lines.EventsLimit = inr (inr (inr refl))

of_stop : (stop : Option Stop) → IsStatus (stop_status stop)
of_stop None = inl refl
of_stop (Some stop) = of_refused stop.why

of_limit : (limit : Option Stop) (told : ℕ × List ℕ) → IsStatus told.0 → IsStatus (unless_limit limit told).0
of_limit None told h = h
of_limit (Some stop) told h = inr (inr (inr refl))

of_run : (tell : Run → List ℕ) (r : Run) → IsStatus (run_told tell r).0
of_run tell r = of_limit (limit_of r.stop) (stop_status r.stop, tell r) (of_stop r.stop)

chosen : (b : Bool) (x y : ℕ × List ℕ) → IsStatus x.0 → IsStatus y.0 → IsStatus (if b then x else y).0
chosen true x y p q = p
chosen false x y p q = q

of_schedule : (most : ℕ) (tell : Run → List ℕ) (s : Schedule) → IsStatus (schedule_told most tell s).0
of_schedule most tell s =
    chosen (nat_lt most (length s.events)) (misread (faults.Events (get_or s.lines most 0))) (run_told tell (run_of s)) (inr (inr (inr refl))) (of_run tell (run_of s))

either : (P : Result Schedule ScheduleFault → Type 0) (b : Bool) (x y : Result Schedule ScheduleFault) → P x → P y → P (if b then x else y)
either P true x y p q = p
either P false x y p q = q

of_read : (most : ℕ) (tell : Run → List ℕ) (r : Result Schedule ℕ) → IsStatus (read_told most tell (schedules.answer_of r)).0
of_read most tell (Err number) = inr (inl refl)
of_read most tell (Ok s) =
    let P : Result Schedule ScheduleFault → Type 0 = λ x. IsStatus (read_told most tell x).0 in
    either P (nat_lt 100000 (length s.events)) _ _ (inr (inr (inr refl))) (of_schedule most tell s)

pub told_statuses : (most : ℕ) (tell : Run → List ℕ) (text : List ℕ) → IsStatus (told_of most tell text).0
unfolding told_of
told_statuses most tell text = of_read most tell (schedules.schedule_at (opening text))
