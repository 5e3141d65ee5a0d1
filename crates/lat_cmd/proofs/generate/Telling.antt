-- The lines of a generated schedule tell its setup.
use Rattle.std.proofs.Common.{◌≡◌, ℕ, List, [], ◌++◌, ap, ◌∙◌, refl}
use Rattle.std.specs.Prelude.{Result, Ok, Err}
use Rattle.std.specs.Fmt.{digits}
use Rattle.hex.specs.Hex.{decode_pairs}
use Rattle.lat_schedule.specs.Places.{many}
use Rattle.lat_schedule.specs.ScheduleText.{schedule_of, ReadsSchedule}
use Rattle.lat_schedule.specs.declared.schedule.Schedule.{Schedule}
use Rattle.lat_schedule.specs.declared.schedule.ScheduleFault.{ScheduleFault}
use Rattle.lat_schedule.specs.declared.schedule.ScheduleFault.TheVariants.{Form, Events}
use Rattle.lat_cmd.specs.generate.Front.{front_text, end_text, setup}

pub front_tells : schedule_of (front_text ++ end_text) ≡ Ok (record { setup = setup; lines = []; events = [] })
unfolding many decode_pairs digits
front_tells = refl

-- no line of them is wrong, and they have no event too many
no_fault : (text : List ℕ) (fault : ScheduleFault) → text ≡ front_text ++ end_text → ◌≡◌ {A = Result Schedule ScheduleFault} (Err fault) (schedule_of text) → ⊥
no_fault text fault e r =
    let told : schedule_of text ≡ Ok (record { setup = setup; lines = []; events = [] }) = ap schedule_of e ∙ front_tells in
    cc

pub no_form : (text : List ℕ) (line : ℕ) → text ≡ front_text ++ end_text → ReadsSchedule (Err (Form line)) text → ⊥
no_form text line e r = no_fault text (Form line) e r

pub no_limit : (text : List ℕ) (line : ℕ) → text ≡ front_text ++ end_text → ReadsSchedule (Err (Events line)) text → ⊥
no_limit text line e r = no_fault text (Events line) e r
