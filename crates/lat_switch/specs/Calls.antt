-- Connecting and closing on a line of a switch.
use Rattle.std.specs.Prelude.{ℕ, Bool, true, false, cond, fold, Option, Some, None}
use Rattle.lat_base.specs.declared.answer.Answer.{Answer}
use Rattle.lat_base.specs.declared.answer.Answer.TheVariants as answers
use Rattle.lat_base.specs.declared.event.Event.TheVariants as events
use Rattle.lat_machines.specs.values.Names.{Name}
use Rattle.lat_switch.specs.Lines.{inner_lines, first_free, has_session, shows}
use Rattle.lat_switch.specs.Switch.{line_on, Course, tells, answer_to, changes, Step, refuses}

abbrev pub is_connected : Answer → Bool
is_connected (answers.Connected circuit session) = true
is_connected _ = false

-- an inner line that was connected is then shown, and the service is the line's own
abbrev pub shown_if : Bool → ℕ → ℕ → Name → Course → Course
shown_if was_connected k x service c = cond was_connected (changes k (shows x service) c) c

abbrev pub connects_at : ℕ → Name → Course → Option ℕ → Step
connects_at k service c None = refuses answers.Busy c
connects_at k service c (Some x) = record {
  course = shown_if (is_connected (answer_to (events.Connect x service) c)) k x service (tells (events.Connect x service) c);
  answer = answer_to (events.Connect x service) c;
}

-- it goes to the least inner line without a session
abbrev pub connects : ℕ → Name → Course → Step
connects k service c = connects_at k service c (first_free c.state.inner (line_on k c.state))

-- `Done` once one answers it
abbrev pub either_done : Answer → Answer → Answer
either_done before answers.Done = answers.Done
either_done before _ = before

-- an inner line is closed where it has a session
abbrev pub closes_one : Step → ℕ → Step
closes_one t x =
    cond (has_session t.course.state.inner x)
    (record { course = tells (events.Close x) t.course; answer = either_done t.answer (answer_to (events.Close x) t.course) })
    t

-- all inner lines with a session, rising; `Closed` where none of them answers `Done`
abbrev pub closes : ℕ → Course → Step
closes k c = fold closes_one (refuses answers.Closed c) (inner_lines (line_on k c.state))
