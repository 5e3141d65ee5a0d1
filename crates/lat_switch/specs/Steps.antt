-- One event of a switch: a list of inner events, what is shown after each, and the answer.
use Rattle.std.specs.Prelude.{ℕ, cond, length}
use Rattle.lat_base.specs.declared.answer.Answer.TheVariants as answers
use Rattle.lat_base.specs.declared.event.Event.{Event}
use Rattle.lat_base.specs.declared.event.Event.TheVariants as events
use Rattle.lat_machines.specs.cores.Lines.{line_exists}
use Rattle.lat_switch.specs.Switch.{Switch, line_on, Course, begins, Step, refuses, relays}
use Rattle.lat_switch.specs.Calls.{connects, closes}
use Rattle.lat_switch.specs.Reading.{puts}

abbrev pub on_line : ℕ → (Course → Step) → Course → Step
on_line k f c = cond (line_exists (length c.state.lines) k) (f c) (refuses answers.NoLine c)

-- the same event on the shown inner line
abbrev pub on_shown : ℕ → (ℕ → Event) → Course → Step
on_shown k e c = on_line k (relays (e (line_on k c.state).shown)) c

abbrev pub does : Event → Course → Step
does (events.Heard from payload now) c = relays (events.Heard from payload now) c
does (events.Time now) c = relays (events.Time now) c
does (events.Connect k service) c = on_line k (connects k service) c
does (events.Put k bytes) c = on_line k (puts k bytes) c
does (events.Set k setting) c = on_shown k (λ x. events.Set x setting) c
does (events.Take k n) c = on_shown k (λ x. events.Take x n) c
does (events.Attend k flag) c = on_shown k (λ x. events.Attend x flag) c
does (events.Close k) c = on_line k (closes k) c
does (events.Request to id service) c = refuses answers.NotHere c
does (events.Cancel id) c = refuses answers.NotHere c
does events.Announce c = refuses answers.NotHere c
does (events.Avoid k) c = on_shown k (λ x. events.Avoid x) c
does (events.Ready k ready) c = on_shown k (λ x. events.Ready x ready) c
does events.Halt c = relays events.Halt c

abbrev pub switch_step : Switch → Event → Step
switch_step s e = does e (begins s)
