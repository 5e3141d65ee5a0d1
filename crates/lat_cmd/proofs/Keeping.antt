-- The last event that was refused before one that can't be.
use Rattle.std.proofs.Common.{◌≡◌, ◌≢◌, List, Option, None, Result, Ok, Err, refl, sym, ap, ◌∙◌, subst}
use Rattle.std.specs.Prelude.{IfOk, ℕ}
use Rattle.lat_base.specs.declared.memory.Memory.{Memory}
use Rattle.lat_machines.specs.world.Machines.{Setups}
use Rattle.lat_replay.specs.Kept.{Kept}
use Rattle.lat_replay.specs.Played as plays
use Rattle.lat_replay.specs.Played.{State, Through, open_state, played, StopsBy}
use Rattle.lat_replay.specs.Refusals.{refused_of}
use Rattle.lat_replay.specs.Setups.{setups_shown}
use Rattle.lat_schedule.specs.ScheduleText.{ReadsSchedule}
use Rattle.lat_schedule.specs.declared.event.WorldEvent.{WorldEvent}
use Rattle.lat_schedule.specs.declared.schedule.Schedule.{Schedule}
use Rattle.lat_schedule.specs.declared.schedule.ScheduleFault.{ScheduleFault}
use Rattle.lat_schedule.specs.declared.schedule.ScheduleFault.TheVariants as reading
use Rattle.lat_wire.specs.declared.fault.EventFault.{EventFault}
use Rattle.lat_wire.specs.declared.fault.EventFault.TheVariants as faults
use Rattle.lat_wire.specs.declared.report.refused.Refused.{Refused}
use Rattle.lat_cmd.specs.declared.before.Before as declared
use Rattle.lat_cmd.specs.declared.command.Command.{Command}
use Rattle.lat_cmd.specs.declared.course.Course.{Course}
use Rattle.lat_cmd.specs.declared.course.Course.TheVariants as courses
use Rattle.lat_cmd.specs.declared.outcome.Outcome.{Outcome}
use Rattle.lat_cmd.specs.Befores.{Before, before_of, shown, before_why, before_stop, schedule_before, read_before, text_before, KeepsBefore}
use Rattle.lat_cmd.proofs.Replaying.{stops}

-- nothing is told behind a schedule that is played whole
pub through_before :
    (s : Schedule) (u : Setups) (es : List WorldEvent) (t : State) → u ≡ setups_shown s.setup → es ≡ s.events → played u (open_state u) es ≡ Through t →
    schedule_before s ≡ None
unfolding schedule_before
through_before s u es t made are all =
    let w : Setups = setups_shown s.setup in
    let mine : played u (open_state u) s.events ≡ Through t = subst (λ (xs : List WorldEvent). played u (open_state u) xs ≡ Through t) are all in
    let here : played w (open_state w) s.events ≡ Through t = subst (λ x. played x (open_state x) s.events ≡ Through t) made mine in
    ap (before_stop s.lines) here

-- what is told in front of the event that stops it
pub stopped_before :
    (s : Schedule) (u : Setups) (es : List WorldEvent) (index : ℕ) (fault : EventFault) (why : Refused) (t : State) (b : Option declared.Before) →
    u ≡ setups_shown s.setup → es ≡ s.events → StopsBy u (open_state u) es index fault t → fault ≢ faults.Memory → why ≡ refused_of fault →
    shown b ≡ before_why s.lines t.machines why → shown b ≡ schedule_before s
unfolding schedule_before
stopped_before s u es index fault why t b made are by other same is =
    let w : Setups = setups_shown s.setup in
    let stop : played u (open_state u) es ≡ plays.Refused index fault t = stops u (open_state u) es index fault t other by in
    let mine : played u (open_state u) s.events ≡ plays.Refused index fault t = subst (λ (xs : List WorldEvent). played u (open_state u) xs ≡ plays.Refused index fault t) are stop in
    let here : played w (open_state w) s.events ≡ plays.Refused index fault t = subst (λ x. played x (open_state x) s.events ≡ plays.Refused index fault t) made mine in
    is ∙ ap (before_why s.lines t.machines) same ∙ sym (ap (before_stop s.lines) here)

-- a text that is a schedule
pub read_keeps :
    {H : Type 0} (s : Schedule) (input : List ℕ) (r : Result (Course H) Memory) → ReadsSchedule (Ok s) input →
    IfOk r (λ course. KeepsBefore (schedule_before s) course) → IfOk r (λ course. KeepsBefore (text_before input) course)
unfolding text_before
read_keeps s input r is keeps = subst (λ (b : Option Before). IfOk r (λ course. KeepsBefore b course)) (ap read_before is) keeps

-- one that is none
pub misread_keeps :
    (fault : ScheduleFault) (input : List ℕ) → ReadsSchedule (Err fault) input → fault ≢ reading.Memory → None ≡ text_before input
unfolding text_before
misread_keeps (reading.Form line) input is other = ap read_before is
misread_keeps (reading.Events line) input is other = ap read_before is
misread_keeps reading.Memory input is other = absurd (other refl)

-- what a command came to keeps it
pub before_through :
    {H : Type 0} (before : Option Before) (c : Course H) (k : Kept H) (r : Result (Outcome H) Memory) → c ≡ courses.Through k → KeepsBefore before c →
    IfOk r (λ o. o.before ≡ None) → IfOk r (λ o. shown o.before ≡ before)
before_through before c k (Ok o) is keeps none =
    let nothing : before ≡ None = subst (λ (x : Course _). KeepsBefore before x) is keeps in
    ap shown none ∙ sym nothing
before_through before c k (Err e) is keeps none = tt

pub before_stopped :
    {H : Type 0} (before : Option Before) (c : Course H) (o : Outcome H) → c ≡ courses.Stopped o → KeepsBefore before c → shown o.before ≡ before
before_stopped before c o is keeps = subst (λ (x : Course _). KeepsBefore before x) is keeps

-- that of a command is that of its own call
pub befores_as :
    {H : Type 0} (command c : Command) (input : List ℕ) (r : Result (Outcome H) Memory) → command ≡ c → IfOk r (λ o. shown o.before ≡ before_of c input) →
    IfOk r (λ o. shown o.before ≡ before_of command input)
befores_as command c input r is told = subst (λ (x : Command). IfOk r (λ o. shown o.before ≡ before_of x input)) (sym is) told

pub no_before :
    {H : Type 0} (command c : Command) (input : List ℕ) (r : Result (Outcome H) Memory) → command ≡ c → before_of c input ≡ None →
    IfOk r (λ o. o.before ≡ None) → IfOk r (λ o. shown o.before ≡ before_of command input)
no_before command c input (Ok o) is nothing none =
    subst (λ (x : Command). shown o.before ≡ before_of x input) (sym is) (ap shown none ∙ sym nothing)
no_before command c input (Err e) is nothing none = tt
