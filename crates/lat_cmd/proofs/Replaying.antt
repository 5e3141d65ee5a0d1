-- Where a schedule leads.
use Rattle.std.proofs.Common.{◌≡◌, ◌≢◌, ℕ, List, Result, Ok, Err, refl, sym, ap}
use Rattle.std.proofs.Common.{◌∙◌, subst}
use Rattle.std.specs.Prelude.{IfOk, get_or}
use Rattle.lat_base.specs.declared.memory.Memory as memory
use Rattle.lat_model.specs.Lists.{Each}
use Rattle.lat_machines.specs.world.Machines.{Setups, open_machines}
use Rattle.lat_wire.specs.report.RefusedText.{refused_text, status}
use Rattle.lat_wire.specs.declared.report.refused.Refused.{Refused}
use Rattle.lat_schedule.specs.Events.{IsEvent}
use Rattle.lat_schedule.specs.Setups.{IsSetup}
use Rattle.lat_schedule.specs.ScheduleText.{schedule_of, ReadsSchedule}
use Rattle.lat_schedule.specs.declared.schedule.Schedule.{Schedule}
use Rattle.lat_schedule.specs.declared.schedule.ScheduleFault.{ScheduleFault}
use Rattle.lat_schedule.specs.declared.schedule.ScheduleFault.TheVariants as reading
use Rattle.lat_schedule.specs.declared.event.WorldEvent.{WorldEvent}
use Rattle.lat_wire.specs.declared.fault.EventFault.{EventFault}
use Rattle.lat_wire.specs.declared.fault.EventFault.TheVariants as faults
use Rattle.lat_settle.proofs.Beginning.{schedules_begin, schedules_leave_room}
use Rattle.lat_replay.specs.Kept.{Kept, setups_of, moment_of}
use Rattle.lat_replay.specs.Setups.{setups_shown}
use Rattle.lat_replay.specs.Stands.{Stands}
use Rattle.lat_replay.specs.Played as plays
use Rattle.lat_replay.specs.Played.{State, open_state, Played, Through, played, StandsAt, StopsBy}
use Rattle.lat_cmd.specs.declared.course.Course.{Course}
use Rattle.lat_cmd.specs.declared.course.Course.TheVariants as courses
use Rattle.lat_cmd.specs.declared.outcome.Outcome.{Outcome}
use Rattle.lat_cmd.specs.Answers.{Answer, Tale, plain, misread, tale_answer, answered_of, tale_answer_at, answered_behind}
use Rattle.lat_cmd.specs.Courses.{Leaves, Runs}
use Rattle.lat_cmd.specs.Laws.{SaysCalm}
use Rattle.lat_settle.specs.Laws.{IsCalm}
use Rattle.lat_cmd.specs.Outcomes.{IsOutcome}
use Rattle.lat_cmd.proofs.Coming.{none_of}
use Rattle.lat_replay.specs.Refusals.{refused_of}

-- what a new world stands for
pub opens : {H : Type 0} (k : Kept H) → Stands k (open_machines (setups_of k)) → moment_of k ≡ 0 → StandsAt k (open_state (setups_of k))
opens k stands moment = record { machines = stands; moment = moment }

-- a schedule that is played whole
pub through :
    (tale : Tale) (s : Schedule) (u v : Setups) (t : State) → u ≡ setups_shown s.setup → v ≡ u → played u (open_state u) s.events ≡ Through t →
    answered_of tale s ≡ tale v t
unfolding answered_of
through tale s u v t made same all =
    let w : Setups = setups_shown s.setup in
    let here : played w (open_state w) s.events ≡ Through t = subst (λ x. played x (open_state x) s.events ≡ Through t) made all in
    ap (λ (p : Played). tale_answer tale w s.lines p) here ∙ ap (λ (x : Setups). tale x t) (sym (same ∙ made))

leaves :
    (s : Schedule) (u v : Setups) (t : State) → IsSetup s.setup → Each (IsEvent s.setup.server.own) s.events → u ≡ setups_shown s.setup → v ≡ u →
    played u (open_state u) s.events ≡ Through t → Leaves (IsCalm s.setup s.events) v t
leaves s u v t setup events made same all =
    let here : played (setups_shown s.setup) (open_state (setups_shown s.setup)) s.events ≡ Through t =
    subst (λ x. played x (open_state x) s.events ≡ Through t) made all in
    subst (λ (x : Setups). Leaves (IsCalm s.setup s.events) x t) (sym (same ∙ made)) (record {
      room = schedules_leave_room s.setup s.events t setup events here;
      begins = λ calm. schedules_begin s.setup s.events t setup calm events here;
    })

pub runs_through :
    {H : Type 0} (s : Schedule) (k new : Kept H) (es : List WorldEvent) → IsSetup s.setup → Each (IsEvent s.setup.server.own) s.events →
    setups_of k ≡ setups_shown s.setup → es ≡ s.events → setups_of new ≡ setups_of k →
    (t : State) × (played (setups_of k) (open_state (setups_of k)) es ≡ Through t) × StandsAt new t →
    Runs (IsCalm s.setup s.events) (λ tale. answered_of tale s) (courses.Through new)
runs_through s k new es setup events made are same p =
    let u : Setups = setups_of k in
    let all : played u (open_state u) s.events ≡ Through p.0 = subst (λ (xs : List WorldEvent). played u (open_state u) xs ≡ Through p.0) are p.1 in
    (p.0, p.2, leaves s u (setups_of new) p.0 setup events made same all, λ tale. through tale s u (setups_of new) p.0 made same all)

pub stops :
    (u : Setups) (s : State) (es : List WorldEvent) (index : ℕ) (fault : EventFault) (t : State) → fault ≢ faults.Memory →
    StopsBy u s es index fault t → played u s es ≡ plays.Refused index fault t
stops u s es index faults.Memory t other by = absurd (other refl)
stops u s es index faults.FramesFull t other by = by
stops u s es index (faults.Backward at last) t other by = by
stops u s es index faults.OwnAddress t other by = by
stops u s es index (faults.NoFrame place sent) t other by = by
stops u s es index (faults.Old acknowledgement number newest) t other by = by

-- one that is refused
refuses :
    {H : Type 0} (tale : Tale) (s : Schedule) (u : Setups) (t : State) (index line : ℕ) (fault : EventFault) (r : Refused) (o : Outcome H) →
    u ≡ setups_shown s.setup → played u (open_state u) s.events ≡ plays.Refused index fault t → r ≡ refused_of fault → line ≡ get_or s.lines index 0 →
    IsOutcome (plain (status r, refused_text line r)) o → IsOutcome (answered_of tale s) o
unfolding answered_of
refuses tale s u t index line fault r o made all same at is =
    let w : Setups = setups_shown s.setup in
    let there : played w (open_state w) s.events ≡ plays.Refused index fault t =
    subst (λ x. played x (open_state x) s.events ≡ plays.Refused index fault t) made all in
    let here : IsOutcome (plain (status (refused_of fault), refused_text (get_or s.lines index 0) (refused_of fault))) o =
    subst (λ n. IsOutcome (plain (status (refused_of fault), refused_text n (refused_of fault))) o) at
    (subst (λ (x : Refused). IsOutcome (plain (status x, refused_text line x)) o) same is) in
    subst (λ (p : Played). IsOutcome (tale_answer tale w s.lines p) o) (sym there) here

pub runs_stopped :
    {H : Type 0} (s : Schedule) (u : Setups) (es : List WorldEvent) (index line : ℕ) (fault : EventFault) (r : Refused) (t : State) (o : Outcome H) →
    u ≡ setups_shown s.setup → es ≡ s.events → StopsBy u (open_state u) es index fault t → fault ≢ faults.Memory → r ≡ refused_of fault →
    line ≡ get_or s.lines index 0 → IsOutcome (plain (status r, refused_text line r)) o → Runs (IsCalm s.setup s.events) (λ tale. answered_of tale s) (courses.Stopped o)
runs_stopped s u es index line fault r t o made are by other same at is = (
  none_of o.world is.world,
  λ tale. refuses tale s u t index line fault r o made
      (subst (λ (xs : List WorldEvent). played u (open_state u) xs ≡ plays.Refused index fault t) are
      (stops u (open_state u) es index fault t other by)) same at is,
)

-- a text that is a schedule

leaves_said : (s : Schedule) (input : List ℕ) (u : Setups) (t : State) → Ok s ≡ schedule_of input → Leaves (IsCalm s.setup s.events) u t → Leaves (SaysCalm input) u t
leaves_said s input u t is left = record { room = left.room; begins = λ calm. left.begins (calm s (sym is)) }

runs_said :
    {H : Type 0} (s : Schedule) (input : List ℕ) (c : Course H) → Ok s ≡ schedule_of input → Runs (IsCalm s.setup s.events) (λ tale. answered_of tale s) c →
    Runs (SaysCalm input) (λ tale. answered_of tale s) c
runs_said s input (courses.Through k) is p = (p.0, p.1, leaves_said s input (setups_of k) p.0 is p.2, p.3)
runs_said s input (courses.Stopped o) is p = p

read_course :
    {H : Type 0} (x : Result Schedule ScheduleFault) (input : List ℕ) (c : Course H) → x ≡ schedule_of input → Runs (SaysCalm input) (λ tale. tale_answer_at tale x) c →
    Runs (SaysCalm input) (λ tale. answered_behind tale input) c
unfolding answered_behind
read_course x input c is runs = subst (λ (z : Result Schedule ScheduleFault). Runs (SaysCalm input) (λ tale. tale_answer_at tale z) c) is runs

pub read_as :
    {H : Type 0} (s : Schedule) (input : List ℕ) (r : Result (Course H) memory.Memory) → ReadsSchedule (Ok s) input →
    IfOk r (λ course. Runs (IsCalm s.setup s.events) (λ tale. answered_of tale s) course) → IfOk r (λ course. Runs (SaysCalm input) (λ tale. answered_behind tale input) course)
read_as s input (Ok c) reads runs = read_course (Ok s) input c reads (runs_said s input c reads runs)
read_as s input (Err e) reads runs = tt

-- one that is none
pub misread_as :
    {H : Type 0} (fault : ScheduleFault) (input : List ℕ) (o : Outcome H) → ReadsSchedule (Err fault) input → fault ≢ reading.Memory →
    IsOutcome (misread fault) o → Runs (SaysCalm input) (λ tale. answered_behind tale input) (courses.Stopped o)
misread_as (reading.Form line) input o reads other is =
    read_course (Err (reading.Form line)) input (courses.Stopped o) reads (none_of o.world is.world, λ tale. is)
misread_as (reading.Events line) input o reads other is =
    read_course (Err (reading.Events line)) input (courses.Stopped o) reads (none_of o.world is.world, λ tale. is)
misread_as reading.Memory input o reads other is = absurd (other refl)

-- a course leads to the tale of its world
pub of_through :
    {H : Type 0} (calm : Type 0) (tale : Tale) (answer : Tale → Answer) (c : Course H) (k : Kept H) (r : Result (Outcome H) memory.Memory) → c ≡ courses.Through k →
    Runs calm answer c → IfOk r (λ o. (t : State) → StandsAt k t → IsOutcome (tale (setups_of k) t) o) → IfOk r (λ o. IsOutcome (answer tale) o)
of_through calm tale answer c k (Ok o) is runs told =
    let p : Runs calm answer (courses.Through k) = subst (λ (x : Course _). Runs calm answer x) is runs in
    subst (λ (a : Answer). IsOutcome a o) (sym (p.3 tale)) (told p.0 p.1)
of_through calm tale answer c k (Err e) is runs told = tt

-- or to its outcome
pub of_stopped :
    {H : Type 0} (calm : Type 0) (tale : Tale) (answer : Tale → Answer) (c : Course H) (o : Outcome H) → c ≡ courses.Stopped o → Runs calm answer c →
    IsOutcome (answer tale) o
of_stopped calm tale answer c o is runs =
    let p : Runs calm answer (courses.Stopped o) = subst (λ (x : Course _). Runs calm answer x) is runs in
    p.1 tale
