-- A node is halted by nothing but a Halt.
use Rattle.std.proofs.Common.{◌≡◌, ℕ, ◌+◌, ◌∙◌, refl, Bool, true, false, cond, ◌&&◌, List, [], ◌∷◌, Option, Some, None, nat_eq, find}
use Rattle.lat_model.specs.sessions.Slots.{Slot}
use Rattle.lat_model.specs.sessions.Session.{Session, waits}
use Rattle.lat_model.specs.Lists.{upwards}
use Rattle.lat_model.specs.ends.End.{lives}
use Rattle.lat_machines.specs.values.Names.{Name, same}
use Rattle.lat_machines.specs.values.Addresses.{everyone}
use Rattle.lat_machines.specs.values.Messages.{Head, RunMessage, WideMessage, StartMessage, StopMessage}
use Rattle.lat_machines.specs.values.Notices.{Notice, AnnouncementNotice, CommandNotice, StatusNotice, SolicitNotice, ResponseNotice}
use Rattle.lat_machines.specs.values.Frames.{Value, OfCircuit, OfNotice, Whole, Malformed}
use Rattle.lat_machines.specs.values.Events.{Numbers, Event, Hears, Time, Connects, Puts, Sets, Takes, Attends, Closes, Requests, Withdraws, Announces, Avoids, Readies, Halts}
use Rattle.lat_machines.specs.values.Answers.{Ignored, IdUsed}
use Rattle.lat_machines.specs.cores.Cores.{at_moment}
use Rattle.lat_machines.specs.cores.Hearing.{names, hear_run}
use Rattle.lat_machines.specs.node.Node.{NodeConfig, Node, NodeStep, Requested, request_of, Verdict, Accepts, Rejects, verdict, judged, asked_at, answers_one, answers_in, asked_on, answers_asked, requests_again, withdraws, solicited, hears_run, hears_notice, hears_value, starts, makes_way, turns_away, tells, heard_at, node_step}
use Rattle.lat_machines.specs.world.Machines.{Setups, Machines, tell}
use Rattle.lat_laws.specs.rounds.Calm.{CalmEvent}

abbrev Same : Node → Node → Type 0
Same st s = s.halted ≡ st.halted

step_cond : (st : Node) (b : Bool) (s t : NodeStep) → Same st s.state → Same st t.state → Same st (cond b s t).state
step_cond st true s t p q = p
step_cond st false s t p q = q

judged_same : (config : NodeConfig) (st : Node) (x id : ℕ) (request : Option ℕ) (v : Verdict) → Same st (judged config st x id request v)
judged_same config st x id request (Rejects reason) = refl
judged_same config st x id request (Accepts line) = refl

one_same : (config : NodeConfig) (x : ℕ) (st : Node) (id : ℕ) → Same st (answers_one config x st id)
one_same config x st id = go (waits s)
  where
    s : Session
    s = asked_at st x id

    go : (b : Bool) → Same st (cond b (judged config st x id s.request (verdict config st s.service s.request)) st)
    go true = judged_same config st x id s.request (verdict config st s.service s.request)
    go false = refl

all_same : (config : NodeConfig) (x : ℕ) (ids : List ℕ) (st : Node) → Same st (answers_in config x ids st)
all_same config x [] st = refl
all_same config x (id ∷ ids) st = all_same config x ids (answers_one config x st id) ∙ one_same config x st id

asked_same : (config : NodeConfig) (x : ℕ) (st : Node) → Same st (answers_asked config x st)
asked_same config x st = go (lives (st.core.circuits.circuit_at x).end)
  where
    go : (b : Bool) → Same st (cond b (answers_in config x (upwards 0 64) st) (record st { turned_away = st.turned_away + asked_on st x }))
    go true = all_same config x (upwards 0 64) st
    go false = refl

run_same : (config : NodeConfig) (st : Node) (from : ℕ) (wide : Bool) (h : Head) (slots : List Slot) (k : Option Numbers) → Same st (hears_run config st from wide h slots k).state
run_same config st from wide h slots k = go (names st.core.circuits from h.to h.from)
  where
    s : NodeStep
    s = heard_at config st (hear_run false st.core.circuits from wide h slots k st.core.moment)

    go : (b : Bool) → Same st (cond b (answers_asked config h.to s.state) s.state)
    go true = asked_same config h.to s.state
    go false = refl

notice_same : (config : NodeConfig) (rates : List ℕ) (st : Node) (from : ℕ) (n : Notice) → Same st (hears_notice config rates st from n).state
notice_same config rates st from (StatusNotice m) = refl
notice_same config rates st from (SolicitNotice m) = go (find (same m.service) config.services)
  where
    go : (o : Option Name) → Same st (solicited config rates st from m.id o).state
    go None = refl
    go (Some x) = refl
notice_same config rates st from (AnnouncementNotice a) = refl
notice_same config rates st from (CommandNotice m) = refl
notice_same config rates st from (ResponseNotice r) = refl

value_same : (config : NodeConfig) (rates : List ℕ) (st : Node) (from : ℕ) (v : Value) (k : Option Numbers) → Same st (hears_value config rates st from v k).state
value_same config rates st from (OfCircuit (RunMessage h slots)) k = run_same config st from false h slots k
value_same config rates st from (OfCircuit (WideMessage h slots)) k = run_same config st from true h slots k
value_same config rates st from (OfCircuit (StartMessage true ask to source info)) k = step_cond st st.halted (turns_away config st from source) (starts config (makes_way config st from source) from source info) refl refl
value_same config rates st from (OfCircuit (StartMessage false ask to source info)) k = refl
value_same config rates st from (OfCircuit (StopMessage master ask to source reason text)) k = refl
value_same config rates st from (OfNotice n) k = notice_same config rates st from n

again_same : (config : NodeConfig) (st : Node) (to id : ℕ) (service : Name) (o : Option Requested) → Same st (requests_again config st to id service o).state
again_same config st to id service None = refl
again_same config st to id service (Some r) = step_cond st (nat_eq r.to to && same r.service service) _ (tells st IdUsed) refl refl

withdraw_same : (config : NodeConfig) (st : Node) (o : Option Requested) → Same st (withdraws config st o).state
withdraw_same config st None = refl
withdraw_same config st (Some r) = refl

halted_same : (config : NodeConfig) (rates : List ℕ) (st : Node) (e : Event) → CalmEvent e → Same st (node_step config rates st e).state
halted_same config rates st (Hears from (Malformed field at) k now) c = refl
halted_same config rates st (Hears from (Whole v) k now) c =
    let s : Node = record st { core = at_moment now st.core } in
    step_cond st (nat_eq from everyone) (tells s Ignored) (hears_value config rates s from v k) refl (value_same config rates s from v k)
halted_same config rates st (Time now) c = refl
halted_same config rates st (Connects line service) c = refl
halted_same config rates st (Puts line bytes) c = refl
halted_same config rates st (Sets line setting) c = refl
halted_same config rates st (Takes line n) c = refl
halted_same config rates st (Attends line flag) c = refl
halted_same config rates st (Closes line) c = refl
halted_same config rates st (Requests to id service) c = again_same config st to id service (request_of id st)
halted_same config rates st (Withdraws id) c = withdraw_same config st (request_of id st)
halted_same config rates st Announces c = refl
halted_same config rates st (Avoids line) c = refl
halted_same config rates st (Readies line ready) c = refl
halted_same config rates st Halts c = absurd c

-- the node of these machines is halted no more than it was
pub tell_awake : (u : Setups) (m : Machines) (b : Bool) (e : Event) (rates : List ℕ) → CalmEvent e → m.node.halted ≡ false → (tell u m b e rates).node.halted ≡ false
tell_awake u m true e rates c h = h
tell_awake u m false e rates c h = halted_same u.node rates m.node e c ∙ h
