-- What a node accepts: a start with a request only where none was accepted for it.
use Rattle.std.proofs.Common.{◌≡◌, ℕ, ◌+◌, refl, Bool, true, false, not, cond, ◌&&◌, List, [], ◌∷◌, Option, Some, None, nat_eq, find}
use Rattle.std.specs.List.{list_any, IsDistinct}
use Rattle.std.proofs.lemmas.Cmp.{nat_eq_equiv}
use Rattle.std.proofs.lemmas.Map.Keys.{IsDistinct-push}
use Rattle.lat_model.specs.sessions.Slots.{Slot}
use Rattle.lat_model.specs.sessions.Session.{Session, waits}
use Rattle.lat_model.specs.Lists.{upwards}
use Rattle.lat_model.specs.ends.End.{lives}
use Rattle.lat_machines.specs.values.Names.{Name, same}
use Rattle.lat_machines.specs.values.Addresses.{everyone}
use Rattle.lat_machines.specs.values.Messages.{Head, RunMessage, WideMessage, StartMessage, StopMessage}
use Rattle.lat_machines.specs.values.Notices.{AnnouncementNotice, CommandNotice, StatusNotice, SolicitNotice, ResponseNotice}
use Rattle.lat_machines.specs.values.Frames.{Value, OfCircuit, OfNotice, Whole, Malformed}
use Rattle.lat_machines.specs.values.Events.{Numbers, Event, Hears, Time, Connects, Puts, Sets, Takes, Attends, Closes, Requests, Withdraws, Announces, Avoids, Readies, Halts}
use Rattle.lat_machines.specs.values.Answers.{Ignored, IdUsed}
use Rattle.lat_machines.specs.cores.Hearing.{names, hear_run}
use Rattle.lat_machines.specs.cores.Cores.{at_moment}
use Rattle.lat_machines.specs.node.Node.{NodeConfig, Node, NodeStep, Requested, tells, open_node, request_of, Verdict, Accepts, Rejects, on_free_line, free_line, was_requested, verdict, judged, asked_at, answers_one, answers_in, asked_on, answers_asked, heard_at, hears_run, hears_value, solicited, requests_again, withdraws, node_step, turns_away, starts, makes_way}
use Rattle.lat_machines.specs.world.Histories.{RatedEvent, node_run}
use Rattle.lat_laws.specs.habits.Accepted.{AcceptedOnce}

abbrev Once : Node → Type 0
Once st = IsDistinct nat_eq st.accepted

node_cond : (n : Bool) (s t : NodeStep) → Once s.state → Once t.state → Once (cond n s t).state
node_cond true s t p q = p
node_cond false s t p q = q

-- a start is accepted for a request for which none was
accepts_new : (config : NodeConfig) (st : Node) (service : Name) (id line : ℕ) → verdict config st service (Some id) ≡ Accepts line → list_any (nat_eq id) st.accepted ≡ false
accepts_new config st service id line = go (was_requested service (request_of id st)) (list_any (nat_eq id) st.accepted)
  where
    given : Bool → Bool → Verdict
    given a b = cond (a && not b) (on_free_line (free_line config st.core)) (Rejects 5)

    wrong : Rejects 5 ≡ Accepts line → ⊥
    wrong q = cc

    go : (a b : Bool) → given a b ≡ Accepts line → b ≡ false
    go true true q = absurd (wrong q)
    go true false q = refl
    go false b q = absurd (wrong q)

judged_once : (config : NodeConfig) (st : Node) (x id : ℕ) (service : Name) (request : Option ℕ) → Once st → Once (judged config st x id request (verdict config st service request))
judged_once config st x id service request h = go request (verdict config st service request) refl
  where
    go : (o : Option ℕ) (v : Verdict) → verdict config st service o ≡ v → Once (judged config st x id o v)
    go o (Rejects n) q = h
    go None (Accepts line) q = h
    go (Some n) (Accepts line) q = IsDistinct-push nat_eq_equiv st.accepted n h (accepts_new config st service n line q)

answers_once : (config : NodeConfig) (x : ℕ) (ids : List ℕ) (st : Node) → Once st → Once (answers_in config x ids st)
answers_once config x [] st h = h
answers_once config x (id ∷ ids) st h = answers_once config x ids (answers_one config x st id) (go (waits s))
  where
    s : Session
    s = asked_at st x id

    go : (b : Bool) → Once (cond b (judged config st x id s.request (verdict config st s.service s.request)) st)
    go true = judged_once config st x id s.service s.request h
    go false = h

asked_once : (config : NodeConfig) (x : ℕ) (st : Node) → Once st → Once (answers_asked config x st)
asked_once config x st h = go (lives (st.core.circuits.circuit_at x).end)
  where
    go : (b : Bool) → Once (cond b (answers_in config x (upwards 0 64) st) (record st { turned_away = st.turned_away + asked_on st x }))
    go true = answers_once config x (upwards 0 64) st h
    go false = h

run_once : (config : NodeConfig) (st : Node) (from : ℕ) (wide : Bool) (m : Head) (slots : List Slot) (k : Option Numbers) → Once st → Once (hears_run config st from wide m slots k).state
run_once config st from wide m slots k h = go (names st.core.circuits from m.to m.from)
  where
    s : Node
    s = (heard_at config st (hear_run false st.core.circuits from wide m slots k st.core.moment)).state

    go : (b : Bool) → Once (cond b (answers_asked config m.to s) s)
    go true = asked_once config m.to s h
    go false = h

value_once : (config : NodeConfig) (rates : List ℕ) (st : Node) (from : ℕ) (v : Value) (k : Option Numbers) → Once st → Once (hears_value config rates st from v k).state
value_once config rates st from (OfCircuit (RunMessage m slots)) k h = run_once config st from false m slots k h
value_once config rates st from (OfCircuit (WideMessage m slots)) k h = run_once config st from true m slots k h
value_once config rates st from (OfCircuit (StartMessage true ask to source info)) k h = node_cond st.halted (turns_away config st from source) (starts config (makes_way config st from source) from source info) h h
value_once config rates st from (OfCircuit (StartMessage false ask to source info)) k h = h
value_once config rates st from (OfCircuit (StopMessage master ask to source reason text)) k h = h
value_once config rates st from (OfNotice (StatusNotice m)) k h = h
value_once config rates st from (OfNotice (SolicitNotice m)) k h = go (find (same m.service) config.services)
  where
    go : (o : Option Name) → Once (solicited config rates st from m.id o).state
    go None = h
    go (Some n) = h
value_once config rates st from (OfNotice (AnnouncementNotice a)) k h = h
value_once config rates st from (OfNotice (CommandNotice m)) k h = h
value_once config rates st from (OfNotice (ResponseNotice m)) k h = h

step_once : (config : NodeConfig) (rates : List ℕ) (st : Node) (e : Event) → Once st → Once (node_step config rates st e).state
step_once config rates st (Hears from (Malformed field at) k now) h = h
step_once config rates st (Hears from (Whole v) k now) h =
    let t : Node = record st { core = at_moment now st.core } in
    node_cond (nat_eq from everyone) (tells t Ignored) (hears_value config rates t from v k) h (value_once config rates t from v k h)
step_once config rates st (Time now) h = h
step_once config rates st (Connects line service) h = h
step_once config rates st (Puts line bytes) h = h
step_once config rates st (Sets line setting) h = h
step_once config rates st (Takes line n) h = h
step_once config rates st (Attends line flag) h = h
step_once config rates st (Closes line) h = h
step_once config rates st (Requests to id service) h = go (request_of id st)
  where
    go : (o : Option Requested) → Once (requests_again config st to id service o).state
    go None = h
    go (Some r) = node_cond (nat_eq r.to to && same r.service service) _ (tells st IdUsed) h h
step_once config rates st (Withdraws id) h = go (request_of id st)
  where
    go : (o : Option Requested) → Once (withdraws config st o).state
    go None = h
    go (Some r) = h
step_once config rates st Announces h = h
step_once config rates st (Avoids line) h = h
step_once config rates st (Readies line ready) h = h
step_once config rates st Halts h = h

once_on : (config : NodeConfig) (es : List RatedEvent) (st : Node) → Once st → Once (node_run config es st)
once_on config [] st h = h
once_on config (e ∷ es) st h = once_on config es (node_step config e.rates st e.event).state (step_once config e.rates st e.event h)

none_accepted : IsDistinct nat_eq []
unfolding IsDistinct
none_accepted = tt

pub accepted_once : AcceptedOnce
accepted_once config es = once_on config es (open_node config) none_accepted
