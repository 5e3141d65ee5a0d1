-- What every event of a node keeps of spans.
use Rattle.std.proofs.Common.{◌≡◌, ℕ, ◌+◌, ap₂, Bool, true, false, cond, ◌&&◌, List, [], ◌∷◌, Option, Some, None, nat_eq}
use Rattle.lat_machines.specs.cores.Acts.{stray_at}
use Rattle.std.specs.List.{find}
use Rattle.lat_model.specs.sessions.Session.{Session, waits}
use Rattle.lat_model.specs.sessions.Calls.{RejectAsk}
use Rattle.lat_model.specs.sessions.Calls as Calls
use Rattle.lat_model.specs.sessions.Slots.{Slot}
use Rattle.lat_model.specs.Lists.{upwards}
use Rattle.lat_model.specs.ends.End.{lives}
use Rattle.lat_model.specs.circuits.Ids.{ids}
use Rattle.lat_machines.specs.values.Names.{Name, same}
use Rattle.lat_machines.specs.values.Addresses.{everyone}
use Rattle.lat_machines.specs.values.Messages.{Head, StartInfo, RunMessage, WideMessage, StartMessage, StopMessage}
use Rattle.lat_machines.specs.values.Notices.{AnnouncementNotice, CommandNotice, StatusNotice, SolicitNotice, ResponseNotice}
use Rattle.lat_machines.specs.values.Frames.{Value, OfCircuit, OfNotice, Whole, Malformed}
use Rattle.lat_machines.specs.values.Timing.{is_wide, agreed_by}
use Rattle.lat_machines.specs.values.Events.{Numbers, Event, Hears, Time, Connects, Puts, Sets, Takes, Attends, Closes, Requests, Withdraws, Announces, Avoids, Readies, Halts}
use Rattle.lat_machines.specs.values.Answers.{Ignored, IdUsed}
use Rattle.lat_machines.specs.cores.Hearing.{HeardAct, names, hear_run, hear_stop_at, StartFact, Repeats, Makes, Refuses, start_fact, start_at, outlive}
use Rattle.lat_machines.specs.cores.Cores.{setup_of, rests, at_moment, Core, Doing, ends_all, told_stranger}
use Rattle.lat_machines.specs.cores.LineCalls.{put_on, set_on, attend_on, take_on, close_on}
use Rattle.lat_machines.specs.node.Node.{NodeConfig, Requested, Node, NodeStep, node_side, tells, request_of, Verdict, Accepts, Rejects, verdict, judged, asked_at, answers_one, answers_in, asked_on, answers_asked, heard_at, hears_run, names_for, hears_start, solicited, hears_value, requests_again, withdraws, node_step, halts, farewell, response, announcement, first_rate, rest_rates, turns_away, starts, makes_way}
use Rattle.lat_machines.proofs.spans.Tables.{ActOk, local_ok, run_ok, stop_ok, start_ok, stray_ok, outlive_ok}
use Rattle.lat_machines.proofs.spans.Frames.{Facts, both, CircuitsOk, CoreOk, ReadOk, EventOk, TimingOk, acts_ok, core_none, times_ok, line_ok, put_ok, set_ok, attend_ok, take_ok, close_ok, ends_ok, core_then, stranger_ok}

abbrev StepOk : Facts → NodeStep → Type 0
StepOk p s = CoreOk false p s.state.core s.frames

step_cond : (p : Facts) (n : Bool) (s t : NodeStep) → StepOk p s → StepOk p t → StepOk p (cond n s t)
step_cond p true s t f g = f
step_cond p false s t f g = g

-- answering

judged_ok : (p : Facts) (config : NodeConfig) (st : Node) (x id : ℕ) (request : Option ℕ) (v : Verdict) → CircuitsOk false p st.core.circuits → CircuitsOk false p (judged config st x id request v).core.circuits
judged_ok p config st x id request (Rejects reason) r = (local_ok false p.other (both p) st.core.circuits x (RejectAsk id reason) r).table
judged_ok p config st x id request (Accepts line) r = (local_ok false p.other (both p) st.core.circuits x (Calls.Answer id) r).table

answers_ok : (p : Facts) (config : NodeConfig) (x : ℕ) (ids : List ℕ) (st : Node) → CircuitsOk false p st.core.circuits → CircuitsOk false p (answers_in config x ids st).core.circuits
answers_ok p config x [] st r = r
answers_ok p config x (id ∷ ids) st r = answers_ok p config x ids (answers_one config x st id) (go (waits s))
  where
    s : Session
    s = asked_at st x id

    go : (b : Bool) → CircuitsOk false p (cond b (judged config st x id s.request (verdict config st s.service s.request)) st).core.circuits
    go true = judged_ok p config st x id s.request (verdict config st s.service s.request) r
    go false = r

asked_ok : (p : Facts) (config : NodeConfig) (x : ℕ) (st : Node) → CircuitsOk false p st.core.circuits → CircuitsOk false p (answers_asked config x st).core.circuits
asked_ok p config x st r = go (lives (st.core.circuits.circuit_at x).end)
  where
    left : Node
    left = record st { turned_away = st.turned_away + asked_on st x }

    go : (b : Bool) → CircuitsOk false p (cond b (answers_in config x (upwards 0 64) st) left).core.circuits
    go true = answers_ok p config x (upwards 0 64) st r
    go false = r

-- hearing

hears_run_ok : (p : Facts) (config : NodeConfig) (st : Node) (from : ℕ) (wide : Bool) (h : Head) (slots : List Slot) (k : Option Numbers) → TimingOk false p config.timing → CircuitsOk false p st.core.circuits → StepOk p (hears_run config st from wide h slots k)
hears_run_ok p config st from wide h slots k i r =
    let c : Core = (cond (names st.core.circuits from h.to h.from) (answers_asked config h.to s.state) s.state).core in
    let x : CoreOk false p c s.frames = go (names st.core.circuits from h.to h.from) in
    core_then false p c c s.frames (told_stranger (node_side config) config.prompt st.core from h) x (stranger_ok false p (node_side config) config.prompt st.core from h c x.table)
  where
    act : HeardAct
    act = hear_run false st.core.circuits from wide h slots k st.core.moment

    s : NodeStep
    s = heard_at config st act

    o : StepOk p s
    o = acts_ok false p config.timing config.name st.core act.act i (run_ok false p.other (both p) st.core.circuits from wide h slots k st.core.moment r)

    go : (b : Bool) → CoreOk false p (cond b (answers_asked config h.to s.state) s.state).core s.frames
    go true = record { table = asked_ok p config h.to s.state o.table; frames = o.frames }
    go false = o

started_ok : (p : Facts) (config : NodeConfig) (st : Node) (from source : ℕ) (info : StartInfo) (fact : StartFact) → TimingOk false p config.timing → ActOk false p.other (both p) (start_at (setup_of config.timing) st.core.circuits from source st.core.moment (agreed_by config.timing info) fact) → StepOk p (hears_start config st from source info fact)
started_ok p config st from source info (Makes k) i h = acts_ok false p config.timing config.name (names_for (Makes k) info.name st.core) (start_at (setup_of config.timing) st.core.circuits from source st.core.moment (agreed_by config.timing info) (Makes k)) i h
started_ok p config st from source info (Repeats k) i h = acts_ok false p config.timing config.name st.core (start_at (setup_of config.timing) st.core.circuits from source st.core.moment (agreed_by config.timing info) (Repeats k)) i h
started_ok p config st from source info Refuses i h = acts_ok false p config.timing config.name st.core (start_at (setup_of config.timing) st.core.circuits from source st.core.moment (agreed_by config.timing info) Refuses) i h

solicited_ok : (p : Facts) (config : NodeConfig) (rates : List ℕ) (st : Node) (from id : ℕ) (o : Option Name) → CircuitsOk false p st.core.circuits → StepOk p (solicited config rates st from id o)
solicited_ok p config rates st from id None r = core_none false p st.core r
solicited_ok p config rates st from id (Some service) r = go st.halted
  where
    go : (n : Bool) → CoreOk false p st.core (cond n [] (response config from id service (first_rate rates) ∷ announcement config (rest_rates rates) ∷ []))
    go true = record { table = r; frames = tt }
    go false = record { table = r; frames = ((λ a. tt), ((λ a. tt), tt)) }

announced_ok : (p : Facts) (config : NodeConfig) (rates : List ℕ) (st : Node) → CircuitsOk false p st.core.circuits → CoreOk false p st.core (cond st.halted [] (announcement config rates ∷ []))
announced_ok p config rates st r = go st.halted
  where
    go : (n : Bool) → CoreOk false p st.core (cond n [] (announcement config rates ∷ []))
    go true = record { table = r; frames = tt }
    go false = record { table = r; frames = ((λ a. tt), tt) }

halt_ok : (p : Facts) (config : NodeConfig) (st : Node) → TimingOk false p config.timing → CircuitsOk false p st.core.circuits → StepOk p (halts config st)
halt_ok p config st i r =
    let d : Doing = ends_all (node_side config) 3 st.core in
    let m : CoreOk false p d.core d.frames = ends_ok false p config.timing config.name i 3 (ids st.core.circuits) (rests st.core) (record { table = r; frames = tt }) in
    core_then false p d.core d.core d.frames (farewell config st.halted) m (go d.core m.table st.halted)
  where
    go : (c : Core) → CircuitsOk false p c.circuits → (n : Bool) → CoreOk false p c (farewell config n)
    go c t true = record { table = t; frames = tt }
    go c t false = record { table = t; frames = ((λ a. tt), tt) }

-- a START of the other end says what the server's configuration is
start_says : (s n w i : Bool) → w ≡ n → i ≡ s → (w && i) ≡ (s && n)
start_says true true w i q h = ap₂ (λ x y. x && y) q h
start_says true false w i q h = ap₂ (λ x y. x && y) q h
start_says false true w i q h = ap₂ (λ x y. x && y) q h
start_says false false w i q h = ap₂ (λ x y. x && y) q h

way_ok : (p : Facts) (config : NodeConfig) (st : Node) (from source : ℕ) → CircuitsOk false p st.core.circuits → CircuitsOk false p (makes_way config st from source).core.circuits
way_ok p config st from source r = go config.prompt
  where
    go : (n : Bool) → CircuitsOk false p (cond n (outlive from source (ids st.core.circuits) st.core.circuits) st.core.circuits)
    go true = outlive_ok p.other (both p) from source (ids st.core.circuits) st.core.circuits r
    go false = r

value_ok : (p : Facts) (config : NodeConfig) (rates : List ℕ) (st : Node) (from : ℕ) (v : Value) (k : Option Numbers) → TimingOk false p config.timing → CircuitsOk false p st.core.circuits → ReadOk false p from v → StepOk p (hears_value config rates st from v k)
value_ok p config rates st from (OfCircuit (RunMessage h slots)) k i r y = hears_run_ok p config st from false h slots k i r
value_ok p config rates st from (OfCircuit (WideMessage h slots)) k i r y = hears_run_ok p config st from true h slots k i r
value_ok p config rates st from (OfCircuit (StartMessage true ask to source info)) k i r y =
    step_cond p st.halted (turns_away config st from source) (starts config (makes_way config st from source) from source info)
    (acts_ok false p config.timing config.name st.core (stray_at false st.core.circuits from source 0 3) i (stray_ok false p.other (both p) st.core.circuits from source 0 3 r))
    (started_ok p config (makes_way config st from source) from source info (start_fact (makes_way config st from source).core.circuits from source) i
    (start_ok p.other (both p) (setup_of config.timing) (makes_way config st from source).core.circuits from source st.core.moment (agreed_by config.timing info) (way_ok p config st from source r) (λ a. start_says p.server_wide p.node_wide config.timing.wide (is_wide info.params) i (y a))))
value_ok p config rates st from (OfCircuit (StartMessage false ask to source info)) k i r y = core_none false p st.core r
value_ok p config rates st from (OfCircuit (StopMessage master ask to source reason text)) k i r y = acts_ok false p config.timing config.name st.core (hear_stop_at false st.core.circuits from to source st.core.moment reason).act i (stop_ok false p.other (both p) st.core.circuits from to source st.core.moment reason r)
value_ok p config rates st from (OfNotice (StatusNotice s)) k i r y = core_none false p st.core r
value_ok p config rates st from (OfNotice (SolicitNotice s)) k i r y = solicited_ok p config rates st from s.id (find (same s.service) config.services) r
value_ok p config rates st from (OfNotice (AnnouncementNotice a)) k i r y = core_none false p st.core r
value_ok p config rates st from (OfNotice (CommandNotice m)) k i r y = core_none false p st.core r
value_ok p config rates st from (OfNotice (ResponseNotice m)) k i r y = core_none false p st.core r

-- requests

again_ok : (p : Facts) (config : NodeConfig) (st : Node) (to id : ℕ) (service : Name) (o : Option Requested) → CircuitsOk false p st.core.circuits → StepOk p (requests_again config st to id service o)
again_ok p config st to id service None r = record { table = r; frames = ((λ a. tt), tt) }
again_ok p config st to id service (Some x) r = step_cond p (nat_eq x.to to && same x.service service) _ (tells st IdUsed) (record { table = r; frames = ((λ a. tt), tt) }) (core_none false p st.core r)

withdraw_ok : (p : Facts) (config : NodeConfig) (st : Node) (o : Option Requested) → CircuitsOk false p st.core.circuits → StepOk p (withdraws config st o)
withdraw_ok p config st None r = core_none false p st.core r
withdraw_ok p config st (Some x) r = record { table = r; frames = ((λ a. tt), tt) }

pub node_span : (p : Facts) (config : NodeConfig) (rates : List ℕ) (st : Node) (e : Event) → TimingOk false p config.timing → CircuitsOk false p st.core.circuits → EventOk false p e → StepOk p (node_step config rates st e)
node_span p config rates st (Hears from (Malformed field at) k now) i r y = record { table = r; frames = tt }
node_span p config rates st (Hears from (Whole v) k now) i r y =
    let s : Node = record st { core = at_moment now st.core } in
    step_cond p (nat_eq from everyone) (tells s Ignored) (hears_value config rates s from v k) (record { table = r; frames = tt }) (value_ok p config rates s from v k i r y)
node_span p config rates st (Time now) i r y = times_ok false p config.timing config.name i (ids st.core.circuits) (rests (at_moment now st.core)) (record { table = r; frames = tt })
node_span p config rates st (Connects line service) i r y = record { table = r; frames = tt }
node_span p config rates st (Puts line bytes) i r y = record { table = line_ok false p config.lines st.core line (λ s. put_on (node_side config) st.core s bytes) r (λ s. put_ok false p config.timing config.name st.core s bytes r); frames = tt }
node_span p config rates st (Sets line setting) i r y = record { table = line_ok false p config.lines st.core line (λ s. set_on (node_side config) st.core s setting) r (λ s. set_ok false p config.timing config.name st.core s setting r); frames = tt }
node_span p config rates st (Takes line n) i r y = record { table = line_ok false p config.lines st.core line (λ s. take_on (node_side config) st.core s n) r (λ s. take_ok false p config.timing config.name st.core s n r); frames = tt }
node_span p config rates st (Attends line flag) i r y = record { table = line_ok false p config.lines st.core line (λ s. attend_on (node_side config) st.core s flag) r (λ s. attend_ok false p config.timing config.name st.core s flag r); frames = tt }
node_span p config rates st (Closes line) i r y = record { table = line_ok false p config.lines st.core line (λ s. close_on (node_side config) st.core s) r (λ s. close_ok false p config.timing config.name st.core s r); frames = tt }
node_span p config rates st (Requests to id service) i r y = again_ok p config st to id service (request_of id st) r
node_span p config rates st (Withdraws id) i r y = withdraw_ok p config st (request_of id st) r
node_span p config rates st Announces i r y = announced_ok p config rates st r
node_span p config rates st (Avoids line) i r y = record { table = r; frames = tt }
node_span p config rates st (Readies line ready) i r y = record { table = r; frames = tt }
node_span p config rates st Halts i r y = halt_ok p config st i r
