-- Each START that a core sends says a size of 1,500, and a call its timer.
use Rattle.std.proofs.Common.{◌≡◌, ℕ, suc, refl, Bool, true, false, cond, ◌&&◌, List, [], ◌∷◌, ◌++◌, map, Option, Some, None, nat_eq, nat_lt, find}
use Rattle.lat_model.specs.circuits.Events.{stray_stop}
use Rattle.lat_model.specs.sessions.Slots.{Slot}
use Rattle.lat_model.specs.sessions.Sessions.{Sessions, least_free}
use Rattle.lat_model.specs.sessions.Calls.{Connect}
use Rattle.lat_model.specs.Lists.{Each, updated, upwards}
use Rattle.lat_model.specs.numbers.Link.{Frame}
use Rattle.lat_model.specs.ends.End.{Sent, Run, CallStart, ReplyStart, Stopped}
use Rattle.lat_model.specs.circuits.World.{Wired}
use Rattle.lat_model.specs.circuits.Arriving.{living}
use Rattle.lat_model.specs.circuits.Ids.{ids, next_id}
use Rattle.lat_machines.specs.values.Names.{Name, same}
use Rattle.lat_machines.specs.values.Addresses.{everyone}
use Rattle.lat_machines.specs.values.Messages.{RunMessage, WideMessage, StartMessage, StopMessage, Head}
use Rattle.lat_machines.specs.values.Notices.{Kept, KeptAs, Unknown, Action, Ask, Cancel, Command, AnnouncementNotice, CommandNotice, StatusNotice, SolicitNotice, ResponseNotice}
use Rattle.lat_machines.specs.values.Frames.{Value, OfCircuit, OfNotice, Whole, Malformed, OutFrame}
use Rattle.lat_machines.specs.values.Timing.{agreed_by}
use Rattle.lat_machines.specs.values.Runs.{run_message}
use Rattle.lat_machines.specs.values.Keys.{Key}
use Rattle.lat_machines.specs.values.Events.{Numbers, Event, Hears, Time, Connects, Puts, Sets, Takes, Attends, Closes, Requests, Withdraws, Announces, Avoids, Readies, Halts}
use Rattle.lat_machines.specs.values.Answers.{Connected, Ignored, Busy, NoLine, SessionsFull, CircuitsFull, IdsOut, IdUsed, NotKept, KeptIs, Halted}
use Rattle.lat_machines.specs.server.Directory.{Best, best}
use Rattle.lat_machines.specs.server.Queue.{Cancels, Request}
use Rattle.lat_machines.specs.server.Records.{kept_for}
use Rattle.lat_machines.specs.cores.Acts.{Acted, call_at, local_at, time_at, end_at}
use Rattle.lat_machines.specs.cores.Hearing.{hear_run, hear_stop_at, hear_reply_at, StartFact, start_fact, start_at}
use Rattle.lat_machines.specs.cores.Cores.{Core, Side, Doing, rests, then_doing, acts, with_circuits, setup_of, at_moment, time_each, circuit_to, sent_frame, end_each, ends_all, told_stranger, is_stranger}
use Rattle.lat_machines.specs.cores.Lines.{has_session, line_exists}
use Rattle.lat_machines.specs.server.Server.{ServerConfig, Server, ServerStep, server_side, offer_on, tells, does, has_room, connects_on, opens, connects_to, solicits_for, connect_event, status_frame, key_of, hears_command, hears_value, server_event, finished_requests, Passing, grantable, grants_by, grant_line, grant_lines, server_step}
use Rattle.lat_machines.specs.node.Node.{NodeConfig, Node, NodeStep, Requested, node_side, request_of, requests_again, withdraws, solicited, names_for, node_step, makes_way, starts, turns_away, farewell}
use Rattle.lat_machines.specs.node.Node as N
use Rattle.lat_machines.proofs.events.Leads.{each_more}
use Rattle.lat_laws.specs.rounds.Fitting.{ValueFine}

abbrev pub FramesFine : ℕ → List OutFrame → Type 0
FramesFine t fs = Each (λ (f : OutFrame). ValueFine t f.value) fs

more_fine : (t : ℕ) (xs ys : List OutFrame) → FramesFine t xs → FramesFine t ys → FramesFine t (xs ++ ys)
more_fine t xs ys p q = each_more (λ (f : OutFrame). ValueFine t f.value) xs ys p q

run_fine : (t : ℕ) (bs w ask : Bool) (destination source : ℕ) (f : Frame (List Slot)) → ValueFine t (OfCircuit (run_message bs w ask destination source f))
run_fine t bs true ask destination source f = tt
run_fine t bs false ask destination source f = tt

sent_fine : (k : Side) (c : Core) (bs : Bool) (circuit to destination source : ℕ) (s : Sent) → ValueFine k.timing.timer (sent_frame k c (record { by_server = bs; circuit = circuit; to = to; destination = destination; source = source; sent = s })).value
sent_fine k c bs circuit to destination source (Run m ask f) = run_fine k.timing.timer bs (c.circuits.circuit_at circuit).end.wide ask destination source f
sent_fine k c bs circuit to destination source CallStart = (refl, λ q. refl)
sent_fine k c bs circuit to destination source ReplyStart = (refl, λ q. absurd (wrong q))
  where
    wrong : false ≡ true → ⊥
    wrong q = cc
sent_fine k c bs circuit to destination source (Stopped r) = tt

wires_fine : (k : Side) (c : Core) (vs : List Wired) → FramesFine k.timing.timer (map (sent_frame k c) vs)
wires_fine k c [] = tt
wires_fine k c (v ∷ vs) = (sent_fine k c v.by_server v.circuit v.to v.destination v.source v.sent, wires_fine k c vs)

acts_fine : (k : Side) (c : Core) (x : Acted) → FramesFine k.timing.timer (acts k c x).frames
acts_fine k c x = wires_fine k (with_circuits c x.table) x.sent

times_fine : (k : Side) (xs : List ℕ) (d : Doing) → FramesFine k.timing.timer d.frames → FramesFine k.timing.timer (time_each k xs d).frames
times_fine k [] d r = r
times_fine k (x ∷ xs) d r = times_fine k xs (then_doing d (λ c. acts k c (time_at k.server c.circuits x c.moment))) (more_fine k.timing.timer d.frames (acts k d.core (time_at k.server d.core.circuits x d.core.moment)).frames r (acts_fine k d.core (time_at k.server d.core.circuits x d.core.moment)))

ends_fine : (k : Side) (r : ℕ) (xs : List ℕ) (d : Doing) → FramesFine k.timing.timer d.frames → FramesFine k.timing.timer (end_each k r xs d).frames
ends_fine k r [] d h = h
ends_fine k r (x ∷ xs) d h = ends_fine k r xs (then_doing d (λ c. acts k c (end_at k.server c.circuits x r))) (more_fine k.timing.timer d.frames (acts k d.core (end_at k.server d.core.circuits x r)).frames h (acts_fine k d.core (end_at k.server d.core.circuits x r)))

-- with what a prompt end tells a stranger
told_fine : (k : Side) (prompt : Bool) (c : Core) (from : ℕ) (h : Head) (fs : List OutFrame) → FramesFine k.timing.timer fs → FramesFine k.timing.timer (fs ++ told_stranger k prompt c from h)
told_fine k prompt c from h fs p = more_fine k.timing.timer fs (told_stranger k prompt c from h) p (go (prompt && is_stranger c.circuits from h))
  where
    v : Wired
    v = stray_stop k.server from h.from h.to 5

    go : (b : Bool) → FramesFine k.timing.timer (cond b (map (sent_frame k c) (v ∷ [])) [])
    go true = wires_fine k c (v ∷ [])
    go false = tt

-- the server

opens_fine : (config : ServerConfig) (line address : ℕ) (node service : Name) (key : Option Key) (request : Option ℕ) (c : Core) → FramesFine config.timing.timer (opens config line address node service key request c).frames
opens_fine config line address node service key request c = go (nat_eq (circuit_to c address) 0)
  where
    named : Core
    named = record c { names = updated c.names (next_id c.circuits) node }

    made : Doing
    made = acts (server_side config) named (call_at (setup_of config.timing) named.circuits address named.moment)

    second : Doing → Doing
    second d = connects_on config line (circuit_to d.core address) service key request d.core

    seconds : (d : Doing) → FramesFine config.timing.timer (second d).frames
    seconds d =
        let x : ℕ = circuit_to d.core address in
        let e : Sessions = (d.core.circuits.circuit_at x).end.half.sessions in
        let c : Core = record (d.core) { seats = d.core.seats ++ record { line = line; circuit = x; id = least_free e; serial = suc e.made; key = key } ∷ [] } in
        acts_fine (server_side config) c (local_at true c.circuits x (Connect service request))

    go : (b : Bool) → FramesFine config.timing.timer ((cond b made (rests c)).frames ++ (second (cond b made (rests c))).frames)
    go true = more_fine config.timing.timer made.frames (second made).frames (acts_fine (server_side config) named (call_at (setup_of config.timing) named.circuits address named.moment)) (seconds made)
    go false = seconds (rests c)

steady_cond : (t : ℕ) (n : Bool) (x y : ServerStep) → FramesFine t x.frames → FramesFine t y.frames → FramesFine t (cond n x y).frames
steady_cond t true x y p q = p
steady_cond t false x y p q = q

connect_fine : (config : ServerConfig) (st : Server) (line : ℕ) (service : Name) → FramesFine config.timing.timer (connect_event config st line service).frames
connect_fine config st line service = go (line_exists config.lines line) (has_session st.core line) (best config.groups service st.core.moment st.heard)
  where
    t : ℕ
    t = config.timing.timer

    reaches : (b : Best) → FramesFine t (connects_to config st line service b).frames
    reaches b =
        let x : ℕ = circuit_to st.core b.from in
        let d : Doing = opens config line b.from b.node service None None st.core in
        let o : FramesFine t d.frames = opens_fine config line b.from b.node service None None st.core in
        steady_cond t (nat_eq x 0)
        (cond (nat_lt (living st.core.circuits) 8) (cond (nat_lt st.core.circuits.drawn 65535) (does st (Connected (next_id st.core.circuits) 1) d) (tells st IdsOut)) (tells st CircuitsFull))
        (cond (has_room st.core x) (does st (Connected x (least_free (st.core.circuits.circuit_at x).end.half.sessions)) d) (tells st SessionsFull))
        (steady_cond t (nat_lt (living st.core.circuits) 8) (cond (nat_lt st.core.circuits.drawn 65535) (does st (Connected (next_id st.core.circuits) 1) d) (tells st IdsOut)) (tells st CircuitsFull) (steady_cond t (nat_lt st.core.circuits.drawn 65535) (does st (Connected (next_id st.core.circuits) 1) d) (tells st IdsOut) o tt) tt)
        (steady_cond t (has_room st.core x) (does st (Connected x (least_free (st.core.circuits.circuit_at x).end.half.sessions)) d) (tells st SessionsFull) o tt)

    go : (n m : Bool) (o : Option Best) → FramesFine t (cond n (cond m (tells st Busy) (elim o [ None ↦ solicits_for config st service | Some b ↦ connects_to config st line service b ])) (tells st NoLine)).frames
    go false m o = tt
    go true true o = tt
    go true false None = (tt, tt)
    go true false (Some b) = reaches b

command_fine : (config : ServerConfig) (st : Server) (from : ℕ) (m : Command) (a : Action) → FramesFine config.timing.timer (hears_command config st from m a).frames
command_fine config st from m Ask = (tt, tt)
command_fine config st from m Cancel = go (kept_for (key_of m) (st.queue ++ Cancels (key_of m) ∷ []))
  where
    told : Option Kept → ServerStep
    told o = elim o [
      | None ↦ record { state = record st { queue = st.queue ++ Cancels (key_of m) ∷ [] }; answer = NotKept; frames = status_frame from m Unknown ∷ [] }
      | Some k ↦ record { state = record st { queue = st.queue ++ Cancels (key_of m) ∷ [] }; answer = KeptIs k; frames = status_frame from m (KeptAs k) ∷ [] }
    ]

    go : (o : Option Kept) → FramesFine config.timing.timer (told o).frames
    go None = (tt, tt)
    go (Some k) = (tt, tt)

value_fine : (config : ServerConfig) (st : Server) (from : ℕ) (v : Value) (k : Option Numbers) → FramesFine config.timing.timer (hears_value config st from v k).frames
value_fine config st from (OfCircuit (RunMessage h slots)) k = told_fine (server_side config) config.prompt st.core from h _ (acts_fine (server_side config) st.core (hear_run true st.core.circuits from false h slots k st.core.moment).act)
value_fine config st from (OfCircuit (WideMessage h slots)) k = told_fine (server_side config) config.prompt st.core from h _ (acts_fine (server_side config) st.core (hear_run true st.core.circuits from true h slots k st.core.moment).act)
value_fine config st from (OfCircuit (StartMessage true ask to source info)) k = tt
value_fine config st from (OfCircuit (StartMessage false ask to source info)) k = acts_fine (server_side config) st.core (hear_reply_at st.core.circuits from to source st.core.moment (agreed_by config.timing info)).act
value_fine config st from (OfCircuit (StopMessage master ask to source reason text)) k = acts_fine (server_side config) st.core (hear_stop_at true st.core.circuits from to source st.core.moment reason).act
value_fine config st from (OfNotice (AnnouncementNotice a)) k = tt
value_fine config st from (OfNotice (CommandNotice m)) k = command_fine config st from m m.action
value_fine config st from (OfNotice (ResponseNotice m)) k = tt
value_fine config st from (OfNotice (StatusNotice m)) k = tt
value_fine config st from (OfNotice (SolicitNotice m)) k = tt

event_fine : (config : ServerConfig) (st : Server) (e : Event) → FramesFine config.timing.timer (server_event config st e).frames
event_fine config st (Hears from (Malformed field at) k now) = tt
event_fine config st (Hears from (Whole v) k now) =
    let s : Server = record st { core = at_moment now st.core } in
    steady_cond config.timing.timer (nat_eq from everyone) (tells s Ignored) (hears_value config s from v k) tt (value_fine config s from v k)
event_fine config st (Time now) = times_fine (server_side config) (ids st.core.circuits) (rests (at_moment now st.core)) tt
event_fine config st (Connects line service) = steady_cond config.timing.timer st.halted (tells st Halted) (connect_event config st line service) tt (connect_fine config st line service)
event_fine config st (Puts line bytes) = tt
event_fine config st (Sets line setting) = tt
event_fine config st (Takes line n) = tt
event_fine config st (Attends line flag) = tt
event_fine config st (Closes line) = tt
event_fine config st (Requests to id service) = tt
event_fine config st (Withdraws id) = tt
event_fine config st Announces = tt
event_fine config st (Avoids line) = tt
event_fine config st (Readies line ready) = tt
event_fine config st Halts = ends_fine (server_side config) 3 (ids st.core.circuits) (rests st.core) tt

grants_fine : (config : ServerConfig) (line : ℕ) (o : Option Name) (g : Option Request) (p : Passing) → FramesFine config.timing.timer p.frames → FramesFine config.timing.timer (grants_by config line o g p).frames
grants_fine config line None g p r = r
grants_fine config line (Some service) None p r = r
grants_fine config line (Some service) (Some g) p r = more_fine config.timing.timer p.frames _ r (tt, opens_fine config line g.from g.key.node service (Some g.key) (Some g.key.request) p.state.core)

pass_fine : (config : ServerConfig) (lines : List ℕ) (p : Passing) → FramesFine config.timing.timer p.frames → FramesFine config.timing.timer (grant_lines config lines p).frames
pass_fine config [] p r = r
pass_fine config (line ∷ lines) p r = pass_fine config lines (grant_line config p line) (grants_fine config line (offer_on line config.offers) (grantable p.state line (offer_on line config.offers)) p r)

pub server_fine : (config : ServerConfig) (st : Server) (e : Event) → FramesFine config.timing.timer (server_step config st e).frames
server_fine config st e = more_fine config.timing.timer (server_event config st e).frames _ (event_fine config st e) (pass_fine config (upwards 0 config.lines) (record { state = finished_requests (server_event config st e).state; frames = [] }) tt)

-- the node

node_cond : (t : ℕ) (n : Bool) (x y : NodeStep) → FramesFine t x.frames → FramesFine t y.frames → FramesFine t (cond n x y).frames
node_cond t true x y p q = p
node_cond t false x y p q = q

-- a halted node says nothing
quiet_fine : (t : ℕ) (n : Bool) (fs : List OutFrame) → FramesFine t fs → FramesFine t (cond n [] fs)
quiet_fine t true fs p = tt
quiet_fine t false fs p = p

node_value_fine : (config : NodeConfig) (rates : List ℕ) (st : Node) (from : ℕ) (v : Value) (k : Option Numbers) → FramesFine config.timing.timer (N.hears_value config rates st from v k).frames
node_value_fine config rates st from (OfCircuit (RunMessage h slots)) k = told_fine (node_side config) config.prompt st.core from h _ (acts_fine (node_side config) st.core (hear_run false st.core.circuits from false h slots k st.core.moment).act)
node_value_fine config rates st from (OfCircuit (WideMessage h slots)) k = told_fine (node_side config) config.prompt st.core from h _ (acts_fine (node_side config) st.core (hear_run false st.core.circuits from true h slots k st.core.moment).act)
node_value_fine config rates st from (OfCircuit (StartMessage true ask to source info)) k =
    let m : Node = makes_way config st from source in
    let fact : StartFact = start_fact m.core.circuits from source in
    let c : Core = names_for fact info.name m.core in
    node_cond config.timing.timer st.halted (turns_away config st from source) (starts config m from source info) (tt, tt) (acts_fine (node_side config) c (start_at (setup_of config.timing) c.circuits from source c.moment (agreed_by config.timing info) fact))
node_value_fine config rates st from (OfCircuit (StartMessage false ask to source info)) k = tt
node_value_fine config rates st from (OfCircuit (StopMessage master ask to source reason text)) k = acts_fine (node_side config) st.core (hear_stop_at false st.core.circuits from to source st.core.moment reason).act
node_value_fine config rates st from (OfNotice (StatusNotice m)) k = tt
node_value_fine config rates st from (OfNotice (SolicitNotice m)) k = go (find (same m.service) config.services)
  where
    go : (o : Option Name) → FramesFine config.timing.timer (solicited config rates st from m.id o).frames
    go None = tt
    go (Some n) = quiet_fine config.timing.timer st.halted _ (tt, (tt, tt))
node_value_fine config rates st from (OfNotice (AnnouncementNotice a)) k = tt
node_value_fine config rates st from (OfNotice (CommandNotice m)) k = tt
node_value_fine config rates st from (OfNotice (ResponseNotice m)) k = tt

again_fine : (config : NodeConfig) (st : Node) (to id : ℕ) (service : Name) (o : Option Requested) → FramesFine config.timing.timer (requests_again config st to id service o).frames
again_fine config st to id service None = (tt, tt)
again_fine config st to id service (Some x) = node_cond config.timing.timer (nat_eq x.to to && same x.service service) _ (N.tells st IdUsed) (tt, tt) tt

withdraw_fine : (config : NodeConfig) (st : Node) (o : Option Requested) → FramesFine config.timing.timer (withdraws config st o).frames
withdraw_fine config st None = tt
withdraw_fine config st (Some x) = (tt, tt)

pub node_fine : (config : NodeConfig) (rates : List ℕ) (st : Node) (e : Event) → FramesFine config.timing.timer (node_step config rates st e).frames
node_fine config rates st (Hears from (Malformed field at) k now) = tt
node_fine config rates st (Hears from (Whole v) k now) =
    let s : Node = record st { core = at_moment now st.core } in
    node_cond config.timing.timer (nat_eq from everyone) (N.tells s Ignored) (N.hears_value config rates s from v k) tt (node_value_fine config rates s from v k)
node_fine config rates st (Time now) = times_fine (node_side config) (ids st.core.circuits) (rests (at_moment now st.core)) tt
node_fine config rates st (Connects line service) = tt
node_fine config rates st (Puts line bytes) = tt
node_fine config rates st (Sets line setting) = tt
node_fine config rates st (Takes line n) = tt
node_fine config rates st (Attends line flag) = tt
node_fine config rates st (Closes line) = tt
node_fine config rates st (Requests to id service) = again_fine config st to id service (request_of id st)
node_fine config rates st (Withdraws id) = withdraw_fine config st (request_of id st)
node_fine config rates st Announces = quiet_fine config.timing.timer st.halted _ (tt, tt)
node_fine config rates st (Avoids line) = tt
node_fine config rates st (Readies line ready) = tt
node_fine config rates st Halts = more_fine config.timing.timer (ends_all (node_side config) 3 st.core).frames (farewell config st.halted) (ends_fine (node_side config) 3 (ids st.core.circuits) (rests st.core) tt) (go st.halted)
  where
    go : (n : Bool) → FramesFine config.timing.timer (farewell config n)
    go true = tt
    go false = (tt, tt)
