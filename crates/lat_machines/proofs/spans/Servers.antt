-- What every event of a server keeps of spans.
use Rattle.std.proofs.Common.{◌≡◌, ℕ, ap, ap₂, Bool, true, false, cond, ◌&&◌, List, [], ◌∷◌, ◌++◌, Option, Some, None, nat_eq, nat_lt}
use Rattle.lat_model.specs.sessions.Slots.{Slot}
use Rattle.lat_model.specs.sessions.Sessions.{least_free}
use Rattle.lat_model.specs.sessions.Calls.{Connect}
use Rattle.lat_model.specs.Lists.{updated, upwards}
use Rattle.lat_model.specs.circuits.Arriving.{living}
use Rattle.lat_model.specs.circuits.Ids.{ids, next_id}
use Rattle.lat_machines.specs.values.Names.{Name}
use Rattle.lat_machines.specs.values.Addresses.{everyone}
use Rattle.lat_machines.specs.values.Messages.{RunMessage, WideMessage, StartMessage, StopMessage, Head}
use Rattle.lat_machines.specs.values.Notices.{Kept, KeptAs, Unknown, Action, Ask, Cancel, Command, AnnouncementNotice, CommandNotice, StatusNotice, SolicitNotice, ResponseNotice}
use Rattle.lat_machines.specs.values.Frames.{Value, OfCircuit, OfNotice, Whole, Malformed}
use Rattle.lat_machines.specs.values.Timing.{is_wide, agreed_by}
use Rattle.lat_machines.specs.values.Keys.{Key}
use Rattle.lat_machines.specs.values.Events.{Numbers, Event, Hears, Time, Connects, Puts, Sets, Takes, Attends, Closes, Requests, Withdraws, Announces, Avoids, Readies, Halts}
use Rattle.lat_machines.specs.values.Answers.{Connected, Ignored, Busy, NoLine, SessionsFull, CircuitsFull, IdsOut, NotKept, KeptIs, Halted}
use Rattle.lat_machines.specs.server.Directory.{Best, best}
use Rattle.lat_machines.specs.server.Queue.{Cancels, Request}
use Rattle.lat_machines.specs.server.Records.{kept_for}
use Rattle.lat_machines.specs.cores.Acts.{call_at, local_at}
use Rattle.lat_machines.specs.cores.Hearing.{hear_run, hear_stop_at, hear_reply_at}
use Rattle.lat_machines.specs.cores.Cores.{Core, Doing, rests, acts, setup_of, at_moment, circuit_to, told_stranger}
use Rattle.lat_machines.specs.cores.Lines.{has_session, line_exists}
use Rattle.lat_machines.specs.cores.LineCalls.{put_on, set_on, attend_on, take_on, close_on}
use Rattle.lat_machines.specs.server.Server.{ServerConfig, Server, ServerStep, server_side, offer_on, tells, does, has_room, connects_on, opens, connects_to, solicits_for, connect_event, status_frame, key_of, hears_command, hears_value, server_event, finished_requests, Passing, granting, grantable, grants_by, grant_line, grant_lines, server_step, hears_run, heard_at}
use Rattle.lat_machines.proofs.spans.Tables.{local_ok, call_ok, run_ok, stop_ok, reply_ok}
use Rattle.lat_machines.proofs.spans.Frames.{Facts, both, CircuitsOk, CoreOk, ReadOk, EventOk, TimingOk, acts_ok, core_none, core_then, times_ok, line_ok, put_ok, set_ok, attend_ok, take_ok, close_ok, ends_ok, stranger_ok}

abbrev StepOk : Facts → ServerStep → Type 0
StepOk p s = CoreOk true p s.state.core s.frames

step_cond : (p : Facts) (n : Bool) (s t : ServerStep) → StepOk p s → StepOk p t → StepOk p (cond n s t)
step_cond p true s t f g = f
step_cond p false s t f g = g

opens_ok : (p : Facts) (config : ServerConfig) (line address : ℕ) (node service : Name) (key : Option Key) (request : Option ℕ) (c : Core) → TimingOk true p config.timing → CircuitsOk true p c.circuits → CoreOk true p (opens config line address node service key request c).core (opens config line address node service key request c).frames
opens_ok p config line address node service key request c i r = go (nat_eq (circuit_to c address) 0)
  where
    named : Core
    named = record c { names = updated c.names (next_id c.circuits) node }

    made : Doing
    made = acts (server_side config) named (call_at (setup_of config.timing) named.circuits address named.moment)

    after : Doing → Doing
    after d = connects_on config line (circuit_to d.core address) service key request d.core

    all : Doing → Doing
    all d = record { core = (after d).core; frames = d.frames ++ (after d).frames }

    connected : (d : Doing) → CoreOk true p d.core d.frames → CoreOk true p (all d).core (all d).frames
    connected d h =
        let e : Core = record (d.core) { seats = (after d).core.seats } in
        core_then true p d.core (after d).core d.frames (after d).frames h (acts_ok true p config.timing config.name e (local_at true d.core.circuits (circuit_to d.core address) (Connect service request)) i (local_ok true p.other (both p) d.core.circuits (circuit_to d.core address) (Connect service request) h.table))

    go : (b : Bool) → CoreOk true p (all (cond b made (rests c))).core (all (cond b made (rests c))).frames
    go true = connected made (acts_ok true p config.timing config.name named (call_at (setup_of config.timing) c.circuits address c.moment) i (call_ok p.other (both p) (setup_of config.timing) c.circuits address c.moment r))
    go false = connected (rests c) (core_none true p c r)

connect_ok : (p : Facts) (config : ServerConfig) (st : Server) (line : ℕ) (service : Name) → TimingOk true p config.timing → CircuitsOk true p st.core.circuits → StepOk p (connect_event config st line service)
connect_ok p config st line service i r = go (line_exists config.lines line) (has_session st.core line) (best config.groups service st.core.moment st.heard)
  where
    none : CoreOk true p st.core []
    none = core_none true p st.core r

    reaches : (b : Best) → StepOk p (connects_to config st line service b)
    reaches b =
        let x : ℕ = circuit_to st.core b.from in
        let d : Doing = opens config line b.from b.node service None None st.core in
        let o : CoreOk true p d.core d.frames = opens_ok p config line b.from b.node service None None st.core i r in
        step_cond p (nat_eq x 0)
        (cond (nat_lt (living st.core.circuits) 8) (cond (nat_lt st.core.circuits.drawn 65535) (does st (Connected (next_id st.core.circuits) 1) d) (tells st IdsOut)) (tells st CircuitsFull))
        (cond (has_room st.core x) (does st (Connected x (least_free (st.core.circuits.circuit_at x).end.half.sessions)) d) (tells st SessionsFull))
        (step_cond p (nat_lt (living st.core.circuits) 8) (cond (nat_lt st.core.circuits.drawn 65535) (does st (Connected (next_id st.core.circuits) 1) d) (tells st IdsOut)) (tells st CircuitsFull) (step_cond p (nat_lt st.core.circuits.drawn 65535) (does st (Connected (next_id st.core.circuits) 1) d) (tells st IdsOut) o none) none)
        (step_cond p (has_room st.core x) (does st (Connected x (least_free (st.core.circuits.circuit_at x).end.half.sessions)) d) (tells st SessionsFull) o none)

    go : (n m : Bool) (o : Option Best) → StepOk p (cond n (cond m (tells st Busy) (elim o [ None ↦ solicits_for config st service | Some b ↦ connects_to config st line service b ])) (tells st NoLine))
    go false m o = none
    go true true o = none
    go true false None = record { table = r; frames = ((λ a. tt), tt) }
    go true false (Some b) = reaches b

command_ok : (p : Facts) (config : ServerConfig) (st : Server) (from : ℕ) (m : Command) (a : Action) → CircuitsOk true p st.core.circuits → StepOk p (hears_command config st from m a)
command_ok p config st from m Ask r = record { table = r; frames = ((λ a. tt), tt) }
command_ok p config st from m Cancel r = go (kept_for (key_of m) (st.queue ++ Cancels (key_of m) ∷ []))
  where
    told : Option Kept → ServerStep
    told o = elim o [
      | None ↦ record { state = record st { queue = st.queue ++ Cancels (key_of m) ∷ [] }; answer = NotKept; frames = status_frame from m Unknown ∷ [] }
      | Some k ↦ record { state = record st { queue = st.queue ++ Cancels (key_of m) ∷ [] }; answer = KeptIs k; frames = status_frame from m (KeptAs k) ∷ [] }
    ]

    go : (o : Option Kept) → StepOk p (told o)
    go None = record { table = r; frames = ((λ a. tt), tt) }
    go (Some k) = record { table = r; frames = ((λ a. tt), tt) }

-- the first reply of the other end says what both are
reply_says : (s n w i : Bool) → w ≡ s → i ≡ (s && n) → (w && i) ≡ (s && n)
reply_says true n w i q h = ap₂ (λ x y. x && y) q h
reply_says false n w i q h = ap (λ x. x && i) q

hears_run_ok : (p : Facts) (config : ServerConfig) (st : Server) (from : ℕ) (wide : Bool) (h : Head) (slots : List Slot) (k : Option Numbers) → TimingOk true p config.timing → CircuitsOk true p st.core.circuits → StepOk p (hears_run config st from wide h slots k)
hears_run_ok p config st from wide h slots k i r =
    let s : ServerStep = heard_at config st (hear_run true st.core.circuits from wide h slots k st.core.moment) in
    let o : StepOk p s = acts_ok true p config.timing config.name st.core (hear_run true st.core.circuits from wide h slots k st.core.moment).act i (run_ok true p.other (both p) st.core.circuits from wide h slots k st.core.moment r) in
    core_then true p s.state.core s.state.core s.frames (told_stranger (server_side config) config.prompt st.core from h) o (stranger_ok true p (server_side config) config.prompt st.core from h s.state.core o.table)

value_ok : (p : Facts) (config : ServerConfig) (st : Server) (from : ℕ) (v : Value) (k : Option Numbers) → TimingOk true p config.timing → CircuitsOk true p st.core.circuits → ReadOk true p from v → StepOk p (hears_value config st from v k)
value_ok p config st from (OfCircuit (RunMessage h slots)) k i r y = hears_run_ok p config st from false h slots k i r
value_ok p config st from (OfCircuit (WideMessage h slots)) k i r y = hears_run_ok p config st from true h slots k i r
value_ok p config st from (OfCircuit (StartMessage true ask to source info)) k i r y = core_none true p st.core r
value_ok p config st from (OfCircuit (StartMessage false ask to source info)) k i r y =
    acts_ok true p config.timing config.name st.core (hear_reply_at st.core.circuits from to source st.core.moment (agreed_by config.timing info)).act i
    (reply_ok p.other (both p) st.core.circuits from to source st.core.moment (agreed_by config.timing info) r (λ a. reply_says p.server_wide p.node_wide config.timing.wide (is_wide info.params) i (y a)))
value_ok p config st from (OfCircuit (StopMessage master ask to source reason text)) k i r y = acts_ok true p config.timing config.name st.core (hear_stop_at true st.core.circuits from to source st.core.moment reason).act i (stop_ok true p.other (both p) st.core.circuits from to source st.core.moment reason r)
value_ok p config st from (OfNotice (AnnouncementNotice a)) k i r y = core_none true p st.core r
value_ok p config st from (OfNotice (CommandNotice m)) k i r y = command_ok p config st from m m.action r
value_ok p config st from (OfNotice (ResponseNotice m)) k i r y = core_none true p st.core r
value_ok p config st from (OfNotice (StatusNotice m)) k i r y = core_none true p st.core r
value_ok p config st from (OfNotice (SolicitNotice m)) k i r y = core_none true p st.core r

event_ok : (p : Facts) (config : ServerConfig) (st : Server) (e : Event) → TimingOk true p config.timing → CircuitsOk true p st.core.circuits → EventOk true p e → StepOk p (server_event config st e)
event_ok p config st (Hears from (Malformed field at) k now) i r y = record { table = r; frames = tt }
event_ok p config st (Hears from (Whole v) k now) i r y =
    let s : Server = record st { core = at_moment now st.core } in
    step_cond p (nat_eq from everyone) (tells s Ignored) (hears_value config s from v k) (record { table = r; frames = tt }) (value_ok p config s from v k i r y)
event_ok p config st (Time now) i r y = times_ok true p config.timing config.name i (ids st.core.circuits) (rests (at_moment now st.core)) (record { table = r; frames = tt })
event_ok p config st (Connects line service) i r y = step_cond p st.halted (tells st Halted) (connect_event config st line service) (record { table = r; frames = tt }) (connect_ok p config st line service i r)
event_ok p config st (Puts line bytes) i r y = record { table = line_ok true p config.lines st.core line (λ s. put_on (server_side config) st.core s bytes) r (λ s. put_ok true p config.timing config.name st.core s bytes r); frames = tt }
event_ok p config st (Sets line setting) i r y = record { table = line_ok true p config.lines st.core line (λ s. set_on (server_side config) st.core s setting) r (λ s. set_ok true p config.timing config.name st.core s setting r); frames = tt }
event_ok p config st (Takes line n) i r y = record { table = line_ok true p config.lines st.core line (λ s. take_on (server_side config) st.core s n) r (λ s. take_ok true p config.timing config.name st.core s n r); frames = tt }
event_ok p config st (Attends line flag) i r y = record { table = line_ok true p config.lines st.core line (λ s. attend_on (server_side config) st.core s flag) r (λ s. attend_ok true p config.timing config.name st.core s flag r); frames = tt }
event_ok p config st (Closes line) i r y = record { table = line_ok true p config.lines st.core line (λ s. close_on (server_side config) st.core s) r (λ s. close_ok true p config.timing config.name st.core s r); frames = tt }
event_ok p config st (Requests to id service) i r y = record { table = r; frames = tt }
event_ok p config st (Withdraws id) i r y = record { table = r; frames = tt }
event_ok p config st Announces i r y = record { table = r; frames = tt }
event_ok p config st (Avoids line) i r y = record { table = r; frames = tt }
event_ok p config st (Readies line ready) i r y = record { table = r; frames = tt }
event_ok p config st Halts i r y = ends_ok true p config.timing config.name i 3 (ids st.core.circuits) (rests st.core) (record { table = r; frames = tt })

-- the grant pass

abbrev PassOk : Facts → Passing → Type 0
PassOk p x = CoreOk true p x.state.core x.frames

granting_ok : (p : Facts) (config : ServerConfig) (line : ℕ) (service : Name) (x : Passing) (g : Request) → TimingOk true p config.timing → PassOk p x → PassOk p (granting config line service x g)
granting_ok p config line service x g i r =
    let d : Doing = opens config line g.from g.key.node service (Some g.key) (Some g.key.request) x.state.core in
    let o : CoreOk true p d.core d.frames = opens_ok p config line g.from g.key.node service (Some g.key) (Some g.key.request) x.state.core i r.table in
    core_then true p x.state.core d.core x.frames _ r (record { table = o.table; frames = ((λ a. tt), o.frames) })

line_grants_ok : (p : Facts) (config : ServerConfig) (line : ℕ) (o : Option Name) (g : Option Request) (x : Passing) → TimingOk true p config.timing → PassOk p x → PassOk p (grants_by config line o g x)
line_grants_ok p config line None g x i r = r
line_grants_ok p config line (Some service) None x i r = r
line_grants_ok p config line (Some service) (Some g) x i r = granting_ok p config line service x g i r

pass_ok : (p : Facts) (config : ServerConfig) (lines : List ℕ) (x : Passing) → TimingOk true p config.timing → PassOk p x → PassOk p (grant_lines config lines x)
pass_ok p config [] x i r = r
pass_ok p config (line ∷ lines) x i r = pass_ok p config lines (grant_line config x line) i (line_grants_ok p config line (offer_on line config.offers) (grantable x.state line (offer_on line config.offers)) x i r)

pub server_span : (p : Facts) (config : ServerConfig) (st : Server) (e : Event) → TimingOk true p config.timing → CircuitsOk true p st.core.circuits → EventOk true p e → StepOk p (server_step config st e)
server_span p config st e i r y =
    let s : ServerStep = server_event config st e in
    let h : StepOk p s = event_ok p config st e i r y in
    let z : Passing = grant_lines config (upwards 0 config.lines) (record { state = finished_requests s.state; frames = [] }) in
    core_then true p s.state.core z.state.core s.frames z.frames h (pass_ok p config (upwards 0 config.lines) (record { state = finished_requests s.state; frames = [] }) i (record { table = h.table; frames = tt }))
