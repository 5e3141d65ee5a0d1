-- Each event of a core keeps its seats.
use Rattle.std.proofs.Common.{◌≡◌, ℕ, ◌<◌, sym, ap, ◌∙◌, refl, subst, arith, Bool, true, false, not, cond, ◌&&◌, List, [], ◌∷◌, ◌++◌, Option, Some, None, nat_eq, nat_lt, slice_get, find}
use Rattle.std.proofs.lemmas.Bool.{true≢false, false≢true}
use Rattle.lat_model.specs.sessions.Slots.{Slot}
use Rattle.lat_model.specs.sessions.Session.{put_open, take_open}
use Rattle.lat_model.specs.sessions.Sessions.{least_free}
use Rattle.lat_model.specs.sessions.Calls.{Call, Put, Set, Attend, Take, Close}
use Rattle.lat_model.specs.Lists.{upwards, Each}
use Rattle.lat_model.specs.circuits.World.{Table}
use Rattle.lat_model.specs.circuits.Arriving.{living, slave_of}
use Rattle.lat_model.specs.circuits.Ids.{ids, next_id}
use Rattle.lat_machines.specs.values.Names.{Name, same}
use Rattle.lat_machines.specs.values.Addresses.{everyone}
use Rattle.lat_machines.specs.values.Messages.{Head, StartInfo, RunMessage, WideMessage, StartMessage, StopMessage}
use Rattle.lat_machines.specs.values.Notices.{Kept, KeptAs, Unknown, Action, Ask, Cancel, Command, AnnouncementNotice, CommandNotice, StatusNotice, SolicitNotice, ResponseNotice}
use Rattle.lat_machines.specs.values.Frames.{Value, OfCircuit, OfNotice, Whole, Malformed}
use Rattle.lat_machines.specs.values.Timing.{agreed_by}
use Rattle.lat_machines.specs.values.Events.{Numbers, Event, Hears, Time, Connects, Puts, Sets, Takes, Attends, Closes, Requests, Withdraws, Announces, is_heard, Avoids, Readies, Halts}
use Rattle.lat_machines.specs.values.Answers.{Answer, Connected, Ignored, Closed, Busy, NoLine, SessionsFull, CircuitsFull, IdsOut, IdUsed, NotKept, KeptIs, Halted}
use Rattle.lat_machines.specs.server.Directory.{Best, best}
use Rattle.lat_machines.specs.server.Queue.{Cancels, Request, next_request}
use Rattle.lat_machines.specs.server.Records.{kept_for}
use Rattle.lat_machines.specs.cores.Acts.{Acted, time_at, end_at}
use Rattle.lat_machines.specs.cores.Hearing.{HeardAct, names, hear_run, hear_stop_at, hear_reply_at, Makes, Repeats, Refuses, start_fact, outlive}
use Rattle.lat_machines.specs.cores.Cores.{Seat, Core, Side, Doing, rests, then_doing, acts, setup_of, at_moment, time_each, circuit_to, end_each, with_circuits}
use Rattle.lat_machines.specs.cores.Lines.{session_of, seat_at, has_session, line_exists}
use Rattle.lat_machines.specs.cores.LineCalls.{Said, says, calls_on, put_on, set_on, attend_on, take_on, close_on, on_line}
use Rattle.lat_machines.specs.server.Server.{ServerConfig, Server, ServerStep, server_side, offer_on, tells, does, has_room, may_call, can_open, opens, connects_to, solicits_for, connect_event, status_frame, key_of, hears_command, hears_value, server_event, finished_requests, Passing, fitting, grantable, grants_by, grant_line, grant_lines, server_step}
use Rattle.lat_machines.specs.node.Node.{NodeConfig, Node, NodeStep, Requested, node_side, open_node, request_of, answers_asked, requests_again, withdraws, solicited, hears_run, hears_start, node_step, makes_way, starts, turns_away}
use Rattle.lat_machines.specs.world.Machines.{Setups, Posted, Machines, Move, Does, HearsFrame, HearsForeign, tell, is_for_other, heard_as, counted, marked_delivered, comes, is_own, happens, run, open_machines}
use Rattle.lat_machines.proofs.queue.Legal.{grantable_ready}
use Rattle.lat_laws.specs.rounds.Seated.{LaterTable, Seated, BothSeated}
use Rattle.lat_laws.proofs.rounds.ready.Laters.{accepts_none}
use Rattle.lat_laws.proofs.rounds.ready.Tables.{table_same, local_later, time_at_later, run_at_later, stop_at_later, reply_at_later, make_later, again_at_later, end_at_later, outlive_later}
use Rattle.lat_laws.proofs.rounds.ready.Seats.{seated_later}
use Rattle.lat_laws.proofs.rounds.ready.Opens.{opens_seated, answers_seated, lines_exist}
use Rattle.lat_machines.specs.node.Node as N

-- what both cores do

table_seated : (m : Bool) (lines : ℕ) (c d : Core) → d.seats ≡ c.seats → d.circuits ≡ c.circuits → Seated m lines c → Seated m lines d
table_seated m lines c d q r h = seated_later m lines c d q (subst (λ (t : Table). LaterTable m c.circuits t) (sym r) (table_same m c.circuits)) h

acts_seated : (m : Bool) (lines : ℕ) (k : Side) (c : Core) (x : Acted) → LaterTable m c.circuits x.table → Seated m lines c → Seated m lines (acts k c x).core
acts_seated m lines k c x l h = seated_later m lines c (acts k c x).core refl l h

said_cond : (m : Bool) (lines : ℕ) (n : Bool) (a b : Said) → Seated m lines a.core → Seated m lines b.core → Seated m lines (cond n a b).core
said_cond m lines true a b p q = p
said_cond m lines false a b p q = q

line_seated : (m : Bool) (lines : ℕ) (c : Core) (line : ℕ) (f : Seat → Said) → Seated m lines c → ((s : Seat) → Seated m lines (f s).core) → Seated m lines (on_line lines c line f).core
line_seated m lines c line f r p = said_cond m lines (line_exists lines line) (cond (has_session c line) (f (seat_at c line)) (says c Closed)) (says c NoLine) (said_cond m lines (has_session c line) (f (seat_at c line)) (says c Closed) (p (seat_at c line)) r) r

-- a call that a session may refuse
call_if : (m : Bool) (lines : ℕ) (k : Side) (c : Core) (s : Seat) (n : Bool) (x : Call) (a b : Answer) → accepts_none x ≡ true → Seated m lines c → Seated m lines (cond n (says (calls_on k c s x) a) (says c b)).core
call_if m lines k c s n x a b h r = said_cond m lines n (says (calls_on k c s x) a) (says c b) (seated_later m lines c (calls_on k c s x) refl (local_later m k.server c.circuits s.circuit x h) r) r

pub put_seated : (m : Bool) (lines : ℕ) (k : Side) (c : Core) (line : ℕ) (bytes : List ℕ) → Seated m lines c → Seated m lines (on_line lines c line (λ s. put_on k c s bytes)).core
put_seated m lines k c line bytes r = line_seated m lines c line (λ s. put_on k c s bytes) r (λ s. call_if m lines k c s (put_open (session_of c s)) (Put s.id bytes) _ Closed refl r)

pub set_seated : (m : Bool) (lines : ℕ) (k : Side) (c : Core) (line : ℕ) (setting : List ℕ) → Seated m lines c → Seated m lines (on_line lines c line (λ s. set_on k c s setting)).core
set_seated m lines k c line setting r = line_seated m lines c line (λ s. set_on k c s setting) r (λ s. said_cond m lines (put_open (session_of c s)) _ (says c Closed) (call_if m lines k c s _ (Set s.id setting) _ _ refl r) r)

pub take_seated : (m : Bool) (lines : ℕ) (k : Side) (c : Core) (line n : ℕ) → Seated m lines c → Seated m lines (on_line lines c line (λ s. take_on k c s n)).core
take_seated m lines k c line n r = line_seated m lines c line (λ s. take_on k c s n) r (λ s. call_if m lines k c s (take_open (session_of c s)) (Take s.id n) _ Closed refl r)

pub attend_seated : (m : Bool) (lines : ℕ) (k : Side) (c : Core) (line flag : ℕ) → Seated m lines c → Seated m lines (on_line lines c line (λ s. attend_on k c s flag)).core
attend_seated m lines k c line flag r = line_seated m lines c line (λ s. attend_on k c s flag) r (λ s. call_if m lines k c s (put_open (session_of c s)) (Attend s.id flag) _ Closed refl r)

pub close_seated : (m : Bool) (lines : ℕ) (k : Side) (c : Core) (line : ℕ) → Seated m lines c → Seated m lines (on_line lines c line (λ s. close_on k c s)).core
close_seated m lines k c line r = line_seated m lines c line (λ s. close_on k c s) r (λ s. call_if m lines k c s (take_open (session_of c s)) (Close s.id) _ Closed refl r)

times_seated : (m : Bool) (lines : ℕ) (k : Side) (xs : List ℕ) (d : Doing) → Seated m lines d.core → Seated m lines (time_each k xs d).core
times_seated m lines k [] d r = r
times_seated m lines k (x ∷ xs) d r = times_seated m lines k xs (then_doing d (λ c. acts k c (time_at k.server c.circuits x c.moment))) (acts_seated m lines k d.core (time_at k.server d.core.circuits x d.core.moment) (time_at_later m k.server d.core.circuits x d.core.moment) r)

ends_seated : (m : Bool) (lines : ℕ) (k : Side) (r : ℕ) (xs : List ℕ) (d : Doing) → Seated m lines d.core → Seated m lines (end_each k r xs d).core
ends_seated m lines k r [] d h = h
ends_seated m lines k r (x ∷ xs) d h = ends_seated m lines k r xs (then_doing d (λ c. acts k c (end_at k.server c.circuits x r))) (acts_seated m lines k d.core (end_at k.server d.core.circuits x r) (end_at_later m k.server d.core.circuits x r) h)

-- the server

steady_cond : (lines : ℕ) (n : Bool) (s t : ServerStep) → (n ≡ true → Seated true lines s.state.core) → (n ≡ false → Seated true lines t.state.core) → Seated true lines (cond n s t).state.core
steady_cond lines true s t p q = p refl
steady_cond lines false s t p q = q refl

connect_event_seated : (config : ServerConfig) (st : Server) (line : ℕ) (service : Name) → 0 < config.timing.sessions → Seated true config.lines st.core → Seated true config.lines (connect_event config st line service).state.core
connect_event_seated config st line service pos r = go (line_exists config.lines line) refl (has_session st.core line) refl (best config.groups service st.core.moment st.heard)
  where
    reaches : line_exists config.lines line ≡ true → has_session st.core line ≡ false → (b : Best) → Seated true config.lines (connects_to config st line service b).state.core
    reaches ex fr b =
        let x : ℕ = circuit_to st.core b.from in
        let d : Doing = opens config line b.from b.node service None None st.core in
        steady_cond config.lines (nat_eq x 0)
        (cond (nat_lt (living st.core.circuits) 8) (cond (nat_lt st.core.circuits.drawn 65535) (does st (Connected (next_id st.core.circuits) 1) d) (tells st IdsOut)) (tells st CircuitsFull))
        (cond (has_room st.core x) (does st (Connected x (least_free (st.core.circuits.circuit_at x).end.half.sessions)) d) (tells st SessionsFull))
        (λ i. steady_cond config.lines (nat_lt (living st.core.circuits) 8) (cond (nat_lt st.core.circuits.drawn 65535) (does st (Connected (next_id st.core.circuits) 1) d) (tells st IdsOut)) (tells st CircuitsFull)
        (λ j. steady_cond config.lines (nat_lt st.core.circuits.drawn 65535) (does st (Connected (next_id st.core.circuits) 1) d) (tells st IdsOut)
        (λ k. opens_seated config line b.from b.node service None None st.core pos r (ap (λ z. cond z (may_call st.core) (has_room st.core x)) i ∙ both (nat_lt (living st.core.circuits) 8) (nat_lt st.core.circuits.drawn 65535) j k) ex fr)
        (λ k. r))
        (λ j. r))
        (λ i. steady_cond config.lines (has_room st.core x) (does st (Connected x (least_free (st.core.circuits.circuit_at x).end.half.sessions)) d) (tells st SessionsFull)
        (λ k. opens_seated config line b.from b.node service None None st.core pos r (ap (λ z. cond z (may_call st.core) (has_room st.core x)) i ∙ k) ex fr)
        (λ k. r))
      where
        both : (a b : Bool) → a ≡ true → b ≡ true → (a && b) ≡ true
        both true b p q = q
        both false b p q = p

    go : (n : Bool) → line_exists config.lines line ≡ n → (m : Bool) → has_session st.core line ≡ m → (o : Option Best) → Seated true config.lines (cond n (cond m (tells st Busy) (elim o [ None ↦ solicits_for config st service | Some b ↦ connects_to config st line service b ])) (tells st NoLine)).state.core
    go false i m j o = r
    go true i true j o = r
    go true i false j None = r
    go true i false j (Some b) = reaches i j b

command_seated : (config : ServerConfig) (st : Server) (from : ℕ) (m : Command) (a : Action) → Seated true config.lines st.core → Seated true config.lines (hears_command config st from m a).state.core
command_seated config st from m Ask r = r
command_seated config st from m Cancel r = go (kept_for (key_of m) (st.queue ++ Cancels (key_of m) ∷ []))
  where
    told : Option Kept → ServerStep
    told o = elim o [
      | None ↦ record { state = record st { queue = st.queue ++ Cancels (key_of m) ∷ [] }; answer = NotKept; frames = status_frame from m Unknown ∷ [] }
      | Some k ↦ record { state = record st { queue = st.queue ++ Cancels (key_of m) ∷ [] }; answer = KeptIs k; frames = status_frame from m (KeptAs k) ∷ [] }
    ]

    go : (o : Option Kept) → Seated true config.lines (told o).state.core
    go None = r
    go (Some k) = r

value_seated : (config : ServerConfig) (st : Server) (from : ℕ) (v : Value) (k : Option Numbers) → Seated true config.lines st.core → Seated true config.lines (hears_value config st from v k).state.core
value_seated config st from (OfCircuit (RunMessage h slots)) k r = acts_seated true config.lines (server_side config) st.core (hear_run true st.core.circuits from false h slots k st.core.moment).act (run_at_later true true st.core.circuits from false h slots k st.core.moment) r
value_seated config st from (OfCircuit (WideMessage h slots)) k r = acts_seated true config.lines (server_side config) st.core (hear_run true st.core.circuits from true h slots k st.core.moment).act (run_at_later true true st.core.circuits from true h slots k st.core.moment) r
value_seated config st from (OfCircuit (StartMessage true ask to source info)) k r = r
value_seated config st from (OfCircuit (StartMessage false ask to source info)) k r = acts_seated true config.lines (server_side config) st.core (hear_reply_at st.core.circuits from to source st.core.moment (agreed_by config.timing info)).act (reply_at_later st.core.circuits from to source st.core.moment (agreed_by config.timing info)) r
value_seated config st from (OfCircuit (StopMessage master ask to source reason text)) k r = acts_seated true config.lines (server_side config) st.core (hear_stop_at true st.core.circuits from to source st.core.moment reason).act (stop_at_later true true st.core.circuits from to source st.core.moment reason) r
value_seated config st from (OfNotice (AnnouncementNotice a)) k r = r
value_seated config st from (OfNotice (CommandNotice m)) k r = command_seated config st from m m.action r
value_seated config st from (OfNotice (ResponseNotice m)) k r = r
value_seated config st from (OfNotice (StatusNotice m)) k r = r
value_seated config st from (OfNotice (SolicitNotice m)) k r = r

event_seated : (config : ServerConfig) (st : Server) (e : Event) → 0 < config.timing.sessions → Seated true config.lines st.core → Seated true config.lines (server_event config st e).state.core
event_seated config st (Hears from (Malformed field at) k now) pos r = table_seated true config.lines st.core (at_moment now st.core) refl refl r
event_seated config st (Hears from (Whole v) k now) pos r =
    let s : Server = record st { core = at_moment now st.core } in
    let h : Seated true config.lines s.core = table_seated true config.lines st.core (at_moment now st.core) refl refl r in
    steady_cond config.lines (nat_eq from everyone) (tells s Ignored) (hears_value config s from v k) (λ y. h) (λ y. value_seated config s from v k h)
event_seated config st (Time now) pos r = times_seated true config.lines (server_side config) (ids st.core.circuits) (rests (at_moment now st.core)) (table_seated true config.lines st.core (at_moment now st.core) refl refl r)
event_seated config st (Connects line service) pos r = steady_cond config.lines st.halted (tells st Halted) (connect_event config st line service) (λ i. r) (λ i. connect_event_seated config st line service pos r)
event_seated config st (Puts line bytes) pos r = put_seated true config.lines (server_side config) st.core line bytes r
event_seated config st (Sets line setting) pos r = set_seated true config.lines (server_side config) st.core line setting r
event_seated config st (Takes line n) pos r = take_seated true config.lines (server_side config) st.core line n r
event_seated config st (Attends line flag) pos r = attend_seated true config.lines (server_side config) st.core line flag r
event_seated config st (Closes line) pos r = close_seated true config.lines (server_side config) st.core line r
event_seated config st (Requests to id service) pos r = r
event_seated config st (Withdraws id) pos r = r
event_seated config st Announces pos r = r
event_seated config st (Avoids line) pos r = r
event_seated config st (Readies line ready) pos r = r
event_seated config st Halts pos r = ends_seated true config.lines (server_side config) 3 (ids st.core.circuits) (rests st.core) r

-- the grant pass

pub grants_seated : (config : ServerConfig) (line : ℕ) (o : Option Name) (g : Option Request) (p : Passing) → 0 < config.timing.sessions → line_exists config.lines line ≡ true → grantable p.state line o ≡ g → Seated true config.lines p.state.core → Seated true config.lines (grants_by config line o g p).state.core
grants_seated config line None g p pos ex q r = r
grants_seated config line (Some service) None p pos ex q r = r
grants_seated config line (Some service) (Some g) p pos ex q r = go (has_session p.state.core line) refl (next_request service p.state.queue) (grantable_ready p.state line service g q)
  where
    wrong : None ≡ Some g → ⊥
    wrong e = cc

    is_it : (h : Request) → Some h ≡ Some g → h ≡ g
    is_it h e = cc

    opened : (h : Request) (b : Bool) → can_open p.state.core h.from ≡ b → has_session p.state.core line ≡ false → cond b (Some h) None ≡ Some g → Seated true config.lines (opens config line g.from g.key.node service (Some g.key) (Some g.key.request) p.state.core).core
    opened h true i f e = opens_seated config line g.from g.key.node service (Some g.key) (Some g.key.request) p.state.core pos r (ap (λ (z : Request). can_open p.state.core z.from) (sym (is_it h e)) ∙ i) ex f
    opened h false i f e = absurd (wrong e)

    go : (b : Bool) → has_session p.state.core line ≡ b → (o : Option Request) → cond b None (fitting p.state.core o) ≡ Some g → Seated true config.lines (opens config line g.from g.key.node service (Some g.key) (Some g.key.request) p.state.core).core
    go true i o e = absurd (wrong e)
    go false i None e = absurd (wrong e)
    go false i (Some h) e = opened h (can_open p.state.core h.from) refl i e

pass_seated : (config : ServerConfig) (lines : List ℕ) (p : Passing) → 0 < config.timing.sessions → Each (λ line. line_exists config.lines line ≡ true) lines → Seated true config.lines p.state.core → Seated true config.lines (grant_lines config lines p).state.core
pass_seated config [] p pos ex r = r
pass_seated config (line ∷ lines) p pos ex r = pass_seated config lines (grant_line config p line) pos ex.1 (grants_seated config line (offer_on line config.offers) (grantable p.state line (offer_on line config.offers)) p pos ex.0 refl r)

pub server_seated : (config : ServerConfig) (st : Server) (e : Event) → 0 < config.timing.sessions → Seated true config.lines st.core → Seated true config.lines (server_step config st e).state.core
server_seated config st e pos r = pass_seated config (upwards 0 config.lines) (record { state = finished_requests (server_event config st e).state; frames = [] }) pos (lines_exist config.lines 0 config.lines (omega arith)) (event_seated config st e pos r)

-- the node

node_cond : (lines : ℕ) (n : Bool) (s t : NodeStep) → Seated false lines s.state.core → Seated false lines t.state.core → Seated false lines (cond n s t).state.core
node_cond lines true s t p q = p
node_cond lines false s t p q = q

hears_run_seated : (config : NodeConfig) (st : Node) (from : ℕ) (wide : Bool) (h : Head) (slots : List Slot) (k : Option Numbers) → Seated false config.lines st.core → Seated false config.lines (hears_run config st from wide h slots k).state.core
hears_run_seated config st from wide h slots k r = go (names st.core.circuits from h.to h.from)
  where
    act : HeardAct
    act = hear_run false st.core.circuits from wide h slots k st.core.moment

    s : NodeStep
    s = N.heard_at config st act

    o : Seated false config.lines s.state.core
    o = acts_seated false config.lines (node_side config) st.core act.act (run_at_later false false st.core.circuits from wide h slots k st.core.moment) r

    go : (b : Bool) → Seated false config.lines (cond b (answers_asked config h.to s.state) s.state).core
    go true = answers_seated config h.to s.state o
    go false = o

start_seated : (config : NodeConfig) (st : Node) (from source : ℕ) (info : StartInfo) → Seated false config.lines st.core → Seated false config.lines (hears_start config st from source info (start_fact st.core.circuits from source)).state.core
start_seated config st from source info r = go (nat_eq (slave_of st.core.circuits from source) 0) (nat_lt (living st.core.circuits) 8 && nat_lt st.core.circuits.drawn 65535)
  where
    t : Table
    t = st.core.circuits

    go : (a b : Bool) → Seated false config.lines (hears_start config st from source info (cond a (cond b (Makes (next_id t)) Refuses) (Repeats (slave_of t from source)))).state.core
    go true true = seated_later false config.lines st.core (hears_start config st from source info (Makes (next_id t))).state.core refl (make_later (setup_of config.timing) t from source st.core.moment (agreed_by config.timing info)) r
    go true false = table_seated false config.lines st.core (hears_start config st from source info Refuses).state.core refl refl r
    go false b = seated_later false config.lines st.core (hears_start config st from source info (Repeats (slave_of t from source))).state.core refl (again_at_later t (slave_of t from source) st.core.moment) r

-- the slaves that a START follows
way_seated : (config : NodeConfig) (st : Node) (from source : ℕ) → Seated false config.lines st.core → Seated false config.lines (makes_way config st from source).core
way_seated config st from source r = go config.prompt
  where
    go : (b : Bool) → Seated false config.lines (with_circuits st.core (cond b (outlive from source (ids st.core.circuits) st.core.circuits) st.core.circuits))
    go true = seated_later false config.lines st.core (with_circuits st.core (outlive from source (ids st.core.circuits) st.core.circuits)) refl (outlive_later from source (ids st.core.circuits) st.core.circuits) r
    go false = r

node_value_seated : (config : NodeConfig) (rates : List ℕ) (st : Node) (from : ℕ) (v : Value) (k : Option Numbers) → Seated false config.lines st.core → Seated false config.lines (N.hears_value config rates st from v k).state.core
node_value_seated config rates st from (OfCircuit (RunMessage h slots)) k r = hears_run_seated config st from false h slots k r
node_value_seated config rates st from (OfCircuit (WideMessage h slots)) k r = hears_run_seated config st from true h slots k r
node_value_seated config rates st from (OfCircuit (StartMessage true ask to source info)) k r =
    let m : Node = makes_way config st from source in
    node_cond config.lines st.halted (turns_away config st from source) (starts config m from source info) r (start_seated config m from source info (way_seated config st from source r))
node_value_seated config rates st from (OfCircuit (StartMessage false ask to source info)) k r = r
node_value_seated config rates st from (OfCircuit (StopMessage master ask to source reason text)) k r = acts_seated false config.lines (node_side config) st.core (hear_stop_at false st.core.circuits from to source st.core.moment reason).act (stop_at_later false false st.core.circuits from to source st.core.moment reason) r
node_value_seated config rates st from (OfNotice (StatusNotice s)) k r = r
node_value_seated config rates st from (OfNotice (SolicitNotice s)) k r = go (find (same s.service) config.services)
  where
    go : (o : Option Name) → Seated false config.lines (solicited config rates st from s.id o).state.core
    go None = r
    go (Some n) = r
node_value_seated config rates st from (OfNotice (AnnouncementNotice a)) k r = r
node_value_seated config rates st from (OfNotice (CommandNotice m)) k r = r
node_value_seated config rates st from (OfNotice (ResponseNotice m)) k r = r

again_seated : (config : NodeConfig) (st : Node) (to id : ℕ) (service : Name) (o : Option Requested) → Seated false config.lines st.core → Seated false config.lines (requests_again config st to id service o).state.core
again_seated config st to id service None r = r
again_seated config st to id service (Some x) r = node_cond config.lines (nat_eq x.to to && same x.service service) _ (N.tells st IdUsed) r r

withdraw_seated : (config : NodeConfig) (st : Node) (o : Option Requested) → Seated false config.lines st.core → Seated false config.lines (withdraws config st o).state.core
withdraw_seated config st None r = r
withdraw_seated config st (Some x) r = r

pub node_seated : (config : NodeConfig) (rates : List ℕ) (st : Node) (e : Event) → Seated false config.lines st.core → Seated false config.lines (node_step config rates st e).state.core
node_seated config rates st (Hears from (Malformed field at) k now) r = table_seated false config.lines st.core (at_moment now st.core) refl refl r
node_seated config rates st (Hears from (Whole v) k now) r =
    let s : Node = record st { core = at_moment now st.core } in
    let h : Seated false config.lines s.core = table_seated false config.lines st.core (at_moment now st.core) refl refl r in
    node_cond config.lines (nat_eq from everyone) (N.tells s Ignored) (N.hears_value config rates s from v k) h (node_value_seated config rates s from v k h)
node_seated config rates st (Time now) r = times_seated false config.lines (node_side config) (ids st.core.circuits) (rests (at_moment now st.core)) (table_seated false config.lines st.core (at_moment now st.core) refl refl r)
node_seated config rates st (Connects line service) r = r
node_seated config rates st (Puts line bytes) r = put_seated false config.lines (node_side config) st.core line bytes r
node_seated config rates st (Sets line setting) r = set_seated false config.lines (node_side config) st.core line setting r
node_seated config rates st (Takes line n) r = take_seated false config.lines (node_side config) st.core line n r
node_seated config rates st (Attends line flag) r = attend_seated false config.lines (node_side config) st.core line flag r
node_seated config rates st (Closes line) r = close_seated false config.lines (node_side config) st.core line r
node_seated config rates st (Requests to id service) r = again_seated config st to id service (request_of id st) r
node_seated config rates st (Withdraws id) r = withdraw_seated config st (request_of id st) r
node_seated config rates st Announces r = r
node_seated config rates st (Avoids line) r = r
node_seated config rates st (Readies line ready) r = r
node_seated config rates st Halts r = ends_seated false config.lines (node_side config) 3 (ids st.core.circuits) (rests st.core) r

-- both

tell_seated : (u : Setups) (w : Machines) (b : Bool) (e : Event) (rates : List ℕ) → 0 < u.server.timing.sessions → BothSeated u w → BothSeated u (tell u w b e rates)
tell_seated u w true e rates pos r = record { server = server_seated u.server w.server e pos r.server; node = r.node }
tell_seated u w false e rates pos r = record { server = r.server; node = node_seated u.node rates w.node e r.node }

both_cond : (u : Setups) (n : Bool) (x y : Machines) → BothSeated u x → BothSeated u y → BothSeated u (cond n x y)
both_cond u true x y p q = p
both_cond u false x y p q = q

marked_seated : (u : Setups) (i : ℕ) (w : Machines) → BothSeated u w → BothSeated u (marked_delivered i w)
marked_seated u i w r = record { server = r.server; node = r.node }

pub happens_seated : (u : Setups) (w : Machines) (e : Move) → 0 < u.server.timing.sessions → BothSeated u w → BothSeated u (happens u w e)
happens_seated u w (Does b e rates) pos r = both_cond u (is_heard e) w (tell u w b e rates) r (tell_seated u w b e rates pos r)
happens_seated u w (HearsForeign b from payload now rates) pos r = both_cond u (is_own u from) w (tell u w b (Hears from payload None now) rates) r (tell_seated u w b (Hears from payload None now) rates pos r)
happens_seated u w (HearsFrame i now rates) pos r = go (slice_get w.posts i)
  where
    go : (o : Option Posted) → BothSeated u (comes u w i now rates o)
    go None = r
    go (Some f) = both_cond u (is_for_other u f) (tell u (marked_delivered i w) (not f.by_server) (heard_as u f now) rates) (counted (marked_delivered i w)) (tell_seated u (marked_delivered i w) (not f.by_server) (heard_as u f now) rates pos (marked_seated u i w r)) (record { server = r.server; node = r.node })

pub run_seated : (u : Setups) (es : List Move) (w : Machines) → 0 < u.server.timing.sessions → BothSeated u w → BothSeated u (run u es w)
run_seated u [] w pos r = r
run_seated u (e ∷ es) w pos r = run_seated u es (happens u w e) pos (happens_seated u w e pos r)

pub open_seated : (u : Setups) → BothSeated u (open_machines u)
open_seated u = record {
  server = record {
    good = record { masters = λ x. refl; new = λ k l. refl; found = λ x. record { made = λ i. omega arith; named = λ i n. absurd (n refl); none = refl; held = λ k q. absurd (false≢true q); asked = λ q. absurd (true≢false q); agreed = omega arith; holds = λ k q. absurd (true≢false q); within = λ i q. refl }; held = λ x k q. absurd (false≢true q) };
    seat = λ x k l f a. absurd (false≢true a);
    placed = λ s i. absurd i;
    last = λ s i o. absurd i;
    every = λ x k a. absurd (false≢true a);
    all = λ e x k a b. absurd (omega (arith, a, b));
  };
  node = record {
    good = record { masters = λ x. refl; new = λ k l. refl; found = λ x. record { made = λ i. omega arith; named = λ i n. absurd (n refl); none = refl; held = λ k q. absurd (false≢true q); asked = λ m k n l. absurd (omega (arith, n, l)); agreed = omega arith; holds = λ k q. absurd (true≢false q); within = λ i q. refl }; held = λ x k q. absurd (false≢true q) };
    seat = λ x k l f a. absurd (false≢true a);
    placed = λ s i. absurd i;
    last = λ s i o. absurd i;
    every = λ x k a. absurd (false≢true a);
    all = λ e x k a b. absurd (omega (arith, a, b));
  };
}
