-- What is refused, or means nothing to a machine, changes nothing.
use Rattle.std.proofs.Common.{◌≡◌, ℕ, refl, sym, ap, ◌∙◌, Bool, true, false, cond, ◌&&◌, List, [], ◌∷◌, ◌++◌, length, Option, Some, None, nat_eq, nat_lt, find}
use Rattle.std.proofs.lemmas.Bool.{false≢true}
use Rattle.lat_model.specs.sessions.Session.{put_open, take_open, unframed}
use Rattle.lat_model.specs.sessions.Sessions.{least_free}
use Rattle.lat_model.specs.Lists.{updated}
use Rattle.lat_model.specs.circuits.Arriving.{living}
use Rattle.lat_model.specs.circuits.Ids.{next_id}
use Rattle.lat_machines.specs.values.Names.{Name, same}
use Rattle.lat_machines.specs.values.Addresses.{everyone}
use Rattle.lat_machines.specs.values.Messages.{RunMessage, WideMessage, StartMessage, StopMessage, StartInfo}
use Rattle.lat_machines.specs.values.Notices.{Kept, KeptAs, Unknown, Action, Ask, Cancel, Announcement, Command, AnnouncementNotice, CommandNotice, StatusNotice, SolicitNotice, ResponseNotice}
use Rattle.lat_machines.specs.values.Frames.{Value, OfCircuit, OfNotice, Whole, Malformed}
use Rattle.lat_machines.specs.values.Events.{Numbers, Event, Hears, Time, Connects, Puts, Sets, Takes, Attends, Closes, Requests, Withdraws, Announces, Avoids, Readies, Halts}
use Rattle.lat_machines.specs.values.Answers.{Answer, Done, Announced, Apart, DirectoryFull, Ignored, Busy, NoLine, SessionsFull, CircuitsFull, IdsOut, Closed, Full, Connected, NotKept, KeptIs, IdUsed, Halted}
use Rattle.lat_machines.specs.server.Directory.{Best, best, refuses, meets, avoid}
use Rattle.lat_machines.specs.server.Queue.{Cancels}
use Rattle.lat_machines.specs.server.Records.{kept_for}
use Rattle.lat_machines.specs.cores.Hearing.{StartFact, Repeats, Makes, Refuses, start_fact}
use Rattle.lat_machines.specs.cores.Cores.{Seat, Core, Doing, at_moment, circuit_to}
use Rattle.lat_machines.specs.cores.Lines.{session_of, seat_at, has_session, had_session, peer_address, line_exists}
use Rattle.lat_machines.specs.cores.LineCalls.{Said, says, put_on, set_on, attend_on, take_on, close_on, on_line}
use Rattle.lat_machines.specs.server.Server.{ServerConfig, Server, ServerStep, server_side, opens, does, has_room, connects_to, solicits_for, connect_event, status_frame, key_of, open_server, hears_announcement, hears_command, server_event, passed}
use Rattle.lat_machines.specs.server.Server as Server
use Rattle.lat_machines.specs.node.Node.{NodeConfig, Requested, Node, NodeStep, node_side, request_of, hears_start, solicited, requests_again, withdraws, node_step}
use Rattle.lat_machines.specs.node.Node as Node
use Rattle.lat_machines.specs.world.Histories.{server_run}
use Rattle.lat_machines.specs.world.Safe.{NoGrant}
use Rattle.lat_machines.specs.world.Refusals.{changes_nothing, server_moved, node_moved, ServerUnchanged, NodeUnchanged, ServerHearsNoLayout, NodeHearsNoLayout}
use Rattle.lat_machines.proofs.queue.Served.{AllSeated}
use Rattle.lat_machines.proofs.queue.Settled.{Settled, settled, settled_at, passes_nothing}

-- calls on a line, at either machine

abbrev SaidSame : Core → Said → Type 0
SaidSame c s = changes_nothing s.answer ≡ true → s.core ≡ c

said_cond : (c : Core) (n : Bool) (x y : Said) → SaidSame c x → SaidSame c y → SaidSame c (cond n x y)
said_cond c true x y p q = p
said_cond c false x y p q = q

says_same : (c : Core) (a : Answer) → SaidSame c (says c a)
says_same c a h = refl

-- an answer that isn't among them
no_such : {A : Type 0} (a : Answer) → changes_nothing a ≡ false → changes_nothing a ≡ true → A
no_such a p q = absurd (false≢true (sym p ∙ q))

line_same : (lines : ℕ) (c : Core) (line : ℕ) (f : Seat → Said) → ((s : Seat) → SaidSame c (f s)) → SaidSame c (on_line lines c line f)
line_same lines c line f p =
    said_cond c (line_exists lines line) (cond (has_session c line) (f (seat_at c line)) (says c Closed)) (says c NoLine)
    (said_cond c (has_session c line) (f (seat_at c line)) (says c Closed) (p (seat_at c line)) (says_same c Closed)) (says_same c NoLine)

done_same : (c : Core) (n : Bool) (x : Said) → changes_nothing x.answer ≡ false → SaidSame c (cond n x (says c Closed))
done_same c n x p = said_cond c n x (says c Closed) (no_such x.answer p) (says_same c Closed)

-- the server

abbrev Same : Server → ServerStep → Type 0
Same st s = changes_nothing s.answer ≡ true → s ≡ Server.tells st s.answer

same_cond : (st : Server) (n : Bool) (s t : ServerStep) → Same st s → Same st t → Same st (cond n s t)
same_cond st true s t p q = p
same_cond st false s t p q = q

said_same : (st : Server) (s : Said) → SaidSame st.core s → Same st (Server.said st s)
said_same st s p h = ap (λ c. Server.tells (Server.with_core st c) s.answer) (p h)

connect_same : (config : ServerConfig) (st : Server) (line : ℕ) (service : Name) → Same st (connect_event config st line service)
connect_same config st line service = go (line_exists config.lines line) (has_session st.core line) (best config.groups service st.core.moment st.heard)
  where
    told : (a : Answer) → Same st (Server.tells st a)
    told a h = refl

    reaches : (b : Best) → Same st (connects_to config st line service b)
    reaches b =
        let x : ℕ = circuit_to st.core b.from in
        let d : Doing = opens config line b.from b.node service None None st.core in
        same_cond st (nat_eq x 0)
        (cond (nat_lt (living st.core.circuits) 8) (cond (nat_lt st.core.circuits.drawn 65535) (does st (Connected (next_id st.core.circuits) 1) d) (Server.tells st IdsOut)) (Server.tells st CircuitsFull))
        (cond (has_room st.core x) (does st (Connected x (least_free (st.core.circuits.circuit_at x).end.half.sessions)) d) (Server.tells st SessionsFull))
        (same_cond st (nat_lt (living st.core.circuits) 8) (cond (nat_lt st.core.circuits.drawn 65535) (does st (Connected (next_id st.core.circuits) 1) d) (Server.tells st IdsOut)) (Server.tells st CircuitsFull)
        (same_cond st (nat_lt st.core.circuits.drawn 65535) (does st (Connected (next_id st.core.circuits) 1) d) (Server.tells st IdsOut) (λ h. absurd (false≢true h)) (told IdsOut)) (told CircuitsFull))
        (same_cond st (has_room st.core x) (does st (Connected x (least_free (st.core.circuits.circuit_at x).end.half.sessions)) d) (Server.tells st SessionsFull) (λ h. absurd (false≢true h)) (told SessionsFull))

    go : (n m : Bool) (o : Option Best) → Same st (cond n (cond m (Server.tells st Busy) (elim o [ None ↦ solicits_for config st service | Some b ↦ connects_to config st line service b ])) (Server.tells st NoLine))
    go false m o h = refl
    go true true o h = refl
    go true false None h = absurd (false≢true h)
    go true false (Some b) h = reaches b h

announced_same : (config : ServerConfig) (st : Server) (from : ℕ) (a : Announcement) → Same st (hears_announcement config st from a)
announced_same config st from a = go (refuses config.groups st.core.moment a st.heard) (meets config.groups a)
  where
    go : (n m : Bool) → Same st (Server.tells (record st { heard = cond n st.heard (st.heard ++ record { from = from; announcement = a; at = st.core.moment } ∷ []) }) (cond n DirectoryFull (cond m Announced Apart)))
    go true m h = refl
    go false true h = absurd (false≢true h)
    go false false h = absurd (false≢true h)

command_same : (config : ServerConfig) (st : Server) (from : ℕ) (m : Command) (a : Action) → Same st (hears_command config st from m a)
command_same config st from m Ask h = absurd (false≢true h)
command_same config st from m Cancel h = go (kept_for (key_of m) (st.queue ++ Cancels (key_of m) ∷ [])) h
  where
    told : Option Kept → ServerStep
    told o = elim o [
      | None ↦ record { state = record st { queue = st.queue ++ Cancels (key_of m) ∷ [] }; answer = NotKept; frames = status_frame from m Unknown ∷ [] }
      | Some k ↦ record { state = record st { queue = st.queue ++ Cancels (key_of m) ∷ [] }; answer = KeptIs k; frames = status_frame from m (KeptAs k) ∷ [] }
    ]

    go : (o : Option Kept) → Same st (told o)
    go None h = absurd (false≢true h)
    go (Some k) h = absurd (false≢true h)

value_same : (config : ServerConfig) (st : Server) (from : ℕ) (v : Value) (k : Option Numbers) → Same st (Server.hears_value config st from v k)
value_same config st from (OfCircuit (RunMessage x slots)) k h = absurd (false≢true h)
value_same config st from (OfCircuit (WideMessage x slots)) k h = absurd (false≢true h)
value_same config st from (OfCircuit (StartMessage true ask to source info)) k h = absurd (false≢true h)
value_same config st from (OfCircuit (StartMessage false ask to source info)) k h = absurd (false≢true h)
value_same config st from (OfCircuit (StopMessage master ask to source reason text)) k h = absurd (false≢true h)
value_same config st from (OfNotice (AnnouncementNotice a)) k h = announced_same config st from a h
value_same config st from (OfNotice (CommandNotice m)) k h = command_same config st from m m.action h
value_same config st from (OfNotice (ResponseNotice m)) k h = refl
value_same config st from (OfNotice (StatusNotice m)) k h = refl
value_same config st from (OfNotice (SolicitNotice m)) k h = refl

avoid_same : (config : ServerConfig) (st : Server) (line : ℕ) → Same st (Server.avoids_on config st line)
avoid_same config st line h = go (line_exists config.lines line) (had_session st.core line) h
  where
    go : (n m : Bool) → Same st (Server.tells (record st { heard = cond n (cond m (avoid (peer_address st.core line) st.heard) st.heard) st.heard }) (cond n (cond m Done Closed) NoLine))
    go false m h = refl
    go true false h = refl
    go true true h = absurd (false≢true h)

ready_same : (config : ServerConfig) (st : Server) (line : ℕ) (ready : Bool) → Same st (Server.readies_on config st line ready)
ready_same config st line ready h = go (line_exists config.lines line) h
  where
    go : (n : Bool) → Same st (Server.tells (record st { ready = cond n (updated st.ready line ready) st.ready }) (cond n Done NoLine))
    go false h = refl
    go true h = absurd (false≢true h)

event_same : (config : ServerConfig) (st : Server) (e : Event) → Same (server_moved e st) (server_event config st e)
event_same config st (Hears from (Malformed field at) k now) h = refl
event_same config st (Hears from (Whole v) k now) h =
    let s : Server = record st { core = at_moment now st.core } in
    same_cond s (nat_eq from everyone) (Server.tells s Ignored) (Server.hears_value config s from v k) (λ y. refl) (value_same config s from v k) h
event_same config st (Time now) h = absurd (false≢true h)
event_same config st (Connects line service) h = same_cond st st.halted (Server.tells st Halted) (connect_event config st line service) (λ y. refl) (connect_same config st line service) h
event_same config st (Puts line bytes) h = said_same st _ (line_same config.lines st.core line (λ s. put_on (server_side config) st.core s bytes) (λ s. done_same st.core (put_open (session_of st.core s)) _ refl)) h
event_same config st (Sets line setting) h =
    said_same st _
    (line_same config.lines st.core line (λ s. set_on (server_side config) st.core s setting)
    (λ s. said_cond st.core (put_open (session_of st.core s)) _ (says st.core Closed) (said_cond st.core (nat_lt (length (unframed (session_of st.core s))) 4096) _ (says st.core Full) (λ y. absurd (false≢true y)) (says_same st.core Full)) (says_same st.core Closed))) h
event_same config st (Takes line n) h = said_same st _ (line_same config.lines st.core line (λ s. take_on (server_side config) st.core s n) (λ s. done_same st.core (take_open (session_of st.core s)) _ refl)) h
event_same config st (Attends line flag) h = said_same st _ (line_same config.lines st.core line (λ s. attend_on (server_side config) st.core s flag) (λ s. done_same st.core (put_open (session_of st.core s)) _ refl)) h
event_same config st (Closes line) h = said_same st _ (line_same config.lines st.core line (λ s. close_on (server_side config) st.core s) (λ s. done_same st.core (take_open (session_of st.core s)) _ refl)) h
event_same config st (Requests to id service) h = refl
event_same config st (Withdraws id) h = refl
event_same config st Announces h = refl
event_same config st (Avoids line) h = avoid_same config st line h
event_same config st (Readies line ready) h = ready_same config st line ready h
event_same config st Halts h = absurd (false≢true h)

-- the pass behind it

passed_same : (config : ServerConfig) (st : Server) (e : Event) (a : Answer) → Settled config st → passed config (Server.tells (server_moved e st) a) ≡ Server.tells (server_moved e st) a
passed_same config st (Hears from payload k now) a g =
    let p : (AllSeated (at_moment now st.core) st.queue st.core.seats) × (NoGrant config (record st { core = at_moment now st.core })) = settled_at config st now g in
    passes_nothing config (record st { core = at_moment now st.core }) a p.0 p.1
passed_same config st (Time now) a g = passes_nothing config st a g.seated g.quiet
passed_same config st (Connects line service) a g = passes_nothing config st a g.seated g.quiet
passed_same config st (Puts line bytes) a g = passes_nothing config st a g.seated g.quiet
passed_same config st (Sets line setting) a g = passes_nothing config st a g.seated g.quiet
passed_same config st (Takes line n) a g = passes_nothing config st a g.seated g.quiet
passed_same config st (Attends line flag) a g = passes_nothing config st a g.seated g.quiet
passed_same config st (Closes line) a g = passes_nothing config st a g.seated g.quiet
passed_same config st (Requests to id service) a g = passes_nothing config st a g.seated g.quiet
passed_same config st (Withdraws id) a g = passes_nothing config st a g.seated g.quiet
passed_same config st Announces a g = passes_nothing config st a g.seated g.quiet
passed_same config st (Avoids line) a g = passes_nothing config st a g.seated g.quiet
passed_same config st (Readies line ready) a g = passes_nothing config st a g.seated g.quiet
passed_same config st Halts a g = passes_nothing config st a g.seated g.quiet

pub server_unchanged : ServerUnchanged
server_unchanged config es e pos h =
    let st : Server = server_run config es (open_server config) in
    ap (passed config) (event_same config st e h) ∙ passed_same config st e (server_event config st e).answer (settled config es pos)

pub server_no_layout : ServerHearsNoLayout
server_no_layout config es from field at now k pos = server_unchanged config es (Hears from (Malformed field at) k now) pos refl

-- the node

abbrev NodeSame : Node → NodeStep → Type 0
NodeSame st s = changes_nothing s.answer ≡ true → s ≡ Node.tells st s.answer

node_cond : (st : Node) (n : Bool) (s t : NodeStep) → NodeSame st s → NodeSame st t → NodeSame st (cond n s t)
node_cond st true s t p q = p
node_cond st false s t p q = q

node_said : (st : Node) (s : Said) → SaidSame st.core s → NodeSame st (Node.said st s)
node_said st s p h = ap (λ c. Node.tells (Node.with_core st c) s.answer) (p h)

start_same : (config : NodeConfig) (st way : Node) (from source : ℕ) (info : StartInfo) (fact : StartFact) → NodeSame st (hears_start config way from source info fact)
start_same config st way from source info (Repeats k) h = absurd (false≢true h)
start_same config st way from source info (Makes k) h = absurd (false≢true h)
start_same config st way from source info Refuses h = absurd (false≢true h)

solicited_same : (config : NodeConfig) (rates : List ℕ) (st : Node) (from id : ℕ) (o : Option Name) → NodeSame st (solicited config rates st from id o)
solicited_same config rates st from id None h = refl
solicited_same config rates st from id (Some s) h = absurd (false≢true h)

node_value : (config : NodeConfig) (rates : List ℕ) (st : Node) (from : ℕ) (v : Value) (k : Option Numbers) → NodeSame st (Node.hears_value config rates st from v k)
node_value config rates st from (OfCircuit (RunMessage x slots)) k h = absurd (false≢true h)
node_value config rates st from (OfCircuit (WideMessage x slots)) k h = absurd (false≢true h)
node_value config rates st from (OfCircuit (StartMessage true ask to source info)) k h = node_cond st st.halted (Node.turns_away config st from source) (Node.starts config (Node.makes_way config st from source) from source info) (λ y. absurd (false≢true y)) (start_same config st (Node.makes_way config st from source) from source info (start_fact (Node.makes_way config st from source).core.circuits from source)) h
node_value config rates st from (OfCircuit (StartMessage false ask to source info)) k h = absurd (false≢true h)
node_value config rates st from (OfCircuit (StopMessage master ask to source reason text)) k h = absurd (false≢true h)
node_value config rates st from (OfNotice (StatusNotice m)) k h = refl
node_value config rates st from (OfNotice (SolicitNotice m)) k h = solicited_same config rates st from m.id (find (same m.service) config.services) h
node_value config rates st from (OfNotice (AnnouncementNotice m)) k h = refl
node_value config rates st from (OfNotice (CommandNotice m)) k h = refl
node_value config rates st from (OfNotice (ResponseNotice m)) k h = refl

again_same : (config : NodeConfig) (st : Node) (to id : ℕ) (service : Name) (o : Option Requested) → NodeSame st (requests_again config st to id service o)
again_same config st to id service None h = absurd (false≢true h)
again_same config st to id service (Some r) h = node_cond st (nat_eq r.to to && same r.service service) _ (Node.tells st IdUsed) (λ y. absurd (false≢true y)) (λ y. refl) h

withdraw_same : (config : NodeConfig) (st : Node) (o : Option Requested) → NodeSame st (withdraws config st o)
withdraw_same config st None h = refl
withdraw_same config st (Some r) h = absurd (false≢true h)

step_same : (config : NodeConfig) (rates : List ℕ) (st : Node) (e : Event) → NodeSame (node_moved e st) (node_step config rates st e)
step_same config rates st (Hears from (Malformed field at) k now) h = refl
step_same config rates st (Hears from (Whole v) k now) h =
    let s : Node = record st { core = at_moment now st.core } in
    node_cond s (nat_eq from everyone) (Node.tells s Ignored) (Node.hears_value config rates s from v k) (λ y. refl) (node_value config rates s from v k) h
step_same config rates st (Time now) h = absurd (false≢true h)
step_same config rates st (Connects line service) h = refl
step_same config rates st (Puts line bytes) h = node_said st _ (line_same config.lines st.core line (λ s. put_on (node_side config) st.core s bytes) (λ s. done_same st.core (put_open (session_of st.core s)) _ refl)) h
step_same config rates st (Sets line setting) h =
    node_said st _
    (line_same config.lines st.core line (λ s. set_on (node_side config) st.core s setting)
    (λ s. said_cond st.core (put_open (session_of st.core s)) _ (says st.core Closed) (said_cond st.core (nat_lt (length (unframed (session_of st.core s))) 4096) _ (says st.core Full) (λ y. absurd (false≢true y)) (says_same st.core Full)) (says_same st.core Closed))) h
step_same config rates st (Takes line n) h = node_said st _ (line_same config.lines st.core line (λ s. take_on (node_side config) st.core s n) (λ s. done_same st.core (take_open (session_of st.core s)) _ refl)) h
step_same config rates st (Attends line flag) h = node_said st _ (line_same config.lines st.core line (λ s. attend_on (node_side config) st.core s flag) (λ s. done_same st.core (put_open (session_of st.core s)) _ refl)) h
step_same config rates st (Closes line) h = node_said st _ (line_same config.lines st.core line (λ s. close_on (node_side config) st.core s) (λ s. done_same st.core (take_open (session_of st.core s)) _ refl)) h
step_same config rates st (Requests to id service) h = again_same config st to id service (request_of id st) h
step_same config rates st (Withdraws id) h = withdraw_same config st (request_of id st) h
step_same config rates st Announces h = absurd (false≢true h)
step_same config rates st (Avoids line) h = refl
step_same config rates st (Readies line ready) h = refl
step_same config rates st Halts h = absurd (false≢true h)

pub node_unchanged : NodeUnchanged
node_unchanged config es rates e h = step_same config rates _ e h

pub node_no_layout : NodeHearsNoLayout
node_no_layout config rates st from field at now k = refl
