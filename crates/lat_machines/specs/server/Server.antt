-- The server: its state, and what each event makes of it.
use Rattle.std.specs.Prelude.{ℕ, suc, ◌+◌, ◌%◌, Bool, true, false, cond, ◌&&◌, List, [], ◌∷◌, ◌++◌, map, Option, Some, None, nat_eq, nat_lt, not}
use Rattle.lat_model.specs.sessions.Slots.{Slot}
use Rattle.lat_model.specs.sessions.Sessions.{Sessions, held, least_free}
use Rattle.lat_model.specs.Lists.{updated, upwards}
use Rattle.lat_model.specs.sessions.Calls.{Connect}
use Rattle.lat_model.specs.circuits.Ids.{next_id}
use Rattle.lat_model.specs.circuits.Arriving.{living}
use Rattle.lat_machines.specs.values.Names.{Name}
use Rattle.lat_machines.specs.values.Addresses.{everyone}
use Rattle.lat_machines.specs.values.Messages.{Message, RunMessage, WideMessage, StartMessage, StopMessage, Head}
use Rattle.lat_machines.specs.values.Notices.{Kept, Granted, Outcome, KeptAs, Unknown, Action, Ask, Cancel, Announcement, Command, Notice, AnnouncementNotice, CommandNotice, StatusNotice, SolicitNotice, ResponseNotice}
use Rattle.lat_machines.specs.values.Frames.{Value, OfCircuit, OfNotice, Reading, Whole, Malformed, OutFrame, plain}
use Rattle.lat_machines.specs.values.Timing.{Timing, agreed_by}
use Rattle.lat_machines.specs.server.Directory.{HeardAnnouncement, Best, best, meets, refuses, hear, avoid}
use Rattle.lat_machines.specs.values.Keys.{Key}
use Rattle.lat_machines.specs.server.Queue.{QueueEvent, Asks, Cancels, Grants, Finishes, Request, next_request}
use Rattle.lat_machines.specs.server.Records.{ask_answer, kept_for, is_granted}
use Rattle.lat_machines.specs.values.Events.{Numbers, Event, Hears, Time, Connects, Puts, Sets, Takes, Attends, Closes, Requests, Withdraws, Announces, Avoids, Readies, Halts}
use Rattle.lat_machines.specs.values.Answers.{Foreign, Answer, Circuit, Announced, Apart, DirectoryFull, KeptIs, NotKept, Noted, Ignored, Bad, Done, Connected, NoLine, Busy, NoService, SessionsFull, CircuitsFull, IdsOut, Closed, NotHere, Halted}
use Rattle.lat_machines.specs.cores.Hearing.{HeardAct, hear_run, hear_stop_at, hear_reply_at}
use Rattle.lat_machines.specs.cores.Acts.{call_at, local_at}
use Rattle.lat_machines.specs.cores.Cores.{Seat, Core, Side, setup_of, open_core, Doing, rests, then_doing, acts, at_moment, passes_time, circuit_to, ends_all, told_stranger}
use Rattle.lat_machines.specs.cores.Lines.{over, has_session, had_session, peer_address, line_exists, ended, saturated_count}
use Rattle.lat_machines.specs.cores.LineCalls.{Said, put_on, set_on, attend_on, take_on, close_on, on_line}
use Rattle.lat_model.specs.Reasons as reasons

pub record Offer : Type 0 where
  pub line : ℕ
  pub service : Name

pub record ServerConfig : Type 0 where
  pub own : ℕ
  pub name : Name
  pub lines : ℕ
  pub offers : List Offer
  pub groups : List ℕ
  pub timing : Timing
  pub prompt : Bool  -- it tells a stranger at once that no such circuit lives here
  pub first : ℕ  -- the id of its first circuit, 1 to 65,535

pub record Server : Type 0 where
  pub core : Core
  pub heard : List HeardAnnouncement  -- the announcements heard and not refused
  pub queue : List QueueEvent  -- all that the queue was told and did
  pub solicits : ℕ  -- the last solicit id drawn
  pub ready : ℕ → Bool  -- the lines that may grant
  pub halted : Bool

pub record ServerStep : Type 0 where
  pub state : Server
  pub answer : Answer
  pub frames : List OutFrame

abbrev pub server_side : ServerConfig → Side
server_side config = record { server = true; timing = config.timing; name = config.name }

abbrev pub open_server : ServerConfig → Server
open_server config = record { core = open_core (server_side config) config.own config.first; heard = []; queue = []; solicits = 0; ready = λ line. true; halted = false }

abbrev pub offered : ServerConfig → List Name
offered config = map (λ (o : Offer). o.service) config.offers

abbrev pub offer_on : ℕ → List Offer → Option Name
offer_on line [] = None
offer_on line (o ∷ os) = cond (nat_eq o.line line) (Some o.service) (offer_on line os)

-- nothing but an answer
abbrev pub tells : Server → Answer → ServerStep
tells state a = record { state = state; answer = a; frames = [] }

abbrev pub with_core : Server → Core → Server
with_core state c = record state { core = c }

abbrev pub does : Server → Answer → Doing → ServerStep
does state a d = record { state = with_core state d.core; answer = a; frames = d.frames }

abbrev pub said : Server → Said → ServerStep
said state s = tells (with_core state s.core) s.answer

-- circuits and sessions

-- whether one more session with this address can be had, calling a circuit where none lives
abbrev pub has_room : Core → ℕ → Bool
has_room c x =
    nat_lt (held (c.circuits.circuit_at x).end.half.sessions) (c.circuits.circuit_at x).end.half.sessions.agreed

abbrev pub may_call : Core → Bool
may_call c = nat_lt (living c.circuits) 8 && nat_lt c.circuits.drawn 65535

abbrev pub can_open : Core → ℕ → Bool
can_open c address = cond (nat_eq (circuit_to c address) 0) (may_call c) (has_room c (circuit_to c address))

-- a circuit is called where none to this address lives
abbrev pub calls_to : ServerConfig → ℕ → Name → Core → Doing
calls_to config address node c =
    let d : Core = record c { names = updated c.names (next_id c.circuits) node } in
    cond (nat_eq (circuit_to c address) 0)
    (acts (server_side config) d (call_at (setup_of config.timing) d.circuits address d.moment))
    (rests c)

-- the circuit x connects a session for a line
abbrev pub connects_on : ServerConfig → ℕ → ℕ → Name → Option Key → Option ℕ → Core → Doing
connects_on config line x service key request c =
    let e : Sessions = (c.circuits.circuit_at x).end.half.sessions in
    let d : Core = record c { seats = c.seats ++ record { line = line; circuit = x; id = least_free e; serial = suc e.made; key = key } ∷ [] } in
    acts (server_side config) d (local_at true d.circuits x (Connect service request))

abbrev pub opens : ServerConfig → ℕ → ℕ → Name → Name → Option Key → Option ℕ → Core → Doing
opens config line address node service key request c =
    then_doing (calls_to config address node c) (λ d. connects_on config line (circuit_to d address) service key request d)

-- Connect

-- a session on the circuit to the chosen address, which is called where none lives
abbrev pub connects_to : ServerConfig → Server → ℕ → Name → Best → ServerStep
connects_to config state line service b =
    let c : Core = state.core in
    let x : ℕ = circuit_to c b.from in
    let done : Doing = opens config line b.from b.node service None None c in
    cond (nat_eq x 0)
    (cond (nat_lt (living c.circuits) 8)
    (cond (nat_lt c.circuits.drawn 65535) (does state (Connected (next_id c.circuits) 1) done) (tells state IdsOut))
    (tells state CircuitsFull))
    (cond (has_room c x) (does state (Connected x (least_free (c.circuits.circuit_at x).end.half.sessions)) done) (tells state SessionsFull))

abbrev pub next_solicit : ℕ → ℕ
next_solicit n = (n + 1) % 65536

abbrev pub solicits_for : ServerConfig → Server → Name → ServerStep
solicits_for config state service = record {
  state = record state { solicits = next_solicit state.solicits };
  answer = NoService;
  frames = plain everyone 0 (OfNotice (SolicitNotice (record { id = next_solicit state.solicits; asker = config.name; service = service }))) ∷ [];
}

abbrev pub connect_event : ServerConfig → Server → ℕ → Name → ServerStep
connect_event config state line service =
    cond (line_exists config.lines line)
    (cond (has_session state.core line) (tells state Busy)
    (elim (best config.groups service state.core.moment state.heard) [
      | None ↦ solicits_for config state service
      | Some b ↦ connects_to config state line service b
    ]))
    (tells state NoLine)

abbrev pub heard_at : ServerConfig → Server → HeardAct → ServerStep
heard_at config state h = does state (Circuit h.answer) (acts (server_side config) state.core h.act)

abbrev pub hears_run : ServerConfig → Server → ℕ → Bool → Head → List Slot → Option Numbers → ServerStep
hears_run config state from wide h slots k =
    let s : ServerStep = heard_at config state (hear_run true state.core.circuits from wide h slots k state.core.moment) in
    record { state = s.state; answer = s.answer; frames = s.frames ++ told_stranger (server_side config) config.prompt state.core from h }

abbrev pub hears_message : ServerConfig → Server → ℕ → Message → Option Numbers → ServerStep
hears_message config state from (RunMessage h slots) k = hears_run config state from false h slots k
hears_message config state from (WideMessage h slots) k = hears_run config state from true h slots k
hears_message config state from (StartMessage master ask to source info) k =
    cond master
    (tells state (Circuit Foreign))
    (heard_at config state (hear_reply_at state.core.circuits from to source state.core.moment (agreed_by config.timing info)))
hears_message config state from (StopMessage master ask to source reason text) k =
    heard_at config state (hear_stop_at true state.core.circuits from to source state.core.moment reason)

abbrev pub hears_announcement : ServerConfig → Server → ℕ → Announcement → ServerStep
hears_announcement config state from a =
    tells (record state { heard = hear config.groups state.core.moment from a state.heard })
    (cond (refuses config.groups state.core.moment a state.heard) DirectoryFull (cond (meets config.groups a) Announced Apart))

abbrev pub status_frame : ℕ → Command → Outcome → OutFrame
status_frame to m o =
    plain to 0 (OfNotice (StatusNotice (record { incarnation = m.incarnation; request = m.request; outcome = o; node = m.node })))

abbrev pub key_of : Command → Key
key_of m = record { node = m.node; incarnation = m.incarnation; request = m.request }

abbrev pub asks_for : ServerConfig → Server → ℕ → Command → ServerStep
asks_for config state from m =
    let k : Kept = ask_answer (offered config) (key_of m) m.service state.queue in
    record {
      state = record state { queue = state.queue ++ Asks (key_of m) from m.service k ∷ [] };
      answer = KeptIs k;
      frames = status_frame from m (KeptAs k) ∷ [];
    }

abbrev pub cancelled : Server → ℕ → Command → List QueueEvent → ServerStep
cancelled state from m q = elim (kept_for (key_of m) q) [
  | None ↦ record { state = record state { queue = q }; answer = NotKept; frames = status_frame from m Unknown ∷ [] }
  | Some k ↦ record { state = record state { queue = q }; answer = KeptIs k; frames = status_frame from m (KeptAs k) ∷ [] }
]

abbrev pub hears_command : ServerConfig → Server → ℕ → Command → Action → ServerStep
hears_command config state from m Ask = asks_for config state from m
hears_command config state from m Cancel = cancelled state from m (state.queue ++ Cancels (key_of m) ∷ [])

abbrev pub hears_notice : ServerConfig → Server → ℕ → Notice → ServerStep
hears_notice config state from (AnnouncementNotice a) = hears_announcement config state from a
hears_notice config state from (CommandNotice m) = hears_command config state from m m.action
hears_notice config state from (ResponseNotice r) = tells state Noted
hears_notice config state from (StatusNotice s) = tells state Ignored
hears_notice config state from (SolicitNotice s) = tells state Ignored

abbrev pub hears_value : ServerConfig → Server → ℕ → Value → Option Numbers → ServerStep
hears_value config state from (OfCircuit m) k = hears_message config state from m k
hears_value config state from (OfNotice n) k = hears_notice config state from n

abbrev pub hears : ServerConfig → Server → ℕ → Reading → Option Numbers → ServerStep
hears config state from (Malformed field at) k = tells state (Bad field at)
hears config state from (Whole v) k =
    cond (nat_eq from everyone)
    (tells state Ignored)
    (hears_value config state from v k)

-- Avoid

-- the peer of a line's newest session leaves the directory
abbrev pub avoids_on : ServerConfig → Server → ℕ → ServerStep
avoids_on config state line =
    let there : Bool = line_exists config.lines line in
    let had : Bool = had_session state.core line in
    tells (record state { heard = cond there (cond had (avoid (peer_address state.core line) state.heard) state.heard) state.heard })
    (cond there (cond had Done Closed) NoLine)

-- Ready

abbrev pub readies_on : ServerConfig → Server → ℕ → Bool → ServerStep
readies_on config state line ready =
    let there : Bool = line_exists config.lines line in
    tells (record state { ready = cond there (updated state.ready line ready) state.ready }) (cond there Done NoLine)

-- Halt: no circuit lives behind it, and none is called any more

abbrev pub halts : ServerConfig → Server → ServerStep
halts config state = does (record state { halted = true }) Done (ends_all (server_side config) reasons.halted state.core)

-- an event, but for what follows every event

abbrev pub server_event : ServerConfig → Server → Event → ServerStep
server_event config state (Hears from payload k now) =
    hears config (with_core state (at_moment now state.core)) from payload k
server_event config state (Time now) = does state Done (passes_time (server_side config) (at_moment now state.core))
server_event config state (Connects line service) = cond state.halted (tells state Halted) (connect_event config state line service)
server_event config state (Puts line bytes) =
    said state (on_line config.lines state.core line (λ s. put_on (server_side config) state.core s bytes))
server_event config state (Sets line setting) =
    said state (on_line config.lines state.core line (λ s. set_on (server_side config) state.core s setting))
server_event config state (Takes line n) =
    said state (on_line config.lines state.core line (λ s. take_on (server_side config) state.core s n))
server_event config state (Attends line flag) =
    said state (on_line config.lines state.core line (λ s. attend_on (server_side config) state.core s flag))
server_event config state (Closes line) =
    said state (on_line config.lines state.core line (λ s. close_on (server_side config) state.core s))
server_event config state (Requests to id service) = tells state NotHere
server_event config state (Withdraws id) = tells state NotHere
server_event config state Announces = tells state NotHere
server_event config state (Avoids line) = avoids_on config state line
server_event config state (Readies line ready) = readies_on config state line ready
server_event config state Halts = halts config state

-- granted requests whose sessions have become free are finished
abbrev pub finish_one : Core → Option Key → Bool → List QueueEvent → List QueueEvent
finish_one c None ended q = q
finish_one c (Some k) ended q = cond (ended && is_granted (kept_for k q)) (q ++ Finishes k ∷ []) q

abbrev pub finish_all : Core → List Seat → List QueueEvent → List QueueEvent
finish_all c [] q = q
finish_all c (s ∷ ss) q = finish_all c ss (finish_one c s.key (over c s) q)

abbrev pub finished_requests : Server → Server
finished_requests state = record state { queue = finish_all state.core state.core.seats state.queue }

-- the grant pass
pub record Passing : Type 0 where
  pub state : Server
  pub frames : List OutFrame

abbrev pub grant_frame : Request → OutFrame
grant_frame r =
    plain r.from 0 (OfNotice (StatusNotice (record { incarnation = r.key.incarnation; request = r.key.request; outcome = KeptAs Granted; node = r.key.node })))

abbrev pub granting : ServerConfig → ℕ → Name → Passing → Request → Passing
granting config line service p r =
    let d : Doing = opens config line r.from r.key.node service (Some r.key) (Some r.key.request) p.state.core in
    record {
      state = record (p.state) { core = d.core; queue = p.state.queue ++ Grants r.key service ∷ [] };
      frames = p.frames ++ grant_frame r ∷ d.frames;
    }

-- the request that a line would grant now
abbrev pub fitting : Core → Option Request → Option Request
fitting c None = None
fitting c (Some r) = cond (can_open c r.from) (Some r) None

abbrev pub grantable_on : Core → List QueueEvent → ℕ → Name → Option Request
grantable_on c queue line service = cond (has_session c line) None (fitting c (next_request service queue))

-- a line that isn't ready grants nothing, and nor does a halted server
abbrev pub may_grant : Server → ℕ → Bool
may_grant state line = not state.halted && state.ready line

abbrev pub grantable : Server → ℕ → Option Name → Option Request
grantable state line None = None
grantable state line (Some service) = cond (may_grant state line) (grantable_on state.core state.queue line service) None

abbrev pub grants_by : ServerConfig → ℕ → Option Name → Option Request → Passing → Passing
grants_by config line (Some service) (Some r) p = granting config line service p r
grants_by config line (Some service) None p = p
grants_by config line None r p = p

abbrev pub grant_line : ServerConfig → Passing → ℕ → Passing
grant_line config p line =
    grants_by config line (offer_on line config.offers) (grantable p.state line (offer_on line config.offers)) p

abbrev pub grant_lines : ServerConfig → List ℕ → Passing → Passing
grant_lines config [] p = p
grant_lines config (line ∷ lines) p = grant_lines config lines (grant_line config p line)

abbrev pub grant_pass : ServerConfig → Server → Passing
grant_pass config state = grant_lines config (upwards 0 config.lines) (record { state = state; frames = [] })

-- one event of the server

abbrev pub passed : ServerConfig → ServerStep → ServerStep
passed config s =
    let p : Passing = grant_pass config (finished_requests s.state) in
    record { state = p.state; answer = s.answer; frames = s.frames ++ p.frames }

abbrev pub server_step : ServerConfig → Server → Event → ServerStep
server_step config state e = passed config (server_event config state e)

-- the sessions that have become free, in any way
abbrev pub finished : Server → ℕ
finished state = saturated_count (ended state.core)
