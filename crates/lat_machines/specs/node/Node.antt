-- The node: its state, and what each event makes of it. The ratings that its hook gives come as a list, in the order
-- in which they are asked for; nothing but frames depends on them.
use Rattle.std.specs.Prelude.{◌≡◌, ℕ, suc, ◌+◌, Bool, true, false, not, cond, ◌&&◌, List, [], ◌∷◌, ◌++◌, length, Option, Some, None, nat_eq, find, filter}
use Rattle.std.specs.List.{list_any}
use Rattle.lat_model.specs.sessions.Slots.{Slot}
use Rattle.lat_model.specs.sessions.Session.{Session, waits}
use Rattle.lat_model.specs.Lists.{updated, upwards, least, Each}
use Rattle.lat_model.specs.sessions.Sessions.{named}
use Rattle.lat_model.specs.sessions.Calls.{Call, RejectAsk}
use Rattle.lat_model.specs.ends.End.{lives}
use Rattle.lat_model.specs.circuits.Ids.{ids}
use Rattle.lat_machines.specs.values.Names.{Name, same}
use Rattle.lat_machines.specs.values.Addresses.{everyone}
use Rattle.lat_machines.specs.values.Messages.{Head, StartInfo, Message, RunMessage, WideMessage, StartMessage, StopMessage}
use Rattle.lat_machines.specs.values.Notices.{Action, Ask, Cancel, Service, Notice, AnnouncementNotice, CommandNotice, StatusNotice, SolicitNotice, ResponseNotice}
use Rattle.lat_machines.specs.values.Frames.{Value, OfCircuit, OfNotice, Reading, Whole, Malformed, OutFrame, plain}
use Rattle.lat_machines.specs.values.Timing.{Timing, agreed_by}
use Rattle.lat_machines.specs.values.Events.{Numbers, Event, Hears, Time, Connects, Puts, Sets, Takes, Attends, Closes, Requests, Withdraws, Announces, Avoids, Readies, Halts}
use Rattle.lat_machines.specs.values.Answers.{Again, Foreign, Answer, Circuit, Started, StartRefused, Noted, Solicited, Ignored, Bad, Done, Closed, IdUsed, NotHere}
use Rattle.lat_machines.specs.cores.Hearing.{HeardAct, names, hear_run, hear_stop_at, StartFact, Repeats, Makes, Refuses, start_fact, start_at, outlive}
use Rattle.lat_machines.specs.cores.Acts.{local_at, stray_at}
use Rattle.lat_machines.specs.cores.Cores.{Core, Side, setup_of, open_core, Doing, acts, at_moment, passes_time, ends_all, told_stranger, with_circuits}
use Rattle.lat_machines.specs.cores.Lines.{has_session, used, ended, saturated_count}
use Rattle.lat_machines.specs.cores.LineCalls.{Said, put_on, set_on, attend_on, take_on, close_on, on_line}
use Rattle.lat_model.specs.sessions.Calls as Calls
use Rattle.lat_model.specs.Reasons as reasons

pub record NodeConfig : Type 0 where
  pub own : ℕ
  pub name : Name
  pub incarnation : ℕ
  pub lines : ℕ
  pub services : List Name
  pub timer : ℕ
  pub groups : List ℕ
  pub timing : Timing
  pub prompt : Bool  -- it tells a stranger at once that no such circuit lives here
  pub first : ℕ  -- the id of its first circuit, 1 to 65,535

-- a request, as it was first made
pub record Requested : Type 0 where
  pub id : ℕ
  pub to : ℕ
  pub service : Name

pub record Node : Type 0 where
  pub core : Core
  pub requests : List Requested
  pub accepted : List ℕ  -- the requests for which a start was accepted
  pub turned_away : ℕ  -- asked sessions that became free without a line
  pub halted : Bool

pub record NodeStep : Type 0 where
  pub state : Node
  pub answer : Answer
  pub frames : List OutFrame

abbrev pub node_side : NodeConfig → Side
node_side config = record { server = false; timing = config.timing; name = config.name }

abbrev pub open_node : NodeConfig → Node
open_node config = record { core = open_core (node_side config) config.own config.first; requests = []; accepted = []; turned_away = 0; halted = false }

abbrev pub tells : Node → Answer → NodeStep
tells state a = record { state = state; answer = a; frames = [] }

abbrev pub with_core : Node → Core → Node
with_core state c = record state { core = c }

abbrev pub does : Node → Answer → Doing → NodeStep
does state a d = record { state = with_core state d.core; answer = a; frames = d.frames }

abbrev pub said : Node → Said → NodeStep
said state s = tells (with_core state s.core) s.answer

abbrev pub request_of : ℕ → Node → Option Requested
request_of id state = find (λ (r : Requested). nat_eq r.id id) state.requests

-- answering asked sessions

pub data Verdict : Type 0 where
  Accepts : (line : ℕ) → Verdict
  Rejects : (reason : ℕ) → Verdict

-- the least line without a session; 0 where there is none
abbrev pub free_line : NodeConfig → Core → ℕ
free_line config c = least (λ line. not (has_session c line)) (upwards 0 config.lines)

abbrev pub on_free_line : ℕ → Verdict
on_free_line line = cond (nat_eq line 0) (Rejects reasons.no_room) (Accepts line)

abbrev pub was_requested : Name → Option Requested → Bool
was_requested service None = false
was_requested service (Some r) = same r.service service

abbrev pub is_offered : NodeConfig → Name → Bool
is_offered config service = list_any (same service) config.services

abbrev pub verdict : NodeConfig → Node → Name → Option ℕ → Verdict
verdict config state service None =
    cond (is_offered config service)
    (on_free_line (free_line config state.core))
    (Rejects reasons.not_offered)
verdict config state service (Some id) =
    cond (was_requested service (request_of id state) && not (list_any (nat_eq id) state.accepted))
    (on_free_line (free_line config state.core))
    (Rejects reasons.not_requested)

abbrev pub accepted_too : Option ℕ → List ℕ → List ℕ
accepted_too None ids = ids
accepted_too (Some id) ids = ids ++ id ∷ []

abbrev pub local_call : NodeConfig → ℕ → Call → Core → Core
local_call config x k c = (acts (node_side config) c (local_at false c.circuits x k)).core

abbrev pub judged : NodeConfig → Node → ℕ → ℕ → Option ℕ → Verdict → Node
judged config state x id request (Rejects reason) = record state {
  core = local_call config x (RejectAsk id reason) state.core;
  turned_away = suc state.turned_away;
}
judged config state x id request (Accepts line) =
    let c : Core = local_call config x (Calls.Answer id) state.core in
    record state {
      core = record c {
        seats = c.seats ++ record {
          line = line;
          circuit = x;
          id = id;
          serial = (c.circuits.circuit_at x).end.half.sessions.at_id id;
          key = None;
        } ∷ [];
      };
      accepted = accepted_too request state.accepted;
    }

abbrev pub asked_at : Node → ℕ → ℕ → Session
asked_at state x id = named (state.core.circuits.circuit_at x).end.half.sessions id

abbrev pub answers_one : NodeConfig → ℕ → Node → ℕ → Node
answers_one config x state id =
    let s : Session = asked_at state x id in
    cond (waits s) (judged config state x id s.request (verdict config state s.service s.request)) state

-- by rising id
abbrev pub answers_in : NodeConfig → ℕ → List ℕ → Node → Node
answers_in config x [] state = state
answers_in config x (id ∷ ids) state = answers_in config x ids (answers_one config x state id)

-- the sessions that wait for an answer
abbrev pub asked_on : Node → ℕ → ℕ
asked_on state x = length (filter (λ id. waits (asked_at state x id)) (upwards 0 64))

-- where the RUN has ended the circuit, nobody is answered any more
abbrev pub answers_asked : NodeConfig → ℕ → Node → Node
answers_asked config x state =
    cond (lives (state.core.circuits.circuit_at x).end)
    (answers_in config x (upwards 0 64) state)
    (record state { turned_away = state.turned_away + asked_on state x })

-- announcing

abbrev pub rated : List Name → List ℕ → List Service
rated [] rates = []
rated (s ∷ ss) [] = record { rating = 0; name = s; description = [] } ∷ rated ss []
rated (s ∷ ss) (r ∷ rs) = record { rating = r; name = s; description = [] } ∷ rated ss rs

abbrev pub announcement : NodeConfig → List ℕ → OutFrame
announcement config rates =
    plain everyone 0 (OfNotice (AnnouncementNotice (record {
      timer = config.timer;
      incarnation = config.incarnation;
      groups = config.groups;
      node = config.name;
      description = [];
      services = rated config.services rates;
    })))

abbrev pub first_rate : List ℕ → ℕ
first_rate [] = 0
first_rate (r ∷ rs) = r

abbrev pub rest_rates : List ℕ → List ℕ
rest_rates [] = []
rest_rates (r ∷ rs) = rs

abbrev pub response : NodeConfig → ℕ → ℕ → Name → ℕ → OutFrame
response config to id service rate =
    plain to 0 (OfNotice (ResponseNotice (record { id = id; node = config.name; service = service; rating = rate; timer = config.timer })))

abbrev pub heard_at : NodeConfig → Node → HeardAct → NodeStep
heard_at config state h = does state (Circuit h.answer) (acts (node_side config) state.core h.act)

-- the asked sessions of a circuit are answered behind all that its RUN did
abbrev pub then_answers : NodeConfig → Bool → ℕ → NodeStep → NodeStep
then_answers config named x s = record {
  state = cond named (answers_asked config x s.state) s.state;
  answer = s.answer;
  frames = s.frames;
}

abbrev pub hears_run : NodeConfig → Node → ℕ → Bool → Head → List Slot → Option Numbers → NodeStep
hears_run config state from wide h slots k =
    let s : NodeStep = then_answers config (names state.core.circuits from h.to h.from) h.to (heard_at config state (hear_run false state.core.circuits from wide h slots k state.core.moment)) in
    record { state = s.state; answer = s.answer; frames = s.frames ++ told_stranger (node_side config) config.prompt state.core from h }

abbrev pub names_for : StartFact → Name → Core → Core
names_for (Makes k) name c = record c { names = updated c.names k name }
names_for (Repeats k) name c = c
names_for Refuses name c = c

abbrev pub start_answer : StartFact → Answer
start_answer (Makes k) = Started k
start_answer (Repeats k) = Circuit Again
start_answer Refuses = StartRefused

abbrev pub hears_start : NodeConfig → Node → ℕ → ℕ → StartInfo → StartFact → NodeStep
hears_start config state from source info fact =
    let c : Core = names_for fact info.name state.core in
    does state (start_answer fact)
    (acts (node_side config) c
    (start_at (setup_of config.timing) c.circuits from source c.moment (agreed_by config.timing info) fact))

-- a prompt node first ends the slaves that a START follows
abbrev pub makes_way : NodeConfig → Node → ℕ → ℕ → Node
makes_way config state from source =
    with_core state (with_circuits state.core (cond config.prompt (outlive from source (ids state.core.circuits) state.core.circuits) state.core.circuits))

abbrev pub starts : NodeConfig → Node → ℕ → ℕ → StartInfo → NodeStep
starts config state from source info = hears_start config state from source info (start_fact state.core.circuits from source)

-- a halted node makes no circuit
abbrev pub turns_away : NodeConfig → Node → ℕ → ℕ → NodeStep
turns_away config state from source =
    does state StartRefused (acts (node_side config) state.core (stray_at false state.core.circuits from source 0 reasons.halted))

abbrev pub hears_message : NodeConfig → Node → ℕ → Message → Option Numbers → NodeStep
hears_message config state from (RunMessage h slots) k = hears_run config state from false h slots k
hears_message config state from (WideMessage h slots) k = hears_run config state from true h slots k
hears_message config state from (StartMessage master ask to source info) k =
    cond master
    (cond state.halted (turns_away config state from source) (starts config (makes_way config state from source) from source info))
    (tells state (Circuit Foreign))
hears_message config state from (StopMessage master ask to source reason text) k =
    heard_at config state (hear_stop_at false state.core.circuits from to source state.core.moment reason)

abbrev pub solicited : NodeConfig → List ℕ → Node → ℕ → ℕ → Option Name → NodeStep
solicited config rates state from id None = tells state Ignored
solicited config rates state from id (Some service) = record {
  state = state;
  answer = Solicited;
  frames = cond state.halted [] (response config from id service (first_rate rates) ∷ announcement config (rest_rates rates) ∷ []);
}

abbrev pub hears_notice : NodeConfig → List ℕ → Node → ℕ → Notice → NodeStep
hears_notice config rates state from (StatusNotice s) = tells state Noted
hears_notice config rates state from (SolicitNotice s) =
    solicited config rates state from s.id (find (same s.service) config.services)
hears_notice config rates state from (AnnouncementNotice a) = tells state Ignored
hears_notice config rates state from (CommandNotice m) = tells state Ignored
hears_notice config rates state from (ResponseNotice r) = tells state Ignored

abbrev pub hears_value : NodeConfig → List ℕ → Node → ℕ → Value → Option Numbers → NodeStep
hears_value config rates state from (OfCircuit m) k = hears_message config state from m k
hears_value config rates state from (OfNotice n) k = hears_notice config rates state from n

abbrev pub hears : NodeConfig → List ℕ → Node → ℕ → Reading → Option Numbers → NodeStep
hears config rates state from (Malformed field at) k = tells state (Bad field at)
hears config rates state from (Whole v) k =
    cond (nat_eq from everyone)
    (tells state Ignored)
    (hears_value config rates state from v k)

-- requests

abbrev pub command_frame : NodeConfig → ℕ → ℕ → Action → Name → OutFrame
command_frame config to id action service =
    plain to 0 (OfNotice (CommandNotice (record { incarnation = config.incarnation; request = id; action = action; node = config.name; service = service })))

abbrev pub requests_again : NodeConfig → Node → ℕ → ℕ → Name → Option Requested → NodeStep
requests_again config state to id service None = record {
  state = record state { requests = state.requests ++ record { id = id; to = to; service = service } ∷ [] };
  answer = Done;
  frames = command_frame config to id Ask service ∷ [];
}
requests_again config state to id service (Some r) =
    cond (nat_eq r.to to && same r.service service)
    (record { state = state; answer = Done; frames = command_frame config to id Ask service ∷ [] })
    (tells state IdUsed)

abbrev pub withdraws : NodeConfig → Node → Option Requested → NodeStep
withdraws config state None = tells state Closed
withdraws config state (Some r) = record {
  state = state;
  answer = Done;
  frames = command_frame config r.to r.id Cancel r.service ∷ [];
}

-- Halt: no circuit lives behind it, none is made any more, and an announcement says that no service is offered

abbrev pub farewell : NodeConfig → Bool → List OutFrame
farewell config true = []
farewell config false = announcement (record config { services = [] }) [] ∷ []

abbrev pub halts : NodeConfig → Node → NodeStep
halts config state =
    let d : Doing = ends_all (node_side config) reasons.halted state.core in
    record {
      state = record state { core = d.core; halted = true };
      answer = Done;
      frames = d.frames ++ farewell config state.halted;
    }

-- one event of the node

abbrev pub node_step : NodeConfig → List ℕ → Node → Event → NodeStep
node_step config rates state (Hears from payload k now) =
    hears config rates (with_core state (at_moment now state.core)) from payload k
node_step config rates state (Time now) = does state Done (passes_time (node_side config) (at_moment now state.core))
node_step config rates state (Connects line service) = tells state NotHere
node_step config rates state (Puts line bytes) =
    said state (on_line config.lines state.core line (λ s. put_on (node_side config) state.core s bytes))
node_step config rates state (Sets line setting) =
    said state (on_line config.lines state.core line (λ s. set_on (node_side config) state.core s setting))
node_step config rates state (Takes line n) =
    said state (on_line config.lines state.core line (λ s. take_on (node_side config) state.core s n))
node_step config rates state (Attends line flag) =
    said state (on_line config.lines state.core line (λ s. attend_on (node_side config) state.core s flag))
node_step config rates state (Closes line) =
    said state (on_line config.lines state.core line (λ s. close_on (node_side config) state.core s))
node_step config rates state (Requests to id service) = requests_again config state to id service (request_of id state)
node_step config rates state (Withdraws id) = withdraws config state (request_of id state)
node_step config rates state Announces = record {
  state = state;
  answer = Done;
  frames = cond state.halted [] (announcement config rates ∷ []);
}
node_step config rates state (Avoids line) = tells state NotHere
node_step config rates state (Readies line ready) = tells state NotHere
node_step config rates state Halts = halts config state

-- two steps with different ratings: state and answer are the same
pub record SameButFrames (a : NodeStep) (b : NodeStep) : Type 0 where
  pub state : a.state ≡ b.state
  pub answer : a.answer ≡ b.answer

-- the sessions that have become free, in any way
abbrev pub finished : Node → ℕ
finished state = saturated_count (ended state.core + state.turned_away)

-- the ratings of one event: as many as it asks for, each one that the hook allows at the lines then held

abbrev pub rates_of : NodeConfig → Answer → Event → ℕ
rates_of config a Announces = length config.services
rates_of config Solicited e = suc (length config.services)
rates_of config a e = 0

pub record Allowed (allows : ℕ → ℕ → ℕ → Type 0) (config : NodeConfig) (state : Node) (e : Event) (rates : List ℕ) : Type 0 where
  pub count : length rates ≡ cond state.halted 0 (rates_of config (node_step config rates state e).answer e)
  pub each : Each (allows (used state.core) config.lines) rates

-- the frames that may go out at an event
abbrev pub NodeFrames : (ℕ → ℕ → ℕ → Type 0) → NodeConfig → Node → Event → List OutFrame → Type 0
NodeFrames allows config state e frames =
    (rates : List ℕ) × Allowed allows config state e rates × (frames ≡ (node_step config rates state e).frames)
