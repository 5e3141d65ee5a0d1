-- A refused event grants nothing. Where it changes something, that is the solicit id or one event of the queue, and one
-- frame goes out.
use Rattle.std.specs.Prelude.{◌≡◌, ◌≢◌, ℕ, ◌+◌, ◌%◌, ◌<◌, Bool, true, false, List, [], ◌∷◌, ◌++◌, Option, Some, cond}
use Rattle.lat_machines.specs.values.Names.{Name}
use Rattle.lat_machines.specs.values.Addresses.{everyone}
use Rattle.lat_machines.specs.values.Messages.{StartInfo, StartMessage, StopMessage}
use Rattle.lat_machines.specs.values.Notices.{QueueFull, NoService, RecordsFull, Outcome, KeptAs, Unknown, Action, Ask, Cancel, Command, CommandNotice, StatusNotice, SolicitNotice}
use Rattle.lat_machines.specs.values.Frames.{OfCircuit, OfNotice, Whole, OutFrame, plain}
use Rattle.lat_machines.specs.values.Events.{Numbers, Event, Hears, Connects}
use Rattle.lat_machines.specs.values.Answers.{Answer, StartRefused, KeptIs, NotKept}
use Rattle.lat_machines.specs.values.Answers as Answers
use Rattle.lat_machines.specs.server.Queue.{QueueEvent, Asks, Cancels, Request, waits}
use Rattle.lat_machines.specs.server.Records.{kept_now, record_of}
use Rattle.lat_machines.specs.server.Server.{ServerConfig, Server, ServerStep, open_server, key_of}
use Rattle.lat_machines.specs.node.Node.{NodeConfig, Node, NodeStep, open_node, makes_way}
use Rattle.lat_machines.specs.world.Histories.{server_run, RatedEvent, node_run}
use Rattle.lat_machines.specs.world.Refusals.{server_moved, node_moved, server_after, node_after}
use Rattle.lat_model.specs.Reasons as reasons

-- a machine in front of an event that comes behind a history, at its moment
abbrev pub server_before : ServerConfig → List Event → Event → Server
server_before config events e = server_moved e (server_run config events (open_server config))

abbrev pub node_before : NodeConfig → List RatedEvent → Event → Node
node_before config events e = node_moved e (node_run config events (open_node config))

-- a connect that no node serves: a Solicit goes to everyone under the next id
abbrev pub solicits_alone : ServerConfig → Server → Name → ServerStep
solicits_alone config state service =
    let id : ℕ = (state.solicits + 1) % 65536 in
    record {
      state = record state { solicits = id };
      answer = Answers.NoService;
      frames = plain everyone 0 (OfNotice (SolicitNotice (record { id = id; asker = config.name; service = service }))) ∷ [];
    }

pub record IsUnserved (config : ServerConfig) (state : Server) (e : Event) (s : ServerStep) : Type 0 where
  pub line : ℕ
  pub service : Name
  pub event : e ≡ Connects line service
  pub step : s ≡ solicits_alone config state service

abbrev pub UnservedGrantsNothing : Type 0
UnservedGrantsNothing =
    (config : ServerConfig) (events : List Event) (e : Event) →
    0 < config.timing.sessions →
    (server_after config events e).answer ≡ Answers.NoService →
    IsUnserved config (server_before config events e) e (server_after config events e)

-- a command: the queue is told of it, and one Status goes back to its sender
abbrev pub told_by : ℕ → Command → Action → Answer → QueueEvent
told_by from m Ask (KeptIs k) = Asks (key_of m) from m.service k
told_by from m action a = Cancels (key_of m)

abbrev pub outcome_of : Answer → Outcome
outcome_of (KeptIs k) = KeptAs k
outcome_of a = Unknown

abbrev pub status_to : ℕ → Command → Outcome → OutFrame
status_to from m o =
    plain from 0 (OfNotice (StatusNotice (record { incarnation = m.incarnation; request = m.request; outcome = o; node = m.node })))

abbrev pub notes_alone : Server → ℕ → Command → Answer → ServerStep
notes_alone state from m a = record {
  state = record state { queue = state.queue ++ told_by from m m.action a ∷ [] };
  answer = a;
  frames = status_to from m (outcome_of a) ∷ [];
}

abbrev pub command_heard : ℕ → Command → Option Numbers → ℕ → Event
command_heard from m numbers now = Hears from (Whole (OfNotice (CommandNotice m))) numbers now

pub record IsNoted (state : Server) (e : Event) (s : ServerStep) : Type 0 where
  pub from : ℕ
  pub command : Command
  pub numbers : Option Numbers
  pub now : ℕ
  pub event : e ≡ command_heard from command numbers now
  pub step : s ≡ notes_alone state from command s.answer

-- the answers that refuse a command
abbrev pub refuses_command : Answer → Bool
refuses_command NotKept = true
refuses_command (KeptIs QueueFull) = true
refuses_command (KeptIs NoService) = true
refuses_command (KeptIs RecordsFull) = true
refuses_command a = false

abbrev pub RefusedCommandsGrantNothing : Type 0
RefusedCommandsGrantNothing =
    (config : ServerConfig) (events : List Event) (e : Event) →
    0 < config.timing.sessions →
    refuses_command (server_after config events e).answer ≡ true →
    IsNoted (server_before config events e) e (server_after config events e)

-- a command whose key is known, but for the cancel of a request that waits, is answered from its record
abbrev pub answers_again : Server → ℕ → Command → Request → ServerStep
answers_again state from m r = notes_alone state from m (KeptIs (kept_now state.queue r))

abbrev pub RepeatedCommandsGrantNothing : Type 0
RepeatedCommandsGrantNothing =
    (config : ServerConfig) (events : List Event) (from now : ℕ) (m : Command) (numbers : Option Numbers) (r : Request) →
    0 < config.timing.sessions →
    from ≢ everyone →
    record_of (key_of m) (server_before config events (command_heard from m numbers now)).queue ≡ Some r →
    (m.action ≡ Cancel → waits r ≡ false) →
    server_after config events (command_heard from m numbers now)
    ≡ answers_again (server_before config events (command_heard from m numbers now)) from m r

-- a START that a node refuses: a STOP goes back, under the id that the START came with
abbrev pub stops_alone : Node → ℕ → ℕ → ℕ → NodeStep
stops_alone state from source reason = record {
  state = state;
  answer = StartRefused;
  frames = plain from 0 (OfCircuit (StopMessage false false source 0 reason [])) ∷ [];
}

-- A halted node is halted still; another one wants resources, and where it is prompt it has ended the slaves that the START
-- follows
abbrev pub turned_away : NodeConfig → Node → ℕ → ℕ → NodeStep
turned_away config state from source =
    cond state.halted
    (stops_alone state from source reasons.halted)
    (stops_alone (makes_way config state from source) from source reasons.no_resources)

pub record IsTurnedAway (config : NodeConfig) (state : Node) (e : Event) (s : NodeStep) : Type 0 where
  pub from : ℕ
  pub ask : Bool
  pub to : ℕ
  pub source : ℕ
  pub info : StartInfo
  pub numbers : Option Numbers
  pub now : ℕ
  pub event : e ≡ Hears from (Whole (OfCircuit (StartMessage true ask to source info))) numbers now
  pub step : s ≡ turned_away config state from source

abbrev pub RefusedStartsStop : Type 0
RefusedStartsStop =
    (config : NodeConfig) (events : List RatedEvent) (rates : List ℕ) (e : Event) →
    (node_after config events rates e).answer ≡ StartRefused →
    IsTurnedAway config (node_before config events e) e (node_after config events rates e)
