-- A history of a cell is a run of its machine.
use Rattle.std.specs.Prelude.{◌≡◌, ℕ, List, map}
use Rattle.lat_base.specs.declared.outbox.OutFrame.{OutFrame}
use Rattle.lat_past.specs.declared.past.Past.{Past}
use Rattle.lat_history.specs.History.{run_of, IsLegal, IsRun, FramesOf}
use Rattle.lat_machines.specs.server.Queue.{LegalQueue}
use Rattle.lat_machines.specs.server.Server.{Server, open_server}
use Rattle.lat_machines.specs.node.Node.{Node, open_node}
use Rattle.lat_machines.specs.world.Machines.{Setups, run, open_machines}
use Rattle.lat_machines.specs.world.Safe.{Fit, Safe}
use Rattle.lat_machines.specs.world.Histories.{server_run, server_frames, server_answers}
use Rattle.lat_machines.specs.world.Histories.{RatedEvent, node_run, node_frames, node_answers}
use Rattle.lat_machines.specs.world.Histories.{Passed, server_part, node_part, moves_of, Honest}
use Rattle.lat_circuit.specs.Frames.{frame_view}
use Rattle.lat_payload.specs.Frames.{expected}
use Rattle.lat_lines.specs.AnswerValues.{answer_of}
use Rattle.lat_lines.specs.Events.{event_shown}
use Rattle.lat_server.specs.Kept as servers
use Rattle.lat_server.specs.Stands as server
use Rattle.lat_node.specs.Kept as nodes
use Rattle.lat_node.specs.Stands as node
use Rattle.lat_switch.specs.Core as switch
use Rattle.lat_switch.specs.Kept as switches
use Rattle.lat_switch.specs.Runs.{inner_events}
use Rattle.lat_switch.specs.Stands as switched
use Rattle.lat_switch.specs.Switch.{Switch}
use Rattle.lat_tariff.specs.declared.tariff.Rule.{Rule}
use Rattle.lat_tariff.specs.Own.{OffersTariff}
use Rattle.lat_runs.specs.Runs.{events_told, events_of, answers_of, IsRated, AreAllowed, AreOwnEach}

-- where the run of a history's events leads
abbrev pub server_behind : server.Machine → List Past → server.Machine
server_behind m history = record { config = m.config; state = server_run m.config (events_of history) m.state }

-- a server's machine, the answers of a history and the frames of it are those of the run
pub record IsServerRun (m : server.Machine) (history : List Past) : Type 0 where
  pub state : run_of server.next m history ≡ server_behind m history
  pub answers : IsLegal server.next server.answered m history →
      answers_of history ≡ map answer_of (server_answers m.config (events_of history) m.state)
  pub frames : (sent : List OutFrame) → FramesOf server.next server.Frames m history sent →
      map frame_view sent ≡ map expected (server_frames m.config (events_of history) m.state)

abbrev pub ServersRun : Type 0
ServersRun = (m : server.Machine) (history : List Past) → IsServerRun m history

abbrev pub node_behind : {H : Type 0} → node.Machine H → List RatedEvent → node.Machine H
node_behind m rated = record { config = m.config; rule = m.rule; state = node_run m.config rated m.state }

-- frames are those of the run with some ratings that may be given
pub record AreNodeFrames {H : Type 0} (may : H → ℕ → ℕ → ℕ → ℕ → Type 0) (m : node.Machine H) (history : List Past)
    (sent : List OutFrame) : Type 0 where
  pub rated : List RatedEvent
  pub events : IsRated rated history
  pub allowed : AreAllowed (may m.rule) m.config rated m.state
  pub same : map frame_view sent ≡ map expected (node_frames m.config rated m.state)

-- a node's machine and the answers of a history are those of the run with whatever ratings
pub record IsNodeRun {H : Type 0} (may : H → ℕ → ℕ → ℕ → ℕ → Type 0) (m : node.Machine H) (history : List Past)
    : Type 0 where
  pub state : (rated : List RatedEvent) → IsRated rated history → run_of node.next m history ≡ node_behind m rated
  pub answers : (rated : List RatedEvent) → IsRated rated history → IsLegal node.next node.answered m history →
      answers_of history ≡ map answer_of (node_answers m.config rated m.state)
  pub frames : (sent : List OutFrame) → FramesOf node.next (node.Frames may) m history sent →
      AreNodeFrames may m history sent

abbrev pub NodesRun : {H : Type 0} → (H → ℕ → ℕ → ℕ → ℕ → Type 0) → Type 0
NodesRun {H = H} may = (m : node.Machine H) (history : List Past) → IsNodeRun may m history

-- frames are those of the run with some ratings that the services' own rules may give
pub record AreTariffFrames {R : Type 0} (may : R → ℕ → ℕ → ℕ → Type 0) (m : node.Machine (List (Rule R)))
    (history : List Past) (sent : List OutFrame) : Type 0 where
  pub rated : List RatedEvent
  pub events : IsRated rated history
  pub own : AreOwnEach may m.rule m.config rated m.state
  pub same : map frame_view sent ≡ map expected (node_frames m.config rated m.state)

-- The machine and the answers of a history are those of the run with whatever ratings. Where the node offers the services of its
-- tariff, each rating in the frames may have been given by the service's own rule
pub record IsTariffRun {R : Type 0} (may : R → ℕ → ℕ → ℕ → Type 0)
    (tariffs : List (Rule R) → ℕ → ℕ → ℕ → ℕ → Type 0) (m : node.Machine (List (Rule R))) (history : List Past)
    : Type 0 where
  pub run : IsNodeRun tariffs m history
  pub frames : (sent : List OutFrame) → OffersTariff m → FramesOf node.next (node.Frames tariffs) m history sent →
      AreTariffFrames may m history sent

abbrev pub TariffsRun : {R : Type 0} → (R → ℕ → ℕ → ℕ → Type 0) → (List (Rule R) → ℕ → ℕ → ℕ → ℕ → Type 0) → Type 0
TariffsRun {R = R} may tariffs =
    (m : node.Machine (List (Rule R))) (history : List Past) → IsTariffRun may tariffs m history

-- the server in a switch is where the run of the inner events leads
abbrev pub inner_behind : Switch → List Past → server.Machine
inner_behind s history = record {
  config = s.inner.config;
  state = server_run s.inner.config (map event_shown (inner_events s (events_told history))) s.inner.state;
}

pub record IsSwitchRun (s : Switch) (history : List Past) : Type 0 where
  pub state : (run_of switch.next s history).inner ≡ inner_behind s history
  pub frames : (sent : List OutFrame) → FramesOf switch.next switch.Frames s history sent →
      map frame_view sent ≡
      map expected (server_frames s.inner.config (map event_shown (inner_events s (events_told history))) s.inner.state)

abbrev pub SwitchesRun : Type 0
SwitchesRun = (s : Switch) (history : List Past) → IsSwitchRun s history

-- a core stands for where the run leads from the opening of its configuration, and the answers kept are the run's
pub record IsServerCell (core : servers.Kept) (history : List Past) : Type 0 where
  pub state : server.IsMachine core (server_behind (server.opening core) history)
  pub answers : answers_of history ≡
      map answer_of (server_answers (servers.config_of core) (events_of history) (open_server (servers.config_of core)))

abbrev pub ServerCellsRun : Type 0
ServerCellsRun =
    (core : servers.Kept) (history : List Past) →
    IsRun server.IsMade server.opening server.IsMachine server.next server.answered core history →
    IsServerCell core history

pub record IsNodeCell {H : Type 0} (core : nodes.Kept H) (history : List Past) (rated : List RatedEvent) : Type 0 where
  pub state : node.IsMachine core (node_behind (node.opening core) rated)
  pub answers : answers_of history ≡
      map answer_of (node_answers (nodes.config_of core) rated (open_node (nodes.config_of core)))

abbrev pub NodeCellsRun : Type 0 → Type 0
NodeCellsRun H =
    (core : nodes.Kept H) (history : List Past) (rated : List RatedEvent) →
    IsRun node.IsMade node.opening node.IsMachine node.next node.answered core history →
    IsRated rated history →
    IsNodeCell core history rated

abbrev pub TariffCellsRun : Type 0 → Type 0
TariffCellsRun R = NodeCellsRun (List (Rule R))

abbrev pub SwitchCellsRun : Type 0
SwitchCellsRun =
    (core : switches.Kept) (history : List Past) →
    IsRun switch.IsMade switch.opening switched.Stands switch.next switch.answered core history →
    server.IsMachine core.inner (inner_behind (switch.opening core) history)

abbrev pub ServerQueuesAreLegal : Type 0
ServerQueuesAreLegal =
    (m : server.Machine) (history : List Past) →
    server.IsMade m →
    LegalQueue (run_of server.next m history).state.queue

abbrev pub SwitchQueuesAreLegal : Type 0
SwitchQueuesAreLegal =
    (s : Switch) (history : List Past) →
    switch.IsMade s →
    LegalQueue (run_of switch.next s history).inner.state.queue

-- the machines of two setups, as they are made
abbrev pub server_of : Setups → server.Machine
server_of u = record { config = u.server; state = open_server u.server }

abbrev pub node_of : {H : Type 0} → Setups → H → node.Machine H
node_of u rule = record { config = u.node; rule = rule; state = open_node u.node }

-- these are the states of the world that histories in this order passed in, and it is safe
pub record AreAWorld (u : Setups) (order : List Passed) (ours : Server) (theirs : Node) : Type 0 where
  pub server_state : ours ≡ (run u (moves_of order) (open_machines u)).server
  pub node_state : theirs ≡ (run u (moves_of order) (open_machines u)).node
  pub safe : Safe u (run u (moves_of order) (open_machines u))

-- Of a server's history, and one of a node that is in this state behind it: where both passed in this order and the carrier
-- was honest, the two states are those of a world
abbrev pub PassInAWorld : (Setups → List Past → Node) → Type 0
PassInAWorld its_state =
    (u : Setups) (order : List Passed) (ours theirs : List Past) →
    Fit u →
    server_part order ≡ events_of ours →
    IsRated (node_part order) theirs →
    Honest u order (open_machines u) →
    AreAWorld u order (run_of server.next (server_of u) ours).state (its_state u theirs)

abbrev pub CellsAreAWorld : Type 0 → Type 0
CellsAreAWorld H = (rule : H) → PassInAWorld (λ u theirs. (run_of node.next (node_of u rule) theirs).state)

abbrev pub TariffCellsAreAWorld : Type 0 → Type 0
TariffCellsAreAWorld R = CellsAreAWorld (List (Rule R))
