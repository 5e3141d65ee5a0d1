-- What is refused, or means nothing to a machine, changes nothing.
use Rattle.std.specs.Prelude.{◌≡◌, ℕ, ◌<◌, Bool, true, false, List, Option}
use Rattle.lat_machines.specs.values.Frames.{Reading, Malformed}
use Rattle.lat_machines.specs.values.Events.{Numbers, Event, Hears}
use Rattle.lat_machines.specs.values.Answers.{Answer, DirectoryFull, Noted, Ignored, Bad, NoLine, Busy, SessionsFull, CircuitsFull, IdsOut, Closed, Full, IdUsed, NotHere, Halted}
use Rattle.lat_machines.specs.cores.Cores.{Core, at_moment}
use Rattle.lat_machines.specs.server.Server.{ServerConfig, Server, open_server, server_step}
use Rattle.lat_machines.specs.server.Server as Server
use Rattle.lat_machines.specs.node.Node.{NodeConfig, Node, open_node, node_step}
use Rattle.lat_machines.specs.node.Node as Node
use Rattle.lat_machines.specs.world.Histories.{server_run, RatedEvent, node_run}

-- The answers after which nothing has changed and no frame goes out. Of the other refusals, `NoService` draws a solicit id,
-- `StartRefused` sends a STOP, `NotKept` and a `KeptIs` of any kind note the command and send a Status; and a circuit that
-- answers has moved on, or been given a moment
abbrev pub changes_nothing : Answer → Bool
changes_nothing Ignored = true
changes_nothing Noted = true
changes_nothing (Bad field at) = true
changes_nothing DirectoryFull = true
changes_nothing NoLine = true
changes_nothing Busy = true
changes_nothing SessionsFull = true
changes_nothing CircuitsFull = true
changes_nothing IdsOut = true
changes_nothing Closed = true
changes_nothing Full = true
changes_nothing IdUsed = true
changes_nothing NotHere = true
changes_nothing Halted = true
changes_nothing _ = false

-- a core's moment may move on
abbrev pub moved_by : Event → Core → Core
moved_by (Hears from payload k now) c = at_moment now c
moved_by _ c = c

abbrev pub server_moved : Event → Server → Server
server_moved e state = Server.with_core state (moved_by e state.core)

abbrev pub node_moved : Event → Node → Node
node_moved e state = Node.with_core state (moved_by e state.core)

-- the event that comes behind a history
abbrev pub server_after : ServerConfig → List Event → Event → Server.ServerStep
server_after config events e = server_step config (server_run config events (open_server config)) e

abbrev pub node_after : NodeConfig → List RatedEvent → List ℕ → Event → Node.NodeStep
node_after config events rates e = node_step config rates (node_run config events (open_node config)) e

-- behind every history; at the server also the grant pass that follows grants nothing
abbrev pub ServerUnchanged : Type 0
ServerUnchanged =
    (config : ServerConfig) (events : List Event) (e : Event) →
    0 < config.timing.sessions →
    changes_nothing (server_after config events e).answer ≡ true →
    server_after config events e ≡ Server.tells (server_moved e (server_run config events (open_server config))) (server_after config events e).answer

abbrev pub NodeUnchanged : Type 0
NodeUnchanged =
    (config : NodeConfig) (events : List RatedEvent) (rates : List ℕ) (e : Event) →
    changes_nothing (node_after config events rates e).answer ≡ true →
    node_after config events rates e ≡ Node.tells (node_moved e (node_run config events (open_node config))) (node_after config events rates e).answer

-- a frame of no layout, by itself
abbrev pub ServerHearsNoLayout : Type 0
ServerHearsNoLayout =
    (config : ServerConfig) (events : List Event) (from field at now : ℕ) (k : Option Numbers) →
    0 < config.timing.sessions →
    server_after config events (Hears from (Malformed field at) k now)
    ≡ Server.tells (server_moved (Hears from (Malformed field at) k now) (server_run config events (open_server config))) (Bad field at)

abbrev pub NodeHearsNoLayout : Type 0
NodeHearsNoLayout =
    (config : NodeConfig) (rates : List ℕ) (state : Node) (from field at now : ℕ) (k : Option Numbers) →
    node_step config rates state (Hears from (Malformed field at) k now)
    ≡ Node.tells (node_moved (Hears from (Malformed field at) k now) state) (Bad field at)

-- no other frame is answered so
abbrev pub ServerBadOnly : Type 0
ServerBadOnly =
    (config : ServerConfig) (state : Server) (from : ℕ) (payload : Reading) (k : Option Numbers) (now field at : ℕ) →
    (server_step config state (Hears from payload k now)).answer ≡ Bad field at →
    payload ≡ Malformed field at

abbrev pub NodeBadOnly : Type 0
NodeBadOnly =
    (config : NodeConfig) (rates : List ℕ) (state : Node) (from : ℕ) (payload : Reading) (k : Option Numbers) (now field at : ℕ) →
    (node_step config rates state (Hears from payload k now)).answer ≡ Bad field at →
    payload ≡ Malformed field at
