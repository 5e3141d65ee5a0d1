-- A frame leaves alone the circuits of other addresses.
use Rattle.std.specs.Prelude.{◌≡◌, ◌≢◌, ℕ, true, List, [], ◌∷◌, Option}
use Rattle.lat_model.specs.sessions.Calls.{Connect}
use Rattle.lat_model.specs.ends.End.{End, call_end}
use Rattle.lat_model.specs.ends.Timers.{note_empty}
use Rattle.lat_model.specs.circuits.World.{CircuitEntry}
use Rattle.lat_model.specs.circuits.Ids.{is_drawn}
use Rattle.lat_machines.specs.values.Names.{Name}
use Rattle.lat_machines.specs.values.Frames.{Reading}
use Rattle.lat_machines.specs.values.Events.{Numbers, Hears}
use Rattle.lat_machines.specs.server.Server.{ServerConfig, Server, server_event, server_step}
use Rattle.lat_machines.specs.node.Node.{NodeConfig, Node, node_step}

-- a session that is connected, by its service and request
pub record Connection : Type 0 where
  pub service : Name
  pub request : Option ℕ

abbrev pub connects_one : Connection → End → End
connects_one k e = (note_empty e (record { end = call_end (Connect k.service k.request) e; sent = [] })).end

abbrev pub connects_all : List Connection → End → End
connects_all [] e = e
connects_all (k ∷ ks) e = connects_all ks (connects_one k e)

-- but for sessions that were connected on it, a circuit is as it was
pub record ButForSessions (before : CircuitEntry) (after : CircuitEntry) : Type 0 where
  pub address : after.address ≡ before.address
  pub connected : List Connection
  pub end : after.end ≡ connects_all connected before.end

-- of the server, before the grant pass
abbrev pub ServerHearsAtHome : Type 0
ServerHearsAtHome =
    (config : ServerConfig) (state : Server) (from : ℕ) (payload : Reading) (k : Option Numbers) (now x : ℕ) →
    (state.core.circuits.circuit_at x).address ≢ from →
    (server_event config state (Hears from payload k now)).state.core.circuits.circuit_at x ≡ state.core.circuits.circuit_at x

-- and with the pass, which connects sessions, of each circuit that was drawn
abbrev pub ServerStaysHome : Type 0
ServerStaysHome =
    (config : ServerConfig) (state : Server) (from : ℕ) (payload : Reading) (k : Option Numbers) (now x : ℕ) →
    is_drawn state.core.circuits x ≡ true →
    (state.core.circuits.circuit_at x).address ≢ from →
    ButForSessions (state.core.circuits.circuit_at x) ((server_step config state (Hears from payload k now)).state.core.circuits.circuit_at x)

abbrev pub NodeStaysHome : Type 0
NodeStaysHome =
    (config : NodeConfig) (rates : List ℕ) (state : Node) (from : ℕ) (payload : Reading) (k : Option Numbers) (now x : ℕ) →
    is_drawn state.core.circuits x ≡ true →
    (state.core.circuits.circuit_at x).address ≢ from →
    (node_step config rates state (Hears from payload k now)).state.core.circuits.circuit_at x ≡ state.core.circuits.circuit_at x
