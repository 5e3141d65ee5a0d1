-- What a server tells without an event.
use Rattle.std.specs.Prelude.{ℕ, Bool, List, Option, Some, option_map}
use Rattle.lat_base.specs.declared.look.LineLook.{LineLook}
use Rattle.lat_base.specs.declared.look.Correspondent.{Correspondent}
use Rattle.lat_base.specs.declared.look.CircuitLook.{CircuitLook}
use Rattle.lat_base.specs.declared.look.NodeLook.{NodeLook}
use Rattle.lat_base.specs.declared.look.ServiceLook.{ServiceLook}
use Rattle.lat_base.specs.declared.look.WaiterLook.{WaiterLook}
use Rattle.lat_model.specs.circuits.Arriving.{living}
use Rattle.lat_machines.specs.cores.Looks as cores
use Rattle.lat_machines.specs.server.Lists as lists
use Rattle.lat_machines.specs.server.Server.{server_side, finished}
use Rattle.lat_circuit.specs.Looks as shown
use Rattle.lat_dir.specs.Looks.{node_look_of, service_look_of}
use Rattle.lat_queue.specs.Looks.{waiter_look_of}
use Rattle.lat_server.specs.Stands.{Machine}

abbrev pub look_of : Machine → ℕ → LineLook
look_of m line = shown.line_look_of (cores.line_look (server_side m.config) m.state.core line)

abbrev pub correspondent_of : Machine → ℕ → Option Correspondent
correspondent_of m line = option_map shown.correspondent_of (cores.correspondent m.state.core line)

abbrev pub moment_of : Machine → ℕ
moment_of m = m.state.core.moment

abbrev pub finished_of : Machine → ℕ
finished_of m = finished m.state

abbrev pub living_of : Machine → ℕ
living_of m = living m.state.core.circuits

abbrev pub drained_of : Machine → Bool
drained_of m = cores.is_drained m.state.core

-- at a place, from 0 on; None behind the last

abbrev pub circuit_of : Machine → ℕ → Option CircuitLook
circuit_of m at = option_map shown.circuit_look_of (cores.circuit_in_place m.state.core at)

abbrev pub node_of : Machine → ℕ → Option NodeLook
node_of m at = option_map node_look_of (lists.node_at m.config m.state at)

abbrev pub service_of : Machine → ℕ → ℕ → Option ServiceLook
service_of m node at = option_map service_look_of (lists.service_at m.config m.state node at)

abbrev pub offered_of : Machine → ℕ → Option (List ℕ)
offered_of m at = lists.offered_at m.config at

abbrev pub waiter_of : Machine → List ℕ → ℕ → Option WaiterLook
waiter_of m service at = option_map waiter_look_of (lists.waiter_at m.state service at)

abbrev pub ids_left_of : Machine → ℕ
ids_left_of m = cores.ids_left m.state.core

abbrev pub records_left_of : Machine → Option ℕ
records_left_of m = Some (lists.records_left m.state)
