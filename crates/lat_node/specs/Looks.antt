-- What a node tells without an event. It hears no announcements and keeps no requests of others.
use Rattle.std.specs.Prelude.{ℕ, Bool, List, Option, None, option_map, slice_get}
use Rattle.lat_base.specs.declared.look.LineLook.{LineLook}
use Rattle.lat_base.specs.declared.look.Correspondent.{Correspondent}
use Rattle.lat_base.specs.declared.look.CircuitLook.{CircuitLook}
use Rattle.lat_base.specs.declared.look.NodeLook.{NodeLook}
use Rattle.lat_base.specs.declared.look.ServiceLook.{ServiceLook}
use Rattle.lat_base.specs.declared.look.WaiterLook.{WaiterLook}
use Rattle.lat_model.specs.circuits.Arriving.{living}
use Rattle.lat_machines.specs.cores.Looks as cores
use Rattle.lat_machines.specs.node.Node.{node_side, finished}
use Rattle.lat_circuit.specs.Looks as shown
use Rattle.lat_node.specs.Stands.{Machine}

abbrev pub look_of : {H : Type 0} → Machine H → ℕ → LineLook
look_of m line = shown.line_look_of (cores.line_look (node_side m.config) m.state.core line)

abbrev pub correspondent_of : {H : Type 0} → Machine H → ℕ → Option Correspondent
correspondent_of m line = option_map shown.correspondent_of (cores.correspondent m.state.core line)

abbrev pub moment_of : {H : Type 0} → Machine H → ℕ
moment_of m = m.state.core.moment

abbrev pub finished_of : {H : Type 0} → Machine H → ℕ
finished_of m = finished m.state

abbrev pub living_of : {H : Type 0} → Machine H → ℕ
living_of m = living m.state.core.circuits

abbrev pub drained_of : {H : Type 0} → Machine H → Bool
drained_of m = cores.is_drained m.state.core

-- at a place, from 0 on; None behind the last

abbrev pub circuit_of : {H : Type 0} → Machine H → ℕ → Option CircuitLook
circuit_of m at = option_map shown.circuit_look_of (cores.circuit_in_place m.state.core at)

abbrev pub node_of : {H : Type 0} → Machine H → ℕ → Option NodeLook
node_of m at = None

abbrev pub service_of : {H : Type 0} → Machine H → ℕ → ℕ → Option ServiceLook
service_of m node at = None

abbrev pub offered_of : {H : Type 0} → Machine H → ℕ → Option (List ℕ)
offered_of m at = slice_get m.config.services at

abbrev pub waiter_of : {H : Type 0} → Machine H → List ℕ → ℕ → Option WaiterLook
waiter_of m service at = None

abbrev pub ids_left_of : {H : Type 0} → Machine H → ℕ
ids_left_of m = cores.ids_left m.state.core

abbrev pub records_left_of : {H : Type 0} → Machine H → Option ℕ
records_left_of m = None
