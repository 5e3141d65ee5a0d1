-- What a switch tells without an event: of a line what its server tells of the inner line that it shows, and all else as its
-- server does.
use Rattle.std.specs.Prelude.{ℕ, Bool, List, Option, Some, None}
use Rattle.lat_base.specs.declared.look.LineLook.{LineLook}
use Rattle.lat_base.specs.declared.look.Correspondent.{Correspondent}
use Rattle.lat_base.specs.declared.look.CircuitLook.{CircuitLook}
use Rattle.lat_base.specs.declared.look.NodeLook.{NodeLook}
use Rattle.lat_base.specs.declared.look.ServiceLook.{ServiceLook}
use Rattle.lat_base.specs.declared.look.WaiterLook.{WaiterLook}
use Rattle.lat_base.specs.declared.state.SessionState.TheVariants as states
use Rattle.lat_server.specs.Looks as server
use Rattle.lat_server.specs.Stands.{Machine}
use Rattle.lat_switch.specs.Core.{shown_in}
use Rattle.lat_switch.specs.Switch.{Switch}

-- that of a line that never had a session
abbrev pub no_look : LineLook
no_look = record { newest = 0; state = states.Free; waiting = 0; room = 0; end = None }

abbrev pub look_at : Machine → Option ℕ → LineLook
look_at m None = no_look
look_at m (Some x) = server.look_of m x

abbrev pub look_of : Switch → ℕ → LineLook
look_of s k = look_at s.inner (shown_in k s.lines)

abbrev pub correspondent_at : Machine → Option ℕ → Option Correspondent
correspondent_at m None = None
correspondent_at m (Some x) = server.correspondent_of m x

abbrev pub correspondent_of : Switch → ℕ → Option Correspondent
correspondent_of s k = correspondent_at s.inner (shown_in k s.lines)

abbrev pub moment_of : Switch → ℕ
moment_of s = server.moment_of s.inner

abbrev pub finished_of : Switch → ℕ
finished_of s = server.finished_of s.inner

abbrev pub living_of : Switch → ℕ
living_of s = server.living_of s.inner

abbrev pub drained_of : Switch → Bool
drained_of s = server.drained_of s.inner

abbrev pub circuit_of : Switch → ℕ → Option CircuitLook
circuit_of s at = server.circuit_of s.inner at

abbrev pub node_of : Switch → ℕ → Option NodeLook
node_of s at = server.node_of s.inner at

abbrev pub service_of : Switch → ℕ → ℕ → Option ServiceLook
service_of s node at = server.service_of s.inner node at

abbrev pub offered_of : Switch → ℕ → Option (List ℕ)
offered_of s at = server.offered_of s.inner at

abbrev pub waiter_of : Switch → List ℕ → ℕ → Option WaiterLook
waiter_of s service at = server.waiter_of s.inner service at

abbrev pub ids_left_of : Switch → ℕ
ids_left_of s = server.ids_left_of s.inner

abbrev pub records_left_of : Switch → Option ℕ
records_left_of s = server.records_left_of s.inner
