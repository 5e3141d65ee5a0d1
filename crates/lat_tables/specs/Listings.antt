-- The tables of what a core shows.
use Rattle.std.specs.Prelude.{ℕ, zero, suc, ◌+◌, ◌-◌, ◌*◌, ◌/◌, Bool, false, ◌||◌, List, [], ◌∷◌, Option, Some, None, bytes_eq, ◌==◌, if◌then◌else◌}
use Rattle.std.specs.Option.{option_map}
use Rattle.lat_base.specs.Names.{folded}
use Rattle.lat_base.specs.declared.look.CircuitLook.{CircuitLook}
use Rattle.lat_base.specs.declared.look.Correspondent.{Correspondent}
use Rattle.lat_base.specs.declared.look.LineLook.{LineLook}
use Rattle.lat_base.specs.declared.look.NodeLook.{NodeLook}
use Rattle.lat_base.specs.declared.look.ServiceLook.{ServiceLook}
use Rattle.lat_base.specs.declared.look.WaiterLook.{WaiterLook}
use Rattle.lat_base.specs.declared.state.SessionEnd.{SessionEnd}
use Rattle.lat_log.specs.Sights.{gathered, one}
use Rattle.lat_tables.specs.Tables.{Sheet}
use Rattle.lat_tables.specs.declared.cell.Cell.{Cell}
use Rattle.lat_tables.specs.declared.cell.Cell.TheVariants.{Absent, Number, Name, Address, State, Ended}
use Rattle.lat_tables.specs.declared.column.Column.{Column}
use Rattle.lat_tables.specs.declared.column.Column.TheVariants as columns
use Rattle.lat_tables.specs.declared.command.Listing.{Listing}
use Rattle.lat_tables.specs.declared.command.Listing.TheVariants as listings

-- a row of a table
abbrev pub Cells : Type 0
Cells = List Cell

-- a number that is none where it is 0
abbrev pub some_number : ℕ → Cell
some_number n = if n == 0 then Absent else Number n

-- ---- lines

abbrev pub line_columns : List Column
line_columns =
    columns.Line ∷ columns.State ∷ columns.Session ∷ columns.Service ∷ columns.Peer ∷ columns.Waiting ∷ columns.Ended ∷ []

abbrev pub service_cell : Option Correspondent → Cell
service_cell None = Absent
service_cell (Some with) = Name with.service

abbrev pub peer_cell : Option Correspondent → Cell
peer_cell None = Absent
peer_cell (Some with) = Address with.peer

abbrev pub ended_cell : Option SessionEnd → Cell
ended_cell None = Absent
ended_cell (Some end) = Ended end

-- a line, and its newest session
abbrev pub line_row : ℕ → LineLook → Option Correspondent → Cells
line_row line look with =
    Number line ∷ State look.state ∷ some_number look.newest ∷ service_cell with ∷ peer_cell with ∷ Number look.waiting ∷ ended_cell look.end ∷ []

-- a row for the line behind so many
abbrev pub line_at : (ℕ → LineLook) → (ℕ → Option Correspondent) → ℕ → Option Cells
line_at look_of correspondent_of at = Some (line_row (at + 1) (look_of (at + 1)) (correspondent_of (at + 1)))

-- so many lines, from 1 on
abbrev pub lines_table : (ℕ → LineLook) → (ℕ → Option Correspondent) → ℕ → Sheet
lines_table look_of correspondent_of count = record { columns = line_columns; rows = gathered (one (line_at look_of correspondent_of)) 0 count }

-- ---- services

abbrev pub service_columns : List Column
service_columns = columns.Service ∷ columns.Rating ∷ columns.Node ∷ columns.Address ∷ columns.Expires ∷ []

-- how many whole seconds are left
abbrev pub seconds_left : (until now : ℕ) → ℕ
seconds_left until now = (until - now) / 1000

abbrev pub service_row : ℕ → NodeLook → ServiceLook → Cells
service_row now node service =
    Name service.name ∷ Number service.rating ∷ Name node.name ∷ Address node.from ∷ Number (seconds_left node.until now) ∷ []

abbrev pub service_at : ℕ → NodeLook → (ℕ → Option ServiceLook) → ℕ → Option Cells
service_at now node service_of at = option_map (service_row now node) (service_of at)

-- the services of a node
abbrev pub node_rows : ℕ → NodeLook → (ℕ → Option ServiceLook) → List Cells
node_rows now node service_of = gathered (one (service_at now node service_of)) 0 node.services

abbrev pub node_at : ℕ → (ℕ → Option NodeLook) → (ℕ → ℕ → Option ServiceLook) → ℕ → Option (List Cells)
node_at now node_of service_of at = option_map (λ node. node_rows now node (service_of at)) (node_of at)

-- the services of each node that is live at this moment
abbrev pub services_table : ℕ → (ℕ → Option NodeLook) → (ℕ → ℕ → Option ServiceLook) → Sheet
services_table now node_of service_of = record { columns = service_columns; rows = gathered (node_at now node_of service_of) 0 256 }

-- ---- circuits

abbrev pub circuit_columns : List Column
circuit_columns =
    columns.Id ∷ columns.PeerId ∷ columns.Address ∷ columns.Name ∷ columns.Timer ∷ columns.KeepAlive ∷ columns.Sessions ∷ columns.Unacknowledged ∷ columns.Rounds ∷ []

-- a circuit, its timer in milliseconds, its keep-alive in seconds
abbrev pub circuit_row : CircuitLook → Cells
circuit_row c =
    Number c.id ∷ some_number c.peer_id ∷ Address c.peer ∷ Name c.name ∷ Number (c.timer * 10) ∷ Number c.keep_alive ∷ Number c.held ∷ Number c.unacknowledged ∷ Number c.rounds ∷ []

abbrev pub circuit_at : (ℕ → Option CircuitLook) → ℕ → Option Cells
circuit_at circuit_of at = option_map circuit_row (circuit_of at)

abbrev pub circuits_table : (ℕ → Option CircuitLook) → Sheet
circuits_table circuit_of = record { columns = circuit_columns; rows = gathered (one (circuit_at circuit_of)) 0 8 }

-- ---- requests

abbrev pub request_columns : List Column
request_columns = columns.Service ∷ columns.Place ∷ columns.Node ∷ columns.Address ∷ columns.Request ∷ []

-- a request at a place of its service's queue, counted from 1
abbrev pub request_row : List ℕ → ℕ → WaiterLook → Cells
request_row service place w = Name service ∷ Number place ∷ Name w.node ∷ Address w.from ∷ Number w.request ∷ []

abbrev pub request_at : (List ℕ → ℕ → Option WaiterLook) → List ℕ → ℕ → Option Cells
request_at waiter_of service at = option_map (request_row service (at + 1)) (waiter_of service at)

-- who waits for a service
abbrev pub queue_rows : (List ℕ → ℕ → Option WaiterLook) → List ℕ → List Cells
queue_rows waiter_of service = gathered (one (request_at waiter_of service)) 0 64

abbrev pub names_same : Option (List ℕ) → List ℕ → Bool
names_same None name = false
names_same (Some other) name = bytes_eq (folded other) (folded name)

-- a service of this name is offered at a place below this one
abbrev pub stood_before : (ℕ → Option (List ℕ)) → List ℕ → ℕ → Bool
stood_before offered_of name zero = false
stood_before offered_of name (suc at) = names_same (offered_of at) name || stood_before offered_of name at

-- who waits for a service that is offered at a place, and at none before
abbrev pub first_rows : (ℕ → Option (List ℕ)) → (List ℕ → ℕ → Option WaiterLook) → ℕ → List ℕ → List Cells
first_rows offered_of waiter_of at service = if stood_before offered_of service at then [] else queue_rows waiter_of service

abbrev pub queue_at : (ℕ → Option (List ℕ)) → (List ℕ → ℕ → Option WaiterLook) → ℕ → Option (List Cells)
queue_at offered_of waiter_of at = option_map (first_rows offered_of waiter_of at) (offered_of at)

-- who waits for the services that are offered, each service once
abbrev pub requests_table : (ℕ → Option (List ℕ)) → (List ℕ → ℕ → Option WaiterLook) → Sheet
requests_table offered_of waiter_of = record { columns = request_columns; rows = gathered (queue_at offered_of waiter_of) 0 256 }

-- ---- a listing

-- what a core with so many lines tells of itself
pub record Told : Type 0 where
  pub lines : ℕ
  pub now : ℕ
  pub look_of : ℕ → LineLook
  pub correspondent_of : ℕ → Option Correspondent
  pub circuit_of : ℕ → Option CircuitLook
  pub node_of : ℕ → Option NodeLook
  pub service_of : ℕ → ℕ → Option ServiceLook
  pub offered_of : ℕ → Option (List ℕ)
  pub waiter_of : List ℕ → ℕ → Option WaiterLook

abbrev pub listed : Listing → Told → Sheet
listed listings.Lines t = lines_table t.look_of t.correspondent_of t.lines
listed listings.Services t = services_table t.now t.node_of t.service_of
listed listings.Circuits t = circuits_table t.circuit_of
listed listings.Requests t = requests_table t.offered_of t.waiter_of
