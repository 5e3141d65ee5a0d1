-- What is promised of the rows of a report.
use Rattle.std.specs.Prelude.{◌≡◌, ◌≢◌, ◌≤◌, List, [], ◌∷◌, None}
use Rattle.lat_model.specs.Lists.{IsPrefixOf}
use Rattle.lat_machines.specs.cores.Cores.{Seat}
use Rattle.lat_machines.specs.world.Machines.{Setups, Machines}
use Rattle.lat_machines.specs.world.Reports.{Direction, Row, partner, report}
use Rattle.lat_laws.specs.rounds.Seated.{IsSeat}

-- the session is on a circuit to the node; another one has its other end at a stranger's
abbrev pub IsWithNode : Setups → Machines → Seat → Type 0
IsWithNode u w s = (w.server.core.circuits.circuit_at s.circuit).address ≡ u.node.own

-- each session of the server has its row, in order
abbrev pub EachRow : (Seat → Row → Type 0) → List Seat → List Row → Type 0
EachRow P [] rs = rs ≡ []
EachRow P (s ∷ ss) [] = ⊥
EachRow P (s ∷ ss) (r ∷ rs) = P s r × EachRow P ss rs

-- what was taken are the first of the items that were put
abbrev pub TakesInOrder : Direction → Type 0
TakesInOrder d = IsPrefixOf d.taken d.put

pub record RowInOrder (u : Setups) (w : Machines) (s : Seat) (r : Row) : Type 0 where
  pub up : TakesInOrder r.up
  pub down : IsWithNode u w s → TakesInOrder r.down
  -- a row that shows a line of the node is one of a session with the node
  pub with_node : r.node_line ≢ None → IsWithNode u w s

abbrev pub RowsInOrder : Setups → Machines → Type 0
RowsInOrder u w = EachRow (RowInOrder u w) w.server.core.seats (report u w).sessions

-- The row in which a session of the node stands: the session of the server whose partner it is, and no other's
pub record HasRow (u : Setups) (w : Machines) (t : Seat) : Type 0 where
  pub seat : Seat
  pub is_seat : IsSeat seat w.server.core.seats
  pub found : partner u w seat ≡ t
  pub alone : (s : Seat) → IsSeat s w.server.core.seats → partner u w s ≡ t → s ≡ seat

-- each session of the node on a circuit to the server has its row
abbrev pub NodeSessionsHaveRows : Setups → Machines → Type 0
NodeSessionsHaveRows u w =
    (t : Seat) →
    IsSeat t w.node.core.seats →
    (w.node.core.circuits.circuit_at t.circuit).address ≡ u.server.own →
    HasRow u w t

-- no more credits were used up than the end that takes had given
abbrev pub WithinCredit : Direction → Type 0
WithinCredit d = d.used_up ≤ d.given

pub record RowWithinCredit (u : Setups) (w : Machines) (s : Seat) (r : Row) : Type 0 where
  pub up : IsWithNode u w s → WithinCredit r.up
  pub down : WithinCredit r.down

abbrev pub RowsWithinCredit : Setups → Machines → Type 0
RowsWithinCredit u w = EachRow (RowWithinCredit u w) w.server.core.seats (report u w).sessions
