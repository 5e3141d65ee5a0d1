-- What is kept of the rows of a report while a run goes on. The figures of a session stand in its core while it is the
-- newest of its line; they are written down when the line gets another.
use Rattle.std.specs.Prelude.{◌≡◌, ℕ, suc, cond, List, [], ◌∷◌, Option, nat_eq}
use Rattle.lat_model.specs.sessions.Slots.{Item, credits, costs}
use Rattle.lat_machines.specs.cores.Cores.{Seat, Core}
use Rattle.lat_machines.specs.cores.Books.{SessionEnd, seat_end}
use Rattle.lat_machines.specs.cores.Lines.{session_of, seat_at}
use Rattle.lat_machines.specs.world.Machines.{Setups, Machines}
use Rattle.lat_machines.specs.world.Reports.{partner}
use Rattle.lat_laws.specs.tales.Items.{taken_of}
use Rattle.lat_laws.specs.tales.Mates.{mate}

pub record Figures : Type 0 where
  pub given : ℕ
  pub used_up : ℕ
  pub end : Option SessionEnd

abbrev pub figures_of : Core → Seat → Figures
figures_of c s = record { given = credits (session_of c s).out; used_up = costs (session_of c s).out; end = seat_end c s }

pub record RowAfter : Type 0 where
  pub line : ℕ
  pub circuit : ℕ  -- the server's, with the session's id there
  pub id : ℕ
  pub node_line : ℕ  -- 0: the node has accepted none
  pub put_up : List Item
  pub taken_up : List Item
  pub put_down : List Item
  pub taken_down : List Item
  pub server : Figures
  pub node : Figures

pub record KeepsRow (u : Setups) (w : Machines) (s : Seat) (r : RowAfter) : Type 0 where
  pub line : r.line ≡ s.line
  pub circuit : r.circuit ≡ s.circuit
  pub id : r.id ≡ s.id
  pub node_line : r.node_line ≡ (partner u w s).line
  pub put_up : r.put_up ≡ (session_of w.server.core s).put
  pub taken_up : r.taken_up ≡ taken_of (session_of w.node.core (partner u w s))
  pub put_down : r.put_down ≡ (session_of w.node.core (partner u w s)).put
  pub taken_down : r.taken_down ≡ taken_of (session_of w.server.core s)
  -- of a session that isn't the newest of its line
  pub server : (seat_at w.server.core s.line ≡ s → ⊥) → r.server ≡ figures_of w.server.core s
  pub node : (seat_at w.node.core (partner u w s).line ≡ partner u w s → ⊥) → r.node ≡ figures_of w.node.core (partner u w s)

-- each session with its row, in order
abbrev pub Pairs : (Seat → RowAfter → Type 0) → List Seat → List RowAfter → Type 0
Pairs P [] rs = rs ≡ []
Pairs P (s ∷ ss) [] = ⊥
Pairs P (s ∷ ss) (r ∷ rs) = P s r × Pairs P ss rs

-- the place, from 1 on, of the newest session of a line; `found` where none follows
abbrev pub newest_place : ℕ → ℕ → ℕ → List Seat → ℕ
newest_place line place found [] = found
newest_place line place found (s ∷ ss) = newest_place line (suc place) (cond (nat_eq s.line line) (suc place) found) ss

-- The rows, and for each line the place of the row of its newest session; 0 where it has none
pub record RowsAfter : Type 0 where
  pub rows : List RowAfter
  pub server_lines : ℕ → ℕ
  pub node_lines : ℕ → ℕ

pub record KeepsRows (u : Setups) (w : Machines) (k : RowsAfter) : Type 0 where
  pub rows : Pairs (KeepsRow u w) w.server.core.seats k.rows
  pub server_lines : (line : ℕ) → k.server_lines line ≡ newest_place line 0 0 w.server.core.seats
  pub node_lines : (line : ℕ) → k.node_lines line ≡ mate u w (seat_at w.node.core line)
