-- Rows are found by the ids of their sessions.
use Rattle.std.proofs.Common.{◌≡◌, ℕ, suc, refl, ap₂, ap, ◌∙◌, cond, ◌&&◌, Bool, true, false, List, [], ◌∷◌, nat_eq}
use Rattle.lat_model.specs.sessions.Slots.{Item}
use Rattle.lat_machines.specs.cores.Cores.{Seat}
use Rattle.lat_machines.specs.world.Machines.{Setups, Machines}
use Rattle.lat_laws.specs.tales.Mates.{last_named}
use Rattle.lat_laws.specs.tales.Rows.{Figures, RowAfter, RowsAfter, KeepsRow, Pairs, KeepsRows}
use Rattle.lat_laws.specs.tales.Keeping.{change, with_items, lines_of, adds, accepts}
use Rattle.lat_replay.specs.roster.Roster.{last_row}
use Rattle.lat_replay.proofs.roster.Rows.{last_changed}

found_in : (u : Setups) (w : Machines) (circuit id n found : ℕ) (ss : List Seat) (rs : List RowAfter) → Pairs (KeepsRow u w) ss rs → last_row circuit id n found rs ≡ last_named circuit id n found ss
found_in u w circuit id n found [] rs h = ap (last_row circuit id n found) h
found_in u w circuit id n found (s ∷ ss) [] h = absurd h
found_in u w circuit id n found (s ∷ ss) (r ∷ rs) h =
    ap₂ (λ c i. last_row circuit id (suc n) (cond (nat_eq c circuit && nat_eq i id) (suc n) found) rs) h.0.circuit h.0.id
    ∙ found_in u w circuit id (suc n) (cond (nat_eq s.circuit circuit && nat_eq s.id id) (suc n) found) ss rs h.1

pub found_last : (u : Setups) (w : Machines) (k : RowsAfter) (circuit id : ℕ) → KeepsRows u w k → last_row circuit id 0 0 k.rows ≡ last_named circuit id 0 0 w.server.core.seats
found_last u w k circuit id h = found_in u w circuit id 0 0 w.server.core.seats k.rows h.rows

pub found_adds : (b : Bool) (line : ℕ) (put took : List Item) (k : RowsAfter) (circuit id : ℕ) → last_row circuit id 0 0 (adds b line put took k).rows ≡ last_row circuit id 0 0 k.rows
found_adds b line put took k circuit id = last_changed circuit id 0 0 (lines_of b k line) (with_items b put took) k.rows (ids b)
  where
    ids : (b : Bool) (y : RowAfter) → ((with_items b put took y).circuit ≡ y.circuit) × ((with_items b put took y).id ≡ y.id)
    ids true y = (refl, refl)
    ids false y = (refl, refl)

pub found_accepts : (line place : ℕ) (f : Figures) (k : RowsAfter) (circuit id : ℕ) → last_row circuit id 0 0 (accepts line place f k).rows ≡ last_row circuit id 0 0 k.rows
found_accepts line place f k circuit id =
    last_changed circuit id 0 0 place (λ y. record y { node_line = line }) (change (k.node_lines line) (λ y. record y { node = f }) k.rows) (λ y. (refl, refl))
    ∙ last_changed circuit id 0 0 (k.node_lines line) (λ y. record y { node = f }) k.rows (λ y. (refl, refl))
