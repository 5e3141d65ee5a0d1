-- What the book of a line tells of its newest session and of the one before it.
use Rattle.std.specs.Prelude.{◌≡◌, ◌≤◌, ℕ, suc, Bool, true, false, cond, List, [], ◌∷◌, ◌++◌, length, Option, Some, None, nat_eq}
use Rattle.lat_machines.specs.cores.Cores.{Seat, no_seat, Core}
use Rattle.lat_machines.specs.cores.Lines.{last_on}
use Rattle.lat_machines.specs.cores.Books.{LineSession, line_session, LineBook, book}
use Rattle.lat_machines.specs.world.Machines.{Setups}
use Rattle.lat_laws.specs.tales.Keeping.{new_seats}
use Rattle.lat_laws.specs.tales.Rows.{newest_place}

-- the newest session of a line among these, as a book tells it; None where the line has none
abbrev pub newest_of : Core → ℕ → List Seat → Option LineSession
newest_of c line ss =
    cond (nat_eq (newest_place line 0 0 ss) 0)
    None
    (Some (line_session c (newest_place line 0 0 ss) (last_on line no_seat ss)))

abbrev pub newest_info : LineBook → Option LineSession
newest_info b = told b.present
  where
    told : Option LineSession → Option LineSession
    told None = b.last
    told (Some s) = Some s

-- each new session behind those of `before` is told by the book of its line as the present one, with its number, and the
-- newest of the line before it as the last one
abbrev pub InBooks : Core → List Seat → List Seat → Type 0
InBooks d before [] = Unit {0}
InBooks d before (s ∷ ss) =
    (book d s.line ≡ record { present = Some (line_session d (suc (length before)) s); last = newest_of d s.line before })
    × InBooks d (before ++ s ∷ []) ss

-- what a core has made between two worlds
pub record CoreGrows (lines : ℕ) (c : Core) (d : Core) : Type 0 where
  pub behind : d.seats ≡ c.seats ++ new_seats c d
  pub few : length (new_seats c d) ≤ lines
  pub books : InBooks d c.seats (new_seats c d)

abbrev pub lines_at : Bool → Setups → ℕ
lines_at true u = u.server.lines
lines_at false u = u.node.lines
