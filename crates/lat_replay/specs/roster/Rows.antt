-- What the rows of a roster show.
use Rattle.std.specs.Prelude.{◌≡◌, ℕ, ◌+◌, ◌≤◌, Bool, true, false, cond, map, Option, Some, None, option_map, nat_eq, vec_len, vec_capacity}
use Rattle.lat_stream.specs.Kept.{item_of, saturated}
use Rattle.lat_lines.specs.Stands.{end_shown}
use Rattle.lat_machines.specs.cores.Cores.{Seat}
use Rattle.lat_laws.specs.tales.Rows as rows
use Rattle.lat_replay.specs.declared.roster.figures.Figures.{Figures}
use Rattle.lat_replay.specs.declared.roster.row.Row.{Row}

-- figures are told: their counts stop at the greatest number of 64 bits
pub record ShowsFigures (f : Figures) (r : rows.Figures) : Type 0 where
  pub given : f.given ≡ saturated r.given
  pub used_up : f.used ≡ saturated r.used_up
  pub end : option_map end_shown f.end ≡ r.end

-- the line that the node gave, which is 0 in the laws while it gave none
abbrev pub some_line : ℕ → Option ℕ
some_line line = cond (nat_eq line 0) None (Some line)

pub record ShowsRow (k : Row) (r : rows.RowAfter) : Type 0 where
  pub line : k.line ≡ r.line
  pub circuit : k.circuit ≡ r.circuit
  pub id : k.id ≡ r.id
  pub node_line : k.node_line ≡ some_line r.node_line
  pub put_up : k.up.put.items ≡ map item_of r.put_up
  pub taken_up : k.up.taken.items ≡ map item_of r.taken_up
  pub put_down : k.down.put.items ≡ map item_of r.put_down
  pub taken_down : k.down.taken.items ≡ map item_of r.taken_down
  pub server : ShowsFigures k.server r.server
  pub node : ShowsFigures k.node r.node

-- a line session of this line and with these ids
pub record IsSeat (s : Seat) (on circuit_id session_id : ℕ) : Type 0 where
  pub line : s.line ≡ on
  pub circuit : s.circuit ≡ circuit_id
  pub id : s.id ≡ session_id

-- a row with room for so many items more that the session at this end puts and takes
abbrev pub HasReserved : Bool → ℕ → ℕ → Row → Type 0
HasReserved true put taken k =
    (vec_len k.up.put + put ≤ vec_capacity k.up.put) × (vec_len k.down.taken + taken ≤ vec_capacity k.down.taken)
HasReserved false put taken k =
    (vec_len k.down.put + put ≤ vec_capacity k.down.put) × (vec_len k.up.taken + taken ≤ vec_capacity k.up.taken)
