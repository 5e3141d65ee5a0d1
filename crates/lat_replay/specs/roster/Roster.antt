-- Which kept rows a roster shows.
use Rattle.std.specs.Prelude.{◌≡◌, ℕ, suc, ◌<◌, ◌≤◌, ◌&&◌, Bool, cond, List, [], ◌∷◌, length, slice_index, slice_get, Some, nat_eq}
use Rattle.lat_laws.specs.tales.Rows as rows
use Rattle.lat_laws.specs.tales.Keeping.{change}
use Rattle.lat_replay.specs.declared.roster.names.RowKey.{RowKey}
use Rattle.lat_replay.specs.declared.roster.row.Row.{Row}
use Rattle.lat_replay.specs.roster.Names.{Names, key_of, place_of}
use Rattle.lat_replay.specs.roster.Rows.{ShowsRow, HasReserved}

pub record Kept : Type 0 where
  pub rows : List Row
  pub server_lines : List ℕ  -- by line, the place of the row of its newest session, from 1 on
  pub node_lines : List ℕ
  pub names : Names
  pub reserved : ℕ  -- for how many more rows

-- each row shows the one beside it
abbrev pub ShowsRows : List Row → List rows.RowAfter → Type 0
ShowsRows [] rs = rs ≡ []
ShowsRows (k ∷ ks) [] = ⊥
ShowsRows (k ∷ ks) (r ∷ rs) = ShowsRow k r × ShowsRows ks rs

-- the row at this place is changed like this, in what is kept and in what it shows
abbrev pub Changes : List Row → List Row → ℕ → (rows.RowAfter → rows.RowAfter) → Type 0
Changes ks vs place f = (rs : List rows.RowAfter) → ShowsRows ks rs → ShowsRows vs (change place f rs)

-- the place of the last row with these ids; `found` where none follows
abbrev pub last_row : ℕ → ℕ → ℕ → ℕ → List rows.RowAfter → ℕ
last_row circuit id place found [] = found
last_row circuit id place found (r ∷ rs) =
    last_row circuit id (suc place) (cond (nat_eq r.circuit circuit && nat_eq r.id id) (suc place) found) rs

pub record HasRows (k : Kept) (r : rows.RowsAfter) : Type 0 where
  pub rows : ShowsRows k.rows r.rows
  pub server_lines : (line : ℕ) → line < 256 → slice_index k.server_lines line ≡ r.server_lines line
  pub node_lines : (line : ℕ) → line < 256 → slice_index k.node_lines line ≡ r.node_lines line
  pub names : (circuit id : ℕ) → place_of k.names (key_of circuit id) ≡ last_row circuit id 0 0 r.rows

-- what every roster keeps
pub record Holds (k : Kept) : Type 0 where
  pub server_len : length k.server_lines ≡ 256
  pub node_len : length k.node_lines ≡ 256
  pub server_places : (line : ℕ) → slice_index k.server_lines line ≤ length k.rows
  pub node_places : (line : ℕ) → slice_index k.node_lines line ≤ length k.rows
  pub name_places : (key : RowKey) → place_of k.names key ≤ length k.rows

-- the row at this place, if it is one, has room for so many items more
abbrev pub ReservedAt : List Row → ℕ → Bool → ℕ → ℕ → Type 0
ReservedAt ks place b put taken =
    (i : ℕ) (k : Row) → place ≡ suc i → slice_get ks i ≡ Some k → HasReserved b put taken k

-- the place of the row of the newest session of a line, of the server or of the node
abbrev pub newest : Kept → Bool → ℕ → ℕ
newest k server line = slice_index (cond server k.server_lines k.node_lines) line

-- its row has room
abbrev pub ReservedFor : Kept → Bool → ℕ → ℕ → ℕ → Type 0
ReservedFor k server line put taken = ReservedAt k.rows (newest k server line) server put taken
