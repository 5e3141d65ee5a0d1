-- How tables line up.
use Rattle.std.specs.Prelude.{ℕ, ◌+◌, ◌-◌, max, List, [], ◌++◌, length, map, replicate, Option, get_or, codes, ◌==◌, if◌then◌else◌}
use Rattle.std.specs.List.{flat_map, fold, slice_get}
use Rattle.std.specs.Option.{option_map}
use Rattle.lat_log.specs.Sights.{gathered, one}
use Rattle.lat_tables.specs.Cells.{cell_text}
use Rattle.lat_tables.specs.Columns.{side_of}
use Rattle.lat_tables.specs.declared.cell.Cell.{Cell}
use Rattle.lat_tables.specs.declared.cell.Cell.TheVariants.{Title, Absent}
use Rattle.lat_tables.specs.declared.column.Column.{Column}
use Rattle.lat_tables.specs.declared.column.Side.{Side}
use Rattle.lat_tables.specs.declared.column.Side.TheVariants.{Left, Right}
use Rattle.lat_tables.specs.declared.layout.Spot.{Spot}

-- a table: its columns and its rows
pub record Sheet : Type 0 where
  pub columns : List Column
  pub rows : List (List Cell)

-- the header of these columns
abbrev pub titles : List Column → List Cell
titles columns = map Title columns

-- ---- columns

abbrev pub cell_at : List Cell → ℕ → Cell
cell_at row at = get_or row at Absent

abbrev pub width : ℕ → List Cell → ℕ
width at row = length (cell_text (cell_at row at))

-- the width of the widest cell at a place, the title or one below it
abbrev pub widest : ℕ → (header : List Cell) → (rows : List (List Cell)) → ℕ
widest at header rows = fold (λ most row. max most (width at row)) (width at header) rows

-- a column is as wide as its widest cell, but a text in the last one has no blanks behind it
abbrev pub room_of : Side → (behind : ℕ) → ℕ → ℕ
room_of Left behind widest = if behind == 0 then 0 else widest
room_of Right behind widest = widest

-- where the cells of a column stand, behind which so many stand
abbrev pub spot_of : Sheet → ℕ → Column → Spot
spot_of t at column = record {
  at = at;
  side = side_of column;
  room = room_of (side_of column) (length t.columns - (at + 1)) (widest at (titles t.columns) t.rows);
}

abbrev pub spot_at : Sheet → ℕ → Option Spot
spot_at t at = option_map (spot_of t at) (slice_get t.columns at)

abbrev pub spots : Sheet → List Spot
spots t = gathered (one (spot_at t)) 0 (length t.columns)

-- ---- text

abbrev pub blanks : ℕ → List ℕ
blanks count = replicate count 32

-- two blanks between columns
abbrev pub gap : ℕ → List ℕ
gap at = if at == 0 then [] else codes "  "

-- so much room for a text, which stands at one side of it
abbrev pub set : Side → ℕ → List ℕ → List ℕ
set Left room text = text ++ blanks (room - length text)
set Right room text = blanks (room - length text) ++ text

abbrev pub piece : List Cell → Spot → List ℕ
piece row spot = gap spot.at ++ set spot.side spot.room (cell_text (cell_at row spot.at))

abbrev pub line_text : List Spot → List Cell → List ℕ
line_text spots row = flat_map (piece row) spots ++ codes "\n"

-- the header and the rows of a table, whose columns line up
abbrev pub table_text : Sheet → List ℕ
table_text t = line_text (spots t) (titles t.columns) ++ flat_map (line_text (spots t)) t.rows
