-- What is kept of the rows of entries.
use Rattle.std.specs.Prelude.{◌≡◌, ℕ, ◌+◌, ◌-◌, List, [], ◌∷◌, nat_lt, if◌then◌else◌}
use Rattle.lat_schedule.specs.declared.event.WorldEvent.{WorldEvent}
use Rattle.lat_trace.specs.declared.entry.Entry as kept
use Rattle.lat_draw.specs.declared.layout.Place.{Place}
use Rattle.lat_draw.specs.declared.layout.Layout.{Layout}
use Rattle.lat_draw.specs.Layout.{rows}

-- the rows of what is kept of an event
abbrev pub kept_rows : List WorldEvent → kept.Entry → ℕ
kept_rows events k = rows events k.first (k.behind - k.first)

-- those of entries, of which the first has this row
unfoldable pub places : List WorldEvent → (row : ℕ) → List kept.Entry → List Place
places events row [] = []
places events row (k ∷ ks) = record { row = row; behind = k.behind } ∷ places events (row + kept_rows events k) ks

-- the row behind them
unfoldable pub behind : List WorldEvent → (row : ℕ) → List kept.Entry → ℕ
behind events row [] = row
behind events row (k ∷ ks) = behind events (row + kept_rows events k) ks

-- the first of these places behind whose frames one doesn't stand; else the row behind them
unfoldable pub row_in : (frame rows : ℕ) → List Place → ℕ
row_in frame rows [] = rows
row_in frame rows (p ∷ ps) = if nat_lt frame p.behind then p.row else row_in frame rows ps

-- the rows are those of these entries, drawn by these events
pub record IsLayout (events : List WorldEvent) (ks : List kept.Entry) (l : Layout) : Type 0 where
  pub places : l.places.items ≡ places events 0 ks
  pub rows : l.rows ≡ behind events 0 ks
