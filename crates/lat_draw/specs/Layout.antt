-- Where things stand in a picture. The server's line of life is on the left, the node's on the right; time goes downwards, a row
-- for each event and a row for each frame that isn't drawn to the other end.
use Rattle.std.specs.Prelude.{ℕ, zero, suc, ◌+◌, ◌*◌, Bool, List, [], ◌∷◌, length, take, nat_eq, nat_lt, if◌then◌else◌}
use Rattle.lat_schedule.specs.declared.event.WorldEvent.{WorldEvent}
use Rattle.lat_trace.specs.Entries.{Entry}
use Rattle.lat_trace.specs.Fates.{deliveries}
use Rattle.lat_trace.specs.Runs.{Run}

-- where the line of life of the server or of the node stands
abbrev pub life : (server : Bool) → ℕ
life server = if server then 660 else 1060

-- the height of a row
abbrev pub height : (row : ℕ) → ℕ
height row = 96 + 22 * row

-- the events that were played
abbrev pub played : Run → List WorldEvent
played r = take (length r.entries) r.schedule.events

-- none of these events delivers the frame of this number
abbrev pub stays : List WorldEvent → (frame : ℕ) → Bool
stays events frame = nat_eq (deliveries frame events) 0

-- of so many frames, of which the first has this number, how many stay
unfoldable pub staying : List WorldEvent → (frame count : ℕ) → ℕ
staying events frame zero = 0
staying events frame (suc n) = (if stays events frame then 1 else 0) + staying events (suc frame) n

-- the rows of an event that made so many frames
abbrev pub rows : List WorldEvent → (first count : ℕ) → ℕ
rows events first count = suc (staying events first count)

abbrev pub entry_rows : List WorldEvent → Entry → ℕ
entry_rows events e = rows events e.first (length e.frames)

-- those of all entries
unfoldable pub all_rows : List WorldEvent → List Entry → ℕ
all_rows events [] = 0
all_rows events (e ∷ es) = entry_rows events e + all_rows events es

-- the row of the entry that made the frame of this number, of entries of which the first has this row
unfoldable pub row_made : List WorldEvent → (frame row : ℕ) → List Entry → ℕ
row_made events frame row [] = row
row_made events frame row (e ∷ es) =
    if nat_lt frame (e.first + length e.frames) then row else row_made events frame (row + entry_rows events e) es
