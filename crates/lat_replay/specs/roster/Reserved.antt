-- Room in a roster for what an event adds.
use Rattle.std.specs.Prelude.{ℕ, ◌≤◌, Bool, length, slice_index, if◌then◌else◌}
use Rattle.lat_base.specs.Answers.{items_given}
use Rattle.lat_base.specs.declared.answer.Answer.{Answer}
use Rattle.lat_base.specs.declared.event.Event.{Event}
use Rattle.lat_base.specs.declared.event.Event.TheVariants.{Put, Set, Take}
use Rattle.lat_replay.specs.roster.Roster as rosters
use Rattle.lat_replay.specs.roster.Roster.{ReservedAt}

-- the line that an event puts on, or takes from; no line is 0
abbrev pub line_in : Event → ℕ
line_in (Put line bytes) = line
line_in (Set line setting) = line
line_in (Take line n) = line
line_in e = 0

-- how many items it puts at most
abbrev pub put_count : Event → ℕ
put_count (Put line bytes) = length bytes
put_count (Set line setting) = 1
put_count e = 0

-- how many items it takes by its answer
abbrev pub taken_count : Event → Answer → ℕ
taken_count (Take line n) a = items_given a
taken_count e a = 0

-- the place of the row of a line's newest session
abbrev pub place_of : rosters.Kept → Bool → ℕ → ℕ
place_of k b line = slice_index (if b then k.server_lines else k.node_lines) line

-- the row of the event's line has room for the items that the event adds by its answer
abbrev pub FitsIn : rosters.Kept → Bool → Event → Answer → Type 0
FitsIn k b e a = ReservedAt k.rows (place_of k b (line_in e)) b (put_count e) (taken_count e a)

-- room for so many sessions more
pub record HasPlaces (n : ℕ) (k : rosters.Kept) : Type 0 where
  pub rows : n ≤ k.reserved
  pub names : n ≤ k.names.reserved
