-- The items that one event adds to what a line's session has put and taken, by its answer alone.
use Rattle.std.specs.Prelude.{ℕ, List, [], ◌∷◌, map, take}
use Rattle.lat_model.specs.sessions.Slots.{Item, Byte, Setting, items}
use Rattle.lat_model.specs.sessions.Session.{Session}
use Rattle.lat_machines.specs.values.Events.{Event, Puts, Sets, Takes}
use Rattle.lat_machines.specs.values.Answers.{Answer, Accepted, Took, Done}

-- all that Take gave of a session
abbrev pub taken_of : Session → List Item
taken_of s = take s.taken (items s.came)

-- the line that an event puts on, or takes from; no line is 0
abbrev pub line_of : Event → ℕ
line_of (Puts line bytes) = line
line_of (Sets line setting) = line
line_of (Takes line n) = line
line_of _ = 0

abbrev pub accepted_bytes : List ℕ → Answer → List Item
accepted_bytes bytes (Accepted n) = map Byte (take n bytes)
accepted_bytes bytes _ = []

abbrev pub accepted_setting : List ℕ → Answer → List Item
accepted_setting setting Done = Setting setting ∷ []
accepted_setting setting _ = []

-- the first bytes of a Put, as many as its answer says; a setting that was taken
abbrev pub put_by : Event → Answer → List Item
put_by (Puts line bytes) a = accepted_bytes bytes a
put_by (Sets line setting) a = accepted_setting setting a
put_by _ a = []

abbrev pub taken_items : Answer → List Item
taken_items (Took xs) = xs
taken_items _ = []

abbrev pub taken_by : Event → Answer → List Item
taken_by (Takes line n) a = taken_items a
taken_by _ a = []
