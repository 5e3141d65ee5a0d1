-- What is new of what runs out.
use Rattle.std.specs.Prelude.{ℕ, Bool, false, not, ◌&&◌, List, [], ◌∷◌, ◌++◌, Option, Some, None, nat_le, if◌then◌else◌}
use Rattle.lat_log.specs.declared.entry.Entry.{Entry}
use Rattle.lat_log.specs.declared.entry.Entry.TheVariants.{IdsLeft, RecordsLeft}
use Rattle.lat_log.specs.declared.left.Left.{Left}

-- what a core tells of itself that it has left
abbrev pub left_of : (ids : ℕ) (records : Option ℕ) → Left
left_of ids records = record { ids = ids; records = records }

-- of a core that wasn't looked at yet: all ids, and of records nothing is known
abbrev pub unseen : Left
unseen = left_of 65_535 None

abbrev pub are_few : ℕ → Bool
are_few count = nat_le count 1000

-- the number was known, and few
abbrev pub were_few : Option ℕ → Bool
were_few None = false
were_few (Some count) = are_few count

-- few ids are left, and weren't
abbrev pub ids_news : (old now : ℕ) → List Entry
ids_news old now = if not (are_few old) && are_few now then IdsLeft now ∷ [] else []

-- few records are left, and weren't
abbrev pub records_news : (old now : Option ℕ) → List Entry
records_news old None = []
records_news old (Some now) = if not (were_few old) && are_few now then RecordsLeft now ∷ [] else []

abbrev pub left_news : (old now : Left) → List Entry
left_news old now = ids_news old.ids now.ids ++ records_news old.records now.records
