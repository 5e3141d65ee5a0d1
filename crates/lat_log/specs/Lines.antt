-- The lines of a log.
use Rattle.std.specs.Prelude.{◌≡◌, ℕ, List, ◌++◌, codes}
use Rattle.log.specs.declared.level.Level.{Level}
use Rattle.log.specs.declared.level.Level.TheVariants as levels
use Rattle.lat_text.specs.NameText.{name_text}
use Rattle.lat_log.specs.Stamps.{IsStamp}
use Rattle.lat_log.specs.Words.{entry_words}
use Rattle.lat_log.specs.declared.entry.Entry.{Entry}
use Rattle.lat_log.specs.declared.entry.Entry.TheVariants as entries

-- how much an entry matters
abbrev pub level_of : Entry → Level
level_of (entries.IdsLeft count) = levels.Error
level_of (entries.RecordsLeft count) = levels.Error
level_of (entries.Missed count) = levels.Error
level_of (entries.Bad bad from) = levels.Debug
level_of (entries.MoreBad count) = levels.Debug
level_of entry = levels.Info

-- an entry's line behind its moment
abbrev pub line_rest : List ℕ → Entry → List ℕ
line_rest name entry = codes " " ++ (name_text name ++ (codes " " ++ (entry_words entry ++ codes "\n")))

-- behind a text the line of an entry was added
pub record LineAdded (moment : ℕ) (name : List ℕ) (entry : Entry) (old new : List ℕ) : Type 0 where
  pub stamp : List ℕ
  pub is : IsStamp moment stamp
  pub added : new ≡ old ++ (stamp ++ line_rest name entry)
