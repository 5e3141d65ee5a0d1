-- What stays of the words as they were.
use Rattle.std.specs.Prelude.{◌≡◌, ℕ, List, Some}
use Rattle.lat_text.specs.NameWritten.{name_of}
use Rattle.lat_words.specs.NameTexts.{named}

-- each text of a name is one of the same name where escapes of every byte are taken
abbrev pub NamesStay : Type 0
NamesStay = (text name : List ℕ) → name_of text ≡ Some name → named text ≡ Some name
