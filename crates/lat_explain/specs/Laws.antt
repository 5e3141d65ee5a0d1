-- What is told of a line, and that the forms of words and of payloads are what is read.
use Rattle.std.specs.Prelude.{◌≡◌, ◌↔◌, ℕ, true, not, ◌&&◌, List, is_some}
use Rattle.lat_text.specs.Digits.{address_of, bytes_of}
use Rattle.lat_text.specs.Lines.{lines_of}
use Rattle.lat_text.specs.NameWritten.{name_of}
use Rattle.lat_text.specs.Numbers.{number_within}
use Rattle.lat_explain.specs.declared.awaited.Input.{Input}
use Rattle.lat_explain.specs.declared.form.Kind.TheVariants as kinds
use Rattle.lat_explain.specs.Awaited.{payload_forms}
use Rattle.lat_explain.specs.Columns.{HasSome, TellsColumn, forms_in}
use Rattle.lat_explain.specs.Forms.{Taken, fits_as, is_station_taken}
use Rattle.lat_explain.specs.LineExplained.{line_explained}

-- what is told of a wrong line has the column of the first byte that no valid text has there
abbrev pub ColumnsAreRight : Type 0
ColumnsAreRight =
    (input : Input) (before : ℕ) (text : List ℕ) → TellsColumn input before text (line_explained input before text)

-- a word goes with a form exactly if it is read so
pub record WordsAreRead : Type 0 where
  pub numbers : (taken : Taken) (form word : List ℕ) (least most : ℕ)
      → fits_as taken (kinds.Number least most) form word ≡ is_some (number_within least most word)
  pub digits : (taken : Taken) (form word : List ℕ) (least most : ℕ)
      → fits_as taken (kinds.Hex least most) form word ≡ is_some (bytes_of least most word)
  pub stations : (taken : Taken) (form word : List ℕ)
      → fits_as taken kinds.Station form word ≡ (is_some (address_of word) && not (is_station_taken taken word))
  pub names : (taken : Taken) (form word : List ℕ) → fits_as taken kinds.Name form word ≡ is_some (name_of word)

abbrev pub PayloadsAreRead : Type 0
PayloadsAreRead =
    (taken : Taken) (line : List ℕ) → HasSome taken (forms_in (lines_of payload_forms)) line ↔ (is_some (bytes_of 0 8192 line) ≡ true)
