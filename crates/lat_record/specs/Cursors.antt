-- The lines of a record, one after another; none of them is silent.
use Rattle.std.specs.Prelude.{ℕ, false, List, Result, Ok, Err}
use Rattle.lat_text.specs.Lines.{lines_of}
use Rattle.lat_schedule.specs.Places.{Place, Over, Unended, Numbered, numbered}
use Rattle.lat_record.specs.declared.cursor.Cursor.{Cursor}

-- the lines of what is left of a text
abbrev pub place : Cursor → Place
place at = numbered false at.number (lines_of at.text.now)

-- the lines of a whole text
abbrev pub first_place : List ℕ → Place
first_place text = numbered false 1 (lines_of text)

-- the number of the next line, or of the one that is missing
abbrev pub number_of : Place → ℕ
number_of (Over number) = number
number_of (Unended number) = number
number_of (Numbered number line more) = number

-- no line is left; bytes that no line feed ends are of a line that was cut, which counts for nothing
abbrev pub over_at : Place → Result (Unit {0}) ℕ
over_at (Over number) = Ok tt
over_at (Unended number) = Ok tt
over_at (Numbered number line more) = Err number
