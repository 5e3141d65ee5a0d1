-- What is printed of a whole input.
use Rattle.std.specs.Prelude.{ℕ, ◌+◌, List, [], ◌++◌, Option, None, Some, Result, Ok, Err}
use Rattle.lat_text.specs.Digits.{bytes_of}
use Rattle.lat_text.specs.Lines.{Lines, End, Cut, Line, lines_of}
use Rattle.lat_text.specs.WrongLine.{wrong_line}
use Rattle.lat_show.specs.PayloadPrinted.{payload_printed}

-- the payload that a line writes: an even number of hex digits of either case, at most 8,192, perhaps none
unfoldable pub payload_of : List ℕ → Option (List ℕ)
payload_of line = bytes_of 0 8192 line

-- a text in front of what further lines print, unless one of them is wrong
abbrev pub shown_before : List ℕ → Result (List ℕ) ℕ → Result (List ℕ) ℕ
shown_before text (Ok more) = Ok (text ++ more)
shown_before text (Err number) = Err number

-- a line of this number with its payload, if it has one, in front of further lines
abbrev pub line_before : ℕ → Option (List ℕ) → Result (List ℕ) ℕ → Result (List ℕ) ℕ
line_before number None more = Err number
line_before number (Some payload) more = shown_before (payload_printed payload) more

-- the texts of the payloads of lines, of which the first has this number; or the number of the first wrong line
unfoldable pub lines_printed : ℕ → Lines → Result (List ℕ) ℕ
lines_printed number End = Ok []
lines_printed number Cut = Err number
lines_printed number (Line line more) = line_before number (payload_of line) (lines_printed (number + 1) more)

-- status 0 and the text, or status 2 and the first wrong line
abbrev pub answer_of : Result (List ℕ) ℕ → ℕ × List ℕ
answer_of (Ok text) = (0, text)
answer_of (Err number) = (2, wrong_line number)

-- the status and the text for an input
abbrev pub show_of : List ℕ → ℕ × List ℕ
show_of input = answer_of (lines_printed 1 (lines_of input))
