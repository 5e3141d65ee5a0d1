-- The lines in what a client gives.
use Rattle.std.specs.Prelude.{ℕ, ◌-◌, ◌==◌, if◌then◌else◌, List, [], ◌∷◌, ◌++◌, length, take, get_or}

-- a line without the carriage return at its end, if one is there
abbrev pub without_return : List ℕ → List ℕ
without_return line = if get_or line (length line - 1) 0 == 13 then take (length line - 1) line else line

-- the line that was begun, behind one more byte, and behind all of these: a line feed ends it
abbrev pub begun_next : List ℕ → ℕ → List ℕ
begun_next line b = if b == 10 then [] else line ++ b ∷ []

abbrev pub begun_after : List ℕ → List ℕ → List ℕ
begun_after line [] = line
begun_after line (b ∷ bs) = begun_after (begun_next line b) bs

-- the line that a byte ends, if it does, and all that these bytes end
abbrev pub line_at : List ℕ → ℕ → List (List ℕ)
line_at line b = if b == 10 then without_return line ∷ [] else []

abbrev pub lines_after : List ℕ → List ℕ → List (List ℕ)
lines_after line [] = []
lines_after line (b ∷ bs) = line_at line b ++ lines_after (begun_next line b) bs

-- the lines of all that a client gave, and the line that was begun
abbrev pub lines_of : List ℕ → List (List ℕ)
lines_of given = lines_after [] given

abbrev pub begun_of : List ℕ → List ℕ
begun_of given = begun_after [] given
