-- What the lines in front of a line said.
use Rattle.std.specs.Prelude.{ℕ, zero, suc, ◌+◌, Bool, true, List, [], ◌∷◌, ◌++◌, Option, Some, None, ◌==◌, if◌then◌else◌}
use Rattle.lat_text.specs.Lines.{Lines, End, Cut, Line}
use Rattle.lat_text.specs.Words.{behind_word}
use Rattle.lat_explain.specs.Walks.{front_word}

abbrev pub said_or : Option (List ℕ) → List ℕ → List ℕ
said_or None found = found
said_or (Some said) found = said

-- what stands behind this word in the last of the first lines that begins with it, so many lines; or what was found before
unfoldable pub last_behind : (word : List ℕ) → ℕ → Lines → (found : List ℕ) → List ℕ
last_behind word zero lines found = found
last_behind word (suc n) End found = found
last_behind word (suc n) Cut found = found
last_behind word (suc n) (Line line more) found = last_behind word n more (said_or (behind_word word line) found)

-- a line without a byte, or that begins with `#`
abbrev pub is_silent : List ℕ → Bool
is_silent [] = true
is_silent (b ∷ line) = b == 35

abbrev pub unless_silent : (line found : List ℕ) → List ℕ
unless_silent line found = if is_silent line then found else line

-- the last of the first lines that isn't silent
unfoldable pub last_line : ℕ → Lines → (found : List ℕ) → List ℕ
last_line zero lines found = found
last_line (suc n) End found = found
last_line (suc n) Cut found = found
last_line (suc n) (Line line more) found = last_line n more (unless_silent line found)

-- the second word of a line that begins with this one, ended by a line feed
abbrev pub second_said : Option (List ℕ) → List ℕ
second_said None = []
second_said (Some text) = front_word text ++ 10 ∷ []

-- the second words of those of the first lines that begin with this word
unfoldable pub seconds : (word : List ℕ) → ℕ → Lines → List ℕ
seconds word zero lines = []
seconds word (suc n) End = []
seconds word (suc n) Cut = []
seconds word (suc n) (Line line more) = second_said (behind_word word line) ++ seconds word n more

-- the silent lines in front of some
unfoldable pub silent_lines : Lines → ℕ
silent_lines End = 0
silent_lines Cut = 0
silent_lines (Line line more) = if is_silent line then silent_lines more + 1 else 0
