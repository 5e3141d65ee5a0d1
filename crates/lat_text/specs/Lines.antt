-- The lines of a text.
use Rattle.std.specs.Prelude.{ℕ, List, [], ◌∷◌, ◌==◌, if◌then◌else◌}

-- the lines of a text, in order, without the line feeds that end them
pub data Lines : Type 0 where
  -- no byte is left
  End : Lines
  -- bytes are left that no line feed ends: a last line that is wrong in every input
  Cut : Lines
  -- a line, and the lines behind its line feed
  Line : List ℕ → Lines → Lines

-- the byte of a line feed
abbrev pub line_feed : ℕ
line_feed = 10

-- a byte that is no line feed, in front of these lines
abbrev pub byte_before : ℕ → Lines → Lines
byte_before b End = Cut
byte_before b Cut = Cut
byte_before b (Line line rest) = Line (b ∷ line) rest

abbrev pub lines_of : List ℕ → Lines
lines_of [] = End
lines_of (b ∷ text) = if b == line_feed then Line [] (lines_of text) else byte_before b (lines_of text)

-- what a text without a line feed has for lines
abbrev pub no_line : List ℕ → Lines
no_line [] = End
no_line (b ∷ text) = Cut
