-- The lines of a script.
use Rattle.std.specs.Prelude.{ℕ, Bool, ◌||◌, List, [], ◌∷◌, ◌==◌, length, filter, bytes_eq, codes, if◌then◌else◌}
use Rattle.lat_text.specs.Line.{line}
use Rattle.lat_text.specs.Lines.{line_feed}
use Rattle.lat_script.specs.Words.{word_at}

-- a line without a letter, and one whose first word is `#`
abbrev pub is_remark : List ℕ → Bool
is_remark text = length text == 0 || bytes_eq (word_at 0 text) (codes "#")

-- a remark as it is, a command behind `> `
abbrev pub printed : List ℕ → List ℕ
printed text = if is_remark text then line (text ∷ []) else line (codes "> " ∷ text ∷ [])

abbrev pub line_feeds : List ℕ → ℕ
line_feeds text = length (filter (λ b. b == line_feed) text)
