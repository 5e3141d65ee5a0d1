-- The words of a line, between which one space stands.
use Rattle.std.specs.Prelude.{ℕ, ◌+◌, List, take, drop, Option, Some, None, option_map, option_and_then, position, bytes_eq, ◌==◌, if◌then◌else◌}

abbrev pub space : ℕ
space = 32

-- the word in front of a text's first space, and the text behind that space
abbrev pub first_word : List ℕ → Option (List ℕ × List ℕ)
first_word text = option_map (λ end. (take end text, drop (end + 1) text)) (position (λ b. b == space) text)

abbrev pub if_word : List ℕ → List ℕ × List ℕ → Option (List ℕ)
if_word word first = if bytes_eq first.0 word then Some first.1 else None

-- what stands behind this word and a space, where a text begins with them
abbrev pub behind_word : List ℕ → List ℕ → Option (List ℕ)
behind_word word text = option_and_then (if_word word) (first_word text)
