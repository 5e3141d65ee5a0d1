-- Texts with a margin.
use Rattle.std.specs.Prelude.{ℕ, Bool, true, List, [], ◌∷◌, ◌++◌, codes, ◌==◌, if◌then◌else◌}

-- four blanks
abbrev pub margin : List ℕ
margin = codes "    "

-- the bytes of a text, and a margin wherever a line begins; `begins`: one does at the first byte
unfoldable pub indented_from : Bool → List ℕ → List ℕ
indented_from begins [] = []
indented_from begins (b ∷ text) = (if begins then margin else []) ++ (b ∷ indented_from (b == 10) text)

-- a text with a margin in front of each of its lines
abbrev pub indented : List ℕ → List ℕ
indented text = indented_from true text

-- the same of a text without a line feed
abbrev pub last_indented : List ℕ → List ℕ
last_indented [] = []
last_indented (b ∷ text) = margin ++ (b ∷ text)
