-- The texts that fields are written as.
use Rattle.std.specs.Prelude.{ℕ, ◌/◌, ◌%◌, List, [], ◌∷◌, length}

-- the two bytes of a number, low byte first
abbrev pub number : ℕ → List ℕ
number value = (value % 256) ∷ (value / 256) ∷ []

-- a length byte and that many bytes
abbrev pub counted : List ℕ → List ℕ
counted text = length text ∷ text
