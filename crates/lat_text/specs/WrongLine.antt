-- What is printed where an input hasn't its form.
use Rattle.std.specs.Prelude.{ℕ, List, [], ◌∷◌, codes, decimal}
use Rattle.lat_text.specs.Line.{line}

-- the line that names the first wrong line by its number, counted from 1
abbrev pub wrong_line : ℕ → List ℕ
wrong_line number = line (codes "line " ∷ decimal number ∷ codes " form" ∷ [])
