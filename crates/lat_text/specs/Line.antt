-- A printed line.
use Rattle.std.specs.Prelude.{ℕ, List, [], ◌∷◌, ◌++◌, codes}

-- the pieces one after another, and a line feed
abbrev pub line : List (List ℕ) → List ℕ
line [] = codes "\n"
line (piece ∷ pieces) = piece ++ line pieces
