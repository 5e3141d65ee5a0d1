-- A refused payload in print.
use Rattle.std.specs.Prelude.{ℕ, List, [], ◌∷◌, codes, decimal}
use Rattle.lat_base.specs.declared.field.Bad.{Bad}
use Rattle.lat_base.specs.FieldWords.{field_word}
use Rattle.lat_text.specs.Line.{line}

-- the line that names the first bad field and its place
abbrev pub bad_printed : Bad → List ℕ
bad_printed bad = line (codes "bad " ∷ field_word bad.field ∷ codes " " ∷ decimal bad.at ∷ [])
