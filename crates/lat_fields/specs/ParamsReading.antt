-- Reading parameters.
use Rattle.std.specs.Prelude.{ℕ, zero, suc, List, [], ◌∷◌, Result, Ok, ◌==◌, if◌then◌else◌}
use Rattle.lat_base.specs.declared.field.Field.TheVariants.{Parameters}
use Rattle.lat_base.specs.declared.field.Bad.{Bad}
use Rattle.lat_fields.specs.declared.params.Param.{Param}
use Rattle.lat_fields.specs.Reading.{◌>>=◌, bad, byte_at, counted_at}

abbrev pub entry : ℕ → List ℕ → Param
entry code bytes = record { code = code; bytes = bytes }

-- at most so many entries; the reader allows more than there are bytes
unfoldable pub params_at : ℕ → ℕ → List ℕ → Result (List Param × ℕ × List ℕ) Bad
params_at zero place bytes = bad Parameters place
params_at (suc most) place bytes = do
  code ← byte_at Parameters place place bytes
  if code.0 == 0 then Ok ([], code.1, code.2) else (do
    t ← counted_at Parameters place code.1 code.2
    more ← params_at most t.1 t.2
    Ok (entry code.0 t.0 ∷ more.0, more.1, more.2))
