-- The texts of parameters.
use Rattle.std.specs.Prelude.{ℕ, ◌<◌, Bool, ◌&&◌, nat_lt, List, [], ◌∷◌, ◌++◌, length}
use Rattle.std.specs.List.{flat_map}
use Rattle.lat_fields.specs.declared.params.Param.{Param}
use Rattle.lat_fields.specs.Texts.{counted}

-- what a parameter must be
pub record IsEntry (p : Param) : Type 0 where
  pub code : 0 < p.code
  pub text : length p.bytes < 256

-- the same, as a test
abbrev pub is_entry : Param → Bool
is_entry p = nat_lt 0 p.code && nat_lt (length p.bytes) 256

abbrev pub entry_text : Param → List ℕ
entry_text p = p.code ∷ counted p.bytes

-- the entries, and a code of 0, which ends them
abbrev pub params_text : List Param → List ℕ
params_text ps = flat_map entry_text ps ++ 0 ∷ []
