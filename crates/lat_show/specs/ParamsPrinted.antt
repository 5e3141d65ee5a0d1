-- Parameters in print.
use Rattle.std.specs.Prelude.{ℕ, List, [], ◌∷◌, ◌++◌, codes, decimal}
use Rattle.std.specs.List.{concat, flat_map}
use Rattle.lat_fields.specs.declared.params.Param.{Param}
use Rattle.lat_text.specs.HexText.{hex_text}

abbrev pub param_printed : Param → List ℕ
param_printed param = concat (decimal param.code ∷ codes ":" ∷ hex_text param.bytes ∷ [])

abbrev pub further_param_printed : Param → List ℕ
further_param_printed param = codes "," ++ param_printed param

-- parameters with commas between them, `-` for none
abbrev pub params_printed : List Param → List ℕ
params_printed [] = codes "-"
params_printed (param ∷ params) = param_printed param ++ flat_map further_param_printed params
