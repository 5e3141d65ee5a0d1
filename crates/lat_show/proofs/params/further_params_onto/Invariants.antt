use Rattle.std.proofs.Common.{◌≡◌, ◌++◌, string_bytes, take}
use Rattle.std.specs.List.{flat_map}
use Rattle.lat_show.specs.ParamsPrinted.{further_param_printed}
use Rattle.lat_show.proofs.params.further_params_onto.Given as goal

abbrev pub invariant-loop-param : goal.invariant-loop-param
invariant-loop-param l = string_bytes l.text ≡ string_bytes l.initial.text ++ flat_map further_param_printed (take l.param-index l.params)
