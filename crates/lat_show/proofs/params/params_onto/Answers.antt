use Rattle.std.proofs.Common.{arith}
use Rattle.std.proofs.lemmas.Grind.{common_steps}
use Rattle.lat_show.proofs.params.params_onto.Goals as goal

pub returns-in_ok-param_onto-in-len1-up : goal.returns-in_ok-param_onto-in-len1-up
returns-in_ok-param_onto-in-len1-up c = grind (arith, common_steps)
