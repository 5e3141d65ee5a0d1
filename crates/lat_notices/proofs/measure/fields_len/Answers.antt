use Rattle.std.proofs.Common.{arith}
use Rattle.std.proofs.lemmas.Grind.{common_steps}
use Rattle.lat_notices.proofs.measure.fields_len.Goals as goal

pub returns-in-Command-clause-len : goal.returns-in-Command-clause-len
returns-in-Command-clause-len c = grind (arith, common_steps)

pub returns-in-Solicit-clause-len : goal.returns-in-Solicit-clause-len
returns-in-Solicit-clause-len c = grind (arith, common_steps)

pub returns-in-Response-clause-len : goal.returns-in-Response-clause-len
returns-in-Response-clause-len c = grind (arith, common_steps)
