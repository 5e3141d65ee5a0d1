use Rattle.std.proofs.Common.{rules, arith}
use Rattle.std.proofs.lemmas.Grind.{common_steps}
use Rattle.lat_value.proofs.read.notice_of.Goals as goal

pub returns-clause-reading : goal.returns-clause-reading
returns-clause-reading c = search rules

pub returns-clause-ok : goal.returns-clause-ok
returns-clause-ok c = grind (arith, common_steps)
