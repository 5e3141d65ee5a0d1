use Rattle.std.proofs.Common.{arith}
use Rattle.std.proofs.lemmas.Grind.{common_steps}
use Rattle.lat_fields.proofs.read.byte_of.Goals as goal

pub returns-then-place-bytes-clause-gives : goal.returns-then-place-bytes-clause-gives
returns-then-place-bytes-clause-gives c = grind (arith, common_steps)

pub returns-clause-gives : goal.returns-clause-gives
returns-clause-gives c = grind (arith, common_steps)
