use Rattle.std.proofs.Common.{arith}
use Rattle.std.proofs.lemmas.Grind.{common_steps}
use Rattle.lat_slots.specs.Reading.{head_at}
use Rattle.lat_slots.proofs.read.head_of.Goals as goal

pub returns-in_err-wanted-clause-gives : goal.returns-in_err-wanted-clause-gives
unfolding head_at
returns-in_err-wanted-clause-gives c = grind (arith, common_steps)

pub returns-in_err-kind-clause-gives : goal.returns-in_err-kind-clause-gives
unfolding head_at
returns-in_err-kind-clause-gives c = grind (arith, common_steps)

pub returns-clause-gives : goal.returns-clause-gives
unfolding head_at
returns-clause-gives c = grind (arith, common_steps)
