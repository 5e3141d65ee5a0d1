use Rattle.std.proofs.Common.{arith}
use Rattle.std.proofs.lemmas.Grind.{common_steps}
use Rattle.lat_slots.specs.Reading.{slot_at}
use Rattle.lat_slots.proofs.read.slot_of.Goals as goal

pub returns-in_err-wanted-clause-gives : goal.returns-in_err-wanted-clause-gives
unfolding slot_at
returns-in_err-wanted-clause-gives c = grind (arith, common_steps)

pub returns-clause-gives : goal.returns-clause-gives
unfolding slot_at
returns-clause-gives c = grind (arith, common_steps)
