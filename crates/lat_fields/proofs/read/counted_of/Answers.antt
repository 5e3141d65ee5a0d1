use Rattle.std.proofs.Common.{arith}
use Rattle.std.proofs.lemmas.Grind.{common_steps}
use Rattle.lat_fields.proofs.read.counted_of.Goals as goal

pub returns-clause-gives : goal.returns-clause-gives
unfolding Rattle.lat_fields.specs.Reading.counted_at
returns-clause-gives c = grind (arith, common_steps)
