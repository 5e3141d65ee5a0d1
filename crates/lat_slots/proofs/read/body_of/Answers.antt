use Rattle.std.proofs.Common.{arith}
use Rattle.std.proofs.lemmas.Grind.{common_steps}
use Rattle.lat_slots.specs.Reading.{body_at}
use Rattle.lat_slots.proofs.read.body_of.Goals as goal

pub returns-in_ok-copy-in-DataA : goal.returns-in_ok-copy-in-DataA
unfolding body_at
returns-in_ok-copy-in-DataA c = grind (arith, common_steps)

pub returns-in-DataB : goal.returns-in-DataB
unfolding body_at
returns-in-DataB c = grind (arith, common_steps)

pub returns-in-Attention : goal.returns-in-Attention
unfolding body_at
returns-in-Attention c = grind (arith, common_steps)
