use Rattle.std.proofs.Common.{arith}
use Rattle.std.proofs.lemmas.Grind.{common_steps}
use Rattle.lat_show.proofs.slot.slot_onto.Goals as goal

pub returns-in_ok-asked_onto-in-Start : goal.returns-in_ok-asked_onto-in-Start
returns-in_ok-asked_onto-in-Start c = grind (arith, common_steps)

pub returns-in_ok-byte_onto-in-Attention : goal.returns-in_ok-byte_onto-in-Attention
returns-in_ok-byte_onto-in-Attention c = grind (arith, common_steps)

pub returns-in_ok-ends_onto-in-Reject : goal.returns-in_ok-ends_onto-in-Reject
returns-in_ok-ends_onto-in-Reject c = grind (arith, common_steps)

pub returns-in_ok-ends_onto-in-Stop : goal.returns-in_ok-ends_onto-in-Stop
returns-in_ok-ends_onto-in-Stop c = grind (arith, common_steps)

pub returns-in_ok-hex_onto-in-DataA : goal.returns-in_ok-hex_onto-in-DataA
returns-in_ok-hex_onto-in-DataA c = grind (arith, common_steps)

pub returns-in_ok-setting_onto-in-DataB : goal.returns-in_ok-setting_onto-in-DataB
returns-in_ok-setting_onto-in-DataB c = grind (arith, common_steps)
