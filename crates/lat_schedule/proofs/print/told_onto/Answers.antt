use Rattle.std.proofs.Common.{arith}
use Rattle.std.proofs.lemmas.Grind.{common_steps}
use Rattle.lat_schedule.proofs.print.told_onto.Goals as goal

pub returns-in_ok-line_onto-in-Attend : goal.returns-in_ok-line_onto-in-Attend
returns-in_ok-line_onto-in-Attend c = grind (arith, common_steps)

pub returns-in_ok-line_onto-in-Connect : goal.returns-in_ok-line_onto-in-Connect
returns-in_ok-line_onto-in-Connect c = grind (arith, common_steps)

pub returns-in_ok-line_onto-in-Put : goal.returns-in_ok-line_onto-in-Put
returns-in_ok-line_onto-in-Put c = grind (arith, common_steps)

pub returns-in_ok-line_onto-in-Set : goal.returns-in_ok-line_onto-in-Set
returns-in_ok-line_onto-in-Set c = grind (arith, common_steps)

pub returns-in_ok-line_onto-in-Take : goal.returns-in_ok-line_onto-in-Take
returns-in_ok-line_onto-in-Take c = grind (arith, common_steps)

pub returns-in_ok-push_str-in-Request : goal.returns-in_ok-push_str-in-Request
returns-in_ok-push_str-in-Request c = grind (arith, common_steps)
