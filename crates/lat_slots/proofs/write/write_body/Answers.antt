use Rattle.std.proofs.Common.{arith}
use Rattle.std.proofs.lemmas.Grind.{common_steps}
use Rattle.lat_slots.proofs.write.write_body.Goals as goal

pub write_start_fields-requires-clause-room : goal.write_start_fields-requires-clause-room
write_start_fields-requires-clause-room c = grind (arith, common_steps)

pub write_params-requires-clause-room : goal.write_params-requires-clause-room
write_params-requires-clause-room c = grind (arith, common_steps)

pub append-requires-in-DataB : goal.append-requires-in-DataB
append-requires-in-DataB c = grind (arith, common_steps)

pub returns-in-Start : goal.returns-in-Start
returns-in-Start c = grind (arith, common_steps)

pub returns-in-DataB : goal.returns-in-DataB
returns-in-DataB c = grind (arith, common_steps)
