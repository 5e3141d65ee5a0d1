use Rattle.std.proofs.Common.{arith}
use Rattle.std.proofs.lemmas.Grind.{common_steps}
use Rattle.lat_notices.proofs.write.write_command.Goals as goal

pub write_number-requires : goal.write_number-requires
write_number-requires c = grind (arith, common_steps)

pub write_number-requires-2 : goal.write_number-requires-2
write_number-requires-2 c = grind (arith, common_steps)

pub push-requires-2 : goal.push-requires-2
push-requires-2 c = grind (arith, common_steps)

pub write_counted-requires-clause-room : goal.write_counted-requires-clause-room
write_counted-requires-clause-room c = grind (arith, common_steps)

pub write_counted-requires-2-clause-room : goal.write_counted-requires-2-clause-room
write_counted-requires-2-clause-room c = grind (arith, common_steps)

pub returns-clause-text : goal.returns-clause-text
returns-clause-text c = grind (arith, common_steps)
