use Rattle.std.proofs.Common.{arith}
use Rattle.std.proofs.lemmas.Grind.{common_steps}
use Rattle.lat_notices.proofs.write.write_announcement.Goals as goal

pub push-requires-2 : goal.push-requires-2
push-requires-2 c = grind (arith, common_steps)

pub write_number-requires : goal.write_number-requires
write_number-requires c = grind (arith, common_steps)

pub write_counted-requires-clause-room : goal.write_counted-requires-clause-room
write_counted-requires-clause-room c = grind (arith, common_steps)

pub write_counted-requires-2-clause-room : goal.write_counted-requires-2-clause-room
write_counted-requires-2-clause-room c = grind (arith, common_steps)

pub write_counted-requires-3-clause-room : goal.write_counted-requires-3-clause-room
write_counted-requires-3-clause-room c = grind (arith, common_steps)

pub push-requires-3 : goal.push-requires-3
push-requires-3 c = grind (arith, common_steps)

pub write_services-requires-clause-room : goal.write_services-requires-clause-room
write_services-requires-clause-room c = grind (arith, common_steps)

pub returns-clause-text : goal.returns-clause-text
returns-clause-text c = grind (arith, common_steps)
