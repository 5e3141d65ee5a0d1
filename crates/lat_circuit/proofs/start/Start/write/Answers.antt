use Rattle.std.proofs.Common.{arith}
use Rattle.std.proofs.lemmas.Grind.{common_steps}
use Rattle.lat_circuit.proofs.start.Start.write.Goals as goal

pub write_counted-requires-3-clause-room : goal.write_counted-requires-3-clause-room
write_counted-requires-3-clause-room c = grind (arith, common_steps)

pub write_span-requires : goal.write_span-requires
write_span-requires c = grind (arith, common_steps)

pub returns-clause-text : goal.returns-clause-text
returns-clause-text c = grind (arith, common_steps)
