use Rattle.std.proofs.Common.{arith}
use Rattle.std.proofs.lemmas.Grind.{common_steps}
use Rattle.lat_circuit.proofs.circuit.Circuit.finish.Goals as goal

pub returns-then-ids-ne0-clause-most : goal.returns-then-ids-ne0-clause-most
returns-then-ids-ne0-clause-most c = grind (arith, common_steps)
