use Rattle.std.proofs.Common.{rules, arith}
use Rattle.std.proofs.lemmas.Grind.{common_steps}
use Rattle.lat_circuit.proofs.circuit.Circuit.round_start.Goals as goal

pub send_start-requires-clause-rounds : goal.send_start-requires-clause-rounds
send_start-requires-clause-rounds c = search rules

pub returns-then-has_rounds-clause-did : goal.returns-then-has_rounds-clause-did
returns-then-has_rounds-clause-did c = grind (arith, common_steps)
