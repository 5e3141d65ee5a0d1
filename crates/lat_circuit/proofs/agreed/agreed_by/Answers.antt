use Rattle.std.proofs.Common.{rules}
use Rattle.lat_circuit.proofs.agreed.agreed_by.Goals as goal

pub returns-clause-value : goal.returns-clause-value
returns-clause-value c = search rules
