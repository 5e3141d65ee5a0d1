use Rattle.std.proofs.Common.{rules}
use Rattle.lat_circuit.proofs.head.behind.Goals as goal

pub returns-in-Byte : goal.returns-in-Byte
returns-in-Byte c = search rules
