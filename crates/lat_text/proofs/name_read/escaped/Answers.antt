use Rattle.std.proofs.Common.{arith}
use Rattle.std.proofs.lemmas.Grind.{common_steps}
use Rattle.lat_text.proofs.name_read.escaped.Goals as goal

pub returns-else-is_plain-clause-byte : goal.returns-else-is_plain-clause-byte
returns-else-is_plain-clause-byte c = grind (arith, common_steps)
