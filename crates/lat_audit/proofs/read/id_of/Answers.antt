use Rattle.std.proofs.Common.{rules}
use Rattle.lat_audit.proofs.read.id_of.Goals as goal

pub returns-clause-value : goal.returns-clause-value
returns-clause-value c = search rules
