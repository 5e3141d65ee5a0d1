use Rattle.std.proofs.Common.{rules}
use Rattle.lat_audit.proofs.read.side_of.Goals as goal

pub returns-then-eq : goal.returns-then-eq
returns-then-eq c = search rules
