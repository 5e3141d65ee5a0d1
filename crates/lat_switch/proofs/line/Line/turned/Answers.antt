use Rattle.std.proofs.Common.{rules}
use Rattle.lat_switch.proofs.line.Line.turned.Goals as goal

pub returns-clause-value : goal.returns-clause-value
returns-clause-value c = search rules
