use Rattle.std.proofs.Common.{rules}
use Rattle.lat_wire.proofs.report.noted.Noted.of.Goals as goal

pub returns-in-NoLine : goal.returns-in-NoLine
returns-in-NoLine c = search rules
