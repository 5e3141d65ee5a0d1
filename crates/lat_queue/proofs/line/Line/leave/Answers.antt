use Rattle.std.proofs.Common.{rules}
use Rattle.lat_queue.proofs.line.Line.leave.Goals as goal

pub returns-in-Some : goal.returns-in-Some
returns-in-Some c = search rules
