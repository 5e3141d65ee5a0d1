use Rattle.std.proofs.Common.{rules}
use Rattle.lat_lines.proofs.seat.Seat.note.Goals as goal

pub returns-in-Some-clause-finished : goal.returns-in-Some-clause-finished
returns-in-Some-clause-finished c = search rules
