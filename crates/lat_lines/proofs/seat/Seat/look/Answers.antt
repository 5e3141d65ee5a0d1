use Rattle.std.proofs.Common.{rules}
use Rattle.lat_lines.proofs.seat.Seat.look.Goals as goal

pub returns-after-info : goal.returns-after-info
returns-after-info c = search rules
