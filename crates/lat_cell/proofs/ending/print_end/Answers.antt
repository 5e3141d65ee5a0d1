use Rattle.std.proofs.Common.{rules}
use Rattle.lat_cell.proofs.ending.print_end.Goals as goal

pub returns : goal.returns
returns g c = search rules

pub returns-in-Ok-write_all : goal.returns-in-Ok-write_all
returns-in-Ok-write_all g c = search rules
