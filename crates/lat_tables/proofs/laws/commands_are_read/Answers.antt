use Rattle.lat_tables.proofs.ReadBack.{commands_read}
use Rattle.lat_tables.proofs.laws.commands_are_read.Goals as goal

pub returns : goal.returns
returns c = commands_read
