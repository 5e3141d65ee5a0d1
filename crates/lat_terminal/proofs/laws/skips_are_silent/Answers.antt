use Rattle.lat_terminal.proofs.Talk.{silent}
use Rattle.lat_terminal.proofs.laws.skips_are_silent.Goals as goal

pub returns : goal.returns
returns c = silent
