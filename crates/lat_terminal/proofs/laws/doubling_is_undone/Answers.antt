use Rattle.lat_terminal.proofs.Talk.{undone}
use Rattle.lat_terminal.proofs.laws.doubling_is_undone.Goals as goal

pub returns : goal.returns
returns c = undone
