use Rattle.lat_terminal.proofs.Talk.{few}
use Rattle.lat_terminal.proofs.laws.answers_are_few.Goals as goal

pub returns : goal.returns
returns c = few
