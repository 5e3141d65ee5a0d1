use Rattle.lat_laws.proofs.rounds.settle.All.{all_settle}
use Rattle.lat_laws.proofs.laws.rounds.rounds_settle.Goals as goal

pub returns : goal.returns
returns c = all_settle
