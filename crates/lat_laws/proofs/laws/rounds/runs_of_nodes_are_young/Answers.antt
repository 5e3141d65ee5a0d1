use Rattle.lat_laws.proofs.rounds.carried.Runnings.{down_young}
use Rattle.lat_laws.proofs.laws.rounds.runs_of_nodes_are_young.Goals as goal

pub returns : goal.returns
returns c = down_young
