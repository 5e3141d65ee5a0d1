use Rattle.lat_laws.proofs.rounds.carried.Runnings.{up_young}
use Rattle.lat_laws.proofs.laws.rounds.runs_of_servers_are_young.Goals as goal

pub returns : goal.returns
returns c = up_young
