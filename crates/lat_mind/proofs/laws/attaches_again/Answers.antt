use Rattle.lat_mind.proofs.RunLaws.{attaches_again}
use Rattle.lat_mind.proofs.laws.attaches_again.Goals as goal

pub returns : goal.returns
returns c = attaches_again
