use Rattle.lat_mind.proofs.RunLaws.{tries_again}
use Rattle.lat_mind.proofs.laws.tries_again.Goals as goal

pub returns : goal.returns
returns c = tries_again
