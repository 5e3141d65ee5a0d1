use Rattle.lat_mind.proofs.RunLaws.{asks_end}
use Rattle.lat_mind.proofs.laws.asks_end.Goals as goal

pub returns : goal.returns
returns c = asks_end
