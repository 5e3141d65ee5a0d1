use Rattle.lat_mind.proofs.RunLaws.{alone_is_still}
use Rattle.lat_mind.proofs.laws.alone_is_still.Goals as goal

pub returns : goal.returns
returns c = alone_is_still
