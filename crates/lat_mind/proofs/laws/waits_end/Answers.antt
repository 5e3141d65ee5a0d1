use Rattle.lat_mind.proofs.RunLaws.{waits_end}
use Rattle.lat_mind.proofs.laws.waits_end.Goals as goal

pub returns : goal.returns
returns c = waits_end
