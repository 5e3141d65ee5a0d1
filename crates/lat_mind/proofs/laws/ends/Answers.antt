use Rattle.lat_mind.proofs.Bounds.{ends}
use Rattle.lat_mind.proofs.laws.ends.Goals as goal

pub returns : goal.returns
returns c = ends
