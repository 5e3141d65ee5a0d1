use Rattle.lat_mind.proofs.Bounds.{hangs_up}
use Rattle.lat_mind.proofs.laws.hangs_up.Goals as goal

pub returns : goal.returns
returns c = hangs_up
