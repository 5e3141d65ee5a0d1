use Rattle.lat_frames.proofs.Outcomes.{one_outcome}
use Rattle.lat_frames.proofs.laws.one_outcome.Goals as goal

pub returns : goal.returns
returns c = λ payload all. one_outcome payload all
