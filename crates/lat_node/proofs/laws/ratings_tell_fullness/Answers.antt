use Rattle.lat_node.proofs.Fullness.{fullness}
use Rattle.lat_node.proofs.laws.ratings_tell_fullness.Goals as goal

pub returns : goal.returns
returns g c = fullness _ _ g.met.H.RatingRule.full
