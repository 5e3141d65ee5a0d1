use Rattle.lat_model.proofs.numbers.Nears.{near_found}
use Rattle.lat_model.proofs.laws.near_is_found.Goals as goal

pub returns : goal.returns
returns c = near_found
