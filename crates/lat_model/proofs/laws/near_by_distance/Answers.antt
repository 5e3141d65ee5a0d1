use Rattle.lat_model.proofs.numbers.Nears.{near_ahead, near_behind, next_field}
use Rattle.lat_model.proofs.laws.near_by_distance.Goals as goal

pub returns-clause-ahead : goal.returns-clause-ahead
returns-clause-ahead c = near_ahead

pub returns-clause-behind : goal.returns-clause-behind
returns-clause-behind c = near_behind

pub returns-clause-next : goal.returns-clause-next
returns-clause-next c = next_field
