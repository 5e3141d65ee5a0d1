use Rattle.lat_laws.proofs.habits.Accepted.{accepted_once}
use Rattle.lat_laws.proofs.laws.habits.requests_are_accepted_once.Goals as goal

pub returns : goal.returns
returns c = accepted_once
