use Rattle.lat_laws.proofs.rounds.carried.Runnings.{still_ends}
use Rattle.lat_laws.proofs.laws.rounds.nothing_in_flight_is_still.Goals as goal

pub returns : goal.returns
returns c = still_ends
