use Rattle.lat_machines.proofs.tally.Worlds.{youth}
use Rattle.lat_machines.proofs.laws.youth_is_tallied.Goals as goal

pub returns : goal.returns
returns c = youth
