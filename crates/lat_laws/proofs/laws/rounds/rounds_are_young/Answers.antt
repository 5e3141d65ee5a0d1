use Rattle.lat_laws.proofs.rounds.rounds.Youngs.{rounds_young}
use Rattle.lat_laws.proofs.laws.rounds.rounds_are_young.Goals as goal

pub returns : goal.returns
returns c = rounds_young
