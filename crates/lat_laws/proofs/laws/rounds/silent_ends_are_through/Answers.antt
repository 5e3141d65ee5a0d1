use Rattle.lat_laws.proofs.rounds.sessions.Rests.{at_rest}
use Rattle.lat_laws.proofs.laws.rounds.silent_ends_are_through.Goals as goal

pub returns : goal.returns
returns c = at_rest
