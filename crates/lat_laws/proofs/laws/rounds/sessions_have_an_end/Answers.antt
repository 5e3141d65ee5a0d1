use Rattle.lat_laws.proofs.rounds.measure.Bound.{sessions_most}
use Rattle.lat_laws.proofs.laws.rounds.sessions_have_an_end.Goals as goal

pub returns : goal.returns
returns c = sessions_most
