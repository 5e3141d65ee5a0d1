use Rattle.lat_laws.proofs.rounds.progress.Settled.{round_brings}
use Rattle.lat_laws.proofs.laws.rounds.rounds_bring_forward.Goals as goal

pub returns : goal.returns
returns c = round_brings
