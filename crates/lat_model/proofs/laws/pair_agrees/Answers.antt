use Rattle.lat_model.proofs.circuits.Streams.{pair_agree}
use Rattle.lat_model.proofs.laws.pair_agrees.Goals as goal

pub returns : goal.returns
returns c = pair_agree
