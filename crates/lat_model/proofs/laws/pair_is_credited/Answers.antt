use Rattle.lat_model.proofs.circuits.Streams.{pair_agree}
use Rattle.lat_model.proofs.laws.pair_is_credited.Goals as goal

pub returns : goal.returns
returns c = λ w r. ((pair_agree w r).credited_up, (pair_agree w r).credited_down)
