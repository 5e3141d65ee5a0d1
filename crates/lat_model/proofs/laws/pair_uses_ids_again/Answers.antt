use Rattle.lat_model.proofs.circuits.Streams.{pair_agree}
use Rattle.lat_model.proofs.laws.pair_uses_ids_again.Goals as goal

pub returns : goal.returns
returns c = λ w r. ((pair_agree w r).ids_up, (pair_agree w r).ids_down)
