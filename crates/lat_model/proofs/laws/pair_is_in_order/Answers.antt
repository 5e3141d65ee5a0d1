use Rattle.lat_model.proofs.circuits.Streams.{reached_ok, in_order}
use Rattle.lat_model.proofs.laws.pair_is_in_order.Goals as goal

pub returns : goal.returns
returns c = λ w r. in_order w (reached_ok w r)
