use Rattle.lat_model.proofs.circuits.Follows.{world_reached_ok, world_whole}
use Rattle.lat_model.proofs.laws.world_never_breaks.Goals as goal

pub returns : goal.returns
returns c = λ w i now p ask f r e c. world_whole w (world_reached_ok w r) i now p ask f e c
