use Rattle.lat_model.proofs.circuits.Follows.{world_reached_ok, world_bytes}
use Rattle.lat_model.proofs.laws.world_hears_bytes.Goals as goal

pub returns : goal.returns
returns c = λ w i r p ask f k e c h y. world_bytes w (world_reached_ok w k) i r p ask f e c h y
