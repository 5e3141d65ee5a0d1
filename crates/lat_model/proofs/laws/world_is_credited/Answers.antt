use Rattle.lat_model.proofs.circuits.Follows.{world_reached_ok, circuits_agree}
use Rattle.lat_model.proofs.laws.world_is_credited.Goals as goal

pub returns : goal.returns
returns c = λ w q r j. ((circuits_agree w (world_reached_ok w r) q j).credited_up, (circuits_agree w (world_reached_ok w r) q j).credited_down)
