use Rattle.lat_model.proofs.circuits.Follows.{world_reached_ok, met_frame}
use Rattle.lat_model.proofs.laws.world_frames_are_true.Goals as goal

pub returns : goal.returns
returns c = λ w i p ask f r e c. (met_frame w (world_reached_ok w r) i p ask f e c).frame
