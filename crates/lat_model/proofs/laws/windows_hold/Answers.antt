use Rattle.lat_model.proofs.circuits.Follows.{world_reached_ok}
use Rattle.lat_model.proofs.circuits.Windows.{run_open, open_at, window_at}
use Rattle.lat_model.proofs.laws.windows_hold.Goals as goal

pub returns : goal.returns
returns c = record {
  within = λ w b x r. (open_at w (run_open w r) b x).within;
  most = λ w b x r. window_at w (world_reached_ok w r) b x;
}
