use Rattle.lat_local.proofs.Routes.{goes_right}
use Rattle.lat_local.proofs.laws.bytes_go_right.Goals as goal

pub returns : goal.returns
returns c = goes_right
