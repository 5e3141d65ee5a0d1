use Rattle.lat_local.proofs.Turns.{stays_out}
use Rattle.lat_local.proofs.laws.out_is_silent.Goals as goal

pub returns : goal.returns
returns c = stays_out
