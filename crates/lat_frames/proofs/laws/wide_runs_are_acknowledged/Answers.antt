use Rattle.std.proofs.Common.{refl}
use Rattle.lat_frames.proofs.laws.wide_runs_are_acknowledged.Goals as goal

pub returns : goal.returns
returns c = λ head slots ack. record { placed = refl; joined = refl }
