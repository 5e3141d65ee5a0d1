use Rattle.std.proofs.Common.{rules}
use Rattle.lat_frames.proofs.read_start.limits_of.Goals as goal

pub returns-clause-gives : goal.returns-clause-gives
unfolding Rattle.lat_frames.specs.Reading.limits_at
returns-clause-gives c = search rules
