use Rattle.std.proofs.Common.{rules}
use Rattle.lat_frames.proofs.read.begun_of.Goals as goal

pub returns : goal.returns
unfolding Rattle.lat_frames.specs.Reading.begun_at
returns c = search rules
