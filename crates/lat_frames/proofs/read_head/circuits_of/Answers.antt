use Rattle.std.proofs.Common.{rules}
use Rattle.lat_frames.proofs.read_head.circuits_of.Goals as goal

pub returns-in_err-from-clause-gives : goal.returns-in_err-from-clause-gives
unfolding Rattle.lat_frames.specs.Reading.circuits_at
returns-in_err-from-clause-gives c = search rules
