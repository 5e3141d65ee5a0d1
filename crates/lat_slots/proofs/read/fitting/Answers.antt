use Rattle.std.proofs.Common.{rules}
use Rattle.lat_slots.proofs.read.fitting.Goals as goal

pub returns-in_err-wanted-2-clause-gives : goal.returns-in_err-wanted-2-clause-gives
unfolding Rattle.lat_slots.specs.Reading.fitting
returns-in_err-wanted-2-clause-gives c = search rules
