use Rattle.std.proofs.Common.{rules}
use Rattle.lat_fields.proofs.read.number_of.Goals as goal

pub returns-clause-gives : goal.returns-clause-gives
unfolding Rattle.lat_fields.specs.Reading.number_at
returns-clause-gives c = search rules
