use Rattle.std.proofs.Common.{rules}
use Rattle.lat_value.proofs.read.read_value.Goals as goal

pub returns-in-len1-up-2-clause-reading : goal.returns-in-len1-up-2-clause-reading
unfolding Rattle.lat_value.specs.Reading.value_read
returns-in-len1-up-2-clause-reading c = search rules

pub returns-in_default-clause-reading : goal.returns-in_default-clause-reading
unfolding Rattle.lat_value.specs.Reading.value_read
returns-in_default-clause-reading c = search rules

pub returns-in-len1-up-clause-reading : goal.returns-in-len1-up-clause-reading
unfolding Rattle.lat_value.specs.Reading.value_read
returns-in-len1-up-clause-reading c = search rules
