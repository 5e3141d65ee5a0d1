use Rattle.std.proofs.Common.{rules}
use Rattle.lat_schedule.proofs.read.within_limit.Goals as goal

pub returns-clause-value : goal.returns-clause-value
returns-clause-value c = search rules
