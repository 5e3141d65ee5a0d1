use Rattle.std.proofs.Common.{rules}
use Rattle.lat_live.proofs.cores.switch_core.Goals as goal

pub returns-clause-opening : goal.returns-clause-opening
returns-clause-opening c = search rules
