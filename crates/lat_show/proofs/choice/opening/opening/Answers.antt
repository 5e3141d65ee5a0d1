use Rattle.std.proofs.Common.{rules}
use Rattle.lat_show.proofs.choice.opening.opening.Goals as goal

pub returns-clause-opens : goal.returns-clause-opens
returns-clause-opens c = search rules
