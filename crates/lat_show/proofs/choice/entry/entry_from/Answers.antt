use Rattle.std.proofs.Common.{rules}
use Rattle.lat_show.proofs.choice.entry.entry_from.Goals as goal

pub returns-in-Ok-2 : goal.returns-in-Ok-2
returns-in-Ok-2 c = search rules
