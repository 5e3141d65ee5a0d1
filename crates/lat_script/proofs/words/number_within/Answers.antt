use Rattle.std.proofs.Common.{rules}
use Rattle.lat_script.proofs.words.number_within.Goals as goal

pub returns-in-None : goal.returns-in-None
returns-in-None c = search rules
