use Rattle.std.proofs.Common.{rules}
use Rattle.lat_show.proofs.choice.print.bad_onto.Goals as goal

pub returns : goal.returns
returns c = search rules
