use Rattle.std.proofs.Common.{rules}
use Rattle.lat_show.proofs.payload.bad_onto.Goals as goal

pub returns : goal.returns
returns c = search rules
