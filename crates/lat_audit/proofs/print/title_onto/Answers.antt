use Rattle.std.proofs.Common.{rules}
use Rattle.lat_audit.proofs.print.title_onto.Goals as goal

pub returns : goal.returns
returns c = search rules
