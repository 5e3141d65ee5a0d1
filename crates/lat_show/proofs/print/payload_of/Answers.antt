use Rattle.std.proofs.Common.{rules}
use Rattle.lat_show.proofs.print.payload_of.Goals as goal

pub returns-in-Err-Form : goal.returns-in-Err-Form
unfolding Rattle.lat_show.specs.ShowOf.payload_of
returns-in-Err-Form c = search rules
