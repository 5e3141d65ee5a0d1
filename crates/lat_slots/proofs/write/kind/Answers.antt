use Rattle.std.proofs.Common.{rules}
use Rattle.lat_slots.proofs.write.kind.Goals as goal

pub returns-in-Reject : goal.returns-in-Reject
returns-in-Reject c = search rules
