use Rattle.std.proofs.Common.{rules}
use Rattle.lat_wire.proofs.tell.is_recent.Goals as goal

pub returns-then-saturating_sub-half : goal.returns-then-saturating_sub-half
returns-then-saturating_sub-half c = search rules
