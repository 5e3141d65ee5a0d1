use Rattle.std.proofs.Common.{rules}
use Rattle.lat_wire.proofs.ledger.posts.turn_of.Goals as goal

pub returns-then-for_other : goal.returns-then-for_other
returns-then-for_other c = search rules
