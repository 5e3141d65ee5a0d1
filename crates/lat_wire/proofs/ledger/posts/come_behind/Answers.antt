use Rattle.std.proofs.Common.{rules}
use Rattle.lat_wire.proofs.ledger.posts.come_behind.Goals as goal

pub returns-in-Some : goal.returns-in-Some
returns-in-Some c = search rules
