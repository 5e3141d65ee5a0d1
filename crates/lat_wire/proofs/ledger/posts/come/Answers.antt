use Rattle.std.proofs.Common.{rules}
use Rattle.lat_wire.proofs.ledger.posts.come.Goals as goal

pub returns-then-lossless : goal.returns-then-lossless
returns-then-lossless c = search rules
