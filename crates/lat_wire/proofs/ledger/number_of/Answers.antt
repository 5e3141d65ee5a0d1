use Rattle.std.proofs.Common.{rules}
use Rattle.lat_wire.proofs.ledger.number_of.Goals as goal

pub returns-in-Again : goal.returns-in-Again
returns-in-Again c = search rules
