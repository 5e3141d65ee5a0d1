use Rattle.std.proofs.Common.{rules}
use Rattle.lat_wire.proofs.ledger.tallies.Tallies.set.Goals as goal

pub returns : goal.returns
returns c = search rules
