use Rattle.std.proofs.Common.{rules}
use Rattle.lat_wire.proofs.wire.Wire.moment_behind.Goals as goal

pub returns-in-Time-2-clause-refused : goal.returns-in-Time-2-clause-refused
returns-in-Time-2-clause-refused g c = search rules
