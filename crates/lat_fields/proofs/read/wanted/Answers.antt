use Rattle.std.proofs.Common.{rules}
use Rattle.lat_fields.proofs.read.wanted.Goals as goal

pub returns-then-not-holds : goal.returns-then-not-holds
returns-then-not-holds c = search rules
