use Rattle.std.proofs.Common.{rules}
use Rattle.lat_stream.proofs.stream.Stream.stop_is_due.Goals as goal

pub returns-then-self : goal.returns-then-self
returns-then-self c = search rules
