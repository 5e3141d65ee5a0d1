use Rattle.std.proofs.Common.{rules}
use Rattle.lat_slots.proofs.head.destination_fits.Goals as goal

pub returns-then-matches : goal.returns-then-matches
returns-then-matches c = search rules
