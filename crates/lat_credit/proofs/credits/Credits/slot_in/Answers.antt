use Rattle.std.proofs.Common.{rules}
use Rattle.lat_credit.proofs.credits.Credits.slot_in.Goals as goal

pub invariant_of-self : goal.invariant_of-self
invariant_of-self c = search rules
