use Rattle.std.proofs.Common.{◌≡◌, take}
use Rattle.lat_audit.specs.TextSlots.{facts_in}
use Rattle.lat_audit.proofs.run_check.facts_of_all.Given as goal

abbrev pub invariant-loop-slot : goal.invariant-loop-slot
invariant-loop-slot l = l.facts.items ≡ facts_in (take l.slot-index l.slots)
