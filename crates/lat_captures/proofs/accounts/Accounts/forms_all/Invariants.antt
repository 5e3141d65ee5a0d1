use Rattle.std.proofs.Common.{◌≡◌, drop}
use Rattle.lat_captures.specs.Sums.{sums_of, forms_all}
use Rattle.lat_captures.proofs.Formed.{formed_behind}
use Rattle.lat_captures.proofs.accounts.Accounts.forms_all.Given as goal

abbrev pub invariant-loop-slot : goal.invariant-loop-slot
invariant-loop-slot l =
    forms_all l.by_master l.fn.places (sums_of l.fn.self) l.slots
    ≡ formed_behind l.formed.items (forms_all l.by_master l.place (sums_of l.self) (drop l.slot-index l.slots))
