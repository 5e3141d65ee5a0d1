-- The slots that a message has so far, in front of the rest.
use Rattle.std.proofs.Common.{List, ◌++◌}
use Rattle.std.specs.Prelude.{Option, option_map}
use Rattle.lat_captures.specs.declared.slot.OwnedSlot.{OwnedSlot}
use Rattle.lat_captures.specs.Sums.{Sums}

abbrev pub formed_behind : List OwnedSlot → Option (Sums × List OwnedSlot) → Option (Sums × List OwnedSlot)
formed_behind ks rest = option_map (λ r. (r.0, ks ++ r.1)) rest
