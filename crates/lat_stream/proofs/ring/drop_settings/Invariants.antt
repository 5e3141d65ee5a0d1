use Rattle.std.proofs.Common.{◌≡◌, ◌-◌, ◌≤◌, length}
use Rattle.lat_stream.specs.RingItems.{span, behind}
use Rattle.lat_stream.proofs.ring.drop_settings.Given as goal

abbrev pub invariant-loop-placed : goal.invariant-loop-placed
invariant-loop-placed l =
    (behind l.left l.settings.items ≡ behind l.count l.initial.settings.items)
    × (l.left - span l.settings.items ≡ l.count - span l.initial.settings.items)
    × (l.settings.capacity ≡ l.initial.settings.capacity)
    × (length l.settings.items ≤ l.settings.capacity)

abbrev pub decreases-loop-placed : goal.decreases-loop-placed
decreases-loop-placed l = length l.settings.items
