use Rattle.std.proofs.Common.{◌≡◌, ◌-◌, ◌≤◌, ◌++◌, length, take, drop}
use Rattle.lat_stream.specs.RingItems.{with_settings, span, behind}
use Rattle.lat_stream.proofs.ring.move_settings.Given as goal

abbrev pub invariant-loop-placed : goal.invariant-loop-placed
invariant-loop-placed l =
    (take l.at l.out ++ with_settings l.settings.items (drop l.at l.out) ≡ with_settings l.initial.settings.items l.initial.out)
    × (behind (length l.out - l.at) l.settings.items ≡ behind (length l.initial.out) l.initial.settings.items)
    × (length l.out - l.at - span l.settings.items ≡ length l.initial.out - span l.initial.settings.items)
    × (length l.out ≡ length l.initial.out)
    × (l.at ≤ length l.out)
    × (l.settings.capacity ≡ l.initial.settings.capacity)
    × (length l.settings.items ≤ l.settings.capacity)

abbrev pub decreases-loop-placed : goal.decreases-loop-placed
decreases-loop-placed l = length l.settings.items
