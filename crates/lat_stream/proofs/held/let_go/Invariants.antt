use Rattle.std.proofs.Common.{◌≡◌, ◌≤◌, length}
use Rattle.lat_stream.specs.Steps.{still_held}
use Rattle.lat_stream.proofs.held.let_go.Given as goal

abbrev pub invariant-loop-n : goal.invariant-loop-n
invariant-loop-n l =
    (still_held l.left l.held.items ≡ still_held l.taken l.initial.held.items)
    × (length l.held.items ≡ l.credits.held)
    × (l.credits ≡ record l.initial.credits { held = l.credits.held })
    × (l.held.capacity ≡ l.initial.held.capacity)
    × (length l.held.items ≤ l.held.capacity)

abbrev pub decreases-loop-n : goal.decreases-loop-n
decreases-loop-n l = length l.held.items
