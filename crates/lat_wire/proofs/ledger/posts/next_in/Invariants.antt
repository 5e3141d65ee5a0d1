use Rattle.std.proofs.Common.{length, ◌-◌, ◌≤◌, map}
use Rattle.lat_wire.specs.ledger.Ways.{AllThrough, mark_of}
use Rattle.lat_wire.proofs.ledger.posts.next_in.Given as goal

abbrev pub invariant-loop-next : goal.invariant-loop-next
invariant-loop-next l = (l.next ≤ length l.rows) × AllThrough (map mark_of l.rows) l.next

abbrev pub decreases-loop-next : goal.decreases-loop-next
decreases-loop-next l = length l.rows - l.next
