use Rattle.std.proofs.Common.{◌≡◌, ℕ, ◌+◌, ◌≤◌, length}
use Rattle.std.specs.Vec.{vec_capacity}
use Rattle.lat_model.specs.Lists.{Each}
use Rattle.lat_lines.proofs.circuits.add_all.Given as goal

abbrev pub invariant-loop-room : goal.invariant-loop-room
invariant-loop-room l = record {
  length : length l.rooms.items + length l.left.items ≡ length l.initial.rooms.items + length l.initial.left.items;
  each : (n : ℕ) → Each (λ size. n ≤ size) l.initial.rooms.items → Each (λ size. n ≤ size) l.initial.left.items
      → Each (λ size. n ≤ size) l.rooms.items × Each (λ size. n ≤ size) l.left.items;
  capacity : 8 ≤ vec_capacity l.rooms;
}

abbrev pub decreases-loop-room : goal.decreases-loop-room
decreases-loop-room l = length l.left.items
