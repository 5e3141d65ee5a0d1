use Rattle.std.proofs.Common.{◌≡◌, ◌≤◌, replicate, None}
use Rattle.std.specs.Vec.{vec_capacity}
use Rattle.lat_lines.proofs.lines.no_last.Given as goal

abbrev pub invariant-loop : goal.invariant-loop
invariant-loop l = (l.last.items ≡ replicate l.counter None) × (l.count ≤ vec_capacity l.last)
