use Rattle.std.proofs.Common.{◌≡◌, ◌≤◌, replicate}
use Rattle.std.specs.Vec.{vec_capacity}
use Rattle.lat_lines.proofs.circuits.rooms.Given as goal

abbrev pub invariant-loop : goal.invariant-loop
invariant-loop l = record { items : l.all.items ≡ replicate l.counter l.sessions; room : l.count ≤ vec_capacity l.all }
