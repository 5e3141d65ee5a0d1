use Rattle.std.proofs.Common.{◌≡◌, [], replicate}
use Rattle.lat_queue.proofs.queue.no_lines.Given as goal

abbrev pub invariant-loop : goal.invariant-loop
invariant-loop l = record { all : l.lines.items ≡ replicate l.counter [] }
