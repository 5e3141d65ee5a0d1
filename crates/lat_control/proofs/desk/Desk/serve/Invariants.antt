use Rattle.std.proofs.Common.{◌≤◌, length}
use Rattle.lat_control.proofs.desk.Desk.serve.Given as goal

abbrev pub invariant-loop : goal.invariant-loop
invariant-loop g l = record { fewer : length l.self ≤ length l.initial.self }
