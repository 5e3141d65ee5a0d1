use Rattle.std.proofs.Common.{◌≡◌, ◌≤◌, true, length}
use Rattle.lat_ends.proofs.make.room_used_again.Given as goal

abbrev pub invariant-loop : goal.invariant-loop
invariant-loop l = (l.first.sessions.master ≡ true) × (l.config.timing.sessions ≤ length l.first.sessions.sessions)
