use Rattle.std.proofs.Common.{◌≡◌, ◌-◌}
use Rattle.lat_stream.proofs.held.let_go_all.Given as goal

abbrev pub invariant-loop : goal.invariant-loop
invariant-loop l = (l.held ≡ l.initial.held) × (l.credits ≡ record l.initial.credits { held = l.initial.credits.held - l.counter }) × (l.end ≡ l.initial.credits.held)
