-- What the numbers of an end may be.
use Rattle.std.specs.Prelude.{◌≤◌}
use Rattle.lat_frames.specs.declared.timing.Timing.{Timing}

pub record IsTiming (t : Timing) : Type 0 where
  pub timer : (1 ≤ t.timer) × (t.timer ≤ 100)
  pub keepalive : 1 ≤ t.keepalive
  pub sessions : (1 ≤ t.sessions) × (t.sessions ≤ 64)
  pub ceiling : (1 ≤ t.ceiling) × (t.ceiling ≤ 15)
