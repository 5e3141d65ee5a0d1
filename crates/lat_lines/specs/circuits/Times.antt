-- What a core does at a time event.
use Rattle.std.specs.Prelude.{ℕ}
use Rattle.lat_machines.specs.cores.Acts.{time_at}
use Rattle.lat_machines.specs.cores.Cores.{Side, Core, Doing, acts}

-- the time of one circuit
abbrev pub passes_one : Side → ℕ → Core → Doing
passes_one k x c = acts k c (time_at k.server c.circuits x c.moment)
