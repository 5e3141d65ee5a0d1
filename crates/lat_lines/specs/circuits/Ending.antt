-- What a core does when it ends circuits by itself.
use Rattle.std.specs.Prelude.{ℕ}
use Rattle.lat_model.specs.circuits.Ids.{ids}
use Rattle.lat_machines.specs.cores.Acts.{end_at}
use Rattle.lat_machines.specs.cores.Cores.{Side, Core, Doing, acts, rests, with_circuits}
use Rattle.lat_machines.specs.cores.Hearing.{outlive_at, outlive}

-- the end of one circuit
abbrev pub ends_one : Side → ℕ → ℕ → Core → Doing
ends_one k reason x c = acts k c (end_at k.server c.circuits x reason)

-- a START of this station, for this id of the master, where it follows the circuit
abbrev pub outlives_one : (from source : ℕ) → ℕ → Core → Doing
outlives_one from source x c = rests (with_circuits c (outlive_at from source x c.circuits))

-- all slaves that it follows have ended
abbrev pub outlived_core : (from source : ℕ) → Core → Core
outlived_core from source c = with_circuits c (outlive from source (ids c.circuits) c.circuits)
