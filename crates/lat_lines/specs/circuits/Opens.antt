-- Calling a circuit.
use Rattle.std.specs.Prelude.{ℕ, Option, Some, None}
use Rattle.lat_model.specs.Lists.{updated}
use Rattle.lat_model.specs.circuits.Ids.{next_id}
use Rattle.lat_machines.specs.values.Names.{Name}
use Rattle.lat_machines.specs.cores.Acts.{call_at}
use Rattle.lat_machines.specs.cores.Cores.{Side, Core, Doing, acts, setup_of}

-- an id, as the machines know it: 0 for none
abbrev pub id_or_zero : Option ℕ → ℕ
id_or_zero None = 0
id_or_zero (Some id) = id

-- a circuit is called to the node of this name
abbrev pub called_core : Side → ℕ → Name → Core → Doing
called_core k address node c =
    let d : Core = record c { names = updated c.names (next_id c.circuits) node } in
    acts k d (call_at (setup_of k.timing) d.circuits address d.moment)
