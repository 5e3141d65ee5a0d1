use Rattle.std.proofs.Common.{◌≡◌, drop}
use Rattle.lat_model.specs.Lists.{Each}
use Rattle.lat_machines.specs.cores.Cores.{Core}
use Rattle.lat_lines.specs.circuits.Living.{are_still}
use Rattle.lat_lines.specs.circuits.Stands.{IsCircuit}
use Rattle.lat_lines.proofs.circuits.getters.are_still.Given as goal

-- it is so of the rest exactly where it is so of all
abbrev pub invariant-loop-circuit : goal.invariant-loop-circuit
invariant-loop-circuit l = record {
  rest : (c : Core) → Each (IsCircuit c) l.held → are_still c (drop l.circuit-index l.held) ≡ are_still c l.held;
}
