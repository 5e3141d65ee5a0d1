use Rattle.std.proofs.Common.{◌≡◌, map, drop}
use Rattle.lat_machines.specs.values.Timing.{is_wide}
use Rattle.lat_circuit.specs.Messages.{param_shown}
use Rattle.lat_circuit.proofs.agreed.is_wide.Given as goal

abbrev pub invariant-loop-param : goal.invariant-loop-param
invariant-loop-param l = is_wide (map param_shown (drop l.param-index l.params)) ≡ is_wide (map param_shown l.params)
