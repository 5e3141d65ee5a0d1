use Rattle.std.proofs.Common.{◌≡◌, ◌-◌}
use Rattle.lat_switch.specs.Lines.{opened_lines}
use Rattle.lat_switch.proofs.make.opened_lines.Given as goal

abbrev pub invariant-loop-number : goal.invariant-loop-number
invariant-loop-number l = l.lines.items ≡ opened_lines (l.number - 1)
