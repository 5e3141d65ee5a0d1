use Rattle.std.proofs.Common.{◌≡◌, ◌++◌, ◌+◌, ◌-◌}
use Rattle.lat_log.specs.Watches.{unseen_from, unseen_lines}
use Rattle.lat_log.proofs.watch.unseen_lines.Given as goal

abbrev pub invariant-loop-line : goal.invariant-loop-line
invariant-loop-line l = l.lines.items ++ unseen_from (l.line + 1) (l.count - l.line) ≡ unseen_lines l.count
