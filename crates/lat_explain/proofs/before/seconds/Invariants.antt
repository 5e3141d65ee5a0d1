use Rattle.std.proofs.Common.{◌≡◌, ◌-◌, ◌++◌}
use Rattle.lat_text.specs.Lines.{lines_of}
use Rattle.lat_explain.specs.Before.{seconds}
use Rattle.lat_explain.proofs.before.seconds.Given as goal

abbrev pub invariant-loop : goal.invariant-loop
invariant-loop l = seconds l.word l.count (lines_of l.text) ≡ l.all.items ++ seconds l.word (l.count - l.counter) (lines_of l.rest)
