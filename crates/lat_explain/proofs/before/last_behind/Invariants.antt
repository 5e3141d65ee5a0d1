use Rattle.std.proofs.Common.{◌≡◌, ◌-◌, []}
use Rattle.lat_text.specs.Lines.{lines_of}
use Rattle.lat_explain.specs.Before.{last_behind}
use Rattle.lat_explain.proofs.before.last_behind.Given as goal

abbrev pub invariant-loop : goal.invariant-loop
invariant-loop l = last_behind l.word l.count (lines_of l.text) [] ≡ last_behind l.word (l.count - l.counter) (lines_of l.rest) l.found
