use Rattle.std.proofs.Common.{◌≡◌, take}
use Rattle.std.specs.Prelude.{map}
use Rattle.lat_log.specs.LineNews.{line_next}
use Rattle.lat_log.proofs.lines.next_of.Given as goal

abbrev pub invariant-loop-sight : goal.invariant-loop-sight
invariant-loop-sight l = l.list.items ≡ map line_next (take l.sight-index l.sights)
