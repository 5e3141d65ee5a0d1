use Rattle.std.proofs.Common.{◌≡◌, ◌++◌, take}
use Rattle.std.specs.List.{flat_map}
use Rattle.lat_log.specs.LineNews.{line_news}
use Rattle.lat_log.proofs.lines.lines_onto.Given as goal

abbrev pub invariant-loop-sight : goal.invariant-loop-sight
invariant-loop-sight l = l.news ≡ l.initial.news ++ flat_map (line_news l.side) (take l.sight-index l.sights)
