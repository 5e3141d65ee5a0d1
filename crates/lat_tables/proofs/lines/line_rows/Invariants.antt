use Rattle.std.proofs.Common.{◌≡◌, ◌++◌, ◌-◌}
use Rattle.lat_log.specs.Sights.{gathered, one}
use Rattle.lat_tables.specs.Listings.{line_at}
use Rattle.lat_tables.proofs.lines.line_rows.Given as goal

abbrev pub invariant-loop-at : goal.invariant-loop-at
invariant-loop-at g l =
    let m = g.C.Core in
    (s : m.State) → m.stands l.core s → l.list.items ++ gathered (one (line_at (m.look_of s) (m.correspondent_of s))) l.at (l.count - l.at) ≡ gathered (one (line_at (m.look_of s) (m.correspondent_of s))) 0 l.count
