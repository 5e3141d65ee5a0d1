use Rattle.std.proofs.Common.{◌≡◌, ◌++◌, ◌-◌}
use Rattle.lat_log.specs.Sights.{gathered}
use Rattle.lat_tables.specs.Listings.{node_at}
use Rattle.lat_tables.proofs.services.service_rows.Given as goal

abbrev pub invariant-loop-at : goal.invariant-loop-at
invariant-loop-at g l =
    let m = g.C.Core in
    (s : m.State) → m.stands l.core s → l.list.items ++ gathered (node_at l.now (m.node_of s) (m.service_of s)) l.at (256 - l.at) ≡ gathered (node_at l.now (m.node_of s) (m.service_of s)) 0 256
