use Rattle.std.proofs.Common.{◌≡◌, ◌++◌, ◌-◌}
use Rattle.lat_log.specs.Sights.{gathered, one}
use Rattle.lat_tables.specs.Listings.{node_rows, service_at}
use Rattle.lat_tables.proofs.services.node_onto.Given as goal

abbrev pub invariant-loop-at : goal.invariant-loop-at
invariant-loop-at g l =
    let m = g.C.Core in
    (s : m.State) → m.stands l.core s → l.list.items ++ gathered (one (service_at l.now l.node (m.service_of s l.place))) l.at (l.node.services - l.at) ≡ l.initial.list.items ++ node_rows l.now l.node (m.service_of s l.place)
