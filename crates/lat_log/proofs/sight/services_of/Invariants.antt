use Rattle.std.proofs.Common.{◌≡◌, ◌++◌, ◌-◌}
use Rattle.lat_log.specs.Sights.{gathered, node_offers}
use Rattle.lat_log.proofs.sight.services_of.Given as goal

abbrev pub invariant-loop-at : goal.invariant-loop-at
invariant-loop-at g l =
    let m = g.C.Core in
    (s : m.State) → m.stands l.core s → l.list.items ++ gathered (node_offers (m.node_of s) (m.service_of s)) l.at (256 - l.at) ≡ gathered (node_offers (m.node_of s) (m.service_of s)) 0 256
