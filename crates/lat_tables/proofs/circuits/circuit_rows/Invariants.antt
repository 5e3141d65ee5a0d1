use Rattle.std.proofs.Common.{◌≡◌, ◌++◌, ◌-◌}
use Rattle.lat_log.specs.Sights.{gathered, one}
use Rattle.lat_tables.specs.Listings.{circuit_at}
use Rattle.lat_tables.proofs.circuits.circuit_rows.Given as goal

abbrev pub invariant-loop-at : goal.invariant-loop-at
invariant-loop-at g l =
    let m = g.C.Core in
    (s : m.State) → m.stands l.core s → l.list.items ++ gathered (one (circuit_at (m.circuit_of s))) l.at (8 - l.at) ≡ gathered (one (circuit_at (m.circuit_of s))) 0 8
