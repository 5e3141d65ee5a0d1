use Rattle.std.proofs.Common.{◌≡◌, ◌++◌, ◌-◌}
use Rattle.lat_log.specs.Sights.{gathered, one}
use Rattle.lat_log.proofs.sight.circuits_of.Given as goal

abbrev pub invariant-loop-at : goal.invariant-loop-at
invariant-loop-at g l =
    let m = g.C.Core in
    (s : m.State) → m.stands l.core s → l.list.items ++ gathered (one (m.circuit_of s)) l.at (8 - l.at) ≡ gathered (one (m.circuit_of s)) 0 8
