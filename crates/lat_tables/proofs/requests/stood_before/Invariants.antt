use Rattle.std.proofs.Common.{◌≡◌}
use Rattle.lat_tables.specs.Listings.{stood_before}
use Rattle.lat_tables.proofs.requests.stood_before.Given as goal

abbrev pub invariant-loop-place : goal.invariant-loop-place
invariant-loop-place g l =
    let m = g.C.Core in
    (s : m.State) → m.stands l.core s → stood_before (m.offered_of s) l.name l.at ≡ stood_before (m.offered_of s) l.name l.place

abbrev pub decreases-loop-place : goal.decreases-loop-place
decreases-loop-place g l = l.place
