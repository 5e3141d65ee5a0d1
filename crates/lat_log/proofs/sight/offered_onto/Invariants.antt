use Rattle.std.proofs.Common.{◌≡◌, ◌++◌, ◌-◌}
use Rattle.lat_log.specs.Sights.{gathered, offered_at, one}
use Rattle.lat_log.proofs.sight.offered_onto.Given as goal

abbrev pub invariant-loop-at : goal.invariant-loop-at
invariant-loop-at g l =
    let m = g.C.Core in
    (s : m.State) → m.stands l.core s → l.list.items ++ gathered (one (offered_at (m.service_of s l.node) l.look)) l.at (l.look.services - l.at) ≡ l.initial.list.items ++ gathered (one (offered_at (m.service_of s l.node) l.look)) 0 l.look.services
