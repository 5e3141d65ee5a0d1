use Rattle.std.proofs.Common.{◌≡◌, take}
use Rattle.std.specs.List.{flat_map}
use Rattle.lat_log.specs.Sights.{waiting_for}
use Rattle.lat_log.proofs.sight.waiting_of.Given as goal

abbrev pub invariant-loop-service : goal.invariant-loop-service
invariant-loop-service g l =
    let m = g.C.Core in
    (s : m.State) → m.stands l.core s → l.list.items ≡ flat_map (waiting_for (m.waiter_of s)) (take l.service-index l.services)
