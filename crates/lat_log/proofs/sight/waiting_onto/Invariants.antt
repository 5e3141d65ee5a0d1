use Rattle.std.proofs.Common.{◌≡◌, ◌++◌, ◌-◌}
use Rattle.lat_log.specs.Sights.{gathered, one, waiting_at, waiting_for}
use Rattle.lat_log.proofs.sight.waiting_onto.Given as goal

abbrev pub invariant-loop-at : goal.invariant-loop-at
invariant-loop-at g l =
    let m = g.C.Core in
    (s : m.State) → m.stands l.core s → l.list.items ++ gathered (one (waiting_at (m.waiter_of s) l.service)) l.at (64 - l.at) ≡ l.initial.list.items ++ waiting_for (m.waiter_of s) l.service
