use Rattle.std.proofs.Common.{◌≡◌, ◌++◌, ◌-◌}
use Rattle.lat_log.specs.Sights.{gathered}
use Rattle.lat_tables.specs.Listings.{queue_at}
use Rattle.lat_tables.proofs.requests.request_rows.Given as goal

abbrev pub invariant-loop-at : goal.invariant-loop-at
invariant-loop-at g l =
    let m = g.C.Core in
    (s : m.State) → m.stands l.core s → l.list.items ++ gathered (queue_at (m.offered_of s) (m.waiter_of s)) l.at (256 - l.at) ≡ gathered (queue_at (m.offered_of s) (m.waiter_of s)) 0 256
