use Rattle.std.proofs.Common.{◌≡◌, ◌++◌, ◌-◌}
use Rattle.lat_log.specs.Sights.{gathered, one}
use Rattle.lat_tables.specs.Listings.{queue_rows, request_at}
use Rattle.lat_tables.proofs.requests.queue_onto.Given as goal

abbrev pub invariant-loop-at : goal.invariant-loop-at
invariant-loop-at g l =
    let m = g.C.Core in
    (s : m.State) → m.stands l.core s → l.list.items ++ gathered (one (request_at (m.waiter_of s) l.service)) l.at (64 - l.at) ≡ l.initial.list.items ++ queue_rows (m.waiter_of s) l.service
