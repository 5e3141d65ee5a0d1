use Rattle.std.proofs.Common.{◌≡◌, ◌+◌, ◌-◌, ◌++◌, Some, None, sym, ap, ◌∙◌, arith}
use Rattle.std.specs.Option.{option_map}
use Rattle.lat_log.specs.Sights.{gathered}
use Rattle.lat_log.proofs.Gathered.{full, last, more}
use Rattle.lat_tables.specs.Listings.{first_rows, queue_at}
use Rattle.lat_tables.proofs.requests.request_rows.Goals as goal

pub returns-in_default : goal.returns-in_default
returns-in_default g c = λ s st.
    let m = g.C.Core in
    let none : queue_at (m.offered_of s) (m.waiter_of s) c.loop-at.at ≡ None = ap (option_map (first_rows (m.offered_of s) (m.waiter_of s) c.loop-at.at)) (sym (c.in_default.ensures.state s st)) in
    last (queue_at (m.offered_of s) (m.waiter_of s)) c.loop-at.at 256 c.loop-at.list.items _ c.loop-at-test.true none (c.loop-at.invariant s st)

pub loop-at-preserved : goal.loop-at-preserved
loop-at-preserved g c = λ s st.
    let m = g.C.Core in
    let own = first_rows (m.offered_of s) (m.waiter_of s) c.loop-at.at c.in-Some.service in
    let some : queue_at (m.offered_of s) (m.waiter_of s) c.loop-at.at ≡ Some own = ap (option_map (first_rows (m.offered_of s) (m.waiter_of s) c.loop-at.at)) (sym (c.in-Some.ensures.state s st)) in
    let added : c.first_onto.new.list.items ≡ c.loop-at.list.items ++ own = c.in_ok-first_onto.ensures s st in
    ap (λ xs. xs ++ gathered (queue_at (m.offered_of s) (m.waiter_of s)) (c.loop-at.at + 1) (256 - (c.loop-at.at + 1))) added
    ∙ more (queue_at (m.offered_of s) (m.waiter_of s)) c.loop-at.at 256 c.loop-at.list.items own _ c.loop-at-test.true some (c.loop-at.invariant s st)

pub returns : goal.returns
returns g c = λ s st.
    let m = g.C.Core in
    full (queue_at (m.offered_of s) (m.waiter_of s)) c.loop-at.at 256 c.loop-at.list.items _ (omega (arith, c.loop-at-test.false)) (c.loop-at.invariant s st)
