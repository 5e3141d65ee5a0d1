use Rattle.std.proofs.Common.{arith}
use Rattle.lat_tables.proofs.Before.{found, passed}
use Rattle.lat_tables.proofs.requests.stood_before.Goals as goal

pub returns-then-stands_at : goal.returns-then-stands_at
returns-then-stands_at g c = λ s st.
    let m = g.C.Core in
    found (m.offered_of s) c.args.name.now _ c.loop-place.place c.stands_at.result (omega (arith, c.loop-place-test.true)) (c.stands_at.ensures s st) c.if-stands_at.true (c.loop-place.invariant s st)

pub loop-place-preserved : goal.loop-place-preserved
loop-place-preserved g c = λ s st.
    let m = g.C.Core in
    passed (m.offered_of s) c.args.name.now _ c.loop-place.place c.stands_at.result (omega (arith, c.loop-place-test.true)) (c.stands_at.ensures s st) c.if-stands_at.false (c.loop-place.invariant s st)
