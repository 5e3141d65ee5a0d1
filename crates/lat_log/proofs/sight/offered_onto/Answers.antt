use Rattle.std.proofs.Common.{◌≡◌, ◌+◌, ◌-◌, [], ◌∷◌, ◌++◌, sym, ap, ◌∙◌, arith, rules}
use Rattle.lat_log.specs.Sights.{gathered, one, offered_at}
use Rattle.lat_log.proofs.Gathered.{full, one_last, one_more}
use Rattle.lat_log.proofs.sight.offered_onto.Goals as goal

pub returns-in_default : goal.returns-in_default
returns-in_default g c = λ s st.
    let m = g.C.Core in
    one_last (offered_at (m.service_of s c.args.node) c.args.look.now) c.loop-at.at c.args.look.now.services c.loop-at.list.items _ c.loop-at-test.true (sym (c.in_default.ensures s st)) (c.loop-at.invariant s st)

pub loop-at-preserved : goal.loop-at-preserved
loop-at-preserved g c = λ s st.
    let m = g.C.Core in
    let pushed : c.push.new.self.items ≡ c.loop-at.list.items ++ c.in-Some.offered ∷ [] = search rules in
    ap (λ xs. xs ++ gathered (one (offered_at (m.service_of s c.args.node) c.args.look.now)) (c.loop-at.at + 1) (c.args.look.now.services - (c.loop-at.at + 1))) pushed
    ∙ one_more (offered_at (m.service_of s c.args.node) c.args.look.now) c.loop-at.at c.args.look.now.services c.loop-at.list.items c.in-Some.offered _ c.loop-at-test.true (sym (c.in-Some.ensures s st)) (c.loop-at.invariant s st)

pub returns : goal.returns
returns g c = λ s st.
    let m = g.C.Core in
    full (one (offered_at (m.service_of s c.args.node) c.args.look.now)) c.loop-at.at c.args.look.now.services c.loop-at.list.items _ (omega (arith, c.loop-at-test.false)) (c.loop-at.invariant s st)
