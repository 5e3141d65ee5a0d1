use Rattle.std.proofs.Common.{◌≡◌, ◌+◌, ◌-◌, ◌++◌, Some, None, sym, ap, ◌∙◌, arith}
use Rattle.std.specs.Option.{option_map}
use Rattle.lat_base.specs.declared.look.NodeLook.{NodeLook}
use Rattle.lat_log.specs.Sights.{gathered}
use Rattle.lat_log.proofs.Gathered.{full, last, more}
use Rattle.lat_tables.specs.Listings.{node_at, node_rows}
use Rattle.lat_tables.proofs.services.service_rows.Goals as goal

pub returns-in_default : goal.returns-in_default
returns-in_default g c = λ s st.
    let m = g.C.Core in
    let none : node_at c.args.now (m.node_of s) (m.service_of s) c.loop-at.at ≡ None = ap (option_map (λ (node : NodeLook). node_rows c.args.now node (m.service_of s c.loop-at.at))) (sym (c.in_default.ensures.state s st)) in
    last (node_at c.args.now (m.node_of s) (m.service_of s)) c.loop-at.at 256 c.loop-at.list.items _ c.loop-at-test.true none (c.loop-at.invariant s st)

pub loop-at-preserved : goal.loop-at-preserved
loop-at-preserved g c = λ s st.
    let m = g.C.Core in
    let own = node_rows c.args.now c.in-Some.node (m.service_of s c.loop-at.at) in
    let some : node_at c.args.now (m.node_of s) (m.service_of s) c.loop-at.at ≡ Some own = ap (option_map (λ (node : NodeLook). node_rows c.args.now node (m.service_of s c.loop-at.at))) (sym (c.in-Some.ensures.state s st)) in
    let added : c.node_onto.new.list.items ≡ c.loop-at.list.items ++ own = c.in_ok-node_onto.ensures s st in
    ap (λ xs. xs ++ gathered (node_at c.args.now (m.node_of s) (m.service_of s)) (c.loop-at.at + 1) (256 - (c.loop-at.at + 1))) added
    ∙ more (node_at c.args.now (m.node_of s) (m.service_of s)) c.loop-at.at 256 c.loop-at.list.items own _ c.loop-at-test.true some (c.loop-at.invariant s st)

pub returns : goal.returns
returns g c = λ s st.
    let m = g.C.Core in
    full (node_at c.args.now (m.node_of s) (m.service_of s)) c.loop-at.at 256 c.loop-at.list.items _ (omega (arith, c.loop-at-test.false)) (c.loop-at.invariant s st)
