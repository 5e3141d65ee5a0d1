use Rattle.std.proofs.Common.{◌≡◌, ◌+◌, ◌-◌, [], ◌∷◌, ◌++◌, Some, sym, ap, ◌∙◌, arith, rules}
use Rattle.lat_log.specs.Sights.{gathered, one}
use Rattle.lat_log.proofs.Gathered.{full, one_more}
use Rattle.lat_tables.specs.Listings.{line_at, line_row}
use Rattle.lat_tables.proofs.lines.line_rows.Goals as goal

pub loop-at-preserved : goal.loop-at-preserved
loop-at-preserved g c = λ s st.
    let m = g.C.Core in
    let pushed : c.push.new.self.items ≡ c.loop-at.list.items ++ c.in_ok-row.row ∷ [] = search rules in
    let shown : line_at (m.look_of s) (m.correspondent_of s) c.loop-at.at ≡ Some c.in_ok-row.row =
    ap (λ look. Some (line_row (c.loop-at.at + 1) look (m.correspondent_of s (c.loop-at.at + 1)))) (sym (c.look-look.ensures.state s st))
    ∙ (ap (λ with. Some (line_row (c.loop-at.at + 1) c.look-look.result with)) (sym (c.correspondent-with.ensures.state s st)) ∙ ap Some (sym c.in_ok-row.ensures)) in
    ap (λ xs. xs ++ gathered (one (line_at (m.look_of s) (m.correspondent_of s))) (c.loop-at.at + 1) (c.args.count - (c.loop-at.at + 1))) pushed
    ∙ one_more (line_at (m.look_of s) (m.correspondent_of s)) c.loop-at.at c.args.count c.loop-at.list.items c.in_ok-row.row _ c.loop-at-test.true shown (c.loop-at.invariant s st)

pub returns : goal.returns
returns g c = λ s st.
    let m = g.C.Core in
    full (one (line_at (m.look_of s) (m.correspondent_of s))) c.loop-at.at c.args.count c.loop-at.list.items _ (omega (arith, c.loop-at-test.false)) (c.loop-at.invariant s st)
