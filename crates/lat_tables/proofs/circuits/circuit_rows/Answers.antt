use Rattle.std.proofs.Common.{◌≡◌, ◌+◌, ◌-◌, [], ◌∷◌, ◌++◌, Some, sym, ap, ◌∙◌, arith, rules}
use Rattle.lat_log.specs.Sights.{gathered, one}
use Rattle.lat_log.proofs.Gathered.{full, one_last, one_more}
use Rattle.std.specs.Option.{option_map}
use Rattle.lat_tables.specs.Listings.{circuit_at, circuit_row}
use Rattle.lat_tables.proofs.circuits.circuit_rows.Goals as goal

pub returns-in_default : goal.returns-in_default
returns-in_default g c = λ s st.
    let m = g.C.Core in
    one_last (circuit_at (m.circuit_of s)) c.loop-at.at 8 c.loop-at.list.items _ c.loop-at-test.true (ap (option_map (circuit_row)) (sym (c.in_default.ensures.state s st))) (c.loop-at.invariant s st)

pub loop-at-preserved : goal.loop-at-preserved
loop-at-preserved g c = λ s st.
    let m = g.C.Core in
    let pushed : c.push.new.self.items ≡ c.loop-at.list.items ++ c.in_ok-row.row ∷ [] = search rules in
    ap (λ xs. xs ++ gathered (one (circuit_at (m.circuit_of s))) (c.loop-at.at + 1) (8 - (c.loop-at.at + 1))) pushed
    ∙ one_more (circuit_at (m.circuit_of s)) c.loop-at.at 8 c.loop-at.list.items c.in_ok-row.row _ c.loop-at-test.true
    (ap (option_map (circuit_row)) (sym (c.in-Some.ensures.state s st)) ∙ ap Some (sym c.in_ok-row.ensures)) (c.loop-at.invariant s st)

pub returns : goal.returns
returns g c = λ s st.
    let m = g.C.Core in
    full (one (circuit_at (m.circuit_of s))) c.loop-at.at 8 c.loop-at.list.items _ (omega (arith, c.loop-at-test.false)) (c.loop-at.invariant s st)
