use Rattle.std.proofs.Common.{◌≡◌, ◌<◌, ap, ap₂, sym, ◌∙◌, subst, arith, length, slice_set}
use Rattle.std.proofs.lemmas.List.{with_items_is}
use Rattle.std.proofs.lemmas.Grind.{common_steps, elements}
use Rattle.lat_laws.specs.tales.Keeping.{change}
use Rattle.lat_replay.specs.roster.Roster.{Kept, ShowsRows}
use Rattle.lat_replay.proofs.roster.Rows.{accepted, read_at}
use Rattle.lat_replay.proofs.roster.Roster.accepts.Goals as goal

pub returns-clause-shows : goal.returns-clause-shows
returns-clause-shows c = λ r f h g.
    let d = c.self.view_is in
    let n : length c.args.self.now.node_lines ≡ 256 = ap (λ (k : Kept). length k.node_lines) (sym d) ∙ c.self.invariant.node_len in
    let written = with_items_is c.self.inside.rows c.hand_over.new.list (c.hand_over.auto.list ∙ c.as_mut_slice.ensures.len) in
    accepted c.args.self.now _ r f c.args.before c.args.line c.args.place c.index.result.now h n c.ranges.line.fits
    (read_at c.self.inside.node_lines.items c.args.self.now.node_lines c.from.result c.args.line c.index.result.now c.index.ensures (ap (λ (k : Kept). k.node_lines) d) c.from.ensures (let l : c.args.line < 256 = c.ranges.line.fits in omega (arith, l, n)))
    g
    (λ p q. subst (λ z. ShowsRows z (change c.args.place (λ y. record y { node_line = c.args.line }) (change c.index.result.now (λ y. record y { node = f }) r.rows))) (sym written) (c.hand_over.ensures r.rows f (subst (λ z. ShowsRows z r.rows) (sym (c.as_mut_slice.ensures.value ∙ ap (λ (k : Kept). k.rows) d)) p) q))
    (ap (λ (k : Kept). k.server_lines) d)
    (ap₂ (λ xs i. slice_set xs i c.args.place) (ap (λ (k : Kept). k.node_lines) d) c.from-2.ensures)
    (ap (λ (k : Kept). k.names) d)

pub hand_over-requires-clause-left : goal.hand_over-requires-clause-left
hand_over-requires-clause-left c = grind (arith, elements)

pub invariant_of-self : goal.invariant_of-self
invariant_of-self c = grind (arith, common_steps)
