use Rattle.std.proofs.Common.{ap, sym, ◌∙◌, subst, arith}
use Rattle.std.proofs.lemmas.List.{with_items_is}
use Rattle.std.proofs.lemmas.Grind.{common_steps}
use Rattle.lat_laws.specs.tales.Keeping.{change, with_items}
use Rattle.lat_replay.specs.roster.Roster.{Kept, ShowsRows}
use Rattle.lat_replay.proofs.roster.Rows.{added}
use Rattle.lat_replay.proofs.roster.Roster.adds.Goals as goal

pub returns-clause-shows : goal.returns-clause-shows
returns-clause-shows c = λ r ps ts p q h.
    let d = c.self.view_is in
    let written = with_items_is c.self.inside.rows c.add_at.new.list (c.add_at.auto.list ∙ c.as_mut_slice.ensures.len) in
    added c.args.self.now _ r c.args.server c.args.line c.newest-place.result ps ts h c.ranges.line.fits c.newest-place.ensures
    (λ s. subst (λ z. ShowsRows z (change c.newest-place.result (with_items c.args.server ps ts) r.rows)) (sym written) (c.add_at.ensures r.rows ps ts p q (subst (λ z. ShowsRows z r.rows) (sym (c.as_mut_slice.ensures.value ∙ ap (λ (k : Kept). k.rows) d)) s)))
    (ap (λ (k : Kept). k.server_lines) d)
    (ap (λ (k : Kept). k.node_lines) d)
    (ap (λ (k : Kept). k.names) d)

pub invariant_of-self : goal.invariant_of-self
invariant_of-self c = grind (arith, common_steps)
