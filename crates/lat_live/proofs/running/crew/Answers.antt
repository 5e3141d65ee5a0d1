use Rattle.std.proofs.Common.{sym, ◌∙◌, subst₂}
use Rattle.std.proofs.lemmas.List.{with_items_is}
use Rattle.lat_live.specs.Seating.{IsWorked, EachPair}
use Rattle.lat_live.proofs.Seating.{each_pair}
use Rattle.lat_live.proofs.running.crew.Goals as goal

pub returns-clause-worked : goal.returns-clause-worked
returns-clause-worked g c =
    let visits = g.L.Callers.visits in
    let left = c.for_each_mut.new.s in
    let written = with_items_is c.args.seats left (c.for_each_mut.auto.s ∙ c.as_mut_slice.ensures.len) in
    subst₂ (λ xs ys. EachPair (λ x y. IsWorked visits x y) xs ys) c.as_mut_slice.ensures.value (sym written)
    (each_pair (λ x y. IsWorked visits x y) c.as_mut_slice.result.now left (sym c.for_each_mut.auto.s) (λ i d less.
    let at = (c.for_each_mut.ensures i d less).1 in
    subst₂ (λ x y. IsWorked visits x y) at.argument_is at.left at.call))
