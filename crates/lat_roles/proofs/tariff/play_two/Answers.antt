use Rattle.std.proofs.Common.{ℕ, ap, arith}
use Rattle.lat_tariff.specs.Rules.{IsKnown}
use Rattle.lat_tariff.proofs.Known.{in_box}
use Rattle.lat_tariff.specs.declared.rules.WhileFree.{WhileFree}
use Rattle.lat_tariff.proofs.Rates.{twenty_known, while_free_known}
use Rattle.lat_roles.proofs.tariff.play_two.OwnLists.{own-1, at-1-1, at-1-2}
use Rattle.lat_roles.proofs.tariff.play_two.Goals as goal

pub add-requires-clause-fact : goal.add-requires-clause-fact
add-requires-clause-fact c = in_box own-1 at-1-1 (λ j y. IsKnown (j.1.fact y) (j.1.may y)) _ _ _ c.into_dyn_box.ensures.1 twenty_known

pub add-requires-2-clause-fact : goal.add-requires-2-clause-fact
add-requires-2-clause-fact c =
    let rating : ℕ = c.in_ok-new-2.field-0.value.rating in
    in_box own-1 at-1-2 (λ j y. IsKnown (j.1.fact y) (j.1.may y)) _ _ _ c.into_dyn_box-in_ok-new-2.ensures.1
    (while_free_known rating (omega (arith, ap (λ (f : WhileFree). f.rating) c.in_ok-new-2.ensures.ok)))
