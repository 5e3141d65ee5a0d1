use Rattle.std.proofs.Common.{◌≡◌, ◌+◌, sym, ap, ◌∙◌, take, length, List, [], ◌∷◌, ◌++◌, length-append, arith}
use Rattle.std.proofs.lemmas.List.{take_more}
use Rattle.lat_machines.specs.values.Names.{Name}
use Rattle.lat_tariff.proofs.Own.{names_more}
use Rattle.lat_tariff.proofs.tariff.Tariff.names.Goals as goal

pub loop-rule-preserved : goal.loop-rule-preserved
loop-rule-preserved g c =
    let ns : List Name = c.loop-rule.services in
    let rs = c.as_slice-rule-items.result.now in
    let i = c.loop-rule.rule-index in
    let r = c.rule-item.result in
    let more : take (i + 1) rs ≡ take i rs ++ r ∷ [] = take_more rs i r c.loop-rule-test.true ∙ ap (λ m. take i rs ++ m ∷ []) (sym c.rule-item.is) in
    record {
      named = c.in_ok-push.ensures.ok ∙ ap (λ (xs : List Name). xs ++ r.name ∷ []) c.loop-rule.invariant.named ∙ sym (names_more (take i rs) (take (i + 1) rs) r more);
      count = omega (arith, ap length c.in_ok-push.ensures.ok, length-append ns (r.name ∷ []), c.loop-rule.invariant.count);
      few = c.loop-rule.invariant.few;
    }
