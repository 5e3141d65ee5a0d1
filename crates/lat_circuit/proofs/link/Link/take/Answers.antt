use Rattle.std.proofs.Common.{◌≡◌, ◌∙◌, suc, true, sym, ap, subst}
use Rattle.std.proofs.lemmas.Bool.{true≢false}
use Rattle.lat_seq.specs.Spans.{field}
use Rattle.lat_circuit.specs.Links.{Stands}
use Rattle.lat_circuit.proofs.Numbers.{offered}
use Rattle.lat_circuit.proofs.LinkSteps.{taken_holds, taken_stands}
use Rattle.lat_circuit.proofs.link.Link.take.Goals as goal

pub unreachable-requires : goal.unreachable-requires
unreachable-requires c =
    let next : c.offer.result ≡ true = c.offer.ensures.field ∙ offered _ _ _ _ (c.span.ensures ∙ (ap (λ k. k.sending.span) (sym c.self.view_is) ∙ (c.self.invariant.0.out ∙ sym c.self.invariant.0.in_span))) (c.behind-number.ensures ∙ ap (λ n. field c.span.result (suc n)) c.ack.ensures.value) in
    true≢false (sym next ∙ c.if-not-offer.true)

pub invariant_of-self : goal.invariant_of-self
invariant_of-self c = (taken_holds _ _ _ _ _ c.self.invariant.0 c.offer.ensures.span c.offer.ensures.after, c.self.invariant.1)

pub returns-clause-state : goal.returns-clause-state
returns-clause-state c = λ l m h. taken_stands _ _ _ l m c.if-not-offer.false c.offer.ensures.after (subst (λ k. Stands k l) (sym c.self.view_is) h)
