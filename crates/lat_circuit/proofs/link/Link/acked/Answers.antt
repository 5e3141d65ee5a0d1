use Rattle.std.proofs.Common.{◌∙◌, sym, ap, subst, length, arith}
use Rattle.std.proofs.lemmas.Grind.{common_steps}
use Rattle.circular_buffer.specs.Buffer.{keep_last}
use Rattle.lat_model.specs.numbers.Near.{near}
use Rattle.lat_seq.specs.Spans.{half}
use Rattle.lat_seq.specs.Acks.{by_numbers, known_after}
use Rattle.lat_seq.specs.Sides.{Sends, after_ack}
use Rattle.lat_circuit.specs.Links.{Stands}
use Rattle.lat_circuit.proofs.LinkSteps.{acked_stands}
use Rattle.lat_circuit.proofs.link.Link.acked.Goals as goal

pub returns-in-New-clause-state : goal.returns-in-New-clause-state
returns-in-New-clause-state c =
    let value = c.acked-fact.ensures.value ∙ ap (after_ack c.self.inside.sending c.args.ack) c.in-New.is in
    λ l h sent.
    let stood : Stands _ l = subst (λ k. Stands k l) (sym c.self.view_is) h in
    acked_stands _ c.acked-fact.new.self c.truncate_front.new.self.items l _ c.in-New.field-0 stood
    (ap (λ s. s.span) value)
    (ap (λ s. s.unacknowledged) value)
    sent
    (ap (λ k. by_numbers (length l.sent) l.known (near c.args.ack l.known (half k.sending.span))) (sym c.self.view_is)
    ∙ (sym (c.acked-fact.ensures.answer (length l.sent) l.known stood.sends) ∙ c.in-New.is))
    (subst (λ r. Sends c.acked-fact.new.self (length l.sent) (known_after l.known r)) c.in-New.is (c.acked-fact.ensures.after (length l.sent) l.known stood.sends))
    (ap (λ b. b.items) c.truncate_front.ensures ∙ ap (λ n. keep_last n c.self.inside.texts.items) c.again.ensures.value)

pub invariant_of-self : goal.invariant_of-self
invariant_of-self c = grind (arith, common_steps)

pub returns-in_default : goal.returns-in_default
returns-in_default c = grind (arith, common_steps)
