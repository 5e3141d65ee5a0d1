use Rattle.std.proofs.Common.{length, sym, ap, subst, ◌∙◌, refl, eqb-true}
use Rattle.std.proofs.lemmas.Bool.{eqb-false}
use Rattle.lat_model.specs.numbers.Near.{near}
use Rattle.lat_model.specs.numbers.Link.{is_next}
use Rattle.lat_circuit.specs.Applies.{number_heard}
use Rattle.lat_circuit.specs.Stands.{Stands}
use Rattle.lat_circuit.proofs.HeardRun.{half_at}
use Rattle.lat_circuit.proofs.HeardParts.{body_none, body_again, body_takes}
use Rattle.lat_circuit.proofs.circuit.Circuit.hear_body.Goals as goal

pub returns-then-is_empty-clause-applies : goal.returns-then-is_empty-clause-applies
returns-then-is_empty-clause-applies c = λ e st.
    let here = subst (λ k. Stands k e) (sym c.self.view_is) st in
    body_none c.self.inside (number_heard c.args.number e) c.args.ask _ c.args.slots.now e here
    (eqb-true (length c.args.slots.now) 0 (sym c.is_empty.ensures ∙ c.if-is_empty.true))
    refl

pub returns-then-not-expects-clause-applies : goal.returns-then-not-expects-clause-applies
returns-then-not-expects-clause-applies c = λ e st.
    let here = subst (λ k. Stands k e) (sym c.self.view_is) st in
    let next = ap (λ h. is_next e.half.link (near c.args.number (length e.half.link.came) h)) (half_at c.self.inside e here) in
    body_again c.self.inside (number_heard c.args.number e) c.args.ask c.args.slots.now e here
    (eqb-false (length c.args.slots.now) 0 (sym c.is_empty.ensures ∙ c.if-is_empty.false))
    (sym next ∙ sym (c.expects.ensures e.half.link here.link) ∙ c.if-not-expects.true)

pub returns-clause-applies : goal.returns-clause-applies
returns-clause-applies c = λ e st.
    let here = subst (λ k. Stands k e) (sym c.self.view_is) st in
    let next = ap (λ h. is_next e.half.link (near c.args.number (length e.half.link.came) h)) (half_at c.self.inside e here) in
    body_takes (number_heard c.args.number e) c.args.ask c.args.slots.now c.take_slots.result c.take_slots.new.self e
    (eqb-false (length c.args.slots.now) 0 (sym c.is_empty.ensures ∙ c.if-is_empty.false))
    (sym next ∙ sym (c.expects.ensures e.half.link here.link) ∙ c.if-not-expects.false)
    (c.take_slots.ensures.applies e st)
