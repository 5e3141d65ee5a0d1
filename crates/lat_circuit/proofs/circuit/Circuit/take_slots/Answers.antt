use Rattle.std.proofs.Common.{is_ok, map, sym, ap, subst, ◌∙◌}
use Rattle.std.proofs.lemmas.Result.{err_from_is_err_and}
use Rattle.lat_stream.specs.Wire.{slot_heard}
use Rattle.lat_circuit.specs.Applies.{some_answer}
use Rattle.lat_circuit.specs.Kept.{Kept}
use Rattle.lat_circuit.specs.Stands.{Stands}
use Rattle.lat_circuit.proofs.HeardParts.{slots_bad, slots_good}
use Rattle.lat_circuit.proofs.circuit.Circuit.take_slots.Goals as goal

pub returns-in_err-hear_slots-clause-applies : goal.returns-in_err-hear_slots-clause-applies
returns-in_err-hear_slots-clause-applies c = λ e st.
    let here = subst (λ k. Stands k e) (sym c.self.view_is) st in
    let p = err_from_is_err_and c.from_residual.result c.from_residual.ensures.1 in
    slots_bad c.self.inside c.hear_slots.new.sessions (map slot_heard c.args.slots.now) c.from_residual.result e here
    (c.hear_slots.ensures.state e.half.sessions here.sessions)
    (sym (c.hear_slots.ensures.answer e.half.sessions here.sessions) ∙ ap is_ok c.in_err-hear_slots.was)
    (ap some_answer p.1)

pub returns-clause-applies : goal.returns-clause-applies
returns-clause-applies c = λ e st.
    let here = subst (λ k. Stands k e) (sym c.self.view_is) st in
    slots_good c.self.inside c.take.new.self c.hear_slots.new.sessions c.args.slots.now e here
    (ap (λ (k : Kept). k.running) c.self.view_is ∙ c.requires.running)
    c.take.ensures.same.0
    c.take.ensures.same.1
    (c.take.ensures.state e.half.link (map slot_heard c.args.slots.now) here.link)
    (c.hear_slots.ensures.state e.half.sessions here.sessions)
    (sym (c.hear_slots.ensures.answer e.half.sessions here.sessions) ∙ ap is_ok c.in_ok-hear_slots.was)
