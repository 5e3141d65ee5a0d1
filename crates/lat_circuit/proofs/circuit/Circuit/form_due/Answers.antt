use Rattle.std.proofs.Common.{sym, ◌∙◌}
use Rattle.lat_model.specs.ends.End.{End, still, occasion}
use Rattle.lat_model.specs.ends.Timers.{may_form}
use Rattle.lat_circuit.proofs.StepsThen.{did_true, did_moved}
use Rattle.lat_circuit.proofs.circuit.Circuit.form_due.Goals as goal

pub returns-then-may_form-clause-did : goal.returns-then-may_form-clause-did
returns-then-may_form-clause-did c =
    let due : End → End = λ e. record e { due_at = e.moment } in
    let k = c.args.self.now in
    did_true may_form (λ e. occasion (due e)) (λ e. still (due e)) k c.occasion.new.self c.args.out.now c.occasion.new.out
    (λ e st. sym (c.may_form.ensures.model (due e) (c.note_due.ensures.state e st)) ∙ c.if-may_form.true)
    (did_moved due occasion k c.note_due.new.self c.occasion.new.self c.args.out.now c.occasion.new.out c.note_due.ensures.state c.occasion.ensures.did)
