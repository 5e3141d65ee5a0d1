use Rattle.std.proofs.Common.{◌*◌, sym, ◌∙◌}
use Rattle.lat_model.specs.ends.End.{still, then_do}
use Rattle.lat_model.specs.ends.Timers.{passed, alive_step}
use Rattle.lat_circuit.specs.Times.{form_due}
use Rattle.lat_circuit.proofs.StepsThen.{did_true, did_then}
use Rattle.lat_circuit.proofs.circuit.Circuit.due_step.Goals as goal

pub returns-then-timer_is_due-clause-did : goal.returns-then-timer_is_due-clause-did
returns-then-timer_is_due-clause-did c =
    let k = c.args.self.now in
    let m = c.alive_step.new.self in
    let o = c.args.out.now in
    did_true (λ e. passed e.due_at (10 * e.timer) e) (λ e. then_do (form_due e) alive_step) still k m o c.alive_step.new.out
    (λ e st. sym (c.timer_is_due.ensures e st) ∙ c.if-timer_is_due.true)
    (did_then form_due alive_step k c.form_due.new.self m o c.form_due.new.out c.alive_step.new.out c.form_due.ensures.did c.alive_step.ensures.did c.alive_step.ensures.keeps.facts)
