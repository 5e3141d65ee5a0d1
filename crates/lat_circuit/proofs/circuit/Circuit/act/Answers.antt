use Rattle.std.proofs.Common.{sym, ◌∙◌}
use Rattle.lat_model.specs.ends.End.{finish, then_do}
use Rattle.lat_model.specs.ends.Timers.{silent, unused, rounds_step, living, due_step}
use Rattle.lat_circuit.specs.Times.{heard_step}
use Rattle.lat_circuit.proofs.StepsThen.{did_true, did_false, did_then}
use Rattle.lat_circuit.proofs.circuit.Circuit.act.Goals as goal

pub returns-then-is_silent-clause-did : goal.returns-then-is_silent-clause-did
returns-then-is_silent-clause-did c =
    did_true silent (finish 6) heard_step c.args.self.now c.finish.new.self c.args.out.now c.finish.new.out
    (λ e st. sym (c.is_silent.ensures e st) ∙ c.if-is_silent.true) c.finish.ensures.did

pub returns-then-is_unused-clause-did : goal.returns-then-is_unused-clause-did
returns-then-is_unused-clause-did c =
    let k = c.args.self.now in
    let m = c.finish-then-is_unused.new.self in
    let o = c.args.out.now in
    let p = c.finish-then-is_unused.new.out in
    did_false silent (finish 6) heard_step k m o p (λ e st. sym (c.is_silent.ensures e st) ∙ c.if-is_silent.false) (
    did_true unused (finish 3) (λ e. then_do (rounds_step e) (living due_step)) k m o p
    (λ e st. sym (c.is_unused.ensures e st) ∙ c.if-is_unused.true) c.finish-then-is_unused.ensures.did
    )

pub returns-clause-did : goal.returns-clause-did
returns-clause-did c =
    let k = c.args.self.now in
    let m = c.living_due.new.self in
    let o = c.args.out.now in
    let p = c.living_due.new.out in
    did_false silent (finish 6) heard_step k m o p (λ e st. sym (c.is_silent.ensures e st) ∙ c.if-is_silent.false) (
    did_false unused (finish 3) (λ e. then_do (rounds_step e) (living due_step)) k m o p
    (λ e st. sym (c.is_unused.ensures e st) ∙ c.if-is_unused.false)
    (did_then rounds_step (living due_step) k c.rounds_step.new.self m o c.rounds_step.new.out p c.rounds_step.ensures.did c.living_due.ensures.did c.living_due.ensures.keeps.facts)
    )
