use Rattle.std.proofs.Common.{sym, ◌∙◌}
use Rattle.lat_model.specs.ends.End.{still, lives}
use Rattle.lat_model.specs.ends.Timers.{due_step}
use Rattle.lat_circuit.proofs.StepsThen.{did_true, did_false, did_nothing}
use Rattle.lat_circuit.proofs.circuit.Circuit.living_due.Goals as goal

pub returns-then-lives-clause-did : goal.returns-then-lives-clause-did
returns-then-lives-clause-did c =
    did_true lives due_step still c.args.self.now c.due_step.new.self c.args.out.now c.due_step.new.out
    (λ e st. sym (c.lives.ensures.model e st) ∙ c.if-lives.true) c.due_step.ensures.did

pub returns-else-lives-clause-did : goal.returns-else-lives-clause-did
returns-else-lives-clause-did c =
    did_false lives due_step still c.args.self.now c.args.self.now c.args.out.now c.args.out.now
    (λ e st. sym (c.lives.ensures.model e st) ∙ c.if-lives.false) (did_nothing c.args.self.now c.args.out.now)
