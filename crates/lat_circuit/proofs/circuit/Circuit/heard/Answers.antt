use Rattle.lat_circuit.proofs.StepsThen.{did_noted}
use Rattle.lat_circuit.specs.Frames.{timing_shown}
use Rattle.lat_circuit.specs.Messages.{message_shown}
use Rattle.lat_circuit.specs.Hears.{hears}
use Rattle.lat_circuit.proofs.circuit.Circuit.heard.Goals as goal

pub returns-clause-did : goal.returns-clause-did
returns-clause-did c =
    did_noted (λ e. (hears c.args.self.now.facts.id (timing_shown c.args.self.now.facts.config.timing) c.args.now (message_shown c.args.m.now) e).step)
    c.args.self.now c.hear-answer.new.self c.note_empty.new.self c.args.out.now c.hear-answer.new.out c.is_held-was_held.result
    (λ e st. let x = c.hear-answer.ensures.did e st in (x.0, x.1, x.3))
    c.note_empty.ensures.keeps.facts
    c.is_held-was_held.ensures
    c.note_empty.ensures.state
