use Rattle.std.proofs.Common.{◌≡◌, length, ap, ◌∙◌, arith}
use Rattle.lat_model.specs.ends.Timers.{time_step}
use Rattle.lat_circuit.specs.Times.{due_sent}
use Rattle.lat_circuit.proofs.StepsThen.{did_noted, did_length}
use Rattle.lat_circuit.proofs.circuit.Circuit.time.Goals as goal

pub returns-clause-did : goal.returns-clause-did
returns-clause-did c =
    did_noted (time_step c.args.now) c.args.self.now c.act.new.self c.note_empty.new.self c.args.out.now c.act.new.out c.is_held-was_held.result
    (λ e st. c.act.ensures.did (record e { moment = c.args.now }) (c.pass.ensures.state e st))
    c.note_empty.ensures.keeps.facts
    c.is_held-was_held.ensures
    c.note_empty.ensures.state

pub returns-clause-answer : goal.returns-clause-answer
returns-clause-answer c = λ e st.
    let d = c.act.ensures.did (record e { moment = c.args.now }) (c.pass.ensures.state e st) in
    let noted = c.note_empty.ensures.state e (time_step c.args.now e).end d.0 (c.is_held-was_held.ensures e st) in
    let all = did_length c.act.new.self.facts c.args.out.now c.act.new.out (time_step c.args.now e).sent d.1 in
    let count : c.saturating_sub-frames.result ≡ length (time_step c.args.now e).sent =
    omega (arith, all, c.saturating_sub-frames.ensures, c.len.ensures.value, c.len-before.ensures.value) in
    c.due_sent.ensures
    ∙ ap (λ n. due_sent c.note_empty.new.self.ended n) count
    ∙ ap (λ x. due_sent x (length (time_step c.args.now e).sent)) noted.ended
