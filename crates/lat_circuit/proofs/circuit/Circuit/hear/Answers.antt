use Rattle.std.proofs.Common.{map, sym, ap, subst, ◌∙◌}
use Rattle.lat_machines.specs.values.Messages.{Message, RunMessage, WideMessage}
use Rattle.lat_stream.specs.Wire.{slot_heard}
use Rattle.lat_circuit.specs.Frames.{timing_shown}
use Rattle.lat_circuit.specs.Messages.{head_shown, wide_head_shown, message_shown}
use Rattle.lat_circuit.specs.Hears.{hears, SimulatesHearing}
use Rattle.lat_circuit.proofs.circuit.Circuit.hear.Goals as goal

pub returns-in-Run-clause-did : goal.returns-in-Run-clause-did
returns-in-Run-clause-did c =
    let old = c.args.self.now in
    let P : Message → Type 0 = λ m. SimulatesHearing (hears old.facts.id (timing_shown old.facts.config.timing) c.args.now m) c.hear_run.result old c.hear_run.new.self c.args.out.now c.hear_run.new.out in
    subst P
    (ap (λ h. RunMessage h (map slot_heard c.as_slice.result.now)) c.widened.ensures.value
    ∙ ap (λ s. RunMessage (head_shown c.in-Run.head) (map slot_heard s)) c.as_slice.ensures
    ∙ ap message_shown (sym c.in-Run.is))
    c.hear_run.ensures.did

pub returns-in-Wide-clause-did : goal.returns-in-Wide-clause-did
returns-in-Wide-clause-did c =
    let old = c.args.self.now in
    let P : Message → Type 0 = λ m. SimulatesHearing (hears old.facts.id (timing_shown old.facts.config.timing) c.args.now m) c.hear_run-in-Wide.result old c.hear_run-in-Wide.new.self c.args.out.now c.hear_run-in-Wide.new.out in
    subst P
    (ap (λ s. WideMessage (wide_head_shown c.in-Wide.head) (map slot_heard s)) c.as_slice-in-Wide.ensures
    ∙ ap message_shown (sym c.in-Wide.is))
    c.hear_run-in-Wide.ensures.did
