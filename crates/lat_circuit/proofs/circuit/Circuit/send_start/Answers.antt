use Rattle.std.proofs.Common.{◌≡◌, ◌++◌, [], ◌∷◌, sym, ap, subst, ◌∙◌, arith}
use Rattle.std.proofs.lemmas.Grind.{common_steps}
use Rattle.lat_base.specs.declared.outbox.Mark.TheVariants as marks
use Rattle.lat_fields.specs.Payloads.{padded}
use Rattle.lat_frames.specs.Written.{message_text}
use Rattle.lat_circuit.specs.Messages.{message_of}
use Rattle.lat_model.specs.ends.End.{CallStart}
use Rattle.lat_circuit.specs.Frames.{start_message, message_sent}
use Rattle.lat_circuit.specs.Kept.{Kept}
use Rattle.lat_circuit.specs.Stands.{Stands}
use Rattle.lat_circuit.proofs.Sending.{start_did}
use Rattle.lat_circuit.proofs.circuit.Circuit.send_start.Goals as goal

pub returns-clause-did : goal.returns-clause-did
returns-clause-did c = λ e st.
    let here = subst (λ k. Stands k e) (sym c.self.view_is) st in
    let s = c.call_start.result in
    let Is : Kept → Type 0 = λ k. start_message s ≡ message_sent k.facts CallStart in
    let P : Kept → Type 0 = λ k. c.push_start.new.out ≡ c.args.out.now ++ (record { to = k.facts.config.peer; payload = padded (message_text (message_of (start_message s))); circuit = k.facts.id; mark = marks.Plain }) ∷ [] in
    start_did c.self.inside s c.args.out.now c.push_start.new.out e c.self.invariant.1
    (ap (λ (k : Kept). k.running) c.self.view_is ∙ c.requires.calling)
    here
    (subst Is (sym c.self.view_is) c.call_start.ensures)
    c.push_start.ensures.names
    (subst P (sym c.self.view_is) c.push_start.ensures.frame)

pub returns-clause-most : goal.returns-clause-most
returns-clause-most c = grind (arith, common_steps)
