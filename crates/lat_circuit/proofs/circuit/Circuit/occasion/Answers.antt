use Rattle.std.proofs.Common.{◌+◌, ◌≤◌, true, ◌++◌, List, [], ◌∷◌, sym, ap, subst, ◌∙◌, arith, length, length-append}
use Rattle.std.proofs.lemmas.Grind.{common_steps}
use Rattle.lat_base.specs.declared.outbox.Mark.TheVariants.{Fresh}
use Rattle.lat_base.specs.declared.outbox.OutFrame.{OutFrame}
use Rattle.lat_base.specs.Lending.{frame_of}
use Rattle.lat_model.specs.ends.End.{wire_of, acknowledge, occasion}
use Rattle.lat_model.specs.sessions.Packing.{pack}
use Rattle.lat_circuit.specs.Payloads.{head_size, slots_as_text}
use Rattle.lat_circuit.specs.Kept.{Facts, Kept}
use Rattle.lat_circuit.specs.Shown.{shown}
use Rattle.lat_circuit.specs.Stands.{Simulates}
use Rattle.lat_circuit.proofs.Packs.{length_wire, texts_are, take_back}
use Rattle.lat_circuit.proofs.Sends.{window_is, idle_did, busy_did}
use Rattle.lat_circuit.proofs.circuit.Circuit.occasion.Goals as goal

pub returns-then-slots-eq0-clause-did : goal.returns-then-slots-eq0-clause-did
returns-then-slots-eq0-clause-did c =
    let after = c.acknowledge-then-slots-eq0.new in
    let after_did = c.acknowledge-then-slots-eq0.ensures.did in
    let run = ap (λ (k : Kept). k.running) c.self.view_is ∙ c.requires.running in
    subst (λ k. Simulates occasion k after.self c.args.out.now after.out) c.self.view_is (
    idle_did c.self.inside c.pack-slots.new.self c.pack-slots.result after.self c.args.out.now after.out
    (window_is c.self.inside true c.is_open.result run c.is_open.ensures.state c.if-not-is_open.false)
    c.pack-slots.ensures.state c.pack-slots.ensures.count c.if-slots-eq0.true
    (subst (λ out. Simulates acknowledge (shown (record c.self.inside { sessions = c.pack-slots.new.self })) after.self out after.out) (c.withdraw.ensures ∙ take_back c.args.out.now _) after_did)
    )

pub returns-clause-did : goal.returns-clause-did
returns-clause-did c =
    let run = ap (λ (k : Kept). k.running) c.self.view_is ∙ c.requires.running in
    let new = c.form.new.self in
    let outs : Facts → List OutFrame = λ k. c.args.out.now ++ frame_of k.config.peer k.id Fresh c.form.new.payload ∷ [] in
    let facts = (shown c.self.inside).facts in
    subst (λ k. Simulates occasion k new c.args.out.now (outs k.facts)) c.self.view_is (
    busy_did c.self.inside c.pack-slots.new.self c.pack-slots.result new c.args.out.now (outs facts)
    (window_is c.self.inside true c.is_open.result run c.is_open.ensures.state c.if-not-is_open.false)
    c.pack-slots.ensures.state c.pack-slots.ensures.count c.if-slots-eq0.false
    (λ e st there.
    let m = wire_of (pack c.self.inside.room e.half.sessions).slots in
    let text = c.pack-slots.ensures.text e.half.sessions st.sessions ∙ ap (λ z. c.begin.new.payload ++ z) (texts_are m) in
    let count = length_wire (pack c.self.inside.room e.half.sessions).slots ∙ sym (c.pack-slots.ensures.count e.half.sessions st.sessions) in
    let room : head_size c.self.inside.link.sending.span + length (slots_as_text m) ≤ 1500 = omega (arith, ap length text, length-append c.begin.new.payload (slots_as_text m), c.begin.ensures.size, c.pack-slots.ensures.room.1, c.self.invariant.0.head_and_room) in
    let did = c.form.ensures.did _ m there
    (record { slots = c.pack-slots.ensures.formed e.half.sessions st.sessions; count = omega (arith, count); room = room })
    (text ∙ ap (λ z. z ++ slots_as_text m) (c.begin.ensures.text e.half.link m st.link))
    count in
    (did.0, ap outs (sym c.form.ensures.keeps.facts) ∙ ap (λ z. c.args.out.now ++ z) did.1, did.2))
    )

pub withdraw-requires : goal.withdraw-requires
withdraw-requires c = grind (arith, common_steps)

pub acknowledge-requires-then-slots-eq0-clause-room : goal.acknowledge-requires-then-slots-eq0-clause-room
acknowledge-requires-then-slots-eq0-clause-room c = grind (arith, common_steps)

pub returns-then-slots-eq0-clause-most : goal.returns-then-slots-eq0-clause-most
returns-then-slots-eq0-clause-most c = grind (arith, common_steps)

pub returns-clause-most : goal.returns-clause-most
returns-clause-most c = grind (arith, common_steps)
