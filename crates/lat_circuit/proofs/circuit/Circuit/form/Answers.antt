use Rattle.std.proofs.Common.{◌≡◌, ◌++◌, [], ◌∷◌, false, refl, sym, ap, subst, ◌∙◌}
use Rattle.lat_base.specs.declared.outbox.Mark.TheVariants as marks
use Rattle.lat_model.specs.numbers.Link.{formed_frame}
use Rattle.lat_circuit.specs.Links.{IsMessage}
use Rattle.lat_circuit.specs.Payloads.{frame_head, slots_as_text}
use Rattle.lat_circuit.specs.Kept.{Kept}
use Rattle.lat_circuit.specs.Stands.{Stands}
use Rattle.lat_circuit.proofs.Messages.{run_formed}
use Rattle.lat_circuit.proofs.Packs.{framed}
use Rattle.lat_circuit.proofs.Sends.{formed, formed_did}
use Rattle.lat_circuit.proofs.circuit.Circuit.form.Goals as goal

pub returns-clause-did : goal.returns-clause-did
returns-clause-did c = λ e m st fair is n.
    let here = subst (λ k. Stands k e) (sym c.self.view_is) st in
    let P : Kept → Type 0 = λ k. c.args.payload.now ≡ frame_head k.link.ids k.link.sending.span false (formed_frame e.half.link m) 0 ++ slots_as_text m in
    let text = subst P (sym c.self.view_is) is in
    let Is : Kept → Type 0 = λ k. IsMessage k.link.sending.span m in
    let carried : IsMessage c.self.inside.link.sending.span m = subst Is (sym c.self.view_is) fair in
    let run = ap (λ (k : Kept). k.running) c.self.view_is ∙ c.requires.running in
    let knows = c.self.invariant.1 in
    let ids = c.self.inside.link.ids in
    let after = formed c.self.inside c.form.new.self c.since_forming-self-inside.result in
    formed_did c.self.inside c.form.new.self c.since_forming-self-inside.result c.form.new.payload [] (framed after c.form.new.payload marks.Fresh ∷ []) e m here
    run
    (c.form.ensures.state e.half.link m here.link carried text n)
    c.form.ensures.same.0 c.form.ensures.same.1 c.form.ensures.same.2
    (c.since_forming-self-inside.ensures.model e st)
    (c.form.ensures.text e.half.link m here.link text n)
    refl
    (run_formed ids.master false ids.to ids.from c.self.inside.link.sending.span (formed_frame e.half.link m) (knows.peer run) knows.own carried, tt)
