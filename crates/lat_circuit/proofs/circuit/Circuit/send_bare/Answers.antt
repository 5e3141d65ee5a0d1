use Rattle.std.proofs.Common.{◌≡◌, ◌++◌, [], ◌∷◌, refl, sym, ap, subst, ◌∙◌, arith}
use Rattle.std.proofs.lemmas.Grind.{common_steps}
use Rattle.lat_base.specs.declared.outbox.Mark.TheVariants as marks
use Rattle.lat_base.specs.Lending.{frame_of}
use Rattle.lat_circuit.specs.Kept.{Kept}
use Rattle.lat_circuit.specs.Stands.{Stands}
use Rattle.lat_circuit.proofs.Sending.{bare_did}
use Rattle.lat_circuit.proofs.circuit.Circuit.send_bare.Goals as goal

pub returns-clause-did : goal.returns-clause-did
returns-clause-did c = λ e st.
    let here = subst (λ k. Stands k e) (sym c.self.view_is) st in
    let k = c.args.self.now in
    let out = c.args.out.now ++ frame_of k.facts.config.peer k.facts.id marks.Bare c.bare.new.payload ∷ [] in
    let P : Kept → Type 0 = λ k. out ≡ c.args.out.now ++ frame_of k.facts.config.peer k.facts.id marks.Bare c.bare.new.payload ∷ [] in
    bare_did c.self.inside c.args.ask c.bare.new.payload c.args.out.now out e c.self.invariant.1
    (ap (λ (k : Kept). k.running) c.self.view_is ∙ c.requires.running)
    here
    (c.bare.ensures e.half.link here.link)
    (subst P (sym c.self.view_is) refl)

pub returns-clause-most : goal.returns-clause-most
returns-clause-most c = grind (arith, common_steps)
