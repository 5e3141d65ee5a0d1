use Rattle.std.proofs.Common.{◌≡◌, ◌++◌, map, sym, ap, subst, ◌∙◌}
use Rattle.lat_model.specs.numbers.Link.{again_frames}
use Rattle.lat_model.specs.ends.End.{marked}
use Rattle.lat_circuit.specs.Frames.{frame_sent}
use Rattle.lat_circuit.specs.Kept.{Kept}
use Rattle.lat_circuit.specs.Stands.{Stands}
use Rattle.lat_circuit.proofs.Sending.{again_did}
use Rattle.lat_circuit.proofs.circuit.Circuit.send_again.Goals as goal

pub returns-clause-did : goal.returns-clause-did
returns-clause-did c = λ e st.
    let here = subst (λ k. Stands k e) (sym c.self.view_is) st in
    let P : Kept → Type 0 = λ k. c.repeat_all.new.out ≡ c.args.out.now ++ map (frame_sent k.facts) (marked (again_frames e.half.link)) in
    again_did c.self.inside c.args.out.now c.repeat_all.new.out e c.self.invariant.1
    (ap (λ (k : Kept). k.running) c.self.view_is ∙ c.requires.running)
    here
    (subst P (sym c.self.view_is) (c.repeat_all.ensures.frames e st))
