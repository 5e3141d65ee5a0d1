use Rattle.std.proofs.Common.{◌≡◌, ◌+◌, ◌-◌, ◌++◌, [], ◌∷◌, refl, sym, ap, subst, ◌∙◌, arith, length-append}
use Rattle.lat_base.specs.declared.outbox.Mark.TheVariants as marks
use Rattle.lat_base.specs.Lending.{frame_of}
use Rattle.lat_circuit.specs.Links as link
use Rattle.lat_circuit.specs.Kept.{Kept}
use Rattle.lat_circuit.proofs.Packs.{RoundIs, round_step, round_whole}
use Rattle.lat_circuit.proofs.circuit.Circuit.repeat_all.Goals as goal

pub loop-place-preserved : goal.loop-place-preserved
loop-place-preserved c =
    let out = c.args.out.now in
    let place = c.loop-place.place in
    let mark = marks.Again (c.unacknowledged-count.result - 1 - place) in
    let k = c.args.self.now in
    let frame = frame_of k.facts.config.peer k.facts.id mark c.repeat.new.payload in
    let new = c.loop-place.out ++ frame ∷ [] in
    record {
      count = c.loop-place.invariant.count;
      few = c.loop-place.invariant.few;
      length = omega (arith, c.loop-place.invariant.length, length-append c.loop-place.out (frame ∷ []));
      frames = subst (RoundIs out (place + 1) new) c.self.view_is (
          round_step c.self.inside c.unacknowledged-count.result place c.repeat.new.payload out c.loop-place.out new
          c.unacknowledged-count.ensures.state
          c.repeat.ensures
          (subst (RoundIs out place c.loop-place.out) (sym c.self.view_is) c.loop-place.invariant.frames)
          (let P : Kept → Type 0 = λ k. new ≡ c.loop-place.out ++ frame_of k.facts.config.peer k.facts.id mark c.repeat.new.payload ∷ [] in
          subst P (sym c.self.view_is) refl)
          );
    }

pub returns-clause-frames : goal.returns-clause-frames
returns-clause-frames c = λ e st.
    let here = subst (λ (k : Kept). link.Stands k.link e.half.link) (sym c.self.view_is) st.link in
    let n : c.loop-place.place ≡ c.unacknowledged-count.result = omega arith in
    c.loop-place.invariant.frames e st
    ∙ ap (λ z. c.args.out.now ++ z) (round_whole c.args.self.now c.loop-place.place e.half.link (n ∙ c.unacknowledged-count.ensures.state e.half.link here))
