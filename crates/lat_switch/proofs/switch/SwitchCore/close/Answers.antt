use Rattle.std.proofs.Common.{◌≡◌, ℕ, ◌+◌, [], ◌∷◌, map, drop, refl, ap, subst, ◌∙◌, arith}
use Rattle.lat_base.specs.declared.answer.Answer.TheVariants as answers
use Rattle.lat_switch.specs.Calls.{closes}
use Rattle.lat_switch.specs.Lines.{Line}
use Rattle.lat_switch.specs.Progress.{ClosesOn}
use Rattle.lat_switch.specs.Switch.{refuses}
use Rattle.lat_switch.proofs.Courses.{same_itself, same_then, closes_from, closes_on, closed_all}
use Rattle.lat_switch.proofs.Lines.{places, place_left}
use Rattle.lat_switch.proofs.switch.SwitchCore.close.Goals as goal

pub loop-place-init : goal.loop-place-init
loop-place-init c = record {
  valid = c.requires.valid;
  same = same_itself c.args.self.now;
  empty = c.requires.empty;
  plain = tt;
  closes = λ course h. record {
    step = refuses answers.Closed course;
    has = record { course = h; answered = refl };
    leads = closes_from c.args.line c.first-first.result course c.args.self.now h.state (c.first-first.ensures.value ∙ ap (λ (l : Line). l.first) c.line_at.ensures);
  };
}

pub loop-place-preserved : goal.loop-place-preserved
loop-place-preserved c = record {
  valid = c.close_one-answer.ensures.valid;
  same = same_then c.args.self.now c.loop-place.self c.close_one-answer.new.self c.loop-place.invariant.same c.close_one-answer.ensures.same;
  empty = c.close_one-answer.ensures.quiet;
  plain = c.close_one-answer.ensures.plain c.loop-place.invariant.plain;
  closes = λ course h.
      let n : ℕ = c.loop-place.place in
      let left : map (λ i. c.first-first.result + i) (drop n places) ≡ (c.first-first.result + n) ∷ map (λ i. c.first-first.result + i) (drop (n + 1) places) = place_left (λ i. c.first-first.result + i) n (omega arith) in
      closes_on (closes c.args.line course) (c.first-first.result + n) (map (λ i. c.first-first.result + i) (drop (n + 1) places)) c.loop-place.self c.close_one-answer.new.self c.loop-place.answer c.close_one-answer.result c.loop-place.out c.close_one-answer.new.out
      (subst (λ xs. ClosesOn (closes c.args.line course) xs c.loop-place.self c.loop-place.answer c.loop-place.out) left (c.loop-place.invariant.closes course h))
      c.close_one-answer.ensures.does;
}

pub returns-clause-does : goal.returns-clause-does
returns-clause-does c = λ course h.
    let none : map (λ i. c.first-first.result + i) (drop c.loop-place.place places) ≡ [] = ap (λ n. map (λ i. c.first-first.result + i) (drop n places)) (let e : c.loop-place.place ≡ 4 = omega arith in e) in
    closed_all (closes c.args.line course) c.loop-place.self c.loop-place.answer c.loop-place.out
    (subst (λ xs. ClosesOn (closes c.args.line course) xs c.loop-place.self c.loop-place.answer c.loop-place.out) none (c.loop-place.invariant.closes course h))
