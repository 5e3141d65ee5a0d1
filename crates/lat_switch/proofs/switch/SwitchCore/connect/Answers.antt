use Rattle.std.proofs.Common.{◌≡◌, ℕ, Option, Some, None, sym, ap, subst, refl, ◌∙◌}
use Rattle.lat_base.specs.declared.answer.Answer.TheVariants as answers
use Rattle.lat_server.specs.Stands.{IsMachine}
use Rattle.lat_switch.specs.Calls.{connects_at}
use Rattle.lat_switch.specs.Kept.{Kept, IsInner}
use Rattle.lat_switch.specs.Lines.{Line, first_free}
use Rattle.lat_switch.specs.Stands.{HasDone}
use Rattle.lat_switch.specs.Switch.{line_on}
use Rattle.lat_switch.proofs.Courses.{free_at}
use Rattle.lat_switch.proofs.switch.SwitchCore.connect.Goals as goal

pub connect_at-requires-clause-inner : goal.connect_at-requires-clause-inner
connect_at-requires-clause-inner c = subst (λ (l : Line). IsInner l c.in-Some.inner_line) c.line_at.ensures c.in-Some.ensures.inner

pub returns-in-Some-clause-does : goal.returns-in-Some-clause-does
returns-in-Some-clause-does c = λ course h.
    let is : Some c.in-Some.inner_line ≡ first_free course.state.inner (line_on c.args.line course.state) =
    free_at (Some c.in-Some.inner_line) c.args.self.now course.state c.args.line h.state
    (λ m st. sym c.in-Some.is ∙ c.first_free.ensures.value m (subst (λ (z : Kept). IsMachine z.inner m) (sym c.self.view_is) st) ∙ ap (first_free m) c.line_at.ensures) in
    subst (λ o. HasDone (connects_at c.args.line c.args.service.now course o) c.connect_at.new.self c.connect_at.result c.connect_at.new.out) is (c.connect_at.ensures.does course h)

pub returns-in-None-clause-does : goal.returns-in-None-clause-does
returns-in-None-clause-does c = λ course h.
    let o : Option ℕ = None in
    let is : o ≡ first_free course.state.inner (line_on c.args.line course.state) =
    free_at o c.args.self.now course.state c.args.line h.state
    (λ m st. sym c.in-None.is ∙ c.first_free.ensures.value m (subst (λ (z : Kept). IsMachine z.inner m) (sym c.self.view_is) st) ∙ ap (first_free m) c.line_at.ensures) in
    subst (λ p. HasDone (connects_at c.args.line c.args.service.now course p) c.args.self.now answers.Busy c.args.out.now) is (record { course = h; answered = refl })
