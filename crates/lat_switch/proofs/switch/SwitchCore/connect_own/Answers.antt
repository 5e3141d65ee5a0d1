use Rattle.std.proofs.Common.{◌≡◌, Option, Some, None, sym, ap, subst, ◌∙◌}
use Rattle.lat_machines.specs.values.Names.{Name}
use Rattle.lat_switch.specs.Lines.{Line}
use Rattle.lat_switch.specs.Reading.{connects_own}
use Rattle.lat_switch.specs.Stands.{HasCome}
use Rattle.lat_switch.specs.Switch.{line_on}
use Rattle.lat_switch.proofs.Courses.{line_shown, same_itself}
use Rattle.lat_switch.proofs.switch.SwitchCore.connect_own.Goals as goal

pub returns-in_default-clause-same : goal.returns-in_default-clause-same
returns-in_default-clause-same c = same_itself c.args.self.now

pub returns-in_default-clause-does : goal.returns-in_default-clause-does
returns-in_default-clause-does c = λ course h.
    let none : Option Name = None in
    let is : (line_on c.args.line course.state).service ≡ none =
    ap (λ (l : Line). l.service) (sym (c.line_at.ensures ∙ line_shown c.args.self.now course.state c.args.line h.state)) ∙ sym c.service.ensures ∙ c.in_default.is in
    subst (λ o. HasCome (connects_own c.args.line course o) c.args.self.now c.args.out.now) (sym is) h

pub returns-clause-does : goal.returns-clause-does
returns-clause-does c = λ course h.
    let is : (line_on c.args.line course.state).service ≡ Some c.in-Some.service =
    ap (λ (l : Line). l.service) (sym (c.line_at.ensures ∙ line_shown c.args.self.now course.state c.args.line h.state)) ∙ sym c.service.ensures ∙ c.in-Some.is in
    subst (λ o. HasCome (connects_own c.args.line course o) c.connect.new.self c.connect.new.out) (sym is) (c.connect.ensures.does course h).course
