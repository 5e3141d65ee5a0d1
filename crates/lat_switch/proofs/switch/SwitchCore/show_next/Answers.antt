use Rattle.std.proofs.Common.{◌≡◌, ◌-◌, get_or, sym, ap, subst, ◌∙◌}
use Rattle.std.specs.Prelude.{slice_set}
use Rattle.lat_server.specs.Stands.{IsMachine}
use Rattle.lat_switch.specs.Kept.{Kept, IsValid}
use Rattle.lat_switch.specs.Lines.{Line, shows_next}
use Rattle.lat_switch.specs.Switch.{line_in}
use Rattle.lat_switch.proofs.Courses.{line_was, has_changed, same_changed, valid_changed}
use Rattle.lat_switch.proofs.switch.SwitchCore.show_next.Goals as goal

pub returns-clause-valid : goal.returns-clause-valid
returns-clause-valid c = valid_changed c.args.self.now _ (ap (λ (z : Kept). z.inner) c.self.view_is) c.requires.valid

pub returns-clause-same : goal.returns-clause-same
returns-clause-same c =
    let v : IsValid c.args.self.now = c.requires.valid in
    let st : IsMachine c.self.inside.inner v.machine = subst (λ (z : Kept). IsMachine z.inner v.machine) (sym c.self.view_is) v.stands in
    let was : c.index_mut-shown.result.now ≡ line_in c.args.line c.args.self.now.lines =
    line_was c.args.self.now.lines c.args.line c.index_mut-shown.result.now c.requires.line (c.index_mut-shown.ensures.value ∙ ap (λ (z : Kept). get_or z.lines (c.args.line - 1) c.index_mut-shown.result.now) c.self.view_is) in
    same_changed c.args.self.now _ c.args.line c.show_next.new.self (ap (λ (z : Kept). z.inner) c.self.view_is)
    (ap (λ (z : Kept). slice_set z.lines (c.args.line - 1) c.show_next.new.self) c.self.view_is)
    (ap (λ (l : Line). l.first) (c.show_next.ensures v.machine st ∙ ap (shows_next v.machine) was))

pub returns-clause-does : goal.returns-clause-does
returns-clause-does c = λ frames course h.
    let st : IsMachine c.self.inside.inner course.state.inner = subst (λ (z : Kept). IsMachine z.inner course.state.inner) (sym c.self.view_is) h.state.inner in
    let was : c.index_mut-shown.result.now ≡ line_in c.args.line c.args.self.now.lines =
    line_was c.args.self.now.lines c.args.line c.index_mut-shown.result.now c.requires.line (c.index_mut-shown.ensures.value ∙ ap (λ (z : Kept). get_or z.lines (c.args.line - 1) c.index_mut-shown.result.now) c.self.view_is) in
    has_changed course c.args.line (shows_next course.state.inner) c.args.self.now _ frames c.show_next.new.self h (ap (λ (z : Kept). z.inner) c.self.view_is)
    (ap (λ (z : Kept). slice_set z.lines (c.args.line - 1) c.show_next.new.self) c.self.view_is)
    (c.show_next.ensures course.state.inner st ∙ ap (shows_next course.state.inner) was)

pub returns-clause-inner : goal.returns-clause-inner
returns-clause-inner c = ap (λ (z : Kept). z.inner) c.self.view_is
