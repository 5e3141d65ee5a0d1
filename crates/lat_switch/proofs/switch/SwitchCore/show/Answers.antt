use Rattle.std.proofs.Common.{◌≡◌, ◌-◌, get_or, sym, ap, subst, ◌∙◌}
use Rattle.std.specs.Prelude.{slice_set}
use Rattle.lat_switch.specs.Kept.{Kept, IsInner}
use Rattle.lat_switch.specs.Lines.{Line, shows}
use Rattle.lat_switch.specs.Switch.{line_in}
use Rattle.lat_switch.proofs.Courses.{line_was, has_changed, same_changed, valid_changed}
use Rattle.lat_switch.proofs.switch.SwitchCore.show.Goals as goal

pub show-requires : goal.show-requires
show-requires c =
    let was : c.index_mut-shown.result.now ≡ line_in c.args.line c.args.self.now.lines =
    line_was c.args.self.now.lines c.args.line c.index_mut-shown.result.now c.requires.line (c.index_mut-shown.ensures.value ∙ ap (λ (z : Kept). get_or z.lines (c.args.line - 1) c.index_mut-shown.result.now) c.self.view_is) in
    subst (λ (l : Line). IsInner l c.args.inner_line) (sym was) c.requires.inner

pub returns-clause-valid : goal.returns-clause-valid
returns-clause-valid c = valid_changed c.args.self.now _ (ap (λ (z : Kept). z.inner) c.self.view_is) c.requires.valid

pub returns-clause-same : goal.returns-clause-same
returns-clause-same c =
    let was : c.index_mut-shown.result.now ≡ line_in c.args.line c.args.self.now.lines =
    line_was c.args.self.now.lines c.args.line c.index_mut-shown.result.now c.requires.line (c.index_mut-shown.ensures.value ∙ ap (λ (z : Kept). get_or z.lines (c.args.line - 1) c.index_mut-shown.result.now) c.self.view_is) in
    same_changed c.args.self.now _ c.args.line c.show.new.self (ap (λ (z : Kept). z.inner) c.self.view_is)
    (ap (λ (z : Kept). slice_set z.lines (c.args.line - 1) c.show.new.self) c.self.view_is)
    (ap (λ (l : Line). l.first) (c.show.ensures ∙ ap (shows c.args.inner_line c.args.service) was))

pub returns-clause-does : goal.returns-clause-does
returns-clause-does c = λ frames course h.
    let was : c.index_mut-shown.result.now ≡ line_in c.args.line c.args.self.now.lines =
    line_was c.args.self.now.lines c.args.line c.index_mut-shown.result.now c.requires.line (c.index_mut-shown.ensures.value ∙ ap (λ (z : Kept). get_or z.lines (c.args.line - 1) c.index_mut-shown.result.now) c.self.view_is) in
    has_changed course c.args.line (shows c.args.inner_line c.args.service) c.args.self.now _ frames c.show.new.self h (ap (λ (z : Kept). z.inner) c.self.view_is)
    (ap (λ (z : Kept). slice_set z.lines (c.args.line - 1) c.show.new.self) c.self.view_is)
    (c.show.ensures ∙ ap (shows c.args.inner_line c.args.service) was)
