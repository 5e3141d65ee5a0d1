use Rattle.std.proofs.Common.{ap, Err, ◌∙◌, slice_set}
use Rattle.std.proofs.lemmas.Result.{err_from_is_err_and}
use Rattle.lat_model.specs.sessions.Sessions.{named}
use Rattle.lat_stream.specs.declared.calls.SessionFault.TheVariants.{Closed}
use Rattle.lat_session.specs.Table.{Table}
use Rattle.lat_session.proofs.Touch.{kept_is, nothing_here, placed_at, placed_nowhere}
use Rattle.lat_session.proofs.Stays.{sound_at}
use Rattle.lat_session.proofs.Called.{none_answer, none_stands, called_stands}
use Rattle.lat_session.proofs.Results.{found_none}
use Rattle.lat_session.proofs.table.Sessions.call.Goals as goal

pub returns-clause-answer : goal.returns-clause-answer
returns-clause-answer c = λ e st.
    let at = placed_at c.args.self.now c.args.id c.place.result c.in_ok-at.at c.place.ensures c.in_ok-at.ensures.ok_part in
    let was = kept_is c.args.self.now c.self.inside.sessions e c.in_ok-at.at c.args.id c.reach-session.result.now (ap (λ (t : Table). t.sessions) c.self.view_is) at.0 at.1 c.reach-session.ensures.value st in
    c.call_on.ensures.answer e.master e.ceiling (named e c.args.id) (sound_at c.args.self.now e (e.at_id c.args.id) st) was

pub returns-clause-state : goal.returns-clause-state
returns-clause-state c = λ e st.
    let at = placed_at c.args.self.now c.args.id c.place.result c.in_ok-at.at c.place.ensures c.in_ok-at.ensures.ok_part in
    let was = kept_is c.args.self.now c.self.inside.sessions e c.in_ok-at.at c.args.id c.reach-session.result.now (ap (λ (t : Table). t.sessions) c.self.view_is) at.0 at.1 c.reach-session.ensures.value st in
    called_stands c.args.self.now _ e c.args.call.now c.in_ok-at.at c.args.id c.reach-session.result.now c.call_on.new.session st at.0 at.1 was
    (c.call_on.ensures.state e.master e.ceiling (named e c.args.id) (sound_at c.args.self.now e (e.at_id c.args.id) st) was)
    (ap (λ (t : Table). record t { sessions = slice_set t.sessions c.in_ok-at.at c.call_on.new.session }) c.self.view_is)

pub returns-in_err-at-clause-answer : goal.returns-in_err-at-clause-answer
returns-in_err-at-clause-answer c = λ e st.
    let p = err_from_is_err_and c.from_residual.result c.from_residual.ensures.1 in
    found_none c.place.result c.in_err-at.field-0.0 Closed c.from_residual.result (p.1 ∙ ap Err p.2) c.in_err-at.ensures.ok_part c.in_err-at.ensures.value
    ∙ none_answer (named e c.args.id) c.args.call.now (nothing_here c.args.self.now e c.args.id st (placed_nowhere c.args.self.now c.args.id c.place.result c.place.ensures c.in_err-at.ensures.ok_part))

pub returns-in_err-at-clause-state : goal.returns-in_err-at-clause-state
returns-in_err-at-clause-state c = λ e st. none_stands c.args.self.now e c.args.id c.args.call.now (nothing_here c.args.self.now e c.args.id st (placed_nowhere c.args.self.now c.args.id c.place.result c.place.ensures c.in_err-at.ensures.ok_part)) st
