use Rattle.std.proofs.Common.{◌≡◌, ◌∙◌, sym, ap, refl, subst, true, ◌&&◌, slice_set}
use Rattle.std.proofs.lemmas.Bool.{and_parts}
use Rattle.std.specs.Option.{is_some}
use Rattle.lat_model.specs.sessions.Hearing.{heard}
use Rattle.lat_model.specs.sessions.Session.{Session, waits}
use Rattle.lat_model.specs.sessions.Sessions.{named}
use Rattle.lat_model.specs.sessions.Slots as sessions
use Rattle.lat_stream.specs.Kept.{stream_of}
use Rattle.lat_stream.specs.Sound.{Sound}
use Rattle.lat_session.specs.Hears.{is_calling}
use Rattle.lat_session.specs.Table.{Table, state_in}
use Rattle.lat_session.proofs.Touch.{kept_is, read_here}
use Rattle.lat_session.proofs.Stays.{sound_at}
use Rattle.lat_session.proofs.HearReply.{reject_refused, reject_hears, only_calling, calling_at}
use Rattle.lat_session.proofs.Results.{err_not_ok}
use Rattle.lat_session.proofs.table.Sessions.hear_reject.Goals as goal

pub returns-in_err-at-clause-hears : goal.returns-in_err-at-clause-hears
returns-in_err-at-clause-hears c = λ e from st.
    reject_refused c.args.self.now e c.args.to from c.args.reason c.from_residual.result
    (sym (c.calling_place.ensures.model e st) ∙ ap is_some c.in_err-at.ensures.ok_part) (err_not_ok c.from_residual.result c.from_residual.ensures.0)

pub hear_reject-requires : goal.hear_reject-requires
hear_reject-requires c =
    let at = calling_at c.args.self.now c.args.to c.calling_place.result c.in_ok-at.at c.calling_place.ensures.place c.in_ok-at.ensures.ok_part in
    let here = read_here c.args.self.now c.self.inside.sessions c.in_ok-at.at c.args.to c.reach-session.result.now (ap (λ (t : Table). t.sessions) c.self.view_is) at.0 at.1 c.reach-session.ensures.value in
    only_calling c.reach-session.result.now.state (sym (ap is_calling (ap state_in here)) ∙ at.2)

pub returns-clause-hears : goal.returns-clause-hears
returns-clause-hears c = λ e from st.
    let s : Session = named e c.args.to in
    let at = calling_at c.args.self.now c.args.to c.calling_place.result c.in_ok-at.at c.calling_place.ensures.place c.in_ok-at.ensures.ok_part in
    let was = kept_is c.args.self.now c.self.inside.sessions e c.in_ok-at.at c.args.to c.reach-session.result.now (ap (λ (t : Table). t.sessions) c.self.view_is) at.0 at.1 c.reach-session.ensures.value st in
    let b : (e.master && waits s) ≡ true = sym (c.calling_place.ensures.model e st) ∙ ap is_some c.in_ok-at.ensures.ok_part in
    let m : e.master ≡ true = (and_parts e.master (waits s) b).0 in
    let sound : Sound true e.ceiling s = subst (λ z. Sound z e.ceiling s) m (sound_at c.args.self.now e (e.at_id c.args.to) st) in
    let made = c.hear_reject.ensures e.ceiling s c.args.to from sound (was ∙ ap (λ z. stream_of z e.ceiling s) m) in
    reject_hears c.args.self.now _ e c.in_ok-at.at c.args.to from c.args.reason c.hear_reject.new.self _ st at.0 at.1 b refl
    (made ∙ ap (λ z. stream_of z e.ceiling (heard s (sessions.Reject c.args.to from c.args.reason))) (sym m))
    (ap (λ (t : Table). record t { sessions = slice_set t.sessions c.in_ok-at.at c.hear_reject.new.self }) c.self.view_is)
