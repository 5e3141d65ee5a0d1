use Rattle.std.proofs.Common.{◌≡◌, ◌≢◌, ◌∙◌, sym, ap, subst, arith, true, not, ◌&&◌, slice_set}
use Rattle.std.proofs.lemmas.Bool.{and_parts, not-true}
use Rattle.std.specs.Option.{is_some}
use Rattle.lat_model.specs.sessions.Hearing.{heard}
use Rattle.lat_model.specs.sessions.Session.{Session, waits}
use Rattle.lat_model.specs.sessions.Sessions.{named}
use Rattle.lat_model.specs.sessions.Slots as sessions
use Rattle.lat_stream.specs.Kept.{stream_of}
use Rattle.lat_stream.specs.Sound.{Sound}
use Rattle.lat_session.specs.Hears.{is_calling}
use Rattle.lat_session.specs.Table.{Table, state_in}
use Rattle.lat_session.proofs.Touch.{kept_is, read_here}
use Rattle.lat_session.proofs.Stays.{sound_at}
use Rattle.lat_session.proofs.HearAt.{on_ok}
use Rattle.lat_session.proofs.HearReply.{start_refused, start_hears, any_running, only_calling, replied_at}
use Rattle.lat_session.proofs.Results.{err_not_ok}
use Rattle.lat_session.proofs.table.Sessions.hear_reply.Goals as goal

pub returns-in_err-at-clause-hears : goal.returns-in_err-at-clause-hears
returns-in_err-at-clause-hears c = λ e service request st.
    start_refused c.args.self.now e c.args.to c.args.from c.args.credits c.args.size service request c.from_residual.result (λ z. absurd (omega (arith, c.requires.0, z)))
    (sym (c.replied_place.ensures.model e st) ∙ ap is_some c.in_err-at.ensures.ok_part) (err_not_ok c.from_residual.result c.from_residual.ensures.0)

pub hear_start-requires : goal.hear_start-requires
hear_start-requires c =
    let at = replied_at c.args.self.now c.args.to c.replied_place.result c.in_ok-at.at c.replied_place.ensures.place c.in_ok-at.ensures.ok_part in
    let here = read_here c.args.self.now c.self.inside.sessions c.in_ok-at.at c.args.to c.reach-session.result.now (ap (λ (t : Table). t.sessions) c.self.view_is) at.0 at.1 c.reach-session.ensures.value in
    (only_calling c.reach-session.result.now.state (sym (ap is_calling (ap state_in here)) ∙ at.2), c.requires.2)

pub returns-clause-hears : goal.returns-clause-hears
returns-clause-hears c = λ e service request st.
    let s : Session = named e c.args.to in
    let at = replied_at c.args.self.now c.args.to c.replied_place.result c.in_ok-at.at c.replied_place.ensures.place c.in_ok-at.ensures.ok_part in
    let was = kept_is c.args.self.now c.self.inside.sessions e c.in_ok-at.at c.args.to c.reach-session.result.now (ap (λ (t : Table). t.sessions) c.self.view_is) at.0 at.1 c.reach-session.ensures.value st in
    let all : (e.master && waits s && not (any_running e c.args.from)) ≡ true = sym (c.replied_place.ensures.model e st) ∙ ap is_some c.in_ok-at.ensures.ok_part in
    let parts = and_parts (e.master && waits s) (not (any_running e c.args.from)) all in
    let m : e.master ≡ true = (and_parts e.master (waits s) parts.0).0 in
    let sound : Sound true e.ceiling s = subst (λ z. Sound z e.ceiling s) m (sound_at c.args.self.now e (e.at_id c.args.to) st) in
    let old = was ∙ ap (λ z. stream_of z e.ceiling s) m in
    let ok = c.hear_start.ensures.answer e.ceiling s sound old in
    let made = on_ok c.hear_start.result _ (c.hear_start.ensures.state e.ceiling s c.args.to service request sound old) ok in
    let some : c.args.from ≢ 0 = λ z. absurd (omega (arith, c.requires.1, z)) in
    start_hears c.args.self.now _ e c.in_ok-at.at c.args.to c.args.from c.args.credits c.args.size service request c.hear_start.new.self c.hear_start.result st some c.ranges.from.fits at.0 at.1 parts.0
    (not-true (any_running e c.args.from) parts.1) ok
    (made ∙ ap (λ z. stream_of z e.ceiling (heard s (sessions.Start c.args.to c.args.from c.args.credits c.args.size service request))) (sym m))
    (ap (λ (t : Table). record t { sessions = slice_set t.sessions c.in_ok-at.at c.hear_start.new.self }) c.self.view_is)
