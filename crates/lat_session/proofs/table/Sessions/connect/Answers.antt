use Rattle.std.proofs.Common.{◌∙◌, ap, sym, true, nat_lt, ◌&&◌, Ok, Err, if◌then◌else◌, slice_set, lt-ltb}
use Rattle.std.proofs.lemmas.Result.{err_from_is_err_and}
use Rattle.lat_model.specs.sessions.Calls.{new_call}
use Rattle.lat_model.specs.sessions.Sessions.{held, least_free}
use Rattle.lat_model.proofs.sessions.Made.{least_some}
use Rattle.lat_stream.specs.Kept.{Kept, stream_of}
use Rattle.lat_stream.specs.declared.calls.SessionFault.TheVariants.{Full}
use Rattle.lat_session.specs.Table.{Table}
use Rattle.lat_session.proofs.Begins.{free_at, none_free, connect_stands}
use Rattle.lat_session.proofs.Results.{found_none}
use Rattle.lat_session.proofs.Stays.{nothing_stands}
use Rattle.lat_session.proofs.Touch.{kept_is}
use Rattle.lat_session.proofs.table.Sessions.connect.Goals as goal

pub returns-in_err-at-clause-answer : goal.returns-in_err-at-clause-answer
returns-in_err-at-clause-answer c = λ e st.
    let full = none_free e (sym c.in_err-at.ensures.ok_part ∙ c.free_place.ensures.model e st) in
    let p = err_from_is_err_and c.from_residual.result c.from_residual.ensures.1 in
    found_none c.free_place.result c.in_err-at.field-0.0 Full c.from_residual.result (p.1 ∙ ap Err p.2) c.in_err-at.ensures.ok_part c.in_err-at.ensures.value
    ∙ sym (ap (λ b. if b then Ok (least_free e) else Err Full) full)

pub returns-in_err-at-clause-state : goal.returns-in_err-at-clause-state
returns-in_err-at-clause-state c = λ e st.
    let full = none_free e (sym c.in_err-at.ensures.ok_part ∙ c.free_place.ensures.model e st) in
    let master = sym (ap (λ (t : Table). t.master) st.is) ∙ c.requires in
    nothing_stands c.args.self.now e _ _ (ap (λ z. z && nat_lt (held e) e.agreed) master ∙ full) st

pub returns-clause-answer : goal.returns-clause-answer
returns-clause-answer c = λ e st.
    let at = free_at c.args.self.now e c.in_ok-at.at st (sym c.in_ok-at.ensures.ok_part ∙ c.free_place.ensures.model e st) in
    ap Ok at.1 ∙ sym (ap (λ b. if b then Ok (least_free e) else Err Full) (lt-ltb (held e) e.agreed at.0))

pub returns-clause-state : goal.returns-clause-state
returns-clause-state c = λ e st.
    let master = sym (ap (λ (t : Table). t.master) st.is) ∙ c.requires in
    let at = free_at c.args.self.now e c.in_ok-at.at st (sym c.in_ok-at.ensures.ok_part ∙ c.free_place.ensures.model e st) in
    let was = kept_is c.args.self.now c.self.inside.sessions e c.in_ok-at.at (least_free e) c.reach-session.result.now (ap (λ (t : Table). t.sessions) c.self.view_is) at.1 at.2 c.reach-session.ensures.value st in
    let made = c.call.ensures (least_free e) (least_some e at.0 st.good.agreed) in
    connect_stands c.args.self.now _ e c.in_ok-at.at c.call.new.self c.args.service.now c.args.request st master at.0 at.1 at.2
    (made ∙ ap (λ (k : Kept). stream_of true k.credits.ceiling (new_call e c.args.service.now c.args.request)) was)
    (ap (λ (t : Table). record t { sessions = slice_set t.sessions c.in_ok-at.at c.call.new.self }) c.self.view_is)
