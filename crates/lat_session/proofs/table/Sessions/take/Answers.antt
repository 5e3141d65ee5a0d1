use Rattle.std.proofs.Common.{◌≡◌, ◌+◌, ◌∙◌, sym, ap, refl, subst, min, IfOk, true, if◌then◌else◌, Ok, Err, length, map, take, drop, ◌++◌, slice_set}
use Rattle.std.proofs.lemmas.Bool.{false≢true}
use Rattle.std.proofs.lemmas.Result.{err_from_is_err_and}
use Rattle.lat_model.specs.sessions.Slots.{items}
use Rattle.lat_stream.specs.Kept.{item_of}
use Rattle.lat_model.specs.sessions.Session.{Session, take_open}
use Rattle.lat_model.specs.sessions.Sessions.{named}
use Rattle.lat_model.specs.sessions.Calls as calls
use Rattle.lat_stream.specs.Kept.{stream_of}
use Rattle.lat_stream.specs.declared.calls.SessionFault.TheVariants.{Closed}
use Rattle.lat_session.specs.Table.{Table, waiting_in}
use Rattle.lat_session.proofs.Touch.{kept_is, read_here, nothing_here, used, placed_at, placed_nowhere}
use Rattle.lat_session.proofs.Stays.{sound_at, touched_stands, nothing_stands}
use Rattle.lat_session.proofs.Results.{found_none}
use Rattle.lat_session.proofs.table.Sessions.take.Goals as goal

pub returns-clause-answer : goal.returns-clause-answer
returns-clause-answer c = λ e st.
    let at = placed_at c.args.self.now c.args.id c.place.result c.in_ok-at.at c.place.ensures c.in_ok-at.ensures.ok_part in
    let was = kept_is c.args.self.now c.self.inside.sessions e c.in_ok-at.at c.args.id c.reach-session.result.now (ap (λ (t : Table). t.sessions) c.self.view_is) at.0 at.1 c.reach-session.ensures.value st in
    c.take.ensures.answer e.master e.ceiling (named e c.args.id) (sound_at c.args.self.now e (e.at_id c.args.id) st) was

pub returns-clause-items : goal.returns-clause-items
returns-clause-items c = λ e st.
    let at = placed_at c.args.self.now c.args.id c.place.result c.in_ok-at.at c.place.ensures c.in_ok-at.ensures.ok_part in
    let was = kept_is c.args.self.now c.self.inside.sessions e c.in_ok-at.at c.args.id c.reach-session.result.now (ap (λ (t : Table). t.sessions) c.self.view_is) at.0 at.1 c.reach-session.ensures.value st in
    c.take.ensures.items e.master e.ceiling (named e c.args.id) (sound_at c.args.self.now e (e.at_id c.args.id) st) was

pub returns-in_err-at-clause-items : goal.returns-in_err-at-clause-items
returns-in_err-at-clause-items c = λ e st. ap (λ (s : Session). if take_open s then map item_of (take (calls.take_count s (length c.args.out.now)) (drop s.taken (items s.came))) ++ drop (calls.take_count s (length c.args.out.now)) c.args.out.now else c.args.out.now) (sym (nothing_here c.args.self.now e c.args.id st (placed_nowhere c.args.self.now c.args.id c.place.result c.place.ensures c.in_err-at.ensures.ok_part)))

pub returns-clause-state : goal.returns-clause-state
returns-clause-state c = λ e st.
    let at = placed_at c.args.self.now c.args.id c.place.result c.in_ok-at.at c.place.ensures c.in_ok-at.ensures.ok_part in
    let s : Session = named e c.args.id in
    let next : Session = record s { taken = s.taken + calls.take_count s (length c.args.out.now) } in
    let was = kept_is c.args.self.now c.self.inside.sessions e c.in_ok-at.at c.args.id c.reach-session.result.now (ap (λ (t : Table). t.sessions) c.self.view_is) at.0 at.1 c.reach-session.ensures.value st in
    let is = c.take.ensures.state e.master e.ceiling s (sound_at c.args.self.now e (e.at_id c.args.id) st) was in
    touched_stands c.args.self.now _ e (calls.Take c.args.id (length c.args.out.now)) c.in_ok-at.at c.args.id c.take.new.self (take_open s) next st at.0 at.1 refl
    (λ h. used e c.args.id (λ (z : Session). take_open z ≡ true) false≢true st.good h) refl refl
    (λ h. is ∙ ap (λ b. if b then stream_of e.master e.ceiling next else c.reach-session.result.now) h) (λ h. is ∙ ap (λ b. if b then stream_of e.master e.ceiling next else c.reach-session.result.now) h ∙ was)
    (ap (λ (t : Table). record t { sessions = slice_set t.sessions c.in_ok-at.at c.take.new.self }) c.self.view_is)

pub returns-in_err-at-clause-answer : goal.returns-in_err-at-clause-answer
returns-in_err-at-clause-answer c = λ e st.
    let p = err_from_is_err_and c.from_residual.result c.from_residual.ensures.1 in
    found_none c.place.result c.in_err-at.field-0.0 Closed c.from_residual.result (p.1 ∙ ap Err p.2) c.in_err-at.ensures.ok_part c.in_err-at.ensures.value
    ∙ ap (λ (s : Session). if take_open s then Ok (calls.take_count s (length c.args.out.now)) else Err Closed) (sym (nothing_here c.args.self.now e c.args.id st (placed_nowhere c.args.self.now c.args.id c.place.result c.place.ensures c.in_err-at.ensures.ok_part)))

pub returns-in_err-at-clause-state : goal.returns-in_err-at-clause-state
returns-in_err-at-clause-state c = λ e st. nothing_stands c.args.self.now e _ _ (ap (λ (s : Session). take_open s) (nothing_here c.args.self.now e c.args.id st (placed_nowhere c.args.self.now c.args.id c.place.result c.place.ensures c.in_err-at.ensures.ok_part))) st

pub returns-clause-count : goal.returns-clause-count
returns-clause-count c =
    let at = placed_at c.args.self.now c.args.id c.place.result c.in_ok-at.at c.place.ensures c.in_ok-at.ensures.ok_part in
    let here = read_here c.args.self.now c.self.inside.sessions c.in_ok-at.at c.args.id c.reach-session.result.now (ap (λ (t : Table). t.sessions) c.self.view_is) at.0 at.1 c.reach-session.ensures.value in
    subst (λ w. IfOk c.take.result (λ n. n ≡ min (length c.args.out.now) w)) (sym (ap waiting_in here)) c.take.ensures.count
