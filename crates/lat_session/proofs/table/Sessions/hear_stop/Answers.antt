use Rattle.std.proofs.Common.{ap, refl, arith, slice_set}
use Rattle.std.proofs.lemmas.Bool.{false≢true}
use Rattle.std.proofs.lemmas.Grind.{common_steps}
use Rattle.lat_model.specs.sessions.Sessions.{named}
use Rattle.lat_model.specs.sessions.Slots as sessions
use Rattle.lat_session.specs.Table.{Table}
use Rattle.lat_session.proofs.Touch.{kept_is, nothing_here, placed_at, placed_nowhere}
use Rattle.lat_session.proofs.Stays.{sound_at}
use Rattle.lat_session.proofs.HearAt.{behind_hears, behind_nowhere, on_ok}
use Rattle.lat_session.proofs.Results.{err_not_ok}
use Rattle.lat_session.proofs.table.Sessions.hear_stop.Goals as goal

pub returns-clause-hears : goal.returns-clause-hears
returns-clause-hears c = λ e reason st.
    let at = placed_at c.args.self.now c.args.to c.place.result c.in_ok-at.at c.place.ensures c.in_ok-at.ensures.ok_part in
    let was = kept_is c.args.self.now c.self.inside.sessions e c.in_ok-at.at c.args.to c.reach-session.result.now (ap (λ (t : Table). t.sessions) c.self.view_is) at.0 at.1 c.reach-session.ensures.value st in
    let sound = sound_at c.args.self.now e (e.at_id c.args.to) st in
    behind_hears c.args.self.now _ e c.in_ok-at.at c.args.to c.hear_stop.new.self (sessions.Stop c.args.to c.args.from reason) c.hear_stop.result st (record { sends = λ q. absurd (false≢true q); byte = λ q. c.ranges.from.fits; small = omega arith }) refl refl at.0 at.1
    (c.hear_stop.ensures.answer e.master e.ceiling (named e c.args.to) c.args.to reason sound was)
    (on_ok c.hear_stop.result _ (c.hear_stop.ensures.state e.master e.ceiling (named e c.args.to) c.args.to reason sound was))
    (ap (λ (t : Table). record t { sessions = slice_set t.sessions c.in_ok-at.at c.hear_stop.new.self }) c.self.view_is)

pub returns-in_err-at-clause-hears : goal.returns-in_err-at-clause-hears
returns-in_err-at-clause-hears c = λ e reason st. behind_nowhere c.args.self.now e c.args.to (sessions.Stop c.args.to c.args.from reason) c.from_residual.result (nothing_here c.args.self.now e c.args.to st (placed_nowhere c.args.self.now c.args.to c.place.result c.place.ensures c.in_err-at.ensures.ok_part)) refl (err_not_ok c.from_residual.result c.from_residual.ensures.0)

pub returns-clause-err : goal.returns-clause-err
returns-clause-err c = grind (arith, common_steps)
