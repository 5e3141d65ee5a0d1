use Rattle.std.proofs.Common.{◌≡◌, ◌+◌, ◌<◌, ◌∙◌, sym, ap, subst, true, false, ◌&&◌, length, MatchOption}
use Rattle.std.specs.Option.{is_some}
use Rattle.lat_model.specs.sessions.Session.{Session, blank, waits}
use Rattle.lat_model.specs.sessions.Sessions.{named}
use Rattle.lat_stream.specs.Kept.{Kept}
use Rattle.lat_session.specs.Hears.{is_calling}
use Rattle.lat_session.specs.Table.{Table, state_in, state_at}
use Rattle.lat_session.proofs.HearReply.{calling_shown}
use Rattle.lat_session.proofs.Touch.{kept_is, read_here, nothing_here}
use Rattle.lat_session.proofs.table.Sessions.calling_place.Goals as goal

pub returns-in_err-at-clause-place : goal.returns-in_err-at-clause-place
returns-in_err-at-clause-place c =
    subst (λ o. MatchOption o (is_calling (state_at c.args.self.now c.args.id) ≡ false) (λ i. (i + 1 ≡ c.args.id) × (i < length c.args.self.now.sessions) × (is_calling (state_at c.args.self.now c.args.id) ≡ true)))
    (sym c.from_residual.ensures) (ap is_calling (ap state_in c.in_err-at.ensures))

pub returns-in_err-at-clause-model : goal.returns-in_err-at-clause-model
returns-in_err-at-clause-model c = λ e st.
    let none = nothing_here c.args.self.now e c.args.id st c.in_err-at.ensures in
    ap is_some c.from_residual.ensures ∙ calling_shown e.master blank ∙ ap (λ (s : Session). e.master && waits s) (sym none)

pub returns-then-is_calling-clause-place : goal.returns-then-is_calling-clause-place
returns-then-is_calling-clause-place c =
    let here = ap state_in (read_here c.args.self.now c.self.inside.sessions c.in_ok-at.at c.args.id c.index.result.now (ap (λ (t : Table). t.sessions) c.self.view_is) c.in_ok-at.ensures.0 c.in_ok-at.ensures.1 c.index.ensures) in
    (c.in_ok-at.ensures.0, c.in_ok-at.ensures.1, ap is_calling here ∙ sym c.is_calling.ensures ∙ c.if-is_calling.true)

pub returns-then-is_calling-clause-model : goal.returns-then-is_calling-clause-model
returns-then-is_calling-clause-model c = λ e st.
    let was = kept_is c.args.self.now c.self.inside.sessions e c.in_ok-at.at c.args.id c.index.result.now (ap (λ (t : Table). t.sessions) c.self.view_is) c.in_ok-at.ensures.0 c.in_ok-at.ensures.1 c.index.ensures st in
    sym c.if-is_calling.true ∙ c.is_calling.ensures ∙ ap (λ (k : Kept). is_calling k.state) was ∙ calling_shown e.master (named e c.args.id)

pub returns-else-is_calling-clause-place : goal.returns-else-is_calling-clause-place
returns-else-is_calling-clause-place c =
    let here = ap state_in (read_here c.args.self.now c.self.inside.sessions c.in_ok-at.at c.args.id c.index.result.now (ap (λ (t : Table). t.sessions) c.self.view_is) c.in_ok-at.ensures.0 c.in_ok-at.ensures.1 c.index.ensures) in
    ap is_calling here ∙ sym c.is_calling.ensures ∙ c.if-is_calling.false

pub returns-else-is_calling-clause-model : goal.returns-else-is_calling-clause-model
returns-else-is_calling-clause-model c = λ e st.
    let was = kept_is c.args.self.now c.self.inside.sessions e c.in_ok-at.at c.args.id c.index.result.now (ap (λ (t : Table). t.sessions) c.self.view_is) c.in_ok-at.ensures.0 c.in_ok-at.ensures.1 c.index.ensures st in
    sym c.if-is_calling.false ∙ c.is_calling.ensures ∙ ap (λ (k : Kept). is_calling k.state) was ∙ calling_shown e.master (named e c.args.id)
