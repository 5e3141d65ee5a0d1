use Rattle.std.proofs.Common.{◌+◌, ◌∙◌, sym, ap, refl, Some}
use Rattle.lat_session.proofs.Counts.{FoundAsked, asked_none, asked_some}
use Rattle.lat_session.proofs.AskedIds.{asked_state}
use Rattle.lat_session.proofs.table.Sessions.asked.Goals as goal

pub returns-in_err-at-clause-model : goal.returns-in_err-at-clause-model
returns-in_err-at-clause-model c = λ e st. c.from_residual.ensures ∙ asked_none c.args.self.now e (sym c.in_err-at.ensures) st

pub asked_here-requires-clause-asked : goal.asked_here-requires-clause-asked
asked_here-requires-clause-asked c = asked_state c.args.self.now c.in_ok-at.at (c.in_ok-at.at + 1) (sym c.in_ok-at.ensures) refl

pub returns-clause-model : goal.returns-clause-model
returns-clause-model c = λ e st.
    let found : FoundAsked e c.in_ok-at.at = asked_some c.args.self.now e c.in_ok-at.at (sym c.in_ok-at.ensures) st in
    ap Some (c.asked_here.ensures.model e st) ∙ found.is

pub returns-clause-state : goal.returns-clause-state
returns-clause-state c = asked_state c.args.self.now c.in_ok-at.at c.asked_here.result.id (sym c.in_ok-at.ensures) c.asked_here.ensures.id
