use Rattle.std.proofs.Common.{◌∙◌, sym, ap, arith, not, ◌&&◌}
use Rattle.lat_model.specs.sessions.Session.{waits}
use Rattle.lat_model.specs.sessions.Sessions.{named}
use Rattle.lat_session.proofs.HearNames.{names_running_is}
use Rattle.lat_session.proofs.HearReply.{and_none, and_all, calling_some}
use Rattle.lat_session.proofs.table.Sessions.replied_place.Goals as goal

pub returns-then-has_peer-clause-model : goal.returns-then-has_peer-clause-model
returns-then-has_peer-clause-model c = λ e st.
    let running = names_running_is c.args.self.now e c.args.from st (λ z. absurd (omega (arith, c.requires, z))) ∙ sym c.has_peer.ensures ∙ c.if-has_peer.true in
    sym (ap (λ b. (e.master && waits (named e c.args.to)) && not b) running ∙ and_none (e.master && waits (named e c.args.to)))

pub returns-else-has_peer-clause-place : goal.returns-else-has_peer-clause-place
returns-else-has_peer-clause-place c = calling_some _ _ c.calling_place.result c.calling_place.ensures.place

pub returns-else-has_peer-clause-model : goal.returns-else-has_peer-clause-model
returns-else-has_peer-clause-model c = λ e st.
    let running = names_running_is c.args.self.now e c.args.from st (λ z. absurd (omega (arith, c.requires, z))) ∙ sym c.has_peer.ensures ∙ c.if-has_peer.false in
    c.calling_place.ensures.model e st ∙ sym (ap (λ b. (e.master && waits (named e c.args.to)) && not b) running ∙ and_all (e.master && waits (named e c.args.to)))
