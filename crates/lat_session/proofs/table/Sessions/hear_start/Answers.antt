use Rattle.std.proofs.Common.{sym, subst}
use Rattle.lat_model.specs.sessions.Hearing.{hear_slot}
use Rattle.lat_model.specs.sessions.Slots as sessions
use Rattle.lat_session.specs.Hears.{Hears}
use Rattle.lat_session.proofs.table.Sessions.hear_start.Goals as goal

pub returns-then-to-eq0-clause-hears : goal.returns-then-to-eq0-clause-hears
returns-then-to-eq0-clause-hears c = λ e st.
    subst (λ z. Hears c.hear_ask.new.self c.hear_ask.result (hear_slot e (sessions.Start z c.args.from c.args.credits c.args.size c.args.opening.service c.args.opening.request))) (sym c.if-to-eq0.true) (c.hear_ask.ensures.hears e st)
