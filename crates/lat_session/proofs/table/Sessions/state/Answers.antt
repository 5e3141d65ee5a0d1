use Rattle.std.proofs.Common.{refl}
use Rattle.lat_base.specs.declared.state.SessionState.TheVariants as states
use Rattle.lat_stream.specs.Kept.{state_of}
use Rattle.lat_model.specs.sessions.Session.{Session, state}
use Rattle.lat_model.specs.sessions.Sessions.{named}
use Rattle.lat_session.specs.Table.{session_at, state_in}
use Rattle.lat_session.proofs.Touch.{told, told_value}
use Rattle.lat_session.proofs.table.Sessions.state.Goals as goal

pub returns-clause-value : goal.returns-clause-value
returns-clause-value c = told_value state_in (session_at c.args.self.now c.args.id) c.session.result states.Free c.map_or.result c.session.ensures refl c.map_or.ensures (λ x h. h.0)

pub returns-clause-model : goal.returns-clause-model
returns-clause-model c = λ e st.
    told (λ (s : Session). state_of (state e.master s)) c.args.self.now e c.args.id c.session.result states.Free c.map_or.result st c.session.ensures refl c.map_or.ensures
    (λ x h was. h.1 e.master e.ceiling (named e c.args.id) was)
