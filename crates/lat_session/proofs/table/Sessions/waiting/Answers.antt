use Rattle.std.proofs.Common.{refl, cond, length, ◌-◌}
use Rattle.lat_model.specs.sessions.Slots.{items}
use Rattle.lat_model.specs.sessions.Session.{Session, take_open}
use Rattle.lat_model.specs.sessions.Sessions.{named}
use Rattle.lat_session.specs.Table.{session_at, waiting_in}
use Rattle.lat_session.proofs.Touch.{told, told_value}
use Rattle.lat_session.proofs.Stays.{sound_at}
use Rattle.lat_session.proofs.table.Sessions.waiting.Goals as goal

pub returns-clause-value : goal.returns-clause-value
returns-clause-value c = told_value waiting_in (session_at c.args.self.now c.args.id) c.session.result 0 c.map_or.result c.session.ensures refl c.map_or.ensures (λ x h. h.0)

pub returns-clause-model : goal.returns-clause-model
returns-clause-model c = λ e st.
    told (λ (s : Session). cond (take_open s) (length (items s.came) - s.taken) 0) c.args.self.now e c.args.id c.session.result 0 c.map_or.result st c.session.ensures refl c.map_or.ensures
    (λ x h was. h.1 e.master e.ceiling (named e c.args.id) (sound_at c.args.self.now e (e.at_id c.args.id) st) was)
