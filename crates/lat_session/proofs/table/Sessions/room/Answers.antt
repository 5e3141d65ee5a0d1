use Rattle.std.proofs.Common.{refl, cond, length, ◌-◌}
use Rattle.lat_model.specs.sessions.Session.{Session, put_open, unframed}
use Rattle.lat_model.specs.sessions.Sessions.{named}
use Rattle.lat_session.proofs.Touch.{told}
use Rattle.lat_session.proofs.Stays.{sound_at}
use Rattle.lat_session.proofs.table.Sessions.room.Goals as goal

pub returns : goal.returns
returns c = λ e st.
    told (λ (s : Session). cond (put_open s) (4096 - length (unframed s)) 0) c.args.self.now e c.args.id c.session.result 0 c.map_or.result st c.session.ensures refl c.map_or.ensures
    (λ x h was. h.1 e.master e.ceiling (named e c.args.id) (sound_at c.args.self.now e (e.at_id c.args.id) st) was)
