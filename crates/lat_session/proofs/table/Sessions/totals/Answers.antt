use Rattle.std.proofs.Common.{refl}
use Rattle.lat_model.specs.sessions.Slots.{credits, costs}
use Rattle.lat_model.specs.sessions.Session.{Session}
use Rattle.lat_model.specs.sessions.Sessions.{named}
use Rattle.lat_stream.specs.Kept.{saturated}
use Rattle.lat_session.proofs.Touch.{told}
use Rattle.lat_session.proofs.table.Sessions.totals.Goals as goal

pub returns : goal.returns
returns c = λ e st.
    told (λ (s : Session). (saturated (credits s.out), saturated (costs s.out))) c.args.self.now e c.args.id c.session.result (0, 0) c.map_or.result st c.session.ensures refl c.map_or.ensures
    (λ x h was. h.1 e.master e.ceiling (named e c.args.id) was)
