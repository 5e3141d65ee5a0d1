use Rattle.std.proofs.Common.{subst, sym}
use Rattle.lat_wire.specs.Stands as wires
use Rattle.lat_replay.specs.Kept.{Kept}
use Rattle.lat_replay.proofs.world.World.held.Goals as goal

pub returns : goal.returns
returns g c = λ w s. c.has_session.ensures w (subst (λ (z : Kept g.row.H.Denot). wires.Stands z.wire w) (sym c.self.view_is) s.wire)
