use Rattle.std.proofs.Common.{subst, sym, true}
use Rattle.lat_wire.specs.Stands as wires
use Rattle.lat_replay.specs.Kept.{Kept}
use Rattle.lat_replay.proofs.Stepping.{no_post, other_side}
use Rattle.lat_replay.proofs.world.World.hearer.Goals as goal

pub returns-in-Some : goal.returns-in-Some
returns-in-Some g c = λ w p s q. other_side w c.args.index c.in-Some.by_server c.in-Some.field-0-1 p (c.in-Some.ensures.value w (subst (λ (z : Kept g.row.H.Denot). wires.Stands z.wire w) (sym c.self.view_is) s.wire)) q

pub returns-in-None : goal.returns-in-None
returns-in-None g c = λ w p s q. no_post w c.args.index true p (c.in-None.ensures.value w (subst (λ (z : Kept g.row.H.Denot). wires.Stands z.wire w) (sym c.self.view_is) s.wire)) q
