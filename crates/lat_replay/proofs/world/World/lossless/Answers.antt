use Rattle.std.proofs.Common.{◌↔◌, IsTrue, subst}
use Rattle.lat_laws.specs.rounds.Lossless.{Lossless}
use Rattle.lat_wire.specs.Stands as wires
use Rattle.lat_replay.specs.Kept.{Kept, setups_of}
use Rattle.lat_replay.proofs.world.World.lossless.Goals as goal

pub returns : goal.returns
returns g c = λ w s. subst (λ (z : Kept g.row.H.Denot). wires.Stands z.wire w → IsTrue c.lossless.result ↔ Lossless (setups_of z) w) c.self.view_is (c.lossless.ensures w) s.wire
