use Rattle.std.proofs.Common.{length, arith, sym, ap, subst}
use Rattle.lat_node.specs.Kept.{Kept}
use Rattle.lat_lines.specs.circuits.Kept.{HasRooms}
use Rattle.lat_node.proofs.MemoryLemmas.{stays_ready}
use Rattle.lat_node.proofs.node.NodeCore.pass.Goals as goal

pub returns-clause-memory : goal.returns-clause-memory
returns-clause-memory g c = λ ready.
    stays_ready 1 c.self.inside.lines.circuits c.pass.new.self.circuits c.pass.ensures.same.core.memory (omega (arith, ap length c.pass.ensures.rooms))
    (subst (λ (z : Kept g.row.H.Denot). HasRooms 1 z.lines.circuits) (sym c.self.view_is) ready)
