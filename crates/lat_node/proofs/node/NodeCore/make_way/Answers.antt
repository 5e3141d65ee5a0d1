use Rattle.std.proofs.Common.{◌∙◌, sym, ap, subst}
use Rattle.lat_machines.specs.values.Addresses.{address}
use Rattle.lat_node.specs.Kept.{Kept}
use Rattle.lat_node.specs.Shown.{shown}
use Rattle.lat_node.specs.Stands.{Stands}
use Rattle.lat_node.proofs.HeardLemmas.{way_made, way_free}
use Rattle.lat_lines.specs.circuits.Kept.{HasRooms}
use Rattle.lat_node.proofs.MemoryLemmas.{stays_ready}
use Rattle.lat_node.proofs.node.NodeCore.make_way.Goals as goal

pub returns-then-self-clause-state : goal.returns-then-self-clause-state
returns-then-self-clause-state g c = λ s st.
    let k = shown c.self.inside in
    let stood = subst (λ (z : Kept g.row.H.Denot). Stands z s) (sym c.self.view_is) st in
    way_made k c.clear.new.self c.args.self.now s (address c.args.from.0) c.args.source (sym (ap (λ (z : Kept g.row.H.Denot). z.prompt) c.self.view_is) ∙ c.if-self.true) stood
    (c.clear.ensures.state _ (c.outlive.ensures.state s.core stood.lines))

pub returns-else-self-clause-state : goal.returns-else-self-clause-state
returns-else-self-clause-state g c = λ s st.
    way_free c.args.self.now s (address c.args.from.0) c.args.source (sym (ap (λ (z : Kept g.row.H.Denot). z.prompt) c.self.view_is) ∙ c.if-self.false) st

pub returns-then-self-clause-memory : goal.returns-then-self-clause-memory
returns-then-self-clause-memory g c = λ ready.
    stays_ready 1 c.outlive.new.self.circuits c.clear.new.self.circuits c.clear.ensures.same.core.memory c.clear.ensures.rooms
    (stays_ready 1 c.self.inside.lines.circuits c.outlive.new.self.circuits c.outlive.ensures.same.core.memory c.outlive.ensures.rooms
    (subst (λ (z : Kept g.row.H.Denot). HasRooms 1 z.lines.circuits) (sym c.self.view_is) ready))
