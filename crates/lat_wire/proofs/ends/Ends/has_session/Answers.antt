use Rattle.std.proofs.Common.{sym, ap, subst, refl, ◌≡◌}
use Rattle.lat_base.specs.declared.look.LineLook.{LineLook}
use Rattle.lat_machines.specs.cores.Lines.{has_session}
use Rattle.lat_machines.specs.server.Server.{server_side}
use Rattle.lat_machines.specs.node.Node.{node_side}
use Rattle.lat_machines.specs.world.Machines.{core_of}
use Rattle.lat_server.specs.Stands as servers
use Rattle.lat_node.specs.Stands as nodes
use Rattle.lat_server.specs.Kept as server_kept
use Rattle.lat_node.specs.Kept as node_kept
use Rattle.lat_wire.proofs.Seeing.{held_is}
use Rattle.lat_wire.proofs.ends.Ends.has_session.Goals as goal

pub returns-then-server : goal.returns-then-server
returns-then-server g c = λ w a.
    let s : servers.Stands c.self.inside.server w.server = subst (λ z. servers.Stands z.server w.server) (sym c.self.view_is) a.server in
    subst (λ b. c.is_held.result ≡ has_session (core_of w b) c.args.line) (sym c.if-server.true)
    (held_is (server_side (server_kept.config_of c.self.inside.server)) w.server.core c.args.line c.look.result.state c.is_held.result c.is_held.ensures (ap (λ (l : LineLook). l.state) (c.look.ensures.state (record { config = server_kept.config_of c.self.inside.server; state = w.server }) (record { config = refl; state = s }))))

pub returns-else-server : goal.returns-else-server
returns-else-server g c = λ w a.
    let s : nodes.Stands c.self.inside.node w.node = subst (λ z. nodes.Stands z.node w.node) (sym c.self.view_is) a.node in
    subst (λ b. c.is_held-else-server.result ≡ has_session (core_of w b) c.args.line) (sym c.if-server.false)
    (held_is (node_side (node_kept.config_of c.self.inside.node)) w.node.core c.args.line c.look-else-server.result.state c.is_held-else-server.result c.is_held-else-server.ensures (ap (λ (l : LineLook). l.state) (c.look-else-server.ensures.state (record { config = node_kept.config_of c.self.inside.node; rule = c.self.inside.node.rule; state = w.node }) (record { config = refl; rule = refl; state = s }))))
