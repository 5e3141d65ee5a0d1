use Rattle.std.proofs.Common.{sym, subst, ◌≡◌}
use Rattle.lat_machines.specs.values.Addresses.{address}
use Rattle.lat_machines.specs.world.Machines.{core_of}
use Rattle.lat_server.specs.Stands as servers
use Rattle.lat_node.specs.Stands as nodes
use Rattle.lat_wire.specs.Ends.{half_at}
use Rattle.lat_wire.proofs.Seeing.{half_is}
use Rattle.lat_wire.proofs.ends.Ends.half_range.Goals as goal

pub returns-then-server-clause-value : goal.returns-then-server-clause-value
returns-then-server-clause-value g c = λ w a.
    let s : servers.Stands c.self.inside.server w.server = subst (λ z. servers.Stands z.server w.server) (sym c.self.view_is) a.server in
    subst (λ b. c.half_of.result ≡ half_at (core_of w b) (address c.args.from.0) c.args.heading) (sym c.if-server.true)
    (half_is w.server.core (address c.args.from.0) c.args.heading c.names.result c.span.result c.half_of.result c.half_of.ensures.value (c.names.ensures w.server s) (c.span.ensures w.server s))

pub returns-else-server-clause-value : goal.returns-else-server-clause-value
returns-else-server-clause-value g c = λ w a.
    let s : nodes.Stands c.self.inside.node w.node = subst (λ z. nodes.Stands z.node w.node) (sym c.self.view_is) a.node in
    subst (λ b. c.half_of-else-server.result ≡ half_at (core_of w b) (address c.args.from.0) c.args.heading) (sym c.if-server.false)
    (half_is w.node.core (address c.args.from.0) c.args.heading c.names-else-server.result c.span-else-server.result c.half_of-else-server.result c.half_of-else-server.ensures.value (c.names-else-server.ensures w.node s) (c.span-else-server.ensures w.node s))
