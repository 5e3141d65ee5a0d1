use Rattle.std.proofs.Common.{arith, refl}
use Rattle.lat_machines.specs.world.Machines.{Setups}
use Rattle.lat_server.specs.Config as servers
use Rattle.lat_node.specs.Config as nodes
use Rattle.lat_wire.proofs.Opening.{fits, opened, opened_holds}
use Rattle.lat_wire.proofs.wire.Wire.make.Goals as goal

pub invariant_of-result-2 : goal.invariant_of-result-2
invariant_of-result-2 g c =
    let u : Setups = record { server = servers.config_shown c.args.server.now; node = nodes.config_shown c.args.node.now } in
    (opened_holds _ c.args.server.now c.args.node.now u c.in_ok-make.ensures.config c.in_ok-make-2.ensures.config.0 refl refl (omega (arith, c.from.ensures)) (c.in_ok-make-4.ensures.book u) c.in_ok-make-4.ensures.tallies, c.in_ok-make-3.ensures)

pub returns-clause-stands : goal.returns-clause-stands
returns-clause-stands g c =
    opened _ c.args.server.now c.args.node.now c.in_ok-make.ensures.config c.in_ok-make-2.ensures.config.0
    (fits c.args.server.now c.args.node.now c.requires.server c.requires.node c.requires.apart c.requires.server_own c.requires.node_own)
    c.in_ok-make.ensures.stands c.in_ok-make-2.ensures.stands c.in_ok-make-4.ensures.book c.new.ensures.items refl
