-- A request is accepted once: no second start with its id is.
use Rattle.std.specs.Prelude.{nat_eq, List}
use Rattle.std.specs.List.{IsDistinct}
use Rattle.lat_machines.specs.node.Node.{NodeConfig, open_node}
use Rattle.lat_machines.specs.world.Histories.{RatedEvent, node_run}

abbrev pub AcceptedOnce : Type 0
AcceptedOnce =
    (config : NodeConfig) (events : List RatedEvent) → IsDistinct nat_eq (node_run config events (open_node config)).accepted
