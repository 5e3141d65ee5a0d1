-- A second halt changes nothing and sends nothing, whatever came between.
use Rattle.std.specs.Prelude.{◌≡◌, ℕ, ◌<◌, true, List}
use Rattle.lat_machines.specs.values.Events.{Event, Halts}
use Rattle.lat_machines.specs.values.Answers.{Done}
use Rattle.lat_machines.specs.server.Server.{ServerConfig, open_server}
use Rattle.lat_machines.specs.server.Server as Server
use Rattle.lat_machines.specs.node.Node.{NodeConfig, open_node}
use Rattle.lat_machines.specs.node.Node as Node
use Rattle.lat_machines.specs.world.Histories.{server_run, RatedEvent, node_run}
use Rattle.lat_machines.specs.world.Refusals.{server_after, node_after}

abbrev pub ServerHaltsOnce : Type 0
ServerHaltsOnce =
    (config : ServerConfig) (events : List Event) →
    0 < config.timing.sessions →
    (server_run config events (open_server config)).halted ≡ true →
    server_after config events Halts ≡ Server.tells (server_run config events (open_server config)) Done

abbrev pub NodeHaltsOnce : Type 0
NodeHaltsOnce =
    (config : NodeConfig) (events : List RatedEvent) (rates : List ℕ) →
    (node_run config events (open_node config)).halted ≡ true →
    node_after config events rates Halts ≡ Node.tells (node_run config events (open_node config)) Done
