-- Behind a halt no circuit lives, and none comes.
use Rattle.std.specs.Prelude.{◌≡◌, ℕ, true, false, List, ◌∷◌, ◌++◌}
use Rattle.lat_model.specs.ends.End.{lives}
use Rattle.lat_machines.specs.values.Events.{Event, Halts}
use Rattle.lat_machines.specs.cores.Cores.{Core}
use Rattle.lat_machines.specs.server.Server.{ServerConfig, Server, open_server, server_step}
use Rattle.lat_machines.specs.node.Node.{NodeConfig, Node, open_node, node_step}
use Rattle.lat_machines.specs.world.Histories.{server_run, RatedEvent, node_run}

abbrev pub NoneLives : Core → Type 0
NoneLives c = (x : ℕ) → lives (c.circuits.circuit_at x).end ≡ false

-- whatever came before the halt, and whatever events follow it
abbrev pub HaltedServerIsDead : Type 0
HaltedServerIsDead =
    (config : ServerConfig) (before after : List Event) →
    NoneLives (server_run config (before ++ Halts ∷ after) (open_server config)).core

abbrev pub HaltedNodeIsDead : Type 0
HaltedNodeIsDead =
    (config : NodeConfig) (before after : List RatedEvent) (rates : List ℕ) →
    NoneLives (node_run config (before ++ record { event = Halts; rates = rates } ∷ after) (open_node config)).core

-- who is halted stays so
abbrev pub ServerStaysHalted : Type 0
ServerStaysHalted =
    (config : ServerConfig) (state : Server) (e : Event) → state.halted ≡ true → (server_step config state e).state.halted ≡ true

abbrev pub NodeStaysHalted : Type 0
NodeStaysHalted =
    (config : NodeConfig) (rates : List ℕ) (state : Node) (e : Event) →
    state.halted ≡ true →
    (node_step config rates state e).state.halted ≡ true
