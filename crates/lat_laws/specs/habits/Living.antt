-- At most one circuit of a server to an address lives. A node has as many as START under ids of their own; of those with
-- one address and one id of the peer at most one lives.
use Rattle.std.specs.Prelude.{◌≡◌, ℕ, Bool, true, List}
use Rattle.lat_model.specs.ends.End.{lives}
use Rattle.lat_machines.specs.values.Events.{Event}
use Rattle.lat_machines.specs.cores.Cores.{Core}
use Rattle.lat_machines.specs.server.Server.{ServerConfig, open_server}
use Rattle.lat_machines.specs.node.Node.{NodeConfig, open_node}
use Rattle.lat_machines.specs.world.Histories.{server_run, RatedEvent, node_run}

abbrev pub lives_at : Core → ℕ → Bool
lives_at c x = lives (c.circuits.circuit_at x).end

abbrev pub SameAddress : Core → ℕ → ℕ → Type 0
SameAddress c x y = (c.circuits.circuit_at x).address ≡ (c.circuits.circuit_at y).address

abbrev pub SamePeer : Core → ℕ → ℕ → Type 0
SamePeer c x y = (c.circuits.circuit_at x).end.peer ≡ (c.circuits.circuit_at y).end.peer

abbrev pub OneToAnAddress : Core → Type 0
OneToAnAddress c = (x y : ℕ) → lives_at c x ≡ true → lives_at c y ≡ true → SameAddress c x y → x ≡ y

abbrev pub OneToAPeer : Core → Type 0
OneToAPeer c = (x y : ℕ) → lives_at c x ≡ true → lives_at c y ≡ true → SameAddress c x y → SamePeer c x y → x ≡ y

abbrev pub ServerCircuitsApart : Type 0
ServerCircuitsApart =
    (config : ServerConfig) (events : List Event) → OneToAnAddress (server_run config events (open_server config)).core

abbrev pub NodeCircuitsApart : Type 0
NodeCircuitsApart =
    (config : NodeConfig) (events : List RatedEvent) → OneToAPeer (node_run config events (open_node config)).core
