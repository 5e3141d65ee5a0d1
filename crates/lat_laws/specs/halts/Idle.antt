-- A halted machine begins nothing: a server calls nobody and grants nothing, a node turns each START away and announces nothing.
use Rattle.std.specs.Prelude.{◌≡◌, ◌≢◌, ℕ, ◌↔◌, Bool, true, List, [], Option}
use Rattle.lat_machines.specs.values.Addresses.{everyone}
use Rattle.lat_machines.specs.values.Messages.{StartInfo, StartMessage}
use Rattle.lat_machines.specs.values.Frames.{OfCircuit, Whole}
use Rattle.lat_machines.specs.values.Names.{Name}
use Rattle.lat_machines.specs.values.Events.{Numbers, Event, Hears, Connects, Announces}
use Rattle.lat_machines.specs.values.Answers.{Halted}
use Rattle.lat_machines.specs.cores.Cores.{Core}
use Rattle.lat_machines.specs.server.Server.{ServerConfig, Server, grant_pass, server_step}
use Rattle.lat_machines.specs.node.Node.{NodeConfig, Node, node_step}
use Rattle.lat_machines.specs.world.Refusals.{node_moved}
use Rattle.lat_laws.specs.habits.Refused.{stops_alone}
use Rattle.lat_model.specs.Reasons as reasons

-- a server answers Halted exactly where it is halted and told to connect
pub record IsHaltedConnect (state : Server) (e : Event) : Type 0 where
  pub line : ℕ
  pub service : Name
  pub event : e ≡ Connects line service
  pub halted : state.halted ≡ true

abbrev pub HaltedIsAnswered : Type 0
HaltedIsAnswered =
    (config : ServerConfig) (state : Server) (e : Event) →
    ((server_step config state e).answer ≡ Halted) ↔ IsHaltedConnect state e

-- no line session more, and no circuit
pub record NoneBegins (c : Core) (d : Core) : Type 0 where
  pub seats : d.seats ≡ c.seats
  pub drawn : d.circuits.drawn ≡ c.circuits.drawn

abbrev pub HaltedServerBeginsNone : Type 0
HaltedServerBeginsNone =
    (config : ServerConfig) (state : Server) (e : Event) →
    state.halted ≡ true →
    NoneBegins state.core (server_step config state e).state.core

abbrev pub HaltedServerGrantsNone : Type 0
HaltedServerGrantsNone =
    (config : ServerConfig) (state : Server) →
    state.halted ≡ true →
    grant_pass config state ≡ record { state = state; frames = [] }

-- a START is refused by a STOP from no circuit, and nothing changes but the moment
abbrev pub HaltedNodeTurnsAway : Type 0
HaltedNodeTurnsAway =
    (config : NodeConfig) (rates : List ℕ) (state : Node) (from to source now : ℕ) →
    (ask : Bool) (info : StartInfo) (numbers : Option Numbers) →
    state.halted ≡ true →
    from ≢ everyone →
    node_step config rates state (Hears from (Whole (OfCircuit (StartMessage true ask to source info))) numbers now)
    ≡ stops_alone
    (node_moved (Hears from (Whole (OfCircuit (StartMessage true ask to source info))) numbers now) state)
    from source reasons.halted

abbrev pub HaltedNodeMakesNone : Type 0
HaltedNodeMakesNone =
    (config : NodeConfig) (rates : List ℕ) (state : Node) (e : Event) →
    state.halted ≡ true →
    (node_step config rates state e).state.core.circuits.drawn ≡ state.core.circuits.drawn

abbrev pub HaltedNodeAnnouncesNothing : Type 0
HaltedNodeAnnouncesNothing =
    (config : NodeConfig) (rates : List ℕ) (state : Node) →
    state.halted ≡ true →
    (node_step config rates state Announces).frames ≡ []
