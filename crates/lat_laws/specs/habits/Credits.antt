-- Each credited slot had its credit when it was formed, whoever has the other end of the circuit.
use Rattle.std.specs.Prelude.{◌≡◌, ℕ, suc, ◌<◌, ◌≤◌, List, [], ◌∷◌, ◌++◌, length, take}
use Rattle.lat_model.specs.sessions.Slots.{credits, costs}
use Rattle.lat_model.specs.sessions.Session.{Session}
use Rattle.lat_model.specs.Lists.{IsPrefixOf}
use Rattle.lat_machines.specs.values.Events.{Event}
use Rattle.lat_machines.specs.cores.Cores.{Core}
use Rattle.lat_machines.specs.server.Server.{ServerConfig, open_server}
use Rattle.lat_machines.specs.node.Node.{NodeConfig, open_node}
use Rattle.lat_machines.specs.world.Histories.{server_run, RatedEvent, node_run}

-- Of a session behind each history: the slot that stands behind n others was formed at this event, and had its credit
pub record HadItsCredit {E : Type 0} (session : List E → Session) (events : List E) (n : ℕ) : Type 0 where
  pub before : List E
  pub event : E
  pub after : List E
  pub among : events ≡ before ++ event ∷ after
  -- it isn't there before the event, and stands there behind it
  pub absent : length (session before).out ≤ n
  pub formed : n < length (session (before ++ event ∷ [])).out
  -- the credited slots up to it are at most the credits in the slots that were heard by then
  pub credited : costs (take (suc n) (session events).out) ≤ credits (session (before ++ event ∷ [])).came
  -- what was formed and heard by then stays as it is
  pub out : IsPrefixOf (session (before ++ event ∷ [])).out (session events).out
  pub came : IsPrefixOf (session (before ++ event ∷ [])).came (session events).came

-- each slot that a session has formed
abbrev pub EachHadItsCredit : {E : Type 0} → (List E → Session) → List E → Type 0
EachHadItsCredit session events = (n : ℕ) → n < length (session events).out → HadItsCredit session events n

-- the session of this serial number, on this circuit
abbrev pub session_on : Core → ℕ → ℕ → Session
session_on c x k = (c.circuits.circuit_at x).end.half.sessions.session k

abbrev pub ServerSlotsCredited : Type 0
ServerSlotsCredited =
    (config : ServerConfig) (events : List Event) (x k : ℕ) →
    EachHadItsCredit (λ es. session_on (server_run config es (open_server config)).core x k) events

abbrev pub NodeSlotsCredited : Type 0
NodeSlotsCredited =
    (config : NodeConfig) (events : List RatedEvent) (x k : ℕ) →
    EachHadItsCredit (λ es. session_on (node_run config es (open_node config)).core x k) events

-- at every moment the credited slots that a session has formed are at most the credits in the slots that it has heard
abbrev pub IsCredited : Session → Type 0
IsCredited s = costs s.out ≤ credits s.came

abbrev pub ServerWithinCredits : Type 0
ServerWithinCredits =
    (config : ServerConfig) (events : List Event) (x k : ℕ) →
    IsCredited (session_on (server_run config events (open_server config)).core x k)

abbrev pub NodeWithinCredits : Type 0
NodeWithinCredits =
    (config : NodeConfig) (events : List RatedEvent) (x k : ℕ) →
    IsCredited (session_on (node_run config events (open_node config)).core x k)
