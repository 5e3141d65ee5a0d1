-- The two cores.
use Rattle.std.specs.Prelude.{◌≡◌, ℕ, ◌<◌, ◌^◌, Bool, true, false, cond, List, map, Option, Some, None, option_map}
use Rattle.lat_base.specs.declared.outbox.OutFrame.{OutFrame}
use Rattle.lat_base.specs.declared.state.SessionState.{SessionState}
use Rattle.lat_base.specs.declared.state.SessionState.TheVariants as states
use Rattle.lat_model.specs.Lists.{Each}
use Rattle.lat_machines.specs.values.Timing.{half_range}
use Rattle.lat_machines.specs.values.Frames as machines
use Rattle.lat_machines.specs.values.Events.{Event}
use Rattle.lat_machines.specs.cores.Hearing.{names}
use Rattle.lat_machines.specs.cores.Cores.{Core}
use Rattle.lat_machines.specs.server.Server.{server_step}
use Rattle.lat_machines.specs.node.Node.{node_step}
use Rattle.lat_machines.specs.world.Machines.{Setups, Machines}
use Rattle.lat_circuit.specs.Frames.{frame_view}
use Rattle.lat_payload.specs.Frames.{expected}
use Rattle.lat_server.specs.Kept as servers
use Rattle.lat_server.specs.Stands as server_stands
use Rattle.lat_node.specs.Kept as nodes
use Rattle.lat_node.specs.Stands as node_stands
use Rattle.lat_seq.specs.declared.span.Span.{Span}
use Rattle.lat_seq.specs.Spans.{half}
use Rattle.lat_wire.specs.declared.ledger.heading.Heading.{Heading}
use Rattle.lat_wire.specs.ledger.Books.{IsReadable}
use Rattle.lat_wire.specs.Rates.{RatesWhatIsLeft, rates}

-- H is the rule by which the node rates its services
pub record KeptEnds (H : Type 0) : Type 0 where
  pub server : servers.Kept
  pub node : nodes.Kept H
  pub out : List OutFrame

-- what both are made of
abbrev pub setups_of : {H : Type 0} → KeptEnds H → Setups
setups_of k = record { server = servers.config_of k.server; node = nodes.config_of k.node }

-- between events both are at rest, and the rule is known
pub record Holds {H : Type 0} (may : H → ℕ → ℕ → ℕ → ℕ → Type 0) (known : H → Type 0) (k : KeptEnds H) : Type 0 where
  pub server : servers.AtRest k.server
  pub node : nodes.AtRest k.node
  pub fact : known k.node.rule
  pub rule : RatesWhatIsLeft (may k.node.rule)
  pub lines : k.node.lines.lines < 2 ^ 16

-- they are the two machines of the world
pub record AreEnds {H : Type 0} (k : KeptEnds H) (w : Machines) : Type 0 where
  pub server : server_stands.Stands k.server w.server
  pub node : node_stands.Stands k.node w.node

-- the frames that an event makes
abbrev pub frames_by : Setups → Machines → Bool → Event → List machines.OutFrame
frames_by u w true e = (server_step u.server w.server e).frames
frames_by u w false e = (node_step u.node (rates u w) w.node e).frames

-- they went out, and each reads as its value
pub record MadeFrames (u : Setups) (w : Machines) (server : Bool) (e : Event) (out : List OutFrame) : Type 0 where
  pub same : map frame_view out ≡ map expected (frames_by u w server e)
  pub readable : Each IsReadable (frames_by u w server e)

-- half the range of the circuit that a RUN from this address names; None where it names none
abbrev pub half_at : Core → ℕ → Heading → Option ℕ
half_at c from h = cond (names c.circuits from h.to h.from) (Some (half_range (c.circuits.circuit_at h.to).end.wide)) None

-- half the range of the span of a circuit, where it is named
abbrev pub half_named : Bool → Option Span → Option ℕ
half_named named span = cond named (option_map half span) None

-- whether it is the state of a session that a line has
abbrev pub is_held : SessionState → Bool
is_held states.Free = false
is_held state = true
