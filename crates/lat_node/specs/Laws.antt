-- What holds of the node machine.
use Rattle.std.specs.Prelude.{◌≡◌, ℕ, ◌≤◌, ◌<◌, ◌^◌, ◌↔◌, List, map}
use Rattle.lat_base.specs.declared.event.Event as base
use Rattle.lat_base.specs.declared.outbox.OutFrame.{OutFrame}
use Rattle.lat_model.specs.Lists.{Each}
use Rattle.lat_machines.specs.cores.Lines.{used}
use Rattle.lat_machines.specs.values.Events.{Event}
use Rattle.lat_machines.specs.values.Frames as machine
use Rattle.lat_machines.specs.node.Node.{NodeConfig, Node, NodeFrames}
use Rattle.lat_circuit.specs.Frames.{frame_view}
use Rattle.lat_payload.specs.Frames.{expected, IsReadable}
use Rattle.lat_lines.specs.Events.{event_shown}
use Rattle.lat_node.specs.Places.{asked_places, AreRates}
use Rattle.lat_node.specs.Stands.{Machine, Frames}

-- by rules of these answers, of which this must be known, each rating that goes out is 0 exactly where all lines are held
abbrev pub RatingsTellFullness : {H : Type 0} → (H → ℕ → ℕ → ℕ → ℕ → Type 0) → (H → Type 0) → Type 0
RatingsTellFullness {H = H} may fact =
    (rule : H) (config : NodeConfig) (s : Node) (e : Event) (rates : List ℕ) →
    fact rule →
    config.lines < 2 ^ 16 →
    used s.core ≤ config.lines →
    AreRates (may rule) (used s.core) config.lines (asked_places config s e) rates →
    Each (λ r. (r ≡ 0) ↔ (used s.core ≡ config.lines)) rates

-- a rule may give this rating of some service
abbrev pub MayOfSome : (ℕ → ℕ → ℕ → ℕ → Type 0) → ℕ → ℕ → ℕ → Type 0
MayOfSome may used max rate = (place : ℕ) × may place used max rate

-- the frames are those of the machine with as many ratings as it asks for, each one that the rule may give of some service
pub record AreMachines {H : Type 0} (may : H → ℕ → ℕ → ℕ → ℕ → Type 0) (m : Machine H) (e : base.Event) (frames : List OutFrame)
    : Type 0 where
  pub made : List machine.OutFrame
  pub allowed : NodeFrames (MayOfSome (may m.rule)) m.config m.state (event_shown e) made
  pub same : map frame_view frames ≡ map expected made
  pub readable : Each IsReadable made

abbrev pub FramesAreMachines : {H : Type 0} → (H → ℕ → ℕ → ℕ → ℕ → Type 0) → Type 0
FramesAreMachines {H = H} may =
    (m : Machine H) (e : base.Event) (frames : List OutFrame) → Frames may m e frames → AreMachines may m e frames
