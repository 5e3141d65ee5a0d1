-- Parts of an event of the node machine.
use Rattle.std.specs.Prelude.{◌≡◌, ℕ, List, []}
use Rattle.lat_base.specs.declared.answer.Answer.{Answer}
use Rattle.lat_base.specs.declared.event.Event.{Event}
use Rattle.lat_base.specs.declared.event.Event.TheVariants as events
use Rattle.lat_base.specs.declared.outbox.OutFrame.{OutFrame}
use Rattle.lat_machines.specs.cores.Lines.{used}
use Rattle.lat_machines.specs.node.Node.{NodeConfig, Node, NodeStep, node_step}
use Rattle.lat_machines.specs.values.Events as machine
use Rattle.lat_payload.specs.Frames.{Emits}
use Rattle.lat_lines.specs.AnswerValues.{answer_shown}
use Rattle.lat_node.specs.Kept.{Kept, config_of}
use Rattle.lat_node.specs.Places.{asked_places, AreRates}
use Rattle.lat_node.specs.Stands.{Stands}

-- It did so of every state that it stood for, and answered so, whatever the ratings
abbrev pub Simulates : {H : Type 0} → (NodeConfig → Node → NodeStep) → (old new : Kept H) → Answer → (before after : List OutFrame) → Type 0
Simulates event old new answer before after =
    (s : Node) → Stands old s →
    Stands new (event (config_of old) s).state
    × (answer_shown answer ≡ (event (config_of old) s).answer)
    × Emits (event (config_of old) s).frames before after

-- Ratings, each one that the rule may give of the service at its place at the lines held, with which the frames of such an
-- event went out
pub record Rated {H : Type 0} (may : H → ℕ → ℕ → ℕ → ℕ → Type 0) (k : Kept H) (s : Node)
    (event : List ℕ → NodeStep) (places : List ℕ) (before after : List OutFrame) : Type 0 where
  pub rates : List ℕ
  pub each : AreRates (may k.rule) (used s.core) k.lines.lines places rates
  pub frames : Emits (event rates).frames before after

-- It did what the machine does at an event, of every state that it stood for, and answered so. Only the frames depend on the
-- ratings
abbrev pub SimulatesRated : {H : Type 0} → (H → ℕ → ℕ → ℕ → ℕ → Type 0) → machine.Event → (old new : Kept H) → Answer → (before after : List OutFrame) → Type 0
SimulatesRated may e old new answer before after =
    (s : Node) → Stands old s →
    Stands new (node_step (config_of old) [] s e).state
    × (answer_shown answer ≡ (node_step (config_of old) [] s e).answer)
    × Rated may old s (λ rates. node_step (config_of old) rates s e) (asked_places (config_of old) s e) before after

-- an event that asks for no ratings
abbrev pub at_event : machine.Event → NodeConfig → Node → NodeStep
at_event e config s = node_step config [] s e

-- announcing, by its ratings
abbrev pub announces : NodeConfig → Node → List ℕ → NodeStep
announces config s rates = node_step config rates s machine.Announces

-- the events that take no memory
abbrev pub IsLocal : Event → Type 0
IsLocal (events.Time now) = Unit {0}
IsLocal (events.Put line bytes) = Unit {0}
IsLocal (events.Set line setting) = Unit {0}
IsLocal (events.Attend line flag) = Unit {0}
IsLocal (events.Close line) = Unit {0}
IsLocal e = ⊥

-- an event that takes no memory, or that there is none of at a node
abbrev pub TakesNoMemory : Event → Type 0
TakesNoMemory (events.Heard from payload now) = ⊥
TakesNoMemory (events.Take line n) = ⊥
TakesNoMemory (events.Request to id service) = ⊥
TakesNoMemory events.Announce = ⊥
TakesNoMemory events.Halt = ⊥
TakesNoMemory e = Unit {0}
