-- What a node does at a circuit message.
use Rattle.std.specs.Prelude.{◌≡◌, ℕ, true, cond, List, ◌++◌, Option, Some, None}
use Rattle.lat_model.specs.circuits.World.{Table}
use Rattle.lat_machines.specs.values.Frames.{OutFrame}
use Rattle.lat_machines.specs.values.Messages.{Message, RunMessage, WideMessage, StartMessage, StopMessage}
use Rattle.lat_machines.specs.cores.Cores.{Core}
use Rattle.lat_machines.specs.cores.Hearing.{names}
use Rattle.lat_machines.specs.node.Node.{NodeConfig, Node, NodeStep, node_side, does, answers_asked}
use Rattle.lat_lines.specs.circuits.Hears.{HeardCore, heard_core}
use Rattle.lat_lines.specs.circuits.Kept.{has_id}
use Rattle.lat_lines.specs.Strangers.{strangers_stop}
use Rattle.lat_node.specs.Kept.{Kept, config_of}
use Rattle.lat_node.specs.Stands.{Stands}

-- the master's id of the circuit, where it is a START of a master
abbrev pub called_by : Message → Option ℕ
called_by (StartMessage true ask to source info) = Some source
called_by m = None

-- the living circuit that a RUN names
abbrev pub named_by : Table → ℕ → Message → Option ℕ
named_by t from (RunMessage h slots) = cond (names t from h.to h.from) (Some h.to) None
named_by t from (WideMessage h slots) = cond (names t from h.to h.from) (Some h.to) None
named_by t from (StartMessage master ask to source info) = None
named_by t from (StopMessage master ask to source reason text) = None

-- those who ask of this circuit are answered then
abbrev pub then_asked : NodeConfig → Option ℕ → NodeStep → NodeStep
then_asked config None x = x
then_asked config (Some circuit) x = record {
  state = answers_asked config circuit x.state;
  answer = x.answer;
  frames = x.frames;
}

-- what was made of those who ask of the circuit that it names
abbrev pub AskedThen : {H : Type 0} → Option ℕ → (old new : Kept H) → Type 0
AskedThen None old new = new ≡ old
AskedThen (Some x) old new = (s : Node) → Stands old s → has_id x old.lines.circuits ≡ true → Stands new (answers_asked (config_of old) x s)

-- what the circuits do, as a step of the node
abbrev pub heard_step : Node → HeardCore → NodeStep
heard_step s h = does s h.answer h.doing

-- the circuits hear it, and those who ask of the one that it names are answered
abbrev pub hears_named : NodeConfig → Node → ℕ → Message → NodeStep
hears_named config s from m =
    then_asked config (named_by s.core.circuits from m)
    (heard_step s (heard_core (node_side config) from m s.core))

-- what a prompt node tells a stranger
abbrev pub stranger_told : NodeConfig → Core → ℕ → Message → List OutFrame
stranger_told config c from m = strangers_stop (node_side config) config.prompt c from m

-- these frames go out behind those of a step
abbrev pub with_frames : List OutFrame → NodeStep → NodeStep
with_frames more x = record { state = x.state; answer = x.answer; frames = x.frames ++ more }
