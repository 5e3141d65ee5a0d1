-- A RUN that isn't of its circuit's kind, or has the wrong master bit, is foreign to both machines.
use Rattle.std.specs.Prelude.{◌≡◌, ◌≢◌, ℕ, ◌⊎◌, Bool, cond, List, Option}
use Rattle.lat_model.specs.sessions.Slots.{Slot}
use Rattle.lat_model.specs.ends.End.{End}
use Rattle.lat_machines.specs.values.Addresses.{everyone}
use Rattle.lat_machines.specs.values.Messages.{Head, RunMessage, WideMessage}
use Rattle.lat_machines.specs.values.Frames.{OfCircuit, Whole}
use Rattle.lat_machines.specs.values.Events.{Numbers, Event, Hears}
use Rattle.lat_machines.specs.values.Answers.{Circuit, Foreign}
use Rattle.lat_machines.specs.server.Server.{ServerConfig, Server, server_step}
use Rattle.lat_machines.specs.node.Node.{NodeConfig, Node, node_step}

abbrev pub run_heard : ℕ → Bool → Head → List Slot → Option Numbers → ℕ → Event
run_heard from wide h slots numbers now =
    Hears from (Whole (OfCircuit (cond wide (WideMessage h slots) (RunMessage h slots)))) numbers now

-- its numbers have another width than those of the circuit, or its master bit is that of the end that hears it
abbrev pub IsOfOtherKind : End → Bool → Bool → Type 0
IsOfOtherKind e wide master = (wide ≢ e.wide) ⊎ (master ≡ e.master)

abbrev pub ServerHearsItsKind : Type 0
ServerHearsItsKind =
    (config : ServerConfig) (state : Server) (from now : ℕ) →
    (wide : Bool) (h : Head) (slots : List Slot) (numbers : Option Numbers) →
    from ≢ everyone →
    IsOfOtherKind (state.core.circuits.circuit_at h.to).end wide h.master →
    (server_step config state (run_heard from wide h slots numbers now)).answer ≡ Circuit Foreign

abbrev pub NodeHearsItsKind : Type 0
NodeHearsItsKind =
    (config : NodeConfig) (rates : List ℕ) (state : Node) (from now : ℕ) →
    (wide : Bool) (h : Head) (slots : List Slot) (numbers : Option Numbers) →
    from ≢ everyone →
    IsOfOtherKind (state.core.circuits.circuit_at h.to).end wide h.master →
    (node_step config rates state (run_heard from wide h slots numbers now)).answer ≡ Circuit Foreign
