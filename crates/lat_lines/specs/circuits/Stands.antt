-- Which cores the circuits stand for, and what they did.
use Rattle.std.specs.Prelude.{◌≡◌, ℕ, true, List}
use Rattle.lat_base.specs.declared.outbox.OutFrame.{OutFrame}
use Rattle.lat_model.specs.Lists.{Each}
use Rattle.lat_model.specs.sessions.Calls.{Call}
use Rattle.lat_model.specs.ends.End.{lives}
use Rattle.lat_machines.specs.values.Addresses.{address}
use Rattle.lat_machines.specs.cores.Acts.{local_at}
use Rattle.lat_machines.specs.cores.Cores.{Side, Core, Doing, acts}
use Rattle.lat_payload.specs.Frames.{Emits}
use Rattle.lat_circuit.specs.Kept as circuit
use Rattle.lat_circuit.specs.Stands as circuit_stands
use Rattle.lat_lines.specs.circuits.Kept.{Kept, has_id}

-- a held circuit stands for the core's circuit of its id
pub record IsCircuit (c : Core) (q : circuit.Kept) : Type 0 where
  pub end : circuit_stands.Stands q (c.circuits.circuit_at q.facts.id).end
  pub address : address q.facts.config.peer.0 ≡ (c.circuits.circuit_at q.facts.id).address
  pub name : q.facts.config.peer_name ≡ c.names q.facts.id

-- They stand for the circuits of the core. Each circuit that lives is held. The core's line sessions are another matter
pub record Stands (k : Kept) (c : Core) : Type 0 where
  pub own : address k.own.0 ≡ c.circuits.own
  pub moment : k.moment ≡ c.moment
  pub first : k.first ≡ c.circuits.first
  pub drawn : k.drawn ≡ c.circuits.drawn
  pub each : Each (IsCircuit c) k.held
  pub all : (i : ℕ) → lives (c.circuits.circuit_at i).end ≡ true → has_id i k ≡ true

-- They did this of every core that they stood for, and its frames went out in order
abbrev pub Simulates : (Core → Doing) → (old new : Kept) → (before after : List OutFrame) → Type 0
Simulates step old new before after = (c : Core) → Stands old c → Stands new (step c).core × Emits (step c).frames before after

-- a local call on the sessions of a circuit
abbrev pub calling : Side → ℕ → Call → Core → Core
calling k x call c = (acts k c (local_at k.server c.circuits x call)).core
