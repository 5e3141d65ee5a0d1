-- What one core sends, the other hears whole.
use Rattle.std.specs.Prelude.{◌≢◌, ℕ, List}
use Rattle.lat_base.specs.declared.addr.Addr.{Addr}
use Rattle.lat_base.specs.declared.answer.Answer.{Answer}
use Rattle.lat_base.specs.declared.answer.Answer.TheVariants.{Bad}
use Rattle.lat_base.specs.declared.event.Event.{Event}
use Rattle.lat_base.specs.declared.event.Event.TheVariants.{Heard}
use Rattle.lat_base.specs.declared.field.Bad as fields
use Rattle.lat_base.specs.declared.outbox.OutFrame.{OutFrame}
use Rattle.lat_model.specs.Lists.{Each}
use Rattle.lat_server.specs.Stands as server
use Rattle.lat_node.specs.Stands as node

-- it doesn't say that a payload has no layout
abbrev pub IsNotBad : Answer → Type 0
IsNotBad answer = (bad : fields.Bad) → answer ≢ Bad bad

-- where a node may send these frames at an event, a server in any state hears each as a value, from anywhere and at any moment
abbrev pub ServerHearsWhole : {H : Type 0} → (H → ℕ → ℕ → ℕ → ℕ → Type 0) → Type 0
ServerHearsWhole {H = H} may =
    (sender : node.Machine H) (event : Event) (frames : List OutFrame) → node.Frames may sender event frames →
    (hearer : server.Machine) (from : Addr) (now : ℕ) →
    Each (λ (f : OutFrame). IsNotBad (server.answered hearer (Heard from f.payload now))) frames

-- the same of the frames that a server may send
abbrev pub NodeHearsWhole : Type 0 → Type 0
NodeHearsWhole H =
    (sender : server.Machine) (event : Event) (frames : List OutFrame) → server.Frames sender event frames →
    (hearer : node.Machine H) (from : Addr) (now : ℕ) →
    Each (λ (f : OutFrame). IsNotBad (node.answered hearer (Heard from f.payload now))) frames
