-- The payloads that a core sends read as values.
use Rattle.std.proofs.Common.{◌≡◌, ℕ, List, [], ◌∷◌, None, map, sym, ap, subst, ◌∙◌}
use Rattle.lat_base.specs.declared.addr.Addr.{Addr}
use Rattle.lat_base.specs.declared.event.Event.TheVariants.{Heard}
use Rattle.lat_base.specs.declared.outbox.OutFrame.{OutFrame}
use Rattle.lat_model.specs.Lists.{Each}
use Rattle.lat_machines.specs.values.Addresses.{address}
use Rattle.lat_machines.specs.values.Events.{Hears}
use Rattle.lat_machines.specs.values.Frames as machines
use Rattle.lat_machines.specs.server.Server.{server_step}
use Rattle.lat_machines.specs.node.Node.{node_step}
use Rattle.lat_circuit.specs.Frames.{frame_view}
use Rattle.lat_payload.specs.Frames.{expected, IsReadable}
use Rattle.lat_payload.specs.Reads.{reading_of}
use Rattle.lat_lines.specs.AnswerValues.{answer_of}
use Rattle.lat_lines.specs.Events.{event_shown}
use Rattle.lat_server.specs.Stands as server
use Rattle.lat_node.specs.Stands as node
use Rattle.lat_runs.specs.Heard.{IsNotBad, ServerHearsWhole, NodeHearsWhole}
use Rattle.lat_runs.proofs.Answers.{server_whole, node_whole, not_bad}

abbrev IsWhole : OutFrame → Type 0
IsWhole f = (v : machines.Value) × (reading_of f.payload ≡ machines.Whole v)

all_whole : (fs : List OutFrame) (ms : List machines.OutFrame) → map frame_view fs ≡ map expected ms → Each IsReadable ms → Each IsWhole fs
all_whole [] ms same readable = tt
all_whole (f ∷ fs) [] same readable = let z : ⊥ = cc in absurd z
all_whole (f ∷ fs) (m ∷ ms) same readable =
    let one : frame_view f ≡ expected m = cc in
    let rest : map frame_view fs ≡ map expected ms = cc in
    ((m.value, ap (λ s. reading_of s.payload) one ∙ readable.0), all_whole fs ms rest readable.1)

all_heard : (P : OutFrame → Type 0) (fs : List OutFrame) → ((f : OutFrame) → IsWhole f → P f) → Each IsWhole fs → Each P fs
all_heard P [] hears whole = tt
all_heard P (f ∷ fs) hears whole = (hears f whole.0, all_heard P fs hears whole.1)

at_server : (m : server.Machine) (from : Addr) (now : ℕ) (f : OutFrame) → IsWhole f → IsNotBad (server.answered m (Heard from f.payload now))
at_server m from now f whole =
    subst (λ r. IsNotBad (answer_of (server_step m.config m.state (Hears (address from.0) r None now)).answer)) (sym whole.1)
    (not_bad (server_step m.config m.state (Hears (address from.0) (machines.Whole whole.0) None now)).answer (server_whole m.config m.state (address from.0) whole.0 now))

at_node : {H : Type 0} (m : node.Machine H) (from : Addr) (now : ℕ) (f : OutFrame) → IsWhole f → IsNotBad (node.answered m (Heard from f.payload now))
at_node m from now f whole =
    subst (λ r. IsNotBad (answer_of (node_step m.config [] m.state (Hears (address from.0) r None now)).answer)) (sym whole.1)
    (not_bad (node_step m.config [] m.state (Hears (address from.0) (machines.Whole whole.0) None now)).answer (node_whole m.config [] m.state (address from.0) whole.0 now))

pub server_hears : {H : Type 0} (may : H → ℕ → ℕ → ℕ → ℕ → Type 0) → ServerHearsWhole may
server_hears may sender event frames sent hearer from now =
    all_heard (λ f. IsNotBad (server.answered hearer (Heard from f.payload now))) frames (at_server hearer from now) (all_whole frames (node_step sender.config sent.rates sender.state (event_shown event)).frames sent.adds.same sent.adds.readable)

pub node_hears : (H : Type 0) → NodeHearsWhole H
node_hears H sender event frames sent hearer from now =
    all_heard (λ f. IsNotBad (node.answered hearer (Heard from f.payload now))) frames (at_node hearer from now) (all_whole frames (server.stepped sender event).frames sent.same sent.readable)
