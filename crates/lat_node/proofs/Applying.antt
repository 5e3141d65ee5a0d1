-- What an event does, from what its parts did.
use Rattle.std.proofs.Common.{◌≡◌, ℕ, refl, sym, subst, false, cond, List, [], Result, Ok, Err, IfOk, OnOk}
use Rattle.lat_base.specs.declared.answer.Answer as base
use Rattle.lat_base.specs.declared.answer.Answer.TheVariants as answers
use Rattle.lat_base.specs.declared.event.Event as base_event
use Rattle.lat_base.specs.declared.event.Event.TheVariants as events
use Rattle.lat_base.specs.declared.memory.Memory.{Memory}
use Rattle.lat_base.specs.declared.outbox.OutFrame.{OutFrame}
use Rattle.lat_machines.specs.values.Events.{Event, Takes, Announces}
use Rattle.lat_machines.specs.cores.Cores.{Side}
use Rattle.lat_machines.specs.cores.LineCalls.{take_on, on_line}
use Rattle.lat_machines.specs.node.Node.{Node, node_step}
use Rattle.lat_lines.specs.Kept as lines
use Rattle.lat_lines.specs.Answers.{SimulatesCall}
use Rattle.lat_lines.specs.Events.{event_shown}
use Rattle.lat_node.specs.Kept.{Kept, config_of}
use Rattle.lat_node.specs.Places.{places}
use Rattle.lat_node.specs.Stands.{Stands}
use Rattle.lat_node.specs.Events.{Simulates, SimulatesRated, Rated, TakesNoMemory, announces}
use Rattle.lat_node.proofs.StepLemmas.{with_lines, called}
use Rattle.lat_node.proofs.FrameLemmas.{IsQuiet, steps_quiet, steps_announce}

-- an event of the core, as the machines know it
pub steps_event : {H : Type 0} (may : H → ℕ → ℕ → ℕ → ℕ → Type 0) (k l : Kept H) (e : base_event.Event) (x : Event) (result : Result base.Answer Memory) (before after : List OutFrame) → event_shown e ≡ x →
    IfOk result (λ a. SimulatesRated may x k l a before after) → IfOk result (λ a. SimulatesRated may (event_shown e) k l a before after)
steps_event may k l e x result before after is steps = subst (λ (y : Event). IfOk result (λ a. SimulatesRated may y k l a before after)) (sym is) steps

-- one that asks for no ratings
pub steps_does : {H : Type 0} (may : H → ℕ → ℕ → ℕ → ℕ → Type 0) (k l : Kept H) (e : base_event.Event) (x : Event) (result : Result base.Answer Memory) (before after : List OutFrame) → event_shown e ≡ x → IsQuiet x →
    IfOk result (λ a. Simulates (λ config s. node_step config [] s x) k l a before after) → IfOk result (λ a. SimulatesRated may (event_shown e) k l a before after)
steps_does may k l e x (Ok a) before after is quiet does = subst (λ (y : Event). SimulatesRated may y k l a before after) (sym is) (steps_quiet may k l x a before after quiet does)
steps_does may k l e x (Err m) before after is quiet does = tt

-- a take
pub steps_take : {H : Type 0} (may : H → ℕ → ℕ → ℕ → ℕ → Type 0) (k old : Kept H) (l : lines.Kept) (e : base_event.Event) (line n : ℕ) (result : Result base.Answer Memory) (before : List OutFrame) → k ≡ old → k.lines.circuits.server ≡ false →
    event_shown e ≡ Takes line n → IfOk result (λ a. SimulatesCall (λ d. on_line k.lines.lines d line (λ x. take_on (lines.side_of k.lines) d x n)) k.lines l a) →
    IfOk result (λ a. SimulatesRated may (event_shown e) old (with_lines k l) a before before)
steps_take {H = H} may k old l e line n (Ok a) before same node is says =
    subst (λ (z : Kept H). SimulatesRated may (event_shown e) z (with_lines k l) a before before) same
    (subst (λ (y : Event). SimulatesRated may y k (with_lines k l) a before before) (sym is)
    (steps_quiet may k (with_lines k l) (Takes line n) a before before tt (called k l (λ (side : Side) d. on_line k.lines.lines d line (λ x. take_on side d x n)) a before node says)))
steps_take may k old l e line n (Err m) before same node is says = tt

-- an announcement
pub steps_announced : {H : Type 0} (may : H → ℕ → ℕ → ℕ → ℕ → Type 0) (k : Kept H) (e : base_event.Event) (result : Result base.Answer Memory) (before after : List OutFrame) → event_shown e ≡ Announces →
    IfOk result (λ a. a ≡ answers.Done) → ((s : Node) → Stands k s → OnOk result (Rated may k s (announces (config_of k) s) (cond s.halted [] (places (config_of k))) before after)) →
    IfOk result (λ a. SimulatesRated may (event_shown e) k k a before after)
steps_announced may k e (Ok a) before after is done rated =
    subst (λ (y : Event). SimulatesRated may y k k a before after) (sym is)
    (subst (λ (z : base.Answer). SimulatesRated may Announces k k z before after) (sym done) (steps_announce may k before after rated))
steps_announced may k e (Err m) before after is done rated = tt

-- the other events take no memory
pub act_of : (e : base_event.Event) → ((from : _) (payload : _) (now : _) → e ≡ events.Heard from payload now → ⊥) → ((line : _) (n : _) → e ≡ events.Take line n → ⊥) → ((to : _) (id : _) (service : _) → e ≡ events.Request to id service → ⊥)
    → (e ≡ events.Announce → ⊥) → (e ≡ events.Halt → ⊥) → TakesNoMemory e
act_of (events.Heard from payload now) h t r a z = absurd (h from payload now refl)
act_of (events.Time now) h t r a z = tt
act_of (events.Connect line service) h t r a z = tt
act_of (events.Put line bytes) h t r a z = tt
act_of (events.Set line setting) h t r a z = tt
act_of (events.Take line n) h t r a z = absurd (t line n refl)
act_of (events.Attend line flag) h t r a z = tt
act_of (events.Close line) h t r a z = tt
act_of (events.Request to id service) h t r a z = absurd (r to id service refl)
act_of (events.Cancel id) h t r a z = tt
act_of events.Announce h t r a z = absurd (a refl)
act_of (events.Avoid line) h t r a z = tt
act_of (events.Ready line ready) h t r a z = tt
act_of events.Halt h t r a z = absurd (z refl)
