-- There is memory for the circuit that a START may make.
use Rattle.std.proofs.Common.{◌≡◌, ℕ, ◌≤◌, true, false, Some, None, length, refl, ◌∙◌, subst, arith}
use Rattle.std.specs.Prelude.{List, Result, Ok, Err, OnOk, OnErr}
use Rattle.lat_base.specs.declared.answer.Answer.{Answer}
use Rattle.lat_base.specs.declared.outbox.OutFrame.{OutFrame}
use Rattle.lat_frames.specs.declared.message.Message.{Message}
use Rattle.lat_frames.specs.declared.message.Message.TheVariants.{Run, Wide, Start, Stop}
use Rattle.lat_circuit.specs.Messages.{message_shown}
use Rattle.lat_lines.specs.circuits.Hears.{is_call}
use Rattle.lat_lines.specs.circuits.Kept.{Kept, HasRooms, with_memory}
use Rattle.lat_lines.specs.Kept as lines
use Rattle.lat_lines.specs.Stands as line_stands
use Rattle.lat_machines.specs.node.Node.{NodeConfig, Node, NodeStep}
use Rattle.lat_payload.specs.Frames.{Emits}
use Rattle.lat_lines.specs.AnswerValues.{answer_shown}
use Rattle.lat_node.specs.Events.{Simulates}
use Rattle.lat_node.specs.Hearing.{called_by}
use Rattle.lat_node.specs.Kept as node
use Rattle.lat_node.specs.Kept.{SameConfig, config_of}
use Rattle.lat_node.specs.Stands.{Stands}
use Rattle.lat_node.proofs.StepLemmas.{with_lines}

pub stays_ready : (n : ℕ) (k l : Kept) → with_memory l ≡ with_memory k → length k.rooms ≤ length l.rooms → HasRooms n k → HasRooms n l
stays_ready n k l same more ready = λ short. same ∙ ready (omega (arith, short, more))

-- a START of a master, in code and as the machines know it

pub call_is : (m : Message) (source : ℕ) → called_by (message_shown m) ≡ Some source → is_call m ≡ true
call_is (Run head slots) source some = let z : ⊥ = cc in absurd z
call_is (Wide head slots) source some = let z : ⊥ = cc in absurd z
call_is (Start true ask to from info) source some = refl
call_is (Start false ask to from info) source some = let z : ⊥ = cc in absurd z
call_is (Stop master ask to from reason text) source some = let z : ⊥ = cc in absurd z

pub no_call : (m : Message) → called_by (message_shown m) ≡ None → is_call m ≡ true → ⊥
no_call (Run head slots) none call = let z : ⊥ = cc in z
no_call (Wide head slots) none call = let z : ⊥ = cc in z
no_call (Start true ask to from info) none call = let z : ⊥ = cc in z
no_call (Start false ask to from info) none call = let z : ⊥ = cc in z
no_call (Stop master ask to from reason text) none call = let z : ⊥ = cc in z

-- the lines have more memory, and nothing else has changed
pub node_reserved : {H : Type 0} (k : node.Kept H) (l : lines.Kept) (s : Node) → Stands k s → line_stands.Stands l s.core → Stands (with_lines k l) s
node_reserved k l s st x = record { lines = x; requests = st.requests; accepted = st.accepted; turned_away = st.turned_away; halted = st.halted }

-- what is done then is done from before
pub does_reserved : {H : Type 0} (event : NodeConfig → Node → NodeStep) (old mid new : node.Kept H) (a : Answer) (before after : List OutFrame) → ((s : Node) → Stands old s → Stands mid s) → SameConfig old mid
    → Simulates event mid new a before after → Simulates event old new a before after
does_reserved event old mid new a before after stands same did = λ s st.
    subst (λ (c : NodeConfig). Stands new (event c s).state × (answer_shown a ≡ (event c s).answer) × Emits (event c s).frames before after) same.config (did s (stands s st))

pub on_ok : {A E P Q : Type 0} (r : Result A E) → (P → Q) → OnOk r P → OnOk r Q
on_ok (Ok a) f h = f h
on_ok (Err e) f h = h

pub on_err : {A E P Q : Type 0} (r : Result A E) → (P → Q) → OnErr r P → OnErr r Q
on_err (Ok a) f h = h
on_err (Err e) f h = f h
