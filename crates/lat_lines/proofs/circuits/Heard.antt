-- A circuit at a place that hears a message.
use Rattle.std.proofs.Common.{◌≡◌, ℕ, List, ◌++◌, map, slice_get, slice_index, Some, sym, ap, subst, ◌∙◌}
use Rattle.lat_base.specs.declared.heard.Heard.{Heard as OwnHeard}
use Rattle.lat_base.specs.declared.outbox.OutFrame.{OutFrame}
use Rattle.lat_model.specs.ends.End.{End, Step}
use Rattle.lat_machines.specs.values.Messages.{Message}
use Rattle.lat_machines.specs.values.Answers.{Circuit}
use Rattle.lat_machines.specs.values.Timing.{Timing}
use Rattle.lat_machines.specs.cores.Cores.{Core}
use Rattle.lat_payload.specs.Frames.{Emits}
use Rattle.lat_circuit.specs.Kept as circuit
use Rattle.lat_circuit.specs.Stands as circuit_stands
use Rattle.lat_circuit.specs.Frames.{timing_shown, frame_sent, AreFormed}
use Rattle.lat_circuit.specs.Hears.{hears, hears_noted, heard_shown}
use Rattle.lat_lines.specs.circuits.Kept.{Kept, Holds, IsOwn, ids, side_of}
use Rattle.lat_lines.specs.circuits.Stands.{Stands, IsCircuit, Simulates}
use Rattle.lat_lines.specs.circuits.Hears.{hears_at}
use Rattle.lat_lines.proofs.CircuitsHeld.{each_at}
use Rattle.lat_lines.proofs.circuits.Places.{Became, id_read, act_at, adds_at}

pub heard_at : (k : Kept) (at : ℕ) (q r : circuit.Kept) (l : Kept) (m : Message) (before after : List OutFrame) → Holds k → Became k at q r l → IsOwn k q → IsOwn k r
    → circuit_stands.Simulates (hears_noted q.facts.id (timing_shown q.facts.config.timing) k.moment m) q r before after
    → Simulates (λ c. (hears_at (side_of k) (slice_index (ids k) at) m c).doing) k l before after
heard_at k at q r l m before after h b was own did = λ c st.
    let x : ℕ = q.facts.id in
    let e : End = (c.circuits.circuit_at x).end in
    let is = each_at (IsCircuit c) k.held at q st.each b.here in
    let t : Timing = timing_shown k.timing in
    let s : Step = hears_noted x t c.moment m e in
    let Q : Step → Type 0 = λ z. circuit_stands.Stands r z.end × (after ≡ before ++ map (frame_sent r.facts) z.sent) × AreFormed r.facts z.sent in
    let d : Q s = subst (λ n. Q (hears_noted x t n m e)) st.moment (subst (λ z. Q (hears_noted x (timing_shown z) k.moment m e)) was.timing (did e is.end)) in
    let P : ℕ → Type 0 = λ z. Stands l (hears_at (side_of k) z m c).doing.core × Emits (hears_at (side_of k) z m c).doing.frames before after in
    subst P (sym (id_read k at q b.here)) (act_at k c at q r l s h st b d.0, adds_at k c at q r l s before after st b own d.0 d.1 d.2)

-- and what it answers
pub heard_answer : (k : Kept) (at : ℕ) (q : circuit.Kept) (m : Message) (a : OwnHeard) → slice_get k.held at ≡ Some q → IsOwn k q
    → ((e : End) → circuit_stands.Stands q e → heard_shown a ≡ (hears q.facts.id (timing_shown q.facts.config.timing) k.moment m e).answer)
    → (c : Core) → Stands k c → Circuit (heard_shown a) ≡ (hears_at (side_of k) (slice_index (ids k) at) m c).answer
heard_answer k at q m a here was says c st =
    let x : ℕ = q.facts.id in
    let e : End = (c.circuits.circuit_at x).end in
    let is = each_at (IsCircuit c) k.held at q st.each here in
    ap Circuit (says e is.end ∙ ap (λ z. (hears x (timing_shown z) k.moment m e).answer) was.timing ∙ ap (λ n. (hears x (timing_shown k.timing) n m e).answer) st.moment)
    ∙ ap (λ z. (hears_at (side_of k) z m c).answer) (sym (id_read k at q here))
