-- An event of a line, where the call that does it may find no memory.
use Rattle.std.proofs.Common.{◌≡◌, ◌⊎◌, inl, inr, ℕ, min, sym, ap, subst, ◌∙◌, true, cond, List, length, Some, None, Result, Ok, Err}
use Rattle.std.specs.Prelude.{IfOk}
use Rattle.lat_base.specs.Answers.{TookFits}
use Rattle.lat_base.specs.declared.answer.Answer.{Answer}
use Rattle.lat_base.specs.declared.answer.Answer.TheVariants as answers
use Rattle.lat_base.specs.declared.addr.Addr.{Addr}
use Rattle.lat_base.specs.declared.bytes.Bytes.{Bytes}
use Rattle.lat_base.specs.declared.name.Name.{Name}
use Rattle.lat_base.specs.declared.event.Event.{Event}
use Rattle.lat_base.specs.declared.event.Event.TheVariants as events
use Rattle.lat_base.specs.declared.memory.Memory.{Memory}
use Rattle.lat_base.specs.declared.outbox.OutFrame.{OutFrame}
use Rattle.lat_machines.specs.cores.Lines.{line_exists}
use Rattle.lat_lines.specs.Answers as lines
use Rattle.lat_switch.specs.Core.{ready, ready_at}
use Rattle.lat_switch.specs.Kept.{Kept}
use Rattle.lat_switch.specs.Stands.{Simulates}
use Rattle.lat_switch.specs.Steps.{on_line, does}
use Rattle.lat_switch.specs.Switch.{Course, Step, line_in, line_on, relays, refuses}
use Rattle.lat_switch.proofs.Courses.{such_line, on_shown_line}

pub lined : (k : ℕ) (f : Course → Step) (old new : Kept) (before after : List OutFrame) (r : Result Answer Memory)
    → line_exists (length old.lines) k ≡ true
    → IfOk r (λ a. Simulates f old new a before after)
    → IfOk r (λ a. Simulates (λ c. on_line k f c) old new a before after)
lined k f old new before after (Ok a) e d = λ c h. such_line c old new k f a before after e h (d c h)
lined k f old new before after (Err m) e d = tt

pub taken : (k x n : ℕ) (old new : Kept) (before after : List OutFrame) (r : Result Answer Memory)
    → line_exists (length old.lines) k ≡ true → x ≡ (line_in k old.lines).shown
    → IfOk r (λ a. Simulates (relays (events.Take x n)) old new a before after)
    → IfOk r (λ a. Simulates (λ c. on_line k (relays (events.Take (line_on k c.state).shown n)) c) old new a before after)
taken k x n old new before after (Ok a) e is d = λ c h.
    such_line c old new k (λ (z : Course). relays (events.Take (line_on k z.state).shown n) z) a before after e h
    (on_shown_line c old new k x (λ y. events.Take y n) a before after h is (d c h))
taken k x n old new before after (Err m) e is d = tt

took_of : (old : Kept) (k x n : ℕ) (a : Answer) → lines.ready old.inner.lines x ≡ ready old k → TookFits (lines.ready old.inner.lines) a (events.Take x n) → TookFits (ready old) a (events.Take k n)
took_of old k x n (answers.Took items) e h = h ∙ ap (min n) e
took_of old k x n a e h = h

pub took_shown : (old : Kept) (k x n : ℕ) (r : Result Answer Memory)
    → line_exists (length old.lines) k ≡ true → x ≡ (line_in k old.lines).shown
    → IfOk r (λ a. TookFits (lines.ready old.inner.lines) a (events.Take x n))
    → IfOk r (λ a. TookFits (ready old) a (events.Take k n))
took_shown old k x n (Ok a) e is h =
    took_of old k x n a
    (ap (lines.ready old.inner.lines) is ∙ ap (λ b. ready_at old.inner.lines (cond b (Some (line_in k old.lines).shown) None)) (sym e))
    h
took_shown old k x n (Err m) e is h = tt

-- an event that is told as it is, and one that is nothing to a switch

pub as_relay : (e : Event) (P : (Course → Step) → Type 0) → ((x : Addr) × (y : Bytes) × (z : ℕ) × e ≡ events.Heard x y z) ⊎ ((x : ℕ) × e ≡ events.Time x) → P (relays e) → P (does e)
as_relay e P (inl w) p = subst (λ (z : Event). P (does z)) (sym w.3) (subst (λ (z : Event). P (relays z)) w.3 p)
as_relay e P (inr w) p = subst (λ (z : Event). P (does z)) (sym w.1) (subst (λ (z : Event). P (relays z)) w.1 p)

pub as_refusal : (e : Event) (P : (Course → Step) → Type 0) → ((x : Addr) × (y : ℕ) × (z : Name) × e ≡ events.Request x y z) ⊎ (((x : ℕ) × e ≡ events.Cancel x) ⊎ (e ≡ events.Announce)) → P (refuses answers.NotHere) → P (does e)
as_refusal e P (inl w) p = subst (λ (z : Event). P (does z)) (sym w.3) p
as_refusal e P (inr (inl w)) p = subst (λ (z : Event). P (does z)) (sym w.1) p
as_refusal e P (inr (inr w)) p = subst (λ (z : Event). P (does z)) (sym w) p
