-- What a wire that is told an event of a schedule comes to.
use Rattle.std.proofs.Common.{◌≡◌, ℕ, Bool, List, Option, Some, None, Result, Ok, Err, slice_get, sym, ap, ◌∙◌, subst}
use Rattle.std.specs.Prelude.{IfOk, OnOk}
use Rattle.lat_base.specs.declared.addr.Addr.{Addr}
use Rattle.lat_base.specs.declared.answer.Answer as base
use Rattle.lat_base.specs.declared.event.Event as events
use Rattle.lat_lines.specs.Events.{event_shown}
use Rattle.lat_machines.specs.values.Addresses.{address}
use Rattle.lat_machines.specs.values.Events.{Hears}
use Rattle.lat_machines.specs.world.Machines.{Machines, Does, HearsFrame, HearsForeign, happens}
use Rattle.lat_payload.specs.Reads.{reading_of}
use Rattle.lat_schedule.specs.declared.event.WorldEvent.{WorldEvent}
use Rattle.lat_schedule.specs.declared.event.WorldEvent.TheVariants.{Local, Deliver, Inject}
use Rattle.lat_wire.specs.declared.fault.EventFault.{EventFault}
use Rattle.lat_wire.specs.Kept.{Kept, setups_of}
use Rattle.lat_wire.specs.Refusals.{RefusedAs, local_refusal, deliver_refusal, inject_refusal}
use Rattle.lat_wire.specs.Stands.{Stands, Happens}
use Rattle.lat_wire.specs.Told.{moment_after, IsAnswered, answered, answered_to}
use Rattle.lat_wire.specs.Rates.{rates}
use Rattle.lat_wire.proofs.Refusing.{same_fault}
use Rattle.lat_replay.specs.Played.{State, next, refusal}
use Rattle.lat_trace.specs.Entries.{answer_at}
use Rattle.lat_trace.specs.Shown.{IsAt, some_of}

-- the clauses of an event of its own, in a state

pub local_goes : {H : Type 0} (k new : Kept H) (server : Bool) (e : events.Event) → Happens k new (Does server (event_shown e)) → new.moment ≡ moment_after k.moment (event_shown e) → (s : State) → IsAt k s → IsAt new (next (setups_of k) s (Local server e))
local_goes k new server e goes moment s at = record {
  machines = goes s.machines at.machines;
  moment = moment ∙ ap (λ m. moment_after m (event_shown e)) at.moment;
}

pub local_answers : {H : Type 0} (k : Kept H) (server : Bool) (e : events.Event) (a : base.Answer) → IsAnswered k server (event_shown e) a → (s : State) → IsAt k s → Some a ≡ answer_at (setups_of k) s (Local server e)
local_answers k server e a is s at = ap Some (is s.machines at.machines)

pub local_refused : {A H : Type 0} (k : Kept H) (server : Bool) (e : events.Event) (r : Result A EventFault) → ((w : Machines) → Stands k w → RefusedAs r (local_refusal w k.moment (event_shown e))) → (s : State) → IsAt k s → RefusedAs r (refusal (setups_of k) s (Local server e))
local_refused k server e r refused s at = subst (λ m. RefusedAs r (local_refusal s.machines m (event_shown e))) at.moment (refused s.machines at.machines)

-- of a delivery

pub deliver_goes : {H : Type 0} (k new : Kept H) (index : ℕ) → Happens k new (HearsFrame index k.moment) → new.moment ≡ k.moment → (s : State) → IsAt k s → IsAt new (next (setups_of k) s (Deliver index))
deliver_goes k new index goes moment s at = record {
  machines = subst (λ m. Stands new (happens (setups_of k) s.machines (HearsFrame index m (rates (setups_of k) s.machines)))) at.moment (goes s.machines at.machines);
  moment = moment ∙ at.moment;
}

pub deliver_answers : {H : Type 0} (k : Kept H) (index : ℕ) (a : Option base.Answer) → ((w : Machines) → Stands k w → a ≡ answered_to (setups_of k) w k.moment (slice_get w.posts index)) → (s : State) → IsAt k s → a ≡ answer_at (setups_of k) s (Deliver index)
deliver_answers k index a is s at = is s.machines at.machines ∙ ap (λ m. answered_to (setups_of k) s.machines m (slice_get s.machines.posts index)) at.moment

pub deliver_refused : {A H : Type 0} (k : Kept H) (index : ℕ) (r : Result A EventFault) → ((w : Machines) → Stands k w → RefusedAs r (deliver_refusal (setups_of k) w index)) → (s : State) → IsAt k s → RefusedAs r (refusal (setups_of k) s (Deliver index))
deliver_refused k index r refused s at = refused s.machines at.machines

-- of a frame from outside

pub inject_goes : {H : Type 0} (k new : Kept H) (server : Bool) (from : Addr) (payload : List ℕ) → Happens k new (HearsForeign server (address from.0) (reading_of payload) k.moment) → new.moment ≡ k.moment → (s : State) → IsAt k s → IsAt new (next (setups_of k) s (Inject server from payload))
inject_goes k new server from payload goes moment s at = record {
  machines = subst (λ m. Stands new (happens (setups_of k) s.machines (HearsForeign server (address from.0) (reading_of payload) m (rates (setups_of k) s.machines)))) at.moment (goes s.machines at.machines);
  moment = moment ∙ at.moment;
}

pub inject_answers : {H : Type 0} (k : Kept H) (server : Bool) (from : Addr) (payload : List ℕ) (a : base.Answer) → IsAnswered k server (Hears (address from.0) (reading_of payload) None k.moment) a → (s : State) → IsAt k s → Some a ≡ answer_at (setups_of k) s (Inject server from payload)
inject_answers k server from payload a is s at =
    ap Some (is s.machines at.machines ∙ ap (λ m. answered (setups_of k) s.machines server (Hears (address from.0) (reading_of payload) None m)) at.moment)

pub inject_refused : {A H : Type 0} (k : Kept H) (server : Bool) (from : Addr) (payload : List ℕ) (r : Result A EventFault) → ((w : Machines) → Stands k w → RefusedAs r (inject_refusal (setups_of k) w (address from.0))) → (s : State) → IsAt k s → RefusedAs r (refusal (setups_of k) s (Inject server from payload))
inject_refused k server from payload r refused s at = refused s.machines at.machines

-- an answer that is given as one that there is

pub both_ok : {A E P Q R : Type 0} (r : Result A E) → (P → Q → R) → OnOk r P → OnOk r Q → OnOk r R
both_ok (Ok a) f p q = f p q
both_ok (Err e) f p q = tt

pub some_ok : {A E : Type 0} (P : Type 0) (r : Result A E) (s : Result (Option A) E) → s ≡ some_of r → OnOk r P → OnOk s P
some_ok P (Ok a) s e p = subst (λ z. OnOk z P) (sym e) p
some_ok P (Err f) s e p = subst (λ z. OnOk z P) (sym e) tt

pub some_if : {A E : Type 0} (P : A → Type 0) (Q : Option A → Type 0) (r : Result A E) (s : Result (Option A) E) → s ≡ some_of r → ((a : A) → P a → Q (Some a)) → IfOk r P → IfOk s Q
some_if P Q (Ok a) s e f p = subst (λ z. IfOk z Q) (sym e) (f a p)
some_if P Q (Err x) s e f p = subst (λ z. IfOk z Q) (sym e) tt

pub if_so : {A E : Type 0} (P Q : A → Type 0) (r : Result A E) → ((a : A) → P a → Q a) → IfOk r P → IfOk r Q
if_so P Q (Ok a) f p = f a p
if_so P Q (Err x) f p = tt

pub some_refused : {A : Type 0} (r : Result A EventFault) (s : Result (Option A) EventFault) (o : Option EventFault) → s ≡ some_of r → RefusedAs r o → RefusedAs s o
some_refused (Ok a) s o e h = subst (λ z. RefusedAs z o) (sym e) h
some_refused {A = A} (Err f) s o e h = same_fault A s o f e h

-- what a call that was told an event says of it, by its kind

abbrev pub Goes : {A H : Type 0} → Kept H → Kept H → Result A EventFault → WorldEvent → Type 0
Goes k new r e = OnOk r ((s : State) → IsAt k s → IsAt new (next (setups_of k) s e))

abbrev pub Answers : {H : Type 0} → Kept H → Result (Option base.Answer) EventFault → WorldEvent → Type 0
Answers k r e = IfOk r (λ a. (s : State) → IsAt k s → a ≡ answer_at (setups_of k) s e)

abbrev pub Refuses : {A H : Type 0} → Kept H → Result A EventFault → WorldEvent → Type 0
Refuses k r e = (s : State) → IsAt k s → RefusedAs r (refusal (setups_of k) s e)

pub goes_so : {A H : Type 0} (k new : Kept H) (r : Result A EventFault) (e known : WorldEvent) → e ≡ known → Goes k new r known → Goes k new r e
goes_so k new r e known is h = subst (λ (z : WorldEvent). Goes k new r z) (sym is) h

pub answers_so : {H : Type 0} (k : Kept H) (r : Result (Option base.Answer) EventFault) (e known : WorldEvent) → e ≡ known → Answers k r known → Answers k r e
answers_so k r e known is h = subst (λ (z : WorldEvent). Answers k r z) (sym is) h

pub refuses_so : {A H : Type 0} (k : Kept H) (r : Result A EventFault) (e known : WorldEvent) → e ≡ known → Refuses k r known → Refuses k r e
refuses_so k r e known is h = subst (λ (z : WorldEvent). Refuses k r z) (sym is) h
