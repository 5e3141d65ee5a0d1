-- A RUN that belongs to the circuit, in the parts in which it is heard.
use Rattle.std.specs.Prelude.{◌≡◌, ℕ, Bool, true, cond, ◌||◌, List, [], ◌∷◌, length, Option, Some, None, Result, Ok, Err}
use Rattle.lat_base.specs.declared.heard.Heard.{Heard as OwnHeard}
use Rattle.lat_model.specs.numbers.Link.{is_unsent, is_next, take_message}
use Rattle.lat_model.specs.numbers.Near.{near}
use Rattle.lat_model.specs.sessions.Slots.{Slot}
use Rattle.lat_model.specs.sessions.Hearing.{HeardAll, hear_all}
use Rattle.lat_model.specs.ends.End.{End, Step, still, finish, occasion}
use Rattle.lat_model.specs.ends.Run.{ack_end}
use Rattle.lat_model.specs.ends.Timers.{living}
use Rattle.lat_machines.specs.values.Messages.{Head}
use Rattle.lat_machines.specs.values.Timing.{half_range}
use Rattle.lat_machines.specs.values.Answers.{Heard, Taken, Again, AckOnly, Broke}
use Rattle.lat_frames.specs.Reasons.{end_bits}
use Rattle.lat_frames.specs.declared.reason.CircuitEnd.TheVariants as reasons
use Rattle.lat_circuit.specs.Kept.{Kept}
use Rattle.lat_circuit.specs.Stands.{Stands}
use Rattle.lat_circuit.specs.Hears.{HeardStep, heard_shown}

-- what the fields of a RUN say to the end
abbrev pub number_heard : ℕ → End → ℕ
number_heard seq e = near seq (length e.half.link.came) (half_range e.wide)

abbrev pub ack_heard : ℕ → End → ℕ
ack_heard ack e = near ack e.half.link.known (half_range e.wide)

-- what the end is after a RUN, and its answer; None where the RUN breaks the circuit
pub record Applied : Type 0 where
  pub end : End
  pub answer : Option Heard

abbrev pub apply_slots : List Slot → End → Applied
apply_slots slots e =
    let h : HeardAll = hear_all slots e.half.sessions in
    cond h.good
    (record {
      end = record e { half = record { link = take_message e.half.link slots; sessions = h.after }; owed = true };
      answer = Some (Taken (length slots));
    })
    (record { end = record e { half = record (e.half) { sessions = h.after } }; answer = None })

abbrev pub apply_body : (number : ℕ) → Bool → List Slot → End → Applied
apply_body n ask [] e = record { end = record e { owed = e.owed || ask }; answer = Some AckOnly }
apply_body n ask (x ∷ xs) e =
    cond (is_next e.half.link n) (apply_slots (x ∷ xs) e) (record { end = record e { owed = true }; answer = Some Again })

-- its acknowledgement, and then its message
abbrev pub apply : Head → List Slot → End → Applied
apply h slots e =
    cond (is_unsent e.half.link (ack_heard h.ack e))
    (record { end = e; answer = None })
    (apply_body (number_heard h.seq e) h.ask slots (ack_end (ack_heard h.ack e) e))

-- the occasion that a slave has at each RUN
abbrev pub slave_occasion : End → Step
slave_occasion e = living (λ d. cond d.master (still d) (occasion d)) e

abbrev pub applied_step : Applied → HeardStep
applied_step a =
    elim a.answer [
      | None ↦ record { step = finish (end_bits reasons.Broken) a.end; answer = Broke (end_bits reasons.Broken) }
      | Some answer ↦ record { step = slave_occasion a.end; answer = answer }
    ]

abbrev pub some_answer : {E : Type 0} → Result OwnHeard E → Option Heard
some_answer (Ok answer) = Some (heard_shown answer)
some_answer (Err e) = None

-- the circuit applied this to every end that it stood for, and answered so
abbrev pub Applies : {E : Type 0} → (End → Applied) → Result OwnHeard E → (old new : Kept) → Type 0
Applies f result old new = (e : End) → Stands old e → Stands new (f e).end × (some_answer result ≡ (f e).answer)

-- the end lives and runs as before
pub record GoesOn (old new : Kept) : Type 0 where
  pub running : new.running ≡ old.running
  pub ended : new.ended ≡ old.ended
