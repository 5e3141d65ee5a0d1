-- What an end does at a RUN that names its circuit. One without slots is no message.
use Rattle.std.specs.Prelude.{ℕ, Bool, true, cond, ◌||◌, List, [], ◌∷◌, length, Option, Some, None, nat_lt}
use Rattle.lat_model.specs.sessions.Slots.{Slot}
use Rattle.lat_model.specs.sessions.Sessions.{Sessions}
use Rattle.lat_model.specs.sessions.Hearing.{HeardAll, hear_all}
use Rattle.lat_model.specs.numbers.Link.{Frame, is_unsent, ack_in, is_next, take_message}
use Rattle.lat_model.specs.ends.End.{End, Step, still, then_do, finish, occasion}
use Rattle.lat_model.specs.ends.Timers.{living}
use Rattle.lat_model.specs.Reasons as reasons

-- what an end answers to a RUN of its circuit: a message taken, with the number of its slots; another message; no
-- message; or the circuit broke
pub data RunAnswer : Type 0 where
  RunTaken : ℕ → RunAnswer
  RunRepeated : RunAnswer
  RunAckOnly : RunAnswer
  RunBroke : RunAnswer

pub record RunStep : Type 0 where
  pub step : Step
  pub answer : RunAnswer

-- a new acknowledgement is progress: the rounds begin anew
abbrev pub ack_end : ℕ → End → End
ack_end a e =
    cond (nat_lt e.half.link.known a)
    (record e { half = record (e.half) { link = ack_in e.half.link a }; rounds = 0; since = e.moment })
    (record e { half = record (e.half) { link = ack_in e.half.link a } })

-- a message is taken, and an acknowledgement owed
abbrev pub taken_end : List Slot → Sessions → End → RunStep
taken_end slots after e = record {
  step = still (record e { half = record { link = take_message e.half.link slots; sessions = after }; owed = true });
  answer = RunTaken (length slots);
}

-- a bad slot breaks the circuit; the slots before it stay applied, and the message isn't taken
abbrev pub broken_end : Sessions → End → RunStep
broken_end after e = record { step = finish reasons.broken (record e { half = record (e.half) { sessions = after } }); answer = RunBroke }

abbrev pub take_end : List Slot → End → RunStep
take_end slots e =
    let h : HeardAll = hear_all slots e.half.sessions in
    cond h.good (taken_end slots h.after e) (broken_end h.after e)

-- the message is taken where its number is the next one
abbrev pub body_end : ℕ → Bool → Option (List Slot) → End → RunStep
body_end n ask None e = record { step = still (record e { owed = e.owed || ask }); answer = RunAckOnly }
body_end n ask (Some []) e = record { step = still (record e { owed = e.owed || ask }); answer = RunAckOnly }
body_end n ask (Some (x ∷ xs)) e =
    cond (is_next e.half.link n)
    (take_end (x ∷ xs) e)
    (record { step = still (record e { owed = true }); answer = RunRepeated })

-- the slave forms at each RUN that it hears
abbrev pub after_run : RunStep → RunStep
after_run r = record { step = then_do r.step (living (λ e. cond e.master (still e) (occasion e))); answer = r.answer }

-- a RUN is heard: first its acknowledgement, then its message, then what the slave forms
abbrev pub run_end : ℕ → Bool → Frame (List Slot) → End → RunStep
run_end now ask f e =
    let d : End = record e { moment = now; heard_at = now; heard_run = true } in
    cond (is_unsent d.half.link f.acknowledgement)
    (record { step = finish reasons.broken d; answer = RunBroke })
    (after_run (body_end f.number ask f.body (ack_end f.acknowledgement d)))
