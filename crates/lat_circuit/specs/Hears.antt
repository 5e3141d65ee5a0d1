-- What an end does at a circuit message from its peer's address.
use Rattle.std.specs.Prelude.{◌≡◌, ◌≤◌, ℕ, Bool, true, false, not, cond, ◌&&◌, ◌||◌, List, ◌++◌, map, None, nat_eq}
use Rattle.lat_base.specs.declared.heard.Heard.{Heard as OwnHeard}
use Rattle.lat_base.specs.declared.heard.Heard.TheVariants as answers
use Rattle.lat_base.specs.declared.outbox.OutFrame.{OutFrame}
use Rattle.lat_model.specs.sessions.Slots.{Slot}
use Rattle.lat_model.specs.ends.End.{End, Step, still}
use Rattle.lat_model.specs.ends.Run.{run_end}
use Rattle.lat_model.specs.ends.Starting.{again_start, hear_reply, hear_stop}
use Rattle.lat_model.specs.ends.Timers.{note_empty}
use Rattle.lat_machines.specs.values.Messages.{Head, StartInfo, Message, RunMessage, WideMessage, StartMessage, StopMessage}
use Rattle.lat_machines.specs.values.Timing.{Timing, agreed_by}
use Rattle.lat_machines.specs.values.Answers.{Heard, Running, Taken, Again, AckOnly, Foreign, Broke, Ended}
use Rattle.lat_machines.specs.cores.Hearing.{answer_of, fits_kind, numbers_at, run_frame}
use Rattle.lat_session.specs.Table.{SameEnd}
use Rattle.lat_frames.specs.declared.message.Message.{Message as ReadMessage}
use Rattle.lat_frames.specs.declared.message.StartInfo.{StartInfo as ReadInfo}
use Rattle.lat_circuit.specs.Kept.{Facts, Kept}
use Rattle.lat_circuit.specs.Frames.{timing_shown, frame_sent, AreFormed}
use Rattle.lat_circuit.specs.Messages.{info_shown, message_shown}
use Rattle.lat_circuit.specs.Stands.{Stands}

pub record HeardStep : Type 0 where
  pub step : Step
  pub answer : Heard

-- it names no circuit here
abbrev pub foreign : End → HeardStep
foreign e = record { step = still e; answer = Foreign }

-- A RUN that names the circuit. One of another kind, or with the wrong master bit, moves the moment alone
abbrev pub hears_named : ℕ → Bool → Head → List Slot → End → HeardStep
hears_named now wide h slots e =
    cond (fits_kind e h.master wide)
    (record {
      step = (run_end now h.ask (run_frame (numbers_at e h None) slots) e).step;
      answer = answer_of (run_end now h.ask (run_frame (numbers_at e h None) slots) e).answer;
    })
    (record { step = still (record e { moment = now }); answer = Foreign })

abbrev pub hears_run : ℕ → ℕ → Bool → Head → List Slot → End → HeardStep
hears_run own now wide h slots e =
    cond (nat_eq h.to own && (nat_eq h.from e.peer && e.running)) (hears_named now wide h slots e) (foreign e)

-- the START of a slave's master comes again
abbrev pub hears_start : ℕ → ℕ → End → HeardStep
hears_start source now e =
    cond (not e.master && nat_eq e.peer source) (record { step = again_start now e; answer = Again }) (foreign e)

-- the reply to a master's START
abbrev pub hears_reply : ℕ → ℕ → Timing → (to source : ℕ) → StartInfo → End → HeardStep
hears_reply own now timing to source info e =
    cond (e.master && (nat_eq to own && (not e.running || nat_eq e.peer source)))
    (record { step = hear_reply now source (agreed_by timing info) e; answer = cond e.running Again Running })
    (foreign e)

-- a STOP has the peer's id as its source, or 0
abbrev pub hears_stop : ℕ → ℕ → (to source reason : ℕ) → End → HeardStep
hears_stop own now to source reason e =
    cond (nat_eq to own && (nat_eq e.peer source || nat_eq source 0))
    (record { step = hear_stop now reason e; answer = Ended reason })
    (foreign e)

abbrev pub hears : ℕ → Timing → ℕ → Message → End → HeardStep
hears own timing now (RunMessage h slots) e = hears_run own now false h slots e
hears own timing now (WideMessage h slots) e = hears_run own now true h slots e
hears own timing now (StartMessage true ask to source info) e = hears_start source now e
hears own timing now (StartMessage false ask to source info) e = hears_reply own now timing to source info e
hears own timing now (StopMessage master ask to source reason text) e = hears_stop own now to source reason e

-- whether the last session became free in the step is noted
abbrev pub hears_noted : ℕ → Timing → ℕ → Message → End → Step
hears_noted own timing now m e = note_empty e (hears own timing now m e).step

-- what an end of these facts does at a message that was read
abbrev pub heard_by : Facts → ℕ → ReadMessage → End → HeardStep
heard_by k now m = hears k.id (timing_shown k.config.timing) now (message_shown m)

abbrev pub noted_by : Facts → ℕ → ReadMessage → End → Step
noted_by k now m = hears_noted k.id (timing_shown k.config.timing) now (message_shown m)

abbrev pub reply_by : Facts → ℕ → (to source : ℕ) → ReadInfo → End → HeardStep
reply_by k now to source info = hears_reply k.id now (timing_shown k.config.timing) to source (info_shown info)

-- an answer, as the machines know it, and back
abbrev pub heard_shown : OwnHeard → Heard
heard_shown answers.Running = Running
heard_shown (answers.Taken slots) = Taken slots
heard_shown answers.Again = Again
heard_shown answers.AckOnly = AckOnly
heard_shown answers.Foreign = Foreign
heard_shown (answers.Broke reason) = Broke reason
heard_shown (answers.Ended reason) = Ended reason

abbrev pub heard_of : Heard → OwnHeard
heard_of Running = answers.Running
heard_of (Taken slots) = answers.Taken slots
heard_of Again = answers.Again
heard_of AckOnly = answers.AckOnly
heard_of Foreign = answers.Foreign
heard_of (Broke reason) = answers.Broke reason
heard_of (Ended reason) = answers.Ended reason

-- the circuit did this step of every end that it stood for, the frames went out in order, each of them formed, and it
-- answered so
abbrev pub SimulatesHearing : (End → HeardStep) → OwnHeard → (old new : Kept) → (before after : List OutFrame) → Type 0
SimulatesHearing step answer old new before after =
    (e : End) →
    Stands old e →
    Stands new (step e).step.end
    × (after ≡ before ++ map (frame_sent new.facts) (step e).step.sent)
    × (heard_shown answer ≡ (step e).answer)
    × AreFormed new.facts (step e).step.sent

-- what a circuit keeps at each message, given this moment
pub record Remains (now : ℕ) (old new : Kept) : Type 0 where
  pub config : new.facts.config ≡ old.facts.config
  pub id : new.facts.id ≡ old.facts.id
  pub master : new.facts.master ≡ old.facts.master
  pub sessions : SameEnd old.sessions new.sessions
  pub moment : new.moments.now ≤ now
