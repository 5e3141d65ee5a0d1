-- What calls on lines are answered.
use Rattle.std.specs.Prelude.{◌≡◌, ℕ, cond, List, map, Option, Some, None, Result, Ok, Err, find, nat_eq}
use Rattle.std.specs.Option.{ok_or}
use Rattle.lat_base.specs.declared.answer.Answer as base
use Rattle.lat_base.specs.declared.answer.Answer.TheVariants as answers
use Rattle.lat_base.specs.declared.item.Item as base_item
use Rattle.lat_machines.specs.cores.Cores.{Core}
use Rattle.lat_machines.specs.cores.LineCalls.{Said}
use Rattle.lat_machines.specs.cores.Lines.{line_exists}
use Rattle.lat_stream.specs.declared.calls.SessionFault.{SessionFault}
use Rattle.lat_stream.specs.declared.calls.SessionFault.TheVariants as faults
use Rattle.lat_lines.specs.circuits.Info as circuits
use Rattle.lat_lines.specs.declared.seat.Seat.{Seat}
use Rattle.lat_lines.specs.AnswerValues.{answer_shown}
use Rattle.lat_lines.specs.Kept.{Kept}
use Rattle.lat_lines.specs.Stands.{Stands, freed_between}
use Rattle.lat_queue.specs.Histories.{key_shown}

-- it tells neither of bytes that were put nor of items that were taken
abbrev pub IsPlain : base.Answer → Type 0
IsPlain (answers.Put n) = ⊥
IsPlain (answers.Took items) = ⊥
IsPlain a = Unit {0}

-- the call was done and answered so, and the requests whose sessions became free are known
pub record HasAnswered (c : Core) (s : Said) (new : Kept) (answer : base.Answer) : Type 0 where
  pub state : Stands new s.core
  pub answered : answer_shown answer ≡ s.answer
  pub freed : map key_shown new.freed ≡ freed_between c s.core

abbrev pub SimulatesCall : (Core → Said) → (old new : Kept) → base.Answer → Type 0
SimulatesCall call old new answer = (c : Core) → Stands old c → HasAnswered c (call c) new answer

-- the session of a line, or what a call on it is answered
abbrev pub seat_or : Kept → ℕ → Result Seat base.Answer
seat_or k line =
    cond (line_exists k.lines line)
    (ok_or (find (λ (s : Seat). nat_eq s.line line) k.seats) answers.Closed)
    (Err answers.NoLine)

-- what a session says of a call is answered

abbrev pub fault_answer : SessionFault → base.Answer
fault_answer faults.Full = answers.Full
fault_answer faults.Closed = answers.Closed

abbrev pub took_answer : Result ℕ SessionFault → List base_item.Item → base.Answer
took_answer (Ok n) given = answers.Took given
took_answer (Err fault) given = fault_answer fault

-- how many items a take on a line could get
abbrev pub ready_at : Kept → Option Seat → ℕ
ready_at k None = 0
ready_at k (Some s) = circuits.ready k.circuits s.session.circuit s.session.session

abbrev pub ready : Kept → ℕ → ℕ
ready k line = ready_at k (find (λ (s : Seat). nat_eq s.line line) k.seats)
