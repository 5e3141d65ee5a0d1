-- What a table of circuits does at a circuit message.
use Rattle.std.specs.Prelude.{ℕ, suc, Bool, true, false, not, cond, ◌&&◌, ◌||◌, List, [], ◌∷◌, length, Option, Some, None, nat_eq, nat_lt, ◌+◌, ◌-◌, ◌%◌, nat_le}
use Rattle.lat_model.specs.sessions.Slots.{Slot}
use Rattle.lat_model.specs.Lists.{is_empty}
use Rattle.lat_model.specs.numbers.Link.{Frame}
use Rattle.lat_model.specs.numbers.Near.{near}
use Rattle.lat_model.specs.ends.End.{Stopped, End, lives, lapse}
use Rattle.lat_model.specs.ends.Run.{RunAnswer, RunTaken, RunRepeated, RunAckOnly, RunBroke, run_end}
use Rattle.lat_model.specs.ends.Starting.{Agreed, Setup, make_slave, again_start, hear_reply, hear_stop}
use Rattle.lat_model.specs.circuits.World.{CircuitEntry, Table, first_end}
use Rattle.lat_model.specs.circuits.Ids.{next_id}
use Rattle.lat_model.specs.circuits.Arriving.{is_of, living, slave_of}
use Rattle.lat_machines.specs.values.Messages.{Head}
use Rattle.lat_machines.specs.values.Timing.{half_range}
use Rattle.lat_machines.specs.values.Events.{Numbers}
use Rattle.lat_machines.specs.values.Answers.{Heard, Running, Taken, Again, AckOnly, Foreign, Broke, Ended}
use Rattle.lat_machines.specs.cores.Acts.{Acted, idle, put_at, steps_at, move_at}
use Rattle.lat_model.specs.Reasons as reasons

pub record HeardAct : Type 0 where
  pub act : Acted
  pub answer : Heard

abbrev pub foreign : Table → HeardAct
foreign t = record { act = idle t; answer = Foreign }

abbrev pub answer_of : RunAnswer → Heard
answer_of (RunTaken n) = Taken n
answer_of RunRepeated = Again
answer_of RunAckOnly = AckOnly
answer_of RunBroke = Broke reasons.broken

-- a living circuit whose reply was heard, with this address and these ids
abbrev pub names : Table → ℕ → ℕ → ℕ → Bool
names t from to source =
    is_of (t.circuit_at to) from source && lives (t.circuit_at to).end && (t.circuit_at to).end.running

-- the master bit is the peer's, and the kind of RUN is the circuit's
abbrev pub fits_kind : End → Bool → Bool → Bool
fits_kind e bit wide = cond bit (not e.master) e.master && cond wide e.wide (not e.wide)

-- the numbers of a RUN: its own, or what its fields say to this end
abbrev pub numbers_at : End → Head → Option Numbers → Numbers
numbers_at e h None = record {
  number = near h.seq (length_came e) (half_range e.wide);
  acknowledgement = near h.ack e.half.link.known (half_range e.wide);
}
  where
    length_came : End → ℕ
    length_came e = length e.half.link.came
numbers_at e h (Some k) = k

abbrev pub run_frame : Numbers → List Slot → Frame (List Slot)
run_frame k slots = record {
  number = k.number;
  acknowledgement = k.acknowledgement;
  body = cond (is_empty slots) None (Some slots);
}

abbrev pub run_at : Bool → Table → ℕ → Bool → ℕ → Bool → Frame (List Slot) → HeardAct
run_at b t x fits now ask f =
    cond fits
    (record { act = steps_at b t x (run_end now ask f (t.circuit_at x).end).step; answer = answer_of (run_end now ask f (t.circuit_at x).end).answer })
    (record { act = move_at b t x now; answer = Foreign })

abbrev pub hear_run : Bool → Table → ℕ → Bool → Head → List Slot → Option Numbers → ℕ → HeardAct
hear_run b t from wide h slots k now =
    cond (names t from h.to h.from)
    (run_at b t h.to (fits_kind (t.circuit_at h.to).end h.master wide) now h.ask (run_frame (numbers_at (t.circuit_at h.to).end h k) slots))
    (foreign t)

abbrev pub hear_stop_at : Bool → Table → ℕ → ℕ → ℕ → ℕ → ℕ → HeardAct
hear_stop_at b t from to source now r =
    let c : CircuitEntry = t.circuit_at to in
    cond (nat_eq c.address from && (nat_eq c.end.peer source || nat_eq source 0) && lives c.end)
    (record { act = steps_at b t to (hear_stop now r c.end); answer = Ended r })
    (foreign t)

-- at the server
abbrev pub hear_reply_at : Table → ℕ → ℕ → ℕ → ℕ → Agreed → HeardAct
hear_reply_at t from to source now g =
    let c : CircuitEntry = t.circuit_at to in
    cond (nat_eq c.address from && lives c.end && (not c.end.running || nat_eq c.end.peer source))
    (record { act = steps_at true t to (hear_reply now source g c.end); answer = cond c.end.running Again Running })
    (foreign t)

-- at the node: what becomes of a START
pub data StartFact : Type 0 where
  Repeats : ℕ → StartFact  -- of this living slave
  Makes : ℕ → StartFact
  Refuses : StartFact

abbrev pub start_fact : Table → ℕ → ℕ → StartFact
start_fact t from source =
    cond (nat_eq (slave_of t from source) 0)
    (cond (nat_lt (living t) 8 && nat_lt t.drawn 65535) (Makes (next_id t)) Refuses)
    (Repeats (slave_of t from source))

-- an id that was drawn behind another one, by up to 32,767, counted round 65,535
abbrev pub follows : ℕ → ℕ → Bool
follows old new = nat_lt 0 ((new + 65535 - old) % 65535) && nat_le ((new + 65535 - old) % 65535) 32767

-- a living slave of this address whose master's id is followed by this one
abbrev pub is_outlived : CircuitEntry → ℕ → ℕ → Bool
is_outlived c from source = nat_eq c.address from && follows c.end.peer source && lives c.end

abbrev pub outlive_at : ℕ → ℕ → ℕ → Table → Table
outlive_at from source x t =
    cond (is_outlived (t.circuit_at x) from source) (steps_at false t x (lapse reasons.no_circuit (t.circuit_at x).end)).table t

-- these end, and send nothing
abbrev pub outlive : ℕ → ℕ → List ℕ → Table → Table
outlive from source [] t = t
outlive from source (x ∷ xs) t = outlive from source xs (outlive_at from source x t)

abbrev pub start_at : Setup → Table → ℕ → ℕ → ℕ → Agreed → StartFact → Acted
start_at u t from source now g (Repeats k) = steps_at false t k (again_start now (t.circuit_at k).end)
start_at u t from source now g (Makes k) = put_at false t (suc t.drawn) k from (make_slave now source g (first_end false false u))
start_at u t from source now g Refuses = record {
  table = t;
  sent = record { by_server = false; circuit = 0; to = from; destination = source; source = 0; sent = Stopped reasons.no_resources } ∷ [];
}
