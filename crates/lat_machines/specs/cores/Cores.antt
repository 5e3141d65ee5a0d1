-- What the two cores share: their moment, their circuits, and the line sessions that they ever had.
use Rattle.std.specs.Prelude.{ℕ, Bool, true, false, cond, ◌&&◌, List, [], ◌∷◌, ◌++◌, map, max, Option, Some, None, nat_eq, not}
use Rattle.lat_machines.specs.cores.Hearing.{names}
use Rattle.lat_model.specs.circuits.Events.{stray_stop}
use Rattle.lat_model.specs.Lists.{least}
use Rattle.lat_model.specs.ends.End.{Sent, Run, CallStart, ReplyStart, Stopped, lives}
use Rattle.lat_model.specs.ends.Starting.{Setup}
use Rattle.lat_model.specs.circuits.World.{Table, Wired, no_circuit}
use Rattle.lat_model.specs.circuits.Ids.{ids}
use Rattle.lat_machines.specs.values.Names.{Name}
use Rattle.lat_machines.specs.values.Timing.{Timing, call_info, reply_info}
use Rattle.lat_machines.specs.values.Frames.{OfCircuit, OfRun, OutFrame, plain}
use Rattle.lat_machines.specs.values.Messages.{StartMessage, StopMessage, Head}
use Rattle.lat_machines.specs.values.Runs.{run_message}
use Rattle.lat_machines.specs.values.Keys.{Key}
use Rattle.lat_machines.specs.cores.Acts.{Acted, time_at, end_at}
use Rattle.lat_model.specs.Reasons as reasons

-- A line session. Its session is found by circuit and serial number, and for a call by circuit and id
pub record Seat : Type 0 where
  pub line : ℕ
  pub circuit : ℕ
  pub id : ℕ
  pub serial : ℕ
  pub key : Option Key  -- of the request that it was granted for

abbrev pub no_seat : Seat
no_seat = record { line = 0; circuit = 0; id = 0; serial = 0; key = None }

pub record Core : Type 0 where
  pub moment : ℕ  -- that of its last time or heard frame
  pub circuits : Table
  pub names : ℕ → Name  -- the peer's name as the STARTs of a circuit state it
  pub seats : List Seat  -- in the order of connecting, or accepting; the k-th has the number k

-- what a core needs to know of itself for its circuits
pub record Side : Type 0 where
  pub server : Bool
  pub timing : Timing
  pub name : Name

abbrev pub setup_of : Timing → Setup
setup_of t = record {
  timer = t.timer;
  keepalive = t.keepalive;
  sessions = t.sessions;
  extra = t.extra;
  ceiling = t.ceiling;
}

-- with its address, and the id of its first circuit
abbrev pub open_core : Side → ℕ → ℕ → Core
open_core k own first = record {
  moment = 0;
  circuits = record { own = own; first = first; drawn = 0; circuit_at = λ i. no_circuit k.server (setup_of k.timing) };
  names = λ i. [];
  seats = [];
}

abbrev pub sent_frame : Side → Core → Wired → OutFrame
sent_frame k c w = go w.sent
  where
    go : Sent → OutFrame
    go (Run m ask f) = record {
      to = w.to;
      circuit = w.circuit;
      mark = OfRun m;
      number = f.number;
      acknowledgement = f.acknowledgement;
      value = OfCircuit (run_message w.by_server (c.circuits.circuit_at w.circuit).end.wide ask w.destination w.source f);
    }
    go CallStart =
        plain w.to w.circuit
        (OfCircuit (StartMessage true false w.destination w.source (call_info k.timing k.name (c.names w.circuit))))
    go ReplyStart =
        plain w.to w.circuit
        (OfCircuit (StartMessage false false w.destination w.source
        (reply_info k.timing (c.circuits.circuit_at w.circuit).end.wide k.name (c.names w.circuit))))
    go (Stopped r) = plain w.to w.circuit (OfCircuit (StopMessage w.by_server false w.destination w.source r []))

-- a core with the frames that it made so far in this event
pub record Doing : Type 0 where
  pub core : Core
  pub frames : List OutFrame

abbrev pub rests : Core → Doing
rests c = record { core = c; frames = [] }

abbrev pub then_doing : Doing → (Core → Doing) → Doing
then_doing d f = record { core = (f d.core).core; frames = d.frames ++ (f d.core).frames }

abbrev pub with_circuits : Core → Table → Core
with_circuits c t = record c { circuits = t }

abbrev pub acts : Side → Core → Acted → Doing
acts k c x = record { core = with_circuits c x.table; frames = map (sent_frame k (with_circuits c x.table)) x.sent }

-- a moment below the last counts as the last
abbrev pub at_moment : ℕ → Core → Core
at_moment now c = record c { moment = max c.moment now }

-- each living circuit's time, by rising id
abbrev pub time_each : Side → List ℕ → Doing → Doing
time_each k [] d = d
time_each k (x ∷ xs) d = time_each k xs (then_doing d (λ c. acts k c (time_at k.server c.circuits x c.moment)))

abbrev pub passes_time : Side → Core → Doing
passes_time k c = time_each k (ids c.circuits) (rests c)

-- this end ends each living circuit, by rising id
abbrev pub end_each : Side → ℕ → List ℕ → Doing → Doing
end_each k r [] d = d
end_each k r (x ∷ xs) d = end_each k r xs (then_doing d (λ c. acts k c (end_at k.server c.circuits x r)))

abbrev pub ends_all : Side → ℕ → Core → Doing
ends_all k r c = end_each k r (ids c.circuits) (rests c)

-- a RUN names no living circuit by the address and both ids, neither of which is 0
abbrev pub is_stranger : Table → ℕ → Head → Bool
is_stranger t from h = not (names t from h.to h.from) && not (nat_eq h.to 0) && not (nat_eq h.from 0)

-- a prompt end tells him so
abbrev pub told_stranger : Side → Bool → Core → ℕ → Head → List OutFrame
told_stranger k prompt c from h =
    cond (prompt && is_stranger c.circuits from h)
    (map (sent_frame k c) (stray_stop k.server from h.from h.to reasons.no_circuit ∷ []))
    []

-- the circuit to an address: there is at most one that lives; 0 where none does
abbrev pub circuit_to : Core → ℕ → ℕ
circuit_to c address =
    least (λ i. nat_eq (c.circuits.circuit_at i).address address && lives (c.circuits.circuit_at i).end) (ids c.circuits)

-- whether the numbers of a living circuit have two bytes on the wire; None where no such circuit lives
abbrev pub span : Core → ℕ → Option Bool
span c x = cond (lives (c.circuits.circuit_at x).end) (Some (c.circuits.circuit_at x).end.wide) None
