-- Local calls on a line.
use Rattle.std.specs.Prelude.{ℕ, cond, List, length, nat_lt}
use Rattle.lat_model.specs.sessions.Session.{put_open, take_open, unframed}
use Rattle.lat_model.specs.sessions.Calls.{Call, Put, Set, Attend, Take, Close, put_count, took}
use Rattle.lat_machines.specs.values.Answers.{Answer, Done, Accepted, Took, NoLine, Closed, Full}
use Rattle.lat_machines.specs.cores.Acts.{local_at}
use Rattle.lat_machines.specs.cores.Cores.{Seat, Core, Side, acts}
use Rattle.lat_machines.specs.cores.Lines.{sessions_of, session_of, seat_at, has_session, line_exists}

pub record Said : Type 0 where
  pub core : Core
  pub answer : Answer

abbrev pub says : Core → Answer → Said
says c a = record { core = c; answer = a }

abbrev pub calls_on : Side → Core → Seat → Call → Core
calls_on k c s x = (acts k c (local_at k.server c.circuits s.circuit x)).core

abbrev pub put_on : Side → Core → Seat → List ℕ → Said
put_on k c s bytes =
    cond (put_open (session_of c s))
    (says (calls_on k c s (Put s.id bytes)) (Accepted (put_count (session_of c s) (length bytes))))
    (says c Closed)

abbrev pub set_on : Side → Core → Seat → List ℕ → Said
set_on k c s setting =
    cond (put_open (session_of c s))
    (cond (nat_lt (length (unframed (session_of c s))) 4096) (says (calls_on k c s (Set s.id setting)) Done) (says c Full))
    (says c Closed)

abbrev pub attend_on : Side → Core → Seat → ℕ → Said
attend_on k c s flag = cond (put_open (session_of c s)) (says (calls_on k c s (Attend s.id flag)) Done) (says c Closed)

abbrev pub take_on : Side → Core → Seat → ℕ → Said
take_on k c s n =
    cond (take_open (session_of c s))
    (says (calls_on k c s (Take s.id n)) (Took (took (sessions_of c s) s.id n)))
    (says c Closed)

abbrev pub close_on : Side → Core → Seat → Said
close_on k c s = cond (take_open (session_of c s)) (says (calls_on k c s (Close s.id)) Done) (says c Closed)

abbrev pub on_line : ℕ → Core → ℕ → (Seat → Said) → Said
on_line lines c line f =
    cond (line_exists lines line)
    (cond (has_session c line) (f (seat_at c line)) (says c Closed))
    (says c NoLine)
