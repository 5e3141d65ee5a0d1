-- The line sessions of a core, and what each line shows.
use Rattle.std.specs.Prelude.{ℕ, ◌-◌, Bool, not, cond, ◌&&◌, ◌||◌, List, [], ◌∷◌, length, min, nat_eq, nat_lt, nat_le, filter}
use Rattle.lat_model.specs.sessions.Slots.{items}
use Rattle.lat_model.specs.sessions.Session.{Session, free, state, SessionState, Free, take_open}
use Rattle.lat_model.specs.sessions.Sessions.{Sessions}
use Rattle.lat_model.specs.ends.End.{End, lives}
use Rattle.lat_machines.specs.cores.Cores.{Seat, no_seat, Core, Side}

abbrev pub end_of : Core → Seat → End
end_of c s = (c.circuits.circuit_at s.circuit).end

abbrev pub sessions_of : Core → Seat → Sessions
sessions_of c s = (end_of c s).half.sessions

abbrev pub session_of : Core → Seat → Session
session_of c s = (sessions_of c s).session s.serial

-- it has become free, in any way
abbrev pub over : Core → Seat → Bool
over c s = not (lives (end_of c s)) || free (session_of c s)

abbrev pub last_on : ℕ → Seat → List Seat → Seat
last_on line s [] = s
last_on line s (x ∷ xs) = last_on line (cond (nat_eq x.line line) x s) xs

-- the present or last one of a line; `no_seat`, which is over, where it had none
abbrev pub seat_at : Core → ℕ → Seat
seat_at c line = last_on line no_seat c.seats

-- it has a session
abbrev pub has_session : Core → ℕ → Bool
has_session c line = not (over c (seat_at c line))

-- it had a session, present or past
abbrev pub had_session : Core → ℕ → Bool
had_session c line = nat_eq (seat_at c line).line line

-- the address of the peer of its present or last session
abbrev pub peer_address : Core → ℕ → ℕ
peer_address c line = (c.circuits.circuit_at (seat_at c line).circuit).address

-- how many lines are held
abbrev pub used : Core → ℕ
used c = length (filter (λ s. not (over c s)) c.seats)

-- how many line sessions have become free
abbrev pub ended : Core → ℕ
ended c = length (filter (over c) c.seats)

-- a count as it is told: it stops at the greatest number of 32 bits
abbrev pub saturated_count : ℕ → ℕ
saturated_count n = min 4294967295 n

abbrev pub line_exists : ℕ → ℕ → Bool
line_exists lines line = nat_lt 0 line && nat_le line lines

abbrev pub line_state : Side → Core → ℕ → SessionState
line_state k c line = cond (has_session c line) (state k.server (session_of c (seat_at c line))) Free

-- the items that a Take could give now
abbrev pub waiting_at : Core → ℕ → ℕ
waiting_at c line =
    let s : Session = session_of c (seat_at c line) in
    cond (has_session c line && take_open s) (length (items s.came) - s.taken) 0
