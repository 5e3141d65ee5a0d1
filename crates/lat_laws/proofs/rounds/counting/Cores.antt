-- What holds of a core behind time and behind calls on a line.
use Rattle.std.proofs.Common.{ℕ, refl, Bool, true, false, cond, List, [], ◌∷◌, length, nat_lt}
use Rattle.lat_model.specs.sessions.Session.{put_open, take_open, unframed}
use Rattle.lat_model.specs.sessions.Sessions.{Sessions}
use Rattle.lat_model.specs.sessions.Calls.{Call, Put, Set, Attend, Take, Close}
use Rattle.lat_machines.specs.values.Answers.{Done, NoLine, Closed, Full}
use Rattle.lat_machines.specs.values.Events.{Event, Puts, Sets, Takes, Attends, Closes}
use Rattle.lat_machines.specs.cores.Acts.{local_at, time_at, end_at}
use Rattle.lat_machines.specs.cores.Cores.{Seat, Core, Side, Doing, then_doing, time_each, acts, end_each}
use Rattle.lat_machines.specs.cores.Lines.{session_of, seat_at, has_session, line_exists}
use Rattle.lat_machines.specs.cores.LineCalls.{Said, says, calls_on, put_on, set_on, attend_on, take_on, close_on, on_line}
use Rattle.lat_laws.proofs.rounds.counting.Tables.{Holds, time_turned, local_turned, end_turned}

-- the calls of an event
abbrev pub EventAllows : (Call → Type 0) → Event → Type 0
EventAllows A (Puts line bytes) = (id : ℕ) → A (Put id bytes)
EventAllows A (Sets line setting) = (id : ℕ) → A (Set id setting)
EventAllows A (Takes line n) = (id : ℕ) → A (Take id n)
EventAllows A (Attends line flag) = (id : ℕ) → A (Attend id flag)
EventAllows A (Closes line) = (id : ℕ) → A (Close id)
EventAllows A _ = Unit {0}

module _ (n : ℕ → Bool) (side : Bool) (R : ℕ → Sessions → Sessions → Type 0) (A : Call → Type 0) (P : Core → Type 0) (h : Holds n side R A P) where
  pub times_hold : (k : Side) (xs : List ℕ) (d : Doing) → P d.core → P (time_each k xs d).core
  times_hold k [] d p = p
  times_hold k (x ∷ xs) d p = times_hold k xs (then_doing d (λ c. acts k c (time_at k.server c.circuits x c.moment))) (h.turns d.core (acts k d.core (time_at k.server d.core.circuits x d.core.moment)).core p refl (time_turned n side R h.kept k.server d.core.circuits x d.core.moment))

  pub ends_hold : (k : Side) (r : ℕ) (xs : List ℕ) (d : Doing) → P d.core → P (end_each k r xs d).core
  ends_hold k r [] d p = p
  ends_hold k r (x ∷ xs) d p = ends_hold k r xs (then_doing d (λ c. acts k c (end_at k.server c.circuits x r))) (h.turns d.core (acts k d.core (end_at k.server d.core.circuits x r)).core p refl (end_turned n side R h.kept k.server d.core.circuits x r))

  said_cond : (b : Bool) (s t : Said) → P s.core → P t.core → P (cond b s t).core
  said_cond true s t p q = p
  said_cond false s t p q = q

  pub local_holds : (k : Side) (c : Core) (x : ℕ) (y : Call) → A y → P c → P (acts k c (local_at k.server c.circuits x y)).core
  local_holds k c x y a p = h.turns c (acts k c (local_at k.server c.circuits x y)).core p refl (local_turned n side R h.kept k.server c.circuits x y (h.calls x (c.circuits.circuit_at x).end.half.sessions y a))

  pub line_holds : (lines : ℕ) (c : Core) (line : ℕ) (f : Seat → Said) → P c → ((s : Seat) → P (f s).core) → P (on_line lines c line f).core
  line_holds lines c line f p q = said_cond (line_exists lines line) (cond (has_session c line) (f (seat_at c line)) (says c Closed)) (says c NoLine) (said_cond (has_session c line) (f (seat_at c line)) (says c Closed) (q (seat_at c line)) p) p

  pub put_holds : (k : Side) (c : Core) (s : Seat) (bytes : List ℕ) → ((id : ℕ) → A (Put id bytes)) → P c → P (put_on k c s bytes).core
  put_holds k c s bytes a p = said_cond (put_open (session_of c s)) (says (calls_on k c s (Put s.id bytes)) _) (says c Closed) (local_holds k c s.circuit (Put s.id bytes) (a s.id) p) p

  pub set_holds : (k : Side) (c : Core) (s : Seat) (setting : List ℕ) → ((id : ℕ) → A (Set id setting)) → P c → P (set_on k c s setting).core
  set_holds k c s setting a p = said_cond (put_open (session_of c s)) (cond (nat_lt (length (unframed (session_of c s))) 4096) (says (calls_on k c s (Set s.id setting)) Done) (says c Full)) (says c Closed) (said_cond (nat_lt (length (unframed (session_of c s))) 4096) (says (calls_on k c s (Set s.id setting)) Done) (says c Full) (local_holds k c s.circuit (Set s.id setting) (a s.id) p) p) p

  pub attend_holds : (k : Side) (c : Core) (s : Seat) (flag : ℕ) → ((id : ℕ) → A (Attend id flag)) → P c → P (attend_on k c s flag).core
  attend_holds k c s flag a p = said_cond (put_open (session_of c s)) (says (calls_on k c s (Attend s.id flag)) Done) (says c Closed) (local_holds k c s.circuit (Attend s.id flag) (a s.id) p) p

  pub take_holds : (k : Side) (c : Core) (s : Seat) (m : ℕ) → ((id : ℕ) → A (Take id m)) → P c → P (take_on k c s m).core
  take_holds k c s m a p = said_cond (take_open (session_of c s)) (says (calls_on k c s (Take s.id m)) _) (says c Closed) (local_holds k c s.circuit (Take s.id m) (a s.id) p) p

  pub close_holds : (k : Side) (c : Core) (s : Seat) → ((id : ℕ) → A (Close id)) → P c → P (close_on k c s).core
  close_holds k c s a p = said_cond (take_open (session_of c s)) (says (calls_on k c s (Close s.id)) Done) (says c Closed) (local_holds k c s.circuit (Close s.id) (a s.id) p) p
