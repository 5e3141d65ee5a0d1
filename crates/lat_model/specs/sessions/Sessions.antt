-- The sessions of one end of a circuit.
use Rattle.std.specs.Prelude.{ℕ, Bool, not, length}
use Rattle.lat_model.specs.sessions.Session.{Session, free}
use Rattle.lat_model.specs.Lists.{upwards, keep, least}

-- All sessions of one end. A session is known by its serial number, from 1 on in the order of making
pub record Sessions : Type 0 where
  pub master : Bool
  pub ceiling : ℕ
  pub agreed : ℕ
  pub served : ℕ  -- the id served last
  pub made : ℕ  -- sessions made so far
  pub session : ℕ → Session  -- by serial; `blank` where none was made
  pub at_id : ℕ → ℕ  -- the serial of the present or last session of an id; 0 for none
  pub generations : ℕ  -- asks so far: formed at the master, heard at the slave
  pub serial_of : ℕ → ℕ  -- the serial of a generation; 0 for none

-- the session of a generation
abbrev pub of_generation : Sessions → ℕ → Session
of_generation e g = e.session (e.serial_of g)

abbrev pub named : Sessions → ℕ → Session
named e id = e.session (e.at_id id)

-- how many of the 64 ids aren't free
abbrev pub held : Sessions → ℕ
held e = length (keep (λ i. not (free (named e i))) (upwards 0 64))

abbrev pub least_free : Sessions → ℕ
least_free e = least (λ i. free (named e i)) (upwards 0 64)
