-- What the table of an end's sessions keeps.
use Rattle.std.specs.Prelude.{◌≡◌, ℕ, zero, suc, Bool, false, not, cond, ◌&&◌, ◌||◌, List, map, length, slice_get, Option, None, Some, nat_eq, nat_lt}
use Rattle.lat_base.specs.declared.state.SessionState.{SessionState}
use Rattle.lat_base.specs.declared.state.SessionState.TheVariants.{Free}
use Rattle.lat_model.specs.Lists.{upwards, keep}
use Rattle.lat_model.specs.sessions.Session.{Session, peer, waits, rejecting}
use Rattle.lat_model.specs.sessions.Sessions.{Sessions, named}
use Rattle.lat_stream.specs.Kept.{Kept, stream_of}
use Rattle.lat_stream.specs.Steps.{can_take}
use Rattle.lat_session.specs.declared.ask.Ask.{Ask}
use Rattle.lat_session.specs.declared.ask.Ask.TheVariants.{Waits, Rejected}
use Rattle.lat_session.specs.States.{held_in}

pub record Table : Type 0 where
  pub master : Bool
  pub agreed : ℕ
  pub ceiling : ℕ
  pub served : ℕ  -- the id served last
  pub sessions : List Kept  -- the present or last session of each id, from 1 on
  pub asks : List Ask  -- those heard that are neither answered nor told their reject, in the order heard

-- what is kept of an id; None of one that no session has
abbrev pub session_at : Table → ℕ → Option Kept
session_at t zero = None
session_at t (suc i) = slice_get t.sessions i

abbrev pub state_in : Option Kept → SessionState
state_in None = Free
state_in (Some k) = k.state

abbrev pub state_at : Table → ℕ → SessionState
state_at t id = state_in (session_at t id)

-- how many items may be taken; 0 where no take is
abbrev pub waiting_in : Option Kept → ℕ
waiting_in None = 0
waiting_in (Some k) = cond (can_take k) (length k.heard) 0

abbrev pub waiting_at : Table → ℕ → ℕ
waiting_at t id = waiting_in (session_at t id)

-- fewer sessions are held than were agreed
abbrev pub has_room : Table → Bool
has_room t = nat_lt (held_in t.sessions) t.agreed

-- the same side, ceiling and number of ids
abbrev pub SameEnd : (old new : Table) → Type 0
SameEnd old new = (length new.sessions ≡ length old.sessions) × (new.master ≡ old.master) × (new.ceiling ≡ old.ceiling)

-- the ask of a slave's session is neither answered nor told its reject
abbrev pub ask_is_open : Sessions → ℕ → Bool
ask_is_open e k = not e.master && (waits (e.session k) || rejecting (e.session k))

abbrev pub ask_of : Session → Ask
ask_of s = cond (rejecting s) (Rejected (peer s) s.reason) (Waits s.id)

abbrev pub open_asks : Sessions → List Ask
open_asks e = map (λ k. ask_of (e.session k)) (keep (ask_is_open e) (upwards 0 e.made))

-- the ask of the session of this id waits for its answer
abbrev pub waits_as : ℕ → Ask → Bool
waits_as id (Waits i) = nat_eq i id
waits_as id (Rejected peer reason) = false

-- the reason of a reject that waits; 0 of an ask that waits for its answer
abbrev pub reason_of : Ask → ℕ
reason_of (Waits id) = 0
reason_of (Rejected peer reason) = reason

-- the table with so many ids
abbrev pub table_of : ℕ → Sessions → Table
table_of n e = record {
  master = e.master;
  agreed = e.agreed;
  ceiling = e.ceiling;
  served = e.served;
  sessions = map (λ id. stream_of e.master e.ceiling (named e id)) (upwards 0 n);
  asks = open_asks e;
}
