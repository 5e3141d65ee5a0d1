-- An end of a circuit at two moments of its life, as the sessions of lines see it.
use Rattle.std.specs.Prelude.{◌≡◌, ℕ, ◌≤◌, ◌⊎◌, true, false, List, [], Option}
use Rattle.lat_model.specs.sessions.Session.{Session, free, rejected, waits, peer}
use Rattle.lat_model.specs.sessions.Sessions.{Sessions, named}
use Rattle.lat_model.specs.ends.End.{End}

-- What a session was asked for: the service, and the request that it answers
abbrev pub asked_for : Session → List ℕ × Option ℕ
asked_for s = (s.service, s.request)

-- A session that a line may have: one that was made, and accepted, and not rejected
pub record IsAccepted (s : Sessions) (k : ℕ) : Type 0 where
  pub made : (1 ≤ k) × (k ≤ s.made)
  pub accepted : (s.session k).accepted ≡ true
  pub kept : (s.session k).rejects ≡ false

-- An id leads to a session that a line may have and that isn't free
pub record Leads (s : Sessions) (i k : ℕ) : Type 0 where
  pub accepted : IsAccepted s k
  pub taken : free (s.session k) ≡ false
  pub at_id : s.at_id i ≡ k
  pub id : (s.session k).id ≡ i

-- At a slave: it became free, not by a reject, and a new session has its id already, which waits for its answer
pub record Replaced (s t : Sessions) (k : ℕ) : Type 0 where
  pub slave : s.master ≡ false
  pub waits : waits (named t (s.session k).id) ≡ true
  pub free : free (t.session k) ≡ true
  pub closed : rejected (t.session k) ≡ false
  pub out : (t.session k).out ≡ (s.session k).out
  pub peer : peer (t.session k) ≡ peer (s.session k)

-- What became of a session: once free it stays as it is; before that it is found by its id, until it is replaced. What it was
-- asked for never changes
pub record SessionLater (s t : Sessions) (k : ℕ) : Type 0 where
  pub still : IsAccepted t k
  pub id : (t.session k).id ≡ (s.session k).id
  pub asked_for : asked_for (t.session k) ≡ asked_for (s.session k)
  pub over : free (s.session k) ≡ true → t.session k ≡ s.session k
  pub found : free (s.session k) ≡ false → (t.at_id (s.session k).id ≡ k) ⊎ Replaced s t k

pub record Later (s t : Sessions) : Type 0 where
  pub master : t.master ≡ s.master
  pub each : (k : ℕ) → IsAccepted s k → SessionLater s t k

-- The end after a step of its own or a heard message
pub record EndLater (e f : End) : Type 0 where
  pub sessions : Later e.half.sessions f.half.sessions
  pub running : e.running ≡ true → f.running ≡ true
  pub peer : e.running ≡ true → f.peer ≡ e.peer

-- Before a circuit runs no session of it has heard a slot
abbrev pub Unheard : End → Type 0
Unheard e = e.running ≡ false → (k : ℕ) → (e.half.sessions.session k).came ≡ []
