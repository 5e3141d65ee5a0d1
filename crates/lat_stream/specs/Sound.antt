-- What an end knows of each of its sessions, whatever the peer sends.
use Rattle.std.specs.Prelude.{◌≡◌, ℕ, Bool, true, false, cond, ◌||◌}
use Rattle.lat_model.specs.Lists.{is_empty}
use Rattle.lat_model.specs.sessions.Slots.{starts, turned}
use Rattle.lat_model.specs.sessions.Session.{Session}
use Rattle.lat_model.specs.sessions.EndOk.{SessionOk, Accounts, Small}

-- the model's invariants of one session, and how it began
pub record Sound (master : Bool) (ceiling : ℕ) (s : Session) : Type 0 where
  pub shape : SessionOk master s
  pub accounts : Accounts ceiling s
  pub small : Small s.came
  -- the first slot that it heard is a start or a reject
  pub opens : is_empty s.came || (starts s.came || turned s.came) ≡ true
  -- the master connected it, the slave heard its ask
  pub begun : s.rejects ≡ false → cond master s.accepted (starts s.came) ≡ true
