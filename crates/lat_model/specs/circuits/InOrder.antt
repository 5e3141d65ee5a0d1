-- What one end took of a session is a prefix of what the other end put.
use Rattle.std.specs.Prelude.{ℕ, ◌≤◌, length}
use Rattle.lat_model.specs.sessions.Slots.{items}
use Rattle.lat_model.specs.sessions.Session.{Session}
use Rattle.lat_model.specs.sessions.Sessions.{of_generation}
use Rattle.lat_model.specs.Lists.{IsPrefixOf}
use Rattle.lat_model.specs.circuits.Pair.{Pair}

-- What both ends have of one session: what one end took is a prefix of what it heard, and so on to what was put
pub record Stream (a : Session) (b : Session) : Type 0 where
  pub taken : b.taken ≤ length (items b.came)
  pub heard : IsPrefixOf (items b.came) (items a.out)
  pub framed : IsPrefixOf (items a.out) a.put

pub record InOrder (w : Pair) : Type 0 where
  pub up : (g : ℕ) → Stream (of_generation w.master.half.sessions g) (of_generation w.slave.half.sessions g)
  pub down : (g : ℕ) → Stream (of_generation w.slave.half.sessions g) (of_generation w.master.half.sessions g)
