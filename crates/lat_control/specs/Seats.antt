-- The seats of a desk.
use Rattle.std.specs.Prelude.{Bool}
use Rattle.lat_control.specs.Sessions.{Talk}

-- a client, what is kept of it, whether it gives no more, and whether its last turn moved a byte
pub record SeatView (C : Type 0) : Type 0 where
  pub client : C
  pub talk : Talk
  pub ended : Bool
  pub moved : Bool
