-- What the two halves of a circuit of both ends have in common: the invariant of two ends, point by point.
use Rattle.std.specs.Prelude.{ℕ, Bool}
use Rattle.lat_model.specs.numbers.NetOk.{Way}
use Rattle.lat_model.specs.sessions.Sessions.{of_generation}
use Rattle.lat_model.specs.ends.End.{Message, Half}
use Rattle.lat_model.specs.circuits.InOrder.{Stream}
use Rattle.lat_model.specs.circuits.Matched.{Generations, CreditsKept}
use Rattle.lat_model.specs.circuits.History.{Credited, StartsFirst, IdsUsedAgain}
use Rattle.lat_model.specs.circuits.World.{World, table}

pub record Agree (m : Half) (s : Half) : Type 0 where
  -- what one end knows, took and acknowledged of the other's messages
  pub numbers_up : Way Message m.link s.link
  pub numbers_down : Way Message s.link m.link
  -- what one end took is a prefix of what the other put
  pub order_up : (g : ℕ) → Stream (of_generation m.sessions g) (of_generation s.sessions g)
  pub order_down : (g : ℕ) → Stream (of_generation s.sessions g) (of_generation m.sessions g)
  -- ids lead to sessions of one generation at both ends
  pub generations_up : Generations m.sessions s.sessions
  pub generations_down : Generations s.sessions m.sessions
  -- credits given, on their way, heard and used
  pub credits_up : CreditsKept m s
  pub credits_down : CreditsKept s m
  pub credited_up : Credited m
  pub credited_down : Credited s
  -- the order of a session's slots, and when an id is used again
  pub starts_up : StartsFirst m
  pub starts_down : StartsFirst s
  pub ids_up : IdsUsedAgain m
  pub ids_down : IdsUsedAgain s

abbrev pub the_half : World → Bool → ℕ → Half
the_half w b x = ((table w b).circuit_at x).end.half
