-- What the sessions of an end keep beside what they keep of any peer: names that have their place, and frugal slots.
use Rattle.std.specs.Prelude.{◌≡◌, ℕ, ◌<◌, ◌≤◌, Bool, true, false, length}
use Rattle.lat_model.specs.Lists.{Each}
use Rattle.lat_model.specs.sessions.Slots.{Slot, Start, DataA}
use Rattle.lat_model.specs.sessions.Session.{Session}
use Rattle.lat_model.specs.sessions.Sessions.{Sessions}
use Rattle.lat_model.specs.sessions.Calls.{Call, Connect}
use Rattle.lat_model.specs.sessions.EndOk.{IdsWithin}
use Rattle.lat_model.specs.circuits.World.{World}
use Rattle.lat_model.specs.circuits.WorldOk.{mate}
use Rattle.lat_model.specs.circuits.Events.{WorldEvent, Locally}
use Rattle.lat_laws.specs.rounds.Idle.{NoStops}
use Rattle.lat_laws.specs.rounds.Measure.{Frugal, AllNumbered}

-- a start takes bytes, and its name is short; no slot has more bytes than its length says
abbrev pub Neat : Slot → Type 0
Neat (Start to from c size service request) = (0 < size) × (length service ≤ 255)
Neat (DataA to from c bytes) = length bytes ≤ 255
Neat _ = Unit {0}

pub record PlainOne (master : Bool) (ceiling : ℕ) (s : Session) : Type 0 where
  pub short : length s.service ≤ 255
  pub frugal : Frugal ceiling s.out
  pub accepts : master ≡ true → s.rejects ≡ false → s.accepted ≡ true
  pub neat : Each Neat s.out

pub record Plain (e : Sessions) : Type 0 where
  pub each : (k : ℕ) → PlainOne e.master e.ceiling (e.session k)
  pub numbered : AllNumbered e
  pub ids : IdsWithin 64 e

abbrev pub ShortCall : Call → Type 0
ShortCall (Connect service request) = length service ≤ 255
ShortCall _ = Unit {0}

-- The sessions of both ends of a circuit
pub record BothPlain (m : Sessions) (s : Sessions) : Type 0 where
  pub master : Plain m
  pub slave : Plain s
  pub stops : NoStops m s

-- of each circuit of the server to the node, with the slave that replied, if one did
abbrev pub WorldPlain : World → Type 0
WorldPlain w =
    (p : ℕ) →
    (w.server.circuit_at p).address ≡ w.node.own →
    BothPlain (w.server.circuit_at p).end.half.sessions (mate w p).sessions

abbrev pub ShortWorldEvent : WorldEvent → Type 0
ShortWorldEvent (Locally b x c) = ShortCall c
ShortWorldEvent _ = Unit {0}
