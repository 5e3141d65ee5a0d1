-- Where nothing was lost, so many rounds bring all that was put.
use Rattle.std.specs.Prelude.{◌≡◌, ℕ, ◌+◌, ◌*◌, ◌<◌, ◌≤◌, false, List, [], ◌∷◌, length, Some, slice_get}
use Rattle.lat_model.specs.Lists.{Each}
use Rattle.lat_machines.specs.values.Events.{Event, Connects}
use Rattle.lat_machines.specs.cores.Cores.{Seat}
use Rattle.lat_machines.specs.cores.Lines.{over, session_of}
use Rattle.lat_machines.specs.server.Server.{Offer}
use Rattle.lat_machines.specs.world.Machines.{Setups, Machines, Move, Does, HearsFrame, HearsForeign, run, open_machines}
use Rattle.lat_machines.specs.world.Reports.{Row, Report, partner, row, report}
use Rattle.lat_machines.specs.world.Safe.{Fit}
use Rattle.lat_laws.specs.rounds.Calm.{Calm}
use Rattle.lat_laws.specs.rounds.Lossless.{Lossless}
use Rattle.lat_laws.specs.rounds.Rounds.{rounds, Whole, YoungRounds}

-- What is asked of the configurations beside `Fit`: a credit can be given, a Take takes all that may wait, and each name
-- has its place in a slot
pub record Usual (u : Setups) : Type 0 where
  pub server_gives : 0 < u.server.timing.ceiling
  pub node_gives : 0 < u.node.timing.ceiling
  pub server_low : u.server.timing.ceiling ≤ 15
  pub node_low : u.node.timing.ceiling ≤ 15
  pub offers : Each (λ (o : Offer). length o.service ≤ 255) u.server.offers

-- and of the events: the names of services that are connected to have their place in a slot
abbrev pub ShortEvent : Event → Type 0
ShortEvent (Connects line service) = length service ≤ 255
ShortEvent _ = Unit {0}

abbrev pub ShortMove : Move → Type 0
ShortMove (Does b e rates) = ShortEvent e
ShortMove (HearsFrame i now rates) = Unit {0}
ShortMove (HearsForeign b from payload now rates) = Unit {0}

-- the items put in all sessions of a report, both ways
abbrev pub put_in : List Row → ℕ
put_in [] = 0
put_in (r ∷ rs) = (length r.up.put + length r.down.put) + put_in rs

abbrev pub Enough : ℕ → Report → Type 0
Enough k r = 4 * put_in r.sessions + 20 * length r.sessions + 20 ≤ k

-- a session between the two ends that the server still holds and neither end has closed
pub record IsOpen (u : Setups) (w : Machines) (s : Seat) : Type 0 where
  pub home : (w.server.core.circuits.circuit_at s.circuit).address ≡ u.node.own
  pub held : over w.server.core s ≡ false
  pub open_here : (session_of w.server.core s).closed ≡ false
  pub open_there : (session_of w.node.core (partner u w s)).closed ≡ false

-- what one end put, the other took
pub record IsSettled (r : Row) : Type 0 where
  pub up : r.up.taken ≡ r.up.put
  pub down : r.down.taken ≡ r.down.put

-- a calm world after some moves, at which nothing was lost, and the moment of the last of them
pub record Begins (u : Setups) (now : ℕ) (w : Machines) : Type 0 where
  pub fit : Fit u
  pub usual : Usual u
  pub moves : List Move
  pub short : Each ShortMove moves
  pub calm : Calm u moves
  pub reached : w ≡ run u moves (open_machines u)
  pub lossless : Lossless u w
  pub server : w.server.core.moment ≤ now
  pub node : w.node.core.moment ≤ now

abbrev pub Settled : Setups → Machines → Type 0
Settled u w = (i : ℕ) (s : Seat) → slice_get w.server.core.seats i ≡ Some s → IsOpen u w s → IsSettled (row u w s)

-- the theorem: all is taken after so many rounds
abbrev pub RoundsSettle : Type 0
RoundsSettle =
    (u : Setups) (now : ℕ) (w : Machines) (rs : List (List (List ℕ))) →
    Begins u now w →
    Whole u now rs w →
    Enough (length rs) (report u (rounds u now rs w)) →
    Settled u (rounds u now rs w)

-- and each frame that they deliver is young
abbrev pub RoundsAreYoung : Type 0
RoundsAreYoung =
    (u : Setups) (now : ℕ) (w : Machines) (rs : List (List (List ℕ))) →
    Begins u now w →
    YoungRounds u now rs w
