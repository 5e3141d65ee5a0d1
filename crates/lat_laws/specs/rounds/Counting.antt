-- How far both ends of a circuit have come, and the seats of their sessions.
use Rattle.std.specs.Prelude.{◌≡◌, ℕ, ◌+◌, ◌<◌, ◌≤◌, Bool, true, false, cond, List, [], ◌∷◌, nat_eq}
use Rattle.lat_model.specs.sessions.Session.{Session}
use Rattle.lat_model.specs.sessions.Sessions.{Sessions}
use Rattle.lat_model.specs.sessions.EndOk.{EndOk}
use Rattle.lat_machines.specs.cores.Cores.{Seat, Core}
use Rattle.lat_machines.specs.world.Machines.{Setups, Machines, core_of}
use Rattle.lat_laws.specs.rounds.Lossless.{is_in}
use Rattle.lat_laws.specs.rounds.Measure.{weights}

abbrev pub sessions_in : Core → ℕ → Sessions
sessions_in c x = (c.circuits.circuit_at x).end.half.sessions

abbrev pub sessions_at : Machines → Bool → ℕ → Sessions
sessions_at w b x = sessions_in (core_of w b) x

-- the node's circuit of a circuit of the server
abbrev pub peer_at : Machines → ℕ → ℕ
peer_at w p = (w.server.core.circuits.circuit_at p).end.peer

abbrev pub both : Machines → ℕ → ℕ
both w p = weights (sessions_at w true p) + weights (sessions_at w false (peer_at w p))

-- the serials of the seats of a circuit
abbrev pub serials_on : ℕ → List Seat → List ℕ
serials_on x [] = []
serials_on x (s ∷ ss) = cond (nat_eq s.circuit x) (s.serial ∷ serials_on x ss) (serials_on x ss)

abbrev pub has_seat : Core → ℕ → ℕ → Bool
has_seat c x k = is_in k (serials_on x c.seats)

-- each session that a server made has its seat
abbrev pub ServerSeated : Core → Type 0
ServerSeated c = (x k : ℕ) → 0 < k → k ≤ (sessions_in c x).made → has_seat c x k ≡ true

-- a session that no line has had: nothing was done to it
pub record Unseen (s : Session) : Type 0 where
  pub accepted : s.accepted ≡ false
  pub put : s.put ≡ []
  pub taken : s.taken ≡ 0
  pub closed : s.closed ≡ false

-- each session of a node that has no seat was never accepted
abbrev pub NodeSeated : Core → Type 0
NodeSeated c = (x k : ℕ) → has_seat c x k ≡ false → Unseen ((sessions_in c x).session k)

-- a circuit of the server that runs, and the slave that replied to it
pub record Paired (u : Setups) (w : Machines) (p : ℕ) : Type 0 where
  pub home : (w.server.core.circuits.circuit_at p).address ≡ u.node.own
  pub runs : (w.server.core.circuits.circuit_at p).end.running ≡ true
  pub address : (w.node.core.circuits.circuit_at (peer_at w p)).address ≡ u.server.own
  pub peer : (w.node.core.circuits.circuit_at (peer_at w p)).end.peer ≡ p
  pub slave : (sessions_at w false (peer_at w p)).master ≡ false
  pub good : EndOk (sessions_at w false (peer_at w p))
