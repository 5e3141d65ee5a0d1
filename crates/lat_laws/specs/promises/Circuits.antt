-- What is promised of the circuits of both machines.
use Rattle.std.specs.Prelude.{◌≡◌, ℕ, ◌+◌, ◌≤◌, Bool, true, false, [], length}
use Rattle.lat_model.specs.ends.End.{Half, End}
use Rattle.lat_machines.specs.world.Machines.{Setups, Machines, core_of}
use Rattle.lat_machines.specs.world.Safe.{half_of, Shared}

-- a circuit of the server to the node whose reply was heard is shared with the slave that it names
abbrev pub RunningIsShared : Setups → Machines → Type 0
RunningIsShared u m =
    (p : ℕ) →
    (m.server.core.circuits.circuit_at p).address ≡ u.node.own →
    (m.server.core.circuits.circuit_at p).end.running ≡ true →
    Shared u m p (m.server.core.circuits.circuit_at p).end.peer

-- no message was formed, and none taken
pub record NothingSaid (h : Half) : Type 0 where
  pub formed : h.link.sent ≡ []
  pub taken : h.link.came ≡ []

pub record NothingSaidBefore (u : Setups) (m : Machines) : Type 0 where
  -- by a slave of the server whose reply no circuit heard
  pub slave :
      (q : ℕ) →
      (m.node.core.circuits.circuit_at q).address ≡ u.server.own →
      ((p : ℕ) → Shared u m p q → ⊥) →
      NothingSaid (half_of m false q)
  -- by a circuit of the server that heard no reply
  pub master : (p : ℕ) → (m.server.core.circuits.circuit_at p).end.running ≡ false → NothingSaid (half_of m true p)

-- the messages formed are at most those known to be taken and the end's own window, which is at most 8
pub record WithinItsWindow (e : End) : Type 0 where
  pub formed : length e.half.link.sent ≤ e.half.link.known + e.window
  pub most : e.window ≤ 8

abbrev pub WithinWindows : Machines → Type 0
WithinWindows m = (b : Bool) (x : ℕ) → WithinItsWindow ((core_of m b).circuits.circuit_at x).end
