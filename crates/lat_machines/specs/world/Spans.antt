-- The span of the circuits of both ends: wide exactly where both configurations are.
use Rattle.std.specs.Prelude.{◌≡◌, ℕ, Bool, true, false, not, ◌&&◌, Some, slice_get}
use Rattle.lat_machines.specs.values.Messages.{RunMessage, WideMessage, StartMessage, StopMessage}
use Rattle.lat_machines.specs.values.Frames.{Value, OfCircuit, OfNotice}
use Rattle.lat_machines.specs.world.Machines.{Setups, Posted, Machines, core_of, own_of}

abbrev pub both_wide : Setups → Bool
both_wide u = u.server.timing.wide && u.node.timing.wide

-- a RUN is of the kind that this span has
abbrev pub IsOfSpan : Bool → Value → Type 0
IsOfSpan wide (OfCircuit (RunMessage h slots)) = wide ≡ false
IsOfSpan wide (OfCircuit (WideMessage h slots)) = wide ≡ true
IsOfSpan wide (OfCircuit (StartMessage master ask to from info)) = Unit {0}
IsOfSpan wide (OfCircuit (StopMessage master ask to from reason text)) = Unit {0}
IsOfSpan wide (OfNotice n) = Unit {0}

-- Each running circuit of one end to the other's address has this span, and so has each RUN that one end sends the other
pub record OneSpan (u : Setups) (m : Machines) : Type 0 where
  pub ends :
      (b : Bool) (x : ℕ) →
      ((core_of m b).circuits.circuit_at x).end.running ≡ true →
      ((core_of m b).circuits.circuit_at x).address ≡ own_of u (not b) →
      ((core_of m b).circuits.circuit_at x).end.wide ≡ both_wide u
  pub frames :
      (i : ℕ) (p : Posted) →
      slice_get m.posts i ≡ Some p →
      p.frame.to ≡ own_of u (not p.by_server) →
      IsOfSpan (both_wide u) p.frame.value
