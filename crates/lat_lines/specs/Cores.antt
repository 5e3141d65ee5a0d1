-- A core at two moments of one event.
use Rattle.std.specs.Prelude.{◌≡◌, ℕ, true, false}
use Rattle.lat_model.specs.Lists.{Each}
use Rattle.lat_model.specs.ends.End.{lives}
use Rattle.lat_model.specs.circuits.Ids.{is_known, IdsStay}
use Rattle.lat_machines.specs.cores.Cores.{Core}
use Rattle.lat_lines.specs.circuits.Kept.{has_id}
use Rattle.lat_lines.specs.declared.seat.Seat.{Seat}
use Rattle.lat_lines.specs.Kept.{Kept}
use Rattle.lat_lines.specs.Later.{EndLater, Unheard}

-- its circuits went on; those that didn't live stayed as they were, and its line sessions are the same
pub record CoreLater (c d : Core) : Type 0 where
  pub seats : d.seats ≡ c.seats
  pub ids : IdsStay c.circuits d.circuits
  pub address : (x : ℕ) → is_known c.circuits x ≡ true → (d.circuits.circuit_at x).address ≡ (c.circuits.circuit_at x).address
  pub living : (x : ℕ) → is_known c.circuits x ≡ true → lives (c.circuits.circuit_at x).end ≡ true →
      EndLater (c.circuits.circuit_at x).end (d.circuits.circuit_at x).end
  pub dead : (x : ℕ) → is_known c.circuits x ≡ true → lives (c.circuits.circuit_at x).end ≡ false →
      (d.circuits.circuit_at x).end ≡ (c.circuits.circuit_at x).end
  pub unheard : (x : ℕ) → Unheard (d.circuits.circuit_at x).end

-- the circuit of each session that a line has is held
abbrev pub Covers : Kept → Type 0
Covers k = Each (λ (s : Seat). has_id s.session.circuit k.circuits ≡ true) k.seats
