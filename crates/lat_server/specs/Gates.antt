-- Which lines of a server may grant.
use Rattle.std.specs.Prelude.{◌≡◌, ℕ, Bool, true, false, not, ◌&&◌, replicate, get_or}
use Rattle.lat_server.specs.declared.gate.Gate.{Gate}

-- it isn't halted, and all lines are ready
abbrev pub open_gate : Gate
open_gate = record { halted = false; ready = replicate 33 true }

-- whether a line is ready; so is each number that isn't a line's
abbrev pub is_ready : Gate → ℕ → Bool
is_ready g line = get_or g.ready line true

abbrev pub is_open : Gate → ℕ → Bool
is_open g line = not g.halted && is_ready g line

-- the machine says the same
pub record StandsFor (g : Gate) (is_halted : Bool) (readies : ℕ → Bool) : Type 0 where
  pub halted : g.halted ≡ is_halted
  pub ready : (line : ℕ) → is_ready g line ≡ readies line
