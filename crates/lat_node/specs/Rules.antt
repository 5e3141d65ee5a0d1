-- What is known of a rule of rating.
use Rattle.std.specs.Prelude.{◌≡◌, ℕ, ◌<◌, ◌≤◌, ◌^◌, ◌↔◌}

-- each answer is 0 exactly where all lines are used, of at most 65,535
abbrev pub TellsFullness : (ℕ → ℕ → ℕ → Type 0) → Type 0
TellsFullness may =
    (used max rating : ℕ) → used ≤ max → max < 2 ^ 16 → may used max rating → (rating ≡ 0) ↔ (used ≡ max)

-- a closure may be called for each of 32 places wherever used is at most max, both of two bytes, and its answers tell where
-- they are equal
pub record HookFact {F : Type 0} (pre : F → ℕ → ℕ → ℕ → Type 0) (post : F → ℕ → ℕ → ℕ → ℕ → Type 0) (rule : F) : Type 0 where
  pub may : (place used max : ℕ) → place < 32 → used ≤ max → max < 2 ^ 16 → pre rule place used max
  pub full : (place : ℕ) → TellsFullness (post rule place)
