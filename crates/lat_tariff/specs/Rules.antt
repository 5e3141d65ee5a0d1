-- What is known of a steady rule of rating.
use Rattle.std.specs.Prelude.{ℕ, ◌<◌, ◌≤◌, ◌^◌}
use Rattle.lat_node.specs.Rules.{TellsFullness}

-- no answer rises as lines fill, of at most 65,535
abbrev pub IsSteady : (ℕ → ℕ → ℕ → Type 0) → Type 0
IsSteady may =
    (used later max rating below : ℕ) →
    used < later → later ≤ max → max < 2 ^ 16 →
    may used max rating → may later max below → below ≤ rating

-- a closure may be called wherever used is at most max, both of two bytes; its answers tell where they are equal, and are steady
pub record SteadyFact {F : Type 0} (pre : F → ℕ → ℕ → Type 0) (post : F → ℕ → ℕ → ℕ → Type 0) (rule : F) : Type 0 where
  pub may : (used max : ℕ) → used ≤ max → max < 2 ^ 16 → pre rule used max
  pub full : TellsFullness (post rule)
  pub steady : IsSteady (post rule)

-- what must be known of a rule in a box: what is asked of it in there, and what its answers tell
pub record IsKnown (fact : Type 0) (may : ℕ → ℕ → ℕ → Type 0) : Type 0 where
  pub own : fact
  pub full : TellsFullness may
  pub steady : IsSteady may
