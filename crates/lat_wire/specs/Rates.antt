-- The ratings of a node whose rule has one answer.
use Rattle.std.specs.Prelude.{◌≡◌, ℕ, suc, ◌-◌, ◌<◌, ◌≤◌, ◌^◌, List, length, min, replicate}
use Rattle.lat_machines.specs.cores.Lines.{used}
use Rattle.lat_machines.specs.world.Machines.{Setups, Machines}

-- the least of 255 and the lines that are left
abbrev pub rating : ℕ → ℕ → ℕ
rating used max = min (max - used) 255

-- the only answer of the rule, whichever the service, of at most 65,535 lines
abbrev pub RatesWhatIsLeft : (ℕ → ℕ → ℕ → ℕ → Type 0) → Type 0
RatesWhatIsLeft may = (place used max r : ℕ) → used ≤ max → max < 2 ^ 16 → may place used max r → r ≡ rating used max

-- the ratings of the node's next event, as many as an event can ask for
abbrev pub rates : Setups → Machines → List ℕ
rates u w = replicate (suc (length u.node.services)) (rating (used w.node.core) u.node.lines)
