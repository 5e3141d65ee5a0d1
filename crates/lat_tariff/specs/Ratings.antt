-- What the rules that come with a tariff may answer.
use Rattle.std.specs.Prelude.{◌≡◌, ℕ, ◌-◌, ◌*◌, min, nat_lt, if◌then◌else◌}

-- 20 for each line that is free, at most 255
abbrev pub twenty_per_free_line : ℕ → ℕ → ℕ → Type 0
twenty_per_free_line used max rating = rating ≡ min (20 * (max - used)) 255

-- this rating while a line is free, and 0 else
abbrev pub while_free : ℕ → ℕ → ℕ → ℕ → Type 0
while_free free used max rating = rating ≡ (if nat_lt used max then free else 0)
