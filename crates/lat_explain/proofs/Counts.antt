-- Counts that go up to a number.
use Rattle.std.proofs.Common.{◌≡◌, ℕ, suc, ◌+◌, ◌-◌, ◌<◌, arith}

-- below it one more is left
pub one_more : (n k : ℕ) → k < n → n - k ≡ suc (n - (k + 1))
one_more n k lt = omega arith
