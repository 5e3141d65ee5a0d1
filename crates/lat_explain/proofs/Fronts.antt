-- Numbers with which one within bounds begins, as far as they are tried.
use Rattle.std.proofs.Common.{◌≡◌, ℕ, ◌+◌, ◌-◌, ◌/◌, ◌<◌, ◌≤◌, true, false, refl, arith}
use Rattle.lat_explain.specs.Forms.{is_front, is_within}
use Rattle.lat_explain.proofs.Counts.{one_more}

pub front_here : (k least most number : ℕ) → k < 20 → is_within least most number ≡ true → is_front (20 - k) least most number ≡ true
unfolding is_front
front_here k least most number lt is = rw (one_more 20 k lt, is) refl

pub front_more : (k least most number : ℕ) → k < 20 → is_within least most number ≡ false
    → is_front (20 - k) least most number ≡ is_front (20 - (k + 1)) (least / 10) (most / 10) number
unfolding is_front
front_more k least most number lt is = rw (one_more 20 k lt, is) refl

pub front_none : (k least most number : ℕ) → 20 ≤ k → is_front (20 - k) least most number ≡ false
unfolding is_front
front_none k least most number le = let none : 20 - k ≡ 0 = omega arith in rw none refl
