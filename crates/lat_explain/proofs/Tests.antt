-- What tests tell.
use Rattle.std.proofs.Common.{◌≡◌, ℕ, ◌≤◌, ◌<◌, Bool, true, false, refl, sym, arith, true≢false}
use Rattle.std.specs.Prelude.{nat_le, nat_lt, nat_eq, ◌&&◌, ◌||◌}
use Rattle.std.proofs.lemmas.Bool.Decides.{nat_tests}

pub both : (a b : Bool) → (a && b) ≡ true → (a ≡ true) × (b ≡ true)
both true b h = (refl, h)
both false b h = absurd (true≢false (sym h))

pub other_one : (a b : Bool) → (a || b) ≡ true → a ≡ false → b ≡ true
other_one true b h e = absurd (true≢false e)
other_one false b h e = h

pub or_so : (a b : Bool) → b ≡ true → (a || b) ≡ true
or_so true b h = refl
or_so false b h = h

pub or_here : (a b : Bool) → a ≡ true → (a || b) ≡ true
or_here true b h = refl
or_here false b h = absurd (true≢false (sym h))

pub and_so : (a b : Bool) → a ≡ true → b ≡ true → (a && b) ≡ true
and_so true b h k = k
and_so false b h k = absurd (true≢false (sym h))

pub le_true : (a b : ℕ) → a ≤ b → nat_le a b ≡ true
le_true a b h = grind (arith, nat_tests)

pub true_le : (a b : ℕ) → nat_le a b ≡ true → a ≤ b
true_le a b h = grind (arith, nat_tests)

pub false_le : (a b : ℕ) → nat_le a b ≡ false → b < a
false_le a b h = grind (arith, nat_tests)

pub lt_true : (a b : ℕ) → a < b → nat_lt a b ≡ true
lt_true a b h = grind (arith, nat_tests)

pub true_lt : (a b : ℕ) → nat_lt a b ≡ true → a < b
true_lt a b h = grind (arith, nat_tests)

pub false_lt : (a b : ℕ) → nat_lt a b ≡ false → b ≤ a
false_lt a b h = grind (arith, nat_tests)

pub lt_false : (a b : ℕ) → b ≤ a → nat_lt a b ≡ false
lt_false a b h = grind (arith, nat_tests)

pub true_eq : (a b : ℕ) → nat_eq a b ≡ true → a ≡ b
true_eq a b h = grind (arith, nat_tests)

pub eq_true : (a b : ℕ) → a ≡ b → nat_eq a b ≡ true
eq_true a b h = grind (arith, nat_tests)

pub false_true : {P : Type 0} → false ≡ true → P
false_true h = absurd (true≢false (sym h))

pub not_zero : (n : ℕ) → 0 < n → nat_eq n 0 ≡ false
not_zero n h = grind (arith, nat_tests)
