-- The first number that passes, one number after another.
use Rattle.std.proofs.Common.{◌≡◌, ℕ, zero, suc, ◌+◌, ◌-◌, ◌<◌, ◌≤◌, ap, ap₂, ◌∙◌, refl, arith, Bool, true, false, cond, ◌&&◌, ◌⊎◌, inl, inr, nat_le}
use Rattle.std.specs.Prelude.{Some, None}
use Rattle.std.proofs.lemmas.Bool.{le-leb, leb-true}
use Rattle.lat_captures.specs.Audit.{find_from}

at_first : (p : ℕ → Bool) (a k : ℕ) (c : Bool) → p a ≡ c → find_from p a (suc k) ≡ cond c (Some a) (find_from p (suc a) k)
at_first p a k c e = ap (λ z. cond z (Some a) (find_from p (suc a) k)) e

more : (p : ℕ → Bool) (a e : ℕ) → a < e → find_from p a (e - a) ≡ find_from p a (suc (e - (a + 1)))
more p a e l = let same : e - a ≡ suc (e - (a + 1)) = omega arith in ap (find_from p a) same

-- the first passes
pub finds_first : (p : ℕ → Bool) (a e : ℕ) → a < e → p a ≡ true → find_from p a (e - a) ≡ Some a
finds_first p a e l t = more p a e l ∙ at_first p a (e - (a + 1)) true t

-- the first doesn't
pub finds_later : (p : ℕ → Bool) (a e : ℕ) → a < e → p a ≡ false → find_from p a (e - a) ≡ find_from p (a + 1) (e - (a + 1))
finds_later p a e l t = more p a e l ∙ at_first p a (e - (a + 1)) false t ∙ (let same : suc a ≡ a + 1 = omega arith in ap (λ z. find_from p z (e - (a + 1))) same)

pub finds_none : (p : ℕ → Bool) (a e : ℕ) → e ≤ a → find_from p a (e - a) ≡ None
finds_none p a e l = let none : e - a ≡ 0 = omega arith in ap (find_from p a) none

-- a test that always passes changes nothing
pub finds_same : (p q : ℕ → Bool) (a k : ℕ) → ((n : ℕ) → p n ≡ q n) → find_from p a k ≡ find_from q a k
finds_same p q a zero h = refl
finds_same p q a (suc k) h = ap₂ (λ c z. cond c (Some a) z) (h a) (finds_same p q (suc a) k h)

pub no_floor : (p : ℕ → Bool) (n : ℕ) → (p n && nat_le 0 n) ≡ p n
no_floor p n = ap (λ c. p n && c) (le-leb 0 n (omega arith)) ∙ go (p n)
  where
    go : (c : Bool) → (c && true) ≡ c
    go true = refl
    go false = refl

-- a number that a field doesn't bear, or that is below the floor, doesn't pass
pub not_passed : (c : Bool) (floor n : ℕ) → (c ≡ false) ⊎ (n < floor) → (c && nat_le floor n) ≡ false
not_passed c floor n (inl e) = ap (λ z. z && nat_le floor n) e
not_passed c floor n (inr l) = ap (λ z. c && z) (low (nat_le floor n) refl) ∙ go c
  where
    low : (d : Bool) → nat_le floor n ≡ d → d ≡ false
    low true e = absurd (let h : floor ≤ n = leb-true floor n e in omega arith)
    low false e = refl

    go : (c : Bool) → (c && false) ≡ false
    go true = refl
    go false = refl

pub passed : (c : Bool) (floor n : ℕ) → c ≡ true → floor ≤ n → (c && nat_le floor n) ≡ true
passed c floor n e l = ap₂ (λ a b. a && b) e (le-leb floor n l)
