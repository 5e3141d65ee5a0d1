-- A sum over the numbers from 1 to n is at most that over a list which has all of them.
use Rattle.std.proofs.Common.{◌≡◌, ℕ, zero, suc, ◌+◌, ◌<◌, ◌≤◌, refl, ap, ap₂, arith, Bool, true, false, cond, ◌||◌, List, [], ◌∷◌, nat_eq, eqb-true}
use Rattle.lat_model.specs.Lists.{updated}
use Rattle.lat_model.proofs.sessions.Words.{upd_other}
use Rattle.lat_laws.specs.rounds.Lossless.{is_in}
use Rattle.lat_laws.specs.rounds.Measure.{total}
use Rattle.lat_laws.proofs.rounds.measure.Totals.{total_same, total_most}

abbrev pub sum_of : (ℕ → ℕ) → List ℕ → ℕ
sum_of f [] = 0
sum_of f (x ∷ xs) = f x + sum_of f xs

-- one part is taken out, if it is there
total_less : (f : ℕ → ℕ) (i n : ℕ) → total f n ≤ f i + total (updated f i 0) n
total_less f i zero = omega arith
total_less f i (suc n) = go (nat_eq (suc n) i) refl (total_less f i n)
  where
    go : (b : Bool) → nat_eq (suc n) i ≡ b → total f n ≤ f i + total (updated f i 0) n → f (suc n) + total f n ≤ f i + (cond (nat_eq (suc n) i) 0 (f (suc n)) + total (updated f i 0) n)
    go true q ih =
        let e : suc n ≡ i = eqb-true (suc n) i q in
        let s : total (updated f i 0) n ≡ total f n = total_same f (updated f i 0) n (λ j l. upd_other f i 0 j (λ r. absurd (omega (arith, r, e, l)))) in
        let t : f (suc n) ≡ f i = ap f e in
        omega (arith, s, t)
    go false q ih = let t : cond (nat_eq (suc n) i) 0 (f (suc n)) ≡ f (suc n) = ap (λ c. cond c 0 (f (suc n))) q in omega (arith, ih, t)

sum_less : (f : ℕ → ℕ) (i : ℕ) (xs : List ℕ) → sum_of (updated f i 0) xs ≤ sum_of f xs
sum_less f i [] = omega arith
sum_less f i (x ∷ xs) = omega (arith, one (nat_eq x i), sum_less f i xs)
  where
    one : (b : Bool) → cond b 0 (f x) ≤ f x
    one true = omega arith
    one false = omega arith

none : (n : ℕ) → total (λ k. 0) n ≡ 0
none zero = refl
none (suc n) = omega (arith, none n)

pub total_in : (xs : List ℕ) (f : ℕ → ℕ) (n : ℕ) → ((k : ℕ) → 0 < k → k ≤ n → is_in k xs ≡ false → f k ≡ 0) → total f n ≤ sum_of f xs
total_in [] f n h = omega (arith, total_most f (λ k. 0) n (λ k p l. let z : f k ≡ 0 = h k p l refl in omega (arith, z)), none n)
total_in (x ∷ xs) f n h = omega (arith, total_less f x n, total_in xs (updated f x 0) n less, sum_less f x xs)
  where
    less : (k : ℕ) → 0 < k → k ≤ n → is_in k xs ≡ false → updated f x 0 k ≡ 0
    less k p l q = go (nat_eq k x) refl
      where
        go : (b : Bool) → nat_eq k x ≡ b → cond b 0 (f k) ≡ 0
        go true e = refl
        go false e = h k p l (ap₂ (λ y z. y || z) e q)
