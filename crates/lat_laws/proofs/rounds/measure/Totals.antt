-- Sums over the numbers from 1 to n.
use Rattle.std.proofs.Common.{◌≡◌, ◌≢◌, ℕ, zero, suc, ◌+◌, ◌<◌, ◌≤◌, ⊎_elim, ap, ap₂, refl, subst, arith}
use Rattle.std.proofs.lemmas.Bool.{cases_lt}
use Rattle.lat_model.specs.Lists.{updated}
use Rattle.lat_model.proofs.sessions.Words.{upd_same, upd_other}
use Rattle.lat_laws.specs.rounds.Measure.{total}

pub total_same : (f h : ℕ → ℕ) (n : ℕ) → ((j : ℕ) → j ≤ n → h j ≡ f j) → total h n ≡ total f n
total_same f h zero e = refl
total_same f h (suc n) e = ap₂ (λ x y. x + y) (e (suc n) (omega arith)) (total_same f h n (λ j l. e j (omega arith)))

pub total_most : (f h : ℕ → ℕ) (n : ℕ) → ((j : ℕ) → 0 < j → j ≤ n → f j ≤ h j) → total f n ≤ total h n
total_most f h zero e = omega arith
total_most f h (suc n) e = omega (arith, e (suc n) (omega arith) (omega arith), total_most f h n (λ j p l. e j p (omega arith)))

pub total_longer : (f : ℕ → ℕ) (n k : ℕ) → n ≤ k → total f n ≤ total f k
total_longer f n zero l = omega (arith, ap (total f) (zero_is n l))
  where
    zero_is : (n : ℕ) → n ≤ 0 → n ≡ 0
    zero_is n l = omega arith
total_longer f n (suc k) l = ⊎_elim {C = total f n ≤ total f (suc k)} (λ h. omega (arith, total_longer f n k (omega arith))) (λ h. let e : n ≡ suc k = omega (arith, l, h) in omega (arith, ap (total f) e)) (cases_lt n (suc k))

-- one part is one more
pub total_bump : (f h : ℕ → ℕ) (i n : ℕ) → 0 < i → i ≤ n → h i ≡ suc (f i) → ((j : ℕ) → j ≢ i → h j ≡ f j) → total h n ≡ suc (total f n)
total_bump f h i zero p l e o = absurd (omega (arith, p, l))
total_bump f h i (suc n) p l e o = ⊎_elim {C = total h (suc n) ≡ suc (total f (suc n))}
    (λ w. omega (arith, total_bump f h i n p (omega arith) e o, o (suc n) (λ q. absurd (omega (arith, q, w)))))
    (λ w. let q : i ≡ suc n = omega (arith, l, w) in
    let s : total h n ≡ total f n = total_same f h n (λ j k. o j (λ r. absurd (omega (arith, r, q, k)))) in
    let t : h (suc n) ≡ suc (f (suc n)) = subst (λ z. h z ≡ suc (f z)) q e in
    omega (arith, s, t))
    (cases_lt i (suc n))

-- one part is taken out
total_out : (f : ℕ → ℕ) (i n : ℕ) → 0 < i → i ≤ n → total f n ≡ f i + total (updated f i 0) n
total_out f i zero p l = absurd (omega (arith, p, l))
total_out f i (suc n) p l = ⊎_elim {C = total f (suc n) ≡ f i + total (updated f i 0) (suc n)}
    (λ w. omega (arith, total_out f i n p (omega arith), upd_other f i 0 (suc n) (λ q. absurd (omega (arith, q, w)))))
    (λ w. let q : i ≡ suc n = omega (arith, l, w) in
    let s : total (updated f i 0) n ≡ total f n = total_same f (updated f i 0) n (λ j k. upd_other f i 0 j (λ r. absurd (omega (arith, r, q, k)))) in
    let t : updated f i 0 (suc n) ≡ 0 = subst (λ z. updated f i 0 z ≡ 0) q (upd_same f i 0) in
    let r : f i ≡ f (suc n) = ap f q in
    omega (arith, s, t, r))
    (cases_lt i (suc n))

-- a sum over places, no two of which are the same, is at most the sum over all
pub total_places : (f : ℕ → ℕ) (at : ℕ → ℕ) (n k : ℕ) → ((i : ℕ) → 0 < i → i ≤ n → 0 < at i) → ((i : ℕ) → i ≤ n → at i ≤ k) → ((i j : ℕ) → i ≤ n → j ≤ n → 0 < i → 0 < j → at i ≡ at j → i ≡ j) → total (λ i. f (at i)) n ≤ total f k
total_places f at zero k p l o = omega arith
total_places f at (suc n) k p l o =
    let h : ℕ → ℕ = updated f (at (suc n)) 0 in
    let ih : total (λ i. h (at i)) n ≤ total h k = total_places h at n k (λ i w z. p i w (omega arith)) (λ i z. l i (omega arith)) (λ i j w z. o i j (omega arith) (omega arith)) in
    let e : total (λ i. h (at i)) n ≤ total (λ i. h (at i)) n = omega arith in
    let s : total f k ≡ f (at (suc n)) + total h k = total_out f (at (suc n)) k (p (suc n) (omega arith) (omega arith)) (l (suc n) (omega arith)) in
    let t : total (λ i. f (at i)) n ≤ total (λ i. h (at i)) n = total_most (λ i. f (at i)) (λ i. h (at i)) n (λ i w z. same i w z) in
    omega (arith, ih, s, t)
  where
    same : (i : ℕ) → 0 < i → i ≤ n → f (at i) ≤ updated f (at (suc n)) 0 (at i)
    same i w z = let q : updated f (at (suc n)) 0 (at i) ≡ f (at i) = upd_other f (at (suc n)) 0 (at i) (λ r. let b : i ≡ suc n = o i (suc n) (omega arith) (omega arith) w (omega arith) r in absurd (omega (arith, b, z))) in omega (arith, q)
