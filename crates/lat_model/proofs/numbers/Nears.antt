-- A number within half a range of the known one is found again from its field.
use Rattle.std.proofs.Common.{◌≡◌, ℕ, suc, ◌+◌, ◌-◌, ◌*◌, ◌/◌, ◌%◌, ◌<◌, ◌≤◌, sym, ap, ◌∙◌, refl, arith, mod-eq_of_lt, mod-lt, ⊎_elim, subst}
use Rattle.std.proofs.Math.Nat.{add-mul-mod_self_left, div-add-mod, mod-add-mod, add-mod_left}
use Rattle.std.proofs.lemmas.Bool.{cases_lt}
use Rattle.lat_model.specs.numbers.Near.{near, ahead}

-- two numbers that differ by multiples of m leave the same
same_rest : (a t m i j : ℕ) → t < m → a + m * i ≡ t + m * j → a % m ≡ t
same_rest a t m i j l e = sym (add-mul-mod_self_left a m i) ∙ ap (λ z. z % m) e ∙ add-mul-mod_self_left t m j ∙ mod-eq_of_lt l

near_sum : (n x r q p u v m : ℕ) → m ≡ 2 * r → m * q + u ≡ n → m * p + v ≡ x → v < m → x < n + r + 1 → n < x + r → (u + r + (m - v)) + m * q ≡ (n + r - x) + m * suc p
near_sum n x r q p u v m e en ex l h k = omega arith

pub near_found : (n x r : ℕ) → 0 < r → x < n + r + 1 → n < x + r → near (n % (2 * r)) x r ≡ n
near_found n x r z h k =
    let m : ℕ = 2 * r in
    let d : (n % m + r + (m - x % m)) % m ≡ n + r - x =
    same_rest (n % m + r + (m - x % m)) (n + r - x) m (n / m) (suc (x / m)) (omega arith)
    (near_sum n x r (n / m) (x / m) (n % m) (x % m) m refl (div-add-mod n m) (div-add-mod x m) (mod-lt x {m = m} (omega arith)) h k) in
    ap (λ z. (x + z) - r) d ∙ (omega arith)

-- the same by distances, as the code tests them

near_step : (b x r : ℕ) → 0 < r → (b + r + (2 * r - x % (2 * r))) % (2 * r) ≡ (ahead b x r + r) % (2 * r)
near_step b x r z =
    let k : b + r + (2 * r - x % (2 * r)) ≡ (b + (2 * r - x % (2 * r))) + r = omega arith in
    ap (λ w. w % (2 * r)) k ∙ sym (mod-add-mod (b + (2 * r - x % (2 * r))) (2 * r) r)

ahead_small : (b x r : ℕ) → 0 < r → ahead b x r < 2 * r
ahead_small b x r z = mod-lt (b + (2 * r - x % (2 * r))) {m = 2 * r} (omega arith)

pub near_ahead : (b x r : ℕ) → 0 < r → ahead b x r < r → near b x r ≡ x + ahead b x r
near_ahead b x r z h =
    let m : ℕ = 2 * r in
    let e : (b + r + (m - x % m)) % m ≡ ahead b x r + r = near_step b x r z ∙ mod-eq_of_lt (omega arith) in
    ap (λ w. (x + w) - r) e ∙ (omega arith)

pub near_behind : (b x r : ℕ) → 0 < r → r ≤ ahead b x r → near b x r ≤ x
near_behind b x r z h =
    let m : ℕ = 2 * r in
    let d : ℕ = ahead b x r in
    let k : d + r ≡ m + (d - r) = omega arith in
    let e : (b + r + (m - x % m)) % m ≡ d - r = near_step b x r z ∙ ap (λ w. w % m) k ∙ add-mod_left m (d - r) ∙ mod-eq_of_lt (omega (arith, ahead_small b x r z)) in
    subst (λ w. (x + w) - r ≤ x) (sym e) (omega (arith, ahead_small b x r z))

-- the field of the next number is the only one that is heard as it
back_sum : (n x p v m : ℕ) → m * p + v ≡ x → v < m → (n + (m - v)) + x ≡ n + m * suc p
back_sum n x p v m e l = omega arith

pub next_field : (n x r : ℕ) → 1 < r → n < 2 * r → near n x r ≡ x + 1 → n ≡ (x + 1) % (2 * r)
next_field n x r z l h = ⊎_elim {C = n ≡ (x + 1) % (2 * r)} close far (cases_lt (ahead n x r) r)
  where
    m : ℕ
    m = 2 * r

    far : r ≤ ahead n x r → n ≡ (x + 1) % m
    far q = absurd (omega (arith, near_behind n x r (omega arith) q))

    close : ahead n x r < r → n ≡ (x + 1) % m
    close q =
        let d : ahead n x r ≡ 1 = omega (arith, near_ahead n x r (omega arith) q) in
        let s : ((n + (m - x % m)) + x) % m ≡ (1 + x) % m = sym (mod-add-mod (n + (m - x % m)) m x) ∙ ap (λ w. (w + x) % m) d in
        let t : ((n + (m - x % m)) + x) % m ≡ n = ap (λ w. w % m) (back_sum n x (x / m) (x % m) m (div-add-mod x m) (mod-lt x {m = m} (omega arith))) ∙ add-mul-mod_self_left n m (suc (x / m)) ∙ mod-eq_of_lt l in
        let c : 1 + x ≡ x + 1 = omega arith in
        sym t ∙ s ∙ ap (λ w. w % m) c
