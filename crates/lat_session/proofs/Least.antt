-- The least number that passes, and how many pass.
use Rattle.std.proofs.Common.{◌≡◌, ℕ, zero, suc, ◌+◌, ◌-◌, ◌<◌, ◌≤◌, sym, ap, ◌∙◌, refl, arith, Bool, true, false, cond, List, [], ◌∷◌, ◌++◌, length, map, position, count_by, nat_eq, Some, None, ne_eqb}
use Rattle.std.proofs.lemmas.Bool.{true≢false}
use Rattle.std.proofs.lemmas.List.{append-nil}
use Rattle.std.proofs.lemmas.List.Sums.{sum_by-cons}
use Rattle.std.proofs.lemmas.Iterator.Adapters.{position_from-zero}
use Rattle.std.specs.List.{position_from}
use Rattle.lat_model.specs.Lists.{upwards, keep, least}
use Rattle.lat_session.proofs.Runs.{upwards_split, keep_append, keep_above_none}

pub least_above : (p : ℕ → Bool) (a n : ℕ) → (least p (upwards a n) ≡ 0 → ⊥) → a < least p (upwards a n)
least_above p a zero h = absurd (h refl)
least_above p a (suc n) h = go (p (suc a)) h (least_above p (suc a) n)
  where
    go : (b : Bool) → (cond b (suc a) (least p (upwards (suc a) n)) ≡ 0 → ⊥) → ((least p (upwards (suc a) n) ≡ 0 → ⊥) → suc a < least p (upwards (suc a) n)) → a < cond b (suc a) (least p (upwards (suc a) n))
    go true h ih = omega arith
    go false h ih = omega (arith, ih h)

-- a search from a place on finds it
first_least : {A : Type 0} (p : A → Bool) (f : ℕ → A) (a n k : ℕ) → position_from p k (map f (upwards a n)) ≡ cond (nat_eq (least (λ i. p (f i)) (upwards a n)) 0) None (Some (k + (least (λ i. p (f i)) (upwards a n) - suc a)))
first_least p f a zero k = refl
first_least {A} p f a (suc n) k = go (p (f (suc a))) (first_least p f (suc a) n (k + 1)) (least_above (λ i. p (f i)) (suc a) n)
  where
    l : ℕ
    l = least (λ i. p (f i)) (upwards (suc a) n)

    later : (b : Bool) → nat_eq l 0 ≡ b → (b ≡ false → suc a < l) → cond b None (Some (k + 1 + (l - suc (suc a)))) ≡ cond b None (Some (k + (l - suc a)))
    later true e h = refl
    later false e h = ap Some (omega (arith, h refl))

    go : (b : Bool) → position_from p (k + 1) (map f (upwards (suc a) n)) ≡ cond (nat_eq l 0) None (Some (k + 1 + (l - suc (suc a)))) → ((l ≡ 0 → ⊥) → suc a < l) → cond b (Some k) (position_from p (k + 1) (map f (upwards (suc a) n))) ≡ cond (nat_eq (cond b (suc a) l) 0) None (Some (k + (cond b (suc a) l - suc a)))
    go true ih above =
        let same : k ≡ k + (suc a - suc a) = omega arith in
        ap Some same ∙ ap (λ b. cond b None (Some (k + (suc a - suc a)))) (sym (ne_eqb (suc a) 0 (λ q. absurd (omega (arith, q)))))
    go false ih above = ih ∙ later (nat_eq l 0) refl (λ e. above (λ z. absurd (true≢false (ap (λ v. nat_eq v 0) (sym z) ∙ e))))

pub position_least : {A : Type 0} (p : A → Bool) (f : ℕ → A) (n : ℕ) → position p (map f (upwards 0 n)) ≡ cond (nat_eq (least (λ i. p (f i)) (upwards 0 n)) 0) None (Some (least (λ i. p (f i)) (upwards 0 n) - 1))
position_least {A} p f n = position_from-zero p (map f (upwards 0 n)) ∙ first_least p f 0 n 0 ∙ ap (λ v. cond (nat_eq l 0) None (Some v)) same
  where
    l : ℕ
    l = least (λ i. p (f i)) (upwards 0 n)

    same : 0 + (l - 1) ≡ l - 1
    same = omega arith

-- where the least one is low, numbers further up don't matter
cut : (p : ℕ → Bool) (a n k : ℕ) → (least p (upwards a (n + k)) ≡ 0 → ⊥) → least p (upwards a (n + k)) ≤ a + n → least p (upwards a n) ≡ least p (upwards a (n + k))
cut p a zero k h l = absurd (omega (arith, l, least_above p a (zero + k) h))
cut p a (suc n) k h l = rw (sum) (go (p (suc a)) (start h) (low l) (cut p (suc a) n k))
  where
    sum : suc n + k ≡ suc (n + k)
    sum = omega arith

    start : (least p (upwards a (suc n + k)) ≡ 0 → ⊥) → least p (upwards a (suc (n + k))) ≡ 0 → ⊥
    start h z = h (ap (λ m. least p (upwards a m)) sum ∙ z)

    low : least p (upwards a (suc n + k)) ≤ a + suc n → least p (upwards a (suc (n + k))) ≤ a + suc n
    low l = omega (arith, l, ap (λ m. least p (upwards a m)) sum)

    go : (b : Bool) → (cond b (suc a) (least p (upwards (suc a) (n + k))) ≡ 0 → ⊥) → cond b (suc a) (least p (upwards (suc a) (n + k))) ≤ a + suc n → ((least p (upwards (suc a) (n + k)) ≡ 0 → ⊥) → least p (upwards (suc a) (n + k)) ≤ suc a + n → least p (upwards (suc a) n) ≡ least p (upwards (suc a) (n + k))) → cond b (suc a) (least p (upwards (suc a) n)) ≡ cond b (suc a) (least p (upwards (suc a) (n + k)))
    go true h l ih = refl
    go false h l ih = ih h (omega (arith, l))

pub least_cut : (p : ℕ → Bool) (n m : ℕ) → n ≤ m → (least p (upwards 0 m) ≡ 0 → ⊥) → least p (upwards 0 m) ≤ n → least p (upwards 0 n) ≡ least p (upwards 0 m)
least_cut p n m h s l =
    let e : n + (m - n) ≡ m = omega (arith, h) in
    cut p 0 n (m - n) (λ z. s (sym (ap (λ v. least p (upwards 0 v)) e) ∙ z)) (omega (arith, l, ap (λ v. least p (upwards 0 v)) e)) ∙ ap (λ v. least p (upwards 0 v)) e

-- nor where none of them passes

least_none : (p : ℕ → Bool) (a n : ℕ) → ((i : ℕ) → a < i → p i ≡ false) → least p (upwards a n) ≡ 0
least_none p a zero h = refl
least_none p a (suc n) h = rw (h (suc a) (omega arith)) (least_none p (suc a) n (λ i l. h i (omega (arith, l))))

low : (p : ℕ → Bool) (a n k : ℕ) → ((i : ℕ) → a + n < i → p i ≡ false) → least p (upwards a (n + k)) ≡ least p (upwards a n)
low p a zero k h = least_none p a (zero + k) (λ i l. h i (omega (arith, l)))
low p a (suc n) k h =
    let sum : suc n + k ≡ suc (n + k) = omega arith in
    rw (sum, low p (suc a) n k (λ i l. h i (omega (arith, l)))) refl

pub least_low : (p : ℕ → Bool) (n m : ℕ) → n ≤ m → ((i : ℕ) → n < i → p i ≡ false) → least p (upwards 0 m) ≡ least p (upwards 0 n)
least_low p n m h f =
    let e : n + (m - n) ≡ m = omega (arith, h) in
    sym (ap (λ v. least p (upwards 0 v)) e) ∙ low p 0 n (m - n) (λ i l. f i (omega (arith, l)))

pub keep_low : (p : ℕ → Bool) (n m : ℕ) → n ≤ m → ((i : ℕ) → n < i → p i ≡ false) → length (keep p (upwards 0 m)) ≡ length (keep p (upwards 0 n))
keep_low p n m h f =
    let e : n + (m - n) ≡ m = omega (arith, h) in
    sym (ap (λ v. length (keep p (upwards 0 v))) e) ∙ ap (λ v. length (keep p v)) (upwards_split 0 n (m - n)) ∙ ap length (keep_append p (upwards 0 n) (upwards (0 + n) (m - n)))
    ∙ ap (λ v. length (keep p (upwards 0 n) ++ v)) (keep_above_none p (0 + n) (m - n) (λ i l. f i (omega (arith, l)))) ∙ ap length (append-nil (keep p (upwards 0 n)))

-- what is counted is what is kept
pub count_keep : {A : Type 0} (p : A → Bool) (f : ℕ → A) (xs : List ℕ) → count_by p (map f xs) ≡ length (keep (λ i. p (f i)) xs)
count_keep p f [] = refl
count_keep {A} p f (x ∷ xs) = sum_by-cons (λ a. cond (p a) 1 0) (f x) (map f xs) ∙ go (p (f x)) (count_keep p f xs)
  where
    go : (b : Bool) → count_by p (map f xs) ≡ length (keep (λ i. p (f i)) xs) → cond b 1 0 + count_by p (map f xs) ≡ length (cond b (x ∷ keep (λ i. p (f i)) xs) (keep (λ i. p (f i)) xs))
    go true ih = omega (arith, ih)
    go false ih = omega (arith, ih)
