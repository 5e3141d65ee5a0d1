-- Lines with no two equal are no more than there are lines.
use Rattle.std.proofs.Common.{◌≡◌, ℕ, zero, suc, ◌<◌, ◌≤◌, ◌≢◌, Bool, true, false, cond, nat_eq, eqb-true, List, [], ◌∷◌, length, map, refl, ap, subst, arith}
use Rattle.std.proofs.lemmas.Bool.{eqb-false}
use Rattle.std.proofs.lemmas.List.{length-map}
use Rattle.lat_model.specs.Lists.{Each}
use Rattle.lat_lines.specs.Kept.{Kept, Holds, Apart, IsLine}
use Rattle.lat_lines.specs.declared.seat.Seat.{Seat}

-- all but the number n
abbrev but : ℕ → List ℕ → List ℕ
but n [] = []
but n (x ∷ xs) = cond (nat_eq x n) (but n xs) (x ∷ but n xs)

each_but : (P : ℕ → Type 0) (n : ℕ) (xs : List ℕ) → Each P xs → Each P (but n xs)
each_but P n [] e = tt
each_but P n (x ∷ xs) e = by (nat_eq x n) (each_but P n xs e.1)
  where
    by : (b : Bool) → Each P (but n xs) → Each P (cond b (but n xs) (x ∷ but n xs))
    by true ih = ih
    by false ih = (e.0, ih)

apart_but : (n : ℕ) (xs : List ℕ) → Apart xs → Apart (but n xs)
apart_but n [] a = tt
apart_but n (x ∷ xs) a = by (nat_eq x n) (apart_but n xs a.1)
  where
    by : (b : Bool) → Apart (but n xs) → Apart (cond b (but n xs) (x ∷ but n xs))
    by true ih = ih
    by false ih = (each_but (λ y. y ≢ x) n xs a.0, ih)

-- a number that isn't there leaves all
all_but : (n : ℕ) (xs : List ℕ) → Each (λ y. y ≢ n) xs → length xs ≡ length (but n xs)
all_but n [] e = refl
all_but n (x ∷ xs) e = by (nat_eq x n) refl (all_but n xs e.1)
  where
    by : (b : Bool) → nat_eq x n ≡ b → length xs ≡ length (but n xs) → suc (length xs) ≡ length (cond b (but n xs) (x ∷ but n xs))
    by true f ih = absurd (e.0 (eqb-true x n f))
    by false f ih = ap suc ih

one_less : (n : ℕ) (xs : List ℕ) → Apart xs → length xs ≤ suc (length (but n xs))
one_less n [] a = omega arith
one_less n (x ∷ xs) a = by (nat_eq x n) refl (one_less n xs a.1)
  where
    by : (b : Bool) → nat_eq x n ≡ b → length xs ≤ suc (length (but n xs)) → suc (length xs) ≤ suc (length (cond b (but n xs) (x ∷ but n xs)))
    by true f ih = let same = all_but n xs (subst (λ z. Each (λ y. y ≢ z) xs) (eqb-true x n f) a.0) in omega (arith, same)
    by false f ih = omega (arith, ih)

lower : (n : ℕ) (xs : List ℕ) → Each (IsLine (suc n)) xs → Each (IsLine n) (but (suc n) xs)
lower n [] e = tt
lower n (x ∷ xs) e = by (nat_eq x (suc n)) refl (lower n xs e.1)
  where
    by : (b : Bool) → nat_eq x (suc n) ≡ b → Each (IsLine n) (but (suc n) xs) → Each (IsLine n) (cond b (but (suc n) xs) (x ∷ but (suc n) xs))
    by true f ih = ih
    by false f ih = ((e.0.0, below (eqb-false x (suc n) f)), ih)
      where
        below : x ≢ suc n → x ≤ n
        below d = omega (arith, e.0.1, d)

pub few_apart : (n : ℕ) (xs : List ℕ) → Apart xs → Each (IsLine n) xs → length xs ≤ n
few_apart zero [] a e = omega arith
few_apart zero (x ∷ xs) a e = absurd (omega (arith, e.0.0, e.0.1))
few_apart (suc n) xs a e =
    let less = one_less (suc n) xs a in
    let few = few_apart n (but (suc n) xs) (apart_but (suc n) xs a) (lower n xs e) in
    omega (arith, less, few)

abbrev line_of : Seat → ℕ
line_of s = s.line

each_line : (n : ℕ) (ss : List Seat) → Each (λ (s : Seat). IsLine n s.line) ss → Each (IsLine n) (map line_of ss)
each_line n [] e = tt
each_line n (s ∷ ss) e = (e.0, each_line n ss e.1)

pub few_seats : (k : Kept) → Holds k → length k.seats ≤ k.lines
few_seats k h =
    let few = few_apart k.lines (map line_of k.seats) h.apart (each_line k.lines k.seats h.each) in
    let same = length-map k.seats line_of in
    omega (arith, few, same)

-- a line that has none leaves room for it
pub one_more : (k : Kept) (line : ℕ) → Holds k → IsLine k.lines line → Each (λ (s : Seat). s.line ≢ line) k.seats → length k.seats < k.lines
one_more k line h l e =
    let few = few_apart k.lines (line ∷ map line_of k.seats) (others k.seats e, h.apart) (l, each_line k.lines k.seats h.each) in
    let same = length-map k.seats line_of in
    omega (arith, few, same)
  where
    others : (ss : List Seat) → Each (λ (s : Seat). s.line ≢ line) ss → Each (λ y. y ≢ line) (map line_of ss)
    others [] e = tt
    others (s ∷ ss) e = (e.0, others ss e.1)
