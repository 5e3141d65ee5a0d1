-- The order of names is one.
use Rattle.std.proofs.Common.{◌≡◌, ℕ, ◌<◌, ◌≤◌, ⊎_elim, arith, refl, sym, ap, ap₂, ◌∙◌, Bool, true, false, ◌&&◌, ◌||◌, List, [], ◌∷◌, nat_eq, nat_lt, eqb-true, ltb-true}
use Rattle.std.proofs.lemmas.Bool.{and_parts, and_left, and_right, or_parts, or_cases, true≢false, false≢true, ltb-false, le-ltb, eq-eqb}
use Rattle.lat_machines.specs.values.Names.{is_before}

-- none is before itself
pub before_none : (xs : List ℕ) → is_before xs xs ≡ false
before_none [] = refl
before_none (x ∷ xs) = ap₂ (λ a b. a || b) (le-ltb x x (omega arith)) (and_right (nat_eq x x) (is_before xs xs) (before_none xs))

-- what isn't before another, which isn't before a third, isn't before that
pub behind_through : (xs ys zs : List ℕ) → is_before xs ys ≡ false → is_before ys zs ≡ false → is_before xs zs ≡ false
behind_through [] ys [] p q = refl
behind_through [] [] (z ∷ zs) p q = q
behind_through [] (y ∷ ys) (z ∷ zs) p q = p
behind_through (x ∷ xs) ys [] p q = refl
behind_through (x ∷ xs) [] (z ∷ zs) p q = absurd (true≢false q)
behind_through (x ∷ xs) (y ∷ ys) (z ∷ zs) p q = ap₂ (λ a b. a || b) (le-ltb x z (omega (arith, l, m))) (rest (nat_eq x z) refl (behind_through xs ys zs))
  where
    a : (nat_lt x y ≡ false) × ((nat_eq x y && is_before xs ys) ≡ false)
    a = or_parts (nat_lt x y) (nat_eq x y && is_before xs ys) p

    b : (nat_lt y z ≡ false) × ((nat_eq y z && is_before ys zs) ≡ false)
    b = or_parts (nat_lt y z) (nat_eq y z && is_before ys zs) q

    l : y ≤ x
    l = ltb-false x y a.0

    m : z ≤ y
    m = ltb-false y z b.0

    rest : (c : Bool) → nat_eq x z ≡ c → (is_before xs ys ≡ false → is_before ys zs ≡ false → is_before xs zs ≡ false) → (nat_eq x z && is_before xs zs) ≡ false
    rest false i h = and_left (nat_eq x z) (is_before xs zs) i
    rest true i h =
        let e : x ≡ z = eqb-true x z i in
        let r : is_before xs ys ≡ false = ap (λ n. n && is_before xs ys) (sym (eq-eqb x y (omega (arith, e, l, m)))) ∙ a.1 in
        let s : is_before ys zs ≡ false = ap (λ n. n && is_before ys zs) (sym (eq-eqb y z (omega (arith, e, l, m)))) ∙ b.1 in
        and_right (nat_eq x z) (is_before xs zs) (h r s)

-- what is before another isn't behind it
pub behind_back : (xs ys : List ℕ) → is_before xs ys ≡ true → is_before ys xs ≡ false
behind_back [] [] q = absurd (false≢true q)
behind_back [] (y ∷ ys) q = refl
behind_back (x ∷ xs) [] q = absurd (false≢true q)
behind_back (x ∷ xs) (y ∷ ys) q = ⊎_elim {C = is_before (y ∷ ys) (x ∷ xs) ≡ false} less (λ r. equal r (behind_back xs ys)) (or_cases (nat_lt x y) (nat_eq x y && is_before xs ys) q)
  where
    less : nat_lt x y ≡ true → is_before (y ∷ ys) (x ∷ xs) ≡ false
    less r = (let l : x < y = ltb-true x y r in ap₂ (λ a b. a || b) (le-ltb y x (omega (arith, l))) (and_left (nat_eq y x) (is_before ys xs) (apart (nat_eq y x) refl l)))
      where
        apart : (c : Bool) → nat_eq y x ≡ c → x < y → c ≡ false
        apart true i l = (let e : y ≡ x = eqb-true y x i in absurd (omega (arith, e, l)))
        apart false i l = refl

    equal : (nat_eq x y && is_before xs ys) ≡ true → (is_before xs ys ≡ true → is_before ys xs ≡ false) → is_before (y ∷ ys) (x ∷ xs) ≡ false
    equal r h =
        let p : (nat_eq x y ≡ true) × (is_before xs ys ≡ true) = and_parts (nat_eq x y) (is_before xs ys) r in
        let e : x ≡ y = eqb-true x y p.0 in
        ap₂ (λ a b. a || b) (le-ltb y x (omega (arith, e))) (and_right (nat_eq y x) (is_before ys xs) (h p.1))
