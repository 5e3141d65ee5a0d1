-- Lists that are read place by place.
use Rattle.std.proofs.Common.{◌≡◌, ℕ, suc, ◌+◌, ◌-◌, ◌<◌, List, [], ◌∷◌, ◌++◌, Option, Some, None, refl, sym, ap, ◌∙◌, arith}
use Rattle.std.proofs.lemmas.List.{append_assoc, append-nil}
use Rattle.std.specs.Option.{option_map}
use Rattle.lat_log.specs.Sights.{gathered, gathered_on, one}

-- one place of so many more
gathered_more : {A : Type 0} (f : ℕ → Option (List A)) (at n k : ℕ) → n ≡ suc k → gathered f at n ≡ gathered_on (f at) (gathered f (at + 1) k)
unfolding gathered
gathered_more f at n k is = rw (is, gathered) refl

less_one : (at end : ℕ) → at < end → end - at ≡ suc (end - (at + 1))
less_one at end h = omega (arith, h)

-- what a place has is added
pub more : {A : Type 0} (f : ℕ → Option (List A)) (at end : ℕ) (got xs all : List A) → at < end → f at ≡ Some xs
    → got ++ gathered f at (end - at) ≡ all → (got ++ xs) ++ gathered f (at + 1) (end - (at + 1)) ≡ all
more f at end got xs all h is was =
    append_assoc got xs (gathered f (at + 1) (end - (at + 1)))
    ∙ ap (λ r. got ++ r) (sym (gathered_more f at (end - at) (end - (at + 1)) (less_one at end h) ∙ ap (λ r. gathered_on r (gathered f (at + 1) (end - (at + 1)))) is))
    ∙ was

-- nothing stands at a place, so that is all
pub last : {A : Type 0} (f : ℕ → Option (List A)) (at end : ℕ) (got all : List A) → at < end → f at ≡ None
    → got ++ gathered f at (end - at) ≡ all → got ≡ all
last f at end got all h is was =
    sym (append-nil got)
    ∙ ap (λ r. got ++ r) (sym (gathered_more f at (end - at) (end - (at + 1)) (less_one at end h) ∙ ap (λ r. gathered_on r (gathered f (at + 1) (end - (at + 1)))) is))
    ∙ was

-- no place is left
pub full : {A : Type 0} (f : ℕ → Option (List A)) (at end : ℕ) (got all : List A) → end - at ≡ 0 → got ++ gathered f at (end - at) ≡ all → got ≡ all
unfolding gathered
full f at end got all h was = sym (append-nil got) ∙ ap (λ r. got ++ r) (sym (rw (h, gathered) refl)) ∙ was

-- the same of one thing at each place
pub one_more : {A : Type 0} (f : ℕ → Option A) (at end : ℕ) (got : List A) (x : A) (all : List A) → at < end → f at ≡ Some x
    → got ++ gathered (one f) at (end - at) ≡ all → (got ++ x ∷ []) ++ gathered (one f) (at + 1) (end - (at + 1)) ≡ all
one_more {A} f at end got x all h is was =
    more (one f) at end got (x ∷ []) all h (ap (λ r. option_map (λ (y : A). y ∷ []) r) is) was

pub one_last : {A : Type 0} (f : ℕ → Option A) (at end : ℕ) (got all : List A) → at < end → f at ≡ None
    → got ++ gathered (one f) at (end - at) ≡ all → got ≡ all
one_last {A} f at end got all h is was = last (one f) at end got all h (ap (λ r. option_map (λ (y : A). y ∷ []) r) is) was
