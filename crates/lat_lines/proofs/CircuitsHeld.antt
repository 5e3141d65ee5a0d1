-- Lists of circuits whose ids rise.
use Rattle.std.proofs.Common.{◌≡◌, ℕ, zero, suc, ◌+◌, ◌<◌, ◌≤◌, Bool, true, false, cond, ◌||◌, nat_eq, List, [], ◌∷◌, ◌++◌, map, Some, None, slice_get, slice_set, get_or, refl, sym, ap, subst, ◌∙◌, arith}
use Rattle.std.specs.List.{list_any, position, position_from, remove}
use Rattle.std.proofs.lemmas.Bool.{false≢true, eq-eqb}
use Rattle.std.proofs.lemmas.Option.{same_Some, none-some, slice_get-get_or}
use Rattle.std.proofs.lemmas.List.Quantifiers.{position-Some}
use Rattle.std.proofs.lemmas.Iterator.Adapters.{position_from-zero}
use Rattle.lat_model.specs.Lists.{Each}
use Rattle.lat_model.specs.circuits.Ids.{Rises}

pub eqb_self : (x : ℕ) → nat_eq x x ≡ true
eqb_self x = eq-eqb x x refl

-- facts of each element

pub each_at : {X : Type 0} (P : X → Type 0) (xs : List X) (at : ℕ) (q : X) → Each P xs → slice_get xs at ≡ Some q → P q
each_at P [] at q e h = absurd (none-some q h)
each_at P (x ∷ xs) zero q e h = subst P (same_Some x q h) e.0
each_at P (x ∷ xs) (suc at) q e h = each_at P xs at q e.1 h

pub each_weaker : {X : Type 0} (P Q : X → Type 0) (xs : List X) → ((x : X) → P x → Q x) → Each P xs → Each Q xs
each_weaker P Q [] w e = tt
each_weaker P Q (x ∷ xs) w e = (w x e.0, each_weaker P Q xs w e.1)

-- of each at its place
pub each_with : {X : Type 0} (P Q : X → Type 0) (xs : List X) → ((at : ℕ) (x : X) → slice_get xs at ≡ Some x → P x → Q x) → Each P xs → Each Q xs
each_with P Q [] w e = tt
each_with P Q (x ∷ xs) w e = (w 0 x refl e.0, each_with P Q xs (λ at y h. w (suc at) y h) e.1)

pub each_set : {X : Type 0} (P : X → Type 0) (xs : List X) (at : ℕ) (r : X) → Each P xs → P r → Each P (slice_set xs at r)
each_set P [] at r e h = tt
each_set P (x ∷ xs) zero r e h = (h, e.1)
each_set P (x ∷ xs) (suc at) r e h = (e.0, each_set P xs at r e.1 h)

pub each_push : {X : Type 0} (P : X → Type 0) (xs : List X) (r : X) → Each P xs → P r → Each P (xs ++ r ∷ [])
each_push P [] r e h = (h, tt)
each_push P (x ∷ xs) r e h = (e.0, each_push P xs r e.1 h)

pub each_pop : {X : Type 0} (P : X → Type 0) (xs : List X) (x : X) → Each P (xs ++ x ∷ []) → Each P xs × P x
each_pop P [] x e = (tt, e.0)
each_pop P (y ∷ ys) x e = let i = each_pop P ys x e.1 in ((e.0, i.0), i.1)

-- rising numbers

pub rises_weaker : (a b : ℕ) (xs : List ℕ) → a ≤ b → Rises b xs → Rises a xs
rises_weaker a b [] l r = tt
rises_weaker a b (x ∷ xs) l r = (omega (arith, l, r.0), r.1)

pub rises_above : {X : Type 0} (f : X → ℕ) (a : ℕ) (xs : List X) → Rises a (map f xs) → Each (λ x. a < f x) xs
rises_above f a [] r = tt
rises_above f a (x ∷ xs) r = (r.0, each_weaker (λ y. f x < f y) (λ y. a < f y) xs (λ y h. omega (arith, h, r.0)) (rises_above f (f x) xs r.1))

-- what holds of each after the one at a place was replaced, the others being of other numbers
pub each_replaced : {X : Type 0} (f : X → ℕ) (P Q : X → Type 0) (a : ℕ) (xs : List X) (at : ℕ) (q r : X)
    → Rises a (map f xs) → slice_get xs at ≡ Some q → Each P xs → Q r → ((y : X) → P y → (f y ≡ f q → ⊥) → Q y)
    → Each Q (slice_set xs at r)
each_replaced f P Q a [] at q r rise h e here others = tt
each_replaced {X} f P Q a (x ∷ xs) zero q r rise h e here others =
    let same : x ≡ q = same_Some x q h in
    let above = rises_above f (f x) xs rise.1 in
    (here, both xs e.1 above)
  where
    both : (ys : List X) → Each P ys → Each (λ y. f x < f y) ys → Each Q ys
    both [] p g = tt
    both (y ∷ ys) p g = (others y p.0 (λ z. absurd (omega (arith, g.0, z, ap f (same_Some x q h)))), both ys p.1 g.1)
each_replaced f P Q a (x ∷ xs) (suc at) q r rise h e here others =
    let above = each_at (λ y. f x < f y) xs at q (rises_above f (f x) xs rise.1) h in
    (others x e.0 (λ z. absurd (omega (arith, above, z))), each_replaced f P Q (f x) xs at q r rise.1 h e.1 here others)

pub map_set_same : {X : Type 0} (f : X → ℕ) (xs : List X) (at : ℕ) (q r : X) → slice_get xs at ≡ Some q → f r ≡ f q → map f (slice_set xs at r) ≡ map f xs
map_set_same f [] at q r h e = refl
map_set_same f (x ∷ xs) zero q r h e = ap (λ z. z ∷ map f xs) (e ∙ ap f (sym (same_Some x q h)))
map_set_same f (x ∷ xs) (suc at) q r h e = ap (λ z. f x ∷ z) (map_set_same f xs at q r h e)

pub any_at : {X : Type 0} (f : X → ℕ) (xs : List X) (at : ℕ) (q : X) → slice_get xs at ≡ Some q → list_any (nat_eq (f q)) (map f xs) ≡ true
any_at f [] at q h = absurd (none-some q h)
any_at f (x ∷ xs) zero q h = ap (λ b. b || list_any (nat_eq (f q)) (map f xs)) (eq-eqb (f q) (f x) (sym (ap f (same_Some x q h))))
any_at f (x ∷ xs) (suc at) q h = ap (λ b. nat_eq (f q) (f x) || b) (any_at f xs at q h) ∙ or_true (nat_eq (f q) (f x))
  where
    or_true : (b : Bool) → b || true ≡ true
    or_true true = refl
    or_true false = refl

-- the first that passes

pub record FoundAt {X : Type 0} (p : X → Bool) (xs : List X) (at : ℕ) (q : X) : Type 0 where
  pub here : slice_get xs at ≡ Some q
  pub passes : p q ≡ true

pub found_at : {X : Type 0} (p : X → Bool) (xs : List X) (at : ℕ) → position p xs ≡ Some at → (q : X) × FoundAt p xs at q
found_at p [] at h = absurd (none-some at h)
found_at p (x ∷ xs) at h =
    let is = position-Some p (x ∷ xs) at x h in
    (get_or (x ∷ xs) at x, record { here = slice_get-get_or (x ∷ xs) at x is.0; passes = is.1 })

none_from : {X : Type 0} (p : X → Bool) (k : ℕ) (xs : List X) → position_from p k xs ≡ None → Each (λ x. p x ≡ false) xs
none_from p k [] h = tt
none_from {X} p k (x ∷ xs) h = by (p x) refl h (none_from p (k + 1) xs)
  where
    by : (b : Bool) → p x ≡ b → cond b (Some k) (position_from p (k + 1) xs) ≡ None → (position_from p (k + 1) xs ≡ None → Each (λ y. p y ≡ false) xs) → Each (λ y. p y ≡ false) (x ∷ xs)
    by true e h ih = absurd (none-some k (sym h))
    by false e h ih = (e, ih h)

pub not_any : {X : Type 0} (p : X → Bool) (xs : List X) → position p xs ≡ None → Each (λ x. p x ≡ false) xs
not_any p xs h = none_from p 0 xs (sym (position_from-zero p xs) ∙ h)

-- one is taken out

pub each_remove : {X : Type 0} (P : X → Type 0) (xs : List X) (at : ℕ) → Each P xs → Each P (remove xs at)
each_remove P [] zero e = tt
each_remove P [] (suc at) e = tt
each_remove P (x ∷ xs) zero e = e.1
each_remove P (x ∷ xs) (suc at) e = (e.0, each_remove P xs at e.1)

pub rises_remove : {X : Type 0} (f : X → ℕ) (a : ℕ) (xs : List X) (at : ℕ) → Rises a (map f xs) → Rises a (map f (remove xs at))
rises_remove f a [] zero r = tt
rises_remove f a [] (suc at) r = tt
rises_remove f a (x ∷ xs) zero r = rises_weaker a (f x) (map f xs) (omega (arith, r.0)) r.1
rises_remove f a (x ∷ xs) (suc at) r = (r.0, rises_remove f (f x) xs at r.1)

-- the others are still there
pub any_remove : {X : Type 0} (f : X → ℕ) (xs : List X) (at : ℕ) (q : X) (i : ℕ) → slice_get xs at ≡ Some q → nat_eq i (f q) ≡ false
    → list_any (nat_eq i) (map f xs) ≡ true → list_any (nat_eq i) (map f (remove xs at)) ≡ true
any_remove f [] at q i here other h = absurd (false≢true h)
any_remove f (x ∷ xs) zero q i here other h = sym (ap (λ b. b || list_any (nat_eq i) (map f xs)) (ap (λ z. nat_eq i (f z)) (same_Some x q here) ∙ other)) ∙ h
any_remove f (x ∷ xs) (suc at) q i here other h = by (nat_eq i (f x)) h (any_remove f xs at q i here other)
  where
    by : (b : Bool) → b || list_any (nat_eq i) (map f xs) ≡ true → (list_any (nat_eq i) (map f xs) ≡ true → list_any (nat_eq i) (map f (remove xs at)) ≡ true)
        → b || list_any (nat_eq i) (map f (remove xs at)) ≡ true
    by true h ih = refl
    by false h ih = ih h
