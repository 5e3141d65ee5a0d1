-- Lists that grow at their end, and places in lists of numbers.
use Rattle.std.proofs.Common.{◌≡◌, ℕ, zero, suc, ◌<◌, ◌⊎◌, inl, inr, sym, ap, ap₂, ◌∙◌, refl, subst, arith, List, [], ◌∷◌, ◌++◌, length, Some, slice_get, slice_set, map}
use Rattle.lat_model.specs.Lists.{Each}

-- an element of a list with one more at its end is one of the list, or the last
pub end_get : {X : Type 0} (xs : List X) (x : X) (i : ℕ) (y : X) → slice_get (xs ++ x ∷ []) i ≡ Some y → ((i < length xs) × (slice_get xs i ≡ Some y)) ⊎ ((i ≡ length xs) × (x ≡ y))
end_get [] x zero y e = inr (refl, cc)
end_get [] x (suc i) y e = let z : ⊥ = cc in absurd z
end_get (z ∷ xs) x zero y e = inl (omega arith, e)
end_get (z ∷ xs) x (suc i) y e = elim (end_get xs x i y e) as (λ s. ((suc i < length (z ∷ xs)) × (slice_get xs i ≡ Some y)) ⊎ ((suc i ≡ length (z ∷ xs)) × (x ≡ y))) [
  | inl h ↦ inl (omega (arith, h.0), h.1)
  | inr h ↦ inr (ap suc h.0, h.1)
]

head_is : (x y : ℕ) (xs ys : List ℕ) → x ∷ xs ≡ y ∷ ys → x ≡ y
head_is x y xs ys h = cc

tail_is : (x y : ℕ) (xs ys : List ℕ) → x ∷ xs ≡ y ∷ ys → xs ≡ ys
tail_is x y xs ys h = cc

each_mid : (P : ℕ → Type 0) (xs r : List ℕ) (i : ℕ) → Each P ((xs ++ i ∷ []) ++ r) → P i
each_mid P [] r i h = h.0
each_mid P (x ∷ xs) r i h = each_mid P xs r i h.1

-- where a number stands once, its place is known
pub same_place : (xs ys zs r : List ℕ) (i : ℕ) → Each (λ y. y < i) ys → Each (λ z. i < z) zs → (xs ++ i ∷ []) ++ r ≡ ys ++ i ∷ zs → length xs ≡ length ys
same_place [] [] zs r i l g e = refl
same_place [] (y ∷ ys) zs r i l g e = absurd (omega (arith, l.0, head_is i y r (ys ++ i ∷ zs) e))
same_place (x ∷ xs) [] zs r i l g e = absurd (omega (arith, each_mid (λ z. i < z) xs r i (subst (Each (λ z. i < z)) (sym (tail_is x i ((xs ++ i ∷ []) ++ r) zs e)) g)))
same_place (x ∷ xs) (y ∷ ys) zs r i l g e = ap suc (same_place xs ys zs r i l.1 g (tail_is x y ((xs ++ i ∷ []) ++ r) (ys ++ i ∷ zs) e))

-- what has the length of a front is the front
pub same_front : (xs ys zs r : List ℕ) → length xs ≡ length ys → xs ++ r ≡ ys ++ zs → (xs ≡ ys) × (r ≡ zs)
same_front [] [] zs r n e = (refl, e)
same_front [] (y ∷ ys) zs r n e = absurd (omega (arith, n))
same_front (x ∷ xs) [] zs r n e = absurd (omega (arith, n))
same_front (x ∷ xs) (y ∷ ys) zs r n e =
    let s : (xs ≡ ys) × (r ≡ zs) = same_front xs ys zs r (omega (arith, n)) (tail_is x y (xs ++ r) (ys ++ zs) e) in
    (ap₂ (λ a b. a ∷ b) (head_is x y (xs ++ r) (ys ++ zs) e) s.0, s.1)

-- an element is changed

pub map-set_same : {X Y : Type 0} (f : X → Y) (xs : List X) (i : ℕ) (x y : X) → slice_get xs i ≡ Some x → f y ≡ f x → map f (slice_set xs i y) ≡ map f xs
map-set_same f [] i x y e h = refl
map-set_same f (z ∷ xs) zero x y e h = let s : z ≡ x = cc in ap (λ a. a ∷ map f xs) (h ∙ ap f (sym s))
map-set_same f (z ∷ xs) (suc i) x y e h = ap (λ a. f z ∷ a) (map-set_same f xs i x y e h)

pub get_map : {X Y : Type 0} (f : X → Y) (xs : List X) (i : ℕ) (x : X) → slice_get xs i ≡ Some x → slice_get (map f xs) i ≡ Some (f x)
get_map f [] i x e = let z : ⊥ = cc in absurd z
get_map f (z ∷ xs) zero x e = let s : z ≡ x = cc in ap (λ a. Some (f a)) s
get_map f (z ∷ xs) (suc i) x e = get_map f xs i x e
