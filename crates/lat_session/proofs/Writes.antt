-- A list whose elements are written one after the other.
use Rattle.std.proofs.Common.{◌≡◌, ℕ, zero, suc, ◌+◌, ◌<◌, ap, ◌∙◌, refl, arith, List, [], ◌∷◌, ◌++◌, length, map, take, drop, replicate, get_or, slice_set}

mapped_more : {A : Type 0} (f : A → A) (xs : List A) (i : ℕ) (d : A) → i < length xs → slice_set (map f (take i xs) ++ drop i xs) i (f (get_or (map f (take i xs) ++ drop i xs) i d)) ≡ map f (take (suc i) xs) ++ drop (suc i) xs
mapped_more f [] i d l = absurd (omega (arith, l))
mapped_more f (x ∷ xs) zero d l = refl
mapped_more f (x ∷ xs) (suc i) d l = ap (λ z. f x ∷ z) (mapped_more f xs i d (omega (arith, l)))

replicated_more : {A : Type 0} (x : A) (xs : List A) (i : ℕ) → i < length xs → slice_set (replicate i x ++ drop i xs) i x ≡ replicate (suc i) x ++ drop (suc i) xs
replicated_more x [] i l = absurd (omega (arith, l))
replicated_more x (y ∷ xs) zero l = refl
replicated_more x (y ∷ xs) (suc i) l = ap (λ z. x ∷ z) (replicated_more x xs i (omega (arith, l)))

-- one more of them

pub mapped_next : {A : Type 0} (f : A → A) (xs : List A) (i : ℕ) (d : A) → i < length xs → slice_set (map f (take i xs) ++ drop i xs) i (f (get_or (map f (take i xs) ++ drop i xs) i d)) ≡ map f (take (i + 1) xs) ++ drop (i + 1) xs
mapped_next f xs i d l =
    let next : suc i ≡ i + 1 = omega arith in
    mapped_more f xs i d l ∙ ap (λ j. map f (take j xs) ++ drop j xs) next

pub replicated_next : {A : Type 0} (x : A) (xs : List A) (i : ℕ) → i < length xs → slice_set (replicate i x ++ drop i xs) i x ≡ replicate (i + 1) x ++ drop (i + 1) xs
replicated_next x xs i l =
    let next : suc i ≡ i + 1 = omega arith in
    replicated_more x xs i l ∙ ap (λ j. replicate j x ++ drop j xs) next
