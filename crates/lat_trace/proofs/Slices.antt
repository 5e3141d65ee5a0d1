-- Parts of lists that grow.
use Rattle.std.proofs.Common.{◌≡◌, ℕ, zero, suc, ◌-◌, ◌<◌, length, take, drop, List, [], ◌∷◌, ◌++◌, slice_get, refl, ap, ◌∙◌, arith}
use Rattle.std.proofs.lemmas.List.{length-append}
use Rattle.std.proofs.Math.Seq.{drop-append_seam, take-append_seam}

pub append_more : {A : Type 0} (xs ys zs : List A) → (xs ++ ys) ++ zs ≡ xs ++ (ys ++ zs)
append_more [] ys zs = refl
append_more (x ∷ xs) ys zs = ap (λ z. x ∷ z) (append_more xs ys zs)

-- what was added is found between the two lengths, whatever is added later
pub added : {A : Type 0} (xs new more : List A) → take (length (xs ++ new) - length xs) (drop (length xs) ((xs ++ new) ++ more)) ≡ new
added {A = A} xs new more =
    let count : length (xs ++ new) - length xs ≡ length new = omega (arith, length-append xs new) in
    ap (λ (z : List A). take (length (xs ++ new) - length xs) (drop (length xs) z)) (append_more xs new more)
    ∙ (ap (λ (z : List A). take (length (xs ++ new) - length xs) z) (drop-append_seam xs (new ++ more))
    ∙ (ap (λ n. take n (new ++ more)) count ∙ take-append_seam new more))

pub added_here : {A : Type 0} (xs new : List A) → drop (length xs) (xs ++ new) ≡ new
added_here xs new = drop-append_seam xs new

-- an early element stays
pub early : {A : Type 0} (xs more : List A) (i : ℕ) → i < length xs → slice_get (xs ++ more) i ≡ slice_get xs i
early [] more i h = let z : ⊥ = omega (arith, h) in absurd z
early (x ∷ xs) more zero h = refl
early (x ∷ xs) more (suc i) h = early xs more i (omega (arith, h))
