-- The first word that has a property, from left to right.
use Rattle.std.proofs.Common.{◌≡◌, ℕ, zero, suc, ◌<◌, Bool, true, false, List, [], ◌∷◌, length, map, drop, refl, sym, ap, ◌∙◌, arith, slice_index_or}
use Rattle.std.specs.Prelude.{Some, find}
use Rattle.clap.specs.Words.{Text}

-- it is this one
pub found_here : {B : Type 0} (p : Text → Bool) (f : B → Text) (xs : List B) (i : ℕ) (x : B) → i < length xs → x ≡ slice_index_or xs i x → p (f x) ≡ true
    → find p (drop i (map f xs)) ≡ Some (f x)
found_here p f [] i x h at has = absurd (omega (arith, h))
found_here p f (y ∷ xs) zero x h at has =
    let here : p (f y) ≡ true = ap (λ z. p (f z)) (sym at) ∙ has in
    rw here (ap (λ z. Some (f z)) (sym at))
found_here p f (y ∷ xs) (suc i) x h at has = found_here p f xs i x (omega (arith, h)) at has

-- it is a later one
pub found_later : {B : Type 0} (p : Text → Bool) (f : B → Text) (xs : List B) (i : ℕ) (x : B) → i < length xs → x ≡ slice_index_or xs i x → p (f x) ≡ false
    → find p (drop i (map f xs)) ≡ find p (drop (suc i) (map f xs))
found_later p f [] i x h at hasnt = absurd (omega (arith, h))
found_later p f (y ∷ xs) zero x h at hasnt =
    let here : p (f y) ≡ false = ap (λ z. p (f z)) (sym at) ∙ hasnt in
    rw here refl
found_later p f (y ∷ xs) (suc i) x h at hasnt = found_later p f xs i x (omega (arith, h)) at hasnt
