-- One element more of a list.
use Rattle.std.proofs.Common.{◌≡◌, ◌<◌, ℕ, zero, suc, ◌+◌, List, [], ◌∷◌, ◌++◌, length, map, take, get_or, slice_get, Some, sym, ap, ◌∙◌, arith}
use Rattle.std.proofs.lemmas.List.{take_more, map-append}

pub next : {A : Type 0} (xs : List A) (k : ℕ) (x : A) → k < length xs → x ≡ get_or xs k x → take (k + 1) xs ≡ take k xs ++ x ∷ []
next xs k x less is = take_more xs k x less ∙ ap (λ y. take k xs ++ y ∷ []) (sym is)

-- what is made of the front of a list, piece by piece
pub next_pieces : {A B : Type 0} (f : List A → List B) → ((ls ms : List A) → f (ls ++ ms) ≡ f ls ++ f ms) → (xs : List A) (k : ℕ) (x : A) → k < length xs → x ≡ get_or xs k x →
    f (take (k + 1) xs) ≡ f (take k xs) ++ f (x ∷ [])
next_pieces f joins xs k x less is = ap f (next xs k x less is) ∙ joins (take k xs) (x ∷ [])

pub next_mapped : {A B : Type 0} (f : A → B) (xs : List A) (k : ℕ) (x : A) → k < length xs → x ≡ get_or xs k x → map f (take (k + 1) xs) ≡ map f (take k xs) ++ f x ∷ []
next_mapped f xs k x less is = next_pieces (map f) (λ ls ms. map-append f ls ms) xs k x less is

pub there : {A B : Type 0} (f : A → B) (xs : List A) (k : ℕ) (x : A) → k < length xs → x ≡ get_or xs k x → slice_get (map f xs) k ≡ Some (f x)
there f [] k x less is = absurd (omega (arith, less))
there f (y ∷ ys) zero x less is = ap (λ z. Some (f z)) (sym is)
there f (y ∷ ys) (suc k) x less is = there f ys k x (omega (arith, less)) is
