-- Lists that are gone through place by place.
use Rattle.std.proofs.Common.{◌≡◌, ℕ, ◌+◌, ◌<◌, List, ◌∷◌, length, get_or, set, take, drop, sym, ◌∙◌, subst, arith}
use Rattle.std.specs.List.{AllZip}
use Rattle.std.proofs.lemmas.List.{drop_more, drop-set-lt, take_more_set}
use Rattle.std.proofs.lemmas.List.Elements.{all_zip_more}

-- where the rest of two lists is the same, so is the next item

pub next_same : {X : Type 0} (xs ys : List X) (i : ℕ) (x : X) → i < length xs → i < length ys → drop i ys ≡ drop i xs → x ≡ get_or ys i x → x ≡ get_or xs i x
next_same xs ys i x a b e is = let p : drop i ys ≡ get_or ys i x ∷ drop (i + 1) ys = drop_more ys i x b in let q : drop i xs ≡ get_or xs i x ∷ drop (i + 1) xs = drop_more xs i x a in cc

pub rest_same : {X : Type 0} (xs ys : List X) (i : ℕ) (y : X) → i < length xs → i < length ys → drop i ys ≡ drop i xs → drop (i + 1) (set ys i y) ≡ drop (i + 1) xs
rest_same xs ys i y a b e = let p : drop i ys ≡ get_or ys i y ∷ drop (i + 1) ys = drop_more ys i y b in let q : drop i xs ≡ get_or xs i y ∷ drop (i + 1) xs = drop_more xs i y a in drop-set-lt (i + 1) ys i y (omega arith) ∙ (cc)

-- one more item of a list is written over by one that it leads to
pub zip_more : {X : Type 0} (R : X → X → Type 0) (xs ys : List X) (i : ℕ) (x y : X) → i < length xs → i < length ys → drop i ys ≡ drop i xs → x ≡ get_or ys i x → AllZip R (take i xs) (take i ys) → R x y → AllZip R (take (i + 1) xs) (take (i + 1) (set ys i y))
zip_more R xs ys i x y a b e is z r = subst (λ zs. AllZip R (take (i + 1) xs) zs) (sym (take_more_set ys i y b)) (all_zip_more R xs (take i ys) i x y a (next_same xs ys i x a b e is) z r)
