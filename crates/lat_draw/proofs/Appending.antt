-- Lists and texts that grow at their end.
use Rattle.std.proofs.Common.{◌≡◌, ℕ, zero, suc, ◌+◌, ◌-◌, ◌<◌, ◌≤◌, length, take, drop, List, [], ◌∷◌, ◌++◌, Some, slice_get, Result, Ok, Err, OnOk, is_ok, refl, sym, ap, ◌∙◌, arith}
use Rattle.std.specs.Prelude.{get_or, if◌then◌else◌}
use Rattle.std.proofs.Math.Seq.{take-nil}

pub append_more : {A : Type 0} (xs ys zs : List A) → (xs ++ ys) ++ zs ≡ xs ++ (ys ++ zs)
append_more [] ys zs = refl
append_more (x ∷ xs) ys zs = ap (λ z. x ∷ z) (append_more xs ys zs)

pub append_none : {A : Type 0} (xs : List A) → xs ++ [] ≡ xs
append_none [] = refl
append_none (x ∷ xs) = ap (λ z. x ∷ z) (append_none xs)

-- what is added behind what was added
pub added : (t u v a b : List ℕ) → u ≡ t ++ a → v ≡ u ++ b → v ≡ t ++ (a ++ b)
added t u v a b h k = k ∙ (ap (λ z. z ++ b) h ∙ append_more t a b)

pub three_in_one : (t a b c d : List ℕ) → t ++ (a ++ (b ++ (c ++ d))) ≡ t ++ ((a ++ (b ++ c)) ++ d)
three_in_one t a b c d = ap (λ z. t ++ z) (sym (append_more a (b ++ c) d ∙ ap (λ z. a ++ z) (append_more b c d)))

pub five_in_one : (t a b c d e f : List ℕ) → t ++ ((a ++ (b ++ c)) ++ (d ++ (e ++ f))) ≡ t ++ ((a ++ (b ++ (c ++ (d ++ e)))) ++ f)
five_in_one t a b c d e f =
    sym (three_in_one t a b c (d ++ (e ++ f)))
    ∙ ap (λ z. t ++ z)
    (sym (append_more a (b ++ (c ++ (d ++ e))) f
    ∙ ap (λ z. a ++ z) (append_more b (c ++ (d ++ e)) f ∙ ap (λ z. b ++ z) (append_more c (d ++ e) f ∙ ap (λ z. c ++ z) (append_more d e f)))))

-- what is so behind a call that went well
pub on_ok : {A E : Type 0} {P Q : Type 0} (r : Result A E) → OnOk r P → (P → Q) → OnOk r Q
on_ok (Ok a) p f = f p
on_ok (Err e) p f = tt

pub if_ok : {A E : Type 0} (r : Result A E) (new old more whole : List ℕ) → new ≡ (if is_ok r then old ++ more else old) → old ++ more ≡ whole → OnOk r (new ≡ whole)
if_ok (Ok a) new old more whole h e = h ∙ e
if_ok (Err x) new old more whole h e = tt

pub take_whole : {A : Type 0} (n : ℕ) (xs : List A) → length xs ≤ n → take n xs ≡ xs
take_whole n [] h = take-nil n
take_whole zero (x ∷ xs) h = let z : ⊥ = omega (arith, h) in absurd z
take_whole (suc n) (x ∷ xs) h = ap (λ z. x ∷ z) (take_whole n xs (omega (arith, h)))

-- one element more
pub take_one : {A : Type 0} (xs : List A) (k : ℕ) (x : A) → k < length xs → x ≡ get_or xs k x → take (suc k) xs ≡ take k xs ++ x ∷ []
take_one [] k x h e = let z : ⊥ = omega (arith, h) in absurd z
take_one (y ∷ ys) zero x h e = ap (λ z. z ∷ []) (sym e)
take_one (y ∷ ys) (suc k) x h e = ap (λ z. y ∷ z) (take_one ys k x (omega (arith, h)) e)

pub take_next : {A : Type 0} (xs : List A) (k : ℕ) (x : A) → k < length xs → x ≡ get_or xs k x → take (k + 1) xs ≡ take k xs ++ x ∷ []
take_next xs k x h e = let next : k + 1 ≡ suc k = omega arith in ap (λ n. take n xs) next ∙ take_one xs k x h e

same_some : {A : Type 0} (x p : A) → Some x ≡ Some p → x ≡ p
same_some x p q = cc

pub take_there : {A : Type 0} (xs : List A) (k : ℕ) (x : A) → slice_get xs k ≡ Some x → take (suc k) xs ≡ take k xs ++ x ∷ []
take_there [] k x q = let z : ⊥ = cc in absurd z
take_there (y ∷ ys) zero x q = ap (λ z. z ∷ []) (same_some y x q)
take_there (y ∷ ys) (suc k) x q = ap (λ z. y ∷ z) (take_there ys k x q)

pub dropped : {A : Type 0} (first n : ℕ) (ps : List A) → first ≤ n → slice_get (drop first ps) (n - first) ≡ slice_get ps n
dropped zero n ps h = ap (slice_get ps) (omega arith)
dropped (suc first) n [] h = refl
dropped (suc first) zero (p ∷ ps) h = let z : ⊥ = omega (arith, h) in absurd z
dropped (suc first) (suc n) (p ∷ ps) h =
    let less : suc n - suc first ≡ n - first = omega arith in
    ap (slice_get (drop first ps)) less ∙ dropped first n ps (omega (arith, h))

pub length_between : {A : Type 0} (first behind : ℕ) (ps : List A) → first ≤ behind → behind ≤ length ps → length (take (behind - first) (drop first ps)) ≡ behind - first
length_between first behind ps low high = length_take (behind - first) (drop first ps) (omega (arith, length_drop first ps, low, high))
  where
    length_drop : {A : Type 0} (n : ℕ) (xs : List A) → length (drop n xs) ≡ length xs - n
    length_drop zero xs = omega arith
    length_drop (suc n) [] = omega arith
    length_drop (suc n) (x ∷ xs) = length_drop n xs ∙ omega arith

    length_take : {A : Type 0} (n : ℕ) (xs : List A) → n ≤ length xs → length (take n xs) ≡ n
    length_take zero xs h = refl
    length_take (suc n) [] h = let z : ⊥ = omega (arith, h) in absurd z
    length_take (suc n) (x ∷ xs) h = ap suc (length_take n xs (omega (arith, h)))
