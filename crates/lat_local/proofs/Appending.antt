-- Texts that grow at their end.
use Rattle.std.proofs.Common.{◌≡◌, ℕ, List, [], ◌∷◌, ◌++◌, Result, Ok, Err, OnOk, is_ok, refl, ap, ◌∙◌}
use Rattle.std.specs.Prelude.{if◌then◌else◌}

append_more : {A : Type 0} (xs ys zs : List A) → (xs ++ ys) ++ zs ≡ xs ++ (ys ++ zs)
append_more [] ys zs = refl
append_more (x ∷ xs) ys zs = ap (λ z. x ∷ z) (append_more xs ys zs)

-- what is added behind what was added
pub added : (t u v a b : List ℕ) → u ≡ t ++ a → v ≡ u ++ b → v ≡ t ++ (a ++ b)
added t u v a b h k = k ∙ (ap (λ z. z ++ b) h ∙ append_more t a b)

-- what is so behind a call that went well
pub if_ok : {A E : Type 0} (r : Result A E) (new old more whole : List ℕ) → new ≡ (if is_ok r then old ++ more else old) → old ++ more ≡ whole → OnOk r (new ≡ whole)
if_ok (Ok a) new old more whole h e = h ∙ e
if_ok (Err x) new old more whole h e = tt
