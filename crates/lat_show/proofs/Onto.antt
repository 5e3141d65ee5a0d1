-- One piece of text after another.
use Rattle.std.proofs.Common.{◌≡◌, ℕ, List, [], ◌∷◌, ◌++◌, append_assoc, ap, ◌∙◌, is_ok}
use Rattle.std.specs.Prelude.{Result, Ok, Err, OnOk, if◌then◌else◌}

-- a line of two pieces
pub line_of_two : {T E : Type 0} (r : Result T E) (old one two new a b : List ℕ) → one ≡ old ++ a → two ≡ one ++ b → new ≡ (if is_ok r then two ++ (10 ∷ []) else two)
    → OnOk r (new ≡ old ++ (a ++ (b ++ (10 ∷ []))))
line_of_two (Ok x) old one two new a b first second last =
    last ∙ ap (λ t. t ++ (10 ∷ [])) second ∙ ap (λ t. (t ++ b) ++ (10 ∷ [])) first ∙ append_assoc (old ++ a) b (10 ∷ []) ∙ append_assoc old a (b ++ (10 ∷ []))
line_of_two (Err e) old one two new a b first second last = tt

-- two pieces
pub two_pieces : {T E : Type 0} (r : Result T E) (old one new a b : List ℕ) → one ≡ old ++ a → OnOk r (new ≡ one ++ b) → OnOk r (new ≡ old ++ (a ++ b))
two_pieces (Ok x) old one new a b first last = last ∙ ap (λ t. t ++ b) first ∙ append_assoc old a b
two_pieces (Err e) old one new a b first last = tt
