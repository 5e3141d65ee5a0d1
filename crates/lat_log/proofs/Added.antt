-- Texts that grow.
use Rattle.std.proofs.Common.{◌≡◌, ℕ, List, ◌++◌, Result, OnOk, sym, ap, ◌∙◌}
use Rattle.std.proofs.lemmas.List.{append_assoc}
use Rattle.std.proofs.lemmas.Result.{on_ok_weaker}

-- one text behind another one is both
pub both : {T E : Type 0} (r : Result T E) (old mid new a b all : List ℕ) → mid ≡ old ++ a → OnOk r (new ≡ mid ++ b) → all ≡ a ++ b → OnOk r (new ≡ old ++ all)
both r old mid new a b all first second is =
    on_ok_weaker r (λ q. q ∙ (ap (λ t. t ++ b) first ∙ (append_assoc old a b ∙ ap (λ t. old ++ t) (sym is)))) second
