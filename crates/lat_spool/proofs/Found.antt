-- What a search finds.
use Rattle.std.proofs.Common.{◌≡◌, ℕ, List, [], ◌∷◌, get_or}
use Rattle.std.specs.Prelude.{Bool, true, Some, slice_get, position}
use Rattle.std.proofs.lemmas.Option.{none-some, slice_get-get_or}
use Rattle.std.proofs.lemmas.List.Quantifiers.{position-Some}

-- at the place that a search gives stands an element that passes
pub record Found {X : Type 0} (p : X → Bool) (xs : List X) (at : ℕ) : Type 0 where
  pub item : X
  pub is : slice_get xs at ≡ Some item
  pub passes : p item ≡ true

pub found : {X : Type 0} (p : X → Bool) (xs : List X) (at : ℕ) → position p xs ≡ Some at → Found p xs at
found p [] at e = absurd (none-some at e)
found p (x ∷ xs) at e =
    let here = position-Some p (x ∷ xs) at x e in
    record { item = get_or (x ∷ xs) at x; is = slice_get-get_or (x ∷ xs) at x here.0; passes = here.1 }
