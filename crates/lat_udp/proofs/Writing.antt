-- What two writes, one behind the other, append.
use Rattle.std.proofs.Common.{◌≡◌, ℕ, ◌+◌, List, ◌++◌, take, drop, Option, sym, ap, ◌∙◌, subst, take-add}
use Rattle.std.specs.Io.KnownBytes.{Appends}
use Rattle.std.proofs.KnownBytes.{Appends-trans}

-- the front of a piece, and then the front of its rest
pub two_writes : (old mid new : Option (List ℕ)) (piece rest : List ℕ) (first more : ℕ) → Appends old mid (take first piece) → Appends mid new (take more rest) → rest ≡ drop first piece
    → Appends old new (take (first + more) piece)
two_writes old mid new piece rest first more front back is =
    subst (Appends old new) (sym (take-add first more piece ∙ ap (λ x. take first piece ++ take more x) (sym is)))
    (Appends-trans old mid new (take first piece) (take more rest) front back)
