-- A table of tallies that grows.
use Rattle.std.proofs.Common.{◌≡◌, ℕ, zero, suc, List, [], ◌∷◌, ◌++◌, refl}
use Rattle.lat_wire.specs.declared.ledger.tallies.Tally.{Tally}
use Rattle.lat_wire.specs.ledger.Tallies.{nothing, tally_at}

-- nothing is counted of an id that comes to it, as of one that wasn't there
pub one_more : (ts : List Tally) (x : ℕ) → tally_at (ts ++ nothing ∷ []) x ≡ tally_at ts x
one_more [] zero = refl
one_more [] (suc x) = refl
one_more (t ∷ ts) zero = refl
one_more (t ∷ ts) (suc x) = one_more ts x
