-- The number of two bytes.
use Rattle.std.proofs.Common.{◌≡◌, ℕ, ◌+◌, ◌*◌, arith, refl, List, [], ◌∷◌, length, get_or}
use Rattle.lat_stream.specs.Wire.{number_in}

pub number_two : (xs : List ℕ) (d : ℕ) → length xs ≡ 2 → number_in xs ≡ get_or xs 0 d + 256 * get_or xs 1 d
number_two [] d h = absurd (omega (arith, h))
number_two (a ∷ []) d h = absurd (omega (arith, h))
number_two (a ∷ b ∷ rest) d h = refl
