-- Bytes written as hex digits.
use Rattle.std.proofs.Common.{◌≡◌, ◌/◌, ◌%◌, ◌<◌, ℕ, List, [], ◌∷◌, ◌++◌, slice_index, length, arith, refl, ap}
use Rattle.hex.specs.Hex.{encode_with, encode_lower, lower_digits}
use Rattle.lat_text.specs.HexText.{byte_text, hex_text}

-- what is written of two lists stands one behind the other
pub encode_with-++ : (t xs ys : List ℕ) → encode_with t (xs ++ ys) ≡ encode_with t xs ++ encode_with t ys
unfolding encode_with
encode_with-++ t [] ys = refl
encode_with-++ t (b ∷ xs) ys = ap (λ rest. slice_index t (b / 16) ∷ slice_index t (b % 16) ∷ rest) (encode_with-++ t xs ys)

-- nothing is written of no byte
pub encode_none : encode_lower [] ≡ []
unfolding encode_with
encode_none = refl

-- the two digits of a byte
pub byte_written : (b : ℕ) → byte_text b ≡ slice_index lower_digits (b / 16) ∷ slice_index lower_digits (b % 16) ∷ []
unfolding encode_with byte_text
byte_written b = refl

-- what a byte is written as is what a list of it is written as
pub byte_encoded : (b : ℕ) → byte_text b ≡ encode_lower (b ∷ [])
unfolding byte_text
byte_encoded b = refl

-- a list with a byte in it
pub hex_some : (bytes : List ℕ) → 0 < length bytes → hex_text bytes ≡ encode_lower bytes
hex_some [] h = absurd (omega (arith, h))
hex_some (b ∷ bytes) h = refl
