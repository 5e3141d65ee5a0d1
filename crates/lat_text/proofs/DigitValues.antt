-- The table of the digits' values.
use Rattle.std.proofs.Common.{◌≡◌, ℕ, zero, suc, ◌+◌, ◌<◌, ◌≤◌, List, [], ◌∷◌, slice_index, refl, ap, arith}
use Rattle.std.specs.Prelude.{Option, Some, None, unwrap_or}
use Rattle.std.proofs.lemmas.Bool.Decides.{nat_tests}
use Rattle.hex.specs.Hex.{hex_digit_value}

-- the value of a byte that is a hex digit, and 16 for each other byte
abbrev value_or_16 : ℕ → ℕ
value_or_16 b = unwrap_or (hex_digit_value b) 16

abbrev values_from : ℕ → ℕ → List ℕ
values_from zero at = []
values_from (suc n) at = value_or_16 at ∷ values_from n (suc at)

-- the values of all bytes
abbrev pub values : List ℕ
values = values_from 256 0

value_at : (n at k b : ℕ) → k < n → at + k ≡ b → slice_index (values_from n at) k ≡ value_or_16 b
value_at zero at k b lt is = absurd (omega (arith, lt))
value_at (suc n) at zero b lt is = let same : at ≡ b = omega (arith, is) in ap value_or_16 same
value_at (suc n) at (suc k) b lt is = value_at n (suc at) k b (omega (arith, lt)) (omega (arith, is))

-- the values of digits are below 16
value_below : (b v : ℕ) → hex_digit_value b ≡ Some v → v < 16
value_below b v h = grind (arith, nat_tests)

some_by : (read : Option ℕ) (t : ℕ) → t ≡ unwrap_or read 16 → t < 16 → Some t ≡ read
some_by None t is lt = absurd (omega (arith, is, lt))
some_by (Some v) t is lt = ap Some is

none_by : (read : Option ℕ) (t : ℕ) → t ≡ unwrap_or read 16 → 16 ≤ t → ((v : ℕ) → read ≡ Some v → v < 16) → None ≡ read
none_by None t is high below = refl
none_by (Some v) t is high below = let lt = below v refl in absurd (omega (arith, is, high, lt))

-- what the table says of a byte is the digit's value
pub digit_found : (b at : ℕ) → at ≡ b → b < 256 → slice_index values at < 16 → Some (slice_index values at) ≡ hex_digit_value b
digit_found b at is lt low = some_by (hex_digit_value b) (slice_index values at) (value_at 256 0 at b (omega (arith, is, lt)) (omega (arith, is))) low

pub digit_missing : (b at : ℕ) → at ≡ b → b < 256 → 16 ≤ slice_index values at → None ≡ hex_digit_value b
digit_missing b at is lt high = none_by (hex_digit_value b) (slice_index values at) (value_at 256 0 at b (omega (arith, is, lt)) (omega (arith, is))) high (value_below b)
