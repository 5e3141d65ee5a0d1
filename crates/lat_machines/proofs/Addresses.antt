-- Addresses as numbers, and their bytes.
use Rattle.std.proofs.Common.{◌≡◌, ℕ, ◌+◌, ◌*◌, ◌/◌, ◌%◌, ◌<◌, List, [], ◌∷◌, length, get_or, refl, arith}
use Rattle.std.specs.Int.{bytes_high_first}
use Rattle.lat_machines.specs.values.Addresses.{address}

six : (a b c d e f : ℕ) → a < 256 → b < 256 → c < 256 → d < 256 → e < 256 → f < 256
    → bytes_high_first 6 (256 * (256 * (256 * (256 * (256 * (256 * 0 + a) + b) + c) + d) + e) + f) ≡ a ∷ b ∷ c ∷ d ∷ e ∷ f ∷ []
six a b c d e f ha hb hc hd he hf =
    let n : ℕ = 256 * (256 * (256 * (256 * (256 * (256 * 0 + a) + b) + c) + d) + e) + f in
    let i5 : n / 1099511627776 % 256 ≡ a = omega (arith, ha, hb, hc, hd, he, hf) in
    let i4 : n / 4294967296 % 256 ≡ b = omega (arith, hb, hc, hd, he, hf) in
    let i3 : n / 16777216 % 256 ≡ c = omega (arith, hc, hd, he, hf) in
    let i2 : n / 65536 % 256 ≡ d = omega (arith, hd, he, hf) in
    let i1 : n / 256 % 256 ≡ e = omega (arith, he, hf) in
    let i0 : n % 256 ≡ f = omega (arith, hf) in
    rw (i5, i4, i3, i2, i1, i0) refl

-- the six bytes of an address are those of its number
pub bytes_of_address : (bytes : List ℕ) → length bytes ≡ 6 → ((i : ℕ) → get_or bytes i 0 < 256) → bytes_high_first 6 (address bytes) ≡ bytes
bytes_of_address (a ∷ b ∷ c ∷ d ∷ e ∷ f ∷ []) long small = six a b c d e f (small 0) (small 1) (small 2) (small 3) (small 4) (small 5)
bytes_of_address [] long small = absurd (omega (arith, long))
bytes_of_address (a ∷ []) long small = absurd (omega (arith, long))
bytes_of_address (a ∷ b ∷ []) long small = absurd (omega (arith, long))
bytes_of_address (a ∷ b ∷ c ∷ []) long small = absurd (omega (arith, long))
bytes_of_address (a ∷ b ∷ c ∷ d ∷ []) long small = absurd (omega (arith, long))
bytes_of_address (a ∷ b ∷ c ∷ d ∷ e ∷ []) long small = absurd (omega (arith, long))
bytes_of_address (a ∷ b ∷ c ∷ d ∷ e ∷ f ∷ g ∷ more) long small = absurd (omega (arith, long))
