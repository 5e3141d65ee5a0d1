-- Addresses as numbers, and their bytes.
use Rattle.std.proofs.Common.{◌≡◌, ℕ, ◌+◌, ◌*◌, ◌/◌, ◌%◌, ◌<◌, List, [], ◌∷◌, length, get_or, refl, sym, ap, arith}
use Rattle.lat_machines.specs.values.Addresses.{address}
use Rattle.hex.specs.Hex.{encode_lower}
use Rattle.lat_base.specs.declared.addr.Addr.{Addr}
use Rattle.lat_text.specs.AddressText.{address_text}
use Rattle.lat_show.specs.choice.Printed.{low_bytes}

high_part : (n b : ℕ) → b < 256 → (256 * n + b) / 256 ≡ n
high_part n b h = omega (arith, h)

low_part : (n b : ℕ) → b < 256 → (256 * n + b) % 256 ≡ b
low_part n b h = omega (arith, h)

six : (a b c d e f : ℕ) → a < 256 → b < 256 → c < 256 → d < 256 → e < 256 → f < 256
    → low_bytes 6 (256 * (256 * (256 * (256 * (256 * (256 * 0 + a) + b) + c) + d) + e) + f) ≡ a ∷ b ∷ c ∷ d ∷ e ∷ f ∷ []
six a b c d e f ha hb hc hd he hf =
    let n0 = 256 * 0 + a in
    let n1 = 256 * n0 + b in
    let n2 = 256 * n1 + c in
    let n3 = 256 * n2 + d in
    let n4 = 256 * n3 + e in
    rw (high_part n4 f hf, low_part n4 f hf, high_part n3 e he, low_part n3 e he, high_part n2 d hd, low_part n2 d hd, high_part n1 c hc, low_part n1 c hc, high_part n0 b hb, low_part n0 b hb, low_part 0 a ha) refl

-- the six bytes of an address are those of its number
bytes_of_address : (bytes : List ℕ) → length bytes ≡ 6 → ((i : ℕ) → get_or bytes i 0 < 256) → low_bytes 6 (address bytes) ≡ bytes
bytes_of_address (a ∷ b ∷ c ∷ d ∷ e ∷ f ∷ []) long small = six a b c d e f (small 0) (small 1) (small 2) (small 3) (small 4) (small 5)
bytes_of_address [] long small = absurd (omega (arith, long))
bytes_of_address (a ∷ []) long small = absurd (omega (arith, long))
bytes_of_address (a ∷ b ∷ []) long small = absurd (omega (arith, long))
bytes_of_address (a ∷ b ∷ c ∷ []) long small = absurd (omega (arith, long))
bytes_of_address (a ∷ b ∷ c ∷ d ∷ []) long small = absurd (omega (arith, long))
bytes_of_address (a ∷ b ∷ c ∷ d ∷ e ∷ []) long small = absurd (omega (arith, long))
bytes_of_address (a ∷ b ∷ c ∷ d ∷ e ∷ f ∷ g ∷ more) long small = absurd (omega (arith, long))

-- so it prints as that number's bytes
pub station_printed : (station : Addr) → length station.0 ≡ 6 → ((i : ℕ) → get_or station.0 i 0 < 256) → address_text station ≡ encode_lower (low_bytes 6 (address station.0))
station_printed station long small = ap encode_lower (sym (bytes_of_address station.0 long small))
