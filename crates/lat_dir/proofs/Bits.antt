-- Groups: bits of bytes, and bytes of masks.
use Rattle.std.proofs.Common.{◌≡◌, ℕ, zero, suc, ◌/◌, ◌%◌, ◌^◌, ◌<◌, min, not, ◌&&◌, ◌||◌, nat_eq, List, [], ◌∷◌, length, bit_and, refl, sym, ap, ◌∙◌, arith}
use Rattle.std.proofs.lemmas.Bool.Decides.{nat_tests}
use Rattle.std.specs.Int.{bit_at}
use Rattle.std.proofs.lemmas.Nat.Bits.{bit_at_lowest, bit_at-suc, bit_at_and, same_from_bits}
use Rattle.std.specs.List.{list_any, zip}
use Rattle.lat_model.specs.Lists.{is_empty}
use Rattle.lat_machines.specs.server.Directory.{share_bits, share_group}

-- Two bytes share a bit where `&` isn't 0: the halves of `&` are the `&` of the halves
and_half : (x y : ℕ) → bit_and x y / 2 ≡ bit_and (x / 2) (y / 2)
and_half x y = same_from_bits (bit_and x y / 2) (bit_and (x / 2) (y / 2)) (λ i.
    sym (bit_at-suc (bit_and x y) i) ∙ bit_at_and x y (suc i) ∙ ap2 x y i ∙ sym (bit_at_and (x / 2) (y / 2) i))
  where
    ap2 : (x y i : ℕ) → min (bit_at x (suc i)) (bit_at y (suc i)) ≡ min (bit_at (x / 2) i) (bit_at (y / 2) i)
    ap2 x y i = rw (bit_at-suc x i, bit_at-suc y i) refl

and_low : (x y : ℕ) → bit_and x y % 2 ≡ min (x % 2) (y % 2)
and_low x y = sym (bit_at_lowest (bit_and x y)) ∙ bit_at_and x y 0 ∙ rw (bit_at_lowest x, bit_at_lowest y) refl

step : (x y c d : ℕ) → c % 2 ≡ min (x % 2) (y % 2) → c / 2 ≡ d → ((nat_eq (x % 2) 1 && nat_eq (y % 2) 1) || not (nat_eq d 0)) ≡ not (nat_eq c 0)
step x y c d low half = grind (arith, nat_tests)

pub share_bits_is : (n x y : ℕ) → x < 2 ^ n → share_bits n x y ≡ not (nat_eq (bit_and x y) 0)
share_bits_is zero x y h =
    let none : x ≡ 0 = omega (arith, h) in
    rw none refl
share_bits_is (suc n) x y h =
    let half : x / 2 < 2 ^ n = omega (arith, h) in
    let more = share_bits_is n (x / 2) (y / 2) half in
    rw more (step x y (bit_and x y) (bit_and (x / 2) (y / 2)) (and_low x y) (and_half x y))

-- two masks share a group where two of their bytes share a bit
pub share_group_is : (xs ys : List ℕ) → list_any (λ p. share_bits 8 p.0 p.1) (zip xs ys) ≡ share_group xs ys
share_group_is [] ys = refl
share_group_is (x ∷ xs) [] = refl
share_group_is (x ∷ xs) (y ∷ ys) = ap (λ r. share_bits 8 x y || r) (share_group_is xs ys)

pub is_empty_is : (xs : List ℕ) → is_empty xs ≡ nat_eq (length xs) 0
is_empty_is [] = refl
is_empty_is (x ∷ xs) = grind (arith, nat_tests)
