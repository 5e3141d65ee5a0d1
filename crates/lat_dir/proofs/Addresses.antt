-- Stations are told apart by their addresses as numbers.
use Rattle.std.proofs.Common.{◌≡◌, ℕ, ◌+◌, ◌*◌, ◌<◌, List, [], ◌∷◌, length, get_or, nat_eq, refl, sym, ap, subst, ◌∙◌, arith}
use Rattle.std.specs.Prelude.{bytes_eq}
use Rattle.std.specs.Bool.{one_answer}
use Rattle.std.proofs.lemmas.Bool.{eq-eqb, eqb-true}
use Rattle.std.proofs.lemmas.Slice.Eq.{bytes_eq-Decides}
use Rattle.lat_machines.specs.values.Addresses.{address}

-- six bytes
pub record IsStation (bytes : List ℕ) : Type 0 where
  pub long : length bytes ≡ 6
  pub small : (i : ℕ) → get_or bytes i 0 < 256

-- six bytes, in six numbers
record Six (xs : List ℕ) : Type 0 where
  a : ℕ
  b : ℕ
  c : ℕ
  d : ℕ
  e : ℕ
  f : ℕ
  is : xs ≡ a ∷ b ∷ c ∷ d ∷ e ∷ f ∷ []

six_of : (xs : List ℕ) → length xs ≡ 6 → Six xs
six_of (a ∷ b ∷ c ∷ d ∷ e ∷ f ∷ []) long = record { a = a; b = b; c = c; d = d; e = e; f = f; is = refl }
six_of [] long = absurd (omega (arith, long))
six_of (a ∷ []) long = absurd (omega (arith, long))
six_of (a ∷ b ∷ []) long = absurd (omega (arith, long))
six_of (a ∷ b ∷ c ∷ []) long = absurd (omega (arith, long))
six_of (a ∷ b ∷ c ∷ d ∷ []) long = absurd (omega (arith, long))
six_of (a ∷ b ∷ c ∷ d ∷ e ∷ []) long = absurd (omega (arith, long))
six_of (a ∷ b ∷ c ∷ d ∷ e ∷ f ∷ g ∷ more) long = absurd (omega (arith, long))

record Parts (n m b d : ℕ) : Type 0 where
  high : n ≡ m
  low : b ≡ d

parts : (n m b d : ℕ) → b < 256 → d < 256 → 256 * n + b ≡ 256 * m + d → Parts n m b d
parts n m b d small low e = record { high = omega (arith, small, low, e); low = omega (arith, small, low, e) }

-- those with one number are one
pub address_one : (xs ys : List ℕ) → IsStation xs → IsStation ys → address xs ≡ address ys → xs ≡ ys
address_one xs ys s t e = go (six_of xs s.long) (six_of ys t.long)
  where
    go : Six xs → Six ys → xs ≡ ys
    go p q =
        let same : address (p.a ∷ p.b ∷ p.c ∷ p.d ∷ p.e ∷ p.f ∷ []) ≡ address (q.a ∷ q.b ∷ q.c ∷ q.d ∷ q.e ∷ q.f ∷ []) = ap address (sym p.is) ∙ e ∙ ap address q.is in
        let small : (i : ℕ) → get_or (p.a ∷ p.b ∷ p.c ∷ p.d ∷ p.e ∷ p.f ∷ []) i 0 < 256 = subst (λ z. (i : ℕ) → get_or z i 0 < 256) p.is s.small in
        let low : (i : ℕ) → get_or (q.a ∷ q.b ∷ q.c ∷ q.d ∷ q.e ∷ q.f ∷ []) i 0 < 256 = subst (λ z. (i : ℕ) → get_or z i 0 < 256) q.is t.small in
        let i5 = parts (256 * (256 * (256 * (256 * (256 * 0 + p.a) + p.b) + p.c) + p.d) + p.e) (256 * (256 * (256 * (256 * (256 * 0 + q.a) + q.b) + q.c) + q.d) + q.e) p.f q.f (small 5) (low 5) same in
        let i4 = parts (256 * (256 * (256 * (256 * 0 + p.a) + p.b) + p.c) + p.d) (256 * (256 * (256 * (256 * 0 + q.a) + q.b) + q.c) + q.d) p.e q.e (small 4) (low 4) i5.high in
        let i3 = parts (256 * (256 * (256 * 0 + p.a) + p.b) + p.c) (256 * (256 * (256 * 0 + q.a) + q.b) + q.c) p.d q.d (small 3) (low 3) i4.high in
        let i2 = parts (256 * (256 * 0 + p.a) + p.b) (256 * (256 * 0 + q.a) + q.b) p.c q.c (small 2) (low 2) i3.high in
        let i1 = parts (256 * 0 + p.a) (256 * 0 + q.a) p.b q.b (small 1) (low 1) i2.high in
        let i0 = parts 0 0 p.a q.a (small 0) (low 0) i1.high in
        p.is
        ∙ ap (λ z. z ∷ p.b ∷ p.c ∷ p.d ∷ p.e ∷ p.f ∷ []) i0.low
        ∙ ap (λ z. q.a ∷ z ∷ p.c ∷ p.d ∷ p.e ∷ p.f ∷ []) i1.low
        ∙ ap (λ z. q.a ∷ q.b ∷ z ∷ p.d ∷ p.e ∷ p.f ∷ []) i2.low
        ∙ ap (λ z. q.a ∷ q.b ∷ q.c ∷ z ∷ p.e ∷ p.f ∷ []) i3.low
        ∙ ap (λ z. q.a ∷ q.b ∷ q.c ∷ q.d ∷ z ∷ p.f ∷ []) i4.low
        ∙ ap (λ z. q.a ∷ q.b ∷ q.c ∷ q.d ∷ q.e ∷ z ∷ []) i5.low
        ∙ sym q.is

-- the test of bytes is that of numbers
pub address_same : (xs ys : List ℕ) → IsStation xs → IsStation ys → bytes_eq xs ys ≡ nat_eq (address xs) (address ys)
address_same xs ys s t =
    one_answer (bytes_eq xs ys) (nat_eq (address xs) (address ys)) (bytes_eq-Decides xs ys)
    (λ h. address_one xs ys s t (eqb-true (address xs) (address ys) h), λ e. eq-eqb (address xs) (address ys) (ap address e))
