-- Offers of lines that are there, no two of one line, and one more.
use Rattle.std.proofs.Common.{◌≡◌, ℕ, Bool, true, false, List, [], ◌∷◌, ◌++◌, refl, arith}
use Rattle.std.specs.Prelude.{not, ◌||◌, ◌==◌}
use Rattle.std.specs.List.{list_all, list_any}
use Rattle.std.proofs.lemmas.Bool.{and_parts}
use Rattle.std.proofs.lemmas.Bool.Decides.{nat_tests}
use Rattle.lat_words.specs.declared.settings.Offer.{Offer}
use Rattle.lat_words.specs.Within.{AreOffers, is_line, lines_apart}

all_more : {T : Type 0} (p : T → Bool) (xs : List T) (x : T) → list_all p xs ≡ true → p x ≡ true → list_all p (xs ++ x ∷ []) ≡ true
all_more p [] x all one = rw one refl
all_more p (y ∷ xs) x all one =
    let parts = and_parts (p y) (list_all p xs) all in
    rw (parts.0, all_more p xs x parts.1 one) refl

pub neither : (a b : Bool) → (a || b) ≡ false → (a ≡ false) × (b ≡ false)
neither true b h = absurd (let differ : true ≡ false = h in cc)
neither false b h = (refl, h)

pub isnt : (b : Bool) → not b ≡ true → b ≡ false
isnt true h = absurd (let differ : false ≡ true = h in cc)
isnt false h = refl

pub any_more : {T : Type 0} (p : T → Bool) (xs : List T) (x : T) → list_any p xs ≡ false → p x ≡ false → list_any p (xs ++ x ∷ []) ≡ false
any_more p [] x none one = rw one refl
any_more p (y ∷ xs) x none one =
    let parts = neither (p y) (list_any p xs) none in
    rw (parts.0, any_more p xs x parts.1 one) refl

turned : (a b : ℕ) → (a == b) ≡ false → (b == a) ≡ false
turned a b h = grind (arith, nat_tests)

apart_more : (os : List Offer) (x : Offer) → lines_apart os ≡ true → list_any (λ (o : Offer). o.line == x.line) os ≡ false → lines_apart (os ++ x ∷ []) ≡ true
apart_more [] x apart other = refl
apart_more (o ∷ os) x apart other =
    let parts = and_parts (not (list_any (λ (p : Offer). p.line == o.line) os)) (lines_apart os) apart in
    let others = neither (o.line == x.line) (list_any (λ (p : Offer). p.line == x.line) os) other in
    let none = isnt (list_any (λ (p : Offer). p.line == o.line) os) parts.0 in
    rw (any_more (λ (p : Offer). p.line == o.line) os x none (turned o.line x.line others.0), apart_more os x parts.1 others.1) refl

pub one_more : (lines : ℕ) (os : List Offer) (x : Offer) → AreOffers lines os → is_line lines x ≡ true → list_any (λ (o : Offer). o.line == x.line) os ≡ false
    → AreOffers lines (os ++ x ∷ [])
one_more lines os x are line other = record {
  each = all_more (is_line lines) os x are.each line;
  apart = apart_more os x are.apart other;
}
