-- Services of which no two have the same name, and one more.
use Rattle.std.proofs.Common.{◌≡◌, ◌≤◌, ◌+◌, ℕ, Bool, true, false, List, [], ◌∷◌, ◌++◌, length, refl, sym, ◌∙◌, arith}
use Rattle.std.specs.Prelude.{not, ◌==◌, bytes_eq}
use Rattle.std.proofs.lemmas.Bool.{and_parts}
use Rattle.std.proofs.lemmas.Bool.Decides.{nat_tests}
use Rattle.std.proofs.lemmas.Slice.Eq.{bytes_eq-Decides}
use Rattle.std.proofs.lemmas.List.{length-append}
use Rattle.lat_base.specs.Names.{folded}
use Rattle.lat_words.specs.declared.settings.Service.{Service}
use Rattle.lat_words.specs.Services.{is_named, same}
use Rattle.lat_words.specs.Within.{AreServices, names_apart}
use Rattle.lat_words.proofs.OneMoreOffer.{neither, isnt, any_more}

other_way : (b : Bool) (x y : List ℕ) → bytes_eq y x ≡ b → bytes_eq x y ≡ false → b ≡ false
other_way false x y is h = refl
other_way true x y is h =
    let same : y ≡ x = (bytes_eq-Decides y x).0 is in
    absurd (let differ : true ≡ false = sym ((bytes_eq-Decides x y).1 (sym same)) ∙ h in cc)

turned : (a b : List ℕ) → same a b ≡ false → same b a ≡ false
turned a b h = other_way (same b a) (folded a) (folded b) refl h

apart_more : (xs : List Service) (x : Service) → names_apart xs ≡ true → is_named x.name xs ≡ false → names_apart (xs ++ x ∷ []) ≡ true
apart_more [] x apart other = refl
apart_more (s ∷ xs) x apart other =
    let parts = and_parts (not (is_named s.name xs)) (names_apart xs) apart in
    let others = neither (same x.name s.name) (is_named x.name xs) other in
    let none = isnt (is_named s.name xs) parts.0 in
    rw (any_more (λ (t : Service). same s.name t.name) xs x none (turned x.name s.name others.0), apart_more xs x parts.1 others.1) refl

few_more : (n m : ℕ) → m ≡ n + 1 → n ≤ 32 → (n == 32) ≡ false → m ≤ 32
few_more n m is few room = grind (arith, nat_tests)

pub one_more : (xs : List Service) (x : Service) → AreServices xs → (length xs == 32) ≡ false → is_named x.name xs ≡ false → AreServices (xs ++ x ∷ [])
one_more xs x are room other = record {
  few = few_more (length xs) (length (xs ++ x ∷ [])) (length-append xs (x ∷ [])) are.few room;
  apart = apart_more xs x are.apart other;
}
