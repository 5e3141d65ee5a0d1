-- What is known where a chain of fields was read.
use Rattle.std.proofs.Common.{◌≡◌, ℕ, zero, suc, ◌+◌, ◌<◌, Bool, true, false, ◌&&◌, ◌||◌, cond, List, [], ◌∷◌, length, drop, take, get_or, eqb, Option, Some, None, Result, Ok, Err, refl, arith}
use Rattle.std.proofs.lemmas.List.{get_or-drop}
use Rattle.std.proofs.lemmas.Bool.Decides.{nat_tests}
use Rattle.lat_base.specs.declared.field.Bad.{Bad}
use Rattle.lat_base.specs.declared.field.Field.{Field}
use Rattle.lat_fields.specs.Reading.{◌>>=◌, bad, wanted, known}

-- each is a byte
abbrev pub IsBytes : List ℕ → Type 0
IsBytes bytes = (i : ℕ) → get_or bytes i 0 < 256

pub bind_ok : {A B : Type 0} (r : Result A Bad) (f : A → Result B Bad) (y : B) → (r >>= f) ≡ Ok y → (x : A) × (r ≡ Ok x) × (f x ≡ Ok y)
bind_ok (Ok x) f y h = (x, refl, h)
bind_ok (Err e) f y h = absurd (let no : Err e ≡ Ok y = h in cc)

pub guard_ok : {A : Type 0} (b : Bool) (e : Bad) (x y : A) → cond b (Err e) (Ok x) ≡ Ok y → (b ≡ false) × (x ≡ y)
guard_ok true e x y h = absurd (let no : Err e ≡ Ok y = h in cc)
guard_ok false e x y h = (refl, cc)

pub chosen : {A : Type 0} (b : Bool) (x y : A) (e : Bad) → cond b (Ok x) (Err e) ≡ Ok y → (b ≡ true) × (x ≡ y)
chosen true x y e h = (refl, cc)
chosen false x y e h = absurd (let no : Err e ≡ Ok y = h in cc)

pub wanted_ok : (b : Bool) (f : Field) (at : ℕ) (u : Unit {0}) → wanted b f at ≡ Ok u → b ≡ true
wanted_ok true f at u h = refl
wanted_ok false f at u h = absurd (let no : bad f at ≡ Ok u = h in cc)

pub known_ok : {A : Type 0} (found : Option A) (f : Field) (at : ℕ) (x : A) → known found f at ≡ Ok x → found ≡ Some x
known_ok (Some y) f at x h = cc
known_ok None f at x h = absurd (let no : bad f at ≡ Ok x = h in cc)

pub both : (a b : Bool) → (a && b) ≡ true → (a ≡ true) × (b ≡ true)
both true b h = (refl, h)
both false b h = absurd (let no : false ≡ true = h in cc)

pub no_bytes : (xs : List ℕ) → eqb (length xs) 0 ≡ true → xs ≡ []
no_bytes [] h = refl
no_bytes (x ∷ xs) h = absurd (grind (arith, nat_tests))

pub behind : (n : ℕ) (bytes : List ℕ) → IsBytes bytes → IsBytes (drop n bytes)
behind n bytes h = λ i. rw (get_or-drop n bytes i 0) (h (n + i))

pub in_front : (n : ℕ) (bytes : List ℕ) → IsBytes bytes → IsBytes (take n bytes)
in_front zero bytes h i = omega arith
in_front (suc n) [] h i = omega arith
in_front (suc n) (b ∷ bs) h zero = h 0
in_front (suc n) (b ∷ bs) h (suc i) = in_front n bs (λ j. h (suc j)) i

pub or_true : (a b : Bool) → b ≡ true → (a || b) ≡ true
or_true true b h = refl
or_true false b h = h
