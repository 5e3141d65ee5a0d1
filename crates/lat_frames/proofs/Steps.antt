-- Taking a chain of fields that was read apart, field by field. `rest` is what stands behind the field.
use Rattle.std.proofs.Common.{◌≡◌, ℕ, suc, ◌+◌, ◌<◌, Bool, true, false, List, [], ◌∷◌, ◌++◌, length, Result, Ok, refl, sym, subst}
use Rattle.std.specs.List.{AllByRecursion}
use Rattle.lat_base.specs.Names.{IsName}
use Rattle.lat_base.specs.declared.field.Bad.{Bad}
use Rattle.lat_base.specs.declared.field.Field.{Field}
use Rattle.lat_fields.specs.declared.params.Param.{Param}
use Rattle.lat_fields.specs.Reading.{◌>>=◌, bad, wanted, byte_at, number_at, counted_at, name_at}
use Rattle.lat_fields.specs.ParamsReading.{params_at}
use Rattle.lat_fields.specs.Texts.{number, counted}
use Rattle.lat_fields.specs.Params.{IsEntry, params_text}
use Rattle.lat_fields.proofs.Steps.{IsBytes, bind_ok}
use Rattle.lat_fields.proofs.Found.{number_found, counted_found, name_found, params_found}

abbrev ok : {A : Type 0} → A → Result A Bad
ok x = Ok x

pub same_ok : {A : Type 0} (x y : A) → ok x ≡ ok y → x ≡ y
same_ok x y h = cc

pub wanted_then : {B : Type 0} (holds : Bool) (f : Field) (at : ℕ) (k : Unit {0} → Result B Bad) (y : B) (R : Type 0) → (wanted holds f at >>= k) ≡ Ok y → (holds ≡ true → k tt ≡ Ok y → R) → R
wanted_then true f at k y R h go = go refl h
wanted_then false f at k y R h go = absurd (let no : bad f at ≡ Ok y = h in cc)

pub byte_then : {B : Type 0} (f : Field) (at place : ℕ) (bytes : List ℕ) (k : (ℕ × ℕ × List ℕ) → Result B Bad) (y : B) (R : List ℕ → Type 0) → IsBytes bytes → (byte_at f at place bytes >>= k) ≡ Ok y
    → ((b next : ℕ) (rest : List ℕ) → b < 256 → IsBytes rest → k (b, next, rest) ≡ Ok y → R (b ∷ rest)) → R bytes
byte_then f at place [] k y R all h go = absurd (let no : bad f at ≡ Ok y = h in cc)
byte_then f at place (b ∷ rest) k y R all h go = go b (place + 1) rest (all 0) (λ i. all (suc i)) h

pub number_then : {B : Type 0} (f : Field) (place : ℕ) (bytes : List ℕ) (k : (ℕ × ℕ × List ℕ) → Result B Bad) (y : B) (R : List ℕ → Type 0) → IsBytes bytes → (number_at f place bytes >>= k) ≡ Ok y
    → ((n next : ℕ) (rest : List ℕ) → IsBytes rest → k (n, next, rest) ≡ Ok y → R (number n ++ rest)) → R bytes
number_then f place bytes k y R all h go =
    let n = bind_ok (number_at f place bytes) k y h in
    let found = number_found f place bytes n.0 all n.1 in
    subst R (sym found.is) (go n.0.0 n.0.1 n.0.2 found.others n.2)

pub counted_then : {B : Type 0} (f : Field) (at place : ℕ) (bytes : List ℕ) (k : (List ℕ × ℕ × List ℕ) → Result B Bad) (y : B) (R : List ℕ → Type 0) → IsBytes bytes → (counted_at f at place bytes >>= k) ≡ Ok y
    → ((t : List ℕ) (next : ℕ) (rest : List ℕ) → length t < 256 → IsBytes rest → k (t, next, rest) ≡ Ok y → R (counted t ++ rest)) → R bytes
counted_then f at place bytes k y R all h go =
    let t = bind_ok (counted_at f at place bytes) k y h in
    let found = counted_found f at place bytes t.0 all t.1 in
    subst R (sym found.is) (go t.0.0 t.0.1 t.0.2 found.short found.others t.2)

pub name_then : {B : Type 0} (f : Field) (place : ℕ) (bytes : List ℕ) (k : (List ℕ × ℕ × List ℕ) → Result B Bad) (y : B) (R : List ℕ → Type 0) → IsBytes bytes → (name_at f place bytes >>= k) ≡ Ok y
    → ((t : List ℕ) (next : ℕ) (rest : List ℕ) → IsName t → IsBytes rest → k (t, next, rest) ≡ Ok y → R (counted t ++ rest)) → R bytes
name_then f place bytes k y R all h go =
    let t = bind_ok (name_at f place bytes) k y h in
    let found = name_found f place bytes t.0 all t.1 in
    subst R (sym found.0.is) (go t.0.0 t.0.1 t.0.2 found.1 found.0.others t.2)

pub params_then : {B : Type 0} (most place : ℕ) (bytes : List ℕ) (k : (List Param × ℕ × List ℕ) → Result B Bad) (y : B) (R : List ℕ → Type 0) → IsBytes bytes → (params_at most place bytes >>= k) ≡ Ok y
    → ((ps : List Param) (next : ℕ) (rest : List ℕ) → AllByRecursion IsEntry ps → IsBytes rest → k (ps, next, rest) ≡ Ok y → R (params_text ps ++ rest)) → R bytes
params_then most place bytes k y R all h go =
    let ps = bind_ok (params_at most place bytes) k y h in
    let found = params_found most place bytes ps.0 all ps.1 in
    subst R (sym found.is) (go ps.0.0 ps.0.1 ps.0.2 found.entries found.others ps.2)
