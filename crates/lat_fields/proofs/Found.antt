-- What is read of a field is its text.
use Rattle.std.proofs.Common.{◌≡◌, ℕ, zero, suc, ◌+◌, ◌*◌, ◌/◌, ◌%◌, ◌<◌, ◌≤◌, Bool, true, false, cond, eqb, ltb, List, [], ◌∷◌, ◌++◌, length, take, drop, Ok, is_ok, refl, sym, ap, ◌∙◌, subst, arith, append_assoc, length-append}
use Rattle.std.specs.List.{AllByRecursion}
use Rattle.std.proofs.lemmas.List.{take-append-drop, length-take-le}
use Rattle.std.proofs.lemmas.Bool.Decides.{nat_tests}
use Rattle.lat_base.specs.Names.{IsName, name_read}
use Rattle.lat_base.proofs.NameLemmas.{name_is}
use Rattle.lat_base.specs.declared.field.Field.{Field}
use Rattle.lat_base.specs.declared.field.Field.TheVariants.{Parameters}
use Rattle.lat_fields.specs.declared.params.Param.{Param}
use Rattle.lat_fields.specs.Reading.{◌>>=◌, bad, byte_at, number_at, counted_at, name_at}
use Rattle.lat_fields.specs.ParamsReading.{entry, params_at}
use Rattle.lat_fields.specs.Texts.{number, counted}
use Rattle.lat_fields.specs.Params.{IsEntry, params_text}
use Rattle.lat_fields.proofs.Steps.{IsBytes, bind_ok, guard_ok, chosen, behind}

pub record FoundByte (place : ℕ) (bytes : List ℕ) (x : ℕ × ℕ × List ℕ) : Type 0 where
  pub is : bytes ≡ x.0 ∷ x.2
  pub next : x.1 ≡ place + 1
  pub byte : x.0 < 256
  pub others : IsBytes x.2

pub byte_found : (f : Field) (at place : ℕ) (bytes : List ℕ) (x : ℕ × ℕ × List ℕ) → IsBytes bytes → byte_at f at place bytes ≡ Ok x → FoundByte place bytes x
byte_found f at place [] x all h = absurd (let no : bad f at ≡ Ok x = h in cc)
byte_found f at place (b ∷ rest) x all h =
    let e : (b, place + 1, rest) ≡ x = cc in
    let P : (ℕ × ℕ × List ℕ) → Type 0 = FoundByte place (b ∷ rest) in
    subst P e (record { is = refl; next = refl; byte = all 0; others = λ i. all (suc i) })

pub record FoundNumber (place : ℕ) (bytes : List ℕ) (x : ℕ × ℕ × List ℕ) : Type 0 where
  pub is : bytes ≡ number x.0 ++ x.2
  pub next : x.1 ≡ place + 2
  pub fits : x.0 < 65536
  pub others : IsBytes x.2

pub number_found : (f : Field) (place : ℕ) (bytes : List ℕ) (x : ℕ × ℕ × List ℕ) → IsBytes bytes → number_at f place bytes ≡ Ok x → FoundNumber place bytes x
unfolding number_at
number_found f place [] x all h = absurd (let no : bad f place ≡ Ok x = h in cc)
number_found f place (low ∷ []) x all h = absurd (let no : bad f place ≡ Ok x = h in cc)
number_found f place (low ∷ high ∷ rest) x all h =
    let e : (low + high * 256, place + 1 + 1, rest) ≡ x = cc in
    let l : low < 256 = all 0 in
    let h : high < 256 = all 1 in
    let first : low ≡ (low + high * 256) % 256 = omega arith in
    let second : high ≡ (low + high * 256) / 256 = omega arith in
    let P : (ℕ × ℕ × List ℕ) → Type 0 = FoundNumber place (low ∷ high ∷ rest) in
    subst P e (record { is = (λ i. first i ∷ second i ∷ rest); next = omega arith; fits = omega arith; others = λ i. all (suc (suc i)) })

pub record FoundText (place : ℕ) (bytes : List ℕ) (x : List ℕ × ℕ × List ℕ) : Type 0 where
  pub is : bytes ≡ counted x.0 ++ x.2
  pub next : x.1 ≡ place + 1 + length x.0
  pub short : length x.0 < 256
  pub others : IsBytes x.2

pub counted_found : (f : Field) (at place : ℕ) (bytes : List ℕ) (x : List ℕ × ℕ × List ℕ) → IsBytes bytes → counted_at f at place bytes ≡ Ok x → FoundText place bytes x
unfolding counted_at
counted_found f at place [] x all h = absurd (let no : bad f at ≡ Ok x = h in cc)
counted_found f at place (n ∷ rest) x all h =
    let g = guard_ok (ltb (length rest) n) (record { field = f; at = at }) (take n rest, place + 1 + n, drop n rest) x h in
    let room : n ≤ length rest = let b = g.0 in grind (arith, nat_tests) in
    let len : length (take n rest) ≡ n = length-take-le n rest room in
    let P : (List ℕ × ℕ × List ℕ) → Type 0 = FoundText place (n ∷ rest) in
    subst P g.1 (record {
      is = (λ i. sym len i ∷ sym (take-append-drop n rest) i);
      next = ap (λ k. place + 1 + k) (sym len);
      short = omega (arith, all 0, len);
      others = behind n rest (λ i. all (suc i));
    })

pub name_found : (f : Field) (place : ℕ) (bytes : List ℕ) (x : List ℕ × ℕ × List ℕ) → IsBytes bytes → name_at f place bytes ≡ Ok x → FoundText place bytes x × IsName x.0
unfolding name_at
name_found f place bytes x all h =
    let t = bind_ok (counted_at f place place bytes) (λ t. cond (is_ok (name_read t.0)) (Ok t) (bad f place)) x h in
    let g = chosen (is_ok (name_read t.0.0)) t.0 x (record { field = f; at = place }) t.2 in
    let P : (List ℕ × ℕ × List ℕ) → Type 0 = λ y. FoundText place bytes y × IsName y.0 in
    subst P g.1 (counted_found f place place bytes t.0 all t.1, name_is t.0.0 g.0)

pub record FoundParams (place : ℕ) (bytes : List ℕ) (x : List Param × ℕ × List ℕ) : Type 0 where
  pub is : bytes ≡ params_text x.0 ++ x.2
  pub next : x.1 ≡ place + length (params_text x.0)
  pub entries : AllByRecursion IsEntry x.0
  pub others : IsBytes x.2

params_step : (most place c : ℕ) (rest : List ℕ) (x : List Param × ℕ × List ℕ) (b : Bool) → eqb c 0 ≡ b → IsBytes (c ∷ rest)
    → ((p : ℕ) (bs : List ℕ) (y : List Param × ℕ × List ℕ) → IsBytes bs → params_at most p bs ≡ Ok y → FoundParams p bs y)
    → params_at (suc most) place (c ∷ rest) ≡ Ok x → FoundParams place (c ∷ rest) x
unfolding params_at
params_step most place c rest x true ends all more h =
    let read : Ok ([], place + 1, rest) ≡ Ok x = rw ends at h in
    let e : ([], place + 1, rest) ≡ x = cc in
    let none : c ≡ 0 = grind (arith, nat_tests) in
    let P : (List Param × ℕ × List ℕ) → Type 0 = FoundParams place (c ∷ rest) in
    subst P e (record { is = (λ i. none i ∷ rest); next = refl; entries = tt; others = λ i. all (suc i) })
params_step most place c rest x false some all more h =
    let t = bind_ok (counted_at Parameters place (place + 1) rest) (λ t. (params_at most t.1 t.2 >>= (λ m. Ok (entry c t.0 ∷ m.0, m.1, m.2)))) x (rw some at h) in
    let found = counted_found Parameters place (place + 1) rest t.0 (λ i. all (suc i)) t.1 in
    let m = bind_ok (params_at most t.0.1 t.0.2) (λ m. Ok (entry c t.0.0 ∷ m.0, m.1, m.2)) x t.2 in
    let others = more t.0.1 t.0.2 m.0 found.others m.1 in
    let e : (entry c t.0.0 ∷ m.0.0, m.0.1, m.0.2) ≡ x = let same = m.2 in cc in
    let P : (List Param × ℕ × List ℕ) → Type 0 = FoundParams place (c ∷ rest) in
    let regroup : c ∷ (counted t.0.0 ++ (params_text m.0.0 ++ m.0.2)) ≡ params_text (entry c t.0.0 ∷ m.0.0) ++ m.0.2 = simp append_assoc in
    let positive : 0 < c = grind (arith, nat_tests) in
    subst P e (record {
      is = ap (λ bs. c ∷ bs) (found.is ∙ ap (λ bs. counted t.0.0 ++ bs) others.is) ∙ regroup;
      next = others.next ∙ ap (λ n. n + length (params_text m.0.0)) found.next ∙ simp length-append (omega arith);
      entries = (record { code = positive; text = found.short }, others.entries);
      others = others.others;
    })

pub params_found : (most place : ℕ) (bytes : List ℕ) (x : List Param × ℕ × List ℕ) → IsBytes bytes → params_at most place bytes ≡ Ok x → FoundParams place bytes x
unfolding params_at
params_found zero place bytes x all h = absurd (let no : bad Parameters place ≡ Ok x = h in cc)
params_found (suc most) place [] x all h = absurd (let no : bad Parameters place ≡ Ok x = h in cc)
params_found (suc most) place (c ∷ rest) x all h =
    params_step most place c rest x (eqb c 0) refl all (λ p bs y more read. params_found most p bs y more read) h
