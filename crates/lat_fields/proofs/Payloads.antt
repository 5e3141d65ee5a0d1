-- Payloads: a text with what stands behind it.
use Rattle.std.proofs.Common.{◌≡◌, ℕ, ◌/◌, ◌<◌, ◌≤◌, Bool, true, false, ◌||◌, ◌⊎◌, inl, inr, eqb, leb, List, [], ◌∷◌, length, Option, Some, Result, Ok, refl, sym, ap, ◌∙◌, arith}
use Rattle.std.proofs.lemmas.Bool.Decides.{nat_tests}
use Rattle.lat_base.specs.declared.field.Bad.{Bad}
use Rattle.lat_base.specs.declared.field.Field.TheVariants.{Size, Kind, Trailing}
use Rattle.lat_fields.specs.Reading.{◌>>=◌, bad, wanted, known}
use Rattle.lat_fields.specs.Payloads.{payload_at}
use Rattle.lat_fields.proofs.Steps.{bind_ok, wanted_ok, known_ok, no_bytes, or_true}

ends_right : (rest payload : List ℕ) → (rest ≡ []) ⊎ (length payload ≤ 46) → (eqb (length rest) 0 || leb (length payload) 46) ≡ true
ends_right rest payload (inl none) = rw (ap length none) refl
ends_right rest payload (inr short) = let right : leb (length payload) 46 ≡ true = grind (arith, nat_tests) in or_true (eqb (length rest) 0) (leb (length payload) 46) right

-- where the layout reads the text and gives what stands behind it, the payload is read as the value
pub payload_taken : {K V : Type 0} (kind_of : ℕ → Option K) (layout : K → ℕ → List ℕ → Result (V × ℕ × List ℕ) Bad) (v : V) (k : K) (first place : ℕ) (tail rest payload : List ℕ)
    → payload ≡ first ∷ tail → kind_of (first / 4) ≡ Some k → layout k first tail ≡ Ok (v, place, rest) → length payload ≤ 1500 → (rest ≡ []) ⊎ (length payload ≤ 46)
    → payload_at kind_of layout payload ≡ Ok v
payload_taken kind_of layout v k first place tail rest payload is kind read size trailing =
    let fits : leb (length payload) 1500 ≡ true = grind (arith, nat_tests) in
    rw (fits, is) (rw (kind, read, ap (λ p. eqb (length rest) 0 || leb (length p) 46) (sym is) ∙ ends_right rest payload trailing) refl)

-- with something behind it, and 47 bytes or more, it is refused there
pub payload_trailing : {K V : Type 0} (kind_of : ℕ → Option K) (layout : K → ℕ → List ℕ → Result (V × ℕ × List ℕ) Bad) (v : V) (k : K) (first place : ℕ) (tail rest payload : List ℕ)
    → payload ≡ first ∷ tail → kind_of (first / 4) ≡ Some k → layout k first tail ≡ Ok (v, place, rest) → length payload ≤ 1500 → 0 < length rest → 46 < length payload
    → payload_at kind_of layout payload ≡ bad Trailing place
payload_trailing kind_of layout v k first place tail rest payload is kind read size some long =
    let fits : leb (length payload) 1500 ≡ true = grind (arith, nat_tests) in
    let one : eqb (length rest) 0 ≡ false = grind (arith, nat_tests) in
    let two : leb (length payload) 46 ≡ false = grind (arith, nat_tests) in
    rw (fits, is) (rw (kind, read, one, ap (λ p. leb (length p) 46) (sym is) ∙ two) refl)

-- What a payload that is read is made of.
pub record FoundPayload {K V : Type 0} (kind_of : ℕ → Option K) (layout : K → ℕ → List ℕ → Result (V × ℕ × List ℕ) Bad) (payload : List ℕ) (v : V) : Type 0 where
  pub kind : K
  pub first : ℕ
  pub tail : List ℕ
  pub place : ℕ
  pub rest : List ℕ
  pub is : payload ≡ first ∷ tail
  pub kind_is : kind_of (first / 4) ≡ Some kind
  pub read : layout kind first tail ≡ Ok (v, place, rest)
  pub size : length payload ≤ 1500
  pub trailing : (rest ≡ []) ⊎ (length payload ≤ 46)

ends_known : (a : Bool) (rest payload : List ℕ) → eqb (length rest) 0 ≡ a → (a || leb (length payload) 46) ≡ true → (rest ≡ []) ⊎ (length payload ≤ 46)
ends_known true rest payload none h = inl (no_bytes rest none)
ends_known false rest payload some h = inr (grind (arith, nat_tests))

pub payload_found : {K V : Type 0} (kind_of : ℕ → Option K) (layout : K → ℕ → List ℕ → Result (V × ℕ × List ℕ) Bad) (payload : List ℕ) (v : V)
    → payload_at kind_of layout payload ≡ Ok v → FoundPayload kind_of layout payload v
payload_found kind_of layout [] v h =
    let s = bind_ok (wanted true Size 1500) (λ s. bad Kind 0) v h in
    absurd (let no : bad Kind 0 ≡ Ok v = s.2 in cc)
payload_found {K = K} {V = V} kind_of layout (first ∷ tail) v h =
    let end : (V × ℕ × List ℕ) → Unit {0} → Result V Bad = λ x t. Ok x.0 in
    let after : (V × ℕ × List ℕ) → Result V Bad = λ x. (wanted (eqb (length x.2) 0 || leb (length (first ∷ tail)) 46) Trailing x.1 >>= end x) in
    let body : K → Result V Bad = λ k. (layout k first tail >>= after) in
    let s = bind_ok (wanted (leb (length (first ∷ tail)) 1500) Size 1500) (λ s. (known (kind_of (first / 4)) Kind 0 >>= body)) v h in
    let k = bind_ok (known (kind_of (first / 4)) Kind 0) body v s.2 in
    let m = bind_ok (layout k.0 first tail) after v k.2 in
    let t = bind_ok (wanted (eqb (length m.0.2) 0 || leb (length (first ∷ tail)) 46) Trailing m.0.1) (end m.0) v m.2 in
    let same : m.0.0 ≡ v = let q = t.2 in cc in
    let fits : leb (length (first ∷ tail)) 1500 ≡ true = wanted_ok (leb (length (first ∷ tail)) 1500) Size 1500 s.0 s.1 in
    record {
      kind = k.0;
      first = first;
      tail = tail;
      place = m.0.1;
      rest = m.0.2;
      is = refl;
      kind_is = known_ok (kind_of (first / 4)) Kind 0 k.0 k.1;
      read = m.1 ∙ ap (λ (w : V). Ok (w, m.0.1, m.0.2)) same;
      size = grind (arith, nat_tests);
      trailing = ends_known (eqb (length m.0.2) 0) m.0.2 (first ∷ tail) refl (wanted_ok (eqb (length m.0.2) 0 || leb (length (first ∷ tail)) 46) Trailing m.0.1 t.0 t.1);
    }
