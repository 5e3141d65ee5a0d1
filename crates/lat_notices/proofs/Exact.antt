-- From the reader to the texts, and back.
use Rattle.std.proofs.Common.{◌≡◌, ℕ, suc, ◌+◌, ◌-◌, ◌*◌, ◌/◌, ◌%◌, ◌<◌, ◌≤◌, ◌⊎◌, inl, inr, Bool, true, false, List, [], ◌∷◌, ◌++◌, length, replicate, leb, Some, Result, Ok, Err, refl, sym, ap, ◌∙◌, subst, arith, length-append}
use Rattle.std.specs.Prelude.{IfOk}
use Rattle.std.proofs.lemmas.Bool.Decides.{nat_tests}
use Rattle.std.proofs.lemmas.List.{length-replicate}
use Rattle.lat_base.specs.declared.field.Bad.{Bad}
use Rattle.lat_base.specs.declared.field.Field.TheVariants.{Trailing}
use Rattle.lat_fields.specs.declared.fault.LayoutFault.{LayoutFault}
use Rattle.lat_fields.specs.Reading.{Gives, bad}
use Rattle.lat_fields.specs.Payloads.{PayloadText, padded}
use Rattle.lat_fields.proofs.Steps.{IsBytes}
use Rattle.lat_fields.proofs.Payloads.{payload_taken, payload_trailing, payload_found}
use Rattle.lat_notices.specs.declared.kind.NoticeKind.{NoticeKind}
use Rattle.lat_notices.specs.declared.notice.Notice.{Notice}
use Rattle.lat_notices.specs.Kinds.{bits_of, kind_of}
use Rattle.lat_notices.specs.Texts.{fields_text, type_of, NoticeText, notice_text, IsWritable}
use Rattle.lat_notices.specs.Reading.{fields_at, notice_read}
use Rattle.lat_notices.specs.Laws.{IsOneNotice, IsNoNotice}
use Rattle.lat_notices.proofs.TypeNumbers.{kind_back, kind_bits}
use Rattle.lat_notices.proofs.Taken.{fields_taken}
use Rattle.lat_notices.proofs.Found.{fields_found}
use Rattle.lat_notices.proofs.Writable.{written, text_len}

abbrev layout : NoticeKind → ℕ → List ℕ → Result (Notice × ℕ × List ℕ) Bad
layout kind first bytes = fields_at kind bytes

-- how a text's first byte and the rest of the payload are read
record Begins (n : Notice) (text rest : List ℕ) : Type 0 where
  first : ℕ
  is : text ++ rest ≡ first ∷ (fields_text n ++ rest)
  known : kind_of (first / 4) ≡ Some (type_of n)
  read : layout (type_of n) first (fields_text n ++ rest) ≡ Ok (n, length text, rest)

begins : (n : Notice) (text rest : List ℕ) → NoticeText n text → Begins n text rest
begins n text rest t =
    let bits = bits_of (type_of n) in
    let kind : (bits * 4 + t.low) / 4 ≡ bits = let b = t.low_bits in omega arith in
    let len : 1 + length (fields_text n) ≡ length text = omega (arith, ap length t.is) in
    record {
      first = bits * 4 + t.low;
      is = ap (λ bs. bs ++ rest) t.is;
      known = ap kind_of kind ∙ kind_back (type_of n);
      read = fields_taken n rest t.fits ∙ ap (λ (m : ℕ). Ok (n, m, rest)) len;
    }

pub text_taken : (n : Notice) (text rest : List ℕ) → NoticeText n text → length (text ++ rest) ≤ 1500 → (rest ≡ []) ⊎ (length (text ++ rest) ≤ 46) → notice_read (text ++ rest) ≡ Ok n
text_taken n text rest t size trailing =
    let b = begins n text rest t in
    payload_taken kind_of layout n (type_of n) b.first (length text) (fields_text n ++ rest) rest (text ++ rest) b.is b.known b.read size trailing

pub text_refused : (n : Notice) (text rest : List ℕ) → NoticeText n text → 0 < length rest → 46 < length (text ++ rest) → length (text ++ rest) ≤ 1500 → notice_read (text ++ rest) ≡ bad Trailing (length text)
text_refused n text rest t some long size =
    let b = begins n text rest t in
    payload_trailing kind_of layout n (type_of n) b.first (length text) (fields_text n ++ rest) rest (text ++ rest) b.is b.known b.read size some long

-- a payload that is a text of a notice is read as it
pub payload_read : (n : Notice) (payload : List ℕ) → PayloadText NoticeText n payload → notice_read payload ≡ Ok n
payload_read n payload p =
    let len : length payload ≡ length (p.text ++ p.rest) = ap length p.is in
    let P : ℕ → Type 0 = λ k. (p.rest ≡ []) ⊎ (k ≤ 46) in
    ap notice_read p.is ∙ text_taken n p.text p.rest p.of (omega (arith, len, p.size)) (subst P len p.trailing)

-- a payload that is read as a notice is a text of it
pub payload_is : (payload : List ℕ) (n : Notice) → IsBytes payload → notice_read payload ≡ Ok n → PayloadText NoticeText n payload
payload_is payload n all h =
    let f = payload_found kind_of layout payload n h in
    let shifted : IsBytes (f.first ∷ f.tail) = let P : List ℕ → Type 0 = IsBytes in subst P f.is all in
    let g = fields_found f.kind f.tail (n, f.place, f.rest) (λ i. shifted (suc i)) f.read in
    let byte : f.first ≡ bits_of (type_of n) * 4 + f.first % 4 = omega (arith, kind_bits (f.first / 4) f.kind f.kind_is, ap bits_of g.kind_is) in
    record {
      text = (bits_of (type_of n) * 4 + f.first % 4) ∷ fields_text n;
      rest = f.rest;
      is = f.is ∙ (λ i. byte i ∷ g.is i);
      of = record { fits = g.fits; low = f.first % 4; low_bits = omega arith; is = refl };
      size = f.size;
      trailing = f.trailing;
    }

pub found_from : (r : Result Notice LayoutFault) (payload : List ℕ) → IsBytes payload → Gives (λ (n : Notice). n) r (notice_read payload) → IfOk r (λ n. PayloadText NoticeText n payload)
found_from (Ok n) payload all h = payload_is payload n all h
found_from (Err e) payload all h = tt

pub only_from : (r : Result Notice LayoutFault) (payload : List ℕ) (n : Notice) → Gives (λ (n : Notice). n) r (notice_read payload) → PayloadText NoticeText n payload → Gives (λ (n : Notice). n) r (Ok n)
only_from r payload n h p = let P : Result Notice Bad → Type 0 = λ q. Gives (λ (n : Notice). n) r q in subst P (payload_read n payload p) h

abbrev zeros : List ℕ → List ℕ
zeros text = replicate (46 - length text) 0

padded_len : (text : List ℕ) → length (padded text) ≡ length text + (46 - length text)
padded_len text = omega (arith, length-append text (zeros text), length-replicate {A = ℕ} (46 - length text) 0)

padding_fits : (text : List ℕ) → length text ≤ 1500 → length (padded text) ≤ 1500
padding_fits text h = omega (arith, padded_len text)

short_or_none : (text : List ℕ) (b : Bool) → leb (length text) 46 ≡ b → (zeros text ≡ []) ⊎ (length (padded text) ≤ 46)
short_or_none text true h = let short : length text ≤ 46 = grind (arith, nat_tests) in inr (omega (arith, short, padded_len text))
short_or_none text false h = let none : 46 - length text ≡ 0 = grind (arith, nat_tests) in inl (ap (λ k. replicate {A = ℕ} k 0) none)

padded_as : (n : Notice) (text : List ℕ) → NoticeText n text → length text ≤ 1500 → PayloadText NoticeText n (padded text)
padded_as n text t size =
    record {
      text = text;
      rest = zeros text;
      is = refl;
      of = t;
      size = padding_fits text size;
      trailing = short_or_none text (leb (length text) 46) refl;
    }

-- what is written is a text with zeros behind it
pub padded_is : (n : Notice) → IsWritable n → PayloadText NoticeText n (padded (notice_text n))
padded_is n w = padded_as n (notice_text n) (written n w.of.fits) (omega (arith, text_len n w))

one_or_none : (payload : List ℕ) → IsBytes payload → (r : Result Notice Bad) → notice_read payload ≡ r → IsOneNotice payload ⊎ IsNoNotice payload
one_or_none payload all (Ok n) h =
    inl (record { notice = n; text = payload_is payload n all h; alone = (λ m p. let both : Ok m ≡ Ok n = sym (payload_read m payload p) ∙ h in cc); read = h })
one_or_none payload all (Err e) h =
    inr (record { field = e; none = (λ m p. let both : Ok m ≡ Err e = sym (payload_read m payload p) ∙ h in cc); read = h })

-- each payload is a text of one notice, or of none
pub outcome_of : (payload : List ℕ) → IsBytes payload → IsOneNotice payload ⊎ IsNoNotice payload
outcome_of payload all = one_or_none payload all (notice_read payload) refl
