-- A text of a slot is read as that slot, whatever stands behind it.
use Rattle.std.proofs.Common.{◌≡◌, ℕ, suc, ◌+◌, ◌*◌, ◌/◌, ◌%◌, ◌<◌, ◌≤◌, true, eqb, ltb, leb, List, [], ◌∷◌, ◌++◌, length, take, drop, Ok, refl, sym, ap, ◌∙◌, arith, append_assoc, append-nil, length-append}
use Rattle.std.specs.List.{AllByRecursion}
use Rattle.std.proofs.lemmas.List.{take_at, drop_at}
use Rattle.std.proofs.lemmas.Bool.Decides.{nat_tests}
use Rattle.lat_base.specs.Names.{IsName}
use Rattle.lat_base.specs.declared.field.Field.TheVariants.{Service, Subject}
use Rattle.lat_fields.specs.declared.params.Param.{Param}
use Rattle.lat_fields.specs.ParamsReading.{params_at}
use Rattle.lat_fields.specs.Texts.{counted}
use Rattle.lat_fields.specs.Params.{IsEntry, params_text}
use Rattle.lat_fields.proofs.Taken.{counted_taken, name_taken, params_taken, fewer_entries}
use Rattle.lat_slots.specs.declared.kind.SlotKind.{SlotKind}
use Rattle.lat_slots.specs.declared.kind.SlotKind.TheVariants as kinds
use Rattle.lat_slots.specs.declared.slot.Slot.{Slot}
use Rattle.lat_slots.specs.declared.slot.Slot.TheVariants.{Start, DataA, DataB, Attention, Reject, Stop}
use Rattle.lat_slots.specs.Kinds.{bits_of}
use Rattle.lat_slots.specs.Reading.{headed, destination_fits, source_fits, count_fits, asked_at, start_at, body_at, fitting, head_at, slot_at}
use Rattle.lat_slots.specs.Layout.{body_of, type_of, to_of, from_of, HasLow, Fits, SlotText}
use Rattle.lat_slots.proofs.TypeNumbers.{kind_back}

head_taken : (place : ℕ) (k : SlotKind) (low to from n : ℕ) (tail : List ℕ) → low < 16 → destination_fits k to ≡ true → source_fits k from ≡ true → count_fits k n ≡ true → n ≤ length tail
    → head_at place (to ∷ from ∷ n ∷ (bits_of k * 16 + low) ∷ tail) ≡ Ok (headed k low to from n)
unfolding head_at fitting
head_taken place k low to from n tail nibble to_ok from_ok count whole =
    let high : (bits_of k * 16 + low) / 16 ≡ bits_of k = omega arith in
    let rest : (bits_of k * 16 + low) % 16 ≡ low = omega arith in
    let room : leb (4 + n) (length (to ∷ from ∷ n ∷ (bits_of k * 16 + low) ∷ tail)) ≡ true = grind (arith, nat_tests) in
    let four : ltb 3 (length (to ∷ from ∷ n ∷ (bits_of k * 16 + low) ∷ tail)) ≡ true = grind (arith, nat_tests) in
    rw (four, high, rest, kind_back k, to_ok, from_ok, count, room) refl

start_taken : (most low to from count attention size : ℕ) (service subject : List ℕ) (params : List Param) (place : ℕ) → 0 < size → IsName service → AllByRecursion IsEntry params → length params < most
    → start_at most (headed kinds.Start low to from count) place (1 ∷ attention ∷ size ∷ counted service ++ (counted subject ++ params_text params)) ≡ Ok (Start to from low attention size service subject params)
unfolding start_at asked_at
start_taken most low to from count attention size service subject params place big name entries more =
    let one : ltb 0 size ≡ true = grind (arith, nat_tests) in
    let p1 = place + 1 + 1 + 1 in
    let p2 = p1 + 1 + length service in
    let p3 = p2 + 1 + length subject in
    let all : params_at most p3 (params_text params) ≡ Ok (params, p3 + length (params_text params), []) =
    ap (params_at most p3) (sym (append-nil (params_text params))) ∙ params_taken params most p3 [] entries more in
    rw (one, name_taken Service p1 service (counted subject ++ params_text params) name, counted_taken Subject p2 p2 subject (params_text params), all) refl

-- the reading of the head, the body and the pad, put together
whole_taken : (s : Slot) (place low : ℕ) (pad rest : List ℕ) → low < 16 → destination_fits (type_of s) (to_of s) ≡ true → source_fits (type_of s) (from_of s) ≡ true
    → count_fits (type_of s) (length (body_of s)) ≡ true → length pad ≡ length (body_of s) % 2
    → body_at (place + 4 + length (body_of s) + 1) (headed (type_of s) low (to_of s) (from_of s) (length (body_of s))) (place + 4) (body_of s) ≡ Ok s
    → slot_at place (to_of s ∷ from_of s ∷ length (body_of s) ∷ (bits_of (type_of s) * 16 + low) ∷ body_of s ++ pad ++ rest) ≡ Ok (s, place + 4 + length (body_of s) + length (body_of s) % 2, rest)
unfolding slot_at
whole_taken s place low pad rest nibble to_ok from_ok count padded body =
    let n = length (body_of s) in
    let lens : length (body_of s ++ pad ++ rest) ≡ n + length pad + length rest = simp length-append in
    let heads = head_taken place (type_of s) low (to_of s) (from_of s) n (body_of s ++ pad ++ rest) nibble to_ok from_ok count (omega arith) in
    let own : take n (body_of s ++ pad ++ rest) ≡ body_of s = ap (take n) (append_assoc (body_of s) pad rest) ∙ take_at (body_of s) (pad ++ rest) n refl in
    let room : leb (4 + n + n % 2) (length (to_of s ∷ from_of s ∷ n ∷ (bits_of (type_of s) * 16 + low) ∷ body_of s ++ pad ++ rest)) ≡ true = grind (arith, nat_tests) in
    let text = to_of s ∷ from_of s ∷ n ∷ (bits_of (type_of s) * 16 + low) ∷ body_of s ++ pad in
    let size : length text ≡ 4 + n + n % 2 = omega (arith, length-append (body_of s) pad, padded) in
    let others : drop (4 + n + n % 2) (text ++ rest) ≡ rest = drop_at text rest (4 + n + n % 2) size in
    rw (heads, own, body, room) (ap (λ r. Ok (s, place + 4 + n + n % 2, r)) others)

positive : (n : ℕ) → 0 < n → ltb 0 n ≡ true
positive n h = grind (arith, nat_tests)

record Facts (s : Slot) (place low : ℕ) : Type 0 where
  to_ok : destination_fits (type_of s) (to_of s) ≡ true
  from_ok : source_fits (type_of s) (from_of s) ≡ true
  counts : count_fits (type_of s) (length (body_of s)) ≡ true
  body : body_at (place + 4 + length (body_of s) + 1) (headed (type_of s) low (to_of s) (from_of s) (length (body_of s))) (place + 4) (body_of s) ≡ Ok s

facts : (s : Slot) (place low : ℕ) → Fits s → HasLow s low → Facts s place low
unfolding body_at
facts (DataA to from credits bytes) place low f l =
    record { to_ok = positive to f.0; from_ok = positive from f.1; counts = refl; body = ap (λ (k : ℕ). Ok (DataA to from k bytes)) l }
facts (Start to from credits attention size service subject params) place low f l =
    let n = fewer_entries params in
    let count = length (body_of (Start to from credits attention size service subject params)) in
    let more : length params < place + 4 + count + 1 = simp length-append (omega (arith, simp length-append at n)) in
    record {
      to_ok = refl;
      from_ok = positive from f.0;
      counts = refl;
      body = start_taken (place + 4 + count + 1) low to from count attention size service subject params (place + 4) f.1 f.2 f.4 more
          ∙ ap (λ (k : ℕ). Ok (Start to from k attention size service subject params)) l;
    }
facts (DataB to from credits flag chars) place low f l =
    record {
      to_ok = positive to f.0;
      from_ok = positive from f.1;
      counts = ap (λ (n : ℕ). eqb (suc n) 5) f.2;
      body = ap (λ (k : ℕ). Ok (DataB to from k flag chars)) l;
    }
facts (Attention to from flag) place low f l =
    record { to_ok = positive to f.0; from_ok = positive from f.1; counts = refl; body = refl }
facts (Reject to from reason) place low f l =
    record { to_ok = positive to f; from_ok = refl; counts = refl; body = ap (λ (k : ℕ). Ok (Reject to from k)) l }
facts (Stop to from reason) place low f l =
    record { to_ok = positive to f; from_ok = refl; counts = refl; body = ap (λ (k : ℕ). Ok (Stop to from k)) l }

-- how long a text is
pub text_length : (s : Slot) (b : List ℕ) → SlotText s b → length b ≡ 4 + length (body_of s) + length (body_of s) % 2
text_length s b text =
    let parts : length (body_of s ++ text.pad) ≡ length (body_of s) + length text.pad = length-append (body_of s) text.pad in
    ap length text.is ∙ omega (arith, parts, text.pad_len)

-- a text has at least four bytes
pub text_least : (s : Slot) (b : List ℕ) → SlotText s b → 4 ≤ length b
text_least s b text = omega (arith, text_length s b text)

-- a text is read as its slot
pub slot_taken : (s : Slot) (b : List ℕ) (place : ℕ) (rest : List ℕ) → SlotText s b → slot_at place (b ++ rest) ≡ Ok (s, place + length b, rest)
slot_taken s b place rest text =
    let f = facts s place text.low text.fits text.low_is in
    let len : place + 4 + length (body_of s) + length (body_of s) % 2 ≡ place + length b = omega (arith, text_length s b text) in
    ap (λ bs. slot_at place (bs ++ rest)) text.is
    ∙ whole_taken s place text.low text.pad rest text.nibble f.to_ok f.from_ok f.counts text.pad_len f.body
    ∙ ap (λ (n : ℕ). Ok (s, n, rest)) len
