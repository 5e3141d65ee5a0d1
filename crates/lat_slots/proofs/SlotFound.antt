-- What is read as a slot is a text of it.
use Rattle.std.proofs.Common.{◌≡◌, ℕ, ◌+◌, ◌-◌, ◌*◌, ◌/◌, ◌%◌, ◌<◌, ◌≤◌, true, ◌&&◌, ltb, leb, List, [], ◌∷◌, ◌++◌, length, take, drop, get_or, Result, Ok, sym, ap, ◌∙◌, subst, arith, append_assoc, length-append}
use Rattle.std.proofs.lemmas.List.{take-append-drop, length-take-le, length-drop, drop-drop}
use Rattle.std.proofs.lemmas.Bool.Decides.{nat_tests}
use Rattle.lat_base.specs.declared.field.Bad.{Bad}
use Rattle.lat_base.specs.declared.field.Field.TheVariants.{SlotType, DestinationSlot, SourceSlot, ByteCount, SlotPad}
use Rattle.lat_fields.specs.Reading.{◌>>=◌, bad, wanted, known}
use Rattle.lat_fields.proofs.Steps.{IsBytes, bind_ok, wanted_ok, known_ok, both, behind, in_front}
use Rattle.lat_slots.specs.declared.head.SlotHead.{SlotHead}
use Rattle.lat_slots.specs.declared.kind.SlotKind.{SlotKind}
use Rattle.lat_slots.specs.declared.slot.Slot.{Slot}
use Rattle.lat_slots.specs.Kinds.{bits_of, kind_of}
use Rattle.lat_slots.specs.Reading.{headed, destination_fits, source_fits, count_fits, body_at, fitting, head_at, slot_at}
use Rattle.lat_slots.specs.Layout.{body_of, SlotText}
use Rattle.lat_slots.proofs.TypeNumbers.{kind_bits}
use Rattle.lat_slots.proofs.BodyFound.{body_found}

record FoundHead (bytes : List ℕ) (h : SlotHead) : Type 0 where
  tail : List ℕ
  is : bytes ≡ h.to ∷ h.from ∷ h.count ∷ (bits_of h.kind * 16 + h.low) ∷ tail
  nibble : h.low < 16
  to_ok : destination_fits h.kind h.to ≡ true
  from_ok : source_fits h.kind h.from ≡ true
  counts : count_fits h.kind h.count ≡ true
  whole : h.count ≤ length tail

-- what follows each field of the head
abbrev after_source : ℕ → ℕ → ℕ → ℕ → ℕ → List ℕ → SlotKind → Unit {0} → Result SlotHead Bad
after_source place a b n w tail k u =
    wanted (count_fits k n && leb (4 + n) (length (a ∷ b ∷ n ∷ w ∷ tail))) ByteCount (place + 2) >>= (λ x. Ok (headed k (w % 16) a b n))

abbrev after_to : ℕ → ℕ → ℕ → ℕ → ℕ → List ℕ → SlotKind → Unit {0} → Result SlotHead Bad
after_to place a b n w tail k u = wanted (source_fits k b) SourceSlot (place + 1) >>= after_source place a b n w tail k

abbrev after_type : ℕ → ℕ → ℕ → ℕ → ℕ → List ℕ → SlotKind → Result SlotHead Bad
after_type place a b n w tail k = wanted (destination_fits k a) DestinationSlot place >>= after_to place a b n w tail k

abbrev after_room : ℕ → ℕ → ℕ → ℕ → ℕ → List ℕ → Unit {0} → Result SlotHead Bad
after_room place a b n w tail u = known (kind_of (w / 16)) SlotType (place + 3) >>= after_type place a b n w tail

head_found : (place : ℕ) (bytes : List ℕ) (h : SlotHead) → head_at place bytes ≡ Ok h → FoundHead bytes h
unfolding head_at fitting
head_found place [] h e = absurd (let no : bad SlotType (place + 3) ≡ Ok h = e in cc)
head_found place (a ∷ []) h e = absurd (let no : bad SlotType (place + 3) ≡ Ok h = e in cc)
head_found place (a ∷ b ∷ []) h e = absurd (let no : bad SlotType (place + 3) ≡ Ok h = e in cc)
head_found place (a ∷ b ∷ n ∷ []) h e = absurd (let no : bad SlotType (place + 3) ≡ Ok h = e in cc)
head_found place (a ∷ b ∷ n ∷ w ∷ tail) h e =
    let room = bind_ok (wanted (ltb 3 (length (a ∷ b ∷ n ∷ w ∷ tail))) SlotType (place + 3)) (after_room place a b n w tail) h e in
    let one = bind_ok (known (kind_of (w / 16)) SlotType (place + 3)) (after_type place a b n w tail) h room.2 in
    let k = one.0 in
    let high : bits_of k ≡ w / 16 = kind_bits (w / 16) k (known_ok (kind_of (w / 16)) SlotType (place + 3) k one.1) in
    let two = bind_ok (wanted (destination_fits k a) DestinationSlot place) (after_to place a b n w tail k) h one.2 in
    let three = bind_ok (wanted (source_fits k b) SourceSlot (place + 1)) (after_source place a b n w tail k) h two.2 in
    let four = bind_ok (wanted (count_fits k n && leb (4 + n) (length (a ∷ b ∷ n ∷ w ∷ tail))) ByteCount (place + 2)) (λ x. Ok (headed k (w % 16) a b n)) h three.2 in
    let fits = both (count_fits k n) (leb (4 + n) (length (a ∷ b ∷ n ∷ w ∷ tail))) (wanted_ok (count_fits k n && leb (4 + n) (length (a ∷ b ∷ n ∷ w ∷ tail))) ByteCount (place + 2) four.0 four.1) in
    let same : headed k (w % 16) a b n ≡ h = let q = four.2 in cc in
    let byte : w ≡ bits_of k * 16 + w % 16 = omega (arith, high) in
    let P : SlotHead → Type 0 = FoundHead (a ∷ b ∷ n ∷ w ∷ tail) in
    subst P same (record {
      tail = tail;
      is = (λ i. a ∷ b ∷ n ∷ byte i ∷ tail);
      nibble = omega arith;
      to_ok = wanted_ok (destination_fits k a) DestinationSlot place two.0 two.1;
      from_ok = wanted_ok (source_fits k b) SourceSlot (place + 1) three.0 three.1;
      counts = fits.0;
      whole = let t = fits.1 in grind (arith, nat_tests);
    })

abbrev after_body : ℕ → List ℕ → SlotHead → Slot → Result (Slot × ℕ × List ℕ) Bad
after_body place bytes h slot =
    wanted (leb (4 + h.count + h.count % 2) (length bytes)) SlotPad (place + 4 + h.count)
    >>= (λ y. Ok (slot, place + 4 + h.count + h.count % 2, drop (4 + h.count + h.count % 2) bytes))

abbrev after_head : ℕ → List ℕ → SlotHead → Result (Slot × ℕ × List ℕ) Bad
after_head place bytes h =
    body_at (place + 4 + h.count + 1) h (place + 4) (take h.count (drop 4 bytes)) >>= after_body place bytes h

-- head, body and pad, and the bytes behind them
split_text : (bytes d : List ℕ) (a b n w m : ℕ) → bytes ≡ a ∷ b ∷ n ∷ w ∷ d → bytes ≡ (a ∷ b ∷ n ∷ w ∷ take n d ++ take m (drop n d)) ++ drop m (drop n d)
split_text bytes d a b n w m is =
    let all : d ≡ take n d ++ (take m (drop n d) ++ drop m (drop n d)) =
    sym (take-append-drop n d) ∙ ap (λ r. take n d ++ r) (sym (take-append-drop m (drop n d))) in
    is ∙ ap (λ r. a ∷ b ∷ n ∷ w ∷ r) (all ∙ sym (append_assoc (take n d) (take m (drop n d)) (drop m (drop n d))))

others_are : (bytes : List ℕ) (n m : ℕ) → drop m (drop n (drop 4 bytes)) ≡ drop (4 + n + m) bytes
others_are bytes n m = ap (drop m) (drop-drop n 4 bytes) ∙ drop-drop m (4 + n) bytes

-- what is known of the value, the place and the bytes behind that were read
pub record FoundSlot (place : ℕ) (bytes : List ℕ) (x : Slot × ℕ × List ℕ) : Type 0 where
  pub text : List ℕ
  pub is : bytes ≡ text ++ x.2
  pub slot : SlotText x.0 text
  pub next : x.1 ≡ place + length text
  pub others : IsBytes x.2

pub slot_found : (place : ℕ) (bytes : List ℕ) (x : Slot × ℕ × List ℕ) → IsBytes bytes → slot_at place bytes ≡ Ok x → FoundSlot place bytes x
unfolding slot_at
slot_found place bytes x all e =
    let one = bind_ok (head_at place bytes) (after_head place bytes) x e in
    let h = one.0 in
    let f = head_found place bytes h one.1 in
    let n = h.count in
    let d = drop 4 bytes in
    let end = 4 + n + n % 2 in
    let two = bind_ok (body_at (place + 4 + n + 1) h (place + 4) (take n d)) (after_body place bytes h) x one.2 in
    let three = bind_ok (wanted (leb end (length bytes)) SlotPad (place + 4 + n)) (λ y. Ok (two.0, place + 4 + n + n % 2, drop end bytes)) x two.2 in
    let tested = wanted_ok (leb end (length bytes)) SlotPad (place + 4 + n) three.0 three.1 in
    let room : end ≤ length bytes = grind (arith, nat_tests) in
    let len_d : length d ≡ length bytes - 4 = length-drop 4 bytes in
    let len : length (take n d) ≡ n = length-take-le n d (omega arith) in
    let counts : count_fits h.kind (length (take n d)) ≡ true = rw len f.counts in
    let found = body_found h.kind (place + 4 + n + 1) h.low h.to h.from n (place + 4) (take n d) two.0 (in_front n d (behind 4 bytes all)) f.to_ok f.from_ok counts two.1 in
    let pad = take (n % 2) (drop n d) in
    let len_rest : length (drop n d) ≡ length d - n = length-drop n d in
    let len_pad : length pad ≡ n % 2 = length-take-le (n % 2) (drop n d) (omega arith) in
    let len_body : length (body_of two.0) ≡ n = ap length (sym found.is) ∙ len in
    let byte : n < 256 = omega (arith, all 2, ap (λ bs. get_or bs 2 0) f.is) in
    let w = bits_of h.kind * 16 + h.low in
    let text = h.to ∷ h.from ∷ n ∷ w ∷ take n d ++ pad in
    let tail : f.tail ≡ d = sym (ap (drop 4) f.is) in
    let same : (two.0, place + 4 + n + n % 2, drop end bytes) ≡ x = let q = three.2 in cc in
    let P : Slot × ℕ × List ℕ → Type 0 = FoundSlot place bytes in
    subst P same (record {
      text = text;
      is = split_text bytes d h.to h.from n w (n % 2) (f.is ∙ ap (λ r. h.to ∷ h.from ∷ n ∷ w ∷ r) tail) ∙ ap (λ r. text ++ r) (others_are bytes n (n % 2));
      slot = record {
        fits = found.fits;
        count = omega (arith, len_body, byte);
        low = h.low;
        low_is = found.low_is;
        nibble = f.nibble;
        pad = pad;
        pad_len = len_pad ∙ ap (λ k. k % 2) (sym len_body);
        is = (λ i. sym found.to_is i ∷ sym found.from_is i ∷ sym len_body i ∷ (bits_of (sym found.type_is i) * 16 + h.low) ∷ found.is i ++ pad);
      };
      next = omega (arith, length-append (take n d) pad, len, len_pad);
      others = behind end bytes all;
    })
