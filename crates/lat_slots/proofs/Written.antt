-- Of which slots there is a text.
use Rattle.std.proofs.Common.{◌≡◌, ℕ, ◌+◌, ◌%◌, ◌<◌, List, [], ◌++◌, length, replicate, Result, Ok, refl, ap, arith}
use Rattle.std.proofs.lemmas.List.{length-replicate}
use Rattle.lat_base.specs.declared.field.Bad.{Bad}
use Rattle.lat_slots.specs.declared.slot.Slot.{Slot}
use Rattle.lat_slots.specs.declared.slot.Slot.TheVariants.{Start, DataA, DataB, Attention, Reject, Stop}
use Rattle.lat_slots.specs.Layout.{HasLow, SlotText, IsWritable, body_of, low_of, slot_text}
use Rattle.lat_slots.specs.Reading.{slot_at}
use Rattle.lat_slots.proofs.SlotTaken.{slot_taken}

own_low : (s : Slot) → HasLow s (low_of s)
own_low (Start to from credits attention size service subject params) = refl
own_low (DataA to from credits bytes) = refl
own_low (DataB to from credits flag chars) = refl
own_low (Attention to from flag) = tt
own_low (Reject to from reason) = refl
own_low (Stop to from reason) = refl

low_fits : (s : Slot) (low : ℕ) → HasLow s low → low < 16 → low_of s < 16
low_fits (Start to from credits attention size service subject params) low is fits = omega (arith, is, fits)
low_fits (DataA to from credits bytes) low is fits = omega (arith, is, fits)
low_fits (DataB to from credits flag chars) low is fits = omega (arith, is, fits)
low_fits (Attention to from flag) low is fits = omega arith
low_fits (Reject to from reason) low is fits = omega (arith, is, fits)
low_fits (Stop to from reason) low is fits = omega (arith, is, fits)

pub written_is_text : (s : Slot) → IsWritable s → SlotText s (slot_text s)
written_is_text s w = record {
  fits = w.fits;
  count = w.count;
  low = low_of s;
  low_is = own_low s;
  nibble = w.low;
  pad = replicate (length (body_of s) % 2) 0;
  pad_len = length-replicate (length (body_of s) % 2) 0;
  is = refl;
}

pub text_is_writable : (s : Slot) (b : List ℕ) → SlotText s b → IsWritable s
text_is_writable s b text = record { fits = text.fits; count = text.count; low = low_fits s text.low text.low_is text.nibble }

same_answer : (x y : Slot × ℕ × List ℕ) (read : Result (Slot × ℕ × List ℕ) Bad) → read ≡ Ok x → read ≡ Ok y → x ≡ y
same_answer x y read first second = cc

pub one_slot : (s t : Slot) (text : List ℕ) → SlotText s text → SlotText t text → s ≡ t
one_slot s t text first second =
    ap (λ (y : Slot × ℕ × List ℕ). y.0) (same_answer (s, 0 + length text, []) (t, 0 + length text, []) (slot_at 0 (text ++ [])) (slot_taken s text 0 [] first) (slot_taken t text 0 [] second))
