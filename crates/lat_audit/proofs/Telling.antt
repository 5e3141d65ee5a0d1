-- The text of slots tells them.
use Rattle.std.proofs.Common.{◌≡◌, ℕ, zero, suc, ◌<◌, ◌≤◌, List, [], ◌∷◌, length, map, refl, ap, ◌∙◌, arith, length-append}
use Rattle.std.specs.List.{AllByRecursion}
use Rattle.std.proofs.lemmas.List.{length-map}
use Rattle.lat_model.specs.Lists.{Each}
use Rattle.lat_model.specs.sessions.Slots.{credits_of}
use Rattle.lat_slots.specs.declared.slot.Slot.{Slot}
use Rattle.lat_slots.specs.declared.slot.Slot.TheVariants.{Start, DataA, DataB, Attention, Reject, Stop}
use Rattle.lat_slots.specs.Layout.{IsWritable, slot_text}
use Rattle.lat_slots.proofs.SlotTaken.{slot_taken, text_least}
use Rattle.lat_slots.proofs.Written.{written_is_text}
use Rattle.lat_frames.specs.Written.{slots_text}
use Rattle.lat_stream.specs.Wire.{slot_heard}
use Rattle.lat_captures.specs.declared.slot.SlotFacts.{SlotFacts}
use Rattle.lat_captures.specs.Facts.{facts_of}
use Rattle.lat_captures.specs.Answers.{IsRun}
use Rattle.lat_audit.specs.TextSlots.{first_heard, slots_heard, tell, facts_in}

tells : (ss : List Slot) (n : ℕ) → AllByRecursion IsWritable ss → length (slots_text ss) ≤ n → slots_heard n (slots_text ss) ≡ map slot_heard ss
tells [] zero ok room = refl
tells [] (suc n) ok room = refl
tells (s ∷ ss) zero ok room =
    absurd (omega (arith, text_least s (slot_text s) (written_is_text s ok.0), length-append (slot_text s) (slots_text ss)))
tells (s ∷ ss) (suc n) ok room =
    let text = written_is_text s ok.0 in
    let less : length (slots_text ss) ≤ n = omega (arith, text_least s (slot_text s) text, length-append (slot_text s) (slots_text ss)) in
    ap (λ read. first_heard read (slots_heard n)) (slot_taken s (slot_text s) 0 (slots_text ss) text) ∙ ap (λ xs. slot_heard s ∷ xs) (tells ss n ok.1 less)

pub heard_back : (ss : List Slot) → AllByRecursion IsWritable ss → tell (slots_text ss) ≡ map slot_heard ss
heard_back ss ok = tells ss (length (slots_text ss)) ok (omega arith)

-- a slot gives at most 15 credits
low : (s : Slot) → IsWritable s → credits_of (slot_heard s) ≤ 255
low (Start to from credits attention size service subject params) w = omega (arith, w.low)
low (DataA to from credits bytes) w = omega (arith, w.low)
low (DataB to from credits flag chars) w = omega (arith, w.low)
low (Attention to from flag) w = omega arith
low (Reject to from reason) w = omega arith
low (Stop to from reason) w = omega arith

all_low : (ss : List Slot) → AllByRecursion IsWritable ss → Each (λ x. credits_of x ≤ 255) (map slot_heard ss)
all_low [] ok = tt
all_low (s ∷ ss) ok = (low s ok.0, all_low ss ok.1)

each_heard : (ss : List Slot) → facts_in ss ≡ map facts_of (map slot_heard ss)
each_heard [] = refl
each_heard (s ∷ ss) = ap (λ fs. facts_of (slot_heard s) ∷ fs) (each_heard ss)

pub is_run : (ss : List Slot) (facts : List SlotFacts) (text : List ℕ) → AllByRecursion IsWritable ss → length ss < 256 → facts ≡ facts_in ss → text ≡ slots_text ss
    → IsRun tell (map slot_heard ss) facts text
is_run ss facts text ok few same is = record {
  facts_are = same ∙ each_heard ss;
  reads = ap tell is ∙ heard_back ss ok;
  few = omega (arith, length-map ss slot_heard, few);
  low = all_low ss ok;
}
