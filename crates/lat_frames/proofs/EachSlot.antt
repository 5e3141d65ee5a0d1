-- The slots of a message, one by one.
use Rattle.std.proofs.Common.{◌≡◌, ℕ, zero, suc, ◌+◌, ◌<◌, ◌≤◌, List, [], ◌∷◌, length, take, get_or, ap, arith, length-append}
use Rattle.std.specs.List.{flat_map, AllByRecursion}
use Rattle.lat_slots.specs.declared.slot.Slot.{Slot}
use Rattle.lat_slots.specs.Layout.{IsWritable, slot_text}

-- room for each slot
pub room_at : (ss : List Slot) (i : ℕ) (s : Slot) → i < length ss → s ≡ get_or ss i s → length (flat_map slot_text (take i ss)) + length (slot_text s) ≤ length (flat_map slot_text ss)
room_at [] i s lt is = absurd (omega arith)
room_at (q ∷ ss) zero s lt is = omega (arith, length-append (slot_text q) (flat_map slot_text ss), ap (λ (e : Slot). length (slot_text e)) is)
room_at (q ∷ ss) (suc i) s lt is =
    omega (arith, length-append (slot_text q) (flat_map slot_text ss), length-append (slot_text q) (flat_map slot_text (take i ss)), room_at ss i s (omega arith) is)

-- one of slots that can all be written
pub writable_at : (ss : List Slot) (i : ℕ) (s : Slot) → i < length ss → s ≡ get_or ss i s → AllByRecursion IsWritable ss → IsWritable s
writable_at [] i s lt is all = absurd (omega arith)
writable_at (q ∷ ss) zero s lt is all = rw is all.0
writable_at (q ∷ ss) (suc i) s lt is all = writable_at ss i s (omega arith) is all.1
