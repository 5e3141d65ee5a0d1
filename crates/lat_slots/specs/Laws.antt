-- What holds of the texts of slots.
use Rattle.std.specs.Prelude.{◌≡◌, ℕ, ◌+◌, ◌<◌, List, ◌++◌, length, get_or, Ok}
use Rattle.lat_slots.specs.declared.slot.Slot.{Slot}
use Rattle.lat_slots.specs.Layout.{SlotText, IsWritable, slot_text}
use Rattle.lat_slots.specs.Reading.{slot_at}

-- what is written of a slot is a text of it
abbrev pub WrittenIsText : Type 0
WrittenIsText = (s : Slot) → IsWritable s → SlotText s (slot_text s)

-- a text of a slot is read as that slot, whatever stands behind it
abbrev pub TextsAreRead : Type 0
TextsAreRead = (s : Slot) (text rest : List ℕ) (place : ℕ) → SlotText s text → slot_at place (text ++ rest) ≡ Ok (s, place + length text, rest)

-- so what was written is read as the same slot
abbrev pub WrittenIsRead : Type 0
WrittenIsRead = (s : Slot) (rest : List ℕ) (place : ℕ) → IsWritable s → slot_at place (slot_text s ++ rest) ≡ Ok (s, place + length (slot_text s), rest)

-- what is read of bytes stands there as a text
abbrev pub ReadIsText : Type 0
ReadIsText =
    (place : ℕ) (bytes : List ℕ) (s : Slot) (next : ℕ) (rest : List ℕ) → ((i : ℕ) → get_or bytes i 0 < 256)
    → slot_at place bytes ≡ Ok (s, next, rest) → (text : List ℕ) × (bytes ≡ text ++ rest) × SlotText s text × (next ≡ place + length text)

-- a text has one slot
abbrev pub OneSlot : Type 0
OneSlot = (s t : Slot) (text : List ℕ) → SlotText s text → SlotText t text → s ≡ t
