-- The slots that a text tells.
use Rattle.std.specs.Prelude.{ℕ, zero, suc, List, [], ◌∷◌, length, map, Result, Ok, Err}
use Rattle.lat_base.specs.declared.field.Bad.{Bad}
use Rattle.lat_model.specs.sessions.Slots as sessions
use Rattle.lat_slots.specs.declared.slot.Slot.{Slot}
use Rattle.lat_slots.specs.Reading.{slot_at}
use Rattle.lat_stream.specs.Wire.{slot_heard}
use Rattle.lat_captures.specs.declared.slot.SlotFacts.{SlotFacts}
use Rattle.lat_captures.specs.Facts.{facts_of}

abbrev pub first_heard : Result (Slot × ℕ × List ℕ) Bad → (List ℕ → List sessions.Slot) → List sessions.Slot
first_heard (Ok read) behind = slot_heard read.0 ∷ behind read.2
first_heard (Err bad) behind = []

-- so many at most
abbrev pub slots_heard : ℕ → List ℕ → List sessions.Slot
slots_heard zero text = []
slots_heard (suc most) [] = []
slots_heard (suc most) (b ∷ text) = first_heard (slot_at 0 (b ∷ text)) (slots_heard most)

-- there are never more slots than bytes
abbrev pub tell : List ℕ → List sessions.Slot
tell text = slots_heard (length text) text

-- what the rules look at in each slot
abbrev pub facts_in : List Slot → List SlotFacts
facts_in slots = map (λ s. facts_of (slot_heard s)) slots
