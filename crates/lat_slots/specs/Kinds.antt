-- The types of slots, and the numbers that stand for them.
use Rattle.std.specs.Prelude.{ℕ, ◌==◌, List, [], ◌∷◌, Option}
use Rattle.std.specs.List.{find}
use Rattle.lat_slots.specs.declared.kind.SlotKind.{SlotKind}
use Rattle.lat_slots.specs.declared.kind.SlotKind.TheVariants.{DataA, Start, DataB, Attention, Reject, Stop}

-- the number of a type, which stands in the high half of the fourth byte
abbrev pub bits_of : SlotKind → ℕ
bits_of DataA = 0
bits_of Start = 9
bits_of DataB = 10
bits_of Attention = 11
bits_of Reject = 12
bits_of Stop = 13

abbrev pub all_kinds : List SlotKind
all_kinds = DataA ∷ Start ∷ DataB ∷ Attention ∷ Reject ∷ Stop ∷ []

-- the type of a number
abbrev pub kind_of : ℕ → Option SlotKind
kind_of bits = find (λ kind. bits == bits_of kind) all_kinds
