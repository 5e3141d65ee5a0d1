-- The types of circuit messages, and the numbers that stand for them.
use Rattle.std.specs.Prelude.{ℕ, ◌==◌, Bool, List, [], ◌∷◌, Option, is_some}
use Rattle.std.specs.List.{find}
use Rattle.lat_frames.specs.declared.kind.MessageKind.{MessageKind}
use Rattle.lat_frames.specs.declared.kind.MessageKind.TheVariants.{Run, Start, Stop, WideRun}

-- the number of a type, which stands in the six high bits of the first byte
abbrev pub bits_of : MessageKind → ℕ
bits_of Run = 0
bits_of Start = 1
bits_of Stop = 2
bits_of WideRun = 4

abbrev pub all_kinds : List MessageKind
all_kinds = Run ∷ Start ∷ Stop ∷ WideRun ∷ []

-- the type of a number
abbrev pub kind_of : ℕ → Option MessageKind
kind_of bits = find (λ kind. bits == bits_of kind) all_kinds

-- it is the number of a type
abbrev pub is_kind : ℕ → Bool
is_kind bits = is_some (kind_of bits)
