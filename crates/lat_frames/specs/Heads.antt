-- What all circuit messages begin with.
use Rattle.std.specs.Prelude.{ℕ, ◌+◌, ◌*◌, ◌/◌, ◌%◌, Bool, true, false, ◌==◌, List, [], ◌∷◌, ◌++◌}
use Rattle.lat_fields.specs.Texts.{number}
use Rattle.lat_frames.specs.declared.kind.MessageKind.{MessageKind}
use Rattle.lat_frames.specs.declared.kind.MessageKind.TheVariants as kinds
use Rattle.lat_frames.specs.declared.message.Head.{Head}
use Rattle.lat_frames.specs.declared.message.WideHead.{WideHead}
use Rattle.lat_frames.specs.Kinds.{bits_of}

abbrev pub bit : Bool → ℕ
bit true = 1
bit false = 0

-- the first byte: the type times four, with `master` as bit 1 and `ask` as bit 0
abbrev pub first_byte : MessageKind → Bool → Bool → ℕ
first_byte kind master ask = bits_of kind * 4 + bit master * 2 + bit ask

abbrev pub is_master : ℕ → Bool
is_master first = (first / 2) % 2 == 1

abbrev pub asks : ℕ → Bool
asks first = first % 2 == 1

-- the first byte, the number of slots, the circuit at the end that hears it and at the end that sends it, and the
-- bytes of the two message numbers
abbrev pub head_text : MessageKind → Bool → Bool → ℕ → ℕ → ℕ → List ℕ → List ℕ
head_text kind master ask slots to from numbers =
    first_byte kind master ask ∷ slots ∷ number to ++ (number from ++ numbers)

-- the head of a RUN with so many slots
abbrev pub run_head : Head → ℕ → List ℕ
run_head h slots = head_text kinds.Run h.master h.ask slots h.to h.from (h.seq ∷ h.ack ∷ [])

-- the head of a wide RUN with so many slots
abbrev pub wide_head : WideHead → ℕ → List ℕ
wide_head h slots = head_text kinds.WideRun h.master h.ask slots h.to h.from (number h.seq ++ number h.ack)
