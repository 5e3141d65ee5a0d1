-- The texts of a slot: a head of four bytes, a body, and a pad byte behind a body of odd length.
use Rattle.std.specs.Prelude.{◌≡◌, ℕ, ◌+◌, ◌*◌, ◌%◌, ◌<◌, List, [], ◌∷◌, ◌++◌, length, replicate}
use Rattle.std.specs.List.{AllByRecursion}
use Rattle.lat_base.specs.Names.{IsName}
use Rattle.lat_fields.specs.Params.{IsEntry, params_text}
use Rattle.lat_fields.specs.Texts.{counted}
use Rattle.lat_slots.specs.declared.kind.SlotKind.{SlotKind}
use Rattle.lat_slots.specs.declared.kind.SlotKind.TheVariants as kinds
use Rattle.lat_slots.specs.declared.slot.Slot.{Slot}
use Rattle.lat_slots.specs.declared.slot.Slot.TheVariants.{Start, DataA, DataB, Attention, Reject, Stop}
use Rattle.lat_slots.specs.Kinds.{bits_of}

abbrev pub type_of : Slot → SlotKind
type_of (DataA to from credits bytes) = kinds.DataA
type_of (Start to from credits attention size service subject params) = kinds.Start
type_of (DataB to from credits flag chars) = kinds.DataB
type_of (Attention to from flag) = kinds.Attention
type_of (Reject to from reason) = kinds.Reject
type_of (Stop to from reason) = kinds.Stop

abbrev pub to_of : Slot → ℕ
to_of (DataA to from credits bytes) = to
to_of (Start to from credits attention size service subject params) = to
to_of (DataB to from credits flag chars) = to
to_of (Attention to from flag) = to
to_of (Reject to from reason) = to
to_of (Stop to from reason) = to

abbrev pub from_of : Slot → ℕ
from_of (DataA to from credits bytes) = from
from_of (Start to from credits attention size service subject params) = from
from_of (DataB to from credits flag chars) = from
from_of (Attention to from flag) = from
from_of (Reject to from reason) = from
from_of (Stop to from reason) = from

-- the low half of the fourth byte, as it is written: credits, a reason, or 0 where nothing is kept
abbrev pub low_of : Slot → ℕ
low_of (DataA to from credits bytes) = credits
low_of (Start to from credits attention size service subject params) = credits
low_of (DataB to from credits flag chars) = credits
low_of (Attention to from flag) = 0
low_of (Reject to from reason) = reason
low_of (Stop to from reason) = reason

-- the same half, as it may stand: an attention keeps none, so that any value may stand there
abbrev pub HasLow : Slot → ℕ → Type 0
HasLow (DataA to from credits bytes) low = low ≡ credits
HasLow (Start to from credits attention size service subject params) low = low ≡ credits
HasLow (DataB to from credits flag chars) low = low ≡ credits
HasLow (Attention to from flag) low = Unit {0}
HasLow (Reject to from reason) low = low ≡ reason
HasLow (Stop to from reason) low = low ≡ reason

-- the body; that of a start begins with the one service class there is
abbrev pub body_of : Slot → List ℕ
body_of (DataA to from credits bytes) = bytes
body_of (Start to from credits attention size service subject params) =
    1 ∷ attention ∷ size ∷ counted service ++ (counted subject ++ params_text params)
body_of (DataB to from credits flag chars) = flag ∷ chars
body_of (Attention to from flag) = flag ∷ []
body_of (Reject to from reason) = []
body_of (Stop to from reason) = []

-- the conditions of the fields: who asks for a session knows no id at the other end, and who refuses or ends one may
-- have none of its own
abbrev pub Fits : Slot → Type 0
Fits (DataA to from credits bytes) = (0 < to) × (0 < from)
Fits (Start to from credits attention size service subject params) =
    (0 < from) × (0 < size) × IsName service × (length subject < 256) × AllByRecursion IsEntry params
Fits (DataB to from credits flag chars) = (0 < to) × (0 < from) × (length chars ≡ 4)
Fits (Attention to from flag) = (0 < to) × (0 < from)
Fits (Reject to from reason) = 0 < to
Fits (Stop to from reason) = 0 < to

-- b is a text of the slot
pub record SlotText (s : Slot) (b : List ℕ) : Type 0 where
  pub fits : Fits s
  pub count : length (body_of s) < 256
  pub low : ℕ
  pub low_is : HasLow s low
  pub nibble : low < 16
  pub pad : List ℕ
  pub pad_len : length pad ≡ length (body_of s) % 2
  pub is : b ≡ to_of s ∷ from_of s ∷ length (body_of s) ∷ (bits_of (type_of s) * 16 + low) ∷ body_of s ++ pad

-- what can be written
pub record IsWritable (s : Slot) : Type 0 where
  pub fits : Fits s
  pub count : length (body_of s) < 256
  pub low : low_of s < 16

-- the text that is written: 0 stands where nothing is kept
abbrev pub slot_text : Slot → List ℕ
slot_text s =
    to_of s ∷ from_of s ∷ length (body_of s) ∷ (bits_of (type_of s) * 16 + low_of s) ∷ body_of s ++ replicate (length (body_of s) % 2) 0

-- A text of the slot stands at the front of the bytes, whose first is at the place, and ends before `next`.
pub record StandsAt (place : ℕ) (bytes : List ℕ) (s : Slot) (next : ℕ) : Type 0 where
  pub text : List ℕ
  pub rest : List ℕ
  pub is : bytes ≡ text ++ rest
  pub slot : SlotText s text
  pub ends : next ≡ place + length text
