-- The text that is written of a circuit message: 0 stands where nothing is kept.
use Rattle.std.specs.Prelude.{ℕ, ◌<◌, ◌≤◌, List, [], ◌∷◌, ◌++◌, length}
use Rattle.std.specs.List.{flat_map, AllByRecursion}
use Rattle.lat_fields.specs.Texts.{counted}
use Rattle.lat_slots.specs.declared.slot.Slot.{Slot}
use Rattle.lat_slots.specs.Layout.{slot_text}
use Rattle.lat_slots.specs.Layout.{IsWritable as SlotIsWritable}
use Rattle.lat_frames.specs.declared.kind.MessageKind.TheVariants as kinds
use Rattle.lat_frames.specs.declared.message.Message.{Message}
use Rattle.lat_frames.specs.declared.message.Message.TheVariants.{Run, Wide, Start, Stop}
use Rattle.lat_frames.specs.Heads.{head_text, run_head, wide_head}
use Rattle.lat_frames.specs.Conditions.{DestinationFits, InfoFits}
use Rattle.lat_frames.specs.MessageText.{MessageText, info_text}

abbrev pub slots_text : List Slot → List ℕ
slots_text slots = flat_map slot_text slots

abbrev pub message_text : Message → List ℕ
message_text (Run head slots) = run_head head (length slots) ++ slots_text slots
message_text (Wide head slots) = wide_head head (length slots) ++ slots_text slots
message_text (Start master ask to from info) = head_text kinds.Start master ask 0 to from (0 ∷ 0 ∷ []) ++ info_text info
message_text (Stop master ask to from reason text) = head_text kinds.Stop master ask 0 to from (0 ∷ 0 ∷ []) ++ reason ∷ counted text

-- the conditions of the fields
abbrev pub Fits : Message → Type 0
Fits (Run head slots) = (0 < head.to) × (0 < head.from) × (length slots < 256) × AllByRecursion SlotIsWritable slots
Fits (Wide head slots) = (0 < head.to) × (0 < head.from) × (length slots < 256) × AllByRecursion SlotIsWritable slots
Fits (Start master ask to from info) = DestinationFits master to × (0 < from) × InfoFits master info
Fits (Stop master ask to from reason text) = (0 < to) × (length text < 256)

-- what can be written as a payload
pub record IsWritable (m : Message) : Type 0 where
  pub fits : Fits m
  pub room : length (message_text m) ≤ 1500

-- a text of the message that a payload can be
pub record HasText (m : Message) : Type 0 where
  pub text : List ℕ
  pub of : MessageText m text
  pub room : length text ≤ 1500
