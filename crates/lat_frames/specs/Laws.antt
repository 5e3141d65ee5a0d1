-- What holds of the texts of circuit messages.
use Rattle.std.specs.Prelude.{◌≡◌, ℕ, ◌<◌, ◌≤◌, ◌%◌, ◌/◌, ◌⊎◌, List, ◌∷◌, ◌++◌, length, get_or, take, drop, Ok, Err, slice_set}
use Rattle.lat_base.specs.declared.field.Bad.{Bad}
use Rattle.lat_base.specs.declared.field.Field.TheVariants.{Trailing}
use Rattle.lat_fields.specs.Reading.{bad}
use Rattle.lat_fields.specs.Payloads.{PayloadText, padded}
use Rattle.lat_fields.specs.Texts.{number}
use Rattle.lat_slots.specs.declared.slot.Slot.{Slot}
use Rattle.lat_frames.specs.declared.message.Head.{Head}
use Rattle.lat_frames.specs.declared.message.WideHead.{WideHead}
use Rattle.lat_frames.specs.declared.message.Message.{Message}
use Rattle.lat_frames.specs.declared.message.Message.TheVariants.{Run, Wide}
use Rattle.lat_frames.specs.MessageText.{MessageText}
use Rattle.lat_frames.specs.Written.{IsWritable, message_text}
use Rattle.lat_frames.specs.Reading.{message_read}

-- the payload that is written of a message is a text of it
abbrev pub WrittenIsText : Type 0
WrittenIsText = (m : Message) → IsWritable m → PayloadText MessageText m (padded (message_text m))

-- the payload that is written of a message is read as that message
abbrev pub WrittenIsRead : Type 0
WrittenIsRead = (m : Message) → IsWritable m → message_read (padded (message_text m)) ≡ Ok m

-- a text of a message is read as it, whatever follows it up to 46 bytes in all
abbrev pub TextsAreRead : Type 0
TextsAreRead =
    (m : Message) (text rest : List ℕ) → MessageText m text → length (text ++ rest) ≤ 46 → message_read (text ++ rest) ≡ Ok m

-- what follows a text in a payload of 47 bytes or more is refused, at the place behind the text
abbrev pub TrailingIsRefused : Type 0
TrailingIsRefused =
    (m : Message) (text rest : List ℕ) → MessageText m text → 0 < length rest → 46 < length (text ++ rest)
    → length (text ++ rest) ≤ 1500 → message_read (text ++ rest) ≡ bad Trailing (length text)

-- the payload has one message, which is read
pub record IsRead (payload : List ℕ) : Type 0 where
  pub message : Message
  pub text : PayloadText MessageText message payload
  pub read : message_read payload ≡ Ok message
  pub one : (m : Message) → PayloadText MessageText m payload → m ≡ message

-- the payload has no message, and a first bad field
pub record IsRefused (payload : List ℕ) : Type 0 where
  pub first : Bad
  pub read : message_read payload ≡ Err first
  pub none : (m : Message) → PayloadText MessageText m payload → ⊥

abbrev pub OneOutcome : Type 0
OneOutcome = (payload : List ℕ) → ((i : ℕ) → get_or payload i 0 < 256) → IsRead payload ⊎ IsRefused payload

-- The acknowledgement of a written RUN may be replaced in its payload, the byte at place 7: that gives the payload
-- of the RUN with this acknowledgement.
pub record RunIsAcknowledged (head : Head) (slots : List Slot) (ack : ℕ) : Type 0 where
  pub placed : slice_set (padded (message_text (Run head slots))) 7 ack ≡ padded (message_text (Run (record head { ack = ack }) slots))
  pub joined :
      take 7 (padded (message_text (Run head slots))) ++ ack ∷ drop 8 (padded (message_text (Run head slots)))
      ≡ padded (message_text (Run (record head { ack = ack }) slots))

-- the same of a wide RUN, the two bytes at place 8
pub record WideIsAcknowledged (head : WideHead) (slots : List Slot) (ack : ℕ) : Type 0 where
  pub placed :
      slice_set (slice_set (padded (message_text (Wide head slots))) 8 (ack % 256)) 9 (ack / 256)
      ≡ padded (message_text (Wide (record head { ack = ack }) slots))
  pub joined :
      take 8 (padded (message_text (Wide head slots))) ++ number ack ++ drop 10 (padded (message_text (Wide head slots)))
      ≡ padded (message_text (Wide (record head { ack = ack }) slots))

abbrev pub RunsAreAcknowledged : Type 0
RunsAreAcknowledged = (head : Head) (slots : List Slot) (ack : ℕ) → RunIsAcknowledged head slots ack

abbrev pub WideRunsAreAcknowledged : Type 0
WideRunsAreAcknowledged = (head : WideHead) (slots : List Slot) (ack : ℕ) → WideIsAcknowledged head slots ack
