-- A frame in few words.
use Rattle.std.specs.Prelude.{ℕ, List, [], ◌∷◌, ◌++◌, length, codes, decimal, Result, Ok, Err, if◌then◌else◌}
use Rattle.std.specs.List.{flat_map}
use Rattle.lat_base.specs.declared.field.Bad.{Bad}
use Rattle.lat_frames.specs.declared.message.Message.{Message}
use Rattle.lat_frames.specs.declared.message.Message.TheVariants as messages
use Rattle.lat_notices.specs.Outcomes.{outcome_number}
use Rattle.lat_notices.specs.declared.notice.Action.{Action}
use Rattle.lat_notices.specs.declared.notice.Action.TheVariants.{Ask, Cancel}
use Rattle.lat_notices.specs.declared.notice.Notice.{Notice}
use Rattle.lat_notices.specs.declared.notice.Notice.TheVariants as notices
use Rattle.lat_print.specs.AnswerWords.{bad_words}
use Rattle.lat_slots.specs.declared.slot.Slot.{Slot}
use Rattle.lat_slots.specs.declared.slot.Slot.TheVariants as slots
use Rattle.lat_text.specs.NameText.{name_text}
use Rattle.lat_value.specs.Reading.{value_read}
use Rattle.lat_value.specs.declared.value.Value.{Value}
use Rattle.lat_value.specs.declared.value.Value.TheVariants.{Circuit, Notice as OfNotice}

-- a slot, behind a blank; data by the number of its bytes
abbrev pub slot_short : Slot → List ℕ
slot_short (slots.Start to from credits attention size service subject params) = codes " start " ++ name_text service
slot_short (slots.DataA to from credits bytes) = codes " data " ++ decimal (length bytes)
slot_short (slots.DataB to from credits flag chars) = codes " set"
slot_short (slots.Attention to from flag) = codes " attention"
slot_short (slots.Reject to from reason) = codes " reject " ++ decimal reason
slot_short (slots.Stop to from reason) = codes " stop " ++ decimal reason

-- a RUN by its number and its slots; one without a slot by what it acknowledges
abbrev pub run_short : (seq ack : ℕ) → List Slot → List ℕ
run_short seq ack [] = codes "RUN " ++ (decimal seq ++ (codes " ack " ++ decimal ack))
run_short seq ack (slot ∷ slots) = codes "RUN " ++ (decimal seq ++ flat_map slot_short (slot ∷ slots))

abbrev pub message_short : Message → List ℕ
message_short (messages.Run head slots) = run_short head.seq head.ack slots
message_short (messages.Wide head slots) = run_short head.seq head.ack slots
message_short (messages.Start master ask to from info) = if master then codes "START" else codes "START reply"
message_short (messages.Stop master ask to from reason text) = codes "STOP " ++ decimal reason

abbrev pub action_short : Action → List ℕ
action_short Ask = codes "ASK "
action_short Cancel = codes "CANCEL "

abbrev pub notice_short : Notice → List ℕ
notice_short (notices.Announcement a) = codes "ANNOUNCE " ++ name_text a.node
notice_short (notices.Command c) = action_short c.action ++ (decimal c.request ++ (codes " " ++ name_text c.service))
notice_short (notices.Status s) = codes "STATUS " ++ (decimal s.request ++ (codes " outcome " ++ decimal (outcome_number s.outcome)))
notice_short (notices.Solicit s) = codes "SOLICIT " ++ name_text s.service
notice_short (notices.Response r) = codes "RESPONSE " ++ name_text r.service

abbrev pub value_short : Value → List ℕ
value_short (Circuit message) = message_short message
value_short (OfNotice notice) = notice_short notice

abbrev pub read_short : Result Value Bad → List ℕ
read_short (Ok value) = value_short value
read_short (Err bad) = bad_words bad

-- a payload in few words
unfoldable pub payload_short : List ℕ → List ℕ
payload_short payload = read_short (value_read payload)
