-- A written capture as the rules know it.
use Rattle.std.specs.Prelude.{ℕ, Bool, true, false, List, [], map, Option, Some, None, Result, Ok, Err}
use Rattle.lat_base.specs.declared.field.Bad.{Bad}
use Rattle.lat_slots.specs.declared.slot.Slot.{Slot}
use Rattle.lat_frames.specs.declared.message.Head.{Head}
use Rattle.lat_frames.specs.declared.message.WideHead.{WideHead}
use Rattle.lat_frames.specs.declared.message.Message.{Message}
use Rattle.lat_frames.specs.declared.message.Message.TheVariants.{Run, Wide, Start, Stop}
use Rattle.lat_frames.specs.Written.{slots_text}
use Rattle.lat_frames.specs.Reading.{message_read}
use Rattle.lat_machines.specs.values.Frames.{Whole, OfCircuit}
use Rattle.lat_circuit.specs.Messages.{message_shown}
use Rattle.lat_payload.specs.Reads.{reading_of}
use Rattle.lat_captures.specs.Entries as captures
use Rattle.lat_captures.specs.declared.head.RunHead.{RunHead}
use Rattle.lat_captures.specs.Rules.{title_shown}
use Rattle.lat_audit.specs.declared.entry.Entry.{Entry}
use Rattle.lat_audit.specs.CaptureText.{Capture}

-- the text that is written of a RUN's slots
abbrev pub slots_written : Message → List ℕ
slots_written (Run head slots) = slots_text slots
slots_written (Wide head slots) = slots_text slots
slots_written (Start master ask to from info) = []
slots_written (Stop master ask to from reason text) = []

abbrev pub slots_read : Result Message Bad → List ℕ
slots_read (Ok m) = slots_written m
slots_read (Err bad) = []

-- two slots are one where the texts that are written of them are one, whatever stands in their pads
abbrev pub entry_shown : Entry → captures.Entry
entry_shown e = record { by_master = e.by_master; reading = reading_of e.payload; text = slots_read (message_read e.payload) }

-- the head of a RUN, of either span
abbrev pub narrow_head : Head → RunHead
narrow_head h = record { wide = false; master = h.master; to = h.to; from = h.from; seq = h.seq; ack = h.ack }

abbrev pub wide_head : WideHead → RunHead
wide_head h = record { wide = true; master = h.master; to = h.to; from = h.from; seq = h.seq; ack = h.ack }

abbrev pub head_of : Message → Option RunHead
head_of (Run head slots) = Some (narrow_head head)
head_of (Wide head slots) = Some (wide_head head)
head_of (Start master ask to from info) = None
head_of (Stop master ask to from reason text) = None

-- the slots of a message; none but of a RUN
abbrev pub slots_of : Message → List Slot
slots_of (Run head slots) = slots
slots_of (Wide head slots) = slots
slots_of (Start master ask to from info) = []
slots_of (Stop master ask to from reason text) = []

-- the entry that a message is
abbrev pub message_entry : Bool → Message → captures.Entry
message_entry by_master m = record { by_master = by_master; reading = Whole (OfCircuit (message_shown m)); text = slots_written m }

abbrev pub capture_shown : Capture → captures.Capture
capture_shown c = record { title = title_shown c.title; entries = map entry_shown c.entries }
