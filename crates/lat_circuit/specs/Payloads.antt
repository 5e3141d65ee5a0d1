-- The frames of the model as the payloads that are written of them.
use Rattle.std.specs.Prelude.{ℕ, ◌/◌, ◌%◌, Bool, true, false, List, map, slice_set}
use Rattle.lat_fields.specs.Payloads.{padded}
use Rattle.lat_frames.specs.Heads.{run_head, wide_head}
use Rattle.lat_frames.specs.Written.{message_text, slots_text}
use Rattle.lat_model.specs.numbers.Link.{Frame}
use Rattle.lat_model.specs.sessions.Slots.{Slot}
use Rattle.lat_machines.specs.values.Runs.{run_message}
use Rattle.lat_seq.specs.declared.span.Span.{Span}
use Rattle.lat_seq.specs.declared.span.Span.TheVariants.{Byte, Word}
use Rattle.lat_seq.specs.Spans.{field}
use Rattle.lat_stream.specs.Wire.{formed_as}
use Rattle.lat_circuit.specs.declared.ids.Ids.{Ids}
use Rattle.lat_circuit.specs.Messages.{message_of}

abbrev pub is_wide : Span → Bool
is_wide Byte = false
is_wide Word = true

-- how many bytes a head has
abbrev pub head_size : Span → ℕ
head_size Byte = 8
head_size Word = 10

-- the texts of these slots
abbrev pub slots_as_text : List Slot → List ℕ
slots_as_text slots = slots_text (map formed_as slots)

-- the text of a frame on the circuit with these ids, and its payload
abbrev pub run_text : Ids → Span → Bool → Frame (List Slot) → List ℕ
run_text ids span ask f = message_text (message_of (run_message ids.master (is_wide span) ask ids.to ids.from f))

abbrev pub run_payload : Ids → Span → Bool → Frame (List Slot) → List ℕ
run_payload ids span ask f = padded (run_text ids span ask f)

-- a head with so many slots and these fields of numbers
abbrev pub head_bytes : Ids → Span → Bool → (slots seq ack : ℕ) → List ℕ
head_bytes ids Byte ask slots seq ack =
    run_head (record { master = ids.master; ask = ask; to = ids.to; from = ids.from; seq = seq; ack = ack }) slots
head_bytes ids Word ask slots seq ack =
    wide_head (record { master = ids.master; ask = ask; to = ids.to; from = ids.from; seq = seq; ack = ack }) slots

-- the head of the frame, with so many slots
abbrev pub frame_head : Ids → Span → Bool → Frame (List Slot) → ℕ → List ℕ
frame_head ids span ask f slots = head_bytes ids span ask slots (field span f.number) (field span f.acknowledgement)

-- a payload with another field of its acknowledgement
abbrev pub acknowledged : Span → List ℕ → ℕ → List ℕ
acknowledged Byte payload ack = slice_set payload 7 ack
acknowledged Word payload ack = slice_set (slice_set payload 8 (ack % 256)) 9 (ack / 256)
