-- The payload that is written of a RUN, where it reads as that RUN.
use Rattle.std.proofs.Common.{◌≡◌, ℕ, ◌-◌, ◌/◌, ◌<◌, ◌≤◌, Bool, true, false, List, [], ◌∷◌, length, map, replicate, refl, ap, subst, arith, length-append, if◌then◌else◌}
use Rattle.std.specs.Prelude.{Result, Ok, Err, IfSome}
use Rattle.std.specs.List.{AllByRecursion}
use Rattle.std.proofs.lemmas.List.{length-map}
use Rattle.hex.specs.Hex.{IsBytes}
use Rattle.lat_base.specs.declared.field.Bad.{Bad}
use Rattle.lat_fields.specs.Payloads.{PayloadText, padded}
use Rattle.lat_slots.specs.declared.slot.Slot.{Slot}
use Rattle.lat_slots.specs.Layout.{IsWritable as SlotIsWritable}
use Rattle.lat_frames.specs.declared.message.Message.{Message}
use Rattle.lat_frames.specs.declared.message.Message.TheVariants as frames
use Rattle.lat_frames.specs.MessageText.{MessageText, SlotsText}
use Rattle.lat_frames.specs.Written.{IsWritable, message_text}
use Rattle.lat_frames.specs.Kinds.{is_kind}
use Rattle.lat_frames.specs.Reading.{message_read}
use Rattle.lat_frames.proofs.MessageTaken.{payload_read}
use Rattle.lat_frames.proofs.MessageFound.{payload_is}
use Rattle.lat_frames.proofs.Outcomes.{written_payload}
use Rattle.lat_notices.specs.declared.notice.Notice.{Notice}
use Rattle.lat_notices.specs.Kinds.{is_notice}
use Rattle.lat_notices.specs.Reading.{notice_read}
use Rattle.lat_model.specs.sessions.Slots as sessions
use Rattle.lat_machines.specs.values.Messages as model
use Rattle.lat_machines.specs.values.Frames.{Value, OfCircuit, OfNotice, Whole}
use Rattle.lat_stream.specs.Wire.{slot_heard, formed_as}
use Rattle.lat_circuit.specs.Payloads.{slots_as_text}
use Rattle.lat_circuit.specs.Messages.{head_of, wide_head_of, head_shown, wide_head_shown, message_shown}
use Rattle.lat_value.specs.declared.value.Value.TheVariants as values
use Rattle.lat_value.specs.Reading.{read_as, unknown, value_read}
use Rattle.lat_payload.specs.Reads.{reading_of, read_shown}
use Rattle.lat_payload.specs.Frames.{payload_of}
use Rattle.lat_captures.specs.Captured.{RunHead, run_head_of}
use Rattle.lat_audit.specs.Shown.{slots_read}
use Rattle.lat_audit.proofs.Formed.{slots_formed}

-- a payload that reads as a message
record ReadsMessage (payload : List ℕ) (m : model.Message) : Type 0 where
  pub message : Message
  pub read : message_read payload ≡ Ok message
  pub shown : message_shown message ≡ m

message_in : (payload : List ℕ) (m : model.Message) → reading_of payload ≡ Whole (OfCircuit m) → ReadsMessage payload m
unfolding reading_of value_read
message_in [] m is = cc
message_in (first ∷ rest) m is = by (is_kind (first / 4)) (is_notice (first / 4)) (message_read (first ∷ rest)) (notice_read (first ∷ rest)) refl is
  where
    by : (kind notice : Bool) (r : Result Message Bad) (n : Result Notice Bad) → message_read (first ∷ rest) ≡ r
        → read_shown (if kind then read_as values.Circuit r else if notice then read_as values.Notice n else unknown) ≡ Whole (OfCircuit m) → ReadsMessage (first ∷ rest) m
    by true notice (Ok found) n e is = record { message = found; read = e; shown = cc }
    by true notice (Err bad) n e is = cc
    by false true r (Ok found) e is = cc
    by false true r (Err bad) e is = cc
    by false false r n e is = cc

-- what is known of the slots of a RUN that was read
record SlotsRead (slots : List sessions.Slot) : Type 0 where
  pub few : length (map formed_as slots) < 256
  pub ok : AllByRecursion SlotIsWritable (map formed_as slots)

read_slots : (ss : List Slot) (body : List ℕ) (slots : List sessions.Slot) → map slot_heard ss ≡ slots → length ss < 256 → SlotsText ss body → SlotsRead slots
read_slots ss body slots are few t =
    subst SlotsRead are (record { few = omega (arith, length-map (map slot_heard ss) formed_as, length-map ss slot_heard, few); ok = slots_formed ss body t })

-- ids that fit two bytes
pub record IdsFit (h : model.Head) : Type 0 where
  pub to : 1 ≤ h.to
  pub to_most : h.to ≤ 65535
  pub from : 1 ≤ h.from
  pub from_most : h.from ≤ 65535

-- a RUN whose payload reads as it
pub record RunIsRead (v : Value) (k : RunHead) : Type 0 where
  pub slots : slots_read (message_read (payload_of v)) ≡ slots_as_text k.slots
  pub size : length (payload_of v) ≤ 1500
  pub ids : IdsFit k.head

room_in : (text : List ℕ) → length (padded text) ≤ 1500 → length text ≤ 1500
room_in text size = omega (arith, length-append text (replicate (46 - length text) 0))

-- a message that can be written is read of its payload
back : (m : Message) → IsWritable m → message_read (padded (message_text m)) ≡ Ok m
back m w = payload_read m (padded (message_text m)) (written_payload m w)

narrow : (h : model.Head) (slots : List sessions.Slot) (m : Message) → IsBytes (payload_of (OfCircuit (model.RunMessage h slots)))
    → PayloadText MessageText m (payload_of (OfCircuit (model.RunMessage h slots))) → message_shown m ≡ model.RunMessage h slots
    → RunIsRead (OfCircuit (model.RunMessage h slots)) (record { wide = false; head = h; slots = slots })
narrow h slots (frames.Wide head ss) bytes t shown = cc
narrow h slots (frames.Start master ask to from info) bytes t shown = cc
narrow h slots (frames.Stop master ask to from reason text) bytes t shown = cc
narrow h slots (frames.Run head ss) bytes t shown =
    let are : map slot_heard ss ≡ slots = cc in
    let same : head_shown head ≡ h = cc in
    let to : head.to ≡ h.to = ap (λ (z : model.Head). z.to) same in
    let from : head.from ≡ h.from = ap (λ (z : model.Head). z.from) same in
    let known = read_slots ss t.of.body slots are t.of.count t.of.texts in
    let some_to : 0 < h.to = omega (arith, to, t.of.destination) in
    let some_from : 0 < h.from = omega (arith, from, t.of.source) in
    let whole : IsWritable (frames.Run (head_of h) (map formed_as slots)) = record {
      fits = (some_to, some_from, known.few, known.ok);
      room = room_in (message_text (frames.Run (head_of h) (map formed_as slots))) t.size;
    } in
    let high_to : h.to / 256 < 256 = bytes 3 in
    let high_from : h.from / 256 < 256 = bytes 5 in
    record {
      slots = ap slots_read (back (frames.Run (head_of h) (map formed_as slots)) whole);
      size = t.size;
      ids = record { to = omega (arith, some_to); to_most = omega (arith, high_to); from = omega (arith, some_from); from_most = omega (arith, high_from) };
    }

wide : (h : model.Head) (slots : List sessions.Slot) (m : Message) → IsBytes (payload_of (OfCircuit (model.WideMessage h slots)))
    → PayloadText MessageText m (payload_of (OfCircuit (model.WideMessage h slots))) → message_shown m ≡ model.WideMessage h slots
    → RunIsRead (OfCircuit (model.WideMessage h slots)) (record { wide = true; head = h; slots = slots })
wide h slots (frames.Run head ss) bytes t shown = cc
wide h slots (frames.Start master ask to from info) bytes t shown = cc
wide h slots (frames.Stop master ask to from reason text) bytes t shown = cc
wide h slots (frames.Wide head ss) bytes t shown =
    let are : map slot_heard ss ≡ slots = cc in
    let same : wide_head_shown head ≡ h = cc in
    let to : head.to ≡ h.to = ap (λ (z : model.Head). z.to) same in
    let from : head.from ≡ h.from = ap (λ (z : model.Head). z.from) same in
    let known = read_slots ss t.of.body slots are t.of.count t.of.texts in
    let some_to : 0 < h.to = omega (arith, to, t.of.destination) in
    let some_from : 0 < h.from = omega (arith, from, t.of.source) in
    let whole : IsWritable (frames.Wide (wide_head_of h) (map formed_as slots)) = record {
      fits = (some_to, some_from, known.few, known.ok);
      room = room_in (message_text (frames.Wide (wide_head_of h) (map formed_as slots))) t.size;
    } in
    let high_to : h.to / 256 < 256 = bytes 3 in
    let high_from : h.from / 256 < 256 = bytes 5 in
    record {
      slots = ap slots_read (back (frames.Wide (wide_head_of h) (map formed_as slots)) whole);
      size = t.size;
      ids = record { to = omega (arith, some_to); to_most = omega (arith, high_to); from = omega (arith, some_from); from_most = omega (arith, high_from) };
    }

-- of every value that is a RUN
pub run_is_read : (v : Value) → reading_of (payload_of v) ≡ Whole v → IsBytes (payload_of v) → IfSome (run_head_of v) (RunIsRead v)
run_is_read (OfCircuit (model.RunMessage h slots)) readable bytes =
    let found = message_in (payload_of (OfCircuit (model.RunMessage h slots))) (model.RunMessage h slots) readable in
    narrow h slots found.message bytes (payload_is (payload_of (OfCircuit (model.RunMessage h slots))) found.message bytes found.read) found.shown
run_is_read (OfCircuit (model.WideMessage h slots)) readable bytes =
    let found = message_in (payload_of (OfCircuit (model.WideMessage h slots))) (model.WideMessage h slots) readable in
    wide h slots found.message bytes (payload_is (payload_of (OfCircuit (model.WideMessage h slots))) found.message bytes found.read) found.shown
run_is_read (OfCircuit (model.StartMessage master ask to from info)) readable bytes = tt
run_is_read (OfCircuit (model.StopMessage master ask to from reason text)) readable bytes = tt
run_is_read (OfNotice n) readable bytes = tt
