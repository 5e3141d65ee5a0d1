-- What is made of an entry, by what its payload reads as.
use Rattle.std.proofs.Common.{◌≡◌, ℕ, suc, ◌<◌, ◌≤◌, Bool, true, false, List, length, sym, ap, ap₂, subst, refl, arith, length-append}
use Rattle.std.specs.List.{AllByRecursion}
use Rattle.std.specs.Prelude.{Option, Some, None, Result, Ok}
use Rattle.lat_base.specs.declared.memory.Memory.{Memory}
use Rattle.lat_base.specs.declared.field.Bad.{Bad}
use Rattle.lat_fields.specs.Payloads.{PayloadText}
use Rattle.lat_frames.specs.declared.message.StartInfo.{StartInfo}
use Rattle.lat_frames.specs.declared.message.Message.{Message}
use Rattle.lat_frames.specs.declared.message.Message.TheVariants as kinds
use Rattle.lat_slots.specs.Layout.{IsWritable as SlotIsWritable}
use Rattle.lat_frames.specs.Heads.{run_head}
use Rattle.lat_frames.specs.Heads.{wide_head as wide_text}
use Rattle.lat_frames.specs.MessageText.{MessageText}
use Rattle.lat_frames.specs.Written.{IsWritable, slots_text}
use Rattle.lat_frames.proofs.MessageTaken.{payload_read}
use Rattle.lat_model.specs.sessions.Slots.{Slot}
use Rattle.lat_machines.specs.values.Messages.{RunMessage, WideMessage, StartMessage, StopMessage}
use Rattle.lat_notices.specs.declared.notice.Notice.{Notice}
use Rattle.lat_machines.specs.values.Frames.{OfCircuit, OfNotice, Reading, Whole, Malformed}
use Rattle.lat_circuit.specs.Messages.{message_shown}
use Rattle.lat_value.specs.declared.value.Value.{Value}
use Rattle.lat_value.specs.declared.value.Value.TheVariants as values
use Rattle.lat_value.specs.Texts.{IsPayloadOf}
use Rattle.lat_payload.specs.Reads.{reading_of, malformed, value_shown}
use Rattle.lat_captures.specs.Entries as captures
use Rattle.lat_captures.specs.Entries.{Title}
use Rattle.lat_captures.specs.Legal as legal
use Rattle.lat_captures.specs.Audit.{Place, Tested, Passes, Fails, passed, passed_over, frame_of, run_test}
use Rattle.lat_slots.specs.declared.slot.Slot.{Slot as ReadSlot}
use Rattle.lat_captures.specs.declared.head.RunHead.{RunHead}
use Rattle.lat_captures.specs.declared.rule.Rule.{Rule}
use Rattle.lat_captures.specs.declared.rule.Rule.TheVariants as rules
use Rattle.lat_captures.specs.declared.checker.Checker.{Checker}
use Rattle.lat_captures.specs.Rules.{title_shown}
use Rattle.lat_captures.specs.Answers.{title_of}
use Rattle.lat_audit.specs.declared.entry.Entry.{Entry}
use Rattle.lat_audit.specs.Shown.{slots_read, entry_shown, message_entry, narrow_head, wide_head, head_of, slots_of}
use Rattle.lat_audit.specs.Steps.{after_test, entry_outcome, KnowsPlace, Checks, ChecksRun}

-- of a message
message_shows : (e : Entry) (m : Message) → reading_of e.payload ≡ Whole (OfCircuit (message_shown m)) → PayloadText MessageText m e.payload → entry_shown e ≡ message_entry e.by_master m
message_shows e m reading found =
    ap₂ (λ (r : Reading) (text : List ℕ). let z : captures.Entry = record { by_master = e.by_master; reading = r; text = text } in z)
    reading (ap slots_read (payload_read m e.payload found))

pub message_checks : (result : Result (Option Rule) Memory) (c d : Checker) (e : Entry) (m : Message) (payload : List ℕ) (v : Value) → payload ≡ e.payload → v ≡ values.Circuit m
    → reading_of payload ≡ Whole (value_shown v) → IsPayloadOf v payload → Checks c (message_entry e.by_master m) d result → Checks c (entry_shown e) d result
message_checks result c d e m payload v same is reading found answer =
    let R : List ℕ → Value → Type 0 = λ (p : List ℕ) (w : Value). reading_of p ≡ Whole (value_shown w) in
    let F : List ℕ → Value → Type 0 = λ (p : List ℕ) (w : Value). IsPayloadOf w p in
    let shows = message_shows e m (subst (λ p. R p (values.Circuit m)) same (subst (R payload) is reading)) (subst (λ p. F p (values.Circuit m)) same (subst (F payload) is found)) in
    let P : captures.Entry → Type 0 = λ z. Checks c z d result in
    subst P (sym shows) answer

-- of a notice, which is passed over
pub notice_checks : (c : Checker) (e : Entry) (n : Notice) (payload : List ℕ) (v : Value) → payload ≡ e.payload → v ≡ values.Notice n → reading_of payload ≡ Whole (value_shown v)
    → Checks c (entry_shown e) c (Ok None)
notice_checks c e n payload v same is reading p knows =
    let R : List ℕ → Type 0 = λ (q : List ℕ). reading_of q ≡ Whole (value_shown (values.Notice n)) in
    let W : Value → Type 0 = λ (w : Value). reading_of payload ≡ Whole (value_shown w) in
    let here = subst R same (subst W is reading) in (
      passed_over p,
      ap (entry_outcome (title_shown (title_of c)) p (entry_shown e)) here,
      record { stands = knows.stands; runs = knows.runs },
    )

-- of a payload that can't be read
pub malformed_checks : (c : Checker) (e : Entry) (bad : Bad) (payload : List ℕ) → payload ≡ e.payload → reading_of payload ≡ malformed bad → Checks c (entry_shown e) c (Ok (Some rules.Layout))
malformed_checks c e bad payload same reading p knows =
    let R : List ℕ → Type 0 = λ (q : List ℕ). reading_of q ≡ malformed bad in
    ap (entry_outcome (title_shown (title_of c)) p (entry_shown e)) (subst R same reading)

-- of a RUN
pub run_message_checks : (result : Result (Option Rule) Memory) (c d : Checker) (by_master : Bool) (m : Message) (known : RunHead) (slots : List ReadSlot)
    → Some known ≡ head_of m → slots ≡ slots_of m → ChecksRun c by_master known slots d result → Checks c (message_entry by_master m) d result
run_message_checks result c d by_master (kinds.Run head ss) known slots is same answer =
    let one : known ≡ narrow_head head = cc in
    let P : RunHead → Type 0 = λ (k : RunHead). ChecksRun c by_master k slots d result in
    let Q : List ReadSlot → Type 0 = λ (xs : List ReadSlot). ChecksRun c by_master (narrow_head head) xs d result in
    let known_answer = subst Q same (subst P one answer) in
    λ p knows. known_answer p head.ask (Whole (OfCircuit (message_shown (kinds.Run head ss)))) knows
run_message_checks result c d by_master (kinds.Wide head ss) known slots is same answer =
    let one : known ≡ wide_head head = cc in
    let P : RunHead → Type 0 = λ (k : RunHead). ChecksRun c by_master k slots d result in
    let Q : List ReadSlot → Type 0 = λ (xs : List ReadSlot). ChecksRun c by_master (wide_head head) xs d result in
    let known_answer = subst Q same (subst P one answer) in
    λ p knows. known_answer p head.ask (Whole (OfCircuit (message_shown (kinds.Wide head ss)))) knows
run_message_checks result c d by_master (kinds.Start master ask to from info) known slots is same answer = cc
run_message_checks result c d by_master (kinds.Stop master ask to from reason text) known slots is same answer = cc

-- START and STOP are passed over
over : (c : Checker) (p : Place) → KnowsPlace c p → KnowsPlace c (passed_over p)
over c p knows = record { stands = knows.stands; runs = knows.runs }

start_checks : (c : Checker) (by_master master ask : Bool) (to from : ℕ) (info : StartInfo) → Checks c (message_entry by_master (kinds.Start master ask to from info)) c (Ok None)
start_checks c by_master master ask to from info p knows = (passed_over p, refl, over c p knows)

stop_checks : (c : Checker) (by_master master ask : Bool) (to from reason : ℕ) (text : List ℕ) → Checks c (message_entry by_master (kinds.Stop master ask to from reason text)) c (Ok None)
stop_checks c by_master master ask to from reason text p knows = (passed_over p, refl, over c p knows)

no_head : (known : RunHead) → None ≡ Some known → ⊥
no_head known is = cc

pub other_checks : (c : Checker) (by_master : Bool) (m : Message) → None ≡ head_of m → Checks c (message_entry by_master m) c (Ok None)
other_checks c by_master (kinds.Run head ss) is = absurd (no_head (narrow_head head) is)
other_checks c by_master (kinds.Wide head ss) is = absurd (no_head (wide_head head) is)
other_checks c by_master (kinds.Start master ask to from info) is = start_checks c by_master master ask to from info
other_checks c by_master (kinds.Stop master ask to from reason text) is = stop_checks c by_master master ask to from reason text

-- the slots of a message that can be written
pub slots_few : (m : Message) → IsWritable m → length (slots_of m) < 256
slots_few (kinds.Run head ss) w = w.fits.2
slots_few (kinds.Wide head ss) w = w.fits.2
slots_few (kinds.Start master ask to from info) w = omega arith
slots_few (kinds.Stop master ask to from reason text) w = omega arith

pub slots_ok : (m : Message) → IsWritable m → AllByRecursion SlotIsWritable (slots_of m)
slots_ok (kinds.Run head ss) w = w.fits.3
slots_ok (kinds.Wide head ss) w = w.fits.3
slots_ok (kinds.Start master ask to from info) w = tt
slots_ok (kinds.Stop master ask to from reason text) w = tt

pub slots_room : (m : Message) → IsWritable m → length (slots_text (slots_of m)) ≤ 1500
slots_room (kinds.Run head ss) w = omega (arith, w.room, length-append (run_head head (length ss)) (slots_text ss))
slots_room (kinds.Wide head ss) w = omega (arith, w.room, length-append (wide_text head (length ss)) (slots_text ss))
slots_room (kinds.Start master ask to from info) w = omega arith
slots_room (kinds.Stop master ask to from reason text) w = omega arith

-- each entry counts
test_counts : (p : Place) (e : captures.Entry) (slots : List Slot) (x : Tested) (next : Place) → after_test p e slots x ≡ Ok next → next.index ≡ suc p.index
test_counts p e slots (Passes number ack) next is =
    let one : passed p (frame_of e slots number ack) ≡ next = cc in
    sym (ap (λ (z : Place). z.index) one)
test_counts p e slots (Fails rule) next is = cc

over_counts : (p next : Place) (outcome : Result Place legal.Rule) → outcome ≡ Ok (passed_over p) → outcome ≡ Ok next → next.index ≡ suc p.index
over_counts p next outcome over is =
    let one : passed_over p ≡ next = cc in
    sym (ap (λ (z : Place). z.index) one)

pub entry_counts : (t : Title) (p : Place) (e : captures.Entry) (r : Reading) (next : Place) → entry_outcome t p e r ≡ Ok next → next.index ≡ suc p.index
entry_counts t p e (Malformed field at) next is = cc
entry_counts t p e (Whole (OfCircuit (RunMessage h slots))) next is = test_counts p e slots (run_test t p.seen p.texts e false h slots) next is
entry_counts t p e (Whole (OfCircuit (WideMessage h slots))) next is = test_counts p e slots (run_test t p.seen p.texts e true h slots) next is
entry_counts t p e (Whole (OfCircuit (StartMessage master ask to from info))) next is = over_counts p next (Ok (passed_over p)) refl is
entry_counts t p e (Whole (OfCircuit (StopMessage master ask to from reason text))) next is = over_counts p next (Ok (passed_over p)) refl is
entry_counts t p e (Whole (OfNotice n)) next is = over_counts p next (Ok (passed_over p)) refl is
