-- What is written of a value reads as the value.
use Rattle.std.proofs.Common.{◌≡◌, ℕ, ◌/◌, true, List, [], ◌∷◌, Ok, is_some, if◌then◌else◌, ap, ◌∙◌}
use Rattle.lat_fields.specs.Payloads.{padded}
use Rattle.lat_fields.proofs.Payloads.{payload_found}
use Rattle.lat_frames.specs.declared.message.Message.{Message}
use Rattle.lat_frames.specs.Kinds.{kind_of, is_kind}
use Rattle.lat_frames.specs.Reading.{message_at, message_read}
use Rattle.lat_frames.specs.Written.{message_text, IsWritable as MessageIsWritable}
use Rattle.lat_frames.proofs.MessageTaken as messages
use Rattle.lat_frames.proofs.Outcomes.{written_payload}
use Rattle.lat_notices.specs.declared.notice.Notice.{Notice}
use Rattle.lat_notices.specs.declared.notice.Notice.TheVariants as kinds
use Rattle.lat_notices.specs.Kinds.{is_notice}
use Rattle.lat_notices.specs.Reading.{notice_read}
use Rattle.lat_notices.specs.Texts.{notice_text, IsWritable}
use Rattle.lat_notices.proofs.Exact as notices
use Rattle.lat_machines.specs.values.Frames.{Whole, OfCircuit, OfNotice}
use Rattle.lat_machines.specs.values.Messages as machines
use Rattle.lat_circuit.specs.Messages.{message_of, message_shown}
use Rattle.lat_value.specs.declared.value.Value.{Value}
use Rattle.lat_value.specs.declared.value.Value.TheVariants as values
use Rattle.lat_payload.specs.Notices.{notice_shown}
use Rattle.lat_payload.specs.Frames.{payload_of}
use Rattle.lat_value.specs.Reading.{read_as, unknown, value_read}
use Rattle.lat_payload.specs.Reads.{reading_of, read_shown, value_shown}
use Rattle.lat_payload.proofs.Notices.{notice_back}

-- a payload that is read is of a known type
message_kind : (first : ℕ) (rest : List ℕ) (m : Message) → message_read (first ∷ rest) ≡ Ok m → is_kind (first / 4) ≡ true
unfolding message_read
message_kind first rest m read =
    let f = payload_found kind_of message_at (first ∷ rest) m read in
    let same : first ≡ f.first = let e = f.is in cc in
    ap (λ b. is_kind (b / 4)) same ∙ ap is_some f.kind_is

no_message : (m : Message) → message_read [] ≡ Ok m → ⊥
unfolding message_read
no_message m read = cc

-- a message
message_reads : (payload : List ℕ) (m : Message) → message_read payload ≡ Ok m → value_read payload ≡ Ok (values.Circuit m)
unfolding value_read
message_reads [] m read = absurd (no_message m read)
message_reads (first ∷ rest) m read =
    ap (λ b. if b then read_as values.Circuit (message_read (first ∷ rest))
    else if is_notice (first / 4) then read_as values.Notice (notice_read (first ∷ rest)) else unknown) (message_kind first rest m read)
    ∙ ap (read_as values.Circuit) read

-- what is read as a value is heard as that value
read_is_heard : (payload : List ℕ) (v : Value) → value_read payload ≡ Ok v → reading_of payload ≡ Whole (value_shown v)
unfolding reading_of
read_is_heard payload v read = ap read_shown read

pub message_readable : (m : machines.Message) → MessageIsWritable (message_of m) → message_shown (message_of m) ≡ m → reading_of (payload_of (OfCircuit m)) ≡ Whole (OfCircuit m)
message_readable m w shown =
    let written = messages.payload_read (message_of m) (padded (message_text (message_of m))) (written_payload (message_of m) w) in
    read_is_heard (padded (message_text (message_of m))) (values.Circuit (message_of m)) (message_reads (padded (message_text (message_of m))) (message_of m) written) ∙ ap (λ x. Whole (OfCircuit x)) shown

-- a notice
notice_is_read : (n : Notice) → IsWritable n → notice_read (padded (notice_text n)) ≡ Ok n
notice_is_read n w = notices.payload_read n (padded (notice_text n)) (notices.padded_is n w)

notice_reads : (n : Notice) → IsWritable n → value_read (padded (notice_text n)) ≡ Ok (values.Notice n)
unfolding value_read
notice_reads (kinds.Announcement a) w = ap (read_as values.Notice) (notice_is_read (kinds.Announcement a) w)
notice_reads (kinds.Command c) w = ap (read_as values.Notice) (notice_is_read (kinds.Command c) w)
notice_reads (kinds.Status s) w = ap (read_as values.Notice) (notice_is_read (kinds.Status s) w)
notice_reads (kinds.Solicit s) w = ap (read_as values.Notice) (notice_is_read (kinds.Solicit s) w)
notice_reads (kinds.Response r) w = ap (read_as values.Notice) (notice_is_read (kinds.Response r) w)

pub notice_readable : (n : Notice) → IsWritable n → reading_of (payload_of (OfNotice (notice_shown n))) ≡ Whole (OfNotice (notice_shown n))
notice_readable n w = ap (λ m. reading_of (padded (notice_text m))) (notice_back n) ∙ read_is_heard (padded (notice_text n)) (values.Notice n) (notice_reads n w)
