-- The circuits that a RUN names stand behind its first two bytes.
use Rattle.std.proofs.Common.{◌≡◌, ℕ, ◌+◌, ◌*◌, ◌/◌, ◌%◌, ap, ap₂, ◌∙◌, refl, arith, Bool, true, false, cond, ◌&&◌, List, [], ◌∷◌, ◌++◌, length, Option, Some, None, is_some, Result, Ok, Err, nat_lt, if◌then◌else◌, slice_index}
use Rattle.std.proofs.lemmas.Bool.{lt-ltb}
use Rattle.lat_base.specs.declared.field.Bad.{Bad}
use Rattle.lat_fields.specs.Payloads.{PayloadText}
use Rattle.lat_fields.specs.Texts.{number, counted}
use Rattle.lat_fields.proofs.Steps.{IsBytes}
use Rattle.lat_frames.specs.declared.kind.MessageKind.{MessageKind}
use Rattle.lat_frames.specs.declared.kind.MessageKind.TheVariants as kinds
use Rattle.lat_frames.specs.declared.message.Message.{Message}
use Rattle.lat_frames.specs.declared.message.Message.TheVariants as messages
use Rattle.lat_frames.specs.Heads.{first_byte}
use Rattle.lat_frames.specs.MessageText.{MessageText, info_text}
use Rattle.lat_frames.specs.Kinds.{kind_of, is_kind}
use Rattle.lat_frames.specs.Reading.{message_read}
use Rattle.lat_frames.proofs.FirstByte.{kind_is}
use Rattle.lat_frames.proofs.MessageFound.{payload_is}
use Rattle.lat_notices.specs.declared.notice.Notice.{Notice}
use Rattle.lat_notices.specs.Kinds.{is_notice}
use Rattle.lat_notices.specs.Reading.{notice_read}
use Rattle.lat_machines.specs.values.Frames.{Value, OfCircuit, OfNotice, Whole}
use Rattle.lat_circuit.specs.Messages.{message_shown}
use Rattle.lat_value.specs.declared.value.Value.TheVariants.{Circuit, Notice as NoticeOf}
use Rattle.lat_payload.specs.Notices.{notice_shown}
use Rattle.lat_value.specs.Reading.{read_as, unknown, value_read}
use Rattle.lat_payload.specs.Reads.{reading_of, read_shown}
use Rattle.lat_wire.specs.declared.ledger.heading.Heading.{Heading}
use Rattle.lat_wire.specs.ledger.Headings.{is_run, heading_of, heading_in}

head_bytes : (a b c d e f : ℕ) (r : List ℕ) (k : Bool) → is_run (kind_of (a / 4)) ≡ k → heading_in (a ∷ b ∷ c ∷ d ∷ e ∷ f ∷ r) ≡ cond k (Some (record { to = c + d * 256; from = e + f * 256 })) None
head_bytes a b c d e f r k h =
    let n : nat_lt 5 (length (a ∷ b ∷ c ∷ d ∷ e ∷ f ∷ r)) ≡ true = lt-ltb 5 (length (a ∷ b ∷ c ∷ d ∷ e ∷ f ∷ r)) (omega arith) in
    ap₂ (λ x y. cond (x && y) (Some (record { to = c + d * 256; from = e + f * 256 })) None) n h

two_bytes : (x : ℕ) → x % 256 + x / 256 * 256 ≡ x
two_bytes x = omega arith

both_bytes : (to from : ℕ) → Some (record { to = to % 256 + to / 256 * 256; from = from % 256 + from / 256 * 256 }) ≡ Some (let h : Heading = record { to = to; from = from } in h)
both_bytes to from = ap₂ (λ x y. let h : Heading = record { to = x; from = y } in Some h) (two_bytes to) (two_bytes from)

message_heading : (p : List ℕ) (m : Message) → PayloadText MessageText m p → heading_in p ≡ heading_of (OfCircuit (message_shown m))
message_heading p (messages.Run h slots) t = ap heading_in (t.is ∙ ap (λ z. z ++ t.rest) t.of.is) ∙ (head_bytes (first_byte kinds.Run h.master h.ask) (length slots) (h.to % 256) (h.to / 256) (h.from % 256) (h.from / 256) (h.seq ∷ h.ack ∷ (t.of.body ++ t.rest)) true (ap is_run (kind_is kinds.Run h.master h.ask)) ∙ both_bytes h.to h.from)
message_heading p (messages.Wide h slots) t = ap heading_in (t.is ∙ ap (λ z. z ++ t.rest) t.of.is) ∙ (head_bytes (first_byte kinds.WideRun h.master h.ask) (length slots) (h.to % 256) (h.to / 256) (h.from % 256) (h.from / 256) (number h.seq ++ (number h.ack ++ (t.of.body ++ t.rest))) true (ap is_run (kind_is kinds.WideRun h.master h.ask)) ∙ both_bytes h.to h.from)
message_heading p (messages.Start master ask to from info) t = ap heading_in (t.is ∙ ap (λ z. z ++ t.rest) t.of.is) ∙ head_bytes (first_byte kinds.Start master ask) t.of.slots (to % 256) (to / 256) (from % 256) (from / 256) (t.of.seq ∷ t.of.ack ∷ (info_text info ++ t.rest)) false (ap is_run (kind_is kinds.Start master ask))
message_heading p (messages.Stop master ask to from reason text) t = ap heading_in (t.is ∙ ap (λ z. z ++ t.rest) t.of.is) ∙ head_bytes (first_byte kinds.Stop master ask) t.of.slots (to % 256) (to / 256) (from % 256) (from / 256) (t.of.seq ∷ t.of.ack ∷ ((reason ∷ counted text) ++ t.rest)) false (ap is_run (kind_is kinds.Stop master ask))

the_value : (v w : Value) → Whole v ≡ Whole w → v ≡ w
the_value v w e = cc

circuit_heading : (p : List ℕ) (v : Value) → IsBytes p → (r : Result Message Bad) → message_read p ≡ r → read_shown (read_as Circuit r) ≡ Whole v → heading_in p ≡ heading_of v
circuit_heading p v b (Ok m) h e = message_heading p m (payload_is p m b h) ∙ ap heading_of (the_value (OfCircuit (message_shown m)) v e)
circuit_heading p v b (Err bad) h e = let z : ⊥ = cc in absurd z

notice_heading : (first : ℕ) (rest : List ℕ) (v : Value) → is_kind (first / 4) ≡ false → (r : Result Notice Bad) → read_shown (read_as NoticeOf r) ≡ Whole v → heading_in (first ∷ rest) ≡ heading_of v
notice_heading first rest v k (Ok n) e = no_kind ∙ ap heading_of (the_value (OfNotice (notice_shown n)) v e)
  where
    no_run : (found : Option MessageKind) → is_some found ≡ false → is_run found ≡ false
    no_run (Some kind) h = let z : ⊥ = cc in absurd z
    no_run None h = refl

    none : (x : Bool) (t : Heading) → cond (x && false) (Some t) None ≡ None
    none true t = refl
    none false t = refl

    no_kind : heading_in (first ∷ rest) ≡ None
    no_kind =
        let t : Heading = record { to = slice_index (first ∷ rest) 2 + slice_index (first ∷ rest) 3 * 256; from = slice_index (first ∷ rest) 4 + slice_index (first ∷ rest) 5 * 256 } in
        ap (λ z. cond (nat_lt 5 (length (first ∷ rest)) && z) (Some t) None) (no_run (kind_of (first / 4)) k) ∙ none (nat_lt 5 (length (first ∷ rest))) t
notice_heading first rest v k (Err bad) e = let z : ⊥ = cc in absurd z

pub heading_read : (p : List ℕ) (v : Value) → IsBytes p → reading_of p ≡ Whole v → heading_in p ≡ heading_of v
unfolding reading_of value_read
heading_read [] v b e = let z : ⊥ = cc in absurd z
heading_read (first ∷ rest) v b e = go (is_kind (first / 4)) refl (is_notice (first / 4)) e
  where
    go : (k : Bool) → is_kind (first / 4) ≡ k → (n : Bool) → read_shown (if k then read_as Circuit (message_read (first ∷ rest)) else if n then read_as NoticeOf (notice_read (first ∷ rest)) else unknown) ≡ Whole v → heading_in (first ∷ rest) ≡ heading_of v
    go true h n e = circuit_heading (first ∷ rest) v b (message_read (first ∷ rest)) refl e
    go false h true e = notice_heading first rest v h (notice_read (first ∷ rest)) e
    go false h false e = let z : ⊥ = cc in absurd z

-- what stands in the bytes is what the value names
pub heading_told : (p : List ℕ) (q : Option Heading) → IsBytes p → q ≡ heading_in p → (v : Value) → reading_of p ≡ Whole v → q ≡ heading_of v
heading_told p q b e v r = e ∙ heading_read p v b r
