-- What is read as a message is a text of it.
use Rattle.std.proofs.Common.{◌≡◌, ℕ, suc, ◌+◌, ◌/◌, ◌<◌, Bool, true, false, ltb, List, [], ◌∷◌, ◌++◌, length, Result, Ok, refl, sym, ◌∙◌, subst, arith}
use Rattle.std.proofs.lemmas.Bool.Decides.{nat_tests}
use Rattle.lat_base.specs.declared.field.Bad.{Bad}
use Rattle.lat_base.specs.declared.field.Field.TheVariants.{Sequence, Acknowledgement, Reason, Text}
use Rattle.lat_fields.specs.Reading.{◌>>=◌, byte_at, number_at, counted_at}
use Rattle.lat_fields.specs.Texts.{number, counted}
use Rattle.lat_fields.specs.Payloads.{PayloadText}
use Rattle.lat_fields.proofs.Steps.{IsBytes, bind_ok}
use Rattle.lat_fields.proofs.Payloads.{payload_found}
use Rattle.lat_slots.specs.declared.slot.Slot.{Slot}
use Rattle.lat_frames.specs.declared.kind.MessageKind.{MessageKind}
use Rattle.lat_frames.specs.declared.kind.MessageKind.TheVariants as kinds
use Rattle.lat_frames.specs.declared.message.Head.{Head}
use Rattle.lat_frames.specs.declared.message.WideHead.{WideHead}
use Rattle.lat_frames.specs.declared.message.StartInfo.{StartInfo}
use Rattle.lat_frames.specs.declared.message.Message.{Message}
use Rattle.lat_frames.specs.declared.message.Message.TheVariants.{Run, Wide, Start, Stop}
use Rattle.lat_frames.specs.declared.read_head.Circuits.{Circuits}
use Rattle.lat_frames.specs.Kinds.{bits_of, kind_of}
use Rattle.lat_frames.specs.Heads.{head_text, is_master, asks, run_head, wide_head}
use Rattle.lat_frames.specs.Conditions.{DestinationFits, InfoFits}
use Rattle.lat_frames.specs.MessageText.{SlotsText, MessageText, info_text}
use Rattle.lat_frames.specs.Reading.{destination_fits, source_fits, circuits_at, slots_at, info_at, run_at, wide_at, start_at, stop_at, tail_at, message_at, message_read}
use Rattle.lat_frames.proofs.TypeNumbers.{kind_bits}
use Rattle.lat_frames.proofs.FirstByte.{first_is}
use Rattle.lat_frames.proofs.Steps.{same_ok, byte_then, number_then, counted_then}
use Rattle.lat_frames.proofs.HeadFound.{circuits_found, slots_found}
use Rattle.lat_frames.proofs.InfoFound.{info_found}

-- A text stands at the front of the bytes.
pub record FoundMessage (first : ℕ) (bytes : List ℕ) (x : Message × ℕ × List ℕ) : Type 0 where
  pub text : List ℕ
  pub is : first ∷ bytes ≡ text ++ x.2
  pub of : MessageText x.0 text

-- what stands in front of the message numbers
abbrev front : Circuits → List ℕ → List ℕ
front c bytes = c.slots ∷ number c.to ++ (number c.from ++ bytes)

abbrev Read : Type 0
Read = ℕ × ℕ × List ℕ

abbrev ReadMessage : Type 0
ReadMessage = Result (Message × ℕ × List ℕ) Bad

abbrev head_of : ℕ → Circuits → ℕ → ℕ → Head
head_of first c seq ack = record { master = is_master first; ask = asks first; to = c.to; from = c.from; seq = seq; ack = ack }

abbrev wide_head_of : ℕ → Circuits → ℕ → ℕ → WideHead
wide_head_of first c seq ack = record { master = is_master first; ask = asks first; to = c.to; from = c.from; seq = seq; ack = ack }

slots_then : (count place : ℕ) (bytes : List ℕ) (k : (List Slot × ℕ × List ℕ) → ReadMessage) (y : Message × ℕ × List ℕ) (R : List ℕ → Type 0) → IsBytes bytes → (slots_at count place bytes >>= k) ≡ Ok y
    → ((slots : List Slot) (next : ℕ) (rest body : List ℕ) → SlotsText slots body → length slots ≡ count → k (slots, next, rest) ≡ Ok y → R (body ++ rest)) → R bytes
slots_then count place bytes k y R all h go =
    let s = bind_ok (slots_at count place bytes) k y h in
    let found = slots_found count place bytes s.0 all s.1 in
    subst R (sym found.is) (go s.0.0 s.0.1 s.0.2 found.body found.texts found.count_is s.2)

-- RUN
abbrev run_end : ℕ → Circuits → Read → Read → (List Slot × ℕ × List ℕ) → ReadMessage
run_end first c seq ack slots = Ok (Run (head_of first c seq.0 ack.0) slots.0, slots.1, slots.2)

abbrev run_ack : ℕ → Circuits → Read → Read → ReadMessage
run_ack first c seq ack = slots_at c.slots ack.1 ack.2 >>= run_end first c seq ack

abbrev run_seq : ℕ → Circuits → Read → ReadMessage
run_seq first c seq = byte_at Acknowledgement seq.1 seq.1 seq.2 >>= run_ack first c seq

run_is : (first : ℕ) (c : Circuits) (seq ack : ℕ) (slots : List Slot) (body : List ℕ) (next : ℕ) (rest : List ℕ) (x : Message × ℕ × List ℕ)
    → first / 4 ≡ bits_of kinds.Run → 0 < c.to → 0 < c.from → c.slots < 256 → SlotsText slots body → length slots ≡ c.slots
    → (Run (head_of first c seq ack) slots, next, rest) ≡ x → FoundMessage first (front c (seq ∷ ack ∷ body ++ rest)) x
run_is first c seq ack slots body next rest x k to from small texts count e =
    let P : (Message × ℕ × List ℕ) → Type 0 = FoundMessage first (front c (seq ∷ ack ∷ body ++ rest)) in
    let made = first_is kinds.Run first k in
    subst P e (record {
      text = run_head (head_of first c seq ack) (length slots) ++ body;
      is = (λ i. made i ∷ sym count i ∷ number c.to ++ (number c.from ++ seq ∷ ack ∷ body ++ rest));
      of = record { destination = to; source = from; count = omega (arith, count, small); body = body; texts = texts; is = refl };
    })

run_found : (first : ℕ) (c : Circuits) (place : ℕ) (bytes : List ℕ) (x : Message × ℕ × List ℕ) → first / 4 ≡ bits_of kinds.Run → 0 < c.to → 0 < c.from → c.slots < 256 → IsBytes bytes → run_at first c place bytes ≡ Ok x → FoundMessage first (front c bytes) x
unfolding run_at
run_found first c place bytes x k to from small all h =
    let P : List ℕ → Type 0 = λ bs. FoundMessage first (front c bs) x in
    byte_then Sequence place place bytes (run_seq first c) x P all h (λ seq p1 r1 _ a1 h1.
    byte_then Acknowledgement p1 p1 r1 (run_ack first c (seq, p1, r1)) x (λ bs. P (seq ∷ bs)) a1 h1 (λ ack p2 r2 _ a2 h2.
    slots_then c.slots p2 r2 (run_end first c (seq, p1, r1) (ack, p2, r2)) x (λ bs. P (seq ∷ ack ∷ bs)) a2 h2 (λ slots p3 r3 body texts count h3.
    run_is first c seq ack slots body p3 r3 x k to from small texts count (same_ok (Run (head_of first c seq ack) slots, p3, r3) x h3))))

-- wide RUN
abbrev wide_end : ℕ → Circuits → Read → Read → (List Slot × ℕ × List ℕ) → ReadMessage
wide_end first c seq ack slots = Ok (Wide (wide_head_of first c seq.0 ack.0) slots.0, slots.1, slots.2)

abbrev wide_ack : ℕ → Circuits → Read → Read → ReadMessage
wide_ack first c seq ack = slots_at c.slots ack.1 ack.2 >>= wide_end first c seq ack

abbrev wide_seq : ℕ → Circuits → Read → ReadMessage
wide_seq first c seq = number_at Acknowledgement seq.1 seq.2 >>= wide_ack first c seq

wide_is : (first : ℕ) (c : Circuits) (seq ack : ℕ) (slots : List Slot) (body : List ℕ) (next : ℕ) (rest : List ℕ) (x : Message × ℕ × List ℕ)
    → first / 4 ≡ bits_of kinds.WideRun → 0 < c.to → 0 < c.from → c.slots < 256 → SlotsText slots body → length slots ≡ c.slots
    → (Wide (wide_head_of first c seq ack) slots, next, rest) ≡ x → FoundMessage first (front c (number seq ++ (number ack ++ (body ++ rest)))) x
wide_is first c seq ack slots body next rest x k to from small texts count e =
    let P : (Message × ℕ × List ℕ) → Type 0 = FoundMessage first (front c (number seq ++ (number ack ++ (body ++ rest)))) in
    let made = first_is kinds.WideRun first k in
    subst P e (record {
      text = wide_head (wide_head_of first c seq ack) (length slots) ++ body;
      is = (λ i. made i ∷ sym count i ∷ number c.to ++ (number c.from ++ (number seq ++ (number ack ++ (body ++ rest)))));
      of = record { destination = to; source = from; count = omega (arith, count, small); body = body; texts = texts; is = refl };
    })

wide_found : (first : ℕ) (c : Circuits) (place : ℕ) (bytes : List ℕ) (x : Message × ℕ × List ℕ) → first / 4 ≡ bits_of kinds.WideRun → 0 < c.to → 0 < c.from → c.slots < 256 → IsBytes bytes → wide_at first c place bytes ≡ Ok x → FoundMessage first (front c bytes) x
unfolding wide_at
wide_found first c place bytes x k to from small all h =
    let P : List ℕ → Type 0 = λ bs. FoundMessage first (front c bs) x in
    number_then Sequence place bytes (wide_seq first c) x P all h (λ seq p1 r1 a1 h1.
    number_then Acknowledgement p1 r1 (wide_ack first c (seq, p1, r1)) x (λ bs. P (number seq ++ bs)) a1 h1 (λ ack p2 r2 a2 h2.
    slots_then c.slots p2 r2 (wide_end first c (seq, p1, r1) (ack, p2, r2)) x (λ bs. P (number seq ++ (number ack ++ bs))) a2 h2 (λ slots p3 r3 body texts count h3.
    wide_is first c seq ack slots body p3 r3 x k to from small texts count (same_ok (Wide (wide_head_of first c seq ack) slots, p3, r3) x h3))))

-- START
abbrev start_end : ℕ → Circuits → (StartInfo × ℕ × List ℕ) → ReadMessage
start_end first c info = Ok (Start (is_master first) (asks first) c.to c.from info.0, info.1, info.2)

abbrev start_ack : ℕ → ℕ → Circuits → Read → ReadMessage
start_ack most first c ack = info_at most (is_master first) ack.1 ack.2 >>= start_end first c

abbrev start_seq : ℕ → ℕ → Circuits → Read → ReadMessage
start_seq most first c seq = byte_at Acknowledgement seq.1 seq.1 seq.2 >>= start_ack most first c

start_is : (first : ℕ) (c : Circuits) (seq ack : ℕ) (info : StartInfo) (bytes : List ℕ) (next : ℕ) (rest : List ℕ) (x : Message × ℕ × List ℕ)
    → first / 4 ≡ bits_of kinds.Start → DestinationFits (is_master first) c.to → 0 < c.from → InfoFits (is_master first) info → bytes ≡ info_text info ++ rest
    → (Start (is_master first) (asks first) c.to c.from info, next, rest) ≡ x → FoundMessage first (front c (seq ∷ ack ∷ bytes)) x
start_is first c seq ack info bytes next rest x k to from fits is e =
    let P : (Message × ℕ × List ℕ) → Type 0 = FoundMessage first (front c (seq ∷ ack ∷ bytes)) in
    let made = first_is kinds.Start first k in
    subst P e (record {
      text = head_text kinds.Start (is_master first) (asks first) c.slots c.to c.from (seq ∷ ack ∷ []) ++ info_text info;
      is = (λ i. made i ∷ front c (seq ∷ ack ∷ is i));
      of = record { destination = to; source = from; fits = fits; slots = c.slots; seq = seq; ack = ack; is = refl };
    })

start_found : (most first : ℕ) (c : Circuits) (place : ℕ) (bytes : List ℕ) (x : Message × ℕ × List ℕ) → first / 4 ≡ bits_of kinds.Start → DestinationFits (is_master first) c.to → 0 < c.from → IsBytes bytes → start_at most first c place bytes ≡ Ok x → FoundMessage first (front c bytes) x
unfolding start_at
start_found most first c place bytes x k to from all h =
    let P : List ℕ → Type 0 = λ bs. FoundMessage first (front c bs) x in
    byte_then Sequence place place bytes (start_seq most first c) x P all h (λ seq p1 r1 _ a1 h1.
    byte_then Acknowledgement p1 p1 r1 (start_ack most first c) x (λ bs. P (seq ∷ bs)) a1 h1 (λ ack p2 r2 _ a2 h2.
    let m = bind_ok (info_at most (is_master first) p2 r2) (start_end first c) x h2 in
    let found = info_found most (is_master first) p2 r2 m.0 a2 m.1 in
    start_is first c seq ack m.0.0 r2 m.0.1 m.0.2 x k to from found.fits found.is (same_ok (Start (is_master first) (asks first) c.to c.from m.0.0, m.0.1, m.0.2) x m.2)))

-- STOP
abbrev stop_end : ℕ → Circuits → Read → (List ℕ × ℕ × List ℕ) → ReadMessage
stop_end first c reason text = Ok (Stop (is_master first) (asks first) c.to c.from reason.0 text.0, text.1, text.2)

abbrev stop_reason : ℕ → Circuits → Read → ReadMessage
stop_reason first c reason = counted_at Text reason.1 reason.1 reason.2 >>= stop_end first c reason

abbrev stop_ack : ℕ → Circuits → Read → ReadMessage
stop_ack first c ack = byte_at Reason ack.1 ack.1 ack.2 >>= stop_reason first c

abbrev stop_seq : ℕ → Circuits → Read → ReadMessage
stop_seq first c seq = byte_at Acknowledgement seq.1 seq.1 seq.2 >>= stop_ack first c

stop_is : (first : ℕ) (c : Circuits) (seq ack reason : ℕ) (text : List ℕ) (next : ℕ) (rest : List ℕ) (x : Message × ℕ × List ℕ) → first / 4 ≡ bits_of kinds.Stop → 0 < c.to → length text < 256
    → (Stop (is_master first) (asks first) c.to c.from reason text, next, rest) ≡ x → FoundMessage first (front c (seq ∷ ack ∷ reason ∷ counted text ++ rest)) x
stop_is first c seq ack reason text next rest x k to short e =
    let P : (Message × ℕ × List ℕ) → Type 0 = FoundMessage first (front c (seq ∷ ack ∷ reason ∷ counted text ++ rest)) in
    let made = first_is kinds.Stop first k in
    subst P e (record {
      text = head_text kinds.Stop (is_master first) (asks first) c.slots c.to c.from (seq ∷ ack ∷ []) ++ reason ∷ counted text;
      is = (λ i. made i ∷ front c (seq ∷ ack ∷ reason ∷ counted text ++ rest));
      of = record { destination = to; short = short; slots = c.slots; seq = seq; ack = ack; is = refl };
    })

stop_found : (first : ℕ) (c : Circuits) (place : ℕ) (bytes : List ℕ) (x : Message × ℕ × List ℕ) → first / 4 ≡ bits_of kinds.Stop → 0 < c.to → IsBytes bytes → stop_at first c place bytes ≡ Ok x → FoundMessage first (front c bytes) x
unfolding stop_at
stop_found first c place bytes x k to all h =
    let P : List ℕ → Type 0 = λ bs. FoundMessage first (front c bs) x in
    byte_then Sequence place place bytes (stop_seq first c) x P all h (λ seq p1 r1 _ a1 h1.
    byte_then Acknowledgement p1 p1 r1 (stop_ack first c) x (λ bs. P (seq ∷ bs)) a1 h1 (λ ack p2 r2 _ a2 h2.
    byte_then Reason p2 p2 r2 (stop_reason first c) x (λ bs. P (seq ∷ ack ∷ bs)) a2 h2 (λ reason p3 r3 _ a3 h3.
    counted_then Text p3 p3 r3 (stop_end first c (reason, p3, r3)) x (λ bs. P (seq ∷ ack ∷ reason ∷ bs)) a3 h3 (λ text p4 r4 short a4 h4.
    stop_is first c seq ack reason text p4 r4 x k to short (same_ok (Stop (is_master first) (asks first) c.to c.from reason text, p4, r4) x h4)))))

-- what the tests of the circuits say
start_to : (master : Bool) (to : ℕ) → destination_fits kinds.Start master to ≡ true → DestinationFits master to
start_to true to h = grind (arith, nat_tests)
start_to false to h = grind (arith, nat_tests)

above : (n : ℕ) → ltb 0 n ≡ true → 0 < n
above n h = grind (arith, nat_tests)

tail_found : (kind : MessageKind) (most first : ℕ) (c : Circuits) (place : ℕ) (bytes : List ℕ) (x : Message × ℕ × List ℕ) → first / 4 ≡ bits_of kind
    → destination_fits kind (is_master first) c.to ≡ true → source_fits kind c.from ≡ true → c.slots < 256 → IsBytes bytes → tail_at kind most first c place bytes ≡ Ok x → FoundMessage first (front c bytes) x
tail_found kinds.Run most first c place bytes x k d s small all h = run_found first c place bytes x k (above c.to d) (above c.from s) small all h
tail_found kinds.Start most first c place bytes x k d s small all h = start_found most first c place bytes x k (start_to (is_master first) c.to d) (above c.from s) all h
tail_found kinds.Stop most first c place bytes x k d s small all h = stop_found first c place bytes x k (above c.to d) all h
tail_found kinds.WideRun most first c place bytes x k d s small all h = wide_found first c place bytes x k (above c.to d) (above c.from s) small all h

message_found : (kind : MessageKind) (first : ℕ) (bytes : List ℕ) (x : Message × ℕ × List ℕ) → IsBytes bytes → first / 4 ≡ bits_of kind → message_at kind first bytes ≡ Ok x → FoundMessage first bytes x
unfolding message_at
message_found kind first bytes x all k h =
    let after : (Circuits × ℕ × List ℕ) → ReadMessage = λ c. tail_at kind (length bytes + 2) first c.0 c.1 c.2 in
    let c = bind_ok (circuits_at kind (is_master first) 1 bytes) after x h in
    let f = circuits_found kind (is_master first) 1 bytes c.0 all c.1 in
    let P : List ℕ → Type 0 = λ bs. FoundMessage first bs x in
    subst P (sym f.is) (tail_found kind (length bytes + 2) first c.0.0 c.0.1 c.0.2 x k f.destination f.source f.slots f.others c.2)

-- what is read as a message is a payload of it
pub payload_is : (payload : List ℕ) (m : Message) → IsBytes payload → message_read payload ≡ Ok m → PayloadText MessageText m payload
unfolding message_read
payload_is payload m all h =
    let f = payload_found kind_of message_at payload m h in
    let bytes : IsBytes (f.first ∷ f.tail) = subst IsBytes f.is all in
    let g = message_found f.kind f.first f.tail (m, f.place, f.rest) (λ i. bytes (suc i)) (kind_bits (f.first / 4) f.kind f.kind_is) f.read in
    record { text = g.text; rest = f.rest; is = f.is ∙ g.is; of = g.of; size = f.size; trailing = f.trailing }
