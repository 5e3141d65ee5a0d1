-- A text of a message is read as that message, whatever stands behind it.
use Rattle.std.proofs.Common.{◌≡◌, ℕ, ◌+◌, ◌/◌, ◌<◌, ◌≤◌, Bool, true, false, ltb, List, ◌∷◌, ◌++◌, length, Some, Ok, refl, ap, ◌∙◌, arith, length-append}
use Rattle.std.proofs.lemmas.Bool.Decides.{nat_tests}
use Rattle.lat_fields.specs.Reading.{bad}
use Rattle.lat_fields.specs.Texts.{number, counted}
use Rattle.lat_fields.specs.Payloads.{PayloadText}
use Rattle.lat_base.specs.declared.field.Field.TheVariants.{Sequence, Acknowledgement, Text, Trailing}
use Rattle.lat_fields.proofs.Taken.{number_taken, counted_taken, fewer_entries}
use Rattle.lat_fields.proofs.Payloads.{payload_taken, payload_trailing}
use Rattle.lat_slots.specs.declared.slot.Slot.{Slot}
use Rattle.lat_frames.specs.declared.kind.MessageKind.{MessageKind}
use Rattle.lat_frames.specs.declared.kind.MessageKind.TheVariants as kinds
use Rattle.lat_frames.specs.declared.message.Head.{Head}
use Rattle.lat_frames.specs.declared.message.WideHead.{WideHead}
use Rattle.lat_frames.specs.declared.message.StartInfo.{StartInfo}
use Rattle.lat_frames.specs.declared.message.Message.{Message}
use Rattle.lat_frames.specs.declared.message.Message.TheVariants.{Run, Wide, Start, Stop}
use Rattle.lat_frames.specs.Kinds.{kind_of}
use Rattle.lat_frames.specs.Heads.{first_byte, is_master, asks}
use Rattle.lat_frames.specs.Conditions.{DestinationFits, InfoFits}
use Rattle.lat_frames.specs.MessageText.{SlotsText, MessageText, info_text}
use Rattle.lat_frames.specs.Reading.{destination_fits, source_fits, run_at, wide_at, start_at, stop_at, tail_at, message_at, message_read}
use Rattle.lat_frames.proofs.FirstByte.{kind_is, master_is, ask_is}
use Rattle.lat_frames.proofs.Taken.{circuits, slots_taken, circuits_taken, info_taken}

positive : (n : ℕ) → 0 < n → ltb 0 n ≡ true
positive n h = grind (arith, nat_tests)

start_destination : (master : Bool) (to : ℕ) → DestinationFits master to → destination_fits kinds.Start master to ≡ true
start_destination true to d = rw d refl
start_destination false to d = positive to d

whole_taken : (kind : MessageKind) (first slots to from : ℕ) (body : List ℕ) (m : Message) (end : ℕ) (rest : List ℕ) → destination_fits kind (is_master first) to ≡ true → source_fits kind from ≡ true
    → tail_at kind (length (slots ∷ number to ++ (number from ++ body)) + 2) first (circuits slots to from) 6 body ≡ Ok (m, end, rest)
    → message_at kind first (slots ∷ number to ++ (number from ++ body)) ≡ Ok (m, end, rest)
unfolding message_at
whole_taken kind first slots to from body m end rest d s tail = rw (circuits_taken kind (is_master first) 1 slots to from body d s) tail

-- What the law of payloads asks of a text.
pub record TakenMessage (m : Message) (b rest : List ℕ) : Type 0 where
  pub kind : MessageKind
  pub first : ℕ
  pub tail : List ℕ
  pub is : b ≡ first ∷ tail
  pub kind_is : kind_of (first / 4) ≡ Some kind
  pub read : message_at kind first (tail ++ rest) ≡ Ok (m, length b, rest)

abbrev head_of : ℕ → ℕ → ℕ → ℕ → ℕ → Head
head_of first to from seq ack = record { master = is_master first; ask = asks first; to = to; from = from; seq = seq; ack = ack }

run_taken : (first : ℕ) (h : Head) (slots : List Slot) (body rest : List ℕ) → is_master first ≡ h.master → asks first ≡ h.ask → SlotsText slots body
    → run_at first (circuits (length slots) h.to h.from) 6 (h.seq ∷ h.ack ∷ body ++ rest) ≡ Ok (Run h slots, 8 + length body, rest)
unfolding run_at
run_taken first h slots body rest m a texts =
    rw (slots_taken slots body 8 rest texts) (λ i. Ok (Run (record { master = m i; ask = a i; to = h.to; from = h.from; seq = h.seq; ack = h.ack }) slots, 8 + length body, rest))

wide_taken : (first : ℕ) (h : WideHead) (slots : List Slot) (body rest : List ℕ) → is_master first ≡ h.master → asks first ≡ h.ask → SlotsText slots body
    → wide_at first (circuits (length slots) h.to h.from) 6 (number h.seq ++ (number h.ack ++ (body ++ rest))) ≡ Ok (Wide h slots, 10 + length body, rest)
unfolding wide_at
wide_taken first h slots body rest m a texts =
    rw (number_taken Sequence 6 h.seq (number h.ack ++ (body ++ rest)), number_taken Acknowledgement 8 h.ack (body ++ rest), slots_taken slots body 10 rest texts)
    (λ i. Ok (Wide (record { master = m i; ask = a i; to = h.to; from = h.from; seq = h.seq; ack = h.ack }) slots, 10 + length body, rest))

start_taken : (most first : ℕ) (master ask : Bool) (slots to from seq ack : ℕ) (i : StartInfo) (rest : List ℕ) → is_master first ≡ master → asks first ≡ ask → InfoFits master i → length i.params < most
    → start_at most first (circuits slots to from) 6 (seq ∷ ack ∷ info_text i ++ rest) ≡ Ok (Start master ask to from i, 8 + length (info_text i), rest)
unfolding start_at
start_taken most first master ask slots to from seq ack i rest m a fits more =
    rw (m, a, info_taken master most 8 i rest fits more) refl

stop_taken : (first : ℕ) (master ask : Bool) (slots to from seq ack reason : ℕ) (text rest : List ℕ) → is_master first ≡ master → asks first ≡ ask
    → stop_at first (circuits slots to from) 6 (seq ∷ ack ∷ reason ∷ counted text ++ rest) ≡ Ok (Stop master ask to from reason text, 9 + 1 + length text, rest)
unfolding stop_at
stop_taken first master ask slots to from seq ack reason text rest m a =
    rw (m, a, counted_taken Text 9 9 text rest) refl

info_room : (i : StartInfo) → length i.params < length (info_text i)
info_room i = simp length-append (omega (arith, simp length-append at (fewer_entries i.params)))

pub message_taken : (m : Message) (b rest : List ℕ) → MessageText m b → TakenMessage m b rest
message_taken (Run h slots) b rest t =
    let first = first_byte kinds.Run h.master h.ask in
    let body = t.body in
    let n = length slots in
    let ends : 8 + length body ≡ length b = omega (arith, ap length t.is) in
    record {
      kind = kinds.Run;
      first = first;
      tail = n ∷ number h.to ++ (number h.from ++ h.seq ∷ h.ack ∷ body);
      is = t.is;
      kind_is = kind_is kinds.Run h.master h.ask;
      read = whole_taken kinds.Run first n h.to h.from (h.seq ∷ h.ack ∷ body ++ rest) (Run h slots) (8 + length body) rest (positive h.to t.destination) (positive h.from t.source)
          (run_taken first h slots body rest (master_is kinds.Run h.master h.ask) (ask_is kinds.Run h.master h.ask) t.texts)
          ∙ ap (λ (e : ℕ). Ok (Run h slots, e, rest)) ends;
    }
message_taken (Wide h slots) b rest t =
    let first = first_byte kinds.WideRun h.master h.ask in
    let body = t.body in
    let n = length slots in
    let ends : 10 + length body ≡ length b = omega (arith, ap length t.is) in
    record {
      kind = kinds.WideRun;
      first = first;
      tail = n ∷ number h.to ++ (number h.from ++ (number h.seq ++ (number h.ack ++ body)));
      is = t.is;
      kind_is = kind_is kinds.WideRun h.master h.ask;
      read = whole_taken kinds.WideRun first n h.to h.from (number h.seq ++ (number h.ack ++ (body ++ rest))) (Wide h slots) (10 + length body) rest (positive h.to t.destination) (positive h.from t.source)
          (wide_taken first h slots body rest (master_is kinds.WideRun h.master h.ask) (ask_is kinds.WideRun h.master h.ask) t.texts)
          ∙ ap (λ (e : ℕ). Ok (Wide h slots, e, rest)) ends;
    }
message_taken (Start master ask to from info) b rest t =
    let first = first_byte kinds.Start master ask in
    let body : List ℕ = t.seq ∷ t.ack ∷ info_text info ++ rest in
    let ends : 8 + length (info_text info) ≡ length b = omega (arith, ap length t.is) in
    let more : length info.params < length (t.slots ∷ number to ++ (number from ++ body)) + 2 = omega (arith, info_room info, length-append (info_text info) rest) in
    record {
      kind = kinds.Start;
      first = first;
      tail = t.slots ∷ number to ++ (number from ++ t.seq ∷ t.ack ∷ info_text info);
      is = t.is;
      kind_is = kind_is kinds.Start master ask;
      read = whole_taken kinds.Start first t.slots to from body (Start master ask to from info) (8 + length (info_text info)) rest (ap (λ (b : Bool). destination_fits kinds.Start b to) (master_is kinds.Start master ask) ∙ start_destination master to t.destination) (positive from t.source)
          (start_taken _ first master ask t.slots to from t.seq t.ack info rest (master_is kinds.Start master ask) (ask_is kinds.Start master ask) t.fits more)
          ∙ ap (λ (e : ℕ). Ok (Start master ask to from info, e, rest)) ends;
    }
message_taken (Stop master ask to from reason text) b rest t =
    let first = first_byte kinds.Stop master ask in
    let ends : 9 + 1 + length text ≡ length b = omega (arith, ap length t.is) in
    record {
      kind = kinds.Stop;
      first = first;
      tail = t.slots ∷ number to ++ (number from ++ t.seq ∷ t.ack ∷ reason ∷ counted text);
      is = t.is;
      kind_is = kind_is kinds.Stop master ask;
      read = whole_taken kinds.Stop first t.slots to from (t.seq ∷ t.ack ∷ reason ∷ counted text ++ rest) (Stop master ask to from reason text) (9 + 1 + length text) rest (positive to t.destination) refl
          (stop_taken first master ask t.slots to from t.seq t.ack reason text rest (master_is kinds.Stop master ask) (ask_is kinds.Stop master ask))
          ∙ ap (λ (e : ℕ). Ok (Stop master ask to from reason text, e, rest)) ends;
    }

-- a payload that is a text of the message is read as it
pub payload_read : (m : Message) (payload : List ℕ) → PayloadText MessageText m payload → message_read payload ≡ Ok m
unfolding message_read
payload_read m payload p =
    let t = message_taken m p.text p.rest p.of in
    payload_taken kind_of message_at m t.kind t.first (length p.text) (t.tail ++ p.rest) p.rest payload (p.is ∙ ap (λ b. b ++ p.rest) t.is) t.kind_is t.read p.size p.trailing

-- something behind the text of a payload of 47 bytes or more
pub payload_refused : (m : Message) (text rest : List ℕ) → MessageText m text → 0 < length rest → 46 < length (text ++ rest) → length (text ++ rest) ≤ 1500 → message_read (text ++ rest) ≡ bad Trailing (length text)
unfolding message_read
payload_refused m text rest of some long size =
    let t = message_taken m text rest of in
    payload_trailing kind_of message_at m t.kind t.first (length text) (t.tail ++ rest) rest (text ++ rest) (ap (λ b. b ++ rest) t.is) t.kind_is t.read size some long
