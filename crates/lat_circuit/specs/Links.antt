-- What one end keeps of its numbered messages, and the messages of the model that it stands for.
use Rattle.std.specs.Prelude.{◌≡◌, ℕ, suc, ◌+◌, ◌*◌, ◌<◌, ◌≤◌, Bool, false, List, [], ◌∷◌, ◌++◌, length, drop, Some}
use Rattle.std.specs.List.{All}
use Rattle.lat_model.specs.Lists.{Each}
use Rattle.lat_model.specs.numbers.Link.{Link, Frame, formed_frame}
use Rattle.lat_model.specs.numbers.Near.{near}
use Rattle.lat_model.specs.sessions.Slots.{Slot}
use Rattle.lat_seq.specs.declared.span.Span.{Span}
use Rattle.lat_seq.specs.Spans.{half}
use Rattle.lat_seq.specs.Sides.{Sending, Receiving, Sends, Takes}
use Rattle.lat_stream.specs.Wire.{IsFormed}
use Rattle.lat_circuit.specs.declared.ids.Ids.{Ids}
use Rattle.lat_circuit.specs.Payloads.{head_size, slots_as_text, frame_head, run_payload}

pub record Kept : Type 0 where
  pub ids : Ids
  pub sending : Sending
  pub receiving : Receiving
  pub texts : List (List ℕ)  -- the payloads of the messages not known to be taken, oldest first

-- what always holds of a link with this window and these spans
pub record Holds (most : ℕ) (span : Span) (k : Kept) : Type 0 where
  pub window : k.sending.window ≡ most
  pub some : 1 ≤ most
  pub eight : most ≤ 8
  pub few : k.sending.unacknowledged ≤ most
  pub out : k.sending.span ≡ span
  pub in_span : k.receiving.span ≡ span
  pub last : k.receiving.last < 2 * half span
  pub count : length k.texts ≡ k.sending.unacknowledged
  pub whole : All (λ t. 46 ≤ length t) k.texts

-- a circuit with these ids, of which no message was formed or taken
abbrev pub fresh_kept : Ids → ℕ → Span → Kept
fresh_kept ids window span = record {
  ids = ids;
  sending = record { span = span; window = window; known = 0; unacknowledged = 0 };
  receiving = record { span = span; last = 0 };
  texts = [];
}

-- the payload of the message of this number, with the acknowledgement of some moment
pub record IsText (ids : Ids) (span : Span) (number : ℕ) (m : List Slot) (text : List ℕ) : Type 0 where
  pub acknowledgement : ℕ
  pub is : text ≡ run_payload ids span false (record { number = number; acknowledgement = acknowledgement; body = Some m })

-- the payloads of these messages, which follow the first k
abbrev pub AreTexts : Ids → Span → ℕ → List (List Slot) → List (List ℕ) → Type 0
AreTexts ids span k [] [] = Unit {0}
AreTexts ids span k (m ∷ ms) (t ∷ ts) = IsText ids span (suc k) m t × AreTexts ids span (suc k) ms ts
AreTexts ids span k [] (t ∷ ts) = ⊥
AreTexts ids span k (m ∷ ms) [] = ⊥

-- slots that a RUN of this span can carry
pub record IsMessage (span : Span) (m : List Slot) : Type 0 where
  pub slots : Each IsFormed m
  pub count : length m < 256
  pub room : head_size span + length (slots_as_text m) ≤ 1500

pub record Stands (k : Kept) (l : Link (List Slot)) : Type 0 where
  pub sends : Sends k.sending (length l.sent) l.known
  pub takes : Takes k.receiving (length l.came)
  pub texts : AreTexts k.ids k.sending.span l.known (drop l.known l.sent) k.texts
  pub messages : Each (IsMessage k.sending.span) (drop l.known l.sent)

-- the payload of a frame on this circuit
abbrev pub frame_payload : Kept → Bool → Frame (List Slot) → List ℕ
frame_payload k ask f = run_payload k.ids k.sending.span ask f

-- the head of the next message, as one of no slots
abbrev pub next_head : Kept → Link (List Slot) → List Slot → List ℕ
next_head k l m = frame_head k.ids k.sending.span false (formed_frame l m) 0

-- that head and the slots behind it: the next message before it is formed
abbrev pub unformed_payload : Kept → Link (List Slot) → List Slot → List ℕ
unformed_payload k l m = next_head k l m ++ slots_as_text m

-- how many messages a field acknowledges
abbrev pub acknowledged_by : Kept → Link (List Slot) → ℕ → ℕ
acknowledged_by k l ack = near ack l.known (half k.sending.span)
