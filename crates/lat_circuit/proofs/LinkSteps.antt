-- What a link keeps after each step, and what it stands for then.
use Rattle.std.proofs.Common.{◌≡◌, ℕ, zero, suc, ◌+◌, ◌-◌, ◌*◌, ◌≤◌, ◌<◌, Bool, true, false, cond, List, [], ◌∷◌, ◌++◌, length, drop, replicate, map, slice_get, Some, None, refl, sym, ap, subst, ◌∙◌, arith, length-append}
use Rattle.std.specs.List.{All}
use Rattle.std.proofs.lemmas.List.{drop-append-le, drop-drop, length-drop, length-replicate}
use Rattle.std.proofs.lemmas.List.Elements.{All-append, All-cons, All-nil}
use Rattle.circular_buffer.specs.Buffer.{keep_last}
use Rattle.lat_fields.specs.Payloads.{padded}
use Rattle.lat_model.specs.Lists.{Each}
use Rattle.lat_model.specs.numbers.Link.{Link, again_frames, formed_frame, form_message, ack_in, is_unsent, take_message}
use Rattle.lat_model.specs.sessions.Slots.{Slot}
use Rattle.lat_seq.specs.declared.span.Span.{Span}
use Rattle.lat_seq.specs.declared.sending.AckFact.TheVariants.{New}
use Rattle.lat_seq.specs.Spans.{half, field}
use Rattle.lat_seq.specs.Sides.{Sending, Receiving, Sends, Takes}
use Rattle.lat_seq.specs.Acks.{by_numbers, known_after}
use Rattle.lat_seq.proofs.Links as sides
use Rattle.lat_model.proofs.numbers.Net.{each_append}
use Rattle.lat_circuit.specs.Payloads.{run_payload, acknowledged}
use Rattle.lat_circuit.specs.Links.{Kept, Holds, IsText, AreTexts, IsMessage, Stands}
use Rattle.lat_circuit.proofs.Numbers.{field_of_small, small}
use Rattle.lat_circuit.proofs.Texts.{keep_all, texts_push, texts_drop, texts_length, texts_again}

-- a message is taken

pub taken_holds : (most : ℕ) (span : Span) (k : Kept) (side : Receiving) (b : Bool) → Holds most span k → side.span ≡ k.receiving.span → ((taken : ℕ) → Takes k.receiving taken → Takes side (cond b (suc taken) taken)) → Holds most span (record k { receiving = side })
taken_holds most span k side b h e after = record {
  window = h.window;
  some = h.some;
  eight = h.eight;
  few = h.few;
  out = h.out;
  in_span = e ∙ h.in_span;
  last = small side.span span side.last _ (e ∙ h.in_span) (after k.receiving.last (sym (field_of_small k.receiving.span k.receiving.last (subst (λ s. k.receiving.last < 2 * half s) (sym h.in_span) h.last))));
  count = h.count;
  whole = h.whole;
}

pub taken_stands : (k : Kept) (side : Receiving) (b : Bool) (l : Link (List Slot)) (m : List Slot) → b ≡ true → ((taken : ℕ) → Takes k.receiving taken → Takes side (cond b (suc taken) taken)) → Stands k l → Stands (record k { receiving = side }) (take_message l m)
taken_stands k side b l m e after h = record {
  sends = h.sends;
  takes = sides.taken side l m (subst (λ c. Takes side (cond c (suc (length l.came)) (length l.came))) e (after (length l.came) h.takes));
  texts = h.texts;
  messages = h.messages;
}

-- a message is formed

each_drop : {X : Type 0} (P : X → Type 0) (n : ℕ) (xs : List X) → Each P xs → Each P (drop n xs)
each_drop P zero xs all = all
each_drop P (suc n) [] all = tt
each_drop P (suc n) (x ∷ xs) all = each_drop P n xs all.1

one_more : {X : Type 0} (xs : List X) (x : X) → length (xs ++ x ∷ []) ≡ suc (length xs)
one_more xs x = length-append xs (x ∷ []) ∙ (omega arith)

pub padded_length : (text : List ℕ) → 46 ≤ length (padded text)
padded_length text = omega (arith, length-append text (replicate (46 - length text) 0), length-replicate {A = ℕ} (46 - length text) 0)

-- the ring has room for one more
pub all_kept : (most : ℕ) (span : Span) (k : Kept) (capacity : ℕ) (t : List ℕ) → Holds most span k → capacity ≡ 8 → k.sending.unacknowledged < k.sending.window → keep_last capacity (k.texts ++ t ∷ []) ≡ k.texts ++ t ∷ []
all_kept most span k capacity t h eight room = keep_all capacity (k.texts ++ t ∷ []) (omega (arith, one_more k.texts t, h.count, h.window, h.eight, room, eight))

pub formed_holds : (most : ℕ) (span : Span) (k : Kept) (side : Sending) (texts : List (List ℕ)) (t : List ℕ) → Holds most span k → side ≡ record k.sending { unacknowledged = suc k.sending.unacknowledged } → k.sending.unacknowledged < k.sending.window → texts ≡ k.texts ++ t ∷ [] → 46 ≤ length t → Holds most span (record k { sending = side; texts = texts })
formed_holds most span k side texts t h is room all long = record {
  window = ap (λ s. s.window) is ∙ h.window;
  some = h.some;
  eight = h.eight;
  few = few_more _ _ _ _ (ap (λ s. s.unacknowledged) is) room h.window;
  out = ap (λ s. s.span) is ∙ h.out;
  in_span = h.in_span;
  last = h.last;
  count = ap length all ∙ (one_more k.texts t ∙ (ap suc h.count ∙ sym (ap (λ s. s.unacknowledged) is)));
  whole = subst (λ ts. All (λ x. 46 ≤ length x) ts) (sym all) (All-append (λ x. 46 ≤ length x) k.texts (t ∷ []) h.whole (All-cons (λ x. 46 ≤ length x) t [] long (All-nil _)));
}
  where
    few_more : (u v w most : ℕ) → u ≡ suc v → v < w → w ≡ most → u ≤ most
    few_more u v w most e f g = omega arith

pub formed_stands : (k : Kept) (side : Sending) (texts : List (List ℕ)) (t : List ℕ) (l : Link (List Slot)) (m : List Slot) → Stands k l → side.span ≡ k.sending.span → Sends side (suc (length l.sent)) l.known → texts ≡ k.texts ++ t ∷ [] → t ≡ run_payload k.ids k.sending.span false (formed_frame l m) → IsMessage k.sending.span m → Stands (record k { sending = side; texts = texts }) (form_message l m)
formed_stands k side texts t l m h e sends all is fair = record {
  sends = sides.formed side l m sends;
  takes = h.takes;
  texts = subst (λ s. AreTexts k.ids s l.known (drop l.known (l.sent ++ m ∷ [])) texts) (sym e)
      (subst (λ ts. AreTexts k.ids k.sending.span l.known (drop l.known (l.sent ++ m ∷ [])) ts) (sym all)
      (subst (λ ms. AreTexts k.ids k.sending.span l.known ms (k.texts ++ t ∷ [])) (sym (drop-append-le l.known l.sent (m ∷ []) known_sent))
      (texts_push k.ids k.sending.span l.known (drop l.known l.sent) k.texts m t h.texts
      (subst (λ n. IsText k.ids k.sending.span (suc n) m t) (sym number) (record { acknowledgement = length l.came; is = is })))));
  messages = subst (λ s. Each (IsMessage s) (drop l.known (l.sent ++ m ∷ []))) (sym e)
      (subst (λ ms. Each (IsMessage k.sending.span) ms) (sym (drop-append-le l.known l.sent (m ∷ []) known_sent)) (each_append (IsMessage k.sending.span) (drop l.known l.sent) (m ∷ []) h.messages (fair, tt)));
}
  where
    known_sent : l.known ≤ length l.sent
    known_sent = omega (arith, h.sends.behind)

    number : l.known + length (drop l.known l.sent) ≡ length l.sent
    number = omega (arith, length-drop l.known l.sent, h.sends.behind)

-- an acknowledgement is heard

pub acked_stands : (k : Kept) (side : Sending) (texts : List (List ℕ)) (l : Link (List Slot)) (a d : ℕ) → Stands k l → side.span ≡ k.sending.span → side.unacknowledged ≡ k.sending.unacknowledged - d → is_unsent l a ≡ false → by_numbers (length l.sent) l.known a ≡ New d → Sends side (length l.sent) (l.known + d) → texts ≡ keep_last side.unacknowledged k.texts → Stands (record k { sending = side; texts = texts }) (ack_in l a)
acked_stands k side texts l a d h e less sent fact sends kept = record {
  sends = subst (λ n. Sends side (length l.sent) n) is_known sends;
  takes = h.takes;
  texts = subst (λ s. AreTexts k.ids s (ack_in l a).known (drop (ack_in l a).known l.sent) texts) (sym e)
      (subst (λ n. AreTexts k.ids k.sending.span n (drop n l.sent) texts) is_known
      (subst (λ ts. AreTexts k.ids k.sending.span (l.known + d) (drop (l.known + d) l.sent) ts) (sym (kept ∙ ap (λ i. drop i k.texts) left))
      (subst (λ ms. AreTexts k.ids k.sending.span (l.known + d) ms (drop d k.texts)) (drop-drop d l.known l.sent)
      (texts_drop k.ids k.sending.span l.known d (drop l.known l.sent) k.texts h.texts))));
  messages = subst (λ s. Each (IsMessage s) (drop (ack_in l a).known l.sent)) (sym e)
      (subst (λ n. Each (IsMessage k.sending.span) (drop n l.sent)) is_known
      (subst (λ ms. Each (IsMessage k.sending.span) ms) (drop-drop d l.known l.sent) (each_drop (IsMessage k.sending.span) d (drop l.known l.sent) h.messages)));
}
  where
    is_known : l.known + d ≡ (ack_in l a).known
    is_known = sym (ap (known_after l.known) fact) ∙ sides.known l a sent

    count : length k.texts ≡ k.sending.unacknowledged
    count = omega (arith, texts_length k.ids k.sending.span l.known (drop l.known l.sent) k.texts h.texts, length-drop l.known l.sent, h.sends.behind)

    left : length k.texts - side.unacknowledged ≡ d
    left = omega (arith, count, less, sends.behind, h.sends.behind)

-- a message goes out again

pub repeated : (k : Kept) (l : Link (List Slot)) (span : Span) (place ack : ℕ) (front bytes text new : List ℕ) → Stands k l → slice_get k.texts place ≡ Some text → span ≡ k.sending.span → ack ≡ field k.sending.span (length l.came) → front ≡ [] → bytes ≡ text → new ≡ acknowledged span (front ++ bytes) ack → slice_get (map (run_payload k.ids k.sending.span false) (again_frames l)) place ≡ Some new
repeated k l span place ack front bytes text new h at same now empty copied is =
    texts_again k.ids k.sending.span l.known (length l.came) (drop l.known l.sent) k.texts place text h.texts at
    ∙ ap Some (sym (is ∙ (rw (same, now, empty, copied) refl)))

pub is_there : {X : Type 0} (xs : List X) (i : ℕ) → i < length xs → slice_get xs i ≡ None → ⊥
is_there [] i h e = omega arith
is_there (x ∷ xs) zero h e = cc
is_there (x ∷ xs) (suc i) h e = is_there xs i (omega (arith, h)) e
