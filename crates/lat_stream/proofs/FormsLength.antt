-- A formed slot takes as many bytes as the model says.
use Rattle.std.proofs.Common.{◌≡◌, ℕ, ◌+◌, sym, ap, ◌∙◌, refl, subst, Bool, true, false, cond, List, [], ◌∷◌, length, nat_lt, nat_le, length-append}
use Rattle.lat_model.specs.sessions.Slots.{Slot, DataA, DataB, Attention, Stop, slot_len}
use Rattle.lat_model.specs.sessions.Session.{Session}
use Rattle.lat_model.specs.sessions.Offers.{Nothing, Unfit, Offers, fit, offer}
use Rattle.lat_slots.specs.Layout.{slot_text}
use Rattle.lat_stream.specs.declared.forming.Formed.{Formed}
use Rattle.lat_stream.specs.declared.forming.Turn.{Turn}
use Rattle.lat_stream.specs.declared.forming.Turn.TheVariants as turns
use Rattle.lat_stream.specs.FormsOffer.{FormsOffer, reject_due}
use Rattle.lat_stream.specs.Kept.{Kept, stream_of}
use Rattle.lat_stream.specs.Sound.{Sound}
use Rattle.lat_stream.specs.Turns.{turn_of, offer_at, next_bytes, bytes_offer, start_slot, due}
use Rattle.lat_stream.specs.Wire.{formed_as}
use Rattle.lat_stream.proofs.Texts.{Whole, text_has}
use Rattle.lat_stream.proofs.FormsTurns.{Agrees, turn_agrees}

fit_whole : (room : ℕ) (y x : Slot) → Whole y → fit room y ≡ Offers x → Whole x
fit_whole room y x h = go (nat_le (slot_len y) room)
  where
    go : (b : Bool) → cond b (Offers y) Unfit ≡ Offers x → Whole x
    go true e = subst Whole (same e) h
      where
        same : Offers y ≡ Offers x → y ≡ x
        same q = cc
    go false e = absurd (wrong e)
      where
        wrong : Unfit ≡ Offers x → ⊥
        wrong q = cc

none_whole : (x : Slot) → Nothing ≡ Offers x → Whole x
none_whole x e = absurd (wrong e)
  where
    wrong : Nothing ≡ Offers x → ⊥
    wrong q = cc

bytes_whole : (id : ℕ) (k : Kept) (bs : List ℕ) (x : Slot) → bytes_offer id k bs ≡ Offers x → Whole x
bytes_whole id k [] x e = absurd (wrong e)
  where
    wrong : Unfit ≡ Offers x → ⊥
    wrong q = cc
bytes_whole id k (b ∷ bs) x e = subst Whole (same e) tt
  where
    same : Offers (DataA k.peer id (due k) (b ∷ bs)) ≡ Offers x → DataA k.peer id (due k) (b ∷ bs) ≡ x
    same q = cc

-- the slot of a turn, where each setting has five bytes
turn_whole : (m : Bool) (id room : ℕ) (k : Kept) (t : Turn) (x : Slot) → ((u : List ℕ) → t ≡ turns.Setting u → length u ≡ 5) → offer_at m id room k t ≡ Offers x → Whole x
turn_whole m id room k turns.Nothing x h e = none_whole x e
turn_whole true id room k (turns.Start start) x h e = fit_whole room (start_slot true id k start) x tt e
turn_whole false id room k (turns.Start start) x h e = fit_whole room (start_slot false id k start) x tt e
turn_whole m id room k (turns.Attention flag) x h e = fit_whole room (Attention k.peer id flag) x tt e
turn_whole m id room k turns.Stop x h e = fit_whole room (Stop k.peer id 1) x tt e
turn_whole m id room k (turns.Setting t) x h e = fit_whole room (DataB k.peer id (due k) t) x (h t refl) e
turn_whole m id room k turns.Bytes x h e = bytes_whole id k (next_bytes room k) x e
turn_whole m id room k turns.Credits x h e = go (nat_lt 0 (due k)) e
  where
    go : (b : Bool) → cond b (fit room (DataA k.peer id (due k) [])) Nothing ≡ Offers x → Whole x
    go true q = fit_whole room (DataA k.peer id (due k) []) x tt q
    go false q = none_whole x q

-- the bytes that a formed slot adds
pub slot_adds : (m : Bool) (c room id : ℕ) (s : Session) (x : Slot) (old new : Kept) (before after : List ℕ) (result : Formed) → Sound m c s → old ≡ stream_of m c s → s.id ≡ id → reject_due s ≡ false → ((u : List ℕ) → turn_of old ≡ turns.Setting u → length u ≡ 5) →
    FormsOffer m c s (offer m c room s) old new before after result → offer m c room s ≡ Offers x → length after ≡ length before + slot_len x
slot_adds m c room id s x old new before after result ok e i rj h d o =
    let a : Agrees m c room s (stream_of m c s) (offer m c room s) (turn_of (stream_of m c s)) = turn_agrees m c room s ok rj in
    let w : Whole x = turn_whole m s.id room (stream_of m c s) (turn_of (stream_of m c s)) x (λ u q. h u (ap turn_of e ∙ q)) (sym a.offered ∙ o) in
    let formed : FormsOffer m c s (Offers x) old new before after result = subst (λ z. FormsOffer m c s z old new before after result) o d in
    ap length formed.2 ∙ length-append before (slot_text (formed_as x)) ∙ ap (λ n. length before + n) (text_has x w)
