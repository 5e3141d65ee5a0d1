-- What a kept session sends next is what the session that it stands for offers.
use Rattle.std.proofs.Common.{◌≡◌, ◌≢◌, ℕ, zero, suc, ◌-◌, ◌≤◌, sym, ap, ◌∙◌, refl, subst, arith, Bool, true, false, not, cond, ◌&&◌, ◌||◌, List, [], ◌∷◌, map, length, take, Option, Some, None, nat_le, nat_lt, append-nil}
use Rattle.std.proofs.lemmas.Bool.{true≢false, false≢true, both_ways, lt-ltb, ltb-true, ltb-false}
use Rattle.lat_model.specs.Lists.{is_empty}
use Rattle.lat_model.specs.sessions.Slots.{Item, Byte, Setting, Slot, Start, DataA, DataB, Attention, Stop, items, credits, costs, has_stop, starts, turned, Reject, slot_len}
use Rattle.lat_model.specs.sessions.Session.{Session, Free, Calling, Asked, Live, Closing, Left, peer, answered, rejected, rejecting, unframed}
use Rattle.lat_model.specs.sessions.Session as session
use Rattle.lat_model.specs.sessions.Offers.{Offer, Nothing, Unfit, Offers, fit, start_of, most_bytes, may_spend, stop_due, reject_offer, start_offer, later_offer, offer}
use Rattle.lat_model.specs.sessions.Offers as offers
use Rattle.lat_model.specs.sessions.Packing.{formed}
use Rattle.lat_stream.specs.declared.opening.Opening.{Opening}
use Rattle.lat_stream.specs.declared.forming.Formed.{Formed}
use Rattle.lat_stream.specs.declared.forming.Turn.{Turn}
use Rattle.lat_stream.specs.declared.forming.Turn.TheVariants as turns
use Rattle.lat_stream.specs.Kept.{Kept, stream_of, item_of, state_of}
use Rattle.lat_stream.specs.Sound.{Sound}
use Rattle.lat_stream.specs.FormsOffer.{FormsOffer, reject_due}
use Rattle.lat_stream.specs.Turns.{Meets, data_turn, live_turn, turn_in, turn_of, leading, next_bytes, bytes_offer, offer_at, kept_after, framed, gave}
use Rattle.lat_stream.proofs.FormsAfter.{open_kept, open_is, start_after, attention_after, stop_after, setting_after, bytes_after, credits_after}

-- the turn does what is offered, and keeps what is kept of the session afterwards
pub record Agrees (m : Bool) (c room : ℕ) (s : Session) (k : Kept) (o : Offer) (t : Turn) : Type 0 where
  pub offered : o ≡ offer_at m s.id room k t
  pub after : (x : Slot) → o ≡ Offers x → stream_of m c (formed s x) ≡ kept_after room k t

fit_is : (room : ℕ) (y x : Slot) → fit room y ≡ Offers x → y ≡ x
fit_is room y x = go (nat_le (slot_len y) room)
  where
    go : (b : Bool) → cond b (Offers y) Unfit ≡ Offers x → y ≡ x
    go true e = cc
    go false e = cc

fit_agrees : (m : Bool) (c room : ℕ) (s : Session) (k : Kept) (y : Slot) (t : Turn) → fit room y ≡ offer_at m s.id room k t → stream_of m c (formed s y) ≡ kept_after room k t → Agrees m c room s k (fit room y) t
fit_agrees m c room s k y t e a = record { offered = e; after = λ x q. ap (λ z. stream_of m c (formed s z)) (sym (fit_is room y x q)) ∙ a }

nothing_agrees : (m : Bool) (c room : ℕ) (s : Session) (k : Kept) → Agrees m c room s k Nothing turns.Nothing
nothing_agrees m c room s k = record { offered = refl; after = λ x q. absurd (wrong x q) }
  where
    wrong : (x : Slot) → Nothing ≡ Offers x → ⊥
    wrong x q = cc

-- a session that may send behind its start
pub record Open (m : Bool) (c : ℕ) (s : Session) : Type 0 where
  pub id : s.id ≢ 0
  pub spent : costs s.came ≤ credits s.out
  pub rejected_not : rejected s ≡ false
  pub answered_is : answered s ≡ true
  pub started : is_empty s.out ≡ false
  pub stop : has_stop s.out ≡ false

credits_agree : (m : Bool) (c room : ℕ) (s : Session) → Open m c s → Agrees m c room s (open_kept m c s) (offers.credit_offer room (session.due c s) s) turns.Credits
credits_agree m c room s w = record { offered = same (session.due c s); after = λ x. after (session.due c s) x refl }
  where
    same : (d : ℕ) → offers.credit_offer room d s ≡ cond (nat_lt 0 d) (fit room (DataA (peer s) s.id d [])) Nothing
    same zero = refl
    same (suc d) = ap (λ b. cond b (fit room (DataA (peer s) s.id (suc d) [])) Nothing) (sym (lt-ltb 0 (suc d) (omega arith)))

    after : (d : ℕ) (x : Slot) → session.due c s ≡ d → offers.credit_offer room d s ≡ Offers x → stream_of m c (formed s x) ≡ gave (open_kept m c s)
    after zero x e q = absurd (wrong q)
      where
        wrong : Nothing ≡ Offers x → ⊥
        wrong r = cc
    after (suc d) x e q =
        ap (λ z. stream_of m c (formed s z)) (sym (fit_is room (DataA (peer s) s.id (suc d) []) x q))
        ∙ ap (λ n. stream_of m c (formed s (DataA (peer s) s.id n []))) (sym e)
        ∙ credits_after m c s w.spent w.stop

-- the bytes that stand next
leading_shown : (us : List Item) → leading (map item_of us) ≡ offers.leading us
leading_shown [] = refl
leading_shown (Byte b ∷ us) = ap (λ z. b ∷ z) (leading_shown us)
leading_shown (Setting t ∷ us) = refl

bytes_agree : (m : Bool) (c room : ℕ) (s : Session) → Open m c s → (bs : List ℕ) → next_bytes room (open_kept m c s) ≡ bs → Agrees m c room s (open_kept m c s) (offers.bytes_offer (session.due c s) s bs) turns.Bytes
bytes_agree m c room s w bs e = record {
  offered = same bs ∙ ap (bytes_offer s.id (open_kept m c s)) (sym e);
  after = λ x q. after bs x q ∙ ap (λ z. framed (length z) (gave (open_kept m c s))) (sym e);
}
  where
    same : (bs : List ℕ) → offers.bytes_offer (session.due c s) s bs ≡ bytes_offer s.id (open_kept m c s) bs
    same [] = refl
    same (b ∷ bs) = refl

    after : (bs : List ℕ) (x : Slot) → offers.bytes_offer (session.due c s) s bs ≡ Offers x → stream_of m c (formed s x) ≡ framed (length bs) (gave (open_kept m c s))
    after [] x q = absurd (wrong q)
      where
        wrong : Unfit ≡ Offers x → ⊥
        wrong r = cc
    after (b ∷ bs) x q = ap (λ z. stream_of m c (formed s z)) (sym (is q)) ∙ bytes_after m c s b bs w.spent w.stop
      where
        is : Offers (DataA (peer s) s.id (session.due c s) (b ∷ bs)) ≡ Offers x → DataA (peer s) s.id (session.due c s) (b ∷ bs) ≡ x
        is r = cc

some_left : (a b : ℕ) → nat_lt 0 (b - a) ≡ nat_lt a b
some_left a b = go (nat_lt 0 (b - a)) (nat_lt a b) refl refl
  where
    go : (p q : Bool) → nat_lt 0 (b - a) ≡ p → nat_lt a b ≡ q → p ≡ q
    go true true e f = refl
    go true false e f = absurd (omega (arith, ltb-true 0 (b - a) e, ltb-false a b f))
    go false true e f = absurd (omega (arith, ltb-false 0 (b - a) e, ltb-true a b f))
    go false false e f = refl

data_agrees : (m : Bool) (c room : ℕ) (s : Session) → Open m c s → (us : List Item) → (open_kept m c s).unframed ≡ map item_of us → (b : Bool) → may_spend s ≡ b →
    Agrees m c room s (open_kept m c s) (offers.data_offer c room s us) (data_turn b (map item_of us))
data_agrees m c room s w [] e b f = credits_agree m c room s w
data_agrees m c room s w (Byte x ∷ us) e b f = go (may_spend s) b f
  where
    bs : List ℕ
    bs = take (most_bytes room s) (offers.leading (Byte x ∷ us))

    same : next_bytes room (open_kept m c s) ≡ bs
    same = ap (λ z. take (most_bytes room s) z) (ap leading e ∙ leading_shown (Byte x ∷ us))

    go : (a b : Bool) → a ≡ b → Agrees m c room s (open_kept m c s) (cond a (offers.bytes_offer (session.due c s) s bs) (offers.credit_offer room (session.due c s) s)) (cond b turns.Bytes turns.Credits)
    go true true e = bytes_agree m c room s w bs same
    go true false e = absurd (true≢false e)
    go false true e = absurd (false≢true e)
    go false false e = credits_agree m c room s w
data_agrees m c room s w (Setting t ∷ us) e b f = go (may_spend s) b f
  where
    y : Slot
    y = DataB (peer s) s.id (session.due c s) t

    go : (a b : Bool) → a ≡ b → Agrees m c room s (open_kept m c s) (cond a (fit room y) (offers.credit_offer room (session.due c s) s)) (cond b (turns.Setting t) turns.Credits)
    go true true e = fit_agrees m c room s (open_kept m c s) y (turns.Setting t) refl (setting_after m c s t w.spent w.stop)
    go true false e = absurd (true≢false e)
    go false true e = absurd (false≢true e)
    go false false e = credits_agree m c room s w

empty_shown : (us : List Item) → is_empty (map item_of us) ≡ is_empty us
empty_shown [] = refl
empty_shown (u ∷ us) = refl

live_agrees : (m : Bool) (c room : ℕ) (s : Session) → Open m c s → (o : Option ℕ) → Agrees m c room s (open_kept m c s) (offers.live_offer c room s o) (live_turn (open_kept m c s) o)
live_agrees m c room s w (Some flag) = fit_agrees m c room s (open_kept m c s) (Attention (peer s) s.id flag) (turns.Attention flag) refl (attention_after m c s flag w.stop)
live_agrees m c room s w None = go (stop_due s) (k.stop_heard || (k.closed && is_empty k.unframed)) (ap (λ b. has_stop s.came || (s.closed && b)) (sym (ap is_empty shown ∙ empty_shown (unframed s))))
  where
    k : Kept
    k = open_kept m c s

    shown : k.unframed ≡ map item_of (unframed s)
    shown = ap (λ b. cond b [] (map item_of (unframed s))) w.rejected_not

    y : Slot
    y = Stop (peer s) s.id 1

    its_data : Agrees m c room s k (offers.data_offer c room s (unframed s)) (data_turn (nat_lt 0 k.credits.unused) k.unframed)
    its_data =
        subst (λ z. Agrees m c room s k (offers.data_offer c room s (unframed s)) (data_turn (nat_lt 0 k.credits.unused) z)) (sym shown)
        (data_agrees m c room s w (unframed s) shown (nat_lt 0 k.credits.unused) (sym (some_left (costs s.out) (credits s.came))))

    go : (a b : Bool) → a ≡ b → Agrees m c room s k (cond a (fit room y) (offers.data_offer c room s (unframed s))) (cond b turns.Stop (data_turn (nat_lt 0 k.credits.unused) k.unframed))
    go true true e = fit_agrees m c room s k y turns.Stop refl (stop_after m c s w.id w.rejected_not w.answered_is w.stop)
    go true false e = absurd (true≢false e)
    go false true e = absurd (false≢true e)
    go false false e = its_data

-- the words that the turn is told by
abbrev turn_by : (m r tu so sc cl nl an e : Bool) → Opening → Turn → Turn
turn_by m r tu so sc cl nl an e o live =
    turn_in (state_of (cond ((r || tu) || ((so && sc) && (cl || nl))) Free (cond ((r || tu) || (so && sc)) Left (cond an (cond (cl || sc) Closing Live) (cond m Calling Asked)))))
    (cond (e && not ((r || tu) || (so && sc))) (Some o) None)
    (cond so turns.Nothing live)

-- asked and not answered
asked_turn : (m sc cl nl : Bool) (o : Opening) (live : Turn) → m ≡ false → turn_by m false false false sc cl nl false true o live ≡ turns.Nothing
asked_turn true sc cl nl o live e = absurd (true≢false e)
asked_turn false sc cl nl o live e = refl

start_turn : (m sc cl nl an : Bool) (o : Opening) (live : Turn) → (an ≡ false → m ≡ true) → turn_by m false false false sc cl nl an true o live ≡ turns.Start o
start_turn m sc true nl true o live e = refl
start_turn m true false nl true o live e = refl
start_turn m false false nl true o live e = refl
start_turn true sc cl nl false o live e = refl
start_turn false sc cl nl false o live e = absurd (false≢true (e refl))

-- its start was formed, and it isn't answered
called_turn : (m so sc cl nl : Bool) (o : Opening) (live : Turn) → turn_by m false false so sc cl nl false false o live ≡ turns.Nothing
called_turn true false sc cl nl o live = refl
called_turn false false sc cl nl o live = refl
called_turn true true false cl nl o live = refl
called_turn false true false cl nl o live = refl
called_turn m true true true nl o live = refl
called_turn m true true false true o live = refl
called_turn m true true false false o live = refl

-- its stop was formed
stopped_turn : (m sc cl nl : Bool) (o : Opening) (live : Turn) → turn_by m false false true sc cl nl true false o live ≡ turns.Nothing
stopped_turn m true true nl o live = refl
stopped_turn m true false true o live = refl
stopped_turn m true false false o live = refl
stopped_turn m false true nl o live = refl
stopped_turn m false false nl o live = refl

open_turn : (m sc cl nl : Bool) (o : Opening) (live : Turn) → turn_by m false false false sc cl nl true false o live ≡ live
open_turn m sc true nl o live = refl
open_turn m true false nl o live = refl
open_turn m false false nl o live = refl

no_stop : (xs : List Slot) → is_empty xs ≡ true → has_stop xs ≡ true → ⊥
no_stop [] e h = false≢true h
no_stop (x ∷ xs) e h = false≢true e

one_kind : (xs : List Slot) → starts xs ≡ true → turned xs ≡ true → ⊥
one_kind [] a b = false≢true a
one_kind (Start to from credits size service request ∷ xs) a b = false≢true b
one_kind (DataA to from credits bytes ∷ xs) a b = false≢true a
one_kind (DataB to from credits setting ∷ xs) a b = false≢true a
one_kind (Attention to from flag ∷ xs) a b = false≢true a
one_kind (Reject to from reason ∷ xs) a b = false≢true a
one_kind (Stop to from reason ∷ xs) a b = false≢true a

slave_is : (m ac st : Bool) → cond m ac st ≡ true → ac ≡ false → m ≡ false
slave_is true ac st e f = absurd (both_ways ac f e)
slave_is false ac st e f = refl

master_is : (m ac st : Bool) → cond m ac st ≡ true → (ac && st) ≡ false → ac ≡ true → m ≡ true
master_is true ac st e f g = refl
master_is false true st e f g = absurd (both_ways st f e)
master_is false false st e f g = absurd (false≢true g)

start_same : (m : Bool) (c room : ℕ) (s : Session) → fit room (start_of m c s) ≡ offer_at m s.id room (stream_of m c s) (turns.Start (record { service = s.service; request = s.request }))
start_same true c room s = refl
start_same false c room s = refl

pub no_reject : (room : ℕ) (s : Session) → s.rejects ≡ true → reject_due s ≡ false → reject_offer room s ≡ Nothing
no_reject room s r h = go s.rejects (is_empty s.out) (is_empty s.came) r h
  where
    go : (r e n : Bool) → r ≡ true → ((r && e) && not n) ≡ false → cond (e && not n) (fit room (Reject (peer s) 0 s.reason)) Nothing ≡ Nothing
    go true true true q h = refl
    go true true false q h = absurd (true≢false h)
    go true false n q h = refl
    go false e n q h = absurd (false≢true q)

-- at any turn
pub turn_agrees : (m : Bool) (c room : ℕ) (s : Session) → Sound m c s → reject_due s ≡ false → Agrees m c room s (stream_of m c s) (offer m c room s) (turn_of (stream_of m c s))
turn_agrees m c room s ok rj = go s.rejects (is_empty s.out) s.accepted (starts s.came) (turned s.came) (has_stop s.out) refl refl refl refl refl refl
  where
    k : Kept
    k = stream_of m c s

    sc : Bool
    sc = has_stop s.came

    nl : Bool
    nl = nat_le (length (items s.came)) s.taken

    o : Opening
    o = record { service = s.service; request = s.request }

    silent : (t : Turn) → t ≡ turns.Nothing → Agrees m c room s k Nothing t
    silent t e = subst (Agrees m c room s k Nothing) (sym e) (nothing_agrees m c room s k)

    go : (r e ac st tu so : Bool) → s.rejects ≡ r → is_empty s.out ≡ e → s.accepted ≡ ac → starts s.came ≡ st → turned s.came ≡ tu → has_stop s.out ≡ so →
        Agrees m c room s k
        (cond r (reject_offer room s) (cond e (cond (ac && not tu) (fit room (start_of m c s)) Nothing) (cond ((ac && st) && not so) (offers.live_offer c room s s.attention) Nothing)))
        (turn_by m r tu so sc s.closed nl (ac && st) e o (live_turn k s.attention))
    go true e ac st tu so er ee ea es et eo = subst (λ z. Agrees m c room s k z turns.Nothing) (sym (no_reject room s er rj)) (nothing_agrees m c room s k)
    go false true true st true so er ee ea es et eo = nothing_agrees m c room s k
    go false true false st true so er ee ea es et eo = nothing_agrees m c room s k
    go false true ac st false true er ee ea es et eo = absurd (no_stop s.out ee eo)
    go false true true st false false er ee ea es et eo =
        let b : cond m true st ≡ true = ap (λ z. cond m z st) (sym ea) ∙ ap (λ z. cond m s.accepted z) (sym es) ∙ ok.begun er in
        subst (Agrees m c room s k (fit room (start_of m c s))) (sym (start_turn m sc s.closed nl st o (live_turn k s.attention) (λ q. master_is m true st b q refl)))
        (fit_agrees m c room s k (start_of m c s) (turns.Start o) (start_same m c room s) (start_after m c s ok.accounts.spent))
    go false true false st false false er ee ea es et eo = silent _ (asked_turn m sc s.closed nl o (live_turn k s.attention) (slave_is m s.accepted (starts s.came) (ok.begun er) ea))
    go false false ac true true so er ee ea es et eo = absurd (one_kind s.came es et)
    go false false true false true so er ee ea es et eo = nothing_agrees m c room s k
    go false false false false true so er ee ea es et eo = nothing_agrees m c room s k
    go false false true true false true er ee ea es et eo = silent _ (stopped_turn m sc s.closed nl o (live_turn k s.attention))
    go false false true true false false er ee ea es et eo =
        let w : Open m c s = record {
          id = ok.shape.id_some er;
          spent = ok.accounts.spent;
          rejected_not = ap (λ z. z || turned s.came) er ∙ et;
          answered_is = ap (λ z. z && starts s.came) ea ∙ es;
          started = ee;
          stop = eo;
        } in
        subst (Agrees m c room s k (offers.live_offer c room s s.attention)) (sym (open_turn m sc s.closed nl o (live_turn k s.attention)))
        (subst (λ z. Agrees m c room s z (offers.live_offer c room s s.attention) (live_turn z s.attention)) (sym (open_is m c s ee eo)) (live_agrees m c room s w s.attention))
    go false false true false false so er ee ea es et eo = silent _ (called_turn m so sc s.closed nl o (live_turn k s.attention))
    go false false false st false so er ee ea es et eo = silent _ (called_turn m so sc s.closed nl o (live_turn k s.attention))

does_by : (m : Bool) (c : ℕ) (s : Session) (o : Offer) (next old new : Kept) (before after : List ℕ) (result : Formed) →
    ((x : Slot) → o ≡ Offers x → stream_of m c (formed s x) ≡ next) → Meets o next old new before after result → FormsOffer m c s o old new before after result
does_by m c s Nothing next old new before after result f h = (h.answer, h.kept, h.text ∙ append-nil before)
does_by m c s Unfit next old new before after result f h = (h.answer, h.kept, h.text ∙ append-nil before)
does_by m c s (Offers x) next old new before after result f h = (h.answer, h.kept ∙ sym (f x refl), h.text)

-- what the turn of a kept session does is what the session does with its offer
pub turn_does : (m : Bool) (c room id : ℕ) (s : Session) (old new : Kept) (before after : List ℕ) (result : Formed) → Sound m c s → old ≡ stream_of m c s → s.id ≡ id → reject_due s ≡ false →
    Meets (offer_at m id room old (turn_of old)) (kept_after room old (turn_of old)) old new before after result → FormsOffer m c s (offer m c room s) old new before after result
turn_does m c room id s old new before after result ok e i rj h =
    let k : Kept = stream_of m c s in
    let a : Agrees m c room s k (offer m c room s) (turn_of k) = turn_agrees m c room s ok rj in
    let h' : Meets (offer_at m s.id room k (turn_of k)) (kept_after room k (turn_of k)) k new before after result =
    subst (λ z. Meets (offer_at m s.id room z (turn_of z)) (kept_after room z (turn_of z)) z new before after result) e
    (subst (λ n. Meets (offer_at m n room old (turn_of old)) (kept_after room old (turn_of old)) old new before after result) (sym i) h)
    in
    subst (λ z. FormsOffer m c s (offer m c room s) z new before after result) (sym e)
    (does_by m c s (offer m c room s) (kept_after room k (turn_of k)) k new before after result a.after
    (subst (λ z. Meets z (kept_after room k (turn_of k)) k new before after result) (sym a.offered) h'))
