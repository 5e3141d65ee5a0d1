-- There is no stop in a session that neither end has closed.
use Rattle.std.proofs.Common.{◌≡◌, ◌≢◌, ℕ, zero, suc, ◌+◌, sym, ap, ◌∙◌, refl, subst, arith, Bool, true, false, not, cond, ◌&&◌, ◌||◌, List, [], ◌∷◌, ◌++◌, length, map, take, Option, Some, None, nat_eq, nat_lt, nat_le, eqb-true, append-nil, ne_eqb}
use Rattle.std.proofs.lemmas.Bool.{true≢false, false≢true, eqb-false, or_parts, or_from, false_from_ne_true}
use Rattle.lat_model.specs.sessions.Slots.{Item, Byte, Setting, Slot, Start, DataA, DataB, Attention, Reject, Stop, is_stop, is_reject, has_stop, slot_len}
use Rattle.lat_model.specs.sessions.Session.{Session, answered, peer, unframed, due, waits, put_open, take_open}
use Rattle.lat_model.specs.sessions.Sessions.{Sessions, of_generation, named, held}
use Rattle.lat_model.specs.sessions.Packing.{TaggedSlot, form, tag, Packing, turn_by, turn, turn_all, turns, pack}
use Rattle.lat_model.specs.sessions.Calls.{Call, Connect, Put, Set, Attend, Take, Close, Answer, RejectAsk, call, connect, new_call, touch, put_items, put_count, take_count}
use Rattle.lat_model.specs.sessions.Hearing.{HeardAll, names, names_running, heard, hear_at, behind_fits, ask_in, hear_slot, hear_all}
use Rattle.lat_model.specs.sessions.Offers.{Offer, Nothing, Unfit, Offers, fit, leading, most_bytes, may_spend, bytes_offer, credit_offer, data_offer, live_offer, reject_offer, start_offer, later_offer, offer}
use Rattle.lat_model.specs.Lists.{is_empty, updated, any_up_to}
use Rattle.lat_model.specs.sessions.EndOk.{EndOk}
use Rattle.lat_model.specs.sessions.MayForm.{MayForm, Starts, Rejects, Follows}
use Rattle.lat_model.specs.sessions.Joined.{Joined, slots_of}
use Rattle.lat_model.specs.ends.End.{wire_of}
use Rattle.lat_model.proofs.sessions.Words.{upd_other, has_stop-append}
use Rattle.lat_model.proofs.sessions.Meets.{start_no_stop}
use Rattle.lat_model.proofs.sessions.Offers.{Fine, offer_fine}
use Rattle.lat_model.proofs.sessions.Packs.{accepted_named, turn_up, turn_down}
use Rattle.lat_model.proofs.sessions.Alone.{some_is, none_is}
use Rattle.lat_model.proofs.sessions.Asks.{asked_field}
use Rattle.lat_model.proofs.sessions.Locals.{called}
use Rattle.lat_model.proofs.sessions.Joins.{FormedBy, form_formed, HeardUp, HeardDown, hear_up, hear_down}
use Rattle.lat_laws.specs.rounds.Idle.{NoStops}

abbrev IsOpen : Sessions → ℕ → Type 0
IsOpen e g = (of_generation e g).closed ≡ false

-- what is open stays closed once closed
abbrev Opens : Sessions → Sessions → Type 0
Opens e f = (g : ℕ) → IsOpen f g → IsOpen e g

-- the same slots
same_stops : (m s m' s' : Sessions) → Opens m m' → Opens s s' → ((g : ℕ) → (of_generation m' g).out ≡ (of_generation m g).out) → ((g : ℕ) → (of_generation s' g).out ≡ (of_generation s g).out) → NoStops m s → NoStops m' s'
same_stops m s m' s' o p a b h g x y = let q : (has_stop (of_generation m g).out ≡ false) × (has_stop (of_generation s g).out ≡ false) = h g (o g x) (p g y) in (ap has_stop (a g) ∙ q.0, ap has_stop (b g) ∙ q.1)

-- calls

updated_open : (e : Sessions) (k : ℕ) (t : Session) → (t.closed ≡ false → (e.session k).closed ≡ false) → (j : ℕ) → (updated e.session k t j).closed ≡ false → (e.session j).closed ≡ false
updated_open e k t h j = go (nat_eq j k) refl
  where
    go : (b : Bool) → nat_eq j k ≡ b → (cond b t (e.session j)).closed ≡ false → (e.session j).closed ≡ false
    go true q w = ap (λ z. (e.session z).closed) (eqb-true j k q) ∙ h w
    go false q w = w

touch_opens : (e : Sessions) (b : Bool) (k : ℕ) (t : Session) → (t.closed ≡ false → (e.session k).closed ≡ false) → Opens e (cond b (touch e k t) e)
touch_opens e true k t h g w = updated_open e k t h (e.serial_of g) w
touch_opens e false k t h g w = w

call_opens : (e : Sessions) (c : Call) → EndOk e → Opens e (call e c)
call_opens e (Connect service request) ok g w = go (e.master && nat_lt (held e) e.agreed) w
  where
    go : (b : Bool) → IsOpen (cond b (connect e service request) e) g → IsOpen e g
    go true w = sym (ap (λ (z : Session). z.closed) (upd_other e.session (suc e.made) (new_call e service request) (e.serial_of g) (λ q. absurd (omega (arith, ok.serial_made g, q))))) ∙ w
    go false w = w
call_opens e (Put id bs) ok g w = touch_opens e (put_open (named e id)) (e.at_id id) (put_items (named e id) (map Byte (take (put_count (named e id) (length bs)) bs))) (λ w. w) g w
call_opens e (Set id t) ok g w = touch_opens e (put_open (named e id) && nat_lt (length (unframed (named e id))) 4096) (e.at_id id) (put_items (named e id) (Setting t ∷ [])) (λ w. w) g w
call_opens e (Attend id flag) ok g w = touch_opens e (put_open (named e id)) (e.at_id id) (record (named e id) { attention = Some flag }) (λ w. w) g w
call_opens e (Take id n) ok g w = touch_opens e (take_open (named e id)) (e.at_id id) (record (named e id) { taken = (named e id).taken + take_count (named e id) n }) (λ w. w) g w
call_opens e (Close id) ok g w = touch_opens e (take_open (named e id)) (e.at_id id) (record (named e id) { closed = true }) (λ w. absurd (true≢false w)) g w
call_opens e (Answer id) ok g w = touch_opens e (not e.master && waits (named e id)) (e.at_id id) (record (named e id) { accepted = true }) (λ w. w) g w
call_opens e (RejectAsk id reason) ok g w = touch_opens e (not e.master && waits (named e id)) (e.at_id id) (record (named e id) { rejects = true; reason = reason }) (λ w. w) g w

pub call_up_stops : (m s : Sessions) (c : Call) → EndOk m → NoStops m s → NoStops (call m c) s
call_up_stops m s c ok h = same_stops m s (call m c) s (call_opens m c ok) (λ g w. w) (called m c ok).out (λ g. refl) h

pub call_down_stops : (m s : Sessions) (c : Call) → EndOk s → NoStops m s → NoStops m (call s c)
call_down_stops m s c ok h = same_stops m s m (call s c) (λ g w. w) (call_opens s c ok) (λ g. refl) (called s c ok).out h

-- hearing

at_opens : (e : Sessions) (k : ℕ) (x : Slot) → Opens e (hear_at e k x)
at_opens e k x g w = updated_open e k (heard (e.session k) x) (λ z. z) (e.serial_of g) w

some_opens : (b : Bool) (e g f : Sessions) → Opens e g → cond b (Some g) None ≡ Some f → Opens e f
some_opens true e g f a h = subst (λ z. Opens e z) (some_is g f h) a
some_opens false e g f a h = none_is f h

none_opens : (b : Bool) (e g f : Sessions) → Opens e g → cond b None (Some g) ≡ Some f → Opens e f
none_opens true e g f a h = none_is f h
none_opens false e g f a h = subst (λ z. Opens e z) (some_is g f h) a

slot_opens : (e f : Sessions) (x : Slot) → EndOk e → hear_slot e x ≡ Some f → Opens e f
slot_opens e f (Start zero from c size service request) ok h = none_opens (e.master || any_up_to (λ k. names from (e.session k)) e.made) e (ask_in e (Start 0 from c size service request) service request) f (λ g w. sym (asked_field (λ (z : Session). z.closed) e (Start 0 from c size service request) ok refl g) ∙ w) h
slot_opens e f (Start (suc to) from c size service request) ok h = some_opens (e.master && waits (named e (suc to)) && not (any_up_to (λ k. names_running from (e.session k)) e.made)) e (hear_at e (e.at_id (suc to)) (Start (suc to) from c size service request)) f (at_opens e (e.at_id (suc to)) (Start (suc to) from c size service request)) h
slot_opens e f (Reject to from reason) ok h = some_opens (e.master && waits (named e to)) e (hear_at e (e.at_id to) (Reject to from reason)) f (at_opens e (e.at_id to) (Reject to from reason)) h
slot_opens e f (DataA to from c bytes) ok h = some_opens (behind_fits (named e to) (DataA to from c bytes)) e (hear_at e (e.at_id to) (DataA to from c bytes)) f (at_opens e (e.at_id to) (DataA to from c bytes)) h
slot_opens e f (DataB to from c setting) ok h = some_opens (behind_fits (named e to) (DataB to from c setting)) e (hear_at e (e.at_id to) (DataB to from c setting)) f (at_opens e (e.at_id to) (DataB to from c setting)) h
slot_opens e f (Attention to from flag) ok h = some_opens (behind_fits (named e to) (Attention to from flag)) e (hear_at e (e.at_id to) (Attention to from flag)) f (at_opens e (e.at_id to) (Attention to from flag)) h
slot_opens e f (Stop to from reason) ok h = some_opens (behind_fits (named e to) (Stop to from reason)) e (hear_at e (e.at_id to) (Stop to from reason)) f (at_opens e (e.at_id to) (Stop to from reason)) h

hears_on : (xs : List Slot) (e f : Sessions) (x : Slot) → hear_slot e x ≡ Some f → hear_all (x ∷ xs) e ≡ hear_all xs f
hears_on xs e f x h = ap (λ z. elim z as (λ w. HeardAll) [ None ↦ record { after = e; good = false } | Some f ↦ hear_all xs f ]) h

pub heard_up_stops : (m s : Sessions) (os up down : List TaggedSlot) → Joined m s (os ++ up) down → NoStops m s → NoStops m (hear_all (wire_of os) s).after
heard_up_stops m s [] up down j n = n
heard_up_stops m s (o ∷ os) up down j n =
    let h : HeardUp m s o (os ++ up) down = hear_up m s o (os ++ up) down j in
    let k : NoStops m h.after = same_stops m s m h.after (λ g w. w) (slot_opens s h.after o.slot j.slave_ok h.hears) (λ g. refl) h.outs n in
    subst (λ (z : HeardAll). NoStops m z.after) (sym (hears_on (wire_of os) s h.after o.slot h.hears)) (heard_up_stops m h.after os up down h.joined k)

pub heard_down_stops : (m s : Sessions) (os up down : List TaggedSlot) → Joined m s up (os ++ down) → NoStops m s → NoStops (hear_all (wire_of os) m).after s
heard_down_stops m s [] up down j n = n
heard_down_stops m s (o ∷ os) up down j n =
    let h : HeardDown m s o up (os ++ down) = hear_down m s o up (os ++ down) j in
    let k : NoStops h.after s = same_stops m s h.after s (slot_opens m h.after o.slot j.master_ok h.hears) (λ g w. w) h.outs (λ g. refl) n in
    subst (λ (z : HeardAll). NoStops z.after s) (sym (hears_on (wire_of os) m h.after o.slot h.hears)) (heard_down_stops h.after s os up down h.joined k)

-- forming: a stop is offered where one was heard, or the session is closed

fit_stop : (room : ℕ) (y x : Slot) → is_stop y ≡ false → fit room y ≡ Offers x → is_stop x ≡ true → ⊥
fit_stop room y x n = go (nat_le (slot_len y) room)
  where
    go : (b : Bool) → cond b (Offers y) Unfit ≡ Offers x → is_stop x ≡ true → ⊥
    go true e a = let q : y ≡ x = cc in true≢false (sym a ∙ ap is_stop (sym q) ∙ n)
    go false e a = cc

credit_stop : (room n : ℕ) (s : Session) (x : Slot) → credit_offer room n s ≡ Offers x → is_stop x ≡ true → ⊥
credit_stop room zero s x e a = cc
credit_stop room (suc n) s x e a = fit_stop room (DataA (peer s) s.id (suc n) []) x refl e a

bytes_stop : (c : ℕ) (s : Session) (bs : List ℕ) (x : Slot) → bytes_offer c s bs ≡ Offers x → is_stop x ≡ true → ⊥
bytes_stop c s [] x e a = cc
bytes_stop c s (b ∷ bs) x e a = let q : DataA (peer s) s.id c (b ∷ bs) ≡ x = cc in true≢false (sym a ∙ ap is_stop (sym q))

data_stop : (c room : ℕ) (s : Session) (us : List Item) (x : Slot) → data_offer c room s us ≡ Offers x → is_stop x ≡ true → ⊥
data_stop c room s [] x e a = credit_stop room (due c s) s x e a
data_stop c room s (Byte b ∷ xs) x e a = go (may_spend s) e
  where
    go : (t : Bool) → cond t (bytes_offer (due c s) s (take (most_bytes room s) (leading (Byte b ∷ xs)))) (credit_offer room (due c s) s) ≡ Offers x → ⊥
    go true e = bytes_stop (due c s) s (take (most_bytes room s) (leading (Byte b ∷ xs))) x e a
    go false e = credit_stop room (due c s) s x e a
data_stop c room s (Setting t ∷ xs) x e a = go (may_spend s) e
  where
    go : (b : Bool) → cond b (fit room (DataB (peer s) s.id (due c s) t)) (credit_offer room (due c s) s) ≡ Offers x → ⊥
    go true e = fit_stop room (DataB (peer s) s.id (due c s) t) x refl e a
    go false e = credit_stop room (due c s) s x e a

live_stop : (c room : ℕ) (s : Session) (o : Option ℕ) (x : Slot) → live_offer c room s o ≡ Offers x → is_stop x ≡ true → s.closed ≡ false → has_stop s.came ≡ false → ⊥
live_stop c room s (Some flag) x e a c0 h0 = fit_stop room (Attention (peer s) s.id flag) x refl e a
live_stop c room s None x e a c0 h0 = go (has_stop s.came) s.closed h0 c0 e
  where
    go : (b d : Bool) → b ≡ false → d ≡ false → cond (b || (d && is_empty (unframed s))) (fit room (Stop (peer s) s.id 1)) (data_offer c room s (unframed s)) ≡ Offers x → ⊥
    go true d p q e = true≢false p
    go false true p q e = true≢false q
    go false false p q e = data_stop c room s (unframed s) x e a

reject_no_stop : (x : Slot) → is_reject x ≡ true → is_stop x ≡ false
reject_no_stop (Start to from c size service request) e = refl
reject_no_stop (DataA to from c bytes) e = refl
reject_no_stop (DataB to from c setting) e = refl
reject_no_stop (Attention to from flag) e = refl
reject_no_stop (Reject to from reason) e = refl
reject_no_stop (Stop to from reason) e = absurd (false≢true e)

-- behind a start that is out, a session that is open on both sides forms no stop
follow_stop : (m : Bool) (c room : ℕ) (s : Session) (x : Slot) → s.rejects ≡ false → (s.out ≡ [] → ⊥) → offer m c room s ≡ Offers x → s.closed ≡ false → has_stop s.came ≡ false → is_stop x ≡ false
follow_stop m c room s x r n e c0 h0 = false_from_ne_true (is_stop x) (λ a. go s.rejects (is_empty s.out) r (filled s.out n) a e)
  where
    filled : (xs : List Slot) → (xs ≡ [] → ⊥) → is_empty xs ≡ false
    filled [] n = absurd (n refl)
    filled (y ∷ ys) n = refl

    later : (b : Bool) → is_stop x ≡ true → cond b (live_offer c room s s.attention) Nothing ≡ Offers x → ⊥
    later true a e = live_stop c room s s.attention x e a c0 h0
    later false a e = cc

    go : (p q : Bool) → p ≡ false → q ≡ false → is_stop x ≡ true → cond p (reject_offer room s) (cond q (start_offer m c room s) (later_offer c room s)) ≡ Offers x → ⊥
    go true q i j a e = true≢false i
    go false true i j a e = true≢false j
    go false false i j a e = later (answered s && not (has_stop s.out)) a e

stop_more : (xs : List Slot) (x : Slot) → has_stop xs ≡ false → is_stop x ≡ false → has_stop (xs ++ x ∷ []) ≡ false
stop_more xs x h i = has_stop-append xs (x ∷ []) ∙ or_from (has_stop xs) (is_stop x || false) h (or_from (is_stop x) false i refl)

front_stop : (xs ys : List Slot) → has_stop (xs ++ ys) ≡ false → has_stop xs ≡ false
front_stop xs ys h = (or_parts (has_stop xs) (has_stop ys) (sym (has_stop-append xs ys) ∙ h)).0

-- what an end keeps at its own slots: none of them is a stop where both are open
abbrev Unstopped : Sessions → Sessions → Type 0
Unstopped a b = (g : ℕ) → IsOpen a g → IsOpen b g → has_stop (of_generation a g).out ≡ false

record FormStops (a : Sessions) (b : Sessions) (f : Sessions) : Type 0 where
  opens : Opens a f
  own : Unstopped f b

form_stops : (a b : Sessions) (room k : ℕ) (x : Slot) (back : List TaggedSlot) → EndOk a → ((g : ℕ) → (of_generation b g).out ≡ (of_generation a g).came ++ slots_of g back) → NoStops a b → Fine a.master a.ceiling (a.session k) x → offer a.master a.ceiling room (a.session k) ≡ Offers x → FormStops a b (form a k x)
form_stops a b room k x back ok flow h fine e = record { opens = λ g w. opens g (nat_eq g n) refl w; own = λ g p q. own g (nat_eq g n) refl p q }
  where
    s : Session
    s = a.session k

    n : ℕ
    n = tag a k

    f : FormedBy a k x (form a k x) n
    f = form_formed a k x ok fine.may fine.affords

    same : s.generation ≢ 0 → of_generation a n ≡ s
    same z = ap (λ b. of_generation a (cond b (suc a.generations) s.generation)) (ne_eqb s.generation 0 z) ∙ ap a.session (ok.serial_found k z)

    -- a session without a generation has formed nothing
    some : (s.out ≡ [] → ⊥) → s.generation ≢ 0
    some z q = z ((ok.each k).unnamed q)

    opens_here : IsOpen (form a k x) n → IsOpen a n
    opens_here w = go (nat_eq s.generation 0) refl
      where
        go : (b : Bool) → nat_eq s.generation 0 ≡ b → IsOpen a n
        go true q = ap (λ b. (of_generation a (cond b (suc a.generations) s.generation)).closed) q ∙ ap (λ z. (a.session z).closed) (ok.serial_past (suc a.generations) (omega arith)) ∙ ap (λ (z : Session). z.closed) ok.none
        go false q = ap (λ (z : Session). z.closed) (same (eqb-false s.generation 0 q)) ∙ sym (ap (λ (z : Session). z.closed) f.new) ∙ w

    opens : (g : ℕ) (c : Bool) → nat_eq g n ≡ c → IsOpen (form a k x) g → IsOpen a g
    opens g true q w = let i : g ≡ n = eqb-true g n q in subst (λ z. IsOpen a z) (sym i) (opens_here (subst (λ z. IsOpen (form a k x) z) i w))
    opens g false q w = ap (λ (z : Session). z.closed) (sym (f.old g (eqb-false g n q))) ∙ w

    here : IsOpen (form a k x) n → IsOpen b n → has_stop (s.out ++ x ∷ []) ≡ false
    here p q = by fine.may
      where
        by : MayForm a.master s x → has_stop (s.out ++ x ∷ []) ≡ false
        by (Starts o i r tu st kk so d) = ap (λ z. has_stop (z ++ x ∷ [])) o ∙ or_from (is_stop x) false (start_no_stop x st) refl
        by (Rejects o r c j d) = ap (λ z. has_stop (z ++ x ∷ [])) o ∙ or_from (is_stop x) false (reject_no_stop x j) refl
        by (Follows r o i st bh) =
            let z : of_generation a n ≡ s = same (some o) in
            let two : (has_stop (of_generation a n).out ≡ false) × (has_stop (of_generation b n).out ≡ false) = h n (opens_here p) q in
            let c0 : s.closed ≡ false = sym (ap (λ (v : Session). v.closed) z) ∙ opens_here p in
            let came : has_stop s.came ≡ false = ap (λ (v : Session). has_stop v.came) (sym z) ∙ front_stop (of_generation a n).came (slots_of n back) (ap has_stop (sym (flow n)) ∙ two.1) in
            stop_more s.out x st (follow_stop a.master a.ceiling room s x r o e c0 came)

    own : (g : ℕ) (c : Bool) → nat_eq g n ≡ c → IsOpen (form a k x) g → IsOpen b g → has_stop (of_generation (form a k x) g).out ≡ false
    own g true q p w = let i : g ≡ n = eqb-true g n q in ap (λ z. has_stop (of_generation (form a k x) z).out) i ∙ ap (λ (z : Session). has_stop z.out) f.new ∙ here (subst (λ z. IsOpen (form a k x) z) i p) (subst (λ z. IsOpen b z) i w)
    own g false q p w = ap (λ (z : Session). has_stop z.out) (f.old g (eqb-false g n q)) ∙ (h g (ap (λ (z : Session). z.closed) (sym (f.old g (eqb-false g n q))) ∙ p) w).0

turn_up_stops : (s : Sessions) (up down : List TaggedSlot) (p : Packing) (k : ℕ) → Joined p.after s (up ++ p.slots) down → NoStops p.after s → NoStops (turn p k).after s
turn_up_stops s up down p k j n = go p.going (offer p.after.master p.after.ceiling p.room (p.after.session k)) refl
  where
    go : (b : Bool) (o : Offer) → offer p.after.master p.after.ceiling p.room (p.after.session k) ≡ o → NoStops (cond b (turn_by p k o) p).after s
    go true Nothing e = n
    go true Unfit e = n
    go true (Offers x) e =
        let f : Fine p.after.master p.after.ceiling (p.after.session k) x = offer_fine p.after.master p.after.ceiling p.room (p.after.session k) x (j.master_ok.each k) (j.master_ok.accounts k) (accepted_named p.after k j.master_ok) e in
        let r : FormStops p.after s (form p.after k x) = form_stops p.after s p.room k x down j.master_ok j.flow_down.at_generation n f e in
        λ g a b. (r.own g a b, (n g (r.opens g a) b).1)
    go false o e = n

swap_stops : (m s : Sessions) → NoStops m s → NoStops s m
swap_stops m s n g a b = let q : (has_stop (of_generation m g).out ≡ false) × (has_stop (of_generation s g).out ≡ false) = n g b a in (q.1, q.0)

turn_down_stops : (m : Sessions) (up down : List TaggedSlot) (p : Packing) (k : ℕ) → Joined m p.after up (down ++ p.slots) → NoStops m p.after → NoStops m (turn p k).after
turn_down_stops m up down p k j n = go p.going (offer p.after.master p.after.ceiling p.room (p.after.session k)) refl
  where
    go : (b : Bool) (o : Offer) → offer p.after.master p.after.ceiling p.room (p.after.session k) ≡ o → NoStops m (cond b (turn_by p k o) p).after
    go true Nothing e = n
    go true Unfit e = n
    go true (Offers x) e =
        let f : Fine p.after.master p.after.ceiling (p.after.session k) x = offer_fine p.after.master p.after.ceiling p.room (p.after.session k) x (j.slave_ok.each k) (j.slave_ok.accounts k) (accepted_named p.after k j.slave_ok) e in
        let r : FormStops p.after m (form p.after k x) = form_stops p.after m p.room k x up j.slave_ok j.flow_up.at_generation (swap_stops m p.after n) f e in
        λ g a b. ((n g a (r.opens g b)).0, r.own g b a)
    go false o e = n

turns_up_stops : (s : Sessions) (up down : List TaggedSlot) (ks : List ℕ) (p : Packing) → Joined p.after s (up ++ p.slots) down → NoStops p.after s → NoStops (turn_all ks p).after s
turns_up_stops s up down [] p j n = n
turns_up_stops s up down (k ∷ ks) p j n = turns_up_stops s up down ks (turn p k) (turn_up s up down p k j) (turn_up_stops s up down p k j n)

turns_down_stops : (m : Sessions) (up down : List TaggedSlot) (ks : List ℕ) (p : Packing) → Joined m p.after up (down ++ p.slots) → NoStops m p.after → NoStops m (turn_all ks p).after
turns_down_stops m up down [] p j n = n
turns_down_stops m up down (k ∷ ks) p j n = turns_down_stops m up down ks (turn p k) (turn_down m up down p k j) (turn_down_stops m up down p k j n)

pub pack_up_stops : (m s : Sessions) (up down : List TaggedSlot) (room : ℕ) → Joined m s up down → NoStops m s → NoStops (pack room m).after s
pack_up_stops m s up down room j n = turns_up_stops s up down (turns m) (record { after = m; slots = []; room = room; left = 255; going = true }) (subst (λ z. Joined m s z down) (sym (append-nil up)) j) n

pub pack_down_stops : (m s : Sessions) (up down : List TaggedSlot) (room : ℕ) → Joined m s up down → NoStops m s → NoStops m (pack room s).after
pack_down_stops m s up down room j n = turns_down_stops m up down (turns s) (record { after = s; slots = []; room = room; left = 255; going = true }) (subst (λ z. Joined m s up z) (sym (append-nil down)) j) n
