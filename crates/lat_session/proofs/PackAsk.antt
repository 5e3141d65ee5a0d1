-- The turn of the ask at one place.
use Rattle.std.proofs.Common.{◌≡◌, ◌≢◌, ℕ, zero, suc, ◌+◌, ◌-◌, ◌<◌, ◌≤◌, sym, ap, ◌∙◌, refl, subst, arith, Bool, true, false, not, cond, ◌&&◌, ◌||◌, List, [], ◌∷◌, ◌++◌, length, map, get_or, nat_lt, nat_le, ⊎_elim}
use Rattle.std.specs.List.{remove, All}
use Rattle.std.proofs.lemmas.List.Elements.{All-map}
use Rattle.std.proofs.lemmas.List.{length-map, get_or-map}
use Rattle.std.proofs.lemmas.Bool.{true≢false, false≢true, and_parts, cases_eq, not-true}
use Rattle.std.proofs.lemmas.Bool.Decides.{nat_tests}
use Rattle.lat_model.specs.Lists.{upwards, keep, is_empty}
use Rattle.lat_model.specs.sessions.Slots.{Slot, Reject}
use Rattle.lat_model.specs.sessions.Session.{Session, rejecting, waits, answered, peer}
use Rattle.lat_model.specs.sessions.Sessions.{Sessions, named}
use Rattle.lat_model.specs.sessions.Offers.{Unfit, Offers, fit, offer}
use Rattle.lat_model.specs.sessions.Packing.{Packing, turn, form}
use Rattle.lat_model.specs.sessions.EndOk.{EndOk}
use Rattle.lat_model.proofs.sessions.Forms.{formed_as}
use Rattle.lat_slots.specs.Layout.{slot_text}
use Rattle.lat_stream.specs.Kept.{stream_of}
use Rattle.lat_stream.specs.Wire.{formed_as as wire_slot}
use Rattle.lat_session.specs.declared.ask.Ask.{Ask}
use Rattle.lat_session.specs.declared.ask.Ask.TheVariants.{Waits, Rejected}
use Rattle.lat_session.specs.declared.packing.Progress.{Progress}
use Rattle.lat_session.specs.Table.{Table, table_of, ask_is_open, ask_of, open_asks, waits_as, reason_of}
use Rattle.lat_session.specs.Stands.{Stands}
use Rattle.lat_session.specs.Packed.{Packed, open_serials}
use Rattle.lat_stream.proofs.FormsWritable.{reject_formed}
use Rattle.lat_session.proofs.PackTable.{Changed, kept_at, map_same, map_keep}
use Rattle.lat_session.proofs.PackForm.{Forms, forms}
use Rattle.lat_session.proofs.PackIds.{turn_over, formed_turn, going_turn, unfit_packed}
use Rattle.lat_session.proofs.PackRejects.{Kept_one, kept_one, keep_remove, map_remove, turn_waits, open_tells}

-- what is known of the session of an open ask
pub record AsksAt (t : Table) (p : Packing) (at : ℕ) (d : Ask) (k : ℕ) : Type 0 where
  pub is_open : ask_is_open p.after k ≡ true
  pub slave : p.after.master ≡ false
  pub some : 0 < k
  pub made : k ≤ p.after.made
  pub ask : get_or t.asks at d ≡ ask_of (p.after.session k)
  pub within : at < length (open_serials p.after)

abbrev pub serial_at : Packing → ℕ → ℕ
serial_at p at = get_or (open_serials p.after) at 0

pub asks_at : (before : List ℕ) (t : Table) (w : Progress) (payload : List ℕ) (p : Packing) (at : ℕ) (d : Ask) → Packed before t w payload p → at < length t.asks → AsksAt t p at d (serial_at p at)
asks_at before t w payload p at d pk l =
    let e : Sessions = p.after in
    let asks : t.asks ≡ open_asks e = ap (λ (z : Table). z.asks) pk.stands.is in
    let less : at < length (open_serials e) = omega (arith, l, ap length asks, length-map (open_serials e) (λ j. ask_of (e.session j))) in
    let one : Kept_one (ask_is_open e) 0 e.made (serial_at p at) = kept_one (ask_is_open e) 0 e.made at 0 less in
    record {
      is_open = one.passes;
      slave = not-true e.master (and_parts (not e.master) _ one.passes).0;
      some = one.above;
      made = omega (arith, one.below);
      ask = ap (λ z. get_or z at d) asks ∙ get_or-map (λ j. ask_of (e.session j)) (open_serials e) at 0 d less;
      within = less;
    }

ask_waits : (s : Session) (id : ℕ) → ask_of s ≡ Waits id → rejecting s ≡ false
ask_waits s id = go (rejecting s)
  where
    go : (b : Bool) → cond b (Rejected (peer s) s.reason) (Waits s.id) ≡ Waits id → b ≡ false
    go true e = cc
    go false e = refl

pub record Rejects (s : Session) (from why : ℕ) : Type 0 where
  pub rejecting : rejecting s ≡ true
  pub peer : peer s ≡ from
  pub reason : s.reason ≡ why

ask_rejects : (s : Session) (from reason : ℕ) → ask_of s ≡ Rejected from reason → Rejects s from reason
ask_rejects s from reason = go (rejecting s) refl
  where
    go : (b : Bool) → rejecting s ≡ b → cond b (Rejected (peer s) s.reason) (Waits s.id) ≡ Rejected from reason → Rejects s from reason
    go true r e = record { rejecting = r; peer = cc; reason = cc }
    go false r e = absurd (wrong e)
      where
        wrong : Waits s.id ≡ Rejected from reason → ⊥
        wrong q = cc

-- an ask that waits for its answer
pub waits_turn : (before : List ℕ) (t : Table) (w : Progress) (payload : List ℕ) (p : Packing) (at id : ℕ) (d : Ask) → Packed before t w payload p → at < length t.asks → get_or t.asks at d ≡ Waits id → turn p (serial_at p at) ≡ p
waits_turn before t w payload p at id d pk l q =
    let a : AsksAt t p at d (serial_at p at) = asks_at before t w payload p at d pk l in
    turn_waits p.after p (serial_at p at) pk.stands.begun refl a.is_open (ask_waits (p.after.session (serial_at p at)) id (sym a.ask ∙ q))

-- the packing is over
pub over_turn : (before : List ℕ) (t : Table) (w : Progress) (payload : List ℕ) (p : Packing) (k : ℕ) → Packed before t w payload p → (not w.ended && nat_lt w.formed 255) ≡ false → turn p k ≡ p
over_turn before t w payload p k pk g = turn_over p k (sym pk.going ∙ g)

-- a waiting reject
offers_reject : (e : Sessions) (k room from reason : ℕ) → EndOk e → e.master ≡ false → 0 < k → k ≤ e.made → Rejects (e.session k) from reason → offer e.master e.ceiling room (e.session k) ≡ fit room (Reject from 0 reason)
offers_reject e k room from reason ok m lo hi r =
    let s : Session = e.session k in
    let a : (rejecting s ≡ true) × (not (is_empty s.came) ≡ true) = and_parts (rejecting s) (not (is_empty s.came)) (open_tells e k ok m lo hi r.rejecting) in
    let b : (s.rejects ≡ true) × (is_empty s.out ≡ true) = and_parts s.rejects (is_empty s.out) a.0 in
    rw (b.0, b.1, a.1, sym r.peer, sym r.reason) refl

-- a reject that doesn't fit
pub unfit_reject : (before : List ℕ) (t : Table) (w v : Progress) (payload : List ℕ) (p : Packing) (at from reason : ℕ) (d : Ask) → Packed before t w payload p → at < length t.asks → get_or t.asks at d ≡ Rejected from reason → (not w.ended && nat_lt w.formed 255) ≡ true → w.room < 4 → v ≡ record w { ended = true } →
    Packed before t v payload (turn p (serial_at p at)) × (open_serials (turn p (serial_at p at)).after ≡ open_serials p.after)
unfit_reject before t w v payload p at from reason d pk l q g less is =
    let k : ℕ = serial_at p at in
    let a : AsksAt t p at d k = asks_at before t w payload p at d pk l in
    let r : Rejects (p.after.session k) from reason = ask_rejects (p.after.session k) from reason (sym a.ask ∙ q) in
    let o : offer p.after.master p.after.ceiling p.room (p.after.session k) ≡ Unfit = offers_reject p.after k p.room from reason pk.stands.good a.slave a.some a.made r ∙ ap (λ b. cond b (Offers (Reject from 0 reason)) Unfit) (leb-false-from 4 p.room (subst (λ z. z < 4) pk.room less)) in
    (unfit_packed before t w v payload p k pk g o is, ap (λ (z : Packing). open_serials z.after) (going_turn before t w payload p k Unfit pk g o))
  where
    leb-false-from : (m n : ℕ) → n < m → nat_le m n ≡ false
    leb-false-from m n h = grind (arith, nat_tests, h)

-- a sent reject leaves the session kept as it was
kept_rejected : (m : Bool) (c n from reason : ℕ) (s : Session) → s.rejects ≡ true → s.out ≡ [] → stream_of m c (formed_as s n (Reject from 0 reason)) ≡ stream_of m c s
kept_rejected m c n from reason s r o = rw (r, o) refl

closed_rejected : (s : Session) (n : ℕ) (x : Slot) → s.rejects ≡ true → (waits (formed_as s n x) || rejecting (formed_as s n x)) ≡ false
closed_rejected s n x r = rw (r, full s.out) (both (not (answered (formed_as s n x))))
  where
    both : (b : Bool) → ((b && false) || false) ≡ false
    both true = refl
    both false = refl

    full : (xs : List Slot) → is_empty (xs ++ x ∷ []) ≡ false
    full [] = refl
    full (y ∷ ys) = refl

empty_is : (xs : List Slot) → is_empty xs ≡ true → xs ≡ []
empty_is [] h = refl
empty_is (x ∷ xs) h = absurd (false≢true h)

pub sent_reject : (before : List ℕ) (t u : Table) (w v : Progress) (payload after : List ℕ) (p : Packing) (at from reason : ℕ) (d : Ask) →
    Packed before t w payload p →
    at < length t.asks →
    get_or t.asks at d ≡ Rejected from reason →
    (not w.ended && nat_lt w.formed 255) ≡ true →
    4 ≤ w.room →
    u ≡ record t { asks = remove t.asks at } →
    v.room ≡ w.room - 4 →
    v.formed ≡ w.formed + 1 →
    v.ended ≡ w.ended →
    after ≡ payload ++ slot_text (wire_slot (Reject from 0 reason)) →
    reason ≤ 15 →
    Packed before u v after (turn p (serial_at p at)) × (open_serials (turn p (serial_at p at)).after ≡ remove (open_serials p.after) at)
sent_reject before t u w v payload after p at from reason d pk l q g room is less count ended text small =
    let e : Sessions = p.after in
    let k : ℕ = serial_at p at in
    let s : Session = e.session k in
    let x : Slot = Reject from 0 reason in
    let n : ℕ = length t.sessions in
    let st : Stands t e = pk.stands in
    let a : AsksAt t p at d k = asks_at before t w payload p at d pk l in
    let r : Rejects s from reason = ask_rejects s from reason (sym a.ask ∙ q) in
    let b : (s.rejects ≡ true) × (is_empty s.out ≡ true) = and_parts s.rejects (is_empty s.out) r.rejecting in
    let o : offer e.master e.ceiling p.room s ≡ Offers x = offers_reject e k p.room from reason st.good a.slave a.some a.made r ∙ ap (λ c. cond c (Offers x) Unfit) (leb-true-from 4 p.room (subst (λ z. 4 ≤ z) pk.room room)) in
    let f : Forms e k x = forms e k x in
    let c : Changed e (form e k x) k (formed_as s f.generation x) = f.changed in
    let closed : ask_is_open (form e k x) k ≡ false = ap (λ (z : Session). not (form e k x).master && (waits z || rejecting z)) c.same ∙ ap (λ z. not (form e k x).master && z) (closed_rejected s f.generation x b.0) ∙ none (form e k x).master in
    let others : (j : ℕ) → j ≢ k → ask_is_open e j ≡ ask_is_open (form e k x) j = λ j w. sym (ap (λ m. not m && (waits ((form e k x).session j) || rejecting ((form e k x).session j))) c.master ∙ ap (λ (z : Session). not e.master && (waits z || rejecting z)) (c.other j w)) in
    let serials : open_serials (form e k x) ≡ remove (open_serials e) at = ap (λ m. keep (ask_is_open (form e k x)) (upwards 0 m)) c.made ∙ keep_remove (ask_is_open e) (ask_is_open (form e k x)) 0 e.made at k 0 a.within refl closed others in
    let same_asks : (j : ℕ) → ask_is_open (form e k x) j ≡ true → ask_of ((form e k x).session j) ≡ ask_of (e.session j) = λ j h. ap ask_of (c.other j (λ z. absurd (true≢false (sym (ap (ask_is_open (form e k x)) (sym z) ∙ h) ∙ closed)))) in
    let asks : open_asks (form e k x) ≡ remove (open_asks e) at =
    ap (λ m. map (λ j. ask_of ((form e k x).session j)) (keep (ask_is_open (form e k x)) (upwards 0 m))) c.made
    ∙ map_keep (ask_is_open (form e k x)) (ask_is_open (form e k x)) (λ j. ask_of ((form e k x).session j)) (λ j. ask_of (e.session j)) 0 e.made (λ j h. refl) (λ j h. same_asks j)
    ∙ ap (λ m. map (λ j. ask_of (e.session j)) (keep (ask_is_open (form e k x)) (upwards 0 m))) (sym c.made)
    ∙ ap (map (λ j. ask_of (e.session j))) serials ∙ map_remove (λ j. ask_of (e.session j)) (open_serials e) at in
    let kept : (i : ℕ) → kept_at (form e k x) i ≡ kept_at e i = λ i. ap (λ m. stream_of m (form e k x).ceiling (named (form e k x) i)) c.master ∙ ap (λ y. stream_of e.master y (named (form e k x) i)) c.ceiling ∙ ap (λ y. stream_of e.master e.ceiling ((form e k x).session (y i))) c.at_id
    ∙ ⊎_elim {C = stream_of e.master e.ceiling ((form e k x).session (e.at_id i)) ≡ stream_of e.master e.ceiling (e.session (e.at_id i))}
    (λ z. ap (λ j. stream_of e.master e.ceiling ((form e k x).session j)) z ∙ ap (stream_of e.master e.ceiling) c.same ∙ kept_rejected e.master e.ceiling f.generation from reason s b.0 (empty_is s.out b.1) ∙ ap (λ j. stream_of e.master e.ceiling (e.session j)) (sym z))
    (λ z. ap (stream_of e.master e.ceiling) (c.other (e.at_id i) z)) (cases_eq (e.at_id i) k) in
    let served : (form e k x).served ≡ e.served = f.served ∙ ap (λ z. cond z e.served s.id) b.0 in
    let new : table_of n (form e k x) ≡ record (table_of n e) { asks = remove (table_of n e).asks at } = same_table (table_of n (form e k x)) (record (table_of n e) { asks = remove (table_of n e).asks at }) c.master c.agreed c.ceiling served (map_same (kept_at (form e k x)) (kept_at e) 0 n (λ i h. kept i)) asks in
    let size : length u.sessions ≡ n = ap (λ (z : Table). length z.sessions) is in (
      formed_turn before t u w v payload after p k x pk g o size (is ∙ ap (λ (z : Table). record z { asks = remove z.asks at }) st.is ∙ sym new ∙ ap (λ z. table_of z (form e k x)) (sym size)) (omega (arith, served, size, st.served)) less count ended text (reject_formed from 0 reason (source_some from (λ z. (st.good.each k).peer_some a.slave (st.good.all_named a.slave k a.some a.made) (r.peer ∙ z))) (omega (arith, small))),
      ap (λ (z : Packing). open_serials z.after) (going_turn before t w payload p k (Offers x) pk g o) ∙ serials,
    )
  where
    source_some : (n : ℕ) → n ≢ 0 → 0 < n
    source_some zero h = absurd (h refl)
    source_some (suc n) h = omega arith

    leb-true-from : (m n : ℕ) → m ≤ n → nat_le m n ≡ true
    leb-true-from m n h = grind (arith, nat_tests, h)

    none : (b : Bool) → (not b && false) ≡ false
    none true = refl
    none false = refl

    same_table : (a b : Table) → a.master ≡ b.master → a.agreed ≡ b.agreed → a.ceiling ≡ b.ceiling → a.served ≡ b.served → a.sessions ≡ b.sessions → a.asks ≡ b.asks → a ≡ b
    same_table a b h i j k l m = rw (h, i, j, k, l, m) refl

-- as many asks as open serials
pub asks_count : (before : List ℕ) (t : Table) (w : Progress) (payload : List ℕ) (p : Packing) → Packed before t w payload p → length t.asks ≡ length (open_serials p.after)
asks_count before t w payload p pk = ap (λ (z : Table). length z.asks) pk.stands.is ∙ length-map (open_serials p.after) (λ j. ask_of (p.after.session j))

-- reasons stay small
pub turned_fits : (id from why : ℕ) (asks : List Ask) → why ≤ 15 → All (λ a. reason_of a ≤ 15) asks → All (λ a. reason_of a ≤ 15) (map (λ a. cond (waits_as id a) (Rejected from why) a) asks)
turned_fits id from why asks l h = All-map (λ a. reason_of a ≤ 15) (λ a. cond (waits_as id a) (Rejected from why) a) asks (λ k d i. go (waits_as id (get_or asks k d)) (get_or asks k d) (h k d i))
  where
    go : (b : Bool) (a : Ask) → reason_of a ≤ 15 → reason_of (cond b (Rejected from why) a) ≤ 15
    go true a f = l
    go false a f = f
