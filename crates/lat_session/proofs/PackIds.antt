-- One id's turn in a packing.
use Rattle.std.proofs.Common.{◌≡◌, ◌≢◌, ℕ, ◌+◌, ◌-◌, ◌<◌, ◌≤◌, sym, ap, ◌∙◌, refl, subst, arith, Bool, true, false, not, cond, ◌&&◌, ◌||◌, List, [], ◌∷◌, ◌++◌, length, set, get_or, nat_lt, append_assoc, append-nil, length-append, length-set, ltb-true}
use Rattle.std.proofs.lemmas.List.{set-get_or}
use Rattle.std.proofs.lemmas.Bool.{true≢false, false≢true, and_parts, not-true}
use Rattle.std.proofs.lemmas.Bool.Decides.{nat_tests}
use Rattle.lat_base.specs.declared.state.SessionState as base_state
use Rattle.lat_base.specs.declared.state.SessionState.TheVariants as kept_states
use Rattle.lat_model.specs.Lists.{is_empty, Each}
use Rattle.lat_model.specs.ends.End.{wire_of}
use Rattle.lat_model.specs.sessions.Slots as sessions
use Rattle.lat_model.specs.sessions.Session.{Session, Free, Calling, Asked, Live, Closing, Left, state, answered, gone, free, peer}
use Rattle.lat_model.specs.sessions.Sessions.{Sessions, named}
use Rattle.lat_model.specs.sessions.Offers.{Offer, offer}
use Rattle.lat_model.specs.sessions.Offers as offers
use Rattle.lat_model.specs.sessions.Packing.{Packing, TaggedSlot, turn_by, turn, form, formed, formed as after_slot, tagged}
use Rattle.lat_model.proofs.sessions.Forms.{formed_as}
use Rattle.lat_slots.specs.Layout.{slot_text}
use Rattle.lat_stream.specs.Kept.{Kept, stream_of, state_of}
use Rattle.lat_stream.specs.Sound.{Sound}
use Rattle.lat_stream.specs.Wire.{IsFormed, formed_as as wire_slot}
use Rattle.lat_stream.specs.declared.forming.Formed.{Formed}
use Rattle.lat_session.specs.declared.packing.Progress.{Progress}
use Rattle.lat_session.specs.Table.{Table, table_of, ask_is_open}
use Rattle.lat_session.specs.Stands.{Stands}
use Rattle.lat_session.specs.Packed.{Packed, NoRejects, is_held, counted, served_next, slots_text}
use Rattle.lat_stream.specs.FormsOffer.{FormsOffer, reject_due}
use Rattle.lat_session.proofs.PackTable.{kept_at, kept_here, changed_sessions, changed_asks}
use Rattle.lat_session.proofs.PackForm.{Forms, forms}
use Rattle.lat_session.proofs.PackTurn.{free_offers_nothing, unfree_unrefused, form_asks, turn_stands}

-- states

pub free_shown : (m : Bool) (s : Session) → state_of (state m s) ≡ kept_states.Free → free s ≡ true
free_shown m s = go (free s) (gone s) (answered s) _ m
  where
    go : (f g a c m : Bool) → state_of (cond f Free (cond g Left (cond a (cond c Closing Live) (cond m Calling Asked)))) ≡ kept_states.Free → f ≡ true
    go true g a c m e = refl
    go false true a c m e = cc
    go false false true true m e = cc
    go false false true false m e = cc
    go false false false c true e = cc
    go false false false c false e = cc

pub unfree_shown : (m : Bool) (s : Session) → (state_of (state m s) ≡ kept_states.Free → ⊥) → free s ≡ false
unfree_shown m s n = go (free s) refl
  where
    go : (f : Bool) → free s ≡ f → f ≡ false
    go true e = absurd (n (ap (λ f. state_of (cond f Free (cond (gone s) Left (cond (answered s) (cond (s.closed || sessions.has_stop s.came) Closing Live) (cond m Calling Asked))))) e))
    go false e = refl

-- a turn that does nothing

pub turn_over : (p : Packing) (k : ℕ) → p.going ≡ false → turn p k ≡ p
turn_over p k g = ap (λ b. cond b (turn_by p k (offer p.after.master p.after.ceiling p.room (p.after.session k))) p) g

pub turn_nothing : (p : Packing) (k : ℕ) → (p.going ≡ true → offer p.after.master p.after.ceiling p.room (p.after.session k) ≡ offers.Nothing) → turn p k ≡ p
turn_nothing p k h = go p.going refl
  where
    go : (b : Bool) → p.going ≡ b → cond b (turn_by p k (offer p.after.master p.after.ceiling p.room (p.after.session k))) p ≡ p
    go true g = ap (turn_by p k) (h g)
    go false g = refl

pub turn_free : (p : Packing) (k : ℕ) → NoRejects p → free (p.after.session k) ≡ true → turn p k ≡ p
turn_free p k n f = turn_nothing p k (λ g. free_offers_nothing p.after.master p.after.ceiling p.room (p.after.session k) f (n g k))

-- what is known of a session whose turn comes
pub record Sits (t : Table) (p : Packing) (id : ℕ) (d : Kept) : Type 0 where
  pub used : p.after.at_id id ≢ 0
  pub unfree : free (named p.after id) ≡ false
  pub sound : Sound t.master p.after.ceiling (named p.after id)
  pub kept : get_or t.sessions (id - 1) d ≡ stream_of t.master p.after.ceiling (named p.after id)
  pub named_so : (named p.after id).id ≡ id
  pub source : sessions.starts (named p.after id).came ≡ true → peer (named p.after id) ≢ 0
  pub rejecting : reject_due (named p.after id) ≡ false

pub sits : (before : List ℕ) (t : Table) (w : Progress) (payload : List ℕ) (p : Packing) (id : ℕ) (d : Kept) → Packed before t w payload p → 1 ≤ id → id ≤ length t.sessions → is_held (get_or t.sessions (id - 1) d).state ≡ true → Sits t p id d
sits before t w payload p id d pk lo hi nf =
    let st : Stands t p.after = pk.stands in
    let k : ℕ = p.after.at_id id in
    let m : t.master ≡ p.after.master = ap (λ (z : Table). z.master) st.is in
    let here : get_or t.sessions (id - 1) d ≡ kept_at p.after id = ap (λ (z : Table). get_or z.sessions (id - 1) d) st.is ∙ kept_here (length t.sessions) id p.after d lo hi in
    let unfree : free (named p.after id) ≡ false = unfree_shown p.after.master (named p.after id) (λ e. absurd (false≢true (sym (ap is_held (ap (λ (z : Kept). z.state) here ∙ e)) ∙ nf))) in
    let used : k ≢ 0 = λ q. true≢false (sym (ap (λ i. free (p.after.session i)) q ∙ ap free st.good.none) ∙ unfree) in
    record {
      used = used;
      unfree = unfree;
      sound = subst (λ b. Sound b p.after.ceiling (named p.after id)) (sym m) (record { shape = st.good.each k; accounts = st.good.accounts k; small = st.small k; opens = st.opens k; begun = st.begun k });
      kept = here ∙ ap (λ b. stream_of b p.after.ceiling (named p.after id)) (sym m);
      named_so = st.good.found id used;
      source = st.sources k;
      rejecting = ap (λ b. (b && is_empty (named p.after id).out) && not (is_empty (named p.after id).came)) (unfree_unrefused (named p.after id) unfree);
    }

-- a slot was formed

text_more : (before payload : List ℕ) (os : List TaggedSlot) (o : TaggedSlot) → payload ≡ before ++ slots_text (wire_of os) → payload ++ slot_text (wire_slot o.slot) ≡ before ++ slots_text (wire_of (os ++ o ∷ []))
text_more before payload os o e =
    ap (λ z. z ++ slot_text (wire_slot o.slot)) e ∙ append_assoc before (slots_text (wire_of os)) (slot_text (wire_slot o.slot)) ∙ ap (λ z. before ++ z) (more os)
  where
    more : (os : List TaggedSlot) → slots_text (wire_of os) ++ slot_text (wire_slot o.slot) ≡ slots_text (wire_of (os ++ o ∷ []))
    more [] = sym (append-nil (slot_text (wire_slot o.slot)))
    more (q ∷ qs) = append_assoc (slot_text (wire_slot q.slot)) (slots_text (wire_of qs)) (slot_text (wire_slot o.slot)) ∙ ap (λ z. slot_text (wire_slot q.slot) ++ z) (more qs)

slots_more : (os : List TaggedSlot) (o : TaggedSlot) → Each IsFormed (wire_of os) → IsFormed o.slot → Each IsFormed (wire_of (os ++ o ∷ []))
slots_more [] o all one = (one, tt)
slots_more (q ∷ qs) o all one = (all.0, slots_more qs o all.1 one)

-- the packing after a turn at which a slot is formed, where the table, the progress and the payload are as they are to be
pub formed_turn : (before : List ℕ) (t u : Table) (w v : Progress) (payload after : List ℕ) (p : Packing) (k : ℕ) (x : sessions.Slot) →
    Packed before t w payload p →
    (not w.ended && nat_lt w.formed 255) ≡ true →
    offer p.after.master p.after.ceiling p.room (p.after.session k) ≡ offers.Offers x →
    length u.sessions ≡ length t.sessions →
    u ≡ table_of (length u.sessions) (form p.after k x) →
    (form p.after k x).served ≤ length u.sessions →
    v.room ≡ w.room - sessions.slot_len x →
    v.formed ≡ w.formed + 1 →
    v.ended ≡ w.ended →
    after ≡ payload ++ slot_text (wire_slot x) →
    IsFormed x →
    Packed before u v after (turn p k)
formed_turn before t u w v payload after p k x pk g o l is served room formed ended text fair =
    let q : turn p k ≡ turn_by p k (offers.Offers x) = ap (λ b. cond b (turn_by p k (offer p.after.master p.after.ceiling p.room (p.after.session k))) p) (sym pk.going ∙ g) ∙ ap (turn_by p k) o in
    let less : w.formed < 255 = ltb-true w.formed 255 (and_parts (not w.ended) (nat_lt w.formed 255) g).1 in
    let rest : Packed before u v after (turn_by p k (offers.Offers x)) = record {
      stands = subst (λ z. Stands u z) (ap (λ (z : Packing). z.after) q) (turn_stands t u p k pk.stands l (is ∙ ap (λ (z : Packing). table_of (length u.sessions) z.after) (sym q)) (subst (λ (z : Packing). z.after.served ≤ length u.sessions) (sym q) served));
      room = room ∙ ap (λ z. z - sessions.slot_len x) pk.room;
      formed = formed ∙ omega (arith, pk.formed, length-append p.slots (tagged p.after k x ∷ []));
      left = omega (arith, formed, pk.left, less);
      going = ap (λ b. not b && nat_lt v.formed 255) ended ∙ ap (λ b. not b && nat_lt v.formed 255) (not-true w.ended (and_parts (not w.ended) (nat_lt w.formed 255) g).0) ∙ grind (arith, nat_tests, formed, pk.left, less);
      text = text ∙ text_more before payload p.slots (tagged p.after k x) pk.text;
      slots = slots_more p.slots (tagged p.after k x) pk.slots fair;
    } in
    subst (λ z. Packed before u v after z) (sym q) rest

-- the packing after the turn of an id that formed a slot
pub id_formed : (before : List ℕ) (t u : Table) (w v : Progress) (payload after : List ℕ) (p : Packing) (id : ℕ) (d : Kept) (x : sessions.Slot) →
    Packed before t w payload p →
    Sits t p id d →
    1 ≤ id →
    id ≤ length t.sessions →
    (not w.ended && nat_lt w.formed 255) ≡ true →
    offer p.after.master p.after.ceiling p.room (named p.after id) ≡ offers.Offers x →
    u ≡ record t { served = id; sessions = set t.sessions (id - 1) (stream_of t.master p.after.ceiling (formed (named p.after id) x)) } →
    v.room ≡ w.room - sessions.slot_len x →
    v.formed ≡ w.formed + 1 →
    v.ended ≡ w.ended →
    after ≡ payload ++ slot_text (wire_slot x) →
    IsFormed x →
    Packed before u v after (turn p (p.after.at_id id))
id_formed before t u w v payload after p id d x pk s lo hi g o is room count ended text fair =
    let e : Sessions = p.after in
    let k : ℕ = e.at_id id in
    let n : ℕ = length t.sessions in
    let st : Stands t e = pk.stands in
    let f : Forms e k x = forms e k x in
    let l : length u.sessions ≡ n = ap (λ (z : Table). length z.sessions) is ∙ length-set t.sessions (id - 1) _ in
    let served : (form e k x).served ≡ id = f.served ∙ ap (λ b. cond b e.served (named e id).id) (unfree_unrefused (named e id) s.unfree) ∙ s.named_so in
    let c : (ask_is_open e k ≡ false) × (ask_is_open (form e k x) k ≡ false) = form_asks e k p.room x st.good s.unfree o in
    let asks : (table_of n (form e k x)).asks ≡ (table_of n e).asks = changed_asks e (form e k x) k (formed_as (named e id) f.generation x) f.changed (c.0 ∙ sym c.1) (λ h. absurd (true≢false (sym h ∙ c.0))) in
    let kept : (table_of n (form e k x)).sessions ≡ set (table_of n e).sessions (id - 1) (stream_of e.master e.ceiling (formed (named e id) x)) = changed_sessions n id e (form e k x) (formed_as (named e id) f.generation x) st.good s.used lo hi f.changed in
    let m : t.master ≡ e.master = ap (λ (z : Table). z.master) st.is in
    let old : record t { served = id; sessions = set t.sessions (id - 1) (stream_of t.master e.ceiling (formed (named e id) x)) } ≡ record (table_of n e) { served = id; sessions = set (table_of n e).sessions (id - 1) (stream_of e.master e.ceiling (formed (named e id) x)) } =
    ap (λ b. record t { served = id; sessions = set t.sessions (id - 1) (stream_of b e.ceiling (formed (named e id) x)) }) m
    ∙ ap (λ (z : Table). record z { served = id; sessions = set z.sessions (id - 1) (stream_of e.master e.ceiling (formed (named e id) x)) }) st.is in
    let new : table_of n (form e k x) ≡ record (table_of n e) { served = id; sessions = set (table_of n e).sessions (id - 1) (stream_of e.master e.ceiling (formed (named e id) x)) } =
    same_table (table_of n (form e k x)) (record (table_of n e) { served = id; sessions = set (table_of n e).sessions (id - 1) (stream_of e.master e.ceiling (formed (named e id) x)) }) f.changed.master f.changed.agreed f.changed.ceiling served kept asks in
    formed_turn before t u w v payload after p k x pk g o l
    (is ∙ old ∙ sym new ∙ ap (λ z. table_of z (form e k x)) (sym l))
    (omega (arith, served, l, hi))
    room count ended text fair
  where
    same_table : (a b : Table) → a.master ≡ b.master → a.agreed ≡ b.agreed → a.ceiling ≡ b.ceiling → a.served ≡ b.served → a.sessions ≡ b.sessions → a.asks ≡ b.asks → a ≡ b
    same_table a b h i j k l m = rw (h, i, j, k, l, m) refl

pub going_turn : (before : List ℕ) (t : Table) (w : Progress) (payload : List ℕ) (p : Packing) (k : ℕ) (o : Offer) → Packed before t w payload p → (not w.ended && nat_lt w.formed 255) ≡ true → offer p.after.master p.after.ceiling p.room (p.after.session k) ≡ o → turn p k ≡ turn_by p k o
going_turn before t w payload p k o pk g q = ap (λ b. cond b (turn_by p k (offer p.after.master p.after.ceiling p.room (p.after.session k))) p) (sym pk.going ∙ g) ∙ ap (turn_by p k) q

-- nothing goes on behind a slot that doesn't fit
pub unfit_packed : (before : List ℕ) (t : Table) (w v : Progress) (payload : List ℕ) (p : Packing) (k : ℕ) → Packed before t w payload p → (not w.ended && nat_lt w.formed 255) ≡ true → offer p.after.master p.after.ceiling p.room (p.after.session k) ≡ offers.Unfit → v ≡ record w { ended = true } → Packed before t v payload (turn p k)
unfit_packed before t w v payload p k pk g q is =
    let u : Packed before t (record w { ended = true }) payload (record p { going = false }) = record { stands = pk.stands; room = pk.room; formed = pk.formed; left = pk.left; going = refl; text = pk.text; slots = pk.slots } in
    subst (λ z. Packed before t z payload (turn p k)) (sym is) (subst (λ z. Packed before t (record w { ended = true }) payload z) (sym (going_turn before t w payload p k offers.Unfit pk g q)) u)

-- a session that is free, or after the end
pub idle_packed : (before : List ℕ) (t : Table) (w : Progress) (payload : List ℕ) (p : Packing) (id : ℕ) (d : Kept) → Packed before t w payload p → NoRejects p → 1 ≤ id → id ≤ length t.sessions → is_held (get_or t.sessions (id - 1) d).state ≡ false → Packed before t w payload (turn p (p.after.at_id id))
idle_packed before t w payload p id d pk n lo hi h =
    let here : get_or t.sessions (id - 1) d ≡ kept_at p.after id = ap (λ (z : Table). get_or z.sessions (id - 1) d) pk.stands.is ∙ kept_here (length t.sessions) id p.after d lo hi in
    let f : free (named p.after id) ≡ true = free_shown p.after.master (named p.after id) (only_free (state_of (state p.after.master (named p.after id))) (sym (ap (λ (z : Kept). is_held z.state) here) ∙ h)) in
    subst (λ z. Packed before t w payload z) (sym (turn_free p (p.after.at_id id) n f)) pk
  where
    only_free : (s : base_state.SessionState) → is_held s ≡ false → s ≡ kept_states.Free
    only_free kept_states.Free e = refl
    only_free kept_states.Calling e = absurd (true≢false e)
    only_free kept_states.Asked e = absurd (true≢false e)
    only_free kept_states.Live e = absurd (true≢false e)
    only_free kept_states.Closing e = absurd (true≢false e)
    only_free kept_states.Left e = absurd (true≢false e)

pub over_packed : (before : List ℕ) (t : Table) (w : Progress) (payload : List ℕ) (p : Packing) (k : ℕ) → Packed before t w payload p → (not w.ended && nat_lt w.formed 255) ≡ false → Packed before t w payload (turn p k)
over_packed before t w payload p k pk g = subst (λ z. Packed before t w payload z) (sym (turn_over p k (sym pk.going ∙ g))) pk

-- the turn of a session that isn't free
pub id_packed : (before : List ℕ) (t u : Table) (w v : Progress) (payload after : List ℕ) (p : Packing) (id : ℕ) (d new : Kept) (formed : Formed) →
    Packed before t w payload p →
    Sits t p id d →
    1 ≤ id →
    id ≤ length t.sessions →
    (not w.ended && nat_lt w.formed 255) ≡ true →
    FormsOffer t.master p.after.ceiling (named p.after id) (offer t.master p.after.ceiling w.room (named p.after id)) (get_or t.sessions (id - 1) d) new payload after formed →
    ((x : sessions.Slot) → offer t.master p.after.ceiling w.room (named p.after id) ≡ offers.Offers x → length after ≡ length payload + sessions.slot_len x) →
    ((x : sessions.Slot) → offer t.master p.after.ceiling w.room (named p.after id) ≡ offers.Offers x → IsFormed x) →
    u ≡ record t { served = served_next formed id t.served; sessions = set t.sessions (id - 1) new } →
    v ≡ counted formed (length after - length payload) w →
    Packed before u v after (turn p (p.after.at_id id))
id_packed before t u w v payload after p id d new formed pk s lo hi g does len fair is counts =
    go (offer t.master p.after.ceiling w.room (named p.after id)) refl does len
  where
    same_offer : offer p.after.master p.after.ceiling p.room (named p.after id) ≡ offer t.master p.after.ceiling w.room (named p.after id)
    same_offer = ap (λ m. offer m p.after.ceiling p.room (named p.after id)) (sym (ap (λ (z : Table). z.master) pk.stands.is)) ∙ ap (λ n. offer t.master p.after.ceiling n (named p.after id)) (sym pk.room)

    still : new ≡ get_or t.sessions (id - 1) d → record t { sessions = set t.sessions (id - 1) new } ≡ t
    still q = ap (λ z. record t { sessions = set t.sessions (id - 1) z }) q ∙ ap (λ z. record t { sessions = z }) (set-get_or t.sessions (id - 1) d)

    none : after ≡ payload → w.room - (length after - length payload) ≡ w.room
    none q = omega (arith, ap length q)

    go : (o : Offer) → offer t.master p.after.ceiling w.room (named p.after id) ≡ o →
        FormsOffer t.master p.after.ceiling (named p.after id) o (get_or t.sessions (id - 1) d) new payload after formed →
        ((x : sessions.Slot) → o ≡ offers.Offers x → length after ≡ length payload + sessions.slot_len x) →
        Packed before u v after (turn p (p.after.at_id id))
    go offers.Nothing q h len =
        let ut : u ≡ t = is ∙ ap (λ f. record t { served = served_next f id t.served; sessions = set t.sessions (id - 1) new }) h.0 ∙ still h.1 in
        let vw : v ≡ w = counts ∙ ap (λ f. counted f (length after - length payload) w) h.0 ∙ ap (λ n. record w { room = n }) (none h.2) in
        let pq : turn p (p.after.at_id id) ≡ p = turn_nothing p (p.after.at_id id) (λ i. same_offer ∙ q) in
        rw (ut, vw, h.2, pq) pk
    go offers.Unfit q h len =
        let ut : u ≡ t = is ∙ ap (λ f. record t { served = served_next f id t.served; sessions = set t.sessions (id - 1) new }) h.0 ∙ still h.1 in
        let vw : v ≡ record w { ended = true } = counts ∙ ap (λ f. counted f (length after - length payload) w) h.0 ∙ ap (λ n. record w { room = n; ended = true }) (none h.2) in
        rw (ut, h.2) (unfit_packed before t w v payload p (p.after.at_id id) pk g (same_offer ∙ q) vw)
    go (offers.Offers x) q h len =
        let ut : u ≡ record t { served = id; sessions = set t.sessions (id - 1) (stream_of t.master p.after.ceiling (after_slot (named p.after id) x)) } = is ∙ ap (λ f. record t { served = served_next f id t.served; sessions = set t.sessions (id - 1) new }) h.0 ∙ ap (λ z. record t { served = id; sessions = set t.sessions (id - 1) z }) h.1 in
        let vw : v ≡ record w { room = w.room - (length after - length payload); formed = w.formed + 1 } = counts ∙ ap (λ f. counted f (length after - length payload) w) h.0 in
        let room : v.room ≡ w.room - sessions.slot_len x = ap (λ (z : Progress). z.room) vw ∙ omega (arith, len x refl) in
        id_formed before t u w v payload after p id d x pk s lo hi g (same_offer ∙ q) ut room (ap (λ (z : Progress). z.formed) vw) (ap (λ (z : Progress). z.ended) vw) h.2 (fair x q)
