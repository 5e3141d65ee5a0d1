-- The starts in a message that is packed: whose they are, and that their ids were free of older sessions before.
use Rattle.std.proofs.Common.{◌≡◌, ℕ, zero, suc, ◌<◌, ◌⊎◌, inl, inr, ⊎_elim, sym, ap, ◌∙◌, refl, subst, arith, Bool, true, false, cond, ◌||◌, List, [], ◌∷◌, ◌++◌, nat_eq, append-nil, le_refl, eqb-true}
use Rattle.std.proofs.lemmas.Bool.{and_parts, true≢false, false≢true, eqb-false, both_ways}
use Rattle.lat_model.specs.sessions.Slots.{Slot, slot_len, starts, is_start, is_reject}
use Rattle.lat_model.specs.sessions.Slots as Slots
use Rattle.lat_model.specs.Lists.{Each}
use Rattle.lat_model.proofs.numbers.Net.{each_imp, each_append}
use Rattle.lat_model.specs.sessions.Session.{Session, free}
use Rattle.lat_model.specs.sessions.Sessions.{Sessions, of_generation}
use Rattle.lat_model.specs.sessions.Packing.{TaggedSlot, formed, form, first_form, next_form, tag, tagged, Packing, turn_by, turn, turn_all, turns, pack}
use Rattle.lat_model.specs.sessions.Offers.{Offer, Nothing, Unfit, Offers, offer}
use Rattle.lat_model.specs.sessions.EndOk.{EndOk, is_behind}
use Rattle.lat_model.specs.sessions.MayForm.{MayForm, Starts, Rejects, Follows, Affords}
use Rattle.lat_model.specs.sessions.Joined.{Quiet, Joined, slots_of, has_start}
use Rattle.lat_model.proofs.sessions.Words.{upd_same, upd_other, upd_field, slots_of-append}
use Rattle.lat_model.proofs.sessions.Starts.{reject_turns}
use Rattle.lat_model.proofs.sessions.Forms.{formed_as, formed_free, former_some, former_made}
use Rattle.lat_model.proofs.sessions.Offers.{Fine, offer_fine}
use Rattle.lat_model.proofs.sessions.Joins.{FormedBy, form_formed, may_free}
use Rattle.lat_model.proofs.sessions.Packs.{accepted_named, turn_up, turn_down}

-- p comes after m, by forming slots alone
pub record Later (m : Sessions) (p : Sessions) : Type 0 where
  pub id : (k : ℕ) → (p.session k).id ≡ (m.session k).id
  pub free : (k : ℕ) → free (p.session k) ≡ false → free (m.session k) ≡ false
  pub serial_of : (g : ℕ) → (m.serial_of g ≡ 0 → ⊥) → p.serial_of g ≡ m.serial_of g

-- a start of generation g was formed since m, by a session that wasn't free in m
pub record NewStart (m : Sessions) (p : Sessions) (g : ℕ) : Type 0 where
  pub serial : ℕ
  pub at : p.serial_of g ≡ serial
  pub some : serial ≡ 0 → ⊥
  pub held : free (m.session serial) ≡ false
  pub only : (h : ℕ) → m.serial_of h ≡ serial → h ≡ g

abbrev pub StartsIn : Sessions → Sessions → List TaggedSlot → Type 0
StartsIn m p os = (g : ℕ) → has_start (slots_of g os) ≡ true → NewStart m p g

later_same : (m : Sessions) → Later m m
later_same m = record { id = λ k. refl; free = λ k h. h; serial_of = λ g h. refl }

form_id : (p : Sessions) (k : ℕ) (x : Slot) (j : ℕ) → ((form p k x).session j).id ≡ (p.session j).id
form_id p k x j = go (nat_eq (p.session k).generation 0)
  where
    go : (b : Bool) → ((cond b (first_form p k x) (next_form p k x)).session j).id ≡ (p.session j).id
    go true = upd_field (λ (z : Session). z.id) p.session k (formed_as (p.session k) (suc p.generations) x) refl j
    go false = upd_field (λ (z : Session). z.id) p.session k (formed (p.session k) x) refl j

form_free : (p : Sessions) (k : ℕ) (x : Slot) (j : ℕ) → free ((form p k x).session j) ≡ false → free (p.session j) ≡ false
form_free p k x j = go (nat_eq (p.session k).generation 0)
  where
    at : (n : ℕ) (b : Bool) → nat_eq j k ≡ b → free (cond b (formed_as (p.session k) n x) (p.session j)) ≡ false → free (p.session j) ≡ false
    at n true q h = ap (λ z. free (p.session z)) (eqb-true j k q) ∙ formed_free (p.session k) n x h
    at n false q h = h

    go : (b : Bool) → free ((cond b (first_form p k x) (next_form p k x)).session j) ≡ false → free (p.session j) ≡ false
    go true h = at (suc p.generations) (nat_eq j k) refl h
    go false h = at (p.session k).generation (nat_eq j k) refl h

form_who : (p : Sessions) (k : ℕ) (x : Slot) (g : ℕ) → EndOk p → (p.serial_of g ≡ 0 → ⊥) → (form p k x).serial_of g ≡ p.serial_of g
form_who p k x g ok n = go (nat_eq (p.session k).generation 0)
  where
    go : (b : Bool) → (cond b (first_form p k x) (next_form p k x)).serial_of g ≡ p.serial_of g
    go true = upd_other p.serial_of (suc p.generations) k g (λ q. n (ap p.serial_of q ∙ ok.serial_past (suc p.generations) (le_refl _)))
    go false = refl

form_tag : (p : Sessions) (k : ℕ) (x : Slot) → EndOk p → (form p k x).serial_of (tag p k) ≡ k
form_tag p k x ok = go (nat_eq (p.session k).generation 0) refl
  where
    go : (b : Bool) → nat_eq (p.session k).generation 0 ≡ b → (cond b (first_form p k x) (next_form p k x)).serial_of (cond b (suc p.generations) (p.session k).generation) ≡ k
    go true q = upd_same p.serial_of (suc p.generations) k
    go false q = ok.serial_found k (eqb-false (p.session k).generation 0 q)

later_form : (m p : Sessions) (k : ℕ) (x : Slot) → EndOk p → (n : (g : ℕ) → (m.serial_of g ≡ 0 → ⊥) → p.serial_of g ≡ 0 → ⊥) → Later m p → Later m (form p k x)
later_form m p k x ok n l = record {
  id = λ j. form_id p k x j ∙ l.id j;
  free = λ j h. l.free j (form_free p k x j h);
  serial_of = λ g h. form_who p k x g ok (n g h) ∙ l.serial_of g h;
}

-- a start is formed as the first slot
start_only : (m : Bool) (s : Session) (x : Slot) → MayForm m s x → is_start x ≡ true → starts (s.out ++ x ∷ []) ≡ true
start_only m s x (Starts o a r tu st k so d) i = ap (λ z. starts (z ++ x ∷ [])) o ∙ st
start_only m s x (Rejects o r c j d) i = absurd (both_ways (is_start x) (reject_turns x j) i)
start_only m s x (Follows r o a st b) i = absurd (behind x b.kind i)
  where
    behind : (y : Slot) → is_behind y ≡ true → is_start y ≡ true → ⊥
    behind (Slot.Start to from c size service request) e f = false≢true e
    behind (Slot.DataA to from c bytes) e f = false≢true f
    behind (Slot.DataB to from c setting) e f = false≢true f
    behind (Slot.Attention to from flag) e f = false≢true f
    behind (Slot.Reject to from reason) e f = false≢true e
    behind (Slot.Stop to from reason) e f = false≢true f

has_start-split : (xs ys : List Slot) → has_start (xs ++ ys) ≡ true → (has_start xs ≡ true) ⊎ (has_start ys ≡ true)
has_start-split [] ys e = inr e
has_start-split (x ∷ xs) ys e = go (has_start-split xs ys) (is_start x) refl e
  where
    go : (has_start (xs ++ ys) ≡ true → (has_start xs ≡ true) ⊎ (has_start ys ≡ true)) → (b : Bool) → is_start x ≡ b → (b || has_start (xs ++ ys)) ≡ true → ((is_start x || has_start xs) ≡ true) ⊎ (has_start ys ≡ true)
    go ih true q e = inl (ap (λ z. z || has_start xs) q)
    go ih false q e = ⊎_elim {C = ((is_start x || has_start xs) ≡ true) ⊎ (has_start ys ≡ true)} (λ h. inl (ap (λ z. z || has_start xs) q ∙ h)) (λ h. inr h) (ih e)

starts_form : (m p : Sessions) (k : ℕ) (x : Slot) (os : List TaggedSlot) → EndOk p → MayForm p.master (p.session k) x → Affords p.ceiling (p.session k) x → Later m p → ((g : ℕ) → (m.serial_of g ≡ 0 → ⊥) → p.serial_of g ≡ 0 → ⊥) → StartsIn m p os → StartsIn m (form p k x) (os ++ tagged p k x ∷ [])
starts_form m p k x os ok may af l alive st g h =
    ⊎_elim {C = NewStart m (form p k x) g} old (new (nat_eq (tag p k) g) refl) (has_start-split (slots_of g os) (slots_of g (tagged p k x ∷ [])) (sym (ap has_start (slots_of-append g os (tagged p k x ∷ []))) ∙ h))
  where
    v : FormedBy p k x (form p k x) (tag p k)
    v = form_formed p k x ok may af

    old : has_start (slots_of g os) ≡ true → NewStart m (form p k x) g
    old i =
        let o : NewStart m p g = st g i in
        record { serial = o.serial; at = form_who p k x g ok (λ q. o.some (sym o.at ∙ q)) ∙ o.at; some = o.some; held = o.held; only = o.only }

    slave_gen : p.master ≡ false → (p.session k).generation ≡ 0 → ⊥
    slave_gen e = ok.all_named e k (pos k (former_some p k x ok may)) (former_made p k x ok may)
      where
        pos : (n : ℕ) → (n ≡ 0 → ⊥) → 0 < n
        pos zero h = absurd (h refl)
        pos (suc n) h = omega arith

    fresh : is_start x ≡ true → tag p k ≡ g → NewStart m (form p k x) g
    fresh i q = record {
      serial = k;
      at = ap (form p k x).serial_of (sym q) ∙ form_tag p k x ok;
      some = former_some p k x ok may;
      held = l.free k (may_free p.master (p.session k) x (ok.each k) slave_gen may (start_only p.master (p.session k) x may i));
      only = λ j w. v.serial_of j (l.serial_of j (λ z. former_some p k x ok may (sym w ∙ z)) ∙ w) ∙ q;
    }

    or_false : (c : Bool) → (c || false) ≡ true → c ≡ true
    or_false true e = refl
    or_false false e = e

    new : (b : Bool) → nat_eq (tag p k) g ≡ b → has_start (cond b (x ∷ []) []) ≡ true → NewStart m (form p k x) g
    new true q i = fresh (or_false (is_start x) i) (eqb-true (tag p k) g q)
    new false q i = absurd (false≢true i)

-- a slot behind a start is of a session that heard a start
behind_starts : (m : Bool) (s : Session) (x : Slot) → MayForm m s x → is_behind x ≡ true → Slots.starts s.came ≡ true
behind_starts m s x (Starts o a r tu st k so d) e = absurd (starts_not x st e)
  where
    starts_not : (y : Slot) → is_start y ≡ true → is_behind y ≡ true → ⊥
    starts_not (Slot.Start to from c size service request) e f = false≢true f
    starts_not (Slot.DataA to from c bytes) e f = false≢true e
    starts_not (Slot.DataB to from c setting) e f = false≢true e
    starts_not (Slot.Attention to from flag) e f = false≢true e
    starts_not (Slot.Reject to from reason) e f = false≢true e
    starts_not (Slot.Stop to from reason) e f = false≢true e
behind_starts m s x (Rejects o r c j d) e = absurd (rejects_not x j e)
  where
    rejects_not : (y : Slot) → is_reject y ≡ true → is_behind y ≡ true → ⊥
    rejects_not (Slot.Start to from c size service request) e f = false≢true e
    rejects_not (Slot.DataA to from c bytes) e f = false≢true e
    rejects_not (Slot.DataB to from c setting) e f = false≢true e
    rejects_not (Slot.Attention to from flag) e f = false≢true e
    rejects_not (Slot.Reject to from reason) e f = false≢true f
    rejects_not (Slot.Stop to from reason) e f = false≢true e
behind_starts m s x (Follows r o a st b) e = (and_parts s.accepted (Slots.starts s.came) a).1

behinds_form : (p : Sessions) (k : ℕ) (x : Slot) (os : List TaggedSlot) → EndOk p → Quiet p → MayForm p.master (p.session k) x → Affords p.ceiling (p.session k) x → Each (λ o. is_behind o.slot ≡ true → Slots.starts (of_generation p o.generation).came ≡ true) os → Each (λ o. is_behind o.slot ≡ true → Slots.starts (of_generation (form p k x) o.generation).came ≡ true) (os ++ tagged p k x ∷ [])
behinds_form p k x os ok quiet may af e =
    let v : FormedBy p k x (form p k x) (tag p k) = form_formed p k x ok may af in
    each_append (λ o. is_behind o.slot ≡ true → Slots.starts (of_generation (form p k x) o.generation).came ≡ true) os (tagged p k x ∷ [])
    (each_imp (λ o. is_behind o.slot ≡ true → Slots.starts (of_generation p o.generation).came ≡ true) (λ o. is_behind o.slot ≡ true → Slots.starts (of_generation (form p k x) o.generation).came ≡ true) (λ o h i. ap Slots.starts (v.came quiet o.generation) ∙ h i) os e)
    (λ i. ap (λ (z : Session). Slots.starts z.came) v.new ∙ behind_starts p.master (p.session k) x may i, tt)

-- a whole packing

pub record News (m : Sessions) (p : Packing) : Type 0 where
  pub later : Later m p.after
  pub starts : StartsIn m p.after p.slots
  pub behinds : Each (λ o. is_behind o.slot ≡ true → Slots.starts (of_generation p.after o.generation).came ≡ true) p.slots

alive : (m p : Sessions) → Later m p → (g : ℕ) → (m.serial_of g ≡ 0 → ⊥) → p.serial_of g ≡ 0 → ⊥
alive m p l g n q = n (sym (l.serial_of g n) ∙ q)

turn_news : (m : Sessions) (p : Packing) (k : ℕ) → EndOk p.after → Quiet p.after → (p.after.master ≡ false → (p.after.session k).accepted ≡ true → (p.after.session k).generation ≡ 0 → ⊥) → News m p → News m (turn p k)
turn_news m p k ok quiet acc n = go p.going (offer p.after.master p.after.ceiling p.room (p.after.session k)) refl
  where
    go : (b : Bool) (o : Offer) → offer p.after.master p.after.ceiling p.room (p.after.session k) ≡ o → News m (cond b (turn_by p k o) p)
    go true Nothing e = n
    go true Unfit e = record { later = n.later; starts = n.starts; behinds = n.behinds }
    go true (Offers x) e =
        let f : Fine p.after.master p.after.ceiling (p.after.session k) x = offer_fine p.after.master p.after.ceiling p.room (p.after.session k) x (ok.each k) (ok.accounts k) acc e in
        record {
          later = later_form m p.after k x ok (alive m p.after n.later) n.later;
          starts = starts_form m p.after k x p.slots ok f.may f.affords n.later (alive m p.after n.later) n.starts;
          behinds = behinds_form p.after k x p.slots ok quiet f.may f.affords n.behinds;
        }
    go false o e = n

turns_news_up : (m s : Sessions) (up down : List TaggedSlot) (ks : List ℕ) (p : Packing) → Joined p.after s (up ++ p.slots) down → News m p → News m (turn_all ks p)
turns_news_up m s up down [] p j n = n
turns_news_up m s up down (k ∷ ks) p j n = turns_news_up m s up down ks (turn p k) (turn_up s up down p k j) (turn_news m p k j.master_ok j.quiet_up (λ q. absurd (true≢false (sym j.master ∙ q))) n)

turns_news_down : (m s : Sessions) (up down : List TaggedSlot) (ks : List ℕ) (p : Packing) → Joined m p.after up (down ++ p.slots) → News s p → News s (turn_all ks p)
turns_news_down m s up down [] p j n = n
turns_news_down m s up down (k ∷ ks) p j n = turns_news_down m s up down ks (turn p k) (turn_down m up down p k j) (turn_news s p k j.slave_ok j.quiet_down (accepted_named p.after k j.slave_ok) n)

start_news : (m : Sessions) (room : ℕ) → News m (record { after = m; slots = []; room = room; left = 255; going = true })
start_news m room = record { later = later_same m; starts = λ g h. absurd (false≢true h); behinds = tt }

pub news_up : (m s : Sessions) (up down : List TaggedSlot) (room : ℕ) → Joined m s up down → News m (pack room m)
news_up m s up down room j = turns_news_up m s up down (turns m) (record { after = m; slots = []; room = room; left = 255; going = true }) (subst (λ z. Joined m s z down) (sym (append-nil up)) j) (start_news m room)

pub news_down : (m s : Sessions) (up down : List TaggedSlot) (room : ℕ) → Joined m s up down → News s (pack room s)
news_down m s up down room j = turns_news_down m s up down (turns s) (record { after = s; slots = []; room = room; left = 255; going = true }) (subst (λ z. Joined m s up z) (sym (append-nil down)) j) (start_news s room)
