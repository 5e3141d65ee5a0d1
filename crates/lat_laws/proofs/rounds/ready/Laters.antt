-- What each step of an end keeps of its sessions.
use Rattle.std.proofs.Common.{◌≡◌, ◌≢◌, ℕ, zero, suc, ◌+◌, ◌<◌, ◌≤◌, ◌⊎◌, inl, inr, ⊎_elim, sym, ap, ◌∙◌, refl, subst, arith, Bool, true, false, not, cond, ◌&&◌, ◌||◌, List, [], ◌∷◌, ◌++◌, map, length, take, Option, Some, None, nat_eq, nat_lt, nat_le, eqb-true, leb-false}
use Rattle.std.proofs.lemmas.Bool.{and_parts, or_parts, true≢false, false≢true, not-true, eqb-false}
use Rattle.lat_model.specs.sessions.Slots.{Item, Byte, Setting, Slot, Start, DataA, DataB, Attention, Reject, Stop, destination, source, is_start, is_stop, cost_of, credits_of, costs, credits, has_stop, starts, turned, items}
use Rattle.lat_model.specs.sessions.Session.{Session, free, stopped, gone, answered, waits, runs, peer, put_open, take_open, unframed}
use Rattle.lat_model.specs.sessions.Sessions.{Sessions, named, held, least_free}
use Rattle.lat_model.specs.sessions.Calls.{Call, Connect, Put, Set, Attend, Take, Close, Answer, RejectAsk, call, connect, new_call, touch, put_items, put_count, take_count}
use Rattle.lat_model.specs.sessions.Hearing.{HeardAll, names, names_running, is_full, heard, hear_at, behind_fits, asked_session, ask_in, hear_slot, hear_all}
use Rattle.lat_model.specs.sessions.Packing.{Packing, turn_by, turn, turn_all, turns, pack, form, first_form, next_form}
use Rattle.lat_model.specs.sessions.Offers.{Offer, Nothing, Unfit, Offers, offer}
use Rattle.lat_model.specs.Lists.{updated, any_up_to, is_empty}
use Rattle.lat_model.specs.numbers.Link.{Frame, ack_in, is_next, take_message, window_open}
use Rattle.lat_model.specs.ends.End.{ReplyStart, End, Step, still, lives, finish, send_bare, send_message, acknowledge, form_packed, occasion}
use Rattle.lat_model.specs.ends.Timers.{living, time_step}
use Rattle.lat_model.specs.ends.Run.{RunBroke, RunRepeated, RunTaken, RunStep, ack_end, take_end, body_end, after_run, run_end}
use Rattle.lat_model.specs.ends.Starting.{Agreed, again_start, hear_reply, hear_stop, reply_end}
use Rattle.lat_model.proofs.sessions.Words.{upd_same, upd_other, upd_field}
use Rattle.lat_model.proofs.sessions.Forms.{formed_as, formed_free}
use Rattle.lat_model.proofs.sessions.Starts.{free_goes}
use Rattle.lat_model.proofs.sessions.Made.{least_is_free, least_some}
use Rattle.lat_machines.proofs.queue.Rooms.{least_in}
use Rattle.lat_laws.specs.rounds.Seated.{Found, SessionsLater}
use Rattle.lat_laws.proofs.rounds.plain.Steps.{time_packs}

pub later_same : (e : Sessions) → SessionsLater e e
later_same e = record { made = omega arith; ids = λ k l. refl; frees = λ k l h. h; accepts = λ k h. h; keeps = λ k l h. h; master = refl; ceiling = refl; alone = λ m. omega arith; found = λ h. h }

pub later_then : (x y z : Sessions) → SessionsLater x y → SessionsLater y z → SessionsLater x z
later_then x y z p q = record {
  made = omega (arith, p.made, q.made);
  ids = λ k l. q.ids k (omega (arith, l, p.made)) ∙ p.ids k l;
  frees = λ k l h. p.frees k l (q.frees k (omega (arith, l, p.made)) h);
  accepts = λ k h. p.accepts k (q.accepts k h);
  keeps = λ k l h. q.keeps k (omega (arith, l, p.made)) (p.keeps k l h);
  master = q.master ∙ p.master;
  ceiling = q.ceiling ∙ p.ceiling;
  alone = λ m. omega (arith, p.alone m, q.alone (p.master ∙ m));
  found = λ h. q.found (p.found h);
}

free_up : (s t : Session) → (free t ≡ false → free s ≡ false) → free s ≡ true → free t ≡ true
free_up s t h q = go (free t) refl
  where
    go : (b : Bool) → free t ≡ b → free t ≡ true
    go true r = r
    go false r = absurd (true≢false (sym q ∙ h r))

-- one session in the place of another
pub put_later : (e f : Sessions) (k : ℕ) (s : Session) → f.session ≡ updated e.session k s → f.at_id ≡ e.at_id → f.made ≡ e.made → f.master ≡ e.master → f.ceiling ≡ e.ceiling → f.agreed ≡ e.agreed → s.id ≡ (e.session k).id → s.accepted ≡ (e.session k).accepted → (free s ≡ false → free (e.session k) ≡ false) → (starts (e.session k).came ≡ true → starts s.came ≡ true) → SessionsLater e f
put_later e f k s fs fa fm fb fc fg i a h st = record {
  made = omega (arith, fm);
  ids = λ j l. id_at j;
  frees = λ j l q. free_at j q;
  accepts = λ j q. sym (acc_at j) ∙ q;
  keeps = λ j l q. acc_at j ∙ q;
  master = fb;
  ceiling = fc;
  alone = λ m. omega (arith, fm);
  found = λ g. record {
    made = λ j. (let q : f.at_id j ≡ e.at_id j = ap (λ z. z j) fa in omega (arith, q, fm, g.made j));
    named = λ j n. id_at (f.at_id j) ∙ (ap (λ z. (e.session (z j)).id) fa ∙ g.named j (λ z. n (ap (λ y. y j) fa ∙ z)));
    none = free_up (e.session 0) (f.session 0) (free_at 0) g.none;
    held = λ j q. (let m : j ≤ e.made = g.held j (sym (acc_at j) ∙ q) in omega (arith, m, fm));
    asked = λ m j n l. starts_at j (g.asked (sym fb ∙ m) j n (omega (arith, l, fm)));
    agreed = omega (arith, fg, g.agreed);
    holds = λ j q. ap (λ z. z (f.session j).id) fa ∙ (ap e.at_id (id_at j) ∙ g.holds j (free_at j q));
    within = λ j q. ap (λ z. z j) fa ∙ g.within j q;
  };
}
  where
    at : (j : ℕ) → f.session j ≡ updated e.session k s j
    at j = ap (λ z. z j) fs

    id_at : (j : ℕ) → (f.session j).id ≡ (e.session j).id
    id_at j = ap (λ (z : Session). z.id) (at j) ∙ upd_field (λ (z : Session). z.id) e.session k s i j

    acc_at : (j : ℕ) → (f.session j).accepted ≡ (e.session j).accepted
    acc_at j = ap (λ (z : Session). z.accepted) (at j) ∙ upd_field (λ (z : Session). z.accepted) e.session k s a j

    starts_at : (j : ℕ) → starts (e.session j).came ≡ true → starts (f.session j).came ≡ true
    starts_at j q = ap (λ (z : Session). starts z.came) (at j) ∙ go (nat_eq j k) refl q
      where
        go : (b : Bool) → nat_eq j k ≡ b → starts (e.session j).came ≡ true → starts (cond b s (e.session j)).came ≡ true
        go true n r = st (ap (λ z. starts (e.session z).came) (sym (eqb-true j k n)) ∙ r)
        go false n r = r

    free_at : (j : ℕ) → free (f.session j) ≡ false → free (e.session j) ≡ false
    free_at j q = go (nat_eq j k) refl (sym (ap free (at j)) ∙ q)
      where
        go : (b : Bool) → nat_eq j k ≡ b → free (cond b s (e.session j)) ≡ false → free (e.session j) ≡ false
        go true n r = ap (λ z. free (e.session z)) (eqb-true j k n) ∙ h r
        go false n r = r

touch_later : (e : Sessions) (k : ℕ) (s : Session) → s.id ≡ (e.session k).id → s.accepted ≡ (e.session k).accepted → free (e.session k) ≡ false → (starts (e.session k).came ≡ true → starts s.came ≡ true) → SessionsLater e (touch e k s)
touch_later e k s i a h st = put_later e (touch e k s) k s refl refl refl refl refl refl i a (λ q. h) st

cond_later : (b : Bool) (x e : Sessions) → (b ≡ true → SessionsLater e x) → SessionsLater e (cond b x e)
cond_later true x e h = h refl
cond_later false x e h = later_same e

pub open_goes : (s : Session) → put_open s ≡ true → free s ≡ false
open_goes s h = free_goes s (not-true (gone s) (and_parts s.accepted (not (gone s)) (and_parts (s.accepted && not (gone s)) (not s.closed) (and_parts (s.accepted && not (gone s) && not s.closed) (not (has_stop s.came)) h).0).0).1)

pub takes_goes : (s : Session) → take_open s ≡ true → free s ≡ false
takes_goes s h = not-true (free s) (and_parts s.accepted (not (free s)) (and_parts (s.accepted && not (free s)) (not s.closed) h).0).1

pub waits_goes : (s : Session) → waits s ≡ true → free s ≡ false
waits_goes s h = free_goes s (not-true (gone s) (and_parts (not (answered s)) (not (gone s)) h).1)

-- a call that accepts nothing
abbrev pub accepts_none : Call → Bool
accepts_none (Connect service request) = false
accepts_none (Answer id) = false
accepts_none _ = true

pub call_later : (e : Sessions) (c : Call) → accepts_none c ≡ true → SessionsLater e (call e c)
call_later e (Connect service request) h = absurd (false≢true h)
call_later e (Answer id) h = absurd (false≢true h)
call_later e (Put id bs) h = let xs : List Item = map Byte (take (put_count (named e id) (length bs)) bs) in
    cond_later (put_open (named e id)) (touch e (e.at_id id) (put_items (named e id) xs)) e (λ q. touch_later e (e.at_id id) (put_items (named e id) xs) refl refl (open_goes (named e id) q) (λ z. z))
call_later e (Set id t) h = cond_later (put_open (named e id) && nat_lt (length (unframed (named e id))) 4096) (touch e (e.at_id id) (put_items (named e id) (Setting t ∷ []))) e (λ q. touch_later e (e.at_id id) (put_items (named e id) (Setting t ∷ [])) refl refl (open_goes (named e id) (and_parts (put_open (named e id)) (nat_lt (length (unframed (named e id))) 4096) q).0) (λ z. z))
call_later e (Attend id flag) h = let s : Session = record (named e id) { attention = Some flag } in
    cond_later (put_open (named e id)) (touch e (e.at_id id) s) e (λ q. touch_later e (e.at_id id) s refl refl (open_goes (named e id) q) (λ z. z))
call_later e (Take id n) h = let s : Session = record (named e id) { taken = (named e id).taken + take_count (named e id) n } in
    cond_later (take_open (named e id)) (touch e (e.at_id id) s) e (λ q. touch_later e (e.at_id id) s refl refl (takes_goes (named e id) q) (λ z. z))
call_later e (Close id) h = let s : Session = record (named e id) { closed = true } in
    cond_later (take_open (named e id)) (touch e (e.at_id id) s) e (λ q. touch_later e (e.at_id id) s refl refl (takes_goes (named e id) q) (λ z. z))
call_later e (RejectAsk id reason) h = let s : Session = record (named e id) { rejects = true; reason = reason } in
    cond_later (not e.master && waits (named e id)) (touch e (e.at_id id) s) e (λ q. touch_later e (e.at_id id) s refl refl (waits_goes (named e id) (and_parts (not e.master) (waits (named e id)) q).1) (λ z. z))

-- one session more

-- the ids of the sessions after one more
pub record NewId (e : Sessions) (f : Sessions) (s : Session) : Type 0 where
  pub agreed : f.agreed ≡ e.agreed
  pub old : (k : ℕ) → free (e.session k) ≡ false → f.at_id (e.session k).id ≡ e.at_id (e.session k).id
  pub new : free s ≡ false → f.at_id s.id ≡ suc e.made
  pub within : (i : ℕ) → (i ≡ 0) ⊎ (64 < i) → f.at_id i ≡ e.at_id i

pub more_found : (e f : Sessions) (s : Session) → Found e → f.session ≡ updated e.session (suc e.made) s → f.made ≡ suc e.made → f.master ≡ e.master → (e.master ≡ false → starts s.came ≡ true) → NewId e f s → ((i : ℕ) → (f.at_id i ≡ e.at_id i) ⊎ ((f.at_id i ≡ suc e.made) × (s.id ≡ i))) → Found f
more_found e f s g fs fm fb st ni fa = record {
  made = λ i. ⊎_elim {C = f.at_id i ≤ f.made} (λ q. omega (arith, q, fm, g.made i)) (λ q. omega (arith, q.0, fm)) (fa i);
  named = λ i n. ⊎_elim {C = (f.session (f.at_id i)).id ≡ i} (λ q. ap (λ z. (f.session z).id) q ∙ (ap (λ (z : Session). z.id) (old (e.at_id i) (g.made i)) ∙ g.named i (λ z. n (q ∙ z)))) (λ q. ap (λ z. (f.session z).id) q.0 ∙ (ap (λ (z : Session). z.id) new ∙ q.1)) (fa i);
  none = ap free (old 0 (omega arith)) ∙ g.none;
  held = λ k q. go k (nat_eq k (suc e.made)) refl q;
  asked = λ m k n l. asked k (nat_eq k (suc e.made)) refl (sym fb ∙ m) n l;
  agreed = omega (arith, ni.agreed, g.agreed);
  holds = λ k q. holds k (nat_eq k (suc e.made)) refl q;
  within = λ i q. ni.within i q ∙ g.within i q;
}
  where
    old : (k : ℕ) → k ≤ e.made → f.session k ≡ e.session k
    old k l = ap (λ z. z k) fs ∙ upd_other e.session (suc e.made) s k (λ q. absurd (omega (arith, q, l)))

    new : f.session (suc e.made) ≡ s
    new = ap (λ z. z (suc e.made)) fs ∙ upd_same e.session (suc e.made) s

    go : (k : ℕ) (b : Bool) → nat_eq k (suc e.made) ≡ b → (f.session k).accepted ≡ true → k ≤ f.made
    go k true q h = let n : k ≡ suc e.made = eqb-true k (suc e.made) q in omega (arith, n, fm)
    go k false q h =
        let o : f.session k ≡ e.session k = ap (λ z. z k) fs ∙ ap (λ b. cond b s (e.session k)) q in
        let m : k ≤ e.made = g.held k (sym (ap (λ (z : Session). z.accepted) o) ∙ h) in
        omega (arith, m, fm)

    holds : (k : ℕ) (b : Bool) → nat_eq k (suc e.made) ≡ b → free (f.session k) ≡ false → f.at_id (f.session k).id ≡ k
    holds k true q h =
        let n : k ≡ suc e.made = eqb-true k (suc e.made) q in
        let o : f.session k ≡ s = ap f.session n ∙ new in
        ap (λ (z : Session). f.at_id z.id) o ∙ (ni.new (sym (ap free o) ∙ h) ∙ sym n)
    holds k false q h =
        let o : f.session k ≡ e.session k = ap (λ z. z k) fs ∙ ap (λ b. cond b s (e.session k)) q in
        let fr : free (e.session k) ≡ false = sym (ap free o) ∙ h in
        ap (λ (z : Session). f.at_id z.id) o ∙ (ni.old k fr ∙ g.holds k fr)

    asked : (k : ℕ) (b : Bool) → nat_eq k (suc e.made) ≡ b → e.master ≡ false → k ≢ 0 → k ≤ f.made → starts (f.session k).came ≡ true
    asked k true q m n l = ap (λ z. starts (z k).came) fs ∙ (ap (λ b. starts (cond b s (e.session k)).came) q ∙ st m)
    asked k false q m n l =
        let o : f.session k ≡ e.session k = ap (λ z. z k) fs ∙ ap (λ b. cond b s (e.session k)) q in
        let r : k ≢ suc e.made = eqb-false k (suc e.made) q in
        ap (λ (z : Session). starts z.came) o ∙ g.asked m k n (omega (arith, l, fm, r))

-- under the least free id
pub least_new : (e : Sessions) (service : List ℕ) (request : Option ℕ) → Found e → held e < e.agreed → NewId e (connect e service request) (new_call e service request)
least_new e service request g l = record {
  agreed = refl;
  old = λ k h. upd_other e.at_id i (suc e.made) (e.session k).id (λ q. true≢false (sym is_free ∙ (ap free (ap e.session (ap e.at_id (sym q) ∙ g.holds k h)) ∙ h)));
  new = λ h. upd_same e.at_id i (suc e.made);
  within = λ j h. upd_other e.at_id i (suc e.made) j (λ q. ⊎_elim {C = ⊥} (λ z. some (sym q ∙ z)) (λ z. absurd (omega (arith, z, q, least_in (λ y. free (named e y)) 0 64))) h);
}
  where
    i : ℕ
    i = least_free e

    is_free : free (named e i) ≡ true
    is_free = least_is_free e l g.agreed

    some : i ≡ 0 → ⊥
    some = least_some e l g.agreed

-- hearing

hear_at_later : (e : Sessions) (k : ℕ) (x : Slot) → free (e.session k) ≡ false → SessionsLater e (hear_at e k x)
hear_at_later e k x h = touch_later e k (heard (e.session k) x) refl refl h (more (e.session k).came)
  where
    more : (xs : List Slot) → starts xs ≡ true → starts (xs ++ x ∷ []) ≡ true
    more [] q = absurd (false≢true q)
    more (y ∷ ys) q = q

ask_later : (e : Sessions) (x : Slot) (service : List ℕ) (request : Option ℕ) → e.master ≡ false → is_start x ≡ true → SessionsLater e (ask_in e x service request)
ask_later e x service request sl st = record {
  made = omega arith;
  ids = λ k l. ap (λ (z : Session). z.id) (old k l);
  frees = λ k l h. sym (ap free (old k l)) ∙ h;
  accepts = λ k h. go k (nat_eq k (suc e.made)) h;
  keeps = λ k l h. ap (λ (z : Session). z.accepted) (old k l) ∙ h;
  master = refl;
  ceiling = refl;
  alone = λ m. absurd (true≢false (sym m ∙ sl));
  found = λ g. more_found e f s g refl refl refl (λ m. st) (new_id g (is_full e) refl) (λ i. at i (is_full e) (nat_eq i (least_free e)) refl refl);
}
  where
    s : Session
    s = asked_session e x service request

    f : Sessions
    f = ask_in e x service request

    old : (k : ℕ) → k ≤ e.made → f.session k ≡ e.session k
    old k l = upd_other e.session (suc e.made) s k (λ q. absurd (omega (arith, q, l)))

    new_id : Found e → (b : Bool) → is_full e ≡ b → NewId e f s
    new_id g true q = record {
      agreed = refl;
      old = λ k h. ap (λ z. (cond z e.at_id (updated e.at_id (least_free e) (suc e.made))) (e.session k).id) q;
      new = λ h. absurd (true≢false (sym (ap (λ z. (z || turned (x ∷ [])) || (stopped s && (s.closed || nat_le (length (items s.came)) s.taken))) q) ∙ h));
      within = λ i h. ap (λ z. (cond z e.at_id (updated e.at_id (least_free e) (suc e.made))) i) q;
    }
    new_id g false q =
        let h : NewId e (connect e service request) (new_call e service request) = least_new e service request g (leb-false e.agreed (held e) q) in
        let ids : (i : ℕ) → f.at_id i ≡ updated e.at_id (least_free e) (suc e.made) i = λ i. ap (λ z. (cond z e.at_id (updated e.at_id (least_free e) (suc e.made))) i) q in
        record {
          agreed = refl;
          old = λ k r. ids (e.session k).id ∙ h.old k r;
          new = λ r. ap f.at_id (ap (λ z. cond z 0 (least_free e)) q) ∙ (ids (least_free e) ∙ h.new refl);
          within = λ i r. ids i ∙ h.within i r;
        }

    go : (k : ℕ) (b : Bool) → (cond b s (e.session k)).accepted ≡ true → (e.session k).accepted ≡ true
    go k true h = absurd (false≢true h)
    go k false h = h

    at : (i : ℕ) (b c : Bool) → is_full e ≡ b → nat_eq i (least_free e) ≡ c → (f.at_id i ≡ e.at_id i) ⊎ ((f.at_id i ≡ suc e.made) × (s.id ≡ i))
    at i true c q r = inl (ap (λ z. (cond z e.at_id (updated e.at_id (least_free e) (suc e.made))) i) q)
    at i false true q r = inr (ap (λ z. (cond z e.at_id (updated e.at_id (least_free e) (suc e.made))) i) q ∙ ap (λ z. cond z (suc e.made) (e.at_id i)) r, ap (λ z. cond z 0 (least_free e)) q ∙ sym (eqb-true i (least_free e) r))
    at i false false q r = inl (ap (λ z. (cond z e.at_id (updated e.at_id (least_free e) (suc e.made))) i) q ∙ ap (λ z. cond z (suc e.made) (e.at_id i)) r)

-- a slot that is heard
pub data SlotLater (e : Sessions) (o : Option Sessions) : Type 0 where
  Unheard : o ≡ None → SlotLater e o
  HeardAs : (f : Sessions) → o ≡ Some f → SessionsLater e f → SlotLater e o

some_later : (b : Bool) (e f : Sessions) → (b ≡ true → SessionsLater e f) → SlotLater e (cond b (Some f) None)
some_later true e f h = HeardAs f refl (h refl)
some_later false e f h = Unheard refl

none_later : (b : Bool) (e f : Sessions) → (b ≡ false → SessionsLater e f) → SlotLater e (cond b None (Some f))
none_later true e f h = Unheard refl
none_later false e f h = HeardAs f refl (h refl)

behind_goes : (s : Session) (x : Slot) → behind_fits s x ≡ true → free s ≡ false
behind_goes s x q =
    let p : ((runs s && not (has_stop s.came) && (nat_eq (source x) (peer s) || (is_stop x && nat_eq (source x) 0)) && nat_le (costs s.came + cost_of x) (credits s.out)) ≡ true) × _ = and_parts (runs s && not (has_stop s.came) && (nat_eq (source x) (peer s) || (is_stop x && nat_eq (source x) 0)) && nat_le (costs s.came + cost_of x) (credits s.out)) (nat_le (credits s.came + credits_of x) (costs s.out + 255)) q in
    let c : ((runs s && not (has_stop s.came) && (nat_eq (source x) (peer s) || (is_stop x && nat_eq (source x) 0))) ≡ true) × (nat_le (costs s.came + cost_of x) (credits s.out) ≡ true) = and_parts (runs s && not (has_stop s.came) && (nat_eq (source x) (peer s) || (is_stop x && nat_eq (source x) 0))) (nat_le (costs s.came + cost_of x) (credits s.out)) p.0 in
    let r : ((runs s && not (has_stop s.came)) ≡ true) × _ = and_parts (runs s && not (has_stop s.came)) (nat_eq (source x) (peer s) || (is_stop x && nat_eq (source x) 0)) c.0 in
    let u : (runs s ≡ true) × _ = and_parts (runs s) (not (has_stop s.came)) r.0 in
    free_goes s (not-true (gone s) (and_parts (answered s) (not (gone s)) u.0).1)

behind_later : (e : Sessions) (x : Slot) → SlotLater e (cond (behind_fits (named e (destination x)) x) (Some (hear_at e (e.at_id (destination x)) x)) None)
behind_later e x = some_later (behind_fits (named e (destination x)) x) e (hear_at e (e.at_id (destination x)) x) (λ q. hear_at_later e (e.at_id (destination x)) x (behind_goes (named e (destination x)) x q))

slot_later : (e : Sessions) (x : Slot) → SlotLater e (hear_slot e x)
slot_later e (Start zero from c size service request) = none_later (e.master || any_up_to (λ k. names from (e.session k)) e.made) e (ask_in e (Start 0 from c size service request) service request) (λ q. ask_later e (Start 0 from c size service request) service request (or_parts e.master (any_up_to (λ k. names from (e.session k)) e.made) q).0 refl)
slot_later e (Start (suc to) from c size service request) =
    let x : Slot = Start (suc to) from c size service request in
    let any : Bool = any_up_to (λ k. names_running from (e.session k)) e.made in
    some_later (e.master && waits (named e (suc to)) && not any) e (hear_at e (e.at_id (suc to)) x)
    (λ q. hear_at_later e (e.at_id (suc to)) x (waits_goes (named e (suc to)) (and_parts e.master (waits (named e (suc to))) (and_parts (e.master && waits (named e (suc to))) (not any) q).0).1))
slot_later e (Reject to from reason) = some_later (e.master && waits (named e to)) e (hear_at e (e.at_id to) (Reject to from reason)) (λ q. hear_at_later e (e.at_id to) (Reject to from reason) (waits_goes (named e to) (and_parts e.master (waits (named e to)) q).1))
slot_later e (DataA to from c bytes) = behind_later e (DataA to from c bytes)
slot_later e (DataB to from c setting) = behind_later e (DataB to from c setting)
slot_later e (Attention to from flag) = behind_later e (Attention to from flag)
slot_later e (Stop to from reason) = behind_later e (Stop to from reason)

pub hear_later : (xs : List Slot) (e : Sessions) → SessionsLater e (hear_all xs e).after
hear_later [] e = later_same e
hear_later (x ∷ xs) e = go (hear_slot e x) (slot_later e x) (λ f. hear_later xs f)
  where
    told : Option Sessions → HeardAll
    told o = elim o [ None ↦ record { after = e; good = false } | Some f ↦ hear_all xs f ]

    go : (o : Option Sessions) → SlotLater e o → ((f : Sessions) → SessionsLater f (hear_all xs f).after) → SessionsLater e (told o).after
    go o (Unheard q) h = subst (λ z. SessionsLater e (told z).after) (sym q) (later_same e)
    go o (HeardAs f q l) h = subst (λ z. SessionsLater e (told z).after) (sym q) (later_then e f (hear_all xs f).after l (h f))

-- forming

form_later : (e : Sessions) (k : ℕ) (x : Slot) → SessionsLater e (form e k x)
form_later e k x = go (nat_eq (e.session k).generation 0)
  where
    go : (b : Bool) → SessionsLater e (cond b (first_form e k x) (next_form e k x))
    go true = put_later e (first_form e k x) k (formed_as (e.session k) (suc e.generations) x) refl refl refl refl refl refl refl refl (formed_free (e.session k) (suc e.generations) x) (λ z. z)
    go false = put_later e (next_form e k x) k (formed_as (e.session k) (e.session k).generation x) refl refl refl refl refl refl refl refl (formed_free (e.session k) (e.session k).generation x) (λ z. z)

turn_later : (p : Packing) (k : ℕ) → SessionsLater p.after (turn p k).after
turn_later p k = go p.going (offer p.after.master p.after.ceiling p.room (p.after.session k))
  where
    go : (b : Bool) (o : Offer) → SessionsLater p.after (cond b (turn_by p k o) p).after
    go true Nothing = later_same p.after
    go true Unfit = later_same p.after
    go true (Offers x) = form_later p.after k x
    go false o = later_same p.after

turns_later : (ks : List ℕ) (p : Packing) → SessionsLater p.after (turn_all ks p).after
turns_later [] p = later_same p.after
turns_later (k ∷ ks) p = later_then p.after (turn p k).after (turn_all ks (turn p k)).after (turn_later p k) (turns_later ks (turn p k))

pub pack_later : (room : ℕ) (e : Sessions) → SessionsLater e (pack room e).after
pack_later room e = turns_later (turns e) (record { after = e; slots = []; room = room; left = 255; going = true })

-- the events of an end

pub time_later : (now : ℕ) (e : End) → SessionsLater e.half.sessions (time_step now e).end.half.sessions
time_later now e = ⊎_elim {C = SessionsLater e.half.sessions (time_step now e).end.half.sessions}
    (λ q. subst (λ z. SessionsLater e.half.sessions z) (sym q) (later_same e.half.sessions))
    (λ q. subst (λ z. SessionsLater e.half.sessions z) (sym q) (pack_later e.room e.half.sessions)) (time_packs now e)

abbrev LaterEnd : End → End → Type 0
LaterEnd e f = SessionsLater e.half.sessions f.half.sessions

step_cond : (e : End) (c : Bool) (s t : Step) → LaterEnd e s.end → LaterEnd e t.end → LaterEnd e (cond c s t).end
step_cond e true s t p q = p
step_cond e false s t p q = q

run_cond : (e : End) (c : Bool) (s t : RunStep) → LaterEnd e s.step.end → LaterEnd e t.step.end → LaterEnd e (cond c s t).step.end
run_cond e true s t p q = p
run_cond e false s t p q = q

settle_later : (e : End) → LaterEnd e (acknowledge e).end
settle_later e = step_cond e e.owed (send_bare false e) (still e) (later_same e.half.sessions) (later_same e.half.sessions)

occasion_later : (e : End) → LaterEnd e (occasion e).end
occasion_later e =
    step_cond e (window_open e.window e.half.link) (form_packed (pack e.room e.half.sessions) e) (acknowledge e)
    (step_cond e (is_empty (pack e.room e.half.sessions).slots) (acknowledge e) (send_message (pack e.room e.half.sessions) e) (settle_later e) (pack_later e.room e.half.sessions))
    (settle_later e)

ack_later : (a : ℕ) (e : End) → LaterEnd e (ack_end a e)
ack_later a e = go (nat_lt e.half.link.known a)
  where
    go : (c : Bool) → LaterEnd e (cond c (record e { half = record (e.half) { link = ack_in e.half.link a }; rounds = 0; since = e.moment }) (record e { half = record (e.half) { link = ack_in e.half.link a } }))
    go true = later_same e.half.sessions
    go false = later_same e.half.sessions

body_later : (n : ℕ) (a : Bool) (o : Option (List Slot)) (e : End) → LaterEnd e (body_end n a o e).step.end
body_later n a None e = later_same e.half.sessions
body_later n a (Some []) e = later_same e.half.sessions
body_later n a (Some (x ∷ xs)) e =
    let m : List Slot = x ∷ xs in
    let taken : RunStep = record { step = still (record e { half = record { link = take_message e.half.link m; sessions = (hear_all m e.half.sessions).after }; owed = true }); answer = RunTaken (length m) } in
    let bad : RunStep = record { step = finish 2 (record e { half = record (e.half) { sessions = (hear_all m e.half.sessions).after } }); answer = RunBroke } in
    let again : RunStep = record { step = still (record e { owed = true }); answer = RunRepeated } in
    run_cond e (is_next e.half.link n) (take_end m e) again
    (run_cond e (hear_all m e.half.sessions).good taken bad (hear_later m e.half.sessions) (hear_later m e.half.sessions))
    (later_same e.half.sessions)

pub run_later : (now : ℕ) (a : Bool) (f : Frame (List Slot)) (e : End) → LaterEnd e (run_end now a f e).step.end
run_later now a f e =
    let d : End = record e { moment = now; heard_at = now; heard_run = true } in
    let r : RunStep = body_end f.number a f.body (ack_end f.acknowledgement d) in
    let k1 : LaterEnd d (ack_end f.acknowledgement d) = ack_later f.acknowledgement d in
    let k2 : LaterEnd (ack_end f.acknowledgement d) r.step.end = body_later f.number a f.body (ack_end f.acknowledgement d) in
    let k3 : LaterEnd r.step.end (living (λ x. cond x.master (still x) (occasion x)) r.step.end).end = step_cond r.step.end (lives r.step.end) (cond r.step.end.master (still r.step.end) (occasion r.step.end)) (still r.step.end) (step_cond r.step.end r.step.end.master (still r.step.end) (occasion r.step.end) (later_same r.step.end.half.sessions) (occasion_later r.step.end)) (later_same r.step.end.half.sessions) in
    let bad : RunStep = record { step = finish 2 d; answer = RunBroke } in
    run_cond e (nat_lt (length d.half.link.sent) f.acknowledgement) bad (after_run r) (later_same e.half.sessions)
    (later_then e.half.sessions (ack_end f.acknowledgement d).half.sessions (after_run r).step.end.half.sessions k1 (later_then (ack_end f.acknowledgement d).half.sessions r.step.end.half.sessions (after_run r).step.end.half.sessions k2 k3))

agree_later : (n : ℕ) (e : Sessions) → n ≤ e.agreed → SessionsLater e (record e { agreed = n })
agree_later n e l = record { made = omega arith; ids = λ k l. refl; frees = λ k l h. h; accepts = λ k h. h; keeps = λ k l h. h; master = refl; ceiling = refl; alone = λ m. omega arith; found = λ h. record { made = h.made; named = h.named; none = h.none; held = h.held; asked = h.asked; agreed = omega (arith, l, h.agreed); holds = h.holds; within = h.within } }

pub reply_later : (now source : ℕ) (g : Agreed) (e : End) → LaterEnd e (hear_reply now source g e).end
reply_later now source g e = go (lives e) e.running
  where
    again : Step
    again = record { end = record e { moment = now; heard_at = now }; sent = [] }

    first : Step
    first = record { end = reply_end now source g e; sent = [] }

    none : Step
    none = record { end = e; sent = [] }

    go : (a b : Bool) → LaterEnd e (cond a (cond b again first) none).end
    go true true = later_same e.half.sessions
    go true false = agree_later (reply_end now source g e).half.sessions.agreed e.half.sessions (omega arith)
    go false b = later_same e.half.sessions

pub stop_later : (now r : ℕ) (e : End) → LaterEnd e (hear_stop now r e).end
stop_later now r e = step_cond e (lives e) (still (record e { ended = Some r; moment = now })) (still e) (later_same e.half.sessions) (later_same e.half.sessions)

-- a START that comes again leaves the sessions, and whether the end lives
pub again_leaves : (now : ℕ) (e : End) → LaterEnd e (again_start now e).end × (lives (again_start now e).end ≡ lives e)
again_leaves now e = go (lives e) (not e.heard_run)
  where
    again : Step
    again = record { end = record e { moment = now; heard_at = now; sent_at = now; owed = false }; sent = ReplyStart ∷ [] }

    noted : Step
    noted = record { end = record e { moment = now; heard_at = now }; sent = [] }

    none : Step
    none = record { end = e; sent = [] }

    go : (a b : Bool) → LaterEnd e (cond (a && b) again (cond a noted none)).end × (lives (cond (a && b) again (cond a noted none)).end ≡ lives e)
    go true true = (later_same e.half.sessions, refl)
    go true false = (later_same e.half.sessions, refl)
    go false b = (later_same e.half.sessions, refl)
