-- No two sessions of a slave that run, or whose reject waits, name one peer's id.
use Rattle.std.proofs.Common.{◌≡◌, ◌≢◌, ℕ, zero, suc, ◌+◌, ◌-◌, ◌<◌, ◌≤◌, ⊎_elim, le_trans, sym, ap, ◌∙◌, refl, subst, arith, Bool, true, false, not, cond, ◌&&◌, ◌||◌, List, [], ◌∷◌, ◌++◌, length, map, take, Option, Some, None, nat_eq, nat_lt, nat_le, eqb-true, eq-eqb, ne_eqb}
use Rattle.std.proofs.lemmas.Bool.{cases_lt, cases_eq, and_parts, and_from, or_parts, or_left, or_right, or_cases, true≢false, false≢true, not-true, both_ways, false_from_ne_true, eqb-false}
use Rattle.lat_model.specs.sessions.Slots.{Byte, Setting, Slot, Start, DataA, DataB, Attention, Reject, Stop, destination, source, is_stop, credits, costs, cost_of, has_stop, starts, turned}
use Rattle.lat_model.specs.sessions.Session.{Session, gone, answered, runs, waits, rejecting, peer, put_open, take_open, unframed}
use Rattle.lat_model.specs.sessions.Sessions.{Sessions, named, held}
use Rattle.lat_model.specs.sessions.Calls.{Call, Connect, Put, Set, Attend, Take, Close, Answer, RejectAsk, call, connect, touch, put_items, put_count, take_count, answer, reject}
use Rattle.lat_model.specs.sessions.Hearing.{names, names_running, heard, hear_at, hear_behind, behind_fits, asked_session, ask_in, hear_slot}
use Rattle.lat_model.specs.sessions.Offers.{Offer, Nothing, Unfit, Offers, offer}
use Rattle.lat_model.specs.sessions.Packing.{Packing, turn_by, turn, form, formed, first_form, next_form, waiting_rejects}
use Rattle.lat_model.specs.sessions.EndOk.{EndOk}
use Rattle.lat_model.specs.sessions.PeersApart.{Apart, PeersApart}
use Rattle.lat_model.specs.Lists.{updated, any_up_to, upwards, keep}
use Rattle.lat_model.proofs.sessions.Words.{has_stop-append, not_blank}
use Rattle.lat_model.proofs.sessions.Hears.{starter_more}
use Rattle.lat_model.proofs.sessions.Starts.{starts_not_nil}
use Rattle.lat_model.proofs.sessions.Forms.{formed_as}
use Rattle.lat_model.proofs.sessions.Alone.{some_is, none_is}

-- counting

none_kept : (p : ℕ → Bool) (k n : ℕ) → ((j : ℕ) → k < j → p j ≡ false) → length (keep p (upwards k n)) ≤ 0
none_kept p k zero h = omega arith
none_kept p k (suc n) h = go (p (suc k)) (h (suc k) (omega arith)) (none_kept p (suc k) n (λ j i. h j (omega (arith, i))))
  where
    go : (b : Bool) → b ≡ false → length (keep p (upwards (suc k) n)) ≤ 0 → length (cond b (suc k ∷ keep p (upwards (suc k) n)) (keep p (upwards (suc k) n))) ≤ 0
    go true e ih = absurd (true≢false e)
    go false e ih = ih

fewer_kept : (p q : ℕ → Bool) (k n : ℕ) → ((j : ℕ) → k < j → j ≤ k + n → p j ≡ true → q j ≡ true) → length (keep p (upwards k n)) ≤ length (keep q (upwards k n))
fewer_kept p q k zero h = omega arith
fewer_kept p q k (suc n) h = go (p (suc k)) (q (suc k)) (h (suc k) (omega arith) (omega arith)) (fewer_kept p q (suc k) n (λ j i l. h j (omega (arith, i)) (omega (arith, l))))
  where
    go : (a b : Bool) → (a ≡ true → b ≡ true) → length (keep p (upwards (suc k) n)) ≤ length (keep q (upwards (suc k) n)) → length (cond a (suc k ∷ keep p (upwards (suc k) n)) (keep p (upwards (suc k) n))) ≤ length (cond b (suc k ∷ keep q (upwards (suc k) n)) (keep q (upwards (suc k) n)))
    go true true i ih = omega (arith, ih)
    go true false i ih = absurd (false≢true (i refl))
    go false true i ih = omega (arith, ih)
    go false false i ih = ih

-- where at most one has the value v, all but one have another
all_but_one : (p : ℕ → Bool) (f : ℕ → ℕ) (v k n : ℕ) → ((i j : ℕ) → p i ≡ true → p j ≡ true → f i ≡ f j → i ≡ j) → length (keep p (upwards k n)) ≤ suc (length (keep (λ j. p j && not (nat_eq (f j) v)) (upwards k n)))
all_but_one p f v k zero h = omega arith
all_but_one p f v k (suc n) h = go (p (suc k)) (nat_eq (f (suc k)) v) refl refl (all_but_one p f v (suc k) n h)
  where
    q : ℕ → Bool
    q j = p j && not (nat_eq (f j) v)

    go : (a b : Bool) → p (suc k) ≡ a → nat_eq (f (suc k)) v ≡ b → length (keep p (upwards (suc k) n)) ≤ suc (length (keep (λ j. p j && not (nat_eq (f j) v)) (upwards (suc k) n))) → length (cond a (suc k ∷ keep p (upwards (suc k) n)) (keep p (upwards (suc k) n))) ≤ suc (length (cond (a && not b) (suc k ∷ keep (λ j. p j && not (nat_eq (f j) v)) (upwards (suc k) n)) (keep (λ j. p j && not (nat_eq (f j) v)) (upwards (suc k) n))))
    go true true e g ih =
        let l : length (keep p (upwards (suc k) n)) ≤ length (keep (λ j. p j && not (nat_eq (f j) v)) (upwards (suc k) n)) = fewer_kept p (λ j. p j && not (nat_eq (f j) v)) (suc k) n
        (λ j i l u. and_from (p j) (not (nat_eq (f j) v)) u (ap not (ne_eqb (f j) v (λ w. absurd (omega (arith, i, h (suc k) j e u (eqb-true (f (suc k)) v g ∙ sym w))))))) in
        omega (arith, l)
    go true false e g ih = omega (arith, ih)
    go false b e g ih = ih

at_most : (m : ℕ) (p : ℕ → Bool) (f : ℕ → ℕ) (k n : ℕ) → ((j : ℕ) → p j ≡ true → f j < m) → ((i j : ℕ) → p i ≡ true → p j ≡ true → f i ≡ f j → i ≡ j) → length (keep p (upwards k n)) ≤ m
at_most zero p f k n l h = none_kept p k n (λ j i. false_from_ne_true (p j) (λ e. absurd (omega (arith, l j e))))
at_most (suc m) p f k n l h =
    le_trans (all_but_one p f m k n h)
    (omega (
      arith,
      at_most m (λ j. p j && not (nat_eq (f j) m)) f k n
          (λ j e. omega (arith, l j (and_parts (p j) (not (nat_eq (f j) m)) e).0, eqb-false (f j) m (not-true (nat_eq (f j) m) (and_parts (p j) (not (nat_eq (f j) m)) e).1)))
          (λ i j u v w. h i j (and_parts (p i) (not (nat_eq (f i) m)) u).0 (and_parts (p j) (not (nat_eq (f j) m)) v).0 w),
    ))

-- one session changes

placed : (S : ℕ → Session) (k : ℕ) (s : Session) → ((p : ℕ) → names p s ≡ true → names p (S k) ≡ true) → Apart S → Apart (updated S k s)
placed S k s h a = record { one = λ p i j u v. a.one p i j (back p i (nat_eq i k) refl u) (back p j (nat_eq j k) refl v); low = λ p i u. a.low p i (back p i (nat_eq i k) refl u) }
  where
    back : (p i : ℕ) (b : Bool) → nat_eq i k ≡ b → names p (cond b s (S i)) ≡ true → names p (S i) ≡ true
    back p i true q u = ap (λ z. names p (S z)) (eqb-true i k q) ∙ h p u
    back p i false q u = u

abbrev pub Stays : Session → Bool
Stays s = not (gone s) || rejecting s

names_keeps : (s t : Session) → starts s.came ≡ true → peer t ≡ peer s → (Stays t ≡ true → Stays s ≡ true) → (p : ℕ) → names p t ≡ true → names p s ≡ true
names_keeps s t st pe h p u =
    let a : (starts t.came ≡ true) × ((nat_eq (peer t) p && Stays t) ≡ true) = and_parts (starts t.came) (nat_eq (peer t) p && Stays t) u in
    let b : (nat_eq (peer t) p ≡ true) × (Stays t ≡ true) = and_parts (nat_eq (peer t) p) (Stays t) a.1 in
    and_from (starts s.came) (nat_eq (peer s) p && Stays s) st (and_from (nat_eq (peer s) p) (Stays s) (ap (λ z. nat_eq z p) (sym pe) ∙ b.0) (h b.1))

-- local calls

cond_apart : (b : Bool) (x y : Sessions) → (b ≡ true → PeersApart x) → PeersApart y → PeersApart (cond b x y)
cond_apart true x y h k = h refl
cond_apart false x y h k = k

waits_stays : (s : Session) → waits s ≡ true → Stays s ≡ true
waits_stays s w = or_left (not (gone s)) (rejecting s) (and_parts (not (answered s)) (not (gone s)) w).1

pub call_apart : (e : Sessions) (c : Call) → e.master ≡ false → EndOk e → PeersApart e → PeersApart (call e c)
call_apart e (Connect service request) m ok a = cond_apart (e.master && nat_lt (held e) e.agreed) (connect e service request) e (λ q. absurd (both_ways e.master m (and_parts e.master (nat_lt (held e) e.agreed) q).0)) a
call_apart e (Put id bs) m ok a = cond_apart (put_open (named e id)) (touch e (e.at_id id) (put_items (named e id) (map Byte (take (put_count (named e id) (length bs)) bs)))) e (λ q. placed e.session (e.at_id id) (put_items (named e id) (map Byte (take (put_count (named e id) (length bs)) bs))) (λ p u. u) a) a
call_apart e (Set id t) m ok a = cond_apart (put_open (named e id) && nat_lt (length (unframed (named e id))) 4096) (touch e (e.at_id id) (put_items (named e id) (Setting t ∷ []))) e (λ q. placed e.session (e.at_id id) (put_items (named e id) (Setting t ∷ [])) (λ p u. u) a) a
call_apart e (Attend id flag) m ok a = cond_apart (put_open (named e id)) (touch e (e.at_id id) (record (named e id) { attention = Some flag })) e (λ q. placed e.session (e.at_id id) (record (named e id) { attention = Some flag }) (λ p u. u) a) a
call_apart e (Take id n) m ok a = cond_apart (take_open (named e id)) (touch e (e.at_id id) (record (named e id) { taken = (named e id).taken + take_count (named e id) n })) e (λ q. placed e.session (e.at_id id) (record (named e id) { taken = (named e id).taken + take_count (named e id) n }) (λ p u. u) a) a
call_apart e (Close id) m ok a = cond_apart (take_open (named e id)) (touch e (e.at_id id) (record (named e id) { closed = true })) e (λ q. placed e.session (e.at_id id) (record (named e id) { closed = true }) (λ p u. u) a) a
call_apart e (Answer id) m ok a = cond_apart (not e.master && waits (named e id)) (answer e id) e (λ q. placed e.session (e.at_id id) (record (named e id) { accepted = true }) (λ p u. u) a) a
call_apart e (RejectAsk id reason) m ok a = cond_apart (not e.master && waits s) (reject e id reason) e (λ q. placed e.session (e.at_id id) t (rejects (and_parts (not e.master) (waits s) q).1) a) a
  where
    s : Session
    s = named e id

    t : Session
    t = record s { rejects = true; reason = reason }

    rejects : waits s ≡ true → (p : ℕ) → names p t ≡ true → names p s ≡ true
    rejects w p u = names_keeps s t (and_parts (starts s.came) (nat_eq (peer t) p && Stays t) u).0 refl (λ z. waits_stays s w) p u

-- forming

form_apart : (e : Sessions) (k : ℕ) (x : Slot) → PeersApart e → PeersApart (form e k x)
form_apart e k x a = go (nat_eq (e.session k).generation 0)
  where
    s : Session
    s = e.session k

    less : (n : ℕ) → Stays (formed_as s n x) ≡ true → Stays s ≡ true
    less n u = ⊎_elim {C = Stays s ≡ true}
        (λ v. or_left (not (gone s)) (rejecting s) (still (has_stop s.out) (has_stop (s.out ++ x ∷ [])) (λ z. has_stop-append s.out (x ∷ []) ∙ ap (λ y. y || has_stop (x ∷ [])) z) v))
        (λ v. absurd (wrong s.out (and_parts s.rejects (is_nil (s.out ++ x ∷ [])) v).1))
        (or_cases (not (gone (formed_as s n x))) (rejecting (formed_as s n x)) u)
      where
        is_nil : List Slot → Bool
        is_nil [] = true
        is_nil (y ∷ ys) = false

        wrong : (xs : List Slot) → is_nil (xs ++ x ∷ []) ≡ true → ⊥
        wrong [] q = false≢true q
        wrong (y ∷ ys) q = false≢true q

        still : (b c : Bool) → (b ≡ true → c ≡ true) → not ((s.rejects || turned s.came) || (c && has_stop s.came)) ≡ true → not ((s.rejects || turned s.came) || (b && has_stop s.came)) ≡ true
        still true c i v = ap (λ z. not ((s.rejects || turned s.came) || (z && has_stop s.came))) (sym (i refl)) ∙ v
        still false c i v = not_or (s.rejects || turned s.came) (c && has_stop s.came) v
          where
            not_or : (d f : Bool) → not (d || f) ≡ true → not (d || false) ≡ true
            not_or true f z = z
            not_or false f z = refl

    keeps : (n p : ℕ) → names p (formed_as s n x) ≡ true → names p s ≡ true
    keeps n p u = names_keeps s (formed_as s n x) (and_parts (starts s.came) (nat_eq (peer s) p && Stays (formed_as s n x)) u).0 refl (less n) p u

    go : (b : Bool) → PeersApart (cond b (first_form e k x) (next_form e k x))
    go true = placed e.session k (formed_as s (suc e.generations) x) (keeps (suc e.generations)) a
    go false = placed e.session k (formed s x) (keeps s.generation) a

pub turn_apart : (p : Packing) (k : ℕ) → PeersApart p.after → PeersApart (turn p k).after
turn_apart p k a = go p.going (offer p.after.master p.after.ceiling p.room (p.after.session k))
  where
    go : (b : Bool) (o : Offer) → PeersApart (cond b (turn_by p k o) p).after
    go true Nothing = a
    go true Unfit = a
    go true (Offers x) = form_apart p.after k x a
    go false o = a

-- hearing

behind_apart : (e f : Sessions) (x : Slot) → PeersApart e → hear_behind e x ≡ Some f → PeersApart f
behind_apart e f x a = go (behind_fits s x) refl
  where
    k : ℕ
    k = e.at_id (destination x)

    s : Session
    s = e.session k

    go : (b : Bool) → behind_fits s x ≡ b → cond b (Some (hear_at e k x)) None ≡ Some f → PeersApart f
    go true q h =
        let r : runs s ≡ true = (and_parts (runs s) _ (and_parts (runs s && not (has_stop s.came)) _ (and_parts (runs s && not (has_stop s.came) && (nat_eq (source x) (peer s) || (is_stop x && nat_eq (source x) 0))) _ (and_parts (runs s && not (has_stop s.came) && (nat_eq (source x) (peer s) || (is_stop x && nat_eq (source x) 0)) && nat_le (costs s.came + cost_of x) (credits s.out)) _ q).0).0).0).0 in
        let v : (answered s ≡ true) × (not (gone s) ≡ true) = and_parts (answered s) (not (gone s)) r in
        let st : starts s.came ≡ true = (and_parts s.accepted (starts s.came) v.0).1 in
        subst PeersApart (some_is (hear_at e k x) f h)
        (placed e.session k (heard s x) (names_keeps s (heard s x) st (starter_more s.came (x ∷ []) (starts_not_nil s.came st)) (λ z. or_left (not (gone s)) (rejecting s) v.1)) a)
    go false q h = none_is f h

none_at : (p : ℕ → Bool) (n : ℕ) → any_up_to p n ≡ false → (k : ℕ) → 0 < k → k ≤ n → p k ≡ false
none_at p zero h k i j = absurd (omega (arith, i, j))
none_at p (suc n) h k i j =
    let q : (p (suc n) ≡ false) × (any_up_to p n ≡ false) = or_parts (p (suc n)) (any_up_to p n) h in
    ⊎_elim {C = p k ≡ false} (λ e. ap p e ∙ q.0) (λ e. none_at p n q.1 k i (omega (arith, j, e))) (cases_eq k (suc n))

ask_apart : (e : Sessions) (from c size : ℕ) (service : List ℕ) (request : Option ℕ) → EndOk e → PeersApart e → from < 256 → any_up_to (λ k. names from (e.session k)) e.made ≡ false → PeersApart (ask_in e (Start 0 from c size service request) service request)
ask_apart e from c size service request ok a low none = record {
  one = λ p i j. one p i j (nat_eq i n) refl (nat_eq j n) refl;
  low = λ p i. below p i (nat_eq i n) refl;
}
  where
    n : ℕ
    n = suc e.made

    new : Session
    new = asked_session e (Start 0 from c size service request) service request

    is_from : (p : ℕ) → names p new ≡ true → from ≡ p
    is_from p u = eqb-true from p (and_parts (nat_eq from p) (Stays new) u).0

    clear : (j : ℕ) → names from (e.session j) ≡ true → ⊥
    clear j u =
        let made : j ≤ e.made = ⊎_elim {C = j ≤ e.made} (λ h. absurd (false≢true (sym (ap (names from) (ok.past j h)) ∙ u))) (λ h. h) (cases_lt e.made j) in
        both_ways (names from (e.session j)) (none_at (λ k. names from (e.session k)) e.made none j (pos j (not_blank e (λ z. names from z ≡ true) (λ z. false≢true z) ok.none j u)) made) u
      where
        pos : (i : ℕ) → (i ≡ 0 → ⊥) → 0 < i
        pos zero h = absurd (h refl)
        pos (suc i) h = omega arith

    one : (p i j : ℕ) (b : Bool) → nat_eq i n ≡ b → (d : Bool) → nat_eq j n ≡ d → names p (cond b new (e.session i)) ≡ true → names p (cond d new (e.session j)) ≡ true → i ≡ j
    one p i j true q true r u v = eqb-true i n q ∙ sym (eqb-true j n r)
    one p i j true q false r u v = absurd (clear j (ap (λ z. names z (e.session j)) (is_from p u) ∙ v))
    one p i j false q true r u v = absurd (clear i (ap (λ z. names z (e.session i)) (is_from p v) ∙ u))
    one p i j false q false r u v = a.one p i j u v

    below : (p i : ℕ) (b : Bool) → nat_eq i n ≡ b → names p (cond b new (e.session i)) ≡ true → p < 256
    below p i true q u = subst (λ z. z < 256) (is_from p u) low
    below p i false q u = a.low p i u

pub hear_apart : (e f : Sessions) (x : Slot) → e.master ≡ false → EndOk e → PeersApart e → source x < 256 → hear_slot e x ≡ Some f → PeersApart f
hear_apart e f (Start zero from c size service request) m ok a low = go (e.master || any_up_to (λ k. names from (e.session k)) e.made) refl
  where
    after : Sessions
    after = ask_in e (Start 0 from c size service request) service request

    go : (b : Bool) → (e.master || any_up_to (λ k. names from (e.session k)) e.made) ≡ b → cond b None (Some after) ≡ Some f → PeersApart f
    go true q h = none_is f h
    go false q h = subst PeersApart (some_is after f h) (ask_apart e from c size service request ok a low (or_parts e.master (any_up_to (λ k. names from (e.session k)) e.made) q).1)
hear_apart e f (Start (suc to) from c size service request) m ok a low = go (e.master && waits (named e (suc to)) && not (any_up_to (λ k. names_running from (e.session k)) e.made)) refl
  where
    go : (b : Bool) → (e.master && waits (named e (suc to)) && not (any_up_to (λ k. names_running from (e.session k)) e.made)) ≡ b → cond b (Some (hear_at e (e.at_id (suc to)) (Start (suc to) from c size service request))) None ≡ Some f → PeersApart f
    go true q h = absurd (both_ways e.master m (and_parts e.master (waits (named e (suc to))) (and_parts (e.master && waits (named e (suc to))) _ q).0).0)
    go false q h = none_is f h
hear_apart e f (Reject to from reason) m ok a low = go (e.master && waits (named e to)) refl
  where
    go : (b : Bool) → (e.master && waits (named e to)) ≡ b → cond b (Some (hear_at e (e.at_id to) (Reject to from reason))) None ≡ Some f → PeersApart f
    go true q h = absurd (both_ways e.master m (and_parts e.master (waits (named e to)) q).0)
    go false q h = none_is f h
hear_apart e f (DataA to from c bytes) m ok a low = behind_apart e f (DataA to from c bytes) a
hear_apart e f (DataB to from c setting) m ok a low = behind_apart e f (DataB to from c setting) a
hear_apart e f (Attention to from flag) m ok a low = behind_apart e f (Attention to from flag) a
hear_apart e f (Stop to from reason) m ok a low = behind_apart e f (Stop to from reason) a

-- the rejects that wait

pub rejects_fit : (e : Sessions) → e.master ≡ false → EndOk e → PeersApart e → length (waiting_rejects e) ≤ 255
rejects_fit e m ok a =
    le_trans (fewer_kept (λ k. rejecting (e.session k)) p 0 e.made (λ j i l u. and_from (rejecting (e.session j)) (starts (e.session j).came) u ((ok.each j).asked m (ok.all_named m j i (omega (arith, l))))))
    (at_most 255 p f 0 e.made small same)
  where
    p : ℕ → Bool
    p k = rejecting (e.session k) && starts (e.session k).came

    f : ℕ → ℕ
    f k = peer (e.session k) - 1

    named_by : (j : ℕ) → p j ≡ true → names (peer (e.session j)) (e.session j) ≡ true
    named_by j u =
        let v : (rejecting (e.session j) ≡ true) × (starts (e.session j).came ≡ true) = and_parts (rejecting (e.session j)) (starts (e.session j).came) u in
        and_from (starts (e.session j).came) (nat_eq (peer (e.session j)) (peer (e.session j)) && Stays (e.session j)) v.1
        (and_from (nat_eq (peer (e.session j)) (peer (e.session j))) (Stays (e.session j)) (eq-eqb (peer (e.session j)) (peer (e.session j)) refl) (or_right (not (gone (e.session j))) (rejecting (e.session j)) v.0))

    some : (j : ℕ) → p j ≡ true → peer (e.session j) ≢ 0
    some j u =
        let st : starts (e.session j).came ≡ true = (and_parts (rejecting (e.session j)) (starts (e.session j).came) u).1 in
        let made : j ≤ e.made = ⊎_elim {C = j ≤ e.made} (λ h. absurd (false≢true (sym (ap (λ (z : Session). starts z.came) (ok.past j h)) ∙ st))) (λ h. h) (cases_lt e.made j) in
        (ok.each j).peer_some m (ok.all_named m j (pos j (not_blank e (λ z. starts z.came ≡ true) (λ z. false≢true z) ok.none j st)) made)
      where
        pos : (i : ℕ) → (i ≡ 0 → ⊥) → 0 < i
        pos zero h = absurd (h refl)
        pos (suc i) h = omega arith

    less : (n : ℕ) → n ≢ 0 → n < 256 → n - 1 < 255
    less zero n h = absurd (n refl)
    less (suc k) n h = omega (arith, h)

    small : (j : ℕ) → p j ≡ true → f j < 255
    small j u = less (peer (e.session j)) (some j u) (a.low (peer (e.session j)) j (named_by j u))

    back : (n k : ℕ) → n ≢ 0 → k ≢ 0 → n - 1 ≡ k - 1 → k ≡ n
    back zero k n h w = absurd (n refl)
    back (suc i) zero n h w = absurd (h refl)
    back (suc i) (suc j) n h w = omega (arith, w)

    same : (i j : ℕ) → p i ≡ true → p j ≡ true → f i ≡ f j → i ≡ j
    same i j u v w =
        let q : peer (e.session j) ≡ peer (e.session i) = back (peer (e.session i)) (peer (e.session j)) (some i u) (some j v) w in
        a.one (peer (e.session i)) i j (named_by i u) (subst (λ z. names z (e.session j) ≡ true) q (named_by j v))
