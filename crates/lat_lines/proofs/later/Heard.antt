-- A message is heard, slot by slot: a session that was accepted is found by its id, until a new one replaces it.
use Rattle.std.proofs.Common.{◌≡◌, ℕ, zero, suc, ◌+◌, ◌≤◌, ◌⊎◌, inl, inr, ⊎_elim, sym, ap, ap₂, ◌∙◌, refl, subst, arith, Bool, true, false, not, cond, ◌&&◌, ◌||◌, List, [], ◌∷◌, Option, Some, None, nat_eq, nat_le, eqb-true, leb-false, le_refl}
use Rattle.std.proofs.lemmas.Bool.{and_parts, and_left, or_parts, both_ways, not-true, eqb-false}
use Rattle.lat_model.specs.sessions.Slots.{Slot, Start, DataA, DataB, Attention, Reject, Stop, destination, source, is_stop, credits, costs, cost_of, has_stop, starts}
use Rattle.lat_model.specs.sessions.Session.{Session, free, gone, answered, rejected, waits, runs, peer}
use Rattle.lat_model.specs.sessions.Sessions.{Sessions, named, held, least_free}
use Rattle.lat_model.specs.sessions.Hearing.{heard, hear_at, hear_behind, behind_fits, hear_slot, HeardAll, hear_all, names, names_running, asked_session, ask_in, is_full}
use Rattle.lat_model.specs.Lists.{updated, any_up_to}
use Rattle.lat_model.proofs.sessions.Words.{upd_same, upd_other, upd_all}
use Rattle.lat_model.proofs.sessions.Hears.{starts_more, starter_more}
use Rattle.lat_model.proofs.sessions.Starts.{free_goes, starts_not_nil, starts_not_turned}
use Rattle.lat_model.proofs.sessions.Made.{least_is_free}
use Rattle.lat_model.proofs.sessions.Alone.{some_is, none_is}
use Rattle.lat_lines.specs.Later.{asked_for, IsAccepted, Replaced}

-- at a slave each session that was accepted began with an ask
abbrev pub Begun : Sessions → Type 0
Begun s = s.master ≡ false → (k : ℕ) → IsAccepted s k → starts (s.session k).came ≡ true

-- what hearing needs of the sessions, and keeps
pub record Fits (s : Sessions) : Type 0 where
  pub agreed : s.agreed ≤ 64
  pub at_made : (i : ℕ) → s.at_id i ≤ s.made
  pub begun : Begun s

-- an accepted session before and after slots are heard
pub record Heard (s t : Sessions) (k : ℕ) : Type 0 where
  pub still : IsAccepted t k
  pub id : (t.session k).id ≡ (s.session k).id
  pub asked_for : asked_for (t.session k) ≡ asked_for (s.session k)
  pub out : (t.session k).out ≡ (s.session k).out
  pub peer : s.master ≡ false → peer (t.session k) ≡ peer (s.session k)
  pub over : free (s.session k) ≡ true → t.session k ≡ s.session k
  pub found : s.at_id (s.session k).id ≡ k → (t.at_id (s.session k).id ≡ k) ⊎ Replaced s t k

pub record AllHeard (s t : Sessions) : Type 0 where
  pub fits : Fits t
  pub master : t.master ≡ s.master
  pub waits : s.master ≡ false → (i : ℕ) → waits (named s i) ≡ true → waits (named t i) ≡ true
  pub each : (k : ℕ) → IsAccepted s k → Heard s t k

pub all_heard : (s : Sessions) → Fits s → AllHeard s s
all_heard s f = record {
  fits = f;
  master = refl;
  waits = λ m i w. w;
  each = λ k a. record { still = a; id = refl; asked_for = refl; out = refl; peer = λ m. refl; over = λ f. refl; found = λ q. inl q };
}

-- it was replaced, and then more is heard
replaced_on : (s t u : Sessions) (k : ℕ) → AllHeard s t → AllHeard t u → Replaced s t k → IsAccepted t k → Replaced s u k
replaced_on s t u k p q r a = record {
  slave = r.slave;
  waits = q.waits (p.master ∙ r.slave) (s.session k).id r.waits;
  free = ap free same ∙ r.free;
  closed = ap rejected same ∙ r.closed;
  out = ap (λ (z : Session). z.out) same ∙ r.out;
  peer = ap peer same ∙ r.peer;
}
  where
    same : u.session k ≡ t.session k
    same = (q.each k a).over r.free

-- more is heard, and then it is replaced
replaced_then : (s t u : Sessions) (k : ℕ) → AllHeard s t → Heard s t k → Replaced t u k → Replaced s u k
replaced_then s t u k p h r = record {
  slave = m;
  waits = ap (λ z. waits (named u z)) (sym h.id) ∙ r.waits;
  free = r.free;
  closed = r.closed;
  out = r.out ∙ h.out;
  peer = r.peer ∙ h.peer m;
}
  where
    m : s.master ≡ false
    m = sym p.master ∙ r.slave

heard_on : (s t u : Sessions) (k : ℕ) → AllHeard s t → AllHeard t u → Heard s t k → Heard t u k → Heard s u k
heard_on s t u k p q g h = record {
  still = h.still;
  id = h.id ∙ g.id;
  asked_for = h.asked_for ∙ g.asked_for;
  out = h.out ∙ g.out;
  peer = λ m. h.peer (p.master ∙ m) ∙ g.peer m;
  over = λ f. h.over (ap free (g.over f) ∙ f) ∙ g.over f;
  found = λ e. ⊎_elim {C = (u.at_id (s.session k).id ≡ k) ⊎ Replaced s u k}
      (λ e. ⊎_elim {C = (u.at_id (s.session k).id ≡ k) ⊎ Replaced s u k} (λ d. inl (ap u.at_id (sym g.id) ∙ d)) (λ r. inr (replaced_then s t u k p g r)) (h.found (ap t.at_id g.id ∙ e)))
      (λ r. inr (replaced_on s t u k p q r g.still))
      (g.found e);
}

pub all_heard_on : (s t u : Sessions) → AllHeard s t → AllHeard t u → AllHeard s u
all_heard_on s t u p q = record {
  fits = q.fits;
  master = q.master ∙ p.master;
  waits = λ m i w. q.waits (p.master ∙ m) i (p.waits m i w);
  each = λ k a. let h : Heard s t k = p.each k a in heard_on s t u k p q h (q.each k h.still);
}

-- a slot behind a start, a reply or a reject

record Hears (s t : Session) : Type 0 where
  pub id : t.id ≡ s.id
  pub asked_for : asked_for t ≡ asked_for s
  pub accepted : t.accepted ≡ s.accepted
  pub rejects : t.rejects ≡ s.rejects
  pub out : t.out ≡ s.out
  pub begins : starts s.came ≡ true → starts t.came ≡ true
  pub peer : starts s.came ≡ true → peer t ≡ peer s
  pub over : free s ≡ true → t ≡ s

hears : (s : Session) → Hears s s
hears s = record { id = refl; asked_for = refl; accepted = refl; rejects = refl; out = refl; begins = λ q. q; peer = λ q. refl; over = λ f. refl }

hears_slot : (s : Session) (x : Slot) → gone s ≡ false → Hears s (heard s x)
hears_slot s x g = record {
  id = refl;
  asked_for = refl;
  accepted = refl;
  rejects = refl;
  out = refl;
  begins = λ q. starts_more s.came (x ∷ []) (starts_not_nil s.came q) ∙ q;
  peer = λ q. starter_more s.came (x ∷ []) (starts_not_nil s.came q);
  over = λ f. absurd (both_ways (free s) (free_goes s g) f);
}

hears_at : (f : ℕ → Session) (k : ℕ) (s : Session) → Hears (f k) s → (j : ℕ) → Hears (f j) (updated f k s j)
hears_at f k s h j = go (nat_eq j k) refl
  where
    go : (b : Bool) → nat_eq j k ≡ b → Hears (f j) (cond b s (f j))
    go true q = subst (λ z. Hears (f z) s) (sym (eqb-true j k q)) h
    go false q = hears (f j)

at_heard : (e : Sessions) (k : ℕ) (x : Slot) → Fits e → gone (e.session k) ≡ false → (e.master ≡ false → waits (e.session k) ≡ false) → AllHeard e (hear_at e k x)
at_heard e k x f g w = record {
  fits = record { agreed = f.agreed; at_made = f.at_made; begun = λ m j a. (each j).begins (f.begun m j (record { made = a.made; accepted = sym (each j).accepted ∙ a.accepted; kept = sym (each j).rejects ∙ a.kept })) };
  master = refl;
  waits = λ m i v. stays i v (w m) (nat_eq (e.at_id i) k) refl;
  each = λ j a. record {
    still = record { made = a.made; accepted = (each j).accepted ∙ a.accepted; kept = (each j).rejects ∙ a.kept };
    id = (each j).id;
    asked_for = (each j).asked_for;
    out = (each j).out;
    peer = λ m. (each j).peer (f.begun m j a);
    over = (each j).over;
    found = λ q. inl q;
  };
}
  where
    each : (j : ℕ) → Hears (e.session j) (updated e.session k (heard (e.session k) x) j)
    each j = hears_at e.session k (heard (e.session k) x) (hears_slot (e.session k) x g) j

    stays : (i : ℕ) → waits (named e i) ≡ true → waits (e.session k) ≡ false → (b : Bool) → nat_eq (e.at_id i) k ≡ b → waits (cond b (heard (e.session k) x) (named e i)) ≡ true
    stays i v n true q = absurd (both_ways (waits (e.session k)) n (sym (ap (λ z. waits (e.session z)) (eqb-true (e.at_id i) k q)) ∙ v))
    stays i v n false q = v

-- an ask makes a session, which waits

-- an id names the new session, or the one of before
new_or_old : (f : ℕ → Session) (ids : ℕ → ℕ) (n l i : ℕ) (new : Session) → (ids i ≡ n → ⊥) → waits new ≡ true → waits (f (ids i)) ≡ true → waits (updated f n new (updated ids l n i)) ≡ true
new_or_old f ids n l i new ne a b = go (nat_eq i l)
  where
    go : (c : Bool) → waits (updated f n new (cond c n (ids i))) ≡ true
    go true = ap waits (upd_same f n new) ∙ a
    go false = ap waits (upd_other f n new (ids i) ne) ∙ b

-- an id leads where it led, or it is the new one's
found_or : {R : Type 0} (ids : ℕ → ℕ) (l n i k : ℕ) → ids i ≡ k → (i ≡ l → R) → (updated ids l n i ≡ k) ⊎ R
found_or {R} ids l n i k q h = go (nat_eq i l) refl
  where
    go : (b : Bool) → nat_eq i l ≡ b → (cond b n (ids i) ≡ k) ⊎ R
    go true e = inr (h (eqb-true i l e))
    go false e = inl q

ask_heard : (e : Sessions) (from c size : ℕ) (service : List ℕ) (request : Option ℕ) → Fits e → e.master ≡ false → AllHeard e (ask_in e (Start 0 from c size service request) service request)
ask_heard e from c size service request f m = record {
  fits = record { agreed = f.agreed; at_made = λ i. at_made i (is_full e); begun = λ z j a. begun j (nat_eq j n) refl a.made.1 a.accepted a.made.0 a.kept };
  master = refl;
  waits = λ z i w. waiting i w (is_full e) refl;
  each = λ k a. record {
    still = record { made = (a.made.0, omega (arith, a.made.1)); accepted = ap (λ (z : Session). z.accepted) (old k a.made.1) ∙ a.accepted; kept = ap (λ (z : Session). z.rejects) (old k a.made.1) ∙ a.kept };
    id = ap (λ (z : Session). z.id) (old k a.made.1);
    asked_for = ap asked_for (old k a.made.1);
    out = ap (λ (z : Session). z.out) (old k a.made.1);
    peer = λ z. ap peer (old k a.made.1);
    over = λ z. old k a.made.1;
    found = λ q. found k a q (is_full e) refl;
  };
}
  where
    n : ℕ
    n = suc e.made

    new : Session
    new = asked_session e (Start 0 from c size service request) service request

    after : Sessions
    after = ask_in e (Start 0 from c size service request) service request

    old : (k : ℕ) → k ≤ e.made → updated e.session n new k ≡ e.session k
    old k h = upd_other e.session n new k (λ q. absurd (omega (arith, h, q)))

    at_made : (i : ℕ) (b : Bool) → (cond b e.at_id (updated e.at_id (least_free e) n)) i ≤ n
    at_made i true = omega (arith, f.at_made i)
    at_made i false = upd_all (λ z. z ≤ n) e.at_id (least_free e) n (le_refl _) (λ j. omega (arith, f.at_made j)) i

    begun : (j : ℕ) (b : Bool) → nat_eq j n ≡ b → j ≤ n → (cond b new (e.session j)).accepted ≡ true → 1 ≤ j → (cond b new (e.session j)).rejects ≡ false → starts (cond b new (e.session j)).came ≡ true
    begun j true q h a p r = refl
    begun j false q h a p r = f.begun m j (record { made = (p, omega (arith, h, eqb-false j n q)); accepted = a; kept = r })

    waiting : (i : ℕ) → waits (named e i) ≡ true → (b : Bool) → is_full e ≡ b → waits (updated e.session n new ((cond b e.at_id (updated e.at_id (least_free e) n)) i)) ≡ true
    waiting i w true q = ap waits (old (e.at_id i) (f.at_made i)) ∙ w
    waiting i w false q = new_or_old e.session e.at_id n (least_free e) i new (λ z. absurd (omega (arith, f.at_made i, z))) (ap (λ b. not ((b || false) || false)) q) w

    replaced : (k : ℕ) → IsAccepted e k → e.at_id (e.session k).id ≡ k → is_full e ≡ false → (e.session k).id ≡ least_free e → Replaced e after k
    replaced k a q z l = record {
      slave = m;
      waits = ap waits (ap (updated e.session n new) (ap (λ b. (cond b e.at_id (updated e.at_id (least_free e) n)) (e.session k).id) z ∙ ap (updated e.at_id (least_free e) n) l ∙ upd_same e.at_id (least_free e) n) ∙ upd_same e.session n new) ∙ ap (λ b. not ((b || false) || false)) z;
      free = ap free (same ∙ ap e.session (sym q ∙ ap e.at_id l)) ∙ least_is_free e (leb-false e.agreed (held e) z) f.agreed;
      closed = ap rejected same ∙ ap₂ (λ u v. u || v) a.kept (starts_not_turned (e.session k).came (f.begun m k a));
      out = ap (λ (z : Session). z.out) same;
      peer = ap peer same;
    }
      where
        same : updated e.session n new k ≡ e.session k
        same = old k a.made.1

    found : (k : ℕ) → IsAccepted e k → e.at_id (e.session k).id ≡ k → (b : Bool) → is_full e ≡ b → ((cond b e.at_id (updated e.at_id (least_free e) n)) (e.session k).id ≡ k) ⊎ Replaced e after k
    found k a q true z = inl q
    found k a q false z = found_or e.at_id (least_free e) n (e.session k).id k q (replaced k a q z)

behind_heard : (e f : Sessions) (x : Slot) → Fits e → hear_behind e x ≡ Some f → AllHeard e f
behind_heard e f x fi = go (behind_fits s x) refl
  where
    k : ℕ
    k = e.at_id (destination x)

    s : Session
    s = e.session k

    go : (b : Bool) → behind_fits s x ≡ b → cond b (Some (hear_at e k x)) None ≡ Some f → AllHeard e f
    go true q h =
        let r : runs s ≡ true = (and_parts (runs s) _ (and_parts (runs s && not (has_stop s.came)) _ (and_parts (runs s && not (has_stop s.came) && (nat_eq (source x) (peer s) || (is_stop x && nat_eq (source x) 0))) _ (and_parts (runs s && not (has_stop s.came) && (nat_eq (source x) (peer s) || (is_stop x && nat_eq (source x) 0)) && nat_le (costs s.came + cost_of x) (credits s.out)) _ q).0).0).0).0 in
        let v : (answered s ≡ true) × (not (gone s) ≡ true) = and_parts (answered s) (not (gone s)) r in
        subst (AllHeard e) (some_is (hear_at e k x) f h) (at_heard e k x fi (not-true (gone s) v.1) (λ m. and_left (not (answered s)) (not (gone s)) (ap not v.0)))
    go false q h = none_is f h

-- at a master: a session that waits hears a reply or a reject
waiting_heard : (e : Sessions) (k : ℕ) (x : Slot) → Fits e → e.master ≡ true → waits (e.session k) ≡ true → AllHeard e (hear_at e k x)
waiting_heard e k x f m w = at_heard e k x f (not-true (gone (e.session k)) (and_parts (not (answered (e.session k))) (not (gone (e.session k))) w).1) (λ z. absurd (both_ways e.master z m))

slot_heard : (e f : Sessions) (x : Slot) → Fits e → hear_slot e x ≡ Some f → AllHeard e f
slot_heard e f (Start zero from c size service request) fi = go (e.master || any_up_to (λ k. names from (e.session k)) e.made) refl
  where
    after : Sessions
    after = ask_in e (Start 0 from c size service request) service request

    go : (b : Bool) → (e.master || any_up_to (λ k. names from (e.session k)) e.made) ≡ b → cond b None (Some after) ≡ Some f → AllHeard e f
    go true q h = none_is f h
    go false q h = subst (AllHeard e) (some_is after f h) (ask_heard e from c size service request fi (or_parts e.master (any_up_to (λ k. names from (e.session k)) e.made) q).0)
slot_heard e f (Start (suc to) from c size service request) fi = go (e.master && waits s && not any) refl
  where
    x : Slot
    x = Start (suc to) from c size service request

    s : Session
    s = named e (suc to)

    any : Bool
    any = any_up_to (λ k. names_running from (e.session k)) e.made

    go : (b : Bool) → (e.master && waits s && not any) ≡ b → cond b (Some (hear_at e (e.at_id (suc to)) x)) None ≡ Some f → AllHeard e f
    go true q h =
        let p : (e.master ≡ true) × (waits s ≡ true) = and_parts e.master (waits s) (and_parts (e.master && waits s) (not any) q).0 in
        subst (AllHeard e) (some_is (hear_at e (e.at_id (suc to)) x) f h) (waiting_heard e (e.at_id (suc to)) x fi p.0 p.1)
    go false q h = none_is f h
slot_heard e f (Reject to from reason) fi = go (e.master && waits s) refl
  where
    x : Slot
    x = Reject to from reason

    s : Session
    s = named e to

    go : (b : Bool) → (e.master && waits s) ≡ b → cond b (Some (hear_at e (e.at_id to) x)) None ≡ Some f → AllHeard e f
    go true q h =
        let p : (e.master ≡ true) × (waits s ≡ true) = and_parts e.master (waits s) q in
        subst (AllHeard e) (some_is (hear_at e (e.at_id to) x) f h) (waiting_heard e (e.at_id to) x fi p.0 p.1)
    go false q h = none_is f h
slot_heard e f (DataA to from c bytes) fi = behind_heard e f (DataA to from c bytes) fi
slot_heard e f (DataB to from c setting) fi = behind_heard e f (DataB to from c setting) fi
slot_heard e f (Attention to from flag) fi = behind_heard e f (Attention to from flag) fi
slot_heard e f (Stop to from reason) fi = behind_heard e f (Stop to from reason) fi

-- a whole message
pub message_heard : (xs : List Slot) (e : Sessions) → Fits e → AllHeard e (hear_all xs e).after
message_heard [] e f = all_heard e f
message_heard (x ∷ xs) e f = go (hear_slot e x) refl (message_heard xs)
  where
    go : (o : Option Sessions) → hear_slot e x ≡ o → ((g : Sessions) → Fits g → AllHeard g (hear_all xs g).after) → AllHeard e (elim o as (λ _. HeardAll) [ None ↦ record { after = e; good = false } | Some g ↦ hear_all xs g ]).after
    go None q rest = all_heard e f
    go (Some g) q rest = let h : AllHeard e g = slot_heard e g x f q in all_heard_on e g (hear_all xs g).after h (rest g h.fits)
