-- The turns of the rejects that wait, in the order of the open asks.
use Rattle.std.proofs.Common.{◌≡◌, ◌≢◌, ℕ, zero, suc, ◌+◌, ◌<◌, ◌≤◌, sym, ap, ◌∙◌, refl, subst, arith, Bool, true, false, not, cond, ◌&&◌, ◌||◌, List, [], ◌∷◌, ◌++◌, length, map, get_or, take, drop, ⊎_elim}
use Rattle.std.specs.List.{remove}
use Rattle.std.proofs.lemmas.List.{map-append, take-map, drop-map}
use Rattle.std.proofs.lemmas.Bool.{true≢false, false≢true, and_parts, or_right, cases_lt, cases_eq, not-true, false_from_ne_true}
use Rattle.lat_model.specs.Lists.{upwards, keep, is_empty}
use Rattle.lat_model.specs.sessions.Slots.{Slot, starts, turned, has_stop}
use Rattle.lat_model.specs.sessions.Session.{Session, rejecting, waits, stopped}
use Rattle.lat_model.specs.sessions.Sessions.{Sessions}
use Rattle.lat_model.specs.sessions.Offers.{Nothing, fit, offer, reject_offer, start_of, live_offer}
use Rattle.lat_model.specs.sessions.Packing.{Packing, turn, turn_all, waiting_rejects}
use Rattle.lat_model.specs.sessions.EndOk.{EndOk}
use Rattle.lat_session.specs.Table.{ask_is_open}
use Rattle.lat_session.specs.Stands.{AllBegun}
use Rattle.lat_session.specs.Packed.{NoRejects, open_serials}
use Rattle.lat_stream.specs.FormsOffer.{reject_due}
use Rattle.lat_session.proofs.PackIds.{turn_nothing}
use Rattle.lat_session.proofs.PackTurn.{turn_turned}
use Rattle.lat_session.proofs.PackAll.{turn_other, turn_tells, turn_going}

-- lists of numbers that pass a test

pub record Kept_one (p : ℕ → Bool) (a m k : ℕ) : Type 0 where
  pub passes : p k ≡ true
  pub above : a < k
  pub below : k ≤ a + m

pub kept_one : (p : ℕ → Bool) (a m i d : ℕ) → i < length (keep p (upwards a m)) → Kept_one p a m (get_or (keep p (upwards a m)) i d)
kept_one p a zero i d l = absurd (omega (arith, l))
kept_one p a (suc m) i d l = go (λ i l. kept_one p (suc a) m i d l) (p (suc a)) refl i l
  where
    more : (k : ℕ) → Kept_one p (suc a) m k → Kept_one p a (suc m) k
    more k r = record { passes = r.passes; above = omega (arith, r.above); below = omega (arith, r.below) }

    go : ((i : ℕ) → i < length (keep p (upwards (suc a) m)) → Kept_one p (suc a) m (get_or (keep p (upwards (suc a) m)) i d)) → (b : Bool) → p (suc a) ≡ b → (i : ℕ) → i < length (cond b (suc a ∷ keep p (upwards (suc a) m)) (keep p (upwards (suc a) m))) → Kept_one p a (suc m) (get_or (cond b (suc a ∷ keep p (upwards (suc a) m)) (keep p (upwards (suc a) m))) i d)
    go ih true e zero l = record { passes = e; above = omega arith; below = omega arith }
    go ih true e (suc i) l = more _ (ih i (omega (arith, l)))
    go ih false e i l = more _ (ih i l)

-- the tests agree but on one number
pub keep_same : (p q : ℕ → Bool) (a m : ℕ) → ((j : ℕ) → a < j → p j ≡ q j) → keep p (upwards a m) ≡ keep q (upwards a m)
keep_same p q a zero h = refl
keep_same p q a (suc m) h = rw (h (suc a) (omega arith), keep_same p q (suc a) m (λ j l. h j (omega (arith, l)))) refl

pub keep_remove : (p q : ℕ → Bool) (a m i k d : ℕ) → i < length (keep p (upwards a m)) → get_or (keep p (upwards a m)) i d ≡ k → q k ≡ false → ((j : ℕ) → j ≢ k → p j ≡ q j) → keep q (upwards a m) ≡ remove (keep p (upwards a m)) i
keep_remove p q a zero i k d l g n h = absurd (omega (arith, l))
keep_remove p q a (suc m) i k d l g n h = go (λ i l g. keep_remove p q (suc a) m i k d l g n h) (p (suc a)) refl i l g
  where
    here : k ≢ suc a → p (suc a) ≡ q (suc a)
    here w = h (suc a) (λ z. w (sym z))

    go : ((i : ℕ) → i < length (keep p (upwards (suc a) m)) → get_or (keep p (upwards (suc a) m)) i d ≡ k → keep q (upwards (suc a) m) ≡ remove (keep p (upwards (suc a) m)) i) → (b : Bool) → p (suc a) ≡ b → (i : ℕ) → i < length (cond b (suc a ∷ keep p (upwards (suc a) m)) (keep p (upwards (suc a) m))) → get_or (cond b (suc a ∷ keep p (upwards (suc a) m)) (keep p (upwards (suc a) m))) i d ≡ k →
        cond (q (suc a)) (suc a ∷ keep q (upwards (suc a) m)) (keep q (upwards (suc a) m)) ≡ remove (cond b (suc a ∷ keep p (upwards (suc a) m)) (keep p (upwards (suc a) m))) i
    go ih true e zero l g =
        ap (λ b. cond b (suc a ∷ keep q (upwards (suc a) m)) (keep q (upwards (suc a) m))) (ap q g ∙ n)
        ∙ sym (keep_same p q (suc a) m (λ j w. h j (λ z. absurd (omega (arith, w, z, g)))))
    go ih true e (suc i) l g =
        let o : Kept_one p (suc a) m k = subst (Kept_one p (suc a) m) g (kept_one p (suc a) m i d (omega (arith, l))) in
        ap (λ b. cond b (suc a ∷ keep q (upwards (suc a) m)) (keep q (upwards (suc a) m))) (sym (here (λ z. absurd (omega (arith, z, o.above)))) ∙ e)
        ∙ ap (λ z. suc a ∷ z) (ih i (omega (arith, l)) g)
    go ih false e i l g =
        let o : Kept_one p (suc a) m k = subst (Kept_one p (suc a) m) g (kept_one p (suc a) m i d l) in
        ap (λ b. cond b (suc a ∷ keep q (upwards (suc a) m)) (keep q (upwards (suc a) m))) (sym (here (λ z. absurd (omega (arith, z, o.above)))) ∙ e)
        ∙ ih i l g

pub map_remove : {X Y : Type 0} (f : X → Y) (xs : List X) (i : ℕ) → map f (remove xs i) ≡ remove (map f xs) i
map_remove f xs i = map-append f (take i xs) (drop (suc i) xs) ∙ ap (λ z. z ++ map f (drop (suc i) xs)) (sym (take-map f i xs)) ∙ ap (λ z. take i (map f xs) ++ z) (sym (drop-map f (suc i) xs))

-- an end's sessions above a serial are as they were
pub record Above (e : Sessions) (a : ℕ) (p : Packing) : Type 0 where
  pub master : p.after.master ≡ e.master
  pub session : (j : ℕ) → a < j → p.after.session j ≡ e.session j

above_more : (e : Sessions) (a : ℕ) (p : Packing) → Above e a p → Above e (suc a) p
above_more e a p w = record { master = w.master; session = λ j l. w.session j (omega (arith, l)) }

above_turn : (e : Sessions) (a : ℕ) (p : Packing) → Above e a p → Above e (suc a) (turn p (suc a))
above_turn e a p w = record {
  master = (turn_turned p (suc a)).master ∙ w.master;
  session = λ j l. turn_other p (suc a) j (λ z. absurd (omega (arith, l, z))) ∙ w.session j (omega (arith, l));
}

-- a slave's session whose ask waits for its answer has nothing to send
pub waits_nothing : (m : Bool) (c room : ℕ) (s : Session) → waits s ≡ true → (s.rejects ≡ false → starts s.came ≡ true) → offer m c room s ≡ Nothing
waits_nothing m c room s w b = go s.rejects s.accepted (starts s.came) (is_empty s.out) (turned s.came) (stopped s) w b
  where
    go : (r a st o tu p : Bool) → (not (a && st) && not ((r || tu) || p)) ≡ true → (r ≡ false → st ≡ true) → cond r (reject_offer room s) (cond o (cond (a && not tu) (fit room (start_of m c s)) Nothing) (cond ((a && st) && not (has_stop s.out)) (live_offer c room s s.attention) Nothing)) ≡ Nothing
    go true true true o tu p w b = absurd (false≢true w)
    go true true false o tu p w b = absurd (false≢true w)
    go true false st o tu p w b = absurd (false≢true w)
    go false true true o tu p w b = absurd (false≢true w)
    go false true false o tu p w b = absurd (false≢true (b refl))
    go false false st true tu p w b = refl
    go false false st false tu p w b = refl

-- the turn of a session whose open ask isn't rejected changes nothing
pub turn_waits : (e : Sessions) (p : Packing) (k : ℕ) → AllBegun e → p.after.session k ≡ e.session k → ask_is_open e k ≡ true → rejecting (e.session k) ≡ false → turn p k ≡ p
turn_waits e p k b same o r =
    let a : (not e.master ≡ true) × ((waits (e.session k) || rejecting (e.session k)) ≡ true) = and_parts (not e.master) (waits (e.session k) || rejecting (e.session k)) o in
    let w : waits (e.session k) ≡ true = only (waits (e.session k)) (rejecting (e.session k)) r a.1 in
    turn_nothing p k (λ g. ap (offer p.after.master p.after.ceiling p.room) same ∙ waits_nothing p.after.master p.after.ceiling p.room (e.session k) w (λ f. sym (ap (λ m. cond m (e.session k).accepted (starts (e.session k).came)) (not-true e.master a.0)) ∙ b k f))
  where
    only : (x y : Bool) → y ≡ false → (x || y) ≡ true → x ≡ true
    only true y f h = refl
    only false y f h = absurd (true≢false (sym h ∙ f))

-- the turn of a session that is rejecting but has nothing to tell changes nothing
pub turn_silent : (p : Packing) (k : ℕ) → rejecting (p.after.session k) ≡ true → reject_due (p.after.session k) ≡ false → turn p k ≡ p
turn_silent p k r t = turn_nothing p k (λ g. nothing)
  where
    s : Session
    s = p.after.session k

    nothing : offer p.after.master p.after.ceiling p.room s ≡ Nothing
    nothing =
        let b : (s.rejects ≡ true) × (is_empty s.out ≡ true) = and_parts s.rejects (is_empty s.out) r in
        let c : not (is_empty s.came) ≡ false = sym (ap (λ z. z && not (is_empty s.came)) r) ∙ t in
        rw (b.0, b.1, c) refl

-- an end's rejects have been heard
pub open_tells : (e : Sessions) (k : ℕ) → EndOk e → e.master ≡ false → 0 < k → k ≤ e.made → rejecting (e.session k) ≡ true → reject_due (e.session k) ≡ true
open_tells e k ok m lo hi r = rw (r, full (e.session k).came ((ok.each k).asked m (ok.all_named m k lo hi))) refl
  where
    full : (xs : List Slot) → starts xs ≡ true → is_empty xs ≡ false
    full [] h = absurd (false≢true h)
    full (x ∷ xs) h = refl

master_silent : (e : Sessions) (k : ℕ) → EndOk e → e.master ≡ true → reject_due (e.session k) ≡ false
master_silent e k ok m = false_from_ne_true (reject_due s) (λ t.
    let a : (rejecting s ≡ true) × (not (is_empty s.came) ≡ true) = and_parts (rejecting s) (not (is_empty s.came)) t in
    let c : s.came ≡ [] = ((ok.each k).never_rejects m (and_parts s.rejects (is_empty s.out) a.0).0).1 in
    absurd (false≢true (sym (ap (λ xs. not (is_empty xs)) c) ∙ a.1)))
  where
    s : Session
    s = e.session k

-- the turns of all open asks are those of the rejects that wait
pub turns_open : (e : Sessions) (a m : ℕ) (p : Packing) → EndOk e → AllBegun e → Above e a p → turn_all (keep (ask_is_open e) (upwards a m)) p ≡ turn_all (keep (λ k. rejecting (e.session k)) (upwards a m)) p
turns_open e a zero p ok b w = refl
turns_open e a (suc m) p ok b w = go (λ q v. turns_open e (suc a) m q ok b v) (ask_is_open e k) (rejecting (e.session k)) refl refl
  where
    k : ℕ
    k = suc a

    same : p.after.session k ≡ e.session k
    same = w.session k (omega arith)

    master : rejecting (e.session k) ≡ true → ask_is_open e k ≡ false → e.master ≡ true
    master r o = is e.master refl
      where
        is : (x : Bool) → e.master ≡ x → x ≡ true
        is true q = refl
        is false q = absurd (true≢false (sym (ap (λ z. not z && (waits (e.session k) || rejecting (e.session k))) q ∙ or_right (waits (e.session k)) (rejecting (e.session k)) r) ∙ o))

    go : ((q : Packing) → Above e k q → turn_all (keep (ask_is_open e) (upwards k m)) q ≡ turn_all (keep (λ k. rejecting (e.session k)) (upwards k m)) q) → (x y : Bool) → ask_is_open e k ≡ x → rejecting (e.session k) ≡ y → turn_all (cond x (k ∷ keep (ask_is_open e) (upwards k m)) (keep (ask_is_open e) (upwards k m))) p ≡ turn_all (cond y (k ∷ keep (λ k. rejecting (e.session k)) (upwards k m)) (keep (λ k. rejecting (e.session k)) (upwards k m))) p
    go rest true true o r = rest (turn p k) (above_turn e a p w)
    go rest true false o r = ap (turn_all (keep (ask_is_open e) (upwards k m))) (turn_waits e p k b same o r) ∙ rest p (above_more e a p w)
    go rest false true o r =
        rest p (above_more e a p w)
        ∙ ap (turn_all (keep (λ k. rejecting (e.session k)) (upwards k m))) (sym (turn_silent p k (ap rejecting same ∙ r) (ap reject_due same ∙ master_silent e k ok (master r o))))
    go rest false false o r = rest p (above_more e a p w)

-- when they are over, no reject waits, while the packing goes on
pub turns_sent : (e : Sessions) (a m : ℕ) (p : Packing) → EndOk e → Above e a p → (p.going ≡ true → (k : ℕ) → k ≤ a → reject_due (p.after.session k) ≡ false) → ((k : ℕ) → a + m < k → reject_due (e.session k) ≡ false) → NoRejects (turn_all (keep (λ k. rejecting (e.session k)) (upwards a m)) p)
turns_sent e a zero p ok w h past =
    λ g k. ⊎_elim {C = reject_due (p.after.session k) ≡ false} (λ l. ap reject_due (w.session k l) ∙ past k (omega (arith, l))) (λ l. h g k l) (cases_lt a k)
turns_sent e a (suc m) p ok w h past = go (λ q v g. turns_sent e (suc a) m q ok v g (λ j l. past j (omega (arith, l)))) (rejecting (e.session k)) refl
  where
    k : ℕ
    k = suc a

    same : p.after.session k ≡ e.session k
    same = w.session k (omega arith)

    last : (q : Packing) → (q.going ≡ true → reject_due (q.after.session k) ≡ false) → (q.going ≡ true → (j : ℕ) → j ≤ a → reject_due (q.after.session j) ≡ false) → q.going ≡ true → (j : ℕ) → j ≤ k → reject_due (q.after.session j) ≡ false
    last q t r g j l = ⊎_elim {C = reject_due (q.after.session j) ≡ false} (λ z. ap (λ i. reject_due (q.after.session i)) z ∙ t g) (λ z. r g j (omega (arith, l, z))) (cases_eq j k)

    go : ((q : Packing) → Above e k q → (q.going ≡ true → (j : ℕ) → j ≤ k → reject_due (q.after.session j) ≡ false) → NoRejects (turn_all (keep (λ k. rejecting (e.session k)) (upwards k m)) q)) → (y : Bool) → rejecting (e.session k) ≡ y → NoRejects (turn_all (cond y (k ∷ keep (λ k. rejecting (e.session k)) (upwards k m)) (keep (λ k. rejecting (e.session k)) (upwards k m))) p)
    go rest true r = rest (turn p k) (above_turn e a p w) (last (turn p k) (turn_tells p k) (λ g j l. ap reject_due (turn_other p k j (λ z. absurd (omega (arith, l, z)))) ∙ h (turn_going p k g) j l))
    go rest false r = rest p (above_more e a p w) (last p (λ g. ap reject_due same ∙ ap (λ b. b && not (is_empty (e.session k).came)) r) h)

pub all_open : (p : Packing) → EndOk p.after → AllBegun p.after → turn_all (open_serials p.after) p ≡ turn_all (waiting_rejects p.after) p
all_open p ok b = turns_open p.after 0 p.after.made p ok b (record { master = refl; session = λ j l. refl })

is_zero : (k : ℕ) → k ≤ 0 → k ≡ 0
is_zero k l = omega (arith, l)

pub all_sent : (p : Packing) → EndOk p.after → NoRejects (turn_all (waiting_rejects p.after) p)
all_sent p ok =
    turns_sent p.after 0 p.after.made p ok (record { master = refl; session = λ j l. refl })
    (λ g k l. ap (λ i. reject_due (p.after.session i)) (is_zero k l) ∙ ap reject_due ok.none)
    (λ k l. ap reject_due (ok.past k (omega (arith, l))))
