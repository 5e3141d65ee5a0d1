-- A slave hears an ask.
use Rattle.std.proofs.Common.{◌≡◌, ◌≢◌, ℕ, zero, suc, ◌+◌, ◌-◌, ◌<◌, ◌≤◌, sym, ap, ◌∙◌, refl, arith, Bool, true, false, not, cond, ◌&&◌, ◌||◌, List, [], ◌∷◌, ◌++◌, length, map, set, Option, Some, None}
use Rattle.std.proofs.lemmas.List.{map-append}
use Rattle.lat_model.specs.Lists.{updated, upwards, keep, is_empty, any_up_to}
use Rattle.lat_model.specs.sessions.Slots.{Slot, Start, starts, turned}
use Rattle.lat_model.specs.sessions.Session.{Session, free, waits, rejecting, peer}
use Rattle.lat_model.specs.sessions.Sessions.{Sessions, least_free}
use Rattle.lat_model.specs.sessions.Hearing.{names, is_full, asked_session, ask_in}
use Rattle.lat_model.specs.sessions.EndOk.{EndOk}
use Rattle.lat_model.proofs.sessions.Words.{upd_same, upd_other, upd_all}
use Rattle.lat_stream.specs.Kept.{stream_of}
use Rattle.lat_session.specs.declared.ask.Ask.{Ask}
use Rattle.lat_session.specs.declared.ask.Ask.TheVariants.{Waits, Rejected}
use Rattle.lat_session.specs.Table.{Table, table_of, ask_is_open, ask_of, open_asks}
use Rattle.lat_session.specs.Stands.{Stands}
use Rattle.lat_session.proofs.PackTable.{kept_at, map_same, map_set}
use Rattle.lat_session.proofs.PackAll.{upwards-append}
use Rattle.lat_session.proofs.HearAt.{hear_stands}

-- one more at the end of what is kept

keep-append : (p : ℕ → Bool) (xs ys : List ℕ) → keep p (xs ++ ys) ≡ keep p xs ++ keep p ys
keep-append p [] ys = refl
keep-append p (x ∷ xs) ys = go (p x) (keep-append p xs ys)
  where
    go : (b : Bool) → keep p (xs ++ ys) ≡ keep p xs ++ keep p ys → cond b (x ∷ keep p (xs ++ ys)) (keep p (xs ++ ys)) ≡ cond b (x ∷ keep p xs) (keep p xs) ++ keep p ys
    go true ih = ap (λ z. x ∷ z) ih
    go false ih = ih

within : {X : Type 0} (p q : ℕ → Bool) (f g : ℕ → X) (a m : ℕ) → ((j : ℕ) → a < j → j ≤ a + m → (p j ≡ q j) × (f j ≡ g j)) → map f (keep p (upwards a m)) ≡ map g (keep q (upwards a m))
within p q f g a zero h = refl
within p q f g a (suc m) h =
    let w : (p (suc a) ≡ q (suc a)) × (f (suc a) ≡ g (suc a)) = h (suc a) (omega arith) (omega arith) in
    rw (w.0) (go (q (suc a)) w.1 (within p q f g (suc a) m (λ j l u. h j (omega (arith, l)) (omega (arith, u)))))
  where
    go : (b : Bool) → f (suc a) ≡ g (suc a) → map f (keep p (upwards (suc a) m)) ≡ map g (keep q (upwards (suc a) m)) → map f (cond b (suc a ∷ keep p (upwards (suc a) m)) (keep p (upwards (suc a) m))) ≡ map g (cond b (suc a ∷ keep q (upwards (suc a) m)) (keep q (upwards (suc a) m)))
    go true e ih = rw (e, ih) refl
    go false e ih = ih

abbrev pub asks_for : (from credits size : ℕ) → List ℕ → Option ℕ → Slot
asks_for from credits size service request = Start 0 from credits size service request

new_open : (e : Sessions) (from c size : ℕ) (service : List ℕ) (request : Option ℕ) → e.master ≡ false → (not e.master && (waits (asked_session e (asks_for from c size service request) service request) || rejecting (asked_session e (asks_for from c size service request) service request))) ≡ true
new_open e from c size service request m = ap (λ z. not z && (waits new || rejecting new)) m ∙ go (is_full e)
  where
    new : Session
    new = asked_session e (asks_for from c size service request) service request

    go : (b : Bool) → ((not (false && true) && not ((b || false) || false)) || (b && true)) ≡ true
    go true = refl
    go false = refl

-- the open asks behind an ask
pub asks_more : (e : Sessions) (from c size : ℕ) (service : List ℕ) (request : Option ℕ) → e.master ≡ false →
    open_asks (ask_in e (asks_for from c size service request) service request) ≡ open_asks e ++ ask_of (asked_session e (asks_for from c size service request) service request) ∷ []
asks_more e from c size service request m =
    ap (λ z. map g (keep q z)) (ap (upwards 0) one ∙ upwards-append 0 e.made 1)
    ∙ ap (map g) (keep-append q (upwards 0 e.made) (upwards (0 + e.made) 1))
    ∙ map-append g (keep q (upwards 0 e.made)) (keep q (upwards (0 + e.made) 1))
    ∙ ap (λ z. z ++ map g (keep q (upwards (0 + e.made) 1))) old
    ∙ ap (λ z. open_asks e ++ map g (keep q (upwards z 1))) nothing
    ∙ ap (λ b. open_asks e ++ map g (cond b (suc e.made ∷ []) [])) last
    ∙ ap (λ s. open_asks e ++ ask_of s ∷ []) here
  where
    x : Slot
    x = asks_for from c size service request

    new : Session
    new = asked_session e x service request

    f : Sessions
    f = ask_in e x service request

    q : ℕ → Bool
    q = ask_is_open f

    g : ℕ → Ask
    g j = ask_of (f.session j)

    one : suc e.made ≡ e.made + 1
    one = omega arith

    nothing : 0 + e.made ≡ e.made
    nothing = omega arith

    here : f.session (suc e.made) ≡ new
    here = upd_same e.session (suc e.made) new

    other : (j : ℕ) → j ≤ e.made → f.session j ≡ e.session j
    other j l = upd_other e.session (suc e.made) new j (λ z. absurd (omega (arith, l, z)))

    old : map g (keep q (upwards 0 e.made)) ≡ open_asks e
    old = within q (ask_is_open e) g (λ j. ask_of (e.session j)) 0 e.made
        (λ j l u. (ap (λ (s : Session). not e.master && (waits s || rejecting s)) (other j (omega (arith, u))), ap ask_of (other j (omega (arith, u)))))

    last : q (suc e.made) ≡ true
    last = ap (λ (s : Session). not e.master && (waits s || rejecting s)) here ∙ new_open e from c size service request m

-- a table of the end behind the ask stands for it
pub ask_stands : (t u : Table) (e : Sessions) (from c size : ℕ) (service : List ℕ) (request : Option ℕ) → Stands t e → e.master ≡ false → from ≢ 0 → from < 256 →
    any_up_to (λ k. names from (e.session k)) e.made ≡ false →
    length u.sessions ≡ length t.sessions →
    u ≡ table_of (length t.sessions) (ask_in e (asks_for from c size service request) service request) →
    Stands u (ask_in e (asks_for from c size service request) service request)
ask_stands t u e from c size service request st m some byte none l is =
    hear_stands t u e (ask_in e x service request) x st (record { sends = λ q. some; byte = λ q. byte; small = omega arith })
    (ap (λ b. cond b None (Some (ask_in e x service request))) (ap (λ b. b || any_up_to (λ k. names from (e.session k)) e.made) m ∙ none))
    (λ j. upd_all (λ z. (is_empty z.came || (starts z.came || turned z.came)) ≡ true) e.session (suc e.made) new refl st.opens j)
    (λ j. upd_all (λ z. z.rejects ≡ false → cond e.master z.accepted (starts z.came) ≡ true) e.session (suc e.made) new (λ r. ap (λ b. cond b false true) m) st.begun j)
    (λ j. upd_all (λ z. starts z.came ≡ true → peer z ≢ 0) e.session (suc e.made) new (λ h. some) st.sources j)
    refl refl refl l is
  where
    x : Slot
    x = asks_for from c size service request

    new : Session
    new = asked_session e x service request

-- what the table keeps where the agreed number is held
pub full_table : (n : ℕ) (e : Sessions) (from c size : ℕ) (service : List ℕ) (request : Option ℕ) → EndOk e → e.master ≡ false → is_full e ≡ true →
    table_of n (ask_in e (asks_for from c size service request) service request) ≡ record (table_of n e) { asks = open_asks e ++ Rejected from 7 ∷ [] }
full_table n e from c size service request ok m full =
    ap (λ z. record (table_of n f) { sessions = z }) (map_same (kept_at f) (kept_at e) 0 n (λ i l. kept i))
    ∙ ap (λ z. record (table_of n e) { asks = z }) (asks_more e from c size service request m ∙ ap (λ z. open_asks e ++ z ∷ []) (ap (λ b. cond (b && true) (Rejected from 7) (Waits (cond b 0 (least_free e)))) full))
  where
    x : Slot
    x = asks_for from c size service request

    new : Session
    new = asked_session e x service request

    f : Sessions
    f = ask_in e x service request

    at : f.at_id ≡ e.at_id
    at = ap (λ b. cond b e.at_id (updated e.at_id (least_free e) (suc e.made))) full

    kept : (i : ℕ) → kept_at f i ≡ kept_at e i
    kept i = ap (λ (a : ℕ → ℕ). stream_of e.master e.ceiling (f.session (a i))) at ∙ ap (stream_of e.master e.ceiling) (upd_other e.session (suc e.made) new (e.at_id i) (λ z. absurd (omega (arith, z, ok.at_made i))))

-- what it keeps where an id is free
pub free_table : (n : ℕ) (e : Sessions) (from c size : ℕ) (service : List ℕ) (request : Option ℕ) → EndOk e → e.master ≡ false → is_full e ≡ false → 1 ≤ least_free e → least_free e ≤ n →
    table_of n (ask_in e (asks_for from c size service request) service request) ≡
    record (table_of n e) {
      sessions = set (table_of n e).sessions (least_free e - 1) (stream_of e.master e.ceiling (asked_session e (asks_for from c size service request) service request));
      asks = open_asks e ++ Waits (least_free e) ∷ [];
    }
free_table n e from c size service request ok m free lo hi =
    ap (λ z. record (table_of n f) { sessions = z })
    (map_set (kept_at e) (kept_at f) 0 n (least_free e - 1) (least_free e) (omega (arith, lo, hi)) (omega (arith, lo)) (λ i h. sym (kept i h)) ∙ ap (set (map (kept_at e) (upwards 0 n)) (least_free e - 1)) here)
    ∙ ap (λ z. record (table_of n e) { sessions = set (table_of n e).sessions (least_free e - 1) (stream_of e.master e.ceiling new); asks = z })
    (asks_more e from c size service request m ∙ ap (λ z. open_asks e ++ z ∷ []) (ap (λ b. cond (b && true) (Rejected from 7) (Waits (cond b 0 (least_free e)))) free))
  where
    x : Slot
    x = asks_for from c size service request

    new : Session
    new = asked_session e x service request

    f : Sessions
    f = ask_in e x service request

    at : f.at_id ≡ updated e.at_id (least_free e) (suc e.made)
    at = ap (λ b. cond b e.at_id (updated e.at_id (least_free e) (suc e.made))) free

    kept : (i : ℕ) → i ≢ least_free e → kept_at f i ≡ kept_at e i
    kept i h =
        ap (λ (a : ℕ → ℕ). stream_of e.master e.ceiling (f.session (a i))) at
        ∙ ap (λ k. stream_of e.master e.ceiling (f.session k)) (upd_other e.at_id (least_free e) (suc e.made) i h)
        ∙ ap (stream_of e.master e.ceiling) (upd_other e.session (suc e.made) new (e.at_id i) (λ z. absurd (omega (arith, z, ok.at_made i))))

    here : kept_at f (least_free e) ≡ stream_of e.master e.ceiling new
    here =
        ap (λ (a : ℕ → ℕ). stream_of e.master e.ceiling (f.session (a (least_free e)))) at
        ∙ ap (λ k. stream_of e.master e.ceiling (f.session k)) (upd_same e.at_id (least_free e) (suc e.made))
        ∙ ap (stream_of e.master e.ceiling) (upd_same e.session (suc e.made) new)
