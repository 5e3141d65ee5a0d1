-- Which sessions name a peer's id.
use Rattle.std.proofs.Common.{◌≡◌, ◌≢◌, ◌⊎◌, ℕ, zero, suc, ◌+◌, ◌<◌, ◌≤◌, sym, ap, ◌∙◌, refl, arith, Bool, true, false, not, cond, ◌&&◌, ◌||◌, List, [], ◌∷◌, length, map, nat_eq, ⊎_elim, inl, inr, eqb-true}
use Rattle.std.specs.List.{list_any}
use Rattle.std.proofs.lemmas.Bool.{true≢false, false≢true, and_parts, and_from, or_left, or_right, or_cases, cases_lt, not-true}
use Rattle.lat_model.specs.Lists.{upwards, keep, any_up_to}
use Rattle.lat_model.specs.sessions.Slots.{Slot, Start, DataA, DataB, Attention, Reject, Stop, starts, starter, has_stop}
use Rattle.lat_model.specs.sessions.Session.{Session, Free, Calling, Asked, Live, Closing, Left, state, answered, gone, free, peer, waits, rejecting}
use Rattle.lat_model.specs.sessions.Sessions.{Sessions, named}
use Rattle.lat_model.specs.sessions.Hearing.{names, names_running}
use Rattle.lat_model.proofs.sessions.Starts.{free_goes}
use Rattle.lat_stream.specs.Kept.{state_of}
use Rattle.lat_session.specs.declared.ask.Ask.TheVariants.{Waits, Rejected}
use Rattle.lat_session.specs.Table.{Table, ask_is_open, ask_of, open_asks}
use Rattle.lat_session.specs.Stands.{Stands}
use Rattle.lat_session.specs.Hears.{is_there, has_peer, rejects_peer}
use Rattle.lat_session.proofs.PackTable.{kept_at}

same_by : (a b : Bool) → (a ≡ true → b ≡ true) → (b ≡ true → a ≡ true) → a ≡ b
same_by true true f g = refl
same_by true false f g = sym (f refl)
same_by false true f g = g refl
same_by false false f g = refl

-- some number passes

pub record Passes (p : ℕ → Bool) (a m : ℕ) : Type 0 where
  pub at : ℕ
  pub above : a < at
  pub below : at ≤ a + m
  pub holds : p at ≡ true

up_to : (p : ℕ → Bool) (n : ℕ) → any_up_to p n ≡ true → Passes p 0 n
up_to p zero h = absurd (false≢true h)
up_to p (suc n) h = ⊎_elim {C = Passes p 0 (suc n)} (λ q. record { at = suc n; above = omega arith; below = omega arith; holds = q }) (λ q. more (up_to p n q)) (or_cases (p (suc n)) (any_up_to p n) h)
  where
    more : Passes p 0 n → Passes p 0 (suc n)
    more w = record { at = w.at; above = w.above; below = omega (arith, w.below); holds = w.holds }

to_up : (p : ℕ → Bool) (n k : ℕ) → 0 < k → k ≤ n → p k ≡ true → any_up_to p n ≡ true
to_up p zero k lo hi h = absurd (omega (arith, lo, hi))
to_up p (suc n) k lo hi h = ⊎_elim {C = any_up_to p (suc n) ≡ true} (λ l. or_right (p (suc n)) (any_up_to p n) (to_up p n k lo (omega (arith, l)) h)) (λ l. or_left (p (suc n)) (any_up_to p n) (ap p (last l) ∙ h)) (cases_lt k (suc n))
  where
    last : suc n ≤ k → suc n ≡ k
    last l = omega (arith, l, hi)

-- so does one of the kept ones

from_list : {A : Type 0} (q : A → Bool) (f : ℕ → A) (p : ℕ → Bool) (a m : ℕ) → list_any q (map f (keep p (upwards a m))) ≡ true → Passes (λ k. p k && q (f k)) a m
from_list q f p a zero h = absurd (false≢true h)
from_list {A} q f p a (suc m) h = go (from_list q f p (suc a) m) (p (suc a)) refl h
  where
    more : Passes (λ k. p k && q (f k)) (suc a) m → Passes (λ k. p k && q (f k)) a (suc m)
    more w = record { at = w.at; above = omega (arith, w.above); below = omega (arith, w.below); holds = w.holds }

    go : (list_any q (map f (keep p (upwards (suc a) m))) ≡ true → Passes (λ k. p k && q (f k)) (suc a) m) → (b : Bool) → p (suc a) ≡ b → list_any q (map f (cond b (suc a ∷ keep p (upwards (suc a) m)) (keep p (upwards (suc a) m)))) ≡ true → Passes (λ k. p k && q (f k)) a (suc m)
    go ih true e h = ⊎_elim {C = Passes (λ k. p k && q (f k)) a (suc m)} (λ z. record { at = suc a; above = omega arith; below = omega arith; holds = and_from (p (suc a)) (q (f (suc a))) e z }) (λ z. more (ih z)) (or_cases (q (f (suc a))) (list_any q (map f (keep p (upwards (suc a) m)))) h)
    go ih false e h = more (ih h)

to_list : {A : Type 0} (q : A → Bool) (f : ℕ → A) (p : ℕ → Bool) (a m k : ℕ) → a < k → k ≤ a + m → p k ≡ true → q (f k) ≡ true → list_any q (map f (keep p (upwards a m))) ≡ true
to_list q f p a zero k lo hi h g = absurd (omega (arith, lo, hi))
to_list {A} q f p a (suc m) k lo hi h g = go (λ l. to_list q f p (suc a) m k l (omega (arith, hi)) h g) (p (suc a)) refl (cases_lt (suc a) k)
  where
    last : k ≤ suc a → suc a ≡ k
    last l = omega (arith, l, lo)

    go : (suc a < k → list_any q (map f (keep p (upwards (suc a) m))) ≡ true) → (b : Bool) → p (suc a) ≡ b → (suc a < k) ⊎ (k ≤ suc a) → list_any q (map f (cond b (suc a ∷ keep p (upwards (suc a) m)) (keep p (upwards (suc a) m)))) ≡ true
    go ih true e w = ⊎_elim {C = (q (f (suc a)) || list_any q (map f (keep p (upwards (suc a) m)))) ≡ true} (λ l. or_right (q (f (suc a))) _ (ih l)) (λ l. or_left (q (f (suc a))) _ (ap (λ i. q (f i)) (last l) ∙ g)) w
    go ih false e w = ⊎_elim {C = list_any q (map f (keep p (upwards (suc a) m))) ≡ true} ih (λ l. absurd (true≢false (sym h ∙ ap p (sym (last l)) ∙ e))) w

keep_all : (a m : ℕ) → keep (λ k. true) (upwards a m) ≡ upwards a m
keep_all a zero = refl
keep_all a (suc m) = ap (λ z. suc a ∷ z) (keep_all (suc a) m)

-- states

there_shown : (m : Bool) (s : Session) → is_there (state_of (state m s)) ≡ not (gone s)
there_shown m s = go (free s) (gone s) (answered s) (s.closed || has_stop s.came) m (goes s)
  where
    goes : (s : Session) → gone s ≡ false → free s ≡ false
    goes s g = free_goes s g

    go : (f g a c m : Bool) → (g ≡ false → f ≡ false) → is_there (state_of (cond f Free (cond g Left (cond a (cond c Closing Live) (cond m Calling Asked))))) ≡ not g
    go true true a c m h = refl
    go true false a c m h = absurd (true≢false (h refl))
    go false true a c m h = refl
    go false false true true m h = refl
    go false false true false m h = refl
    go false false false c true h = refl
    go false false false c false h = refl

-- a peer's id is known from a start
some_starts : (xs : List Slot) → starter xs ≢ 0 → starts xs ≡ true
some_starts [] n = absurd (n refl)
some_starts (Start to from c size service request ∷ xs) n = refl
some_starts (DataA to from c bytes ∷ xs) n = absurd (n refl)
some_starts (DataB to from c setting ∷ xs) n = absurd (n refl)
some_starts (Attention to from flag ∷ xs) n = absurd (n refl)
some_starts (Reject to from reason ∷ xs) n = absurd (n refl)
some_starts (Stop to from reason ∷ xs) n = absurd (n refl)

peer_starts : (s : Session) (from : ℕ) → from ≢ 0 → nat_eq (peer s) from ≡ true → starts s.came ≡ true
peer_starts s from n h = some_starts s.came (λ z. n (sym (eqb-true (peer s) from h) ∙ z))

-- an id of the table that is used
used_low : (n : ℕ) (e : Sessions) (id : ℕ) → ((i : ℕ) → (i ≡ 0) ⊎ (n < i) → e.at_id i ≡ 0) → e.at_id id ≢ 0 → (1 ≤ id) × (id ≤ n)
used_low n e zero w h = absurd (h (w 0 (inl refl)))
used_low n e (suc i) w h = (omega arith, ⊎_elim {C = suc i ≤ n} (λ l. absurd (h (w (suc i) (inr l)))) (λ l. l) (cases_lt n (suc i)))

any_sessions : (t : Table) (e : Sessions) (from : ℕ) → Stands t e → list_any (has_peer from) t.sessions ≡ list_any (has_peer from) (map (kept_at e) (keep (λ k. true) (upwards 0 (length t.sessions))))
any_sessions t e from st = ap (λ (z : Table). list_any (has_peer from) z.sessions) st.is ∙ ap (λ z. list_any (has_peer from) (map (kept_at e) z)) (sym (keep_all 0 (length t.sessions)))

-- where a session that is there has the peer's id
there_from : (t : Table) (e : Sessions) (from k : ℕ) → Stands t e → gone (e.session k) ≡ false → nat_eq (peer (e.session k)) from ≡ true → list_any (has_peer from) t.sessions ≡ true
there_from t e from k st g q =
    let s : Session = e.session k in
    let at : e.at_id s.id ≡ k = st.good.holds k (free_goes s g) in
    let some : k ≢ 0 = λ z. true≢false (sym (ap (λ j. gone (e.session j)) z ∙ ap gone st.good.none) ∙ g) in
    let low : (1 ≤ s.id) × (s.id ≤ length t.sessions) = used_low (length t.sessions) e s.id st.within (λ z. some (sym at ∙ z)) in
    let same : named e s.id ≡ s = ap e.session at in
    any_sessions t e from st
    ∙ to_list (has_peer from) (kept_at e) (λ k. true) 0 (length t.sessions) s.id low.0 (omega (arith, low.1)) refl
    (and_from (is_there (kept_at e s.id).state) (nat_eq (kept_at e s.id).peer from) (there_shown e.master (named e s.id) ∙ ap (λ z. not (gone z)) same ∙ ap not g) (ap (λ z. nat_eq (peer z) from) same ∙ q))

pub record Found (e : Sessions) (from k : ℕ) : Type 0 where
  pub some : 0 < k
  pub made : k ≤ e.made
  pub there : gone (e.session k) ≡ false
  pub peer : nat_eq (peer (e.session k)) from ≡ true

to_there : (t : Table) (e : Sessions) (from : ℕ) → Stands t e → list_any (has_peer from) t.sessions ≡ true → (k : ℕ) × Found e from k
to_there t e from st h =
    let w : Passes (λ k. true && has_peer from (kept_at e k)) 0 (length t.sessions) = from_list (has_peer from) (kept_at e) (λ k. true) 0 (length t.sessions) (sym (any_sessions t e from st) ∙ h) in
    let a : (is_there (kept_at e w.at).state ≡ true) × (nat_eq (kept_at e w.at).peer from ≡ true) = and_parts (is_there (kept_at e w.at).state) (nat_eq (kept_at e w.at).peer from) w.holds in
    let g : gone (named e w.at) ≡ false = not-true (gone (named e w.at)) (sym (there_shown e.master (named e w.at)) ∙ a.0) in
    let n : e.at_id w.at ≢ 0 = λ z. true≢false (sym (ap (λ j. gone (e.session j)) z ∙ ap gone st.good.none) ∙ g) in
    (e.at_id w.at, record { some = pos (e.at_id w.at) n; made = st.good.at_made w.at; there = g; peer = a.1 })
  where
    pos : (n : ℕ) → n ≢ 0 → 0 < n
    pos zero h = absurd (h refl)
    pos (suc n) h = omega arith

-- a session that runs names the id
pub names_running_is : (t : Table) (e : Sessions) (from : ℕ) → Stands t e → from ≢ 0 → any_up_to (λ k. names_running from (e.session k)) e.made ≡ list_any (has_peer from) t.sessions
names_running_is t e from st n = same_by _ _ to back
  where
    to : any_up_to (λ k. names_running from (e.session k)) e.made ≡ true → list_any (has_peer from) t.sessions ≡ true
    to h =
        let w : Passes (λ k. names_running from (e.session k)) 0 e.made = up_to (λ k. names_running from (e.session k)) e.made h in
        let s : Session = e.session w.at in
        let a : (nat_eq (peer s) from && not (gone s)) ≡ true = (and_parts (starts s.came) (nat_eq (peer s) from && not (gone s)) w.holds).1 in
        let b : (nat_eq (peer s) from ≡ true) × (not (gone s) ≡ true) = and_parts (nat_eq (peer s) from) (not (gone s)) a in
        there_from t e from w.at st (not-true (gone s) b.1) b.0

    back : list_any (has_peer from) t.sessions ≡ true → any_up_to (λ k. names_running from (e.session k)) e.made ≡ true
    back h =
        let w : (k : ℕ) × Found e from k = to_there t e from st h in
        let s : Session = e.session w.0 in
        to_up (λ k. names_running from (e.session k)) e.made w.0 w.1.some w.1.made
        (and_from (starts s.came) (nat_eq (peer s) from && not (gone s)) (peer_starts s from n w.1.peer) (and_from (nat_eq (peer s) from) (not (gone s)) w.1.peer (ap not w.1.there)))

-- at a slave, a session that runs or a reject that waits names the id
pub names_is : (t : Table) (e : Sessions) (from : ℕ) → Stands t e → from ≢ 0 → e.master ≡ false → any_up_to (λ k. names from (e.session k)) e.made ≡ (list_any (has_peer from) t.sessions || list_any (rejects_peer from) t.asks)
names_is t e from st n m = same_by _ _ to back
  where
    asks : t.asks ≡ open_asks e
    asks = ap (λ (z : Table). z.asks) st.is

    rejects : (s : Session) → rejecting s ≡ true → nat_eq (peer s) from ≡ true → rejects_peer from (ask_of s) ≡ true
    rejects s r q = ap (λ b. rejects_peer from (cond b (Rejected (peer s) s.reason) (Waits s.id))) r ∙ q

    rejected : (s : Session) → rejects_peer from (ask_of s) ≡ true → (rejecting s ≡ true) × (nat_eq (peer s) from ≡ true)
    rejected s = go (rejecting s) refl
      where
        go : (b : Bool) → rejecting s ≡ b → rejects_peer from (cond b (Rejected (peer s) s.reason) (Waits s.id)) ≡ true → (rejecting s ≡ true) × (nat_eq (peer s) from ≡ true)
        go true r h = (r, h)
        go false r h = absurd (false≢true h)

    to : any_up_to (λ k. names from (e.session k)) e.made ≡ true → (list_any (has_peer from) t.sessions || list_any (rejects_peer from) t.asks) ≡ true
    to h =
        let w : Passes (λ k. names from (e.session k)) 0 e.made = up_to (λ k. names from (e.session k)) e.made h in
        let s : Session = e.session w.at in
        let a : (nat_eq (peer s) from && (not (gone s) || rejecting s)) ≡ true = (and_parts (starts s.came) (nat_eq (peer s) from && (not (gone s) || rejecting s)) w.holds).1 in
        let b : (nat_eq (peer s) from ≡ true) × ((not (gone s) || rejecting s) ≡ true) = and_parts (nat_eq (peer s) from) (not (gone s) || rejecting s) a in
        ⊎_elim {C = (list_any (has_peer from) t.sessions || list_any (rejects_peer from) t.asks) ≡ true}
        (λ g. or_left (list_any (has_peer from) t.sessions) (list_any (rejects_peer from) t.asks) (there_from t e from w.at st (not-true (gone s) g) b.0))
        (λ r. or_right (list_any (has_peer from) t.sessions) (list_any (rejects_peer from) t.asks)
        (ap (list_any (rejects_peer from)) asks
        ∙ to_list (rejects_peer from) (λ k. ask_of (e.session k)) (ask_is_open e) 0 e.made w.at w.above w.below
        (ap (λ z. not z && (waits s || rejecting s)) m ∙ or_right (waits s) (rejecting s) r) (rejects s r b.0)))
        (or_cases (not (gone s)) (rejecting s) b.1)

    back : (list_any (has_peer from) t.sessions || list_any (rejects_peer from) t.asks) ≡ true → any_up_to (λ k. names from (e.session k)) e.made ≡ true
    back h = ⊎_elim {C = any_up_to (λ k. names from (e.session k)) e.made ≡ true} by_session by_ask (or_cases (list_any (has_peer from) t.sessions) (list_any (rejects_peer from) t.asks) h)
      where
        names_by : (k : ℕ) → 0 < k → k ≤ e.made → nat_eq (peer (e.session k)) from ≡ true → (not (gone (e.session k)) || rejecting (e.session k)) ≡ true → any_up_to (λ k. names from (e.session k)) e.made ≡ true
        names_by k lo hi q g = to_up (λ k. names from (e.session k)) e.made k lo hi
            (and_from (starts (e.session k).came) (nat_eq (peer (e.session k)) from && (not (gone (e.session k)) || rejecting (e.session k))) (peer_starts (e.session k) from n q) (and_from (nat_eq (peer (e.session k)) from) (not (gone (e.session k)) || rejecting (e.session k)) q g))

        by_session : list_any (has_peer from) t.sessions ≡ true → any_up_to (λ k. names from (e.session k)) e.made ≡ true
        by_session h =
            let w : (k : ℕ) × Found e from k = to_there t e from st h in
            names_by w.0 w.1.some w.1.made w.1.peer (or_left (not (gone (e.session w.0))) (rejecting (e.session w.0)) (ap not w.1.there))

        by_ask : list_any (rejects_peer from) t.asks ≡ true → any_up_to (λ k. names from (e.session k)) e.made ≡ true
        by_ask h =
            let w : Passes (λ k. ask_is_open e k && rejects_peer from (ask_of (e.session k))) 0 e.made = from_list (rejects_peer from) (λ k. ask_of (e.session k)) (ask_is_open e) 0 e.made (ap (list_any (rejects_peer from)) (sym asks) ∙ h) in
            let r : (rejecting (e.session w.at) ≡ true) × (nat_eq (peer (e.session w.at)) from ≡ true) = rejected (e.session w.at) (and_parts (ask_is_open e w.at) (rejects_peer from (ask_of (e.session w.at))) w.holds).1 in
            names_by w.at w.above (omega (arith, w.below)) r.1 (or_right (not (gone (e.session w.at))) (rejecting (e.session w.at)) r.0)
