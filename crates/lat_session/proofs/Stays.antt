-- What a local call keeps of the sessions that a table stands for.
use Rattle.std.proofs.Common.{◌≡◌, ◌≢◌, ℕ, zero, suc, ◌+◌, ◌<◌, ◌≤◌, sym, ap, ◌∙◌, refl, subst, arith, Bool, true, false, not, cond, ◌&&◌, ◌||◌, List, [], ◌∷◌, length, map, take, Some, nat_lt, slice_set, slice_get, length-set, ◌⊎◌}
use Rattle.std.proofs.lemmas.Bool.{and_parts, true≢false, false≢true}
use Rattle.lat_model.specs.Lists.{is_empty}
use Rattle.lat_model.specs.sessions.Slots.{Byte, Setting, starts, turned}
use Rattle.lat_model.specs.sessions.Session.{Session, waits, rejecting, put_open, take_open, unframed, peer}
use Rattle.lat_model.specs.sessions.Sessions.{Sessions, named, held}
use Rattle.lat_model.specs.sessions.Calls.{Call, Connect, Put, Set, Attend, Take, Close, Answer, RejectAsk, call, new_call, connect, touch, put_items, put_count, take_count, answer, reject}
use Rattle.lat_model.proofs.sessions.Words.{upd_all}
use Rattle.lat_model.proofs.sessions.Locals.{called}
use Rattle.lat_model.proofs.sessions.Smalls.{call_small}
use Rattle.lat_model.proofs.sessions.Peers.{call_apart}
use Rattle.lat_model.proofs.sessions.Low.{call_within}
use Rattle.lat_stream.specs.Kept.{Kept, stream_of}
use Rattle.lat_stream.specs.Sound.{Sound}
use Rattle.lat_session.specs.Table.{Table, table_of, session_at, ask_of, open_asks}
use Rattle.lat_session.specs.declared.ask.Ask.{Ask}
use Rattle.lat_session.specs.Stands.{Stands}
use Rattle.lat_session.proofs.Touch.{sessions_touched, asks_touched, kept_here}

pub sound_at : (t : Table) (e : Sessions) (k : ℕ) → Stands t e → Sound e.master e.ceiling (e.session k)
sound_at t e k st = record { shape = st.good.each k; accounts = st.good.accounts k; small = st.small k; opens = st.opens k; begun = st.begun k }

-- how a session began
abbrev pub Began : Bool → Session → Type 0
Began m s = (is_empty s.came || (starts s.came || turned s.came) ≡ true) × (s.rejects ≡ false → cond m s.accepted (starts s.came) ≡ true) × (starts s.came ≡ true → peer s ≢ 0)

abbrev pub AllBegan : Sessions → Type 0
AllBegan e = (k : ℕ) → Began e.master (e.session k)

cond_began : (b : Bool) (x y : Sessions) → (b ≡ true → AllBegan x) → AllBegan y → AllBegan (cond b x y)
cond_began true x y h k = h refl
cond_began false x y h k = k

touch_began : (e : Sessions) (k : ℕ) (s : Session) → Began e.master s → AllBegan e → AllBegan (touch e k s)
touch_began e k s h a = upd_all (Began e.master) e.session k s h a

began_accepted : (m : Bool) (s : Session) → Began m s → Began m (record s { accepted = true })
began_accepted true s h = (h.0, λ q. refl, h.2)
began_accepted false s h = (h.0, h.1, h.2)

call_began : (e : Sessions) (c : Call) → AllBegan e → AllBegan (call e c)
call_began e (Connect service request) a =
    cond_began (e.master && nat_lt (held e) e.agreed) (connect e service request) e
    (λ h. upd_all (Began e.master) e.session (suc e.made) (new_call e service request) (refl, λ q. ap (λ m. cond m true false) (and_parts e.master (nat_lt (held e) e.agreed) h).0, λ q. absurd (false≢true q)) a) a
call_began e (Put id bs) a = cond_began (put_open (named e id)) _ e (λ h. touch_began e (e.at_id id) (put_items (named e id) (map Byte (take (put_count (named e id) (length bs)) bs))) (a (e.at_id id)) a) a
call_began e (Set id t) a = cond_began (put_open (named e id) && nat_lt (length (unframed (named e id))) 4096) _ e (λ h. touch_began e (e.at_id id) (put_items (named e id) (Setting t ∷ [])) (a (e.at_id id)) a) a
call_began e (Attend id flag) a = cond_began (put_open (named e id)) _ e (λ h. touch_began e (e.at_id id) (record (named e id) { attention = Some flag }) (a (e.at_id id)) a) a
call_began e (Take id n) a = cond_began (take_open (named e id)) _ e (λ h. touch_began e (e.at_id id) (record (named e id) { taken = (named e id).taken + take_count (named e id) n }) (a (e.at_id id)) a) a
call_began e (Close id) a = cond_began (take_open (named e id)) _ e (λ h. touch_began e (e.at_id id) (record (named e id) { closed = true }) (a (e.at_id id)) a) a
call_began e (Answer id) a = cond_began (not e.master && waits (named e id)) (answer e id) e (λ h. touch_began e (e.at_id id) (record (named e id) { accepted = true }) (began_accepted e.master (named e id) (a (e.at_id id))) a) a
call_began e (RejectAsk id reason) a = cond_began (not e.master && waits (named e id)) (reject e id reason) e (λ h. touch_began e (e.at_id id) (record (named e id) { rejects = true; reason = reason }) ((a (e.at_id id)).0, λ q. absurd (true≢false q), (a (e.at_id id)).2) a) a

-- what no call changes
record Same (e f : Sessions) : Type 0 where
  pub master : f.master ≡ e.master
  pub ceiling : f.ceiling ≡ e.ceiling
  pub agreed : f.agreed ≡ e.agreed
  pub served : f.served ≡ e.served

cond_same : (b : Bool) (e x : Sessions) → Same e x → Same e (cond b x e)
cond_same true e x h = h
cond_same false e x h = record { master = refl; ceiling = refl; agreed = refl; served = refl }

call_same : (e : Sessions) (c : Call) → Same e (call e c)
call_same e (Connect service request) = cond_same (e.master && nat_lt (held e) e.agreed) e (connect e service request) (record { master = refl; ceiling = refl; agreed = refl; served = refl })
call_same e (Put id bs) = cond_same (put_open (named e id)) e _ (record { master = refl; ceiling = refl; agreed = refl; served = refl })
call_same e (Set id t) = cond_same (put_open (named e id) && nat_lt (length (unframed (named e id))) 4096) e _ (record { master = refl; ceiling = refl; agreed = refl; served = refl })
call_same e (Attend id flag) = cond_same (put_open (named e id)) e _ (record { master = refl; ceiling = refl; agreed = refl; served = refl })
call_same e (Take id n) = cond_same (take_open (named e id)) e _ (record { master = refl; ceiling = refl; agreed = refl; served = refl })
call_same e (Close id) = cond_same (take_open (named e id)) e _ (record { master = refl; ceiling = refl; agreed = refl; served = refl })
call_same e (Answer id) = cond_same (not e.master && waits (named e id)) e _ (record { master = refl; ceiling = refl; agreed = refl; served = refl })
call_same e (RejectAsk id reason) = cond_same (not e.master && waits (named e id)) e _ (record { master = refl; ceiling = refl; agreed = refl; served = refl })

-- the table that keeps what the call makes stands for it
pub call_stands : (t u : Table) (e : Sessions) (c : Call) → Stands t e → length u.sessions ≡ length t.sessions → u ≡ table_of (length t.sessions) (call e c) → Stands u (call e c)
call_stands t u e c st size is =
    let same : Same e (call e c) = call_same e c in
    let began : AllBegan (call e c) = call_began e c (λ k. (st.opens k, st.begun k, st.sources k)) in
    record {
      is = is ∙ ap (λ n. table_of n (call e c)) (sym size);
      good = (called e c st.good).ok;
      small = call_small e c st.small;
      opens = λ k. (began k).0;
      begun = λ k. (began k).1;
      sources = λ k. (began k).2;
      apart = λ m. call_apart e c (sym same.master ∙ m) st.good (st.apart (sym same.master ∙ m));
      within = λ i h. call_within (length t.sessions) e c st.good st.agreed st.within i (subst (λ n. (i ≡ 0) ⊎ (n < i)) size h);
      low = subst (λ n. n ≤ 64) (sym size) st.low;
      agreed = subst (λ n. (call e c).agreed ≤ n) (sym size) (subst (λ a. a ≤ length t.sessions) (sym same.agreed) st.agreed);
      served = subst (λ n. (call e c).served ≤ n) (sym size) (subst (λ a. a ≤ length t.sessions) (sym same.served) st.served);
    }

set_same : {A : Type 0} (xs : List A) (i : ℕ) (x : A) → slice_get xs i ≡ Some x → slice_set xs i x ≡ xs
set_same [] i x h = refl
set_same (y ∷ ys) zero x h = ap (λ z. z ∷ ys) (same y x h)
  where
    same : {A : Type 0} (y x : A) → Some y ≡ Some x → x ≡ y
    same y x q = cc
set_same (y ∷ ys) (suc i) x h = ap (λ z. y ∷ z) (set_same ys i x h)

-- a call that changes the session of one id
pub changed_stands : (t u : Table) (e : Sessions) (c : Call) (i id : ℕ) (k : Kept) (b : Bool) (s : Session) (asks : List Ask)
    → Stands t e → i + 1 ≡ id → i < length t.sessions
    → call e c ≡ cond b (touch e (e.at_id id) s) e
    → (b ≡ true → e.at_id id ≡ 0 → ⊥)
    → (b ≡ true → asks ≡ open_asks (touch e (e.at_id id) s)) → (b ≡ false → asks ≡ t.asks)
    → (b ≡ true → k ≡ stream_of e.master e.ceiling s) → (b ≡ false → k ≡ stream_of e.master e.ceiling (named e id))
    → u ≡ record t { sessions = slice_set t.sessions i k; asks = asks } → Stands u (call e c)
changed_stands t u e c i id k b s asks st p l q some as_new as_old new old is =
    call_stands t u e c st (ap (λ (z : Table). length z.sessions) is ∙ length-set t.sessions i k) (is ∙ go b q some as_new as_old new old)
  where
    n : ℕ
    n = length t.sessions

    next : suc i ≡ id
    next = omega (arith, p)

    here : slice_get t.sessions i ≡ Some (stream_of e.master e.ceiling (named e id))
    here = ap (session_at t) next ∙ kept_here t e i id st p l

    go : (b : Bool) → call e c ≡ cond b (touch e (e.at_id id) s) e → (b ≡ true → e.at_id id ≡ 0 → ⊥) → (b ≡ true → asks ≡ open_asks (touch e (e.at_id id) s)) → (b ≡ false → asks ≡ t.asks) → (b ≡ true → k ≡ stream_of e.master e.ceiling s) → (b ≡ false → k ≡ stream_of e.master e.ceiling (named e id)) → record t { sessions = slice_set t.sessions i k; asks = asks } ≡ table_of n (call e c)
    go true q some as_new as_old new old =
        let f : Sessions = touch e (e.at_id id) s in
        let ss : slice_set (table_of n e).sessions i (stream_of e.master e.ceiling s) ≡ (table_of n f).sessions =
        sym (sessions_touched n i e s st.good l (λ z. some refl (sym (ap e.at_id next) ∙ z))) ∙ ap (λ j. (table_of n (touch e (e.at_id j) s)).sessions) next in
        ap (λ z. record t { sessions = slice_set t.sessions i z; asks = asks }) (new refl)
        ∙ ap (λ (z : Table). record z { sessions = slice_set z.sessions i (stream_of e.master e.ceiling s); asks = asks }) st.is
        ∙ ap (λ z. record (table_of n e) { sessions = z; asks = asks }) ss
        ∙ ap (λ z. record (table_of n f) { asks = z }) (as_new refl)
        ∙ ap (table_of n) (sym q)
    go false q some as_new as_old new old =
        ap (λ z. record t { sessions = z; asks = asks }) (ap (slice_set t.sessions i) (old refl) ∙ set_same t.sessions i (stream_of e.master e.ceiling (named e id)) here)
        ∙ ap (λ z. record t { asks = z }) (as_old refl)
        ∙ st.is ∙ ap (table_of n) (sym q)

-- a call that leaves the ask of the session as it is
pub touched_stands : (t u : Table) (e : Sessions) (c : Call) (i id : ℕ) (k : Kept) (b : Bool) (s : Session)
    → Stands t e → i + 1 ≡ id → i < length t.sessions
    → call e c ≡ cond b (touch e (e.at_id id) s) e
    → (b ≡ true → e.at_id id ≡ 0 → ⊥)
    → (waits s || rejecting s) ≡ (waits (named e id) || rejecting (named e id)) → ask_of s ≡ ask_of (named e id)
    → (b ≡ true → k ≡ stream_of e.master e.ceiling s) → (b ≡ false → k ≡ stream_of e.master e.ceiling (named e id))
    → u ≡ record t { sessions = slice_set t.sessions i k } → Stands u (call e c)
touched_stands t u e c i id k b s st p l q some o a new old is =
    changed_stands t u e c i id k b s t.asks st p l q some
    (λ h. ap (λ (z : Table). z.asks) st.is ∙ sym (asks_touched e (e.at_id id) s o a)) (λ h. refl) new old is

-- one that does nothing
pub nothing_stands : (t : Table) (e x : Sessions) (b : Bool) → b ≡ false → Stands t e → Stands t (cond b x e)
nothing_stands t e x b h st = subst (λ z. Stands t (cond z x e)) (sym h) st
