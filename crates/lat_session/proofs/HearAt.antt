-- A session of the table hears a slot.
use Rattle.std.proofs.Common.{◌≡◌, ◌≢◌, ℕ, ◌+◌, ◌-◌, ◌<◌, ◌≤◌, sym, ap, ◌∙◌, refl, subst, arith, Bool, true, false, not, cond, ◌&&◌, ◌||◌, List, [], ◌∷◌, ◌++◌, length, map, set, Option, Some, None, Result, Ok, Err, OnOk, is_ok, nat_eq, nat_le, length-set}
use Rattle.std.proofs.lemmas.Bool.{true≢false, false≢true, and_parts, or_parts, not-true}
use Rattle.std.specs.Option.{is_some}
use Rattle.lat_model.specs.Lists.{upwards, is_empty}
use Rattle.lat_model.specs.sessions.Slots.{Slot, Start, DataA, DataB, Attention, Reject, Stop, destination, source, is_start, is_reject, is_stop, items_of, starts, starter, turned, has_stop, credits, costs, cost_of}
use Rattle.lat_model.specs.sessions.Session.{Session, answered, peer, rejected, stopped, gone, runs, waits, rejecting, blank}
use Rattle.lat_model.specs.sessions.Sessions.{Sessions, named}
use Rattle.lat_model.specs.sessions.Hearing.{heard, hear_at, hear_behind, behind_fits, hear_slot}
use Rattle.lat_model.specs.sessions.EndOk.{IdsWithin}
use Rattle.lat_model.proofs.sessions.Words.{upd_same, upd_other, upd_all}
use Rattle.lat_model.proofs.sessions.Alone.{hear_alone}
use Rattle.lat_model.proofs.sessions.Smalls.{hear_small}
use Rattle.lat_model.proofs.sessions.Peers.{hear_apart}
use Rattle.lat_model.proofs.sessions.Low.{hear_within}
use Rattle.lat_stream.specs.Kept.{Kept, stream_of}
use Rattle.lat_session.specs.Table.{Table, table_of, ask_is_open, open_asks}
use Rattle.lat_session.specs.Stands.{Stands, AllOpen, AllBegun, AllSources}
use Rattle.lat_session.specs.Hears.{Hears}
use Rattle.lat_session.proofs.PackTable.{Changed, kept_at, changed_sessions, changed_asks}
use Rattle.lat_session.proofs.PackTurn.{answered_closed}

-- what a slot that can be written is like
pub record Fair (m : Bool) (x : Slot) : Type 0 where
  pub sends : is_start x ≡ true → source x ≢ 0
  pub byte : m ≡ false → source x < 256
  pub small : length (items_of x) ≤ 255

-- the table that keeps what is heard stands for it
pub hear_stands : (t u : Table) (e f : Sessions) (x : Slot) → Stands t e → Fair e.master x → hear_slot e x ≡ Some f → AllOpen f → AllBegun f → AllSources f → f.master ≡ e.master → f.agreed ≡ e.agreed → f.served ≡ e.served → length u.sessions ≡ length t.sessions → u ≡ table_of (length t.sessions) f → Stands u f
hear_stands t u e f x st w h opens begun sources m a s l is = record {
  is = is ∙ ap (λ n. table_of n f) (sym l);
  good = hear_alone e f x w.sends st.good h;
  small = hear_small e f x w.small st.small h;
  opens = opens;
  begun = begun;
  sources = sources;
  apart = λ q. hear_apart e f x (sym m ∙ q) st.good (st.apart (sym m ∙ q)) (w.byte (sym m ∙ q)) h;
  within = subst (λ n. IdsWithin n f) (sym l) (hear_within (length t.sessions) e f x st.good st.agreed st.within h);
  low = subst (λ n. n ≤ 64) (sym l) st.low;
  agreed = subst (λ n. f.agreed ≤ n) (sym l) (subst (λ n. n ≤ length t.sessions) (sym a) st.agreed);
  served = subst (λ n. f.served ≤ n) (sym l) (subst (λ n. n ≤ length t.sessions) (sym s) st.served);
}

-- how it began stays; or it is a master's, and this is the first slot that it hears
pub record Goes (m : Bool) (s : Session) (x : Slot) : Type 0 where
  pub opens : (is_empty (s.came ++ x ∷ []) || (starts (s.came ++ x ∷ []) || turned (s.came ++ x ∷ []))) ≡ true
  pub begun : s.rejects ≡ false → cond m s.accepted (starts (s.came ++ x ∷ [])) ≡ true
  pub sources : starts (s.came ++ x ∷ []) ≡ true → starter (s.came ++ x ∷ []) ≢ 0
  pub starts : starts s.came ≡ true → starts (s.came ++ x ∷ []) ≡ true

pub goes : (m : Bool) (s : Session) (x : Slot) → (is_empty s.came || (starts s.came || turned s.came)) ≡ true → (s.rejects ≡ false → cond m s.accepted (starts s.came) ≡ true) → (starts s.came ≡ true → peer s ≢ 0) → (is_start x ≡ true → source x ≢ 0) → (s.came ≡ [] → (m ≡ true) × ((is_start x || is_reject x) ≡ true)) → Goes m s x
goes m s x o b n w f = record { opens = opened s.came o f; begun = begins s.came b f; starts = started s.came; sources = sources s.came n }
  where
    opened : (xs : List Slot) → (is_empty xs || (starts xs || turned xs)) ≡ true → (xs ≡ [] → (m ≡ true) × ((is_start x || is_reject x) ≡ true)) → (is_empty (xs ++ x ∷ []) || (starts (xs ++ x ∷ []) || turned (xs ++ x ∷ []))) ≡ true
    opened [] o f = (f refl).1
    opened (y ∷ ys) o f = o

    begins : (xs : List Slot) → (s.rejects ≡ false → cond m s.accepted (starts xs) ≡ true) → (xs ≡ [] → (m ≡ true) × ((is_start x || is_reject x) ≡ true)) → s.rejects ≡ false → cond m s.accepted (starts (xs ++ x ∷ [])) ≡ true
    begins [] b f r = ap (λ c. cond c s.accepted (is_start x)) (f refl).0 ∙ sym (ap (λ c. cond c s.accepted false) (f refl).0) ∙ b r
    begins (y ∷ ys) b f r = b r

    started : (xs : List Slot) → starts xs ≡ true → starts (xs ++ x ∷ []) ≡ true
    started [] h = absurd (false≢true h)
    started (y ∷ ys) h = h

    sent : (y : Slot) → is_start y ≡ true → starter (y ∷ []) ≡ source y
    sent (Start to from c size service request) h = refl
    sent (DataA to from c bytes) h = absurd (false≢true h)
    sent (DataB to from c setting) h = absurd (false≢true h)
    sent (Attention to from flag) h = absurd (false≢true h)
    sent (Reject to from reason) h = absurd (false≢true h)
    sent (Stop to from reason) h = absurd (false≢true h)

    first : (y : Slot) (ys zs : List Slot) → starter (y ∷ ys) ≡ starter (y ∷ zs)
    first (Start to from c size service request) ys zs = refl
    first (DataA to from c bytes) ys zs = refl
    first (DataB to from c setting) ys zs = refl
    first (Attention to from flag) ys zs = refl
    first (Reject to from reason) ys zs = refl
    first (Stop to from reason) ys zs = refl

    sources : (xs : List Slot) → (starts xs ≡ true → starter xs ≢ 0) → starts (xs ++ x ∷ []) ≡ true → starter (xs ++ x ∷ []) ≢ 0
    sources [] n h z = w h (sym (sent x h) ∙ z)
    sources (y ∷ ys) n h z = n h (first y ys (ys ++ x ∷ []) ∙ z)

changed_heard : (e : Sessions) (k : ℕ) (x : Slot) → Changed e (hear_at e k x) k (heard (e.session k) x)
changed_heard e k x = record {
  master = refl;
  ceiling = refl;
  agreed = refl;
  made = refl;
  at_id = refl;
  same = upd_same e.session k (heard (e.session k) x);
  other = λ j n. upd_other e.session k (heard (e.session k) x) j n;
}

-- a session of an id hears a slot
pub at_stands : (t u : Table) (e : Sessions) (i id : ℕ) (k : Kept) (x : Slot) → Stands t e → Fair e.master x → hear_slot e x ≡ Some (hear_at e (e.at_id id) x) → i + 1 ≡ id → i < length t.sessions → e.at_id id ≢ 0 →
    Goes e.master (named e id) x → (ask_is_open e (e.at_id id) ≡ false) × ((not e.master && (waits (heard (named e id) x) || rejecting (heard (named e id) x))) ≡ false) →
    k ≡ stream_of e.master e.ceiling (heard (named e id) x) →
    u ≡ record t { sessions = set t.sessions i k } → Stands u (hear_at e (e.at_id id) x)
at_stands t u e i id k x st w h next less some g closed kept is =
    let n : ℕ = length t.sessions in
    let j : ℕ = e.at_id id in
    let f : Sessions = hear_at e j x in
    let c : Changed e f j (heard (named e id) x) = changed_heard e j x in
    let at : id - 1 ≡ i = omega (arith, next) in
    let after : ask_is_open f j ≡ false = ap (λ (z : Session). not e.master && (waits z || rejecting z)) c.same ∙ closed.1 in
    let asks : open_asks f ≡ open_asks e = changed_asks e f j (heard (named e id) x) c (closed.0 ∙ sym after) (λ q. absurd (true≢false (sym q ∙ closed.0))) in
    let kept_all : map (kept_at f) (upwards 0 n) ≡ set (map (kept_at e) (upwards 0 n)) i (stream_of e.master e.ceiling (heard (named e id) x)) =
    changed_sessions n id e f (heard (named e id) x) st.good some (omega (arith, next)) (omega (arith, next, less)) c ∙ ap (λ z. set (map (kept_at e) (upwards 0 n)) z (stream_of e.master e.ceiling (heard (named e id) x))) at in
    let new : record (table_of n e) { sessions = set (table_of n e).sessions i (stream_of e.master e.ceiling (heard (named e id) x)) } ≡ table_of n f =
    ap (λ z. record (table_of n e) { sessions = z }) (sym kept_all) ∙ ap (λ z. record (table_of n f) { asks = z }) (sym asks) in
    hear_stands t u e f x st w h (λ y. upd_all (λ z. (is_empty z.came || (starts z.came || turned z.came)) ≡ true) e.session j (heard (named e id) x) g.opens st.opens y)
    (λ y. upd_all (λ z. z.rejects ≡ false → cond e.master z.accepted (starts z.came) ≡ true) e.session j (heard (named e id) x) g.begun st.begun y)
    (λ y. upd_all (λ z. starts z.came ≡ true → peer z ≢ 0) e.session j (heard (named e id) x) g.sources st.sources y)
    refl refl refl (ap (λ (z : Table). length z.sessions) is ∙ length-set t.sessions i k)
    (is ∙ ap (λ z. record t { sessions = set t.sessions i z }) kept ∙ ap (λ (z : Table). record z { sessions = set z.sessions i (stream_of e.master e.ceiling (heard (named e id) x)) }) st.is ∙ new)

pub heard_to : {A E : Type 0} (u : Table) (result : Result A E) (o : Option Sessions) (f : Sessions) → o ≡ Some f → is_ok result ≡ true → Stands u f → Hears u result o
heard_to u result o f q r st = record { answer = r ∙ sym (ap is_some q); state = λ g h. subst (Stands u) (same (sym q ∙ h)) st }
  where
    same : {g : Sessions} → Some f ≡ Some g → f ≡ g
    same h = cc

pub heard_bad : {A E : Type 0} (u : Table) (result : Result A E) (o : Option Sessions) → o ≡ None → is_ok result ≡ false → Hears u result o
heard_bad u result o q r = record { answer = r ∙ sym (ap is_some q); state = λ g h. absurd (false≢true (sym (ap is_some q) ∙ ap is_some h)) }

-- data, attention or stop

runs_of : (s : Session) (x : Slot) → behind_fits s x ≡ true → runs s ≡ true
runs_of s x q =
    (and_parts (runs s) _ (and_parts (runs s && not (has_stop s.came)) _ (and_parts (runs s && not (has_stop s.came) && (nat_eq (source x) (peer s) || (is_stop x && nat_eq (source x) 0))) _ (and_parts (runs s && not (has_stop s.came) && (nat_eq (source x) (peer s) || (is_stop x && nat_eq (source x) 0)) && nat_le (costs s.came + cost_of x) (credits s.out)) _ q).0).0).0).0

starts_some : (xs : List Slot) → starts xs ≡ true → xs ≡ [] → ⊥
starts_some xs h q = false≢true (sym (ap starts q) ∙ h)

closed_by : (m : Bool) (b : Bool) → b ≡ false → (not m && b) ≡ false
closed_by true b h = refl
closed_by false b h = h

-- no session has the id
pub behind_nowhere : {A E : Type 0} (u : Table) (e : Sessions) (id : ℕ) (x : Slot) (result : Result A E) → named e id ≡ blank → destination x ≡ id → is_ok result ≡ false → Hears u result (hear_behind e x)
behind_nowhere u e id x result b d r =
    heard_bad u result (hear_behind e x) (ap (λ i. cond (behind_fits (named e i) x) (Some (hear_at e (e.at_id i) x)) None) d ∙ ap (λ s. cond (behind_fits s x) (Some (hear_at e (e.at_id id) x)) None) b) r

pub behind_hears : {A E : Type 0} (t u : Table) (e : Sessions) (i id : ℕ) (k : Kept) (x : Slot) (result : Result A E) → Stands t e → Fair e.master x → hear_slot e x ≡ hear_behind e x → destination x ≡ id → i + 1 ≡ id → i < length t.sessions →
    is_ok result ≡ behind_fits (named e id) x →
    (is_ok result ≡ true → k ≡ stream_of e.master e.ceiling (heard (named e id) x)) →
    u ≡ record t { sessions = set t.sessions i k } → Hears u result (hear_behind e x)
behind_hears {A} {E} t u e i id k x result st w hears d next less answer kept is = go (behind_fits s x) refl
  where
    s : Session
    s = named e id

    at : hear_behind e x ≡ cond (behind_fits s x) (Some (hear_at e (e.at_id id) x)) None
    at = ap (λ j. cond (behind_fits (named e j) x) (Some (hear_at e (e.at_id j) x)) None) d

    go : (b : Bool) → behind_fits s x ≡ b → Hears u result (hear_behind e x)
    go true q =
        let some : hear_behind e x ≡ Some (hear_at e (e.at_id id) x) = at ∙ ap (λ b. cond b (Some (hear_at e (e.at_id id) x)) None) q in
        let r : (answered s ≡ true) × (not (gone s) ≡ true) = and_parts (answered s) (not (gone s)) (runs_of s x q) in
        let rejects : s.rejects ≡ false = (or_parts s.rejects (turned s.came) (or_parts (rejected s) (stopped s) (not-true (gone s) r.1)).0).0 in
        let st0 : (s.accepted ≡ true) × (starts s.came ≡ true) = and_parts s.accepted (starts s.came) r.0 in
        let g : Goes e.master s x = goes e.master s x (st.opens (e.at_id id)) (st.begun (e.at_id id)) (st.sources (e.at_id id)) w.sends (λ z. absurd (starts_some s.came st0.1 z)) in
        let a : answered (heard s x) ≡ true = ap (λ b. b && starts (s.came ++ x ∷ [])) st0.0 ∙ g.starts st0.1 in
        let used : e.at_id id ≢ 0 = λ z. false≢true (sym (ap not (ap (λ j. gone (e.session j)) z ∙ ap gone st.good.none)) ∙ r.1) in
        heard_to u result (hear_behind e x) (hear_at e (e.at_id id) x) some (answer ∙ q)
        (at_stands t u e i id k x st w (hears ∙ some) next less used g (closed_by e.master _ (answered_closed s r.0 rejects), closed_by e.master _ (answered_closed (heard s x) a rejects)) (kept (answer ∙ q)) is)
    go false q =
        heard_bad u result (hear_behind e x) (at ∙ ap (λ b. cond b (Some (hear_at e (e.at_id id) x)) None) q) (answer ∙ q)

-- a fact of a good result
pub on_ok : {A E : Type 0} (result : Result A E) (P : Type 0) → OnOk result P → is_ok result ≡ true → P
on_ok (Ok x) P h q = h
on_ok (Err x) P h q = absurd (false≢true q)
