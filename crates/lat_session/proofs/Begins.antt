-- Tables that have no session yet, and those that get one.
use Rattle.std.proofs.Common.{◌≡◌, ℕ, zero, suc, ◌+◌, ◌-◌, ◌<◌, ◌≤◌, sym, ap, ◌∙◌, refl, arith, Bool, true, false, not, cond, ◌&&◌, ◌||◌, List, [], length, map, min, replicate, nat_lt, nat_le, Some, None, Option, slice_set, length-set, lt-ltb, le-ltb}
use Rattle.std.proofs.lemmas.Bool.{true≢false, false≢true, leb-true, leb-false}
use Rattle.std.proofs.lemmas.List.{length-replicate}
use Rattle.std.proofs.lemmas.Option.{same_Some}
use Rattle.lat_model.specs.Lists.{upwards, updated}
use Rattle.lat_model.specs.ends.Starting.{no_sessions}
use Rattle.lat_model.specs.sessions.Hearing.{is_full}
use Rattle.lat_model.specs.sessions.Session.{Session, blank, waits, rejecting}
use Rattle.lat_model.specs.sessions.Sessions.{Sessions, named, held, least_free}
use Rattle.lat_model.specs.sessions.Calls.{Connect, call, connect, new_call}
use Rattle.lat_model.proofs.circuits.Pairs.{void_ok}
use Rattle.lat_model.proofs.sessions.Words.{upd_same, upd_other}
use Rattle.lat_model.proofs.sessions.Made.{least_some}
use Rattle.lat_model.proofs.sessions.Alone.{least_free_low}
use Rattle.lat_stream.specs.Kept.{Kept, stream_of}
use Rattle.lat_session.specs.Table.{Table, table_of, ask_is_open, ask_of, open_asks}
use Rattle.lat_session.specs.Stands.{Stands}
use Rattle.lat_session.specs.declared.ask.Ask.{Ask}
use Rattle.lat_session.proofs.Runs.{map_all, map_set, keep_none}
use Rattle.lat_session.proofs.Stays.{call_stands}

-- the table without a session
abbrev pub empty_table : Bool → ℕ → ℕ → ℕ → Table
empty_table m agreed ceiling n = record { master = m; agreed = agreed; ceiling = ceiling; served = 0; sessions = replicate n (stream_of true ceiling blank); asks = [] }

pub empty_stands : (m : Bool) (agreed ceiling n : ℕ) → agreed ≤ n → n ≤ 64 → Stands (empty_table m agreed ceiling n) (no_sessions m agreed ceiling)
empty_stands m agreed ceiling n l h = record {
  is = ap (λ a. record (empty_table m agreed ceiling n) { agreed = a }) least ∙ ap (λ xs. record (empty_table m (min agreed 64) ceiling n) { sessions = xs }) (sym (map_all (stream_of true ceiling blank) 0 n)) ∙ ap (λ k. table_of k (no_sessions m agreed ceiling)) (sym size);
  good = void_ok m (min agreed 64) ceiling (omega arith);
  small = λ k. tt;
  opens = λ k. refl;
  begun = λ k q. absurd (true≢false q);
  sources = λ k q. absurd (false≢true q);
  apart = λ q. record { one = λ p j k u v. absurd (false≢true u); low = λ p k u. absurd (false≢true u) };
  within = λ i q. refl;
  low = omega (arith, size, h);
  agreed = omega (arith, size, l);
  served = omega arith;
}
  where
    least : agreed ≡ min agreed 64
    least = omega (arith, l, h)

    size : length (replicate n (stream_of true ceiling blank)) ≡ n
    size = length-replicate n (stream_of true ceiling blank)

pub begins : (m : Bool) (agreed ceiling n : ℕ) (sessions : List Kept) (asks : List Ask) → agreed ≤ n → n ≤ 64 → sessions ≡ replicate n (stream_of true ceiling blank) → asks ≡ [] → Stands (record { master = m; agreed = agreed; ceiling = ceiling; served = 0; sessions = sessions; asks = asks }) (no_sessions m agreed ceiling)
begins m agreed ceiling n sessions asks l h p q = rw (p, q) (empty_stands m agreed ceiling n l h)

-- connecting

no_asks : (f : Sessions) → f.master ≡ true → open_asks f ≡ []
no_asks f m = ap (map (λ k. ask_of (f.session k))) (keep_none (ask_is_open f) (upwards 0 f.made) (λ k. ap (λ z. not z && (waits (f.session k) || rejecting (f.session k))) m))

pub connect_stands : (t u : Table) (e : Sessions) (i : ℕ) (k : Kept) (service : List ℕ) (request : Option ℕ)
    → Stands t e → e.master ≡ true → held e < e.agreed → i + 1 ≡ least_free e → i < length t.sessions
    → k ≡ stream_of true e.ceiling (new_call e service request)
    → u ≡ record t { sessions = slice_set t.sessions i k } → Stands u (call e (Connect service request))
connect_stands t u e i k service request st m h p l new is =
    call_stands t u e (Connect service request) st (ap (λ (z : Table). length z.sessions) is ∙ length-set t.sessions i k)
    (is ∙ ap (λ z. record t { sessions = slice_set t.sessions i z }) kept
    ∙ ap (λ (z : Table). record z { sessions = slice_set z.sessions i (stream_of e.master e.ceiling s) }) st.is
    ∙ ap (λ z. record (table_of n e) { sessions = z }) sessions
    ∙ ap (λ z. record (table_of n f) { asks = z }) (no_asks e m ∙ sym (no_asks f m))
    ∙ ap (table_of n) (sym connects))
  where
    n : ℕ
    n = length t.sessions

    f : Sessions
    f = connect e service request

    s : Session
    s = new_call e service request

    connects : call e (Connect service request) ≡ f
    connects = ap (λ b. cond b f e) (ap (λ z. z && nat_lt (held e) e.agreed) m ∙ lt-ltb (held e) e.agreed h)

    kept : k ≡ stream_of e.master e.ceiling s
    kept = new ∙ ap (λ z. stream_of z e.ceiling s) (sym m)

    next : suc 0 + i ≡ least_free e
    next = omega (arith, p)

    old : (j : ℕ) → 0 < j → (j ≡ suc 0 + i → ⊥) → stream_of e.master e.ceiling (named f j) ≡ stream_of e.master e.ceiling (named e j)
    old j b ne =
        ap (λ z. stream_of e.master e.ceiling (updated e.session (suc e.made) s z)) (upd_other e.at_id (least_free e) (suc e.made) j (λ q. ne (q ∙ sym next)))
        ∙ ap (stream_of e.master e.ceiling) (upd_other e.session (suc e.made) s (e.at_id j) (λ q. absurd (omega (arith, q, st.good.at_made j))))

    at_new : named f (suc 0 + i) ≡ s
    at_new = ap (named f) next ∙ ap (updated e.session (suc e.made) s) (upd_same e.at_id (least_free e) (suc e.made)) ∙ upd_same e.session (suc e.made) s

    sessions : slice_set (table_of n e).sessions i (stream_of e.master e.ceiling s) ≡ (table_of n f).sessions
    sessions =
        sym (map_set (λ j. stream_of e.master e.ceiling (named f j)) (λ j. stream_of e.master e.ceiling (named e j)) 0 n i old l
        ∙ ap (λ z. slice_set (table_of n e).sessions i (stream_of e.master e.ceiling z)) at_new)

-- the place that is found for it, where the agreed number isn't held

positive : (n : ℕ) → (n ≡ 0 → ⊥) → 0 < n
positive zero f = absurd (f refl)
positive (suc n) f = omega arith

pub free_at : (t : Table) (e : Sessions) (i : ℕ) → Stands t e → Some i ≡ cond (is_full e) None (Some (least_free e - 1)) → (held e < e.agreed) × (i + 1 ≡ least_free e) × (i < length t.sessions)
free_at t e i st h = go (nat_le e.agreed (held e)) refl h
  where
    go : (b : Bool) → nat_le e.agreed (held e) ≡ b → Some i ≡ cond b None (Some (least_free e - 1)) → (held e < e.agreed) × (i + 1 ≡ least_free e) × (i < length t.sessions)
    go true w q = let z : ⊥ = cc in absurd z
    go false w q =
        let less : held e < e.agreed = leb-false e.agreed (held e) w in
        let at : i ≡ least_free e - 1 = same_Some i (least_free e - 1) q in
        let pos : 0 < least_free e = positive (least_free e) (least_some e less st.good.agreed) in
        (less, omega (arith, at, pos), omega (arith, at, pos, least_free_low e less st.good.agreed, st.agreed))

pub none_free : (e : Sessions) → None ≡ cond (is_full e) None (Some (least_free e - 1)) → nat_lt (held e) e.agreed ≡ false
none_free e h = go (nat_le e.agreed (held e)) refl h
  where
    go : (b : Bool) → nat_le e.agreed (held e) ≡ b → None ≡ cond b None (Some (least_free e - 1)) → nat_lt (held e) e.agreed ≡ false
    go true w q = le-ltb (held e) e.agreed (leb-true e.agreed (held e) w)
    go false w q = let z : ⊥ = cc in absurd z
