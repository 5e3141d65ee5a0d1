-- Whether an ask is bad, as the table tells.
use Rattle.std.proofs.Common.{◌≡◌, ◌≢◌, ℕ, zero, suc, ◌+◌, ◌-◌, ◌<◌, ◌≤◌, sym, ap, ◌∙◌, refl, arith, Bool, true, false, cond, ◌||◌, List, [], ◌∷◌, ◌++◌, length, set, Some, None, Result, is_ok, nat_lt, nat_le, ltb-false, leb-false, ltb-true, length-append}
use Rattle.std.specs.List.{list_any, All}
use Rattle.std.proofs.lemmas.List.Elements.{All-push}
use Rattle.std.proofs.lemmas.Bool.Decides.{nat_tests}
use Rattle.std.proofs.lemmas.Bool.{true≢false, or_left, or_right}
use Rattle.lat_model.specs.Lists.{any_up_to}
use Rattle.lat_model.specs.sessions.Sessions.{Sessions, held, least_free}
use Rattle.lat_model.specs.sessions.Hearing.{names, is_full, asked_session, ask_in, hear_slot}
use Rattle.lat_model.proofs.sessions.Made.{least_some}
use Rattle.lat_model.proofs.sessions.Alone.{least_free_low}
use Rattle.lat_stream.specs.Begins.{asked}
use Rattle.lat_stream.specs.Kept.{Kept, stream_of}
use Rattle.lat_stream.specs.declared.opening.Opening.{Opening}
use Rattle.lat_session.specs.declared.ask.Ask.{Ask}
use Rattle.lat_session.specs.declared.ask.Ask.TheVariants.{Waits, Rejected}
use Rattle.lat_session.specs.Table.{Table, table_of, open_asks, reason_of}
use Rattle.lat_session.specs.Stands.{Stands}
use Rattle.lat_session.specs.Hears.{Hears, has_peer, rejects_peer}
use Rattle.lat_session.proofs.HearAt.{heard_to, heard_bad}
use Rattle.lat_session.proofs.HearNames.{names_is}
use Rattle.lat_session.proofs.HearAsk.{asks_for, ask_stands, full_table, free_table}
use Rattle.lat_session.proofs.HearRoom.{asks_room}

abbrev pub any_names : Sessions → ℕ → Bool
any_names e from = any_up_to (λ k. names from (e.session k)) e.made

bad : (e : Sessions) (o : Opening) (from c size : ℕ) → (e.master || any_names e from) ≡ true → hear_slot e (asks_for from c size o.service o.request) ≡ None
bad e o from c size h = ap (λ b. cond b None (Some (ask_in e (asks_for from c size o.service o.request) o.service o.request))) h

slave_of : (t : Table) (e : Sessions) → Stands t e → t.master ≡ e.master
slave_of t e st = ap (λ (z : Table). z.master) st.is

pub bad_master : {A E : Type 0} (t u : Table) (e : Sessions) (o : Opening) (from c size : ℕ) (result : Result A E) → Stands t e → t.master ≡ true → is_ok result ≡ false → Hears u result (hear_slot e (asks_for from c size o.service o.request))
bad_master t u e o from c size result st m r = heard_bad u result _ (bad e o from c size (ap (λ b. b || any_names e from) (sym (slave_of t e st) ∙ m))) r

-- at a slave
by_names : (t : Table) (e : Sessions) (from : ℕ) → Stands t e → 1 ≤ from → t.master ≡ false → any_names e from ≡ (list_any (has_peer from) t.sessions || list_any (rejects_peer from) t.asks)
by_names t e from st lo m = names_is t e from st (λ z. absurd (omega (arith, lo, z))) (sym (slave_of t e st) ∙ m)

bad_names : {A E : Type 0} (u : Table) (e : Sessions) (o : Opening) (from c size : ℕ) (result : Result A E) → any_names e from ≡ true → is_ok result ≡ false → Hears u result (hear_slot e (asks_for from c size o.service o.request))
bad_names u e o from c size result h r = heard_bad u result _ (bad e o from c size (or_right e.master (any_names e from) h)) r

pub bad_peer : {A E : Type 0} (t u : Table) (e : Sessions) (o : Opening) (from c size : ℕ) (result : Result A E) → Stands t e → 1 ≤ from → t.master ≡ false → list_any (has_peer from) t.sessions ≡ true → is_ok result ≡ false → Hears u result (hear_slot e (asks_for from c size o.service o.request))
bad_peer t u e o from c size result st lo m h r = bad_names u e o from c size result (by_names t e from st lo m ∙ or_left (list_any (has_peer from) t.sessions) (list_any (rejects_peer from) t.asks) h) r

pub bad_reject : {A E : Type 0} (t u : Table) (e : Sessions) (o : Opening) (from c size : ℕ) (result : Result A E) → Stands t e → 1 ≤ from → t.master ≡ false → list_any (rejects_peer from) t.asks ≡ true → is_ok result ≡ false → Hears u result (hear_slot e (asks_for from c size o.service o.request))
bad_reject t u e o from c size result st lo m h r = bad_names u e o from c size result (by_names t e from st lo m ∙ or_right (list_any (has_peer from) t.sessions) (list_any (rejects_peer from) t.asks) h) r

no_names : (t : Table) (e : Sessions) (from : ℕ) → Stands t e → 1 ≤ from → t.master ≡ false → list_any (has_peer from) t.sessions ≡ false → list_any (rejects_peer from) t.asks ≡ false → any_names e from ≡ false
no_names t e from st lo m h g = by_names t e from st lo m ∙ ap (λ b. b || list_any (rejects_peer from) t.asks) h ∙ g

-- there is room for it
pub room_left : (t : Table) (e : Sessions) (o : Opening) (from c size : ℕ) → Stands t e → 1 ≤ from → from < 256 → t.master ≡ false → list_any (has_peer from) t.sessions ≡ false → list_any (rejects_peer from) t.asks ≡ false → nat_lt (length t.asks) 255 ≡ false → ⊥
room_left t e o from c size st lo hi m h g r =
    let slave : e.master ≡ false = sym (slave_of t e st) ∙ m in
    let less : length (open_asks e) < 255 = asks_room e from c size o.service o.request slave st.good (st.apart slave) (λ z. absurd (omega (arith, lo, z))) hi (no_names t e from st lo m h g) in
    absurd (omega (arith, less, ap length (ap (λ (z : Table). z.asks) st.is), ltb-false (length t.asks) 255 r))

pub bad_room : {A E : Type 0} (t u : Table) (e : Sessions) (o : Opening) (from c size : ℕ) (result : Result A E) → Stands t e → 1 ≤ from → from < 256 → t.master ≡ false → list_any (has_peer from) t.sessions ≡ false → list_any (rejects_peer from) t.asks ≡ false → nat_lt (length t.asks) 255 ≡ false → Hears u result (hear_slot e (asks_for from c size o.service o.request))
bad_room t u e o from c size result st lo hi m h g r = absurd (room_left t e o from c size st lo hi m h g r)

pub good_ask : {A E : Type 0} (t u : Table) (e : Sessions) (o : Opening) (from c size : ℕ) (result : Result A E) → Stands t e → 1 ≤ from → from < 256 → t.master ≡ false → list_any (has_peer from) t.sessions ≡ false → list_any (rejects_peer from) t.asks ≡ false → is_ok result ≡ true → length u.sessions ≡ length t.sessions →
    u ≡ table_of (length t.sessions) (ask_in e (asks_for from c size o.service o.request) o.service o.request) → Hears u result (hear_slot e (asks_for from c size o.service o.request))
good_ask t u e o from c size result st lo hi m h g r l is =
    let slave : e.master ≡ false = sym (slave_of t e st) ∙ m in
    let none : any_names e from ≡ false = no_names t e from st lo m h g in
    let f : Sessions = ask_in e (asks_for from c size o.service o.request) o.service o.request in
    heard_to u result _ f (ap (λ b. cond b None (Some f)) (ap (λ b. b || any_names e from) slave ∙ none)) r
    (ask_stands t u e from c size o.service o.request st slave (λ z. absurd (omega (arith, lo, z))) hi none l is)

-- what the table keeps of it

pub some_place : (b : Bool) (at n : ℕ) → Some at ≡ cond b None (Some n) → (b ≡ false) × (at ≡ n)
some_place true at n e = absurd (wrong e)
  where
    wrong : Some at ≡ None → ⊥
    wrong q = cc
some_place false at n e = (refl, same e)
  where
    same : Some at ≡ Some n → at ≡ n
    same q = cc

pub none_place : (b : Bool) (n : ℕ) → None ≡ cond b None (Some n) → b ≡ true
none_place true n e = refl
none_place false n e = absurd (wrong e)
  where
    wrong : None ≡ Some n → ⊥
    wrong q = cc

asked_is : (e : Sessions) (o : Opening) (from c size : ℕ) → is_full e ≡ false → asked (least_free e) (suc e.generations) from c size o ≡ asked_session e (asks_for from c size o.service o.request) o.service o.request
asked_is e o from c size h = go (is_full e) h
  where
    go : (b : Bool) → b ≡ false → asked (least_free e) (suc e.generations) from c size o ≡ record (asked_session e (asks_for from c size o.service o.request) o.service o.request) { id = cond b 0 (least_free e); rejects = b }
    go true q = absurd (true≢false q)
    go false q = refl

pub placed_ask : (t : Table) (e : Sessions) (o : Opening) (from c size at : ℕ) (old new : Kept) → Stands t e → e.master ≡ false → Some at ≡ cond (is_full e) None (Some (least_free e - 1)) → old.credits.ceiling ≡ e.ceiling →
    ((id generation : ℕ) → id ≢ 0 → new ≡ stream_of false old.credits.ceiling (asked id generation from c size o)) →
    record t { sessions = set t.sessions at new; asks = t.asks ++ Waits (at + 1) ∷ [] } ≡ table_of (length t.sessions) (ask_in e (asks_for from c size o.service o.request) o.service o.request)
placed_ask t e o from c size at old new st m place ceiling kept =
    let n : ℕ = length t.sessions in
    let p : (is_full e ≡ false) × (at ≡ least_free e - 1) = some_place (is_full e) at (least_free e - 1) place in
    let less : held e < e.agreed = leb-false e.agreed (held e) p.0 in
    let some : least_free e ≢ 0 = least_some e less st.good.agreed in
    let lo : 1 ≤ least_free e = pos (least_free e) some in
    let hi : least_free e ≤ n = omega (arith, least_free_low e less st.good.agreed, st.agreed) in
    let is : new ≡ stream_of e.master e.ceiling (asked_session e (asks_for from c size o.service o.request) o.service o.request) =
    kept (least_free e) (suc e.generations) some
    ∙ ap (λ b. stream_of b old.credits.ceiling (asked (least_free e) (suc e.generations) from c size o)) (sym m)
    ∙ ap (λ z. stream_of e.master z (asked (least_free e) (suc e.generations) from c size o)) ceiling
    ∙ ap (stream_of e.master e.ceiling) (asked_is e o from c size p.0) in
    let next : at + 1 ≡ least_free e = omega (arith, p.1, lo) in
    ap (λ (z : Table). record z { sessions = set z.sessions at new; asks = z.asks ++ Waits (at + 1) ∷ [] }) st.is
    ∙ ap (λ z. record (table_of n e) { sessions = set (table_of n e).sessions z new; asks = open_asks e ++ Waits (at + 1) ∷ [] }) p.1
    ∙ ap (λ z. record (table_of n e) { sessions = set (table_of n e).sessions (least_free e - 1) z; asks = open_asks e ++ Waits (at + 1) ∷ [] }) is
    ∙ ap (λ z. record (table_of n e) { sessions = set (table_of n e).sessions (least_free e - 1) (stream_of e.master e.ceiling (asked_session e (asks_for from c size o.service o.request) o.service o.request)); asks = open_asks e ++ Waits z ∷ [] }) next
    ∙ sym (free_table n e from c size o.service o.request st.good m p.0 lo hi)
  where
    pos : (k : ℕ) → k ≢ 0 → 1 ≤ k
    pos zero h = absurd (h refl)
    pos (suc k) h = omega arith

pub full_ask : (t : Table) (e : Sessions) (o : Opening) (from c size reason : ℕ) → Stands t e → e.master ≡ false → None ≡ cond (is_full e) None (Some (least_free e - 1)) → reason ≡ 7 →
    record t { asks = t.asks ++ Rejected from reason ∷ [] } ≡ table_of (length t.sessions) (ask_in e (asks_for from c size o.service o.request) o.service o.request)
full_ask t e o from c size reason st m place is =
    ap (λ (z : ℕ). record t { asks = t.asks ++ Rejected from z ∷ [] }) is
    ∙ ap (λ (z : Table). record z { asks = z.asks ++ Rejected from 7 ∷ [] }) st.is
    ∙ sym (full_table (length t.sessions) e from c size o.service o.request st.good m (none_place (is_full e) (least_free e - 1) place))

-- one more ask in the list
pub all_push : (asks : List Ask) (a : Ask) → All (λ a. reason_of a ≤ 15) asks → reason_of a ≤ 15 → All (λ a. reason_of a ≤ 15) (asks ++ a ∷ [])
all_push asks a h f = All-push (λ a. reason_of a ≤ 15) asks a h f

pub all_room : (before asks new : List Ask) (a : Ask) → nat_lt (length before) 255 ≡ true → asks ≡ before → new ≡ asks ++ a ∷ [] → length new ≤ 255
all_room before asks new a h e q = omega (arith, ap length q, length-append asks (a ∷ []), ap length e, ltb-true (length before) 255 h)

-- whether the agreed number is held
pub full_by : (agreed held : ℕ) → agreed ≤ held → nat_le agreed held ≡ true
full_by agreed held h = grind (arith, nat_tests, h)

pub free_by : (agreed held : ℕ) → held < agreed → nat_le agreed held ≡ false
free_by agreed held h = grind (arith, nat_tests, h)
