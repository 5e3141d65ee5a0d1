-- A master hears a reply start or a reject.
use Rattle.std.proofs.Common.{◌≡◌, ◌≢◌, ℕ, zero, suc, ◌+◌, ◌<◌, sym, ap, ◌∙◌, refl, arith, Bool, true, false, not, cond, ◌&&◌, ◌||◌, List, length, set, Option, Some, None, Result, is_ok, nat_le, subst, MatchOption, IfSome}
use Rattle.std.proofs.lemmas.Bool.{true≢false, false≢true, and_parts}
use Rattle.lat_base.specs.declared.state.SessionState as SessionStates
use Rattle.lat_base.specs.declared.state.SessionState.TheVariants as kept_states
use Rattle.lat_model.specs.Lists.{any_up_to}
use Rattle.lat_model.specs.sessions.Slots.{Slot, Start, Reject, has_stop, items, is_start, is_reject}
use Rattle.lat_model.specs.sessions.Session.{Session, Free, Calling, Asked, Live, Closing, Left, state, answered, rejected, stopped, gone, waits, rejecting}
use Rattle.lat_model.specs.sessions.Sessions.{Sessions, named}
use Rattle.lat_model.specs.sessions.Hearing.{heard, hear_at, hear_slot, names_running}
use Rattle.lat_stream.specs.Kept.{Kept, stream_of, state_of}
use Rattle.lat_session.specs.Table.{Table, state_at}
use Rattle.lat_session.specs.Stands.{Stands}
use Rattle.lat_session.specs.Hears.{Hears, is_calling}
use Rattle.lat_session.proofs.HearAt.{Fair, Goes, goes, at_stands, heard_to, heard_bad}

pub calling_shown : (m : Bool) (s : Session) → is_calling (state_of (state m s)) ≡ (m && waits s)
calling_shown m s = go (rejected s) (stopped s) (s.closed || nat_le (length (items s.came)) s.taken) (answered s) (s.closed || has_stop s.came) m
  where
    go : (r p d a c m : Bool) → is_calling (state_of (cond (r || (p && d)) Free (cond (r || p) Left (cond a (cond c Closing Live) (cond m Calling Asked))))) ≡ (m && (not a && not (r || p)))
    go true p d true c true = refl
    go true p d true c false = refl
    go true p d false c true = refl
    go true p d false c false = refl
    go false true true true c true = refl
    go false true true true c false = refl
    go false true true false c true = refl
    go false true true false c false = refl
    go false true false true c true = refl
    go false true false true c false = refl
    go false true false false c true = refl
    go false true false false c false = refl
    go false false d true true true = refl
    go false false d true true false = refl
    go false false d true false true = refl
    go false false d true false false = refl
    go false false d false c true = refl
    go false false d false c false = refl

abbrev pub any_running : Sessions → ℕ → Bool
any_running e from = any_up_to (λ k. names_running from (e.session k)) e.made

-- where a reply start is heard
start_is : (e : Sessions) (to from c size : ℕ) (service : List ℕ) (request : Option ℕ) → to ≢ 0 →
    hear_slot e (Start to from c size service request) ≡ cond (e.master && waits (named e to) && not (any_running e from)) (Some (hear_at e (e.at_id to) (Start to from c size service request))) None
start_is e zero from c size service request n = absurd (n refl)
start_is e (suc to) from c size service request n = refl

pub start_refused : {A E : Type 0} (u : Table) (e : Sessions) (to from c size : ℕ) (service : List ℕ) (request : Option ℕ) (result : Result A E) → to ≢ 0 → (e.master && waits (named e to) && not (any_running e from)) ≡ false → is_ok result ≡ false → Hears u result (hear_slot e (Start to from c size service request))
start_refused u e to from c size service request result n b r =
    heard_bad u result _ (start_is e to from c size service request n ∙ ap (λ b. cond b (Some (hear_at e (e.at_id to) (Start to from c size service request))) None) b) r

pub reject_refused : {A E : Type 0} (u : Table) (e : Sessions) (to from reason : ℕ) (result : Result A E) → (e.master && waits (named e to)) ≡ false → is_ok result ≡ false → Hears u result (hear_slot e (Reject to from reason))
reject_refused u e to from reason result b r = heard_bad u result _ (ap (λ b. cond b (Some (hear_at e (e.at_id to) (Reject to from reason))) None) b) r

-- the session that waits hears it
waits_hears : {A E : Type 0} (t u : Table) (e : Sessions) (i id : ℕ) (k : Kept) (x : Slot) (result : Result A E) → Stands t e → Fair e.master x → hear_slot e x ≡ Some (hear_at e (e.at_id id) x) → (is_start x || is_reject x) ≡ true → i + 1 ≡ id → i < length t.sessions →
    (e.master && waits (named e id)) ≡ true →
    is_ok result ≡ true →
    k ≡ stream_of e.master e.ceiling (heard (named e id) x) →
    u ≡ record t { sessions = set t.sessions i k } → Hears u result (hear_slot e x)
waits_hears t u e i id k x result st w h first next less b r kept is =
    let s : Session = named e id in
    let p : (e.master ≡ true) × (waits s ≡ true) = and_parts e.master (waits s) b in
    let q : (not (answered s) ≡ true) × (not (gone s) ≡ true) = and_parts (not (answered s)) (not (gone s)) p.1 in
    let g : Goes e.master s x = goes e.master s x (st.opens (e.at_id id)) (st.begun (e.at_id id)) (st.sources (e.at_id id)) w.sends (λ z. (p.0, first)) in
    let used : e.at_id id ≢ 0 = λ z. false≢true (sym (ap not (ap (λ j. gone (e.session j)) z ∙ ap gone st.good.none)) ∙ q.1) in
    heard_to u result _ (hear_at e (e.at_id id) x) h r
    (at_stands t u e i id k x st w h next less used g (ap (λ m. not m && (waits s || rejecting s)) p.0, ap (λ m. not m && (waits (heard s x) || rejecting (heard s x))) p.0) kept is)

pub start_hears : {A E : Type 0} (t u : Table) (e : Sessions) (i to from c size : ℕ) (service : List ℕ) (request : Option ℕ) (k : Kept) (result : Result A E) → Stands t e → from ≢ 0 → from < 256 → i + 1 ≡ to → i < length t.sessions →
    (e.master && waits (named e to)) ≡ true → any_running e from ≡ false → is_ok result ≡ true →
    k ≡ stream_of e.master e.ceiling (heard (named e to) (Start to from c size service request)) →
    u ≡ record t { sessions = set t.sessions i k } → Hears u result (hear_slot e (Start to from c size service request))
start_hears t u e i to from c size service request k result st some byte next less b none r kept is =
    let x : Slot = Start to from c size service request in
    let all : (e.master && waits (named e to) && not (any_running e from)) ≡ true = ap (λ z. z && not (any_running e from)) b ∙ ap not none in
    waits_hears t u e i to k x result st (record { sends = λ q. some; byte = λ q. byte; small = omega arith })
    (start_is e to from c size service request (λ z. absurd (omega (arith, next, z))) ∙ ap (λ z. cond z (Some (hear_at e (e.at_id to) x)) None) all) refl next less b r kept is

pub reject_hears : {A E : Type 0} (t u : Table) (e : Sessions) (i to from reason : ℕ) (k : Kept) (result : Result A E) → Stands t e → i + 1 ≡ to → i < length t.sessions →
    (e.master && waits (named e to)) ≡ true → is_ok result ≡ true →
    k ≡ stream_of e.master e.ceiling (heard (named e to) (Reject to from reason)) →
    u ≡ record t { sessions = set t.sessions i k } → Hears u result (hear_slot e (Reject to from reason))
reject_hears t u e i to from reason k result st next less b r kept is =
    let x : Slot = Reject to from reason in
    waits_hears t u e i to k x result st (record { sends = λ q. absurd (false≢true q); byte = λ q. absurd (true≢false (sym (and_parts e.master (waits (named e to)) b).0 ∙ q)); small = omega arith })
    (ap (λ z. cond z (Some (hear_at e (e.at_id to) x)) None) b) refl next less b r kept is

pub only_calling : (s : SessionStates.SessionState) → is_calling s ≡ true → s ≡ kept_states.Calling
only_calling kept_states.Calling e = refl
only_calling kept_states.Free e = absurd (false≢true e)
only_calling kept_states.Asked e = absurd (false≢true e)
only_calling kept_states.Live e = absurd (false≢true e)
only_calling kept_states.Closing e = absurd (false≢true e)
only_calling kept_states.Left e = absurd (false≢true e)

pub and_none : (b : Bool) → (b && not true) ≡ false
and_none true = refl
and_none false = refl

pub and_all : (b : Bool) → (b && not false) ≡ b
and_all true = refl
and_all false = refl

-- the place of the one that is Calling, as it is looked for
pub calling_at : (t : Table) (id : ℕ) (o : Option ℕ) (i : ℕ) → MatchOption o (is_calling (state_at t id) ≡ false) (λ i. (i + 1 ≡ id) × (i < length t.sessions) × (is_calling (state_at t id) ≡ true)) → o ≡ Some i
    → (i + 1 ≡ id) × (i < length t.sessions) × (is_calling (state_at t id) ≡ true)
calling_at t id o i h e = subst (λ o. MatchOption o (is_calling (state_at t id) ≡ false) (λ i. (i + 1 ≡ id) × (i < length t.sessions) × (is_calling (state_at t id) ≡ true))) e h

pub replied_at : (t : Table) (id : ℕ) (o : Option ℕ) (i : ℕ) → IfSome o (λ i. (i + 1 ≡ id) × (i < length t.sessions) × (is_calling (state_at t id) ≡ true)) → o ≡ Some i
    → (i + 1 ≡ id) × (i < length t.sessions) × (is_calling (state_at t id) ≡ true)
replied_at t id o i h e = subst (λ o. IfSome o (λ i. (i + 1 ≡ id) × (i < length t.sessions) × (is_calling (state_at t id) ≡ true))) e h

-- of the one that is found alone
pub calling_some : (N : Type 0) (P : ℕ → Type 0) (o : Option ℕ) → MatchOption o N P → IfSome o P
calling_some N P None h = tt
calling_some N P (Some i) h = h
