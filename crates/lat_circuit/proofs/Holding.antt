-- Calls that free no session: where one was held before, one is held after.
use Rattle.std.proofs.Common.{◌≡◌, ℕ, suc, ◌≤◌, Bool, true, false, not, ◌&&◌, cond, nat_eq, List, [], ◌∷◌, length, map, take, Option, Some, refl, sym, ap, ◌∙◌, arith, eqb-true, eq-eqb, subst}
use Rattle.std.proofs.lemmas.Bool.{false≢true}
use Rattle.lat_model.specs.Lists.{keep, updated, upwards}
use Rattle.lat_model.specs.ends.End.{End, still, call_end}
use Rattle.lat_model.specs.ends.Timers.{note_empty}
use Rattle.lat_model.specs.sessions.Calls.{Call, Connect, Put, Set, Attend, Answer, call, touch, new_call, connect, put_items, put_count, answer}
use Rattle.lat_model.specs.sessions.Slots.{Item, Byte, Setting}
use Rattle.lat_model.specs.sessions.Session.{Session, free}
use Rattle.lat_model.specs.sessions.Sessions.{Sessions, named, held, least_free}
use Rattle.lat_model.proofs.sessions.Words.{upd_field}
use Rattle.lat_session.specs.Calls.{call_of}
use Rattle.lat_session.specs.Stands as sessions
use Rattle.lat_session.specs.declared.call.SessionCall.{SessionCall}
use Rattle.lat_session.specs.declared.call.SessionCall.TheVariants as calls
use Rattle.lat_session.specs.Table.{Table}
use Rattle.lat_circuit.specs.declared.circuit.Circuit.TheInside.{Inside}
use Rattle.lat_circuit.specs.Shown.{shown}
use Rattle.lat_circuit.specs.Stands.{Stands}
use Rattle.lat_circuit.proofs.Sends.{with_sessions}

-- no session that wasn't free is free now
abbrev pub FreesNone : Sessions → Sessions → Type 0
FreesNone e f = (i : ℕ) → free (named f i) ≡ true → free (named e i) ≡ true

-- a session that is put in its place, as free as it was
touched : (e : Sessions) (id : ℕ) (s : Session) → free s ≡ free (named e id) → FreesNone e (touch e (e.at_id id) s)
touched e id s same i is = sym (upd_field free e.session (e.at_id id) s same (e.at_id i)) ∙ is

-- a call that may do nothing
where_done : (b : Bool) (e f : Sessions) → FreesNone e f → FreesNone e (cond b f e)
where_done true e f h = h
where_done false e f h = λ i is. is

abbrev put_items_in : Sessions → ℕ → List Item → Sessions
put_items_in e id xs = touch e (e.at_id id) (put_items (named e id) xs)

connected : (e : Sessions) (service : List ℕ) (request : Option ℕ) → FreesNone e (connect e service request)
connected e service request i = by (nat_eq i (least_free e))
  where
    new : Session
    new = new_call e service request

    -- the new session isn't free
    at : (b : Bool) (s : Session) → free (cond b new s) ≡ true → free s ≡ true
    at true s is = absurd (false≢true is)
    at false s is = is

    by : (b : Bool) → free (updated e.session (suc e.made) new (cond b (suc e.made) (e.at_id i))) ≡ true → free (named e i) ≡ true
    by true is = absurd (false≢true (sym (ap (λ b. free (cond b new (e.session (suc e.made)))) (eq-eqb (suc e.made) (suc e.made) refl)) ∙ is))
    by false is = at (nat_eq (e.at_id i) (suc e.made)) (named e i) is

-- the calls

pub connect_frees_none : (e : Sessions) (service : List ℕ) (request : Option ℕ) → FreesNone e (call e (Connect service request))
connect_frees_none e service request = where_done _ e (connect e service request) (connected e service request)

put_frees_none : (e : Sessions) (id : ℕ) (bytes : List ℕ) → FreesNone e (call e (Put id bytes))
put_frees_none e id bytes = where_done _ e (put_items_in e id (map Byte (take (put_count (named e id) (length bytes)) bytes))) (touched e id _ refl)

set_frees_none : (e : Sessions) (id : ℕ) (setting : List ℕ) → FreesNone e (call e (Set id setting))
set_frees_none e id setting = where_done _ e (put_items_in e id (Setting setting ∷ [])) (touched e id _ refl)

attend_frees_none : (e : Sessions) (id flag : ℕ) → FreesNone e (call e (Attend id flag))
attend_frees_none e id flag = where_done _ e (touch e (e.at_id id) (record (named e id) { attention = Some flag })) (touched e id _ refl)

pub answer_frees_none : (e : Sessions) (id : ℕ) → FreesNone e (call e (Answer id))
answer_frees_none e id = where_done _ e (answer e id) (touched e id _ refl)

pub call_frees_none : (e : Sessions) (id : ℕ) (c : SessionCall) → (c ≡ calls.Close → ⊥) → FreesNone e (call e (call_of id c))
call_frees_none e id (calls.Put bytes) h = put_frees_none e id bytes.now
call_frees_none e id (calls.Set setting) h = set_frees_none e id setting
call_frees_none e id (calls.Attend flag) h = attend_frees_none e id flag
call_frees_none e id calls.Close h = absurd (h refl)

-- where all that passes q passes p, no fewer fail q
keep_more : (p q : ℕ → Bool) → ((i : ℕ) → q i ≡ true → p i ≡ true) → (l : List ℕ) → length (keep (λ i. not (p i)) l) ≤ length (keep (λ i. not (q i)) l)
keep_more p q h [] = omega arith
keep_more p q h (x ∷ xs) = by (p x) (q x) (h x) (keep_more p q h xs)
  where
    by : (a b : Bool) → (b ≡ true → a ≡ true) → length (keep (λ i. not (p i)) xs) ≤ length (keep (λ i. not (q i)) xs)
        → length (cond (not a) (x ∷ keep (λ i. not (p i)) xs) (keep (λ i. not (p i)) xs)) ≤ length (cond (not b) (x ∷ keep (λ i. not (q i)) xs) (keep (λ i. not (q i)) xs))
    by true true f k = k
    by true false f k = omega (arith, k)
    by false true f k = absurd (false≢true (f refl))
    by false false f k = omega (arith, k)

-- where a session was held, one is
still_held : (e f : Sessions) → FreesNone e f → (not (nat_eq (held e) 0) && nat_eq (held f) 0) ≡ false
still_held e f h = by (nat_eq (held e) 0) (nat_eq (held f) 0) refl refl
  where
    more : held e ≤ held f
    more = keep_more (λ i. free (named e i)) (λ i. free (named f i)) h (upwards 0 64)

    by : (a b : Bool) → nat_eq (held e) 0 ≡ a → nat_eq (held f) 0 ≡ b → (not a && b) ≡ false
    by true b p q = refl
    by false false p q = refl
    by false true p q =
        let none : held f ≡ 0 = eqb-true (held f) 0 q in
        absurd (false≢true (sym p ∙ eq-eqb (held e) 0 (omega (arith, more, none))))

-- then the time without a session doesn't begin
nothing_noted : (e : End) (c : Call) → FreesNone e.half.sessions (call e.half.sessions c) → (note_empty e (still (call_end c e))).end ≡ call_end c e
nothing_noted e c h = ap (λ b. record (call_end c e) { empty_at = cond b e.moment e.empty_at }) (still_held e.half.sessions (call e.half.sessions c) h)

-- so a circuit needs to change its sessions alone at such a call
pub called_stands : (a : Inside) (t : Table) (e : End) (c : Call) → Stands (shown a) e → FreesNone e.half.sessions (call e.half.sessions c) → sessions.Stands t (call e.half.sessions c) → Stands (shown (record a { sessions = t })) (note_empty e (still (call_end c e))).end
called_stands a t e c st h is =
    subst (Stands (shown (record a { sessions = t }))) (sym (nothing_noted e c h)) (with_sessions a t e (call e.half.sessions c) st is)
