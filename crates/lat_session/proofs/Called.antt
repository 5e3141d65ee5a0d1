-- A call on one session, as the model's sessions do it.
use Rattle.std.proofs.Common.{◌≡◌, ℕ, ◌+◌, ◌<◌, sym, ap, ◌∙◌, refl, subst, Bool, true, false, cond, ◌||◌, length, slice_set, Result, Ok, Err, is_ok, MatchResult, if◌then◌else◌}
use Rattle.std.proofs.lemmas.Bool.{false≢true}
use Rattle.lat_model.specs.sessions.Session.{Session, blank, waits, rejecting}
use Rattle.lat_model.specs.sessions.Sessions.{Sessions, named}
use Rattle.lat_model.specs.sessions.Calls.{call, touch}
use Rattle.lat_stream.specs.Kept.{Kept, stream_of}
use Rattle.lat_stream.specs.declared.calls.SessionFault.{SessionFault}
use Rattle.lat_stream.specs.declared.calls.SessionFault.TheVariants as faults
use Rattle.lat_session.specs.Table.{Table, ask_of}
use Rattle.lat_session.specs.Calls.{call_of, answer_of, is_taken, after, without_count}
use Rattle.lat_session.specs.Stands.{Stands}
use Rattle.lat_session.specs.declared.call.SessionCall.{SessionCall}
use Rattle.lat_session.specs.declared.call.SessionCall.TheVariants.{Put, Set, Attend, Close}
use Rattle.lat_session.proofs.Touch.{used}
use Rattle.lat_session.proofs.Stays.{touched_stands, nothing_stands}

call_is : (e : Sessions) (id : ℕ) (c : SessionCall) → call e (call_of id c) ≡ cond (is_taken (named e id) c) (touch e (e.at_id id) (after (named e id) c)) e
call_is e id (Put bytes) = refl
call_is e id (Set setting) = refl
call_is e id (Attend flag) = refl
call_is e id Close = refl

-- the answer to one that puts no bytes
pub no_count : (a b : Bool) → without_count (if a then (if b then Ok 0 else Err faults.Full) else Err faults.Closed) ≡ (if a then (if b then Ok tt else Err faults.Full) else Err faults.Closed)
no_count true true = refl
no_count true false = refl
no_count false b = refl

-- that answer without its count
pub counted_out : (r : Result ℕ SessionFault) (q : Result (Unit {0}) SessionFault) (P : ℕ → Type 0) → MatchResult r P (λ e. q ≡ Err e) → is_ok q ≡ is_ok r → q ≡ without_count r
counted_out (Ok n) (Ok u) P h b = refl
counted_out (Ok n) (Err e) P h b = absurd (false≢true b)
counted_out (Err e) q P h b = h

-- its ask stays as it is

open_still : (s : Session) (c : SessionCall) → (waits (after s c) || rejecting (after s c)) ≡ (waits s || rejecting s)
open_still s (Put bytes) = refl
open_still s (Set setting) = refl
open_still s (Attend flag) = refl
open_still s Close = refl

ask_still : (s : Session) (c : SessionCall) → ask_of (after s c) ≡ ask_of s
ask_still s (Put bytes) = refl
ask_still s (Set setting) = refl
ask_still s (Attend flag) = refl
ask_still s Close = refl

-- where there is no session

blank_refuses : (c : SessionCall) → is_taken blank c ≡ false
blank_refuses (Put bytes) = refl
blank_refuses (Set setting) = refl
blank_refuses (Attend flag) = refl
blank_refuses Close = refl

blank_answer : (c : SessionCall) → Err faults.Closed ≡ answer_of blank c
blank_answer (Put bytes) = refl
blank_answer (Set setting) = refl
blank_answer (Attend flag) = refl
blank_answer Close = refl

pub none_answer : (s : Session) (c : SessionCall) → s ≡ blank → Err faults.Closed ≡ answer_of s c
none_answer s c is = blank_answer c ∙ ap (λ z. answer_of z c) (sym is)

pub none_stands : (t : Table) (e : Sessions) (id : ℕ) (c : SessionCall) → named e id ≡ blank → Stands t e → Stands t (call e (call_of id c))
none_stands t e id c is st =
    subst (Stands t) (sym (call_is e id c))
    (nothing_stands t e (touch e (e.at_id id) (after (named e id) c)) (is_taken (named e id) c) (ap (λ z. is_taken z c) is ∙ blank_refuses c) st)

pub called_stands : (t u : Table) (e : Sessions) (c : SessionCall) (i id : ℕ) (k l : Kept) → Stands t e → i + 1 ≡ id → i < length t.sessions
    → k ≡ stream_of e.master e.ceiling (named e id)
    → l ≡ (if is_taken (named e id) c then stream_of e.master e.ceiling (after (named e id) c) else k)
    → u ≡ record t { sessions = slice_set t.sessions i l } → Stands u (call e (call_of id c))
called_stands t u e c i id k l st p q was is u_is =
    touched_stands t u e (call_of id c) i id l (is_taken s c) (after s c) st p q (call_is e id c)
    (used e id (λ z. is_taken z c ≡ true) (λ h. false≢true (sym (blank_refuses c) ∙ h)) st.good)
    (open_still s c) (ask_still s c)
    (λ h. is ∙ ap choice h) (λ h. is ∙ ap choice h ∙ was) u_is
  where
    s : Session
    s = named e id

    choice : Bool → Kept
    choice b = if b then stream_of e.master e.ceiling (after s c) else k
