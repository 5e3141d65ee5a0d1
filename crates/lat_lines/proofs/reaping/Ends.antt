-- How a session ended, as its circuit tells it and as the machines know it.
use Rattle.std.proofs.Common.{◌≡◌, ◌≢◌, ℕ, Bool, true, false, not, cond, ◌&&◌, ◌||◌, List, [], ◌∷◌, Option, Some, None, option_map, is_some, nat_eq, ne_eqb, refl, sym, ap, ◌∙◌}
use Rattle.std.proofs.lemmas.Bool.{false≢true, true≢false, both_ways, or_left}
use Rattle.lat_base.specs.declared.state.SessionEnd.TheVariants as ends
use Rattle.lat_model.specs.sessions.Slots.{Slot, Start, DataA, DataB, Attention, Reject, Stop, has_stop}
use Rattle.lat_model.specs.sessions.Session.{Session, Free, Calling, Asked, Live, Closing, Left, state, free, gone, answered, rejected, stopped, waits}
use Rattle.lat_model.specs.sessions.Sessions.{named}
use Rattle.lat_model.specs.ends.End.{End, lives}
use Rattle.lat_machines.specs.cores.Books.{SessionEnd, EndedClosed, EndedRejected, EndedCircuit, reject_reason, end_reason}
use Rattle.lat_stream.specs.Kept as stream
use Rattle.lat_stream.specs.Kept.{state_of, end_of}
use Rattle.lat_session.specs.States.{is_asked}
use Rattle.lat_session.proofs.Counts.{free_shown, WhileAsked, while_asked}
use Rattle.lat_circuit.specs.Info.{session_end, circuit_end}
use Rattle.lat_lines.specs.Stands.{end_shown}

same_reason_at : (s : Session) (xs : List Slot) → stream.reject_reason (record s { came = xs }) ≡ reject_reason (record s { came = xs })
same_reason_at s [] = refl
same_reason_at s (Start to from c size service request ∷ xs) = refl
same_reason_at s (DataA to from c bytes ∷ xs) = refl
same_reason_at s (DataB to from c setting ∷ xs) = refl
same_reason_at s (Attention to from flag ∷ xs) = refl
same_reason_at s (Reject to from r ∷ xs) = refl
same_reason_at s (Stop to from r ∷ xs) = refl

same_reason : (s : Session) → stream.reject_reason s ≡ reject_reason s
same_reason s = same_reason_at s s.came

-- a rejected session is free
pub rejected_free : (s : Session) → rejected s ≡ true → free s ≡ true
rejected_free s h = or_left (rejected s) _ h

-- how a session of an end ended, as the machines know it
abbrev pub ended : End → Session → Option SessionEnd
ended e s =
    cond (rejected s) (Some (EndedRejected (reject_reason s)))
    (cond (free s) (Some EndedClosed) (cond (lives e) None (Some (EndedCircuit (end_reason e)))))

with_circuit : (e : End) (o : Option ℕ) → e.exists ≡ true → option_map end_shown (circuit_end o) ≡ cond (lives (record e { ended = o })) None (Some (EndedCircuit (end_reason (record e { ended = o }))))
with_circuit e None h = ap (λ b. cond b None (Some (EndedCircuit 0))) (sym h)
with_circuit e (Some r) h = refl

ended_by : (e : End) (none rejects frees : Bool) (told known : ℕ) → e.exists ≡ true → none ≡ false → (rejects ≡ true → frees ≡ true) → told ≡ known
    → option_map end_shown (cond frees (cond none None (cond rejects (Some (ends.Rejected told)) (cond frees (Some ends.Closed) None))) (circuit_end e.ended))
    ≡ cond rejects (Some (EndedRejected known)) (cond frees (Some EndedClosed) (cond (lives e) None (Some (EndedCircuit (end_reason e)))))
ended_by e true rejects frees told known exists some r same = absurd (true≢false some)
ended_by e false true true told known exists some r same = ap (λ n. Some (EndedRejected n)) same
ended_by e false true false told known exists some r same = absurd (false≢true (r refl))
ended_by e false false true told known exists some r same = refl
ended_by e false false false told known exists some r same = with_circuit e e.ended exists

pub end_told : (e : End) (id : ℕ) → e.exists ≡ true → (named e.half.sessions id).id ≢ 0 → option_map end_shown (session_end e id) ≡ ended e (named e.half.sessions id)
end_told e id exists some =
    let s : Session = named e.half.sessions id in
    ap (λ b. option_map end_shown (cond b (end_of s) (circuit_end e.ended))) (free_shown e.half.sessions.master s)
    ∙ ended_by e (nat_eq s.id 0) (rejected s) (free s) (stream.reject_reason s) (reject_reason s) exists (ne_eqb s.id 0 some) (rejected_free s) (same_reason s)

-- it isn't over exactly where it didn't end

ended_some : (rejects frees living : Bool) (a b c : SessionEnd) → (rejects ≡ true → frees ≡ true) → is_some (cond rejects (Some a) (cond frees (Some b) (cond living None (Some c)))) ≡ (not living || frees)
ended_some true true true a b c r = refl
ended_some true true false a b c r = refl
ended_some true false living a b c r = absurd (false≢true (r refl))
ended_some false true true a b c r = refl
ended_some false true false a b c r = refl
ended_some false false true a b c r = refl
ended_some false false false a b c r = refl

pub ended_over : (e : End) (s : Session) → is_some (ended e s) ≡ (not (lives e) || free s)
ended_over e s = ended_some (rejected s) (free s) (lives e) (EndedRejected (reject_reason s)) EndedClosed (EndedCircuit (end_reason e)) (rejected_free s)

-- once free, how it ended is known without its circuit

ended_free : (rejects frees l m : Bool) (a b c d : SessionEnd) → frees ≡ true → cond rejects (Some a) (cond frees (Some b) (cond l None (Some c))) ≡ cond rejects (Some a) (cond frees (Some b) (cond m None (Some d)))
ended_free true frees l m a b c d h = refl
ended_free false true l m a b c d h = refl
ended_free false false l m a b c d h = absurd (false≢true h)

pub ended_stays : (e f : End) (s : Session) → free s ≡ true → ended f s ≡ ended e s
ended_stays e f s h = ended_free (rejected s) (free s) (lives f) (lives e) (EndedRejected (reject_reason s)) EndedClosed (EndedCircuit (end_reason f)) (EndedCircuit (end_reason e)) h

pub ended_closed : (e : End) (s : Session) → free s ≡ true → rejected s ≡ false → ended e s ≡ Some EndedClosed
ended_closed e s h r = ap (λ b. cond b (Some (EndedRejected (reject_reason s))) (cond (free s) (Some EndedClosed) (cond (lives e) None (Some (EndedCircuit (end_reason e)))))) r ∙ ap (λ b. cond b (Some EndedClosed) (cond (lives e) None (Some (EndedCircuit (end_reason e))))) h

-- at a slave a session that waits is asked for

asked_by : (frees goes answers stops : Bool) → (not answers && not goes) ≡ true → (frees ≡ true → goes ≡ true) → is_asked (state_of (cond frees Free (cond goes Left (cond answers (cond stops Closing Live) (cond false Calling Asked))))) ≡ true
asked_by frees true answers stops w g = absurd (false≢true (sym (and_right_false (not answers)) ∙ w))
  where
    and_right_false : (b : Bool) → (b && false) ≡ false
    and_right_false true = refl
    and_right_false false = refl
asked_by true false answers stops w g = absurd (false≢true (g refl))
asked_by false false true stops w g = absurd (false≢true w)
asked_by false false false stops w g = refl

free_gone : (s : Session) → free s ≡ true → gone s ≡ true
free_gone s h = by (rejected s) (stopped s) (s.closed || _) h
  where
    by : (r t u : Bool) → (r || (t && u)) ≡ true → (r || t) ≡ true
    by true t u h = refl
    by false true u h = refl
    by false false u h = h

pub waits_asked : (m : Bool) (s : Session) → m ≡ false → waits s ≡ true → is_asked (state_of (state m s)) ≡ true
waits_asked true s slave w = absurd (true≢false slave)
waits_asked false s slave w = asked_by (free s) (gone s) (answered s) (s.closed || has_stop s.came) w (free_gone s)

-- a session that was answered isn't asked for
pub answered_told : (m : Bool) (s : Session) → (m ≡ false → answered s ≡ true) → is_asked (state_of (state m s)) ≡ false
answered_told m s a = by (is_asked (state_of (state m s))) refl
  where
    by : (b : Bool) → is_asked (state_of (state m s)) ≡ b → b ≡ false
    by true h = let w : WhileAsked m s = while_asked m s h in absurd (both_ways (answered s) w.not_answered (a w.slave))
    by false h = refl
