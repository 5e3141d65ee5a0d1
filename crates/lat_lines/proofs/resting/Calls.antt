-- Local calls that leave each session as its line knows it.
use Rattle.std.proofs.Common.{◌≡◌, ℕ, ◌+◌, Bool, true, false, not, ◌&&◌, ◌||◌, cond, nat_eq, nat_lt, eqb-true, List, [], ◌∷◌, map, length, take, Some, refl, sym, ap, subst, ◌∙◌}
use Rattle.std.proofs.lemmas.Bool.{cond_both, and_parts, not-true, true≢false}
use Rattle.lat_base.specs.declared.state.SessionState.TheVariants as states
use Rattle.lat_model.specs.sessions.Slots.{Byte, Setting, has_stop}
use Rattle.lat_model.specs.sessions.Session.{Session, Free, Calling, Asked, Live, Closing, Left, free, gone, answered, waits, put_open, take_open, unframed}
use Rattle.lat_model.specs.sessions.Sessions.{Sessions, named}
use Rattle.lat_model.specs.sessions.Calls.{Call, Put, Set, Attend, Take, Close, Answer, call, touch, put_items, put_count, take_count}
use Rattle.lat_model.specs.ends.End.{End, Step, lives, call_end}
use Rattle.lat_model.specs.ends.Timers.{note_empty}
use Rattle.lat_model.specs.circuits.World.{CircuitEntry}
use Rattle.lat_machines.specs.cores.Acts.{steps_at, idle}
use Rattle.lat_machines.specs.cores.Cores.{Core, Side}
use Rattle.lat_stream.specs.Kept.{state_of}
use Rattle.lat_circuit.specs.Info.{session_state}
use Rattle.lat_session.specs.declared.call.SessionCall.{SessionCall}
use Rattle.lat_session.specs.declared.call.SessionCall.TheVariants as calls
use Rattle.lat_session.specs.Calls.{call_of}
use Rattle.lat_session.specs.States.{is_free}
use Rattle.lat_lines.specs.circuits.Stands.{calling}
use Rattle.lat_lines.proofs.CircuitsHeld.{eqb_self}
use Rattle.lat_lines.proofs.CoresLater.{updated_at}
use Rattle.lat_lines.specs.Later.{asked_for}
use Rattle.lat_lines.specs.Calm.{look, IsCalm, CoreCalm}
use Rattle.lat_lines.proofs.resting.Ends.{calm_refl}

-- the sessions, as lines know them, are the same
abbrev SameLooks : Sessions → Sessions → Type 0
SameLooks s t = (k : ℕ) → look (t.session k) ≡ look (s.session k)

same_looks : (s : Sessions) → SameLooks s s
same_looks s k = refl

touch_looks : (s : Sessions) (k : ℕ) (v : Session) → look v ≡ look (s.session k) → SameLooks s (touch s k v)
touch_looks s k v e j = by (nat_eq j k) refl
  where
    by : (b : Bool) → nat_eq j k ≡ b → look (cond b v (s.session j)) ≡ look (s.session j)
    by true h = e ∙ ap (λ i. look (s.session i)) (sym (eqb-true j k h))
    by false h = refl

-- one that is closed to a call stays as it is
open_looks : (s : Sessions) (b : Bool) (k : ℕ) (v : Session) → (b ≡ true → look v ≡ look (s.session k)) → SameLooks s (cond b (touch s k v) s)
open_looks s b k v e = cond_both b (touch s k v) s (SameLooks s) (λ h. touch_looks s k v (e h)) (λ h. same_looks s)

put_looks : (s : Sessions) (id : ℕ) (bytes : List ℕ) → SameLooks s (call s (Put id bytes))
put_looks s id bytes = open_looks s (put_open (named s id)) (s.at_id id) (put_items (named s id) (map Byte (take (put_count (named s id) (length bytes)) bytes))) (λ h. refl)

set_looks : (s : Sessions) (id : ℕ) (setting : List ℕ) → SameLooks s (call s (Set id setting))
set_looks s id setting = open_looks s (put_open (named s id) && nat_lt (length (unframed (named s id))) 4096) (s.at_id id) (put_items (named s id) (Setting setting ∷ [])) (λ h. refl)

attend_looks : (s : Sessions) (id flag : ℕ) → SameLooks s (call s (Attend id flag))
attend_looks s id flag = open_looks s (put_open (named s id)) (s.at_id id) (record (named s id) { attention = Some flag }) (λ h. refl)

answer_looks : (s : Sessions) (id : ℕ) → SameLooks s (call s (Answer id))
answer_looks s id = open_looks s (not s.master && waits (named s id)) (s.at_id id) (record (named s id) { accepted = true }) (λ h. refl)

-- one that wasn't free and isn't now
still_free : (u v : Session) → asked_for v ≡ asked_for u → v.out ≡ u.out → v.came ≡ u.came → v.rejects ≡ u.rejects → v.reason ≡ u.reason → free u ≡ false → free v ≡ false → look v ≡ look u
still_free u v wanted out came rejects reason e f = λ j. record { asked_for = wanted j; out = out j; came = came j; rejects = rejects j; reason = reason j; free = (f ∙ sym e) j }

taken_open : (u : Session) → take_open u ≡ true → free u ≡ false
taken_open u h = not-true (free u) (and_parts u.accepted (not (free u)) (and_parts (u.accepted && not (free u)) (not u.closed) h).0).1

-- the session that was touched
touched_at : (s : Sessions) (k : ℕ) (v : Session) → (touch s k v).session k ≡ v
touched_at s k v = ap (λ b. cond b v (s.session k)) (eqb_self k)

pub take_looks : (s : Sessions) (id n : ℕ) → free (named (call s (Take id n)) id) ≡ false → SameLooks s (call s (Take id n))
take_looks s id n f = open_looks s (take_open (named s id)) (s.at_id id) v looks
  where
    u : Session
    u = named s id

    v : Session
    v = record u { taken = u.taken + take_count u n }

    looks : take_open u ≡ true → look v ≡ look u
    looks h = still_free u v refl refl refl refl refl (taken_open u h) (sym (ap free (touched_at s (s.at_id id) v)) ∙ sym (ap (λ b. free (named (cond b (touch s (s.at_id id) v) s) id)) h) ∙ f)

pub close_looks : (s : Sessions) (id : ℕ) → free (named (call s (Close id)) id) ≡ false → SameLooks s (call s (Close id))
close_looks s id f = open_looks s (take_open (named s id)) (s.at_id id) v looks
  where
    u : Session
    u = named s id

    v : Session
    v = record u { closed = true }

    looks : take_open u ≡ true → look v ≡ look u
    looks h = still_free u v refl refl refl refl refl (taken_open u h) (sym (ap free (touched_at s (s.at_id id) v)) ∙ sym (ap (λ b. free (named (cond b (touch s (s.at_id id) v) s) id)) h) ∙ f)

-- the circuits after a call
calling_calm : (k : Side) (x : ℕ) (a : Call) (c : Core) → (lives (c.circuits.circuit_at x).end ≡ true → SameLooks (c.circuits.circuit_at x).end.half.sessions (call (c.circuits.circuit_at x).end.half.sessions a))
    → CoreCalm c (calling k x a c)
calling_calm k x a c looks y =
    cond_both (lives e) (steps_at k.server c.circuits x (record { end = call_end a e; sent = [] })) (idle c.circuits) (λ z. IsCalm (c.circuits.circuit_at y).end (z.table.circuit_at y).end)
    (λ h. updated_at (λ z. IsCalm (c.circuits.circuit_at y).end z.end) c.circuits.circuit_at x y entry (λ same. subst (λ i. IsCalm (c.circuits.circuit_at i).end entry.end) (sym same) (here h)) (calm_refl (c.circuits.circuit_at y).end))
    (λ h. calm_refl (c.circuits.circuit_at y).end)
  where
    e : End
    e = (c.circuits.circuit_at x).end

    entry : CircuitEntry
    entry = record { address = (c.circuits.circuit_at x).address; end = (note_empty e (record { end = call_end a e; sent = [] })).end }

    here : lives e ≡ true → IsCalm e entry.end
    here h = record { lives = refl; reason = refl; peer = refl; look = looks h }

-- the sessions that it then has
called_sessions : (k : Side) (x : ℕ) (a : Call) (c : Core) → lives (c.circuits.circuit_at x).end ≡ true
    → ((calling k x a c).circuits.circuit_at x).end.half.sessions ≡ call (c.circuits.circuit_at x).end.half.sessions a
called_sessions k x a c h =
    ap (λ b. ((cond b (steps_at k.server c.circuits x s) (idle c.circuits)).table.circuit_at x).end.half.sessions) h
    ∙ ap (λ b. (cond b entry (c.circuits.circuit_at x)).end.half.sessions) (eqb_self x)
  where
    e : End
    e = (c.circuits.circuit_at x).end

    s : Step
    s = record { end = call_end a e; sent = [] }

    entry : CircuitEntry
    entry = record { address = (c.circuits.circuit_at x).address; end = (note_empty e s).end }

-- a session whose state isn't free
not_free : (e : End) (id : ℕ) → is_free (session_state e id) ≡ false → free (named e.half.sessions id) ≡ false
not_free e id f = by (free u) refl
  where
    u : Session
    u = named e.half.sessions id

    m : Bool
    m = e.half.sessions.master

    either : (b : Bool) → is_free (cond b states.Free states.Free) ≡ true
    either true = refl
    either false = refl

    free_state : free u ≡ true → is_free (session_state e id) ≡ true
    free_state h =
        ap (λ b. is_free (cond (lives e) (state_of (cond b Free (cond (gone u) Left (cond (answered u) (cond (u.closed || has_stop u.came) Closing Live) (cond m Calling Asked))))) states.Free)) h
        ∙ either (lives e)

    by : (b : Bool) → free u ≡ b → free u ≡ false
    by false h = h
    by true h = absurd (true≢false (sym (free_state h) ∙ f))

-- a call after which its session isn't free
pub take_calm : (k : Side) (x id n : ℕ) (c : Core) → is_free (session_state ((calling k x (Take id n) c).circuits.circuit_at x).end id) ≡ false → CoreCalm c (calling k x (Take id n) c)
take_calm k x id n c f = calling_calm k x (Take id n) c (λ h.
    take_looks (c.circuits.circuit_at x).end.half.sessions id n (subst (λ s. free (named s id) ≡ false) (called_sessions k x (Take id n) c h) (not_free ((calling k x (Take id n) c).circuits.circuit_at x).end id f)))

close_calm : (k : Side) (x id : ℕ) (c : Core) → is_free (session_state ((calling k x (Close id) c).circuits.circuit_at x).end id) ≡ false → CoreCalm c (calling k x (Close id) c)
close_calm k x id c f = calling_calm k x (Close id) c (λ h.
    close_looks (c.circuits.circuit_at x).end.half.sessions id (subst (λ s. free (named s id) ≡ false) (called_sessions k x (Close id) c h) (not_free ((calling k x (Close id) c).circuits.circuit_at x).end id f)))

pub call_calm : (k : Side) (x id : ℕ) (call : SessionCall) (c : Core) → is_free (session_state ((calling k x (call_of id call) c).circuits.circuit_at x).end id) ≡ false → CoreCalm c (calling k x (call_of id call) c)
call_calm k x id (calls.Put bytes) c f = calling_calm k x (Put id bytes.now) c (λ h. put_looks (c.circuits.circuit_at x).end.half.sessions id bytes.now)
call_calm k x id (calls.Set setting) c f = calling_calm k x (Set id setting) c (λ h. set_looks (c.circuits.circuit_at x).end.half.sessions id setting)
call_calm k x id (calls.Attend flag) c f = calling_calm k x (Attend id flag) c (λ h. attend_looks (c.circuits.circuit_at x).end.half.sessions id flag)
call_calm k x id calls.Close c f = close_calm k x id c f

-- an ask that is accepted
pub answer_calm : (k : Side) (x id : ℕ) (c : Core) → CoreCalm c (calling k x (Answer id) c)
answer_calm k x id c = calling_calm k x (Answer id) c (λ h. answer_looks (c.circuits.circuit_at x).end.half.sessions id)
