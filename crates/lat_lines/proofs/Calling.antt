-- A local call on the session of a line, as the circuits do it and as the machines do.
use Rattle.std.proofs.Common.{◌≡◌, ℕ, ◌+◌, ◌-◌, Bool, true, false, not, cond, ◌&&◌, nat_eq, nat_lt, eqb-true, List, [], ◌++◌, append-nil, drop_of_length-le, map, length, take, drop, min, le_of_eq, Result, Ok, Err, if◌then◌else◌, refl, sym, ap, ap₂, subst, subst₂, ◌∙◌, arith}
use Rattle.std.proofs.Math.Path.{fun_ext}
use Rattle.lat_base.specs.declared.answer.Answer.TheVariants as answers
use Rattle.lat_base.specs.declared.item.Item as base_item
use Rattle.lat_model.specs.Lists.{updated}
use Rattle.lat_model.specs.sessions.Slots.{Item, items}
use Rattle.lat_model.specs.sessions.Session.{Session, put_open, take_open, unframed}
use Rattle.lat_model.specs.sessions.Sessions.{Sessions, named, held}
use Rattle.lat_model.specs.sessions.Calls as calls
use Rattle.lat_model.specs.sessions.Calls.{Call, Take, call, touch, put_count, take_count, took}
use Rattle.lat_model.specs.ends.End.{End, lives, still}
use Rattle.lat_model.specs.ends.Timers.{note_empty}
use Rattle.lat_model.specs.circuits.World.{CircuitEntry}
use Rattle.lat_machines.specs.values.Answers.{Answer, Accepted, Took, Done, Full as Filled, Closed as Refused}
use Rattle.lat_machines.specs.cores.Acts.{steps_at, idle}
use Rattle.lat_machines.specs.cores.Cores.{Seat, Core, Side, with_circuits}
use Rattle.lat_machines.specs.cores.Lines.{sessions_of, session_of}
use Rattle.lat_machines.specs.cores.LineCalls.{Said, says, put_on, set_on, attend_on, take_on, close_on}
use Rattle.lat_stream.specs.Kept.{item_of, item_shown}
use Rattle.lat_stream.proofs.Kept.{items_of_back}
use Rattle.lat_stream.specs.declared.calls.SessionFault.{SessionFault}
use Rattle.lat_stream.specs.declared.calls.SessionFault.TheVariants.{Full, Closed}
use Rattle.lat_session.specs.declared.call.SessionCall.{SessionCall}
use Rattle.lat_session.specs.declared.call.SessionCall.TheVariants.{Put, Set, Attend, Close}
use Rattle.lat_session.specs.Calls.{call_of, answer_of, is_taken}
use Rattle.lat_lines.specs.circuits.Stands.{calling}
use Rattle.lat_lines.specs.circuits.Info.{answer_at}
use Rattle.lat_lines.specs.Answers.{took_answer}
use Rattle.lat_lines.specs.AnswerValues.{answer_shown}
use Rattle.lat_lines.specs.Calls.{call_on, call_answer, done_answer}
use Rattle.lat_lines.proofs.HeldSeats.{IsHeld}
use Rattle.lat_lines.proofs.Telling.{takes_at}

-- a call that does nothing leaves the core as it is

updated_same : {X : Type 0} (f : ℕ → X) (x : ℕ) → updated f x (f x) ≡ f
updated_same {X} f x = fun_ext at
  where
    at : (j : ℕ) → updated f x (f x) j ≡ f j
    at j = by (nat_eq j x) refl
      where
        by : (b : Bool) → nat_eq j x ≡ b → cond b (f x) (f j) ≡ f j
        by true e = ap f (sym (eqb-true j x e))
        by false e = refl

note_still : (e : End) → (note_empty e (still e)).end ≡ e
note_still e = by (nat_eq (held e.half.sessions) 0)
  where
    by : (b : Bool) → record e { empty_at = cond (not b && b) e.moment e.empty_at } ≡ e
    by true = refl
    by false = refl

-- the sessions of the circuit x become these, where it lives
abbrev pub becomes : Side → ℕ → Core → Sessions → Core
becomes k x c t =
    let e : End = (c.circuits.circuit_at x).end in
    with_circuits c (cond (lives e) (steps_at k.server c.circuits x (still (record e { half = record (e.half) { sessions = t } }))) (idle c.circuits)).table

becomes_same : (k : Side) (x : ℕ) (c : Core) → becomes k x c (c.circuits.circuit_at x).end.half.sessions ≡ c
becomes_same k x c = by (lives (c.circuits.circuit_at x).end)
  where
    e : End
    e = (c.circuits.circuit_at x).end

    entry : End → CircuitEntry
    entry f = record { address = (c.circuits.circuit_at x).address; end = f }

    by : (b : Bool) → with_circuits c (cond b (steps_at k.server c.circuits x (still e)) (idle c.circuits)).table ≡ c
    by true =
        ap (λ f. with_circuits c (record (c.circuits) { circuit_at = updated c.circuits.circuit_at x (entry f) })) (note_still e)
        ∙ ap (λ f. with_circuits c (record (c.circuits) { circuit_at = f })) (updated_same c.circuits.circuit_at x)
    by false = refl

calls_alike : (k : Side) (x : ℕ) (c : Core) (a b : Call) → call (c.circuits.circuit_at x).end.half.sessions a ≡ call (c.circuits.circuit_at x).end.half.sessions b → calling k x a c ≡ calling k x b c
calls_alike k x c a b e = ap (becomes k x c) e

calls_nothing : (k : Side) (x : ℕ) (c : Core) (a : Call) → call (c.circuits.circuit_at x).end.half.sessions a ≡ (c.circuits.circuit_at x).end.half.sessions → calling k x a c ≡ c
calls_nothing k x c a e = ap (becomes k x c) e ∙ becomes_same k x c

-- the core after a call, and its answer
pub record Agrees (d : Core) (a : Answer) (s : Said) : Type 0 where
  pub core : s.core ≡ d
  pub answer : a ≡ s.answer

agrees_either : (c d : Core) (b : Bool) (taken refused : Answer) → (b ≡ false → c ≡ d) → Agrees d (cond b taken refused) (cond b (says d taken) (says c refused))
agrees_either c d true taken refused e = record { core = refl; answer = refl }
agrees_either c d false taken refused e = record { core = e refl; answer = refl }

agrees_both : (c d : Core) (a b : Bool) (taken filled refused : Answer) → (a && b ≡ false → c ≡ d)
    → Agrees d (cond a (cond b taken filled) refused) (cond a (cond b (says d taken) (says c filled)) (says c refused))
agrees_both c d true b taken filled refused e = agrees_either c d b taken filled e
agrees_both c d false b taken filled refused e = record { core = e refl; answer = refl }

agrees_as : (d : Core) (x y : Answer) (s : Said) → x ≡ y → Agrees d y s → Agrees d x s
agrees_as d x y s e g = record { core = g.core; answer = e ∙ g.answer }

-- with the ids that are kept in place of the session's own
pub agrees_at : (D : ℕ → ℕ → Core) (A : ℕ → ℕ → Answer) (x id : ℕ) (t : Seat) (a : Answer) (s : Said) → x ≡ t.circuit → id ≡ t.id → a ≡ A x id → Agrees (D t.circuit t.id) (A t.circuit t.id) s → Agrees (D x id) a s
agrees_at D A x id t a s p q e g = agrees_as (D x id) a (A x id) s e (subst₂ (λ z i. Agrees (D z i) (A z i) s) (sym p) (sym q) g)

no_call : (b : Bool) (x e : Sessions) → b ≡ false → cond b x e ≡ e
no_call b x e f = ap (λ z. cond z x e) f

abbrev has_space : Session → Bool
has_space u = nat_lt (length (unframed u)) 4096

-- what the circuits answer a take

abbrev pub taking : Core → ℕ → ℕ → ℕ → Result ℕ SessionFault
taking c x id n =
    if lives (c.circuits.circuit_at x).end && take_open (named (c.circuits.circuit_at x).end.half.sessions id)
    then Ok (take_count (named (c.circuits.circuit_at x).end.half.sessions id) n) else Err Closed

-- each call

told : (c : Core) (lines : ℕ) (t : Seat) (call : SessionCall) → IsHeld lines c t → answer_at c t.circuit t.id call ≡ answer_of (session_of c t) call
told c lines t call h = ap₂ (λ b (u : Session). if b then answer_of u call else Err Closed) h.lives h.named

-- one that isn't taken changes nothing
untaken : (k : Side) (c : Core) (lines : ℕ) (t : Seat) (call : SessionCall) → IsHeld lines c t → is_taken (session_of c t) call ≡ false → c ≡ calling k t.circuit (call_of t.id call) c
untaken k c lines t (Put bytes) h f = sym (calls_nothing k t.circuit c (calls.Put t.id bytes.now) (no_call _ _ _ (ap put_open h.named ∙ f)))
untaken k c lines t (Set setting) h f = sym (calls_nothing k t.circuit c (calls.Set t.id setting) (no_call _ _ _ (ap (λ (u : Session). put_open u && has_space u) h.named ∙ f)))
untaken k c lines t (Attend flag) h f = sym (calls_nothing k t.circuit c (calls.Attend t.id flag) (no_call _ _ _ (ap put_open h.named ∙ f)))
untaken k c lines t Close h f = sym (calls_nothing k t.circuit c (calls.Close t.id) (no_call _ _ _ (ap take_open h.named ∙ f)))

put_shown : (call : SessionCall) (n : ℕ) (b : Bool) → ((m : ℕ) → done_answer call m ≡ answers.Put (min m 4096)) → min n 4096 ≡ n
    → answer_shown (call_answer call (if b then Ok n else Err Closed)) ≡ cond b (Accepted n) Refused
put_shown call n true is low = ap answer_shown (is n) ∙ ap Accepted low
put_shown call n false is low = refl

done_shown : (call : SessionCall) (a b : Bool) → ((m : ℕ) → done_answer call m ≡ answers.Done)
    → answer_shown (call_answer call (if a then (if b then Ok 0 else Err Full) else Err Closed)) ≡ cond a (cond b Done Filled) Refused
done_shown call true true is = ap answer_shown (is 0)
done_shown call true false is = refl
done_shown call false b is = refl

few : (s : Session) (n : ℕ) → min (put_count s n) 4096 ≡ put_count s n
few s n = omega arith

agrees : (k : Side) (c d : Core) (t : Seat) (call : SessionCall) → d ≡ calling k t.circuit (call_of t.id call) c → (is_taken (session_of c t) call ≡ false → c ≡ d)
    → Agrees d (answer_shown (call_answer call (answer_of (session_of c t) call))) (call_on k c t call)
agrees k c d t (Put bytes) is none =
    let s : Session = session_of c t in
    let n : ℕ = put_count s (length bytes.now) in
    agrees_as d (answer_shown (call_answer (Put bytes) (answer_of s (Put bytes)))) (cond (put_open s) (Accepted n) Refused) (put_on k c t bytes.now) (put_shown (Put bytes) n (put_open s) (λ m. refl) (few s (length bytes.now)))
    (subst (λ z. Agrees d (cond (put_open s) (Accepted n) Refused) (cond (put_open s) (says z (Accepted n)) (says c Refused))) is (agrees_either c d (put_open s) (Accepted n) Refused none))
agrees k c d t (Set setting) is none =
    let s : Session = session_of c t in
    agrees_as d (answer_shown (call_answer (Set setting) (answer_of s (Set setting)))) (cond (put_open s) (cond (has_space s) Done Filled) Refused) (set_on k c t setting) (done_shown (Set setting) (put_open s) (has_space s) (λ m. refl))
    (subst (λ z. Agrees d (cond (put_open s) (cond (has_space s) Done Filled) Refused) (cond (put_open s) (cond (has_space s) (says z Done) (says c Filled)) (says c Refused))) is (agrees_both c d (put_open s) (has_space s) Done Filled Refused none))
agrees k c d t (Attend flag) is none =
    let s : Session = session_of c t in
    agrees_as d (answer_shown (call_answer (Attend flag) (answer_of s (Attend flag)))) (cond (put_open s) Done Refused) (attend_on k c t flag) (done_shown (Attend flag) (put_open s) true (λ m. refl))
    (subst (λ z. Agrees d (cond (put_open s) Done Refused) (cond (put_open s) (says z Done) (says c Refused))) is (agrees_either c d (put_open s) Done Refused none))
agrees k c d t Close is none =
    let s : Session = session_of c t in
    agrees_as d (answer_shown (call_answer Close (answer_of s Close))) (cond (take_open s) Done Refused) (close_on k c t) (done_shown Close (take_open s) true (λ m. refl))
    (subst (λ z. Agrees d (cond (take_open s) Done Refused) (cond (take_open s) (says z Done) (says c Refused))) is (agrees_either c d (take_open s) Done Refused none))

pub call_agrees : (k : Side) (c : Core) (lines : ℕ) (t : Seat) (call : SessionCall) → IsHeld lines c t
    → Agrees (calling k t.circuit (call_of t.id call) c) (answer_shown (call_answer call (answer_at c t.circuit t.id call))) (call_on k c t call)
call_agrees k c lines t call h =
    let d : Core = calling k t.circuit (call_of t.id call) c in
    agrees_as d (answer_shown (call_answer call (answer_at c t.circuit t.id call))) (answer_shown (call_answer call (answer_of (session_of c t) call))) (call_on k c t call)
    (ap (λ r. answer_shown (call_answer call r)) (told c lines t call h))
    (agrees k c d t call refl (untaken k c lines t call h))

-- a take of as many items as there are, at most

abbrev pub giving : Core → ℕ → ℕ → List base_item.Item → List base_item.Item
giving c x id given =
    if lives (c.circuits.circuit_at x).end && take_open (named (c.circuits.circuit_at x).end.half.sessions id)
    then map item_of (took (c.circuits.circuit_at x).end.half.sessions id (length given)) ++ drop (take_count (named (c.circuits.circuit_at x).end.half.sessions id) (length given)) given else given

take_alike : (k : Side) (c : Core) (x id m n : ℕ) → (take_open (named (c.circuits.circuit_at x).end.half.sessions id) ≡ true → take_count (named (c.circuits.circuit_at x).end.half.sessions id) m ≡ take_count (named (c.circuits.circuit_at x).end.half.sessions id) n)
    → calling k x (Take id m) c ≡ calling k x (Take id n) c
take_alike k c x id m n same = calls_alike k x c (Take id m) (Take id n) (by (take_open u) refl)
  where
    e : Sessions
    e = (c.circuits.circuit_at x).end.half.sessions

    u : Session
    u = named e id

    more : ℕ → Sessions
    more j = touch e (e.at_id id) (record u { taken = u.taken + j })

    by : (b : Bool) → take_open u ≡ b → cond (take_open u) (more (take_count u m)) e ≡ cond (take_open u) (more (take_count u n)) e
    by true f = ap (λ j. cond (take_open u) (more j) e) (same f)
    by false f = no_call (take_open u) (more (take_count u m)) e f ∙ sym (no_call (take_open u) (more (take_count u n)) e f)

pub take_agrees : (k : Side) (c : Core) (lines : ℕ) (t : Seat) (n : ℕ) (given : List base_item.Item) → IsHeld lines c t
    → length given ≡ min (takes_at c t.circuit t.id) n
    → Agrees (calling k t.circuit (Take t.id (length given)) c) (answer_shown (took_answer (taking c t.circuit t.id (length given)) (giving c t.circuit t.id given))) (take_on k c t n)
take_agrees k c lines t n given h long = record { core = inner.core ∙ sym alike; answer = told ∙ by (take_open s) refl ∙ inner.answer }
  where
    e : Sessions
    e = sessions_of c t

    s : Session
    s = session_of c t

    m : ℕ
    m = length given

    d : Core
    d = calling k t.circuit (Take t.id n) c

    ready : takes_at c t.circuit t.id ≡ cond (take_open s) (length (items s.came) - s.taken) 0
    ready = ap₂ (λ b (u : Session). cond (b && take_open u) (length (items u.came) - u.taken) 0) h.lives h.named

    count : take_open s ≡ true → take_count s m ≡ m
    count f = let w = ready ∙ ap (λ b. cond b (length (items s.came) - s.taken) 0) f in omega (arith, long, w)

    counts : take_open s ≡ true → take_count s m ≡ take_count s n
    counts f = let w = ready ∙ ap (λ b. cond b (length (items s.came) - s.taken) 0) f in omega (arith, long, w)

    alike : calling k t.circuit (Take t.id m) c ≡ d
    alike = take_alike k c t.circuit t.id m n (λ f. ap (λ u. take_count u m) h.named ∙ counts (sym (ap take_open h.named) ∙ f) ∙ sym (ap (λ u. take_count u n) h.named))

    inner : Agrees d (cond (take_open s) (Took (took e t.id n)) Refused) (take_on k c t n)
    inner = agrees_either c d (take_open s) (Took (took e t.id n)) Refused (λ f. sym (calls_nothing k t.circuit c (Take t.id n) (no_call _ _ _ (ap take_open h.named ∙ f))))

    given_of : Bool → Session → List base_item.Item
    given_of b u = if b && take_open u then map item_of (take (take_count u m) (drop u.taken (items u.came))) ++ drop (take_count u m) given else given

    answer_of : Bool → Session → Answer
    answer_of b u = answer_shown (took_answer (if b && take_open u then Ok (take_count u m) else Err Closed) (given_of b u))

    told : answer_shown (took_answer (taking c t.circuit t.id m) (giving c t.circuit t.id given)) ≡ answer_of true s
    told = ap₂ answer_of h.lives h.named

    front : ℕ → Session → List Item
    front j u = take j (drop u.taken (items u.came))

    shown_of : Bool → Answer
    shown_of b = answer_shown (took_answer (if b then Ok (take_count s m) else Err Closed) (if b then map item_of (front (take_count s m) s) ++ drop (take_count s m) given else given))

    by : (b : Bool) → take_open s ≡ b → shown_of (take_open s) ≡ cond (take_open s) (Took (took e t.id n)) Refused
    by true f =
        let none : drop (take_count s m) given ≡ [] = drop_of_length-le given (le_of_eq (sym (count f))) in
        ap shown_of f
        ∙ ap (λ z. Took (map item_shown (map item_of (front (take_count s m) s) ++ z))) none
        ∙ ap (λ z. Took (map item_shown z)) (append-nil (map item_of (front (take_count s m) s)))
        ∙ ap Took (items_of_back (front (take_count s m) s) ∙ ap (λ j. front j s) (counts f) ∙ ap (λ u. front (take_count u n) u) (sym h.named))
        ∙ sym (ap (λ b. cond b (Took (took e t.id n)) Refused) f)
    by false f = ap shown_of f ∙ sym (ap (λ b. cond b (Took (took e t.id n)) Refused) f)
