-- Tallied numbers, act by act, of a core.
use Rattle.std.proofs.Common.{◌≡◌, ℕ, ◌+◌, arith, refl, sym, ap, ◌∙◌, subst, Bool, true, false, not, cond, ◌&&◌, ◌||◌, List, [], ◌∷◌, map, Option, Some, nat_eq, nat_lt}
use Rattle.lat_model.specs.circuits.Events.{stray_stop}
use Rattle.std.proofs.lemmas.Bool.{and_parts, eqb-false}
use Rattle.lat_model.specs.sessions.Slots.{Slot}
use Rattle.lat_model.specs.sessions.Session.{put_open, take_open}
use Rattle.lat_model.specs.sessions.Calls.{Call, Put, Set, Attend, Take, Close}
use Rattle.lat_model.specs.numbers.Link.{Frame}
use Rattle.lat_model.specs.ends.End.{End, Step, still, lives, call_end}
use Rattle.lat_model.specs.ends.Run.{RunStep, RunAnswer, RunTaken, RunRepeated, RunAckOnly, RunBroke, run_end}
use Rattle.lat_model.specs.ends.Starting.{Agreed, Setup, reply_end, noted, replied, make_slave, again_start, hear_reply, hear_stop}
use Rattle.lat_model.specs.circuits.World.{CircuitEntry, Table, first_end}
use Rattle.lat_model.specs.circuits.Arriving.{is_of, living, slave_of}
use Rattle.lat_model.specs.circuits.Ids.{next_id, ids}
use Rattle.lat_machines.specs.values.Messages.{Head}
use Rattle.lat_machines.specs.values.Notices.{Notice}
use Rattle.lat_machines.specs.values.Frames.{Value, OfNotice, Plain, OutFrame, plain}
use Rattle.lat_machines.specs.values.Names.{Name}
use Rattle.lat_machines.specs.values.Timing.{Timing}
use Rattle.lat_machines.specs.values.Events.{Numbers}
use Rattle.lat_machines.specs.values.Answers.{Answer, Closed, NoLine, Heard, Running, Taken, Again, AckOnly, Foreign, Broke, Ended}
use Rattle.lat_machines.specs.cores.Acts.{idle, steps_at, local_at, time_at, move_at, end_at, stray_at}
use Rattle.lat_machines.specs.cores.Hearing.{HeardAct, foreign, answer_of, names, fits_kind, numbers_at, run_frame, run_at, hear_run, hear_stop_at, hear_reply_at, StartFact, Repeats, Makes, Refuses, start_fact, start_at}
use Rattle.lat_machines.specs.cores.Cores.{Seat, Side, Core, sent_frame, with_circuits, Doing, then_doing, acts, time_each, end_each, told_stranger, is_stranger}
use Rattle.lat_machines.specs.cores.Lines.{session_of, seat_at, has_session, line_exists}
use Rattle.lat_machines.specs.cores.LineCalls.{Said, says, calls_on, put_on, set_on, attend_on, take_on, close_on, on_line}
use Rattle.lat_machines.specs.world.Bears.{BearsValue}
use Rattle.lat_machines.specs.world.Tally.{formed_in, taken_in, new_of}
use Rattle.lat_machines.proofs.events.Leads.{append_nil}
use Rattle.lat_machines.proofs.queue.Rooms.{least_true}
use Rattle.lat_machines.proofs.spans.Frames.{side_of}
use Rattle.lat_machines.proofs.tally.Ends.{plus_zero, Counts, plainly, quiet, RunCounts, taken_by_run, counts_run}
use Rattle.lat_machines.proofs.tally.Tables.{CoreCounts, Same, Steady, act_cond, cond_none, core_none, core_then, idle_same, local_counts, messages_on, more_as, new_counts, steps_counts, steps_same, tallied_same, time_counts, end_counts}

-- a frame without a circuit's mark
plain_more : (c d : Core) (to : ℕ) (v : Value) (fs : List OutFrame) → BearsValue (messages_on d.circuits 0) Plain 0 v → Same c d fs → Same c d (plain to 0 v ∷ fs)
plain_more c d to v fs h p = record {
  numbers = (tt, tallied_same (formed_in c) (λ x. formed_in c x + cond (nat_eq 0 x) 0 0) (taken_in d) (taken_in d) (λ x. plus_zero (formed_in c x) ∙ ap (λ z. formed_in c x + z) (sym (cond_none (nat_eq 0 x)))) (λ x. refl) fs p.numbers);
  bears = (h, p.bears);
  formed = λ x. (let a : formed_in d x ≡ formed_in c x + new_of x fs = p.formed x in let z : cond {A = ℕ} (nat_eq 0 x) 0 0 ≡ 0 = cond_none (nat_eq 0 x) in omega (arith, a, z));
  taken = p.taken;
  shown = p.shown;
  grows = p.grows;
  steady = p.steady;
}

pub notice_more : (c d : Core) (to : ℕ) (n : Notice) (fs : List OutFrame) → Same c d fs → Same c d (plain to 0 (OfNotice n) ∷ fs)
notice_more c d to n fs p = plain_more c d to (OfNotice n) fs refl p

-- hearing

heard_cond : (k : Side) (c : Core) (n : Bool) (x y : HeardAct) → (n ≡ true → Same c (acts k c x.act).core (acts k c x.act).frames) → (n ≡ false → Same c (acts k c y.act).core (acts k c y.act).frames) → Same c (acts k c (cond n x y).act).core (acts k c (cond n x y).act).frames
heard_cond k c true x y p q = p refl
heard_cond k c false x y p q = q refl

stop_steps : (now r : ℕ) (e : End) → Counts e (hear_stop now r e)
stop_steps now r e = go (lives e)
  where
    yes : Step
    yes = still (record e { ended = Some r; moment = now })

    go : (n : Bool) → Counts e (cond n yes (still e))
    go true = quiet e yes refl refl
    go false = quiet e (still e) refl refl

pub stop_counts : (b : Bool) (k : Side) (c : Core) (from to source now reason : ℕ) → Steady c.circuits → Same c (acts k c (hear_stop_at b c.circuits from to source now reason).act).core (acts k c (hear_stop_at b c.circuits from to source now reason).act).frames
stop_counts b k c from to source now reason r =
    let x : CircuitEntry = c.circuits.circuit_at to in
    heard_cond k c (nat_eq x.address from && (nat_eq x.end.peer source || nat_eq source 0) && lives x.end) (record { act = steps_at b c.circuits to (hear_stop now reason x.end); answer = Ended reason }) (foreign c.circuits)
    (λ i. steps_same b k c to (hear_stop now reason x.end) r (and_parts (nat_eq x.address from && (nat_eq x.end.peer source || nat_eq source 0)) (lives x.end) i).1 (stop_steps now reason x.end)) (λ i. idle_same k c r)

reply_steps : (now source : ℕ) (g : Agreed) (e : End) → Counts e (hear_reply now source g e)
reply_steps now source g e = go (lives e) e.running
  where
    go : (n m : Bool) → Counts e (cond n (cond m (noted now e) (still (reply_end now source g e))) (still e))
    go true true = quiet e (noted now e) refl refl
    go true false = quiet e (still (reply_end now source g e)) refl refl
    go false m = quiet e (still e) refl refl

pub reply_counts : (k : Side) (c : Core) (from to source now : ℕ) (g : Agreed) → Steady c.circuits → Same c (acts k c (hear_reply_at c.circuits from to source now g).act).core (acts k c (hear_reply_at c.circuits from to source now g).act).frames
reply_counts k c from to source now g r =
    let x : CircuitEntry = c.circuits.circuit_at to in
    heard_cond k c (nat_eq x.address from && lives x.end && (not x.end.running || nat_eq x.end.peer source)) (record { act = steps_at true c.circuits to (hear_reply now source g x.end); answer = cond x.end.running Again Running }) (foreign c.circuits)
    (λ i. steps_same true k c to (hear_reply now source g x.end) r (and_parts (nat_eq x.address from) (lives x.end) (and_parts (nat_eq x.address from && lives x.end) (not x.end.running || nat_eq x.end.peer source) i).0).1 (reply_steps now source g x.end)) (λ i. idle_same k c r)

again_steps : (now : ℕ) (e : End) → Counts e (again_start now e)
again_steps now e = go (lives e && not e.heard_run) (lives e)
  where
    go : (n m : Bool) → Counts e (cond n (replied now e) (cond m (noted now e) (still e)))
    go true m = plainly e (replied now e) tt refl
    go false true = quiet e (noted now e) refl refl
    go false false = quiet e (still e) refl refl

pub start_counts : (k : Side) (c : Core) (u : Setup) (from source now : ℕ) (g : Agreed) → Steady c.circuits → Same c (acts k c (start_at u c.circuits from source now g (start_fact c.circuits from source))).core (acts k c (start_at u c.circuits from source now g (start_fact c.circuits from source))).frames
start_counts k c u from source now g r = go (nat_eq n 0) refl (nat_lt (living t) 8 && nat_lt t.drawn 65535)
  where
    t : Table
    t = c.circuits

    n : ℕ
    n = slave_of t from source

    fact : Bool → Bool → StartFact
    fact i m = cond i (cond m (Makes (next_id t)) Refuses) (Repeats n)

    go : (i : Bool) → nat_eq n 0 ≡ i → (m : Bool) → Same c (acts k c (start_at u t from source now g (fact i m))).core (acts k c (start_at u t from source now g (fact i m))).frames
    go true q true = new_counts false k c from (make_slave now source g (first_end false false u)) r refl tt
    go true q false = plain_more c c from _ [] refl (core_none c r)
    go false q m =
        steps_same false k c n (again_start now (t.circuit_at n).end) r
        (and_parts (is_of (t.circuit_at n) from source) (lives (t.circuit_at n).end) (least_true (λ j. is_of (t.circuit_at j) from source && lives (t.circuit_at j).end) (ids t) (eqb-false n 0 q))).1
        (again_steps now (t.circuit_at n).end)

move_counts : (b : Bool) (k : Side) (c : Core) (x now : ℕ) → Steady c.circuits → Same c (acts k c (move_at b c.circuits x now)).core (acts k c (move_at b c.circuits x now)).frames
move_counts b k c x now r =
    let e : End = (c.circuits.circuit_at x).end in
    let s : Step = record { end = record e { moment = now }; sent = [] } in
    act_cond k c (lives e) (steps_at b c.circuits x s) (idle c.circuits) (λ i. steps_same b k c x s r i (quiet e s refl refl)) (λ i. idle_same k c r)

-- how many messages an answer says were taken
abbrev pub taken_of : Heard → ℕ
taken_of Running = 0
taken_of (Taken n) = 1
taken_of Again = 0
taken_of AckOnly = 0
taken_of Foreign = 0
taken_of (Broke r) = 0
taken_of (Ended r) = 0

says_taken : (a : RunAnswer) → taken_by_run a ≡ taken_of (answer_of a)
says_taken (RunTaken n) = refl
says_taken RunRepeated = refl
says_taken RunAckOnly = refl
says_taken RunBroke = refl

pub run_counts : (b : Bool) (k : Side) (c : Core) (from : ℕ) (wide : Bool) (h : Head) (slots : List Slot) (n : Option Numbers) (now : ℕ) → Steady c.circuits → CoreCounts c (acts k c (hear_run b c.circuits from wide h slots n now).act).core (acts k c (hear_run b c.circuits from wide h slots n now).act).frames (λ y. cond (nat_eq h.to y) (taken_of (hear_run b c.circuits from wide h slots n now).answer) 0)
run_counts b k c from wide h slots n now r = go (names t from h.to h.from) refl (fits_kind e h.master wide)
  where
    t : Table
    t = c.circuits

    e : End
    e = (t.circuit_at h.to).end

    f : Frame (List Slot)
    f = run_frame (numbers_at e h n) slots

    none : (d : Core) (fs : List OutFrame) → Same c d fs → CoreCounts c d fs (λ y. cond (nat_eq h.to y) 0 0)
    none d fs p = more_as c.circuits d.circuits fs (λ y. 0) (λ y. cond (nat_eq h.to y) 0 0) (λ y. sym (cond_none (nat_eq h.to y))) p

    go : (i : Bool) → names t from h.to h.from ≡ i → (m : Bool) → CoreCounts c (acts k c (cond i (run_at b t h.to m now h.ask f) (foreign t)).act).core (acts k c (cond i (run_at b t h.to m now h.ask f) (foreign t)).act).frames (λ y. cond (nat_eq h.to y) (taken_of (cond i (run_at b t h.to m now h.ask f) (foreign t)).answer) 0)
    go false q m = none (acts k c (idle t)).core (acts k c (idle t)).frames (idle_same k c r)
    go true q false = none (acts k c (move_at b t h.to now)).core (acts k c (move_at b t h.to now)).frames (move_counts b k c h.to now r)
    go true q true =
        let s : RunStep = run_end now h.ask f e in
        let p : RunCounts e s = counts_run now h.ask f e in
        let l : lives e ≡ true = (and_parts (is_of (t.circuit_at h.to) from h.from) (lives e) (and_parts (is_of (t.circuit_at h.to) from h.from && lives e) e.running q).0).1 in
        more_as c.circuits (acts k c (steps_at b t h.to s.step)).core.circuits (acts k c (steps_at b t h.to s.step)).frames (λ y. cond (nat_eq h.to y) (taken_by_run s.answer) 0) (λ y. cond (nat_eq h.to y) (taken_of (answer_of s.answer)) 0) (λ y. ap (λ z. cond (nat_eq h.to y) z 0) (says_taken s.answer))
        (steps_counts b k c h.to s.step (taken_by_run s.answer) r l (record { sent = p.sent; forms = p.forms; takes = p.takes; shows = p.shows; bears = p.bears; grows = p.grows; full = p.full }))

-- calls and time

pub local_quiet : (b : Bool) (k : Side) (c : Core) (x : ℕ) (call : Call) → Steady c.circuits → Same c (acts k c (local_at b c.circuits x call)).core []
local_quiet b k c x call r = subst (Same c (acts k c (local_at b c.circuits x call)).core) (go (lives (c.circuits.circuit_at x).end)) (local_counts b k c x call r)
  where
    s : Step
    s = record { end = call_end call (c.circuits.circuit_at x).end; sent = [] }

    go : (n : Bool) → map (sent_frame k (with_circuits c (local_at b c.circuits x call).table)) (cond n (steps_at b c.circuits x s) (idle c.circuits)).sent ≡ []
    go true = refl
    go false = refl

pub core_quiet : (c d e : Core) (fs : List OutFrame) (more : ℕ → ℕ) → CoreCounts c d fs more → Same d e [] → CoreCounts c e fs more
core_quiet c d e fs more p q = subst (λ z. CoreCounts c e z more) (append_nil fs) (core_then c d e fs [] more p q)

pub times_counts : (b : Bool) (t : Timing) (name : Name) (xs : List ℕ) (c : Core) (d : Doing) → Same c d.core d.frames → Same c (time_each (side_of b t name) xs d).core (time_each (side_of b t name) xs d).frames
times_counts b t name [] c d p = p
times_counts b t name (x ∷ xs) c d p =
    let e : Doing = acts (side_of b t name) d.core (time_at b d.core.circuits x d.core.moment) in
    times_counts b t name xs c (then_doing d (λ y. acts (side_of b t name) y (time_at b y.circuits x y.moment)))
    (core_then c d.core e.core d.frames e.frames (λ y. 0) p (time_counts b (side_of b t name) d.core x d.core.moment p.steady))

pub ends_counts : (b : Bool) (t : Timing) (name : Name) (n : ℕ) (xs : List ℕ) (c : Core) (d : Doing) → Same c d.core d.frames → Same c (end_each (side_of b t name) n xs d).core (end_each (side_of b t name) n xs d).frames
ends_counts b t name n [] c d p = p
ends_counts b t name n (x ∷ xs) c d p =
    let e : Doing = acts (side_of b t name) d.core (end_at b d.core.circuits x n) in
    ends_counts b t name n xs c (then_doing d (λ y. acts (side_of b t name) y (end_at b y.circuits x n)))
    (core_then c d.core e.core d.frames e.frames (λ y. 0) p (end_counts b (side_of b t name) d.core x n p.steady))

pub stray_counts : (k : Side) (b : Bool) (c : Core) (to d s r : ℕ) → Steady c.circuits → Same c (acts k c (stray_at b c.circuits to d s r)).core (acts k c (stray_at b c.circuits to d s r)).frames
stray_counts k b c to d s n r = plain_more c c to _ [] refl (core_none c r)

pub stranger_counts : (k : Side) (prompt : Bool) (d : Core) (from : ℕ) (h : Head) (c : Core) → Steady c.circuits → Same c c (told_stranger k prompt d from h)
stranger_counts k prompt d from h c r = go (prompt && is_stranger d.circuits from h)
  where
    go : (n : Bool) → Same c c (cond n (map (sent_frame k d) (stray_stop k.server from h.from h.to 5 ∷ [])) [])
    go true = plain_more c c from _ [] refl (core_none c r)
    go false = core_none c r

said_cond : (c : Core) (n : Bool) (x y : Said) → Same c x.core [] → Same c y.core [] → Same c (cond n x y).core []
said_cond c true x y f g = f
said_cond c false x y f g = g

pub line_counts : (lines : ℕ) (c : Core) (line : ℕ) (f : Seat → Said) → Steady c.circuits → ((s : Seat) → Same c (f s).core []) → Same c (on_line lines c line f).core []
line_counts lines c line f r h =
    said_cond c (line_exists lines line) (cond (has_session c line) (f (seat_at c line)) (says c Closed)) (says c NoLine)
    (said_cond c (has_session c line) (f (seat_at c line)) (says c Closed) (h (seat_at c line)) (core_none c r)) (core_none c r)

call_if : (b : Bool) (t : Timing) (name : Name) (c : Core) (s : Seat) (n : Bool) (x : Call) (y z : Answer) → Steady c.circuits → Same c (cond n (says (calls_on (side_of b t name) c s x) y) (says c z)).core []
call_if b t name c s n x y z r = said_cond c n (says (calls_on (side_of b t name) c s x) y) (says c z) (local_quiet b (side_of b t name) c s.circuit x r) (core_none c r)

pub put_same : (b : Bool) (t : Timing) (name : Name) (c : Core) (s : Seat) (bs : List ℕ) → Steady c.circuits → Same c (put_on (side_of b t name) c s bs).core []
put_same b t name c s bs r = call_if b t name c s (put_open (session_of c s)) (Put s.id bs) _ Closed r

pub set_same : (b : Bool) (t : Timing) (name : Name) (c : Core) (s : Seat) (setting : List ℕ) → Steady c.circuits → Same c (set_on (side_of b t name) c s setting).core []
set_same b t name c s setting r = said_cond c (put_open (session_of c s)) _ (says c Closed) (call_if b t name c s _ (Set s.id setting) _ _ r) (core_none c r)

pub attend_same : (b : Bool) (t : Timing) (name : Name) (c : Core) (s : Seat) (flag : ℕ) → Steady c.circuits → Same c (attend_on (side_of b t name) c s flag).core []
attend_same b t name c s flag r = call_if b t name c s (put_open (session_of c s)) (Attend s.id flag) _ Closed r

pub take_same : (b : Bool) (t : Timing) (name : Name) (c : Core) (s : Seat) (n : ℕ) → Steady c.circuits → Same c (take_on (side_of b t name) c s n).core []
take_same b t name c s n r = call_if b t name c s (take_open (session_of c s)) (Take s.id n) _ Closed r

pub close_same : (b : Bool) (t : Timing) (name : Name) (c : Core) (s : Seat) → Steady c.circuits → Same c (close_on (side_of b t name) c s).core []
close_same b t name c s r = call_if b t name c s (take_open (session_of c s)) (Close s.id) _ Closed r
