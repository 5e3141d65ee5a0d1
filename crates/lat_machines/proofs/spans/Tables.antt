-- Spans, act by act: what a core's circuits and frames keep.
use Rattle.std.proofs.Common.{◌≡◌, ◌≢◌, ℕ, suc, refl, sym, ap, ◌∙◌, Bool, true, false, not, cond, ◌&&◌, ◌||◌, List, [], ◌∷◌, Option, Some, nat_eq, nat_lt, eqb-true}
use Rattle.std.proofs.lemmas.Bool.{and_parts, true≢false, false≢true, eqb-false}
use Rattle.lat_model.specs.sessions.Slots.{Slot}
use Rattle.lat_model.specs.sessions.Calls.{Call}
use Rattle.lat_model.specs.Lists.{Each}
use Rattle.lat_model.specs.ends.End.{Sent, End, Step, lives, call_end, finish, Stopped, lapse}
use Rattle.lat_model.specs.ends.Timers.{note_empty, time_step}
use Rattle.lat_model.specs.ends.Run.{run_end}
use Rattle.lat_model.specs.ends.Starting.{Agreed, Setup, reply_end, make_slave, again_start, hear_reply, hear_stop}
use Rattle.lat_model.specs.circuits.World.{CircuitEntry, Table, Wired, wire_all, first_end}
use Rattle.lat_model.specs.circuits.Arriving.{is_of, living, slave_of}
use Rattle.lat_model.proofs.sessions.Words.{upd_same, upd_other, upd_all}
use Rattle.lat_model.proofs.circuits.Kin.{kin_time, kin_run, kin_again, kin_stop}
use Rattle.lat_model.proofs.circuits.Begins.{kin_call}
use Rattle.lat_model.specs.circuits.Ids.{is_drawn, is_id_of, next_id, ids}
use Rattle.lat_model.proofs.circuits.Ids.{drawn_before}
use Rattle.lat_machines.specs.values.Messages.{Head}
use Rattle.lat_machines.specs.values.Events.{Numbers}
use Rattle.lat_machines.specs.values.Answers.{Again, Running, Ended}
use Rattle.lat_machines.specs.cores.Acts.{Acted, idle, put_at, steps_at, call_at, called, local_at, time_at, move_at, end_at, stray_at}
use Rattle.lat_machines.specs.cores.Hearing.{HeardAct, foreign, names, fits_kind, numbers_at, run_frame, run_at, hear_run, hear_stop_at, hear_reply_at, StartFact, Repeats, Makes, Refuses, start_fact, start_at, outlive, outlive_at, is_outlived, follows}
use Rattle.lat_machines.proofs.queue.Rooms.{least_true}
use Rattle.lat_machines.proofs.spans.Times.{has_span, SentRunning, each_any, time_sends}

-- a running circuit to the address o is wide exactly where z is; of the node, each circuit that was drawn runs, and so each
-- that lives
pub record TableOk (b : Bool) (o : ℕ) (z : Bool) (t : Table) : Type 0 where
  pub wide : (x : ℕ) → (t.circuit_at x).end.running ≡ true → (t.circuit_at x).address ≡ o → (t.circuit_at x).end.wide ≡ z
  pub alive : b ≡ false → (x : ℕ) → lives (t.circuit_at x).end ≡ true → (t.circuit_at x).end.running ≡ true
  pub drawn : b ≡ false → (x : ℕ) → is_drawn t x ≡ true → (t.circuit_at x).end.running ≡ true

abbrev pub WireOk : ℕ → Bool → Table → Wired → Type 0
WireOk o z t v = has_span v.sent ≡ true → v.to ≡ o → (t.circuit_at v.circuit).end.wide ≡ z

pub record ActOk (b : Bool) (o : ℕ) (z : Bool) (x : Acted) : Type 0 where
  pub table : TableOk b o z x.table
  pub sent : Each (WireOk o z x.table) x.sent

put_ok : (b : Bool) (o : ℕ) (z : Bool) (t : Table) (drawn x address : ℕ) (s : Step) → TableOk b o z t → ((y : ℕ) → y ≢ x → is_id_of t.first drawn y ≡ true → is_drawn t y ≡ true) → (s.end.running ≡ true → address ≡ o → s.end.wide ≡ z) → (b ≡ false → s.end.running ≡ true) → SentRunning s.end s.sent → ActOk b o z (put_at b t drawn x address s)
put_ok b o z t drawn x address s r old here alive sends = record {
  table = record {
    wide = λ y. upd_all (λ (c : CircuitEntry). c.end.running ≡ true → c.address ≡ o → c.end.wide ≡ z) t.circuit_at x new here r.wide y;
    alive = λ q y. upd_all (λ (c : CircuitEntry). lives c.end ≡ true → c.end.running ≡ true) t.circuit_at x new (λ l. alive q) (r.alive q) y;
    drawn = λ q y l. runs q y l (nat_eq y x) refl;
  };
  sent = wires s.sent sends;
}
  where
    new : CircuitEntry
    new = record { address = address; end = s.end }

    after : Table
    after = (put_at b t drawn x address s).table

    runs : b ≡ false → (y : ℕ) → is_id_of t.first drawn y ≡ true → (e : Bool) → nat_eq y x ≡ e → (after.circuit_at y).end.running ≡ true
    runs q y l true i = ap (λ (w : CircuitEntry). w.end.running) (ap after.circuit_at (eqb-true y x i) ∙ upd_same t.circuit_at x new) ∙ alive q
    runs q y l false i = ap (λ (w : CircuitEntry). w.end.running) (upd_other t.circuit_at x new y (eqb-false y x i)) ∙ r.drawn q y (old y (eqb-false y x i) l)

    wires : (ss : List Sent) → SentRunning s.end ss → Each (WireOk o z after) (wire_all b x address s.end.peer ss)
    wires [] q = tt
    wires (v ∷ vs) q = (λ h a. ap (λ (c : CircuitEntry). c.end.wide) (upd_same t.circuit_at x new) ∙ here (q.0 h) a, wires vs q.1)

-- behind a draw
below : (t : Table) (y : ℕ) → y ≢ next_id t → is_id_of t.first (suc t.drawn) y ≡ true → is_drawn t y ≡ true
below t y n l = drawn_before t.first t.drawn y n l

running_on : (e f : End) → f.running ≡ e.running → (ss : List Sent) → SentRunning e ss → SentRunning f ss
running_on e f n [] p = tt
running_on e f n (v ∷ vs) p = (λ h. n ∙ p.0 h, running_on e f n vs p.1)

-- a step of a living circuit that leaves its span
steps_ok : (b : Bool) (o : ℕ) (z : Bool) (t : Table) (x : ℕ) (s : Step) → TableOk b o z t → lives (t.circuit_at x).end ≡ true → s.end.wide ≡ (t.circuit_at x).end.wide → s.end.running ≡ (t.circuit_at x).end.running → SentRunning (t.circuit_at x).end s.sent → ActOk b o z (steps_at b t x s)
steps_ok b o z t x s r l w n sends =
    put_ok b o z t t.drawn x (t.circuit_at x).address (note_empty (t.circuit_at x).end s) r (λ y n y_drawn. y_drawn) (λ q a. w ∙ r.wide x (sym n ∙ q) a) (λ q. n ∙ r.alive q x l)
    (running_on (t.circuit_at x).end s.end n s.sent sends)

pub idle_ok : (b : Bool) (o : ℕ) (z : Bool) (t : Table) → TableOk b o z t → ActOk b o z (idle t)
idle_ok b o z t r = record { table = r; sent = tt }

act_cond : (b : Bool) (o : ℕ) (z : Bool) (n : Bool) (x y : Acted) → (n ≡ true → ActOk b o z x) → (n ≡ false → ActOk b o z y) → ActOk b o z (cond n x y)
act_cond b o z true x y p q = p refl
act_cond b o z false x y p q = q refl

heard_cond : (b : Bool) (o : ℕ) (z : Bool) (n : Bool) (x y : HeardAct) → (n ≡ true → ActOk b o z x.act) → (n ≡ false → ActOk b o z y.act) → ActOk b o z (cond n x y).act
heard_cond b o z true x y p q = p refl
heard_cond b o z false x y p q = q refl

pub local_ok : (b : Bool) (o : ℕ) (z : Bool) (t : Table) (x : ℕ) (c : Call) → TableOk b o z t → ActOk b o z (local_at b t x c)
local_ok b o z t x c r =
    let e : End = (t.circuit_at x).end in
    let s : Step = record { end = call_end c e; sent = [] } in
    act_cond b o z (lives e) (steps_at b t x s) (idle t) (λ i. steps_ok b o z t x s r i (kin_call c e).wide (kin_call c e).running tt) (λ i. idle_ok b o z t r)

pub time_ok : (b : Bool) (o : ℕ) (z : Bool) (t : Table) (x now : ℕ) → TableOk b o z t → ActOk b o z (time_at b t x now)
time_ok b o z t x now r =
    let e : End = (t.circuit_at x).end in
    act_cond b o z (lives e) (steps_at b t x (time_step now e)) (idle t) (λ i. steps_ok b o z t x (time_step now e) r i (kin_time now e).wide (kin_time now e).running (time_sends now e)) (λ i. idle_ok b o z t r)

pub end_ok : (b : Bool) (o : ℕ) (z : Bool) (t : Table) (x r : ℕ) → TableOk b o z t → ActOk b o z (end_at b t x r)
end_ok b o z t x n r =
    let e : End = (t.circuit_at x).end in
    act_cond b o z (lives e) (steps_at b t x (finish n e)) (idle t) (λ i. steps_ok b o z t x (finish n e) r i refl refl (quietly e (nat_eq e.peer 0))) (λ i. idle_ok b o z t r)
  where
    quietly : (e : End) (c : Bool) → SentRunning e (cond c [] (Stopped n ∷ []))
    quietly e true = tt
    quietly e false = ((λ y. absurd (false≢true y)), tt)

pub stray_ok : (b : Bool) (o : ℕ) (z : Bool) (t : Table) (to d s r : ℕ) → TableOk b o z t → ActOk b o z (stray_at b t to d s r)
stray_ok b o z t to d s n r = record { table = r; sent = ((λ y. absurd (false≢true y)), tt) }

pub outlive_ok : (o : ℕ) (z : Bool) (from source : ℕ) (xs : List ℕ) (t : Table) → TableOk false o z t → TableOk false o z (outlive from source xs t)
outlive_ok o z from source [] t r = r
outlive_ok o z from source (x ∷ xs) t r = outlive_ok o z from source xs (outlive_at from source x t) (go (is_outlived (t.circuit_at x) from source) refl)
  where
    e : End
    e = (t.circuit_at x).end

    go : (n : Bool) → is_outlived (t.circuit_at x) from source ≡ n → TableOk false o z (cond n (steps_at false t x (lapse 5 e)).table t)
    go true i = (steps_ok false o z t x (lapse 5 e) r (and_parts (nat_eq (t.circuit_at x).address from && follows e.peer source) (lives e) i).1 refl refl tt).table
    go false i = r

move_ok : (b : Bool) (o : ℕ) (z : Bool) (t : Table) (x now : ℕ) → TableOk b o z t → ActOk b o z (move_at b t x now)
move_ok b o z t x now r =
    let e : End = (t.circuit_at x).end in
    let s : Step = record { end = record e { moment = now }; sent = [] } in
    act_cond b o z (lives e) (steps_at b t x s) (idle t) (λ i. steps_ok b o z t x s r i refl refl tt) (λ i. idle_ok b o z t r)

pub call_ok : (o : ℕ) (z : Bool) (u : Setup) (t : Table) (address now : ℕ) → TableOk true o z t → ActOk true o z (call_at u t address now)
call_ok o z u t address now r = put_ok true o z t (suc t.drawn) (next_id t) address (called u now) r (below t) (λ q. absurd (false≢true q)) (λ q. absurd (true≢false q)) ((λ h. absurd (false≢true h)), tt)

pub run_ok : (b : Bool) (o : ℕ) (z : Bool) (t : Table) (from : ℕ) (wide : Bool) (h : Head) (slots : List Slot) (k : Option Numbers) (now : ℕ) → TableOk b o z t → ActOk b o z (hear_run b t from wide h slots k now).act
run_ok b o z t from wide h slots k now r =
    let e : End = (t.circuit_at h.to).end in
    let s : Step = (run_end now h.ask (run_frame (numbers_at e h k) slots) e).step in
    heard_cond b o z (names t from h.to h.from) (run_at b t h.to (fits_kind e h.master wide) now h.ask (run_frame (numbers_at e h k) slots)) (foreign t)
    (λ i. heard_cond b o z (fits_kind e h.master wide) _ _
    (λ j. let p : ((is_of (t.circuit_at h.to) from h.from && lives e) ≡ true) × (e.running ≡ true) = and_parts (is_of (t.circuit_at h.to) from h.from && lives e) e.running i in
    steps_ok b o z t h.to s r (and_parts (is_of (t.circuit_at h.to) from h.from) (lives e) p.0).1 (kin_run now h.ask (run_frame (numbers_at e h k) slots) e).wide (kin_run now h.ask (run_frame (numbers_at e h k) slots) e).running
    (each_any (λ (v : Sent). has_span v ≡ true → e.running ≡ true) (λ v y. p.1) s.sent))
    (λ j. move_ok b o z t h.to now r))
    (λ i. idle_ok b o z t r)

stop_sends : (now r : ℕ) (e : End) → SentRunning e (hear_stop now r e).sent
stop_sends now r e = go (lives e)
  where
    yes : Step
    yes = record { end = record e { ended = Some r; moment = now }; sent = [] }

    no : Step
    no = record { end = e; sent = [] }

    go : (n : Bool) → SentRunning e (cond n yes no).sent
    go true = tt
    go false = tt

pub stop_ok : (b : Bool) (o : ℕ) (z : Bool) (t : Table) (from to source now reason : ℕ) → TableOk b o z t → ActOk b o z (hear_stop_at b t from to source now reason).act
stop_ok b o z t from to source now reason r =
    let c : CircuitEntry = t.circuit_at to in
    heard_cond b o z (nat_eq c.address from && (nat_eq c.end.peer source || nat_eq source 0) && lives c.end) (record { act = steps_at b t to (hear_stop now reason c.end); answer = Ended reason }) (foreign t)
    (λ i. steps_ok b o z t to (hear_stop now reason c.end) r (and_parts (nat_eq c.address from && (nat_eq c.end.peer source || nat_eq source 0)) (lives c.end) i).1 (kin_stop now reason c.end).wide (kin_stop now reason c.end).running (stop_sends now reason c.end))
    (λ i. idle_ok b o z t r)

-- the first reply says the span, where it comes from the address o
pub reply_ok : (o : ℕ) (z : Bool) (t : Table) (from to source now : ℕ) (g : Agreed) → TableOk true o z t → (from ≡ o → g.wide ≡ z) → ActOk true o z (hear_reply_at t from to source now g).act
reply_ok o z t from to source now g r h =
    heard_cond true o z (nat_eq c.address from && lives c.end && (not c.end.running || nat_eq c.end.peer source)) (record { act = steps_at true t to (hear_reply now source g c.end); answer = cond c.end.running Again Running }) (foreign t)
    (λ i. put_ok true o z t t.drawn to c.address (note_empty c.end (hear_reply now source g c.end)) r (λ y n y_drawn. y_drawn)
    (λ q a. here (λ y. h (sym (eqb-true c.address from (and_parts (nat_eq c.address from) (lives c.end) (and_parts (nat_eq c.address from && lives c.end) (not c.end.running || nat_eq c.end.peer source) i).0).0) ∙ y)) (lives c.end) c.end.running refl q a)
    (λ q. absurd (true≢false q)) (sends (lives c.end) c.end.running))
    (λ i. idle_ok true o z t r)
  where
    c : CircuitEntry
    c = t.circuit_at to

    again : Step
    again = record { end = record (c.end) { moment = now; heard_at = now }; sent = [] }

    first : Step
    first = record { end = reply_end now source g c.end; sent = [] }

    none : Step
    none = record { end = c.end; sent = [] }

    here : (c.address ≡ o → g.wide ≡ z) → (n m : Bool) → c.end.running ≡ m → (cond n (cond m again first) none).end.running ≡ true → c.address ≡ o → (cond n (cond m again first) none).end.wide ≡ z
    here y true true i q a = r.wide to q a
    here y true false i q a = y a
    here y false m i q a = r.wide to q a

    sends : (n m : Bool) → SentRunning (cond n (cond m again first) none).end (cond n (cond m again first) none).sent
    sends true true = tt
    sends true false = tt
    sends false m = tt

again_sends : (now : ℕ) (e : End) → e.running ≡ true → SentRunning e (again_start now e).sent
again_sends now e q = each_any (λ (v : Sent). has_span v ≡ true → e.running ≡ true) (λ v h. q) (again_start now e).sent

-- a START makes a circuit of the span that it says, where it comes from the address o
pub start_ok : (o : ℕ) (z : Bool) (u : Setup) (t : Table) (from source now : ℕ) (g : Agreed) → TableOk false o z t → (from ≡ o → g.wide ≡ z) → ActOk false o z (start_at u t from source now g (start_fact t from source))
start_ok o z u t from source now g r h = go (nat_eq k 0) refl (nat_lt (living t) 8 && nat_lt t.drawn 65535)
  where
    k : ℕ
    k = slave_of t from source

    fact : Bool → Bool → StartFact
    fact n m = cond n (cond m (Makes (next_id t)) Refuses) (Repeats k)

    go : (n : Bool) → nat_eq k 0 ≡ n → (m : Bool) → ActOk false o z (start_at u t from source now g (fact n m))
    go true i true = put_ok false o z t (suc t.drawn) (next_id t) from (make_slave now source g (first_end false false u)) r (below t) (λ q a. h a) (λ q. refl) ((λ y. refl), tt)
    go true i false = record { table = r; sent = ((λ y. absurd (false≢true y)), tt) }
    go false i m =
        let l : lives (t.circuit_at k).end ≡ true = (and_parts (is_of (t.circuit_at k) from source) (lives (t.circuit_at k).end) (least_true (λ j. is_of (t.circuit_at j) from source && lives (t.circuit_at j).end) (ids t) (eqb-false k 0 i))).1 in
        steps_ok false o z t k (again_start now (t.circuit_at k).end) r l (kin_again now (t.circuit_at k).end).wide (kin_again now (t.circuit_at k).end).running (again_sends now (t.circuit_at k).end (r.alive refl k l))
