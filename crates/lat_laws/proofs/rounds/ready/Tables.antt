-- What each act of a core keeps of its circuits.
use Rattle.std.proofs.Common.{◌≡◌, ℕ, suc, ◌≤◌, sym, ap, ◌∙◌, refl, subst, arith, Bool, true, false, not, cond, ◌&&◌, ◌||◌, List, [], ◌∷◌, Option, nat_eq, eqb-true}
use Rattle.std.proofs.lemmas.Bool.{and_parts, true≢false, false≢true}
use Rattle.lat_model.specs.sessions.Slots.{Slot}
use Rattle.lat_model.specs.sessions.Calls.{Call}
use Rattle.lat_model.specs.ends.End.{End, Step, lives, call_end, finish, lapse}
use Rattle.lat_model.specs.ends.Timers.{note_empty, time_step}
use Rattle.lat_model.specs.ends.Run.{run_end}
use Rattle.lat_model.specs.ends.Starting.{Agreed, Setup, make_slave, again_start, hear_reply, hear_stop}
use Rattle.lat_model.specs.circuits.World.{CircuitEntry, Table, first_end}
use Rattle.lat_model.specs.circuits.Arriving.{is_of}
use Rattle.lat_model.proofs.sessions.Words.{upd_other, upd_all}
use Rattle.lat_model.proofs.circuits.Ids.{drawn_apart, drawn_behind, undrawn_before, undrawn_other}
use Rattle.lat_model.specs.circuits.Ids.{is_drawn, next_id}
use Rattle.lat_machines.specs.values.Messages.{Head}
use Rattle.lat_machines.specs.values.Events.{Numbers}
use Rattle.lat_machines.specs.values.Answers.{Again, Running, Ended}
use Rattle.lat_machines.specs.cores.Acts.{Acted, idle, put_at, steps_at, call_at, called, local_at, time_at, move_at, end_at}
use Rattle.lat_machines.specs.cores.Hearing.{HeardAct, foreign, names, fits_kind, numbers_at, run_frame, run_at, hear_run, hear_stop_at, hear_reply_at, is_outlived, outlive_at, outlive}
use Rattle.lat_laws.specs.rounds.Seated.{Found, SessionsLater, LaterTable}
use Rattle.lat_laws.proofs.rounds.ready.Laters.{later_same, later_then, accepts_none, call_later, time_later, run_later, reply_later, stop_later, again_leaves}

pub table_same : (m : Bool) (t : Table) → LaterTable m t t
table_same m t = record { drawn = λ x l. l; live = λ x l h. h; sessions = λ x l. later_same (t.circuit_at x).end.half.sessions; accepts = λ x k h. h; good = λ g. g; alone = λ e g x. omega arith }

pub table_then : (m : Bool) (t v w : Table) → LaterTable m t v → LaterTable m v w → LaterTable m t w
table_then m t v w p q = record {
  drawn = λ x l. q.drawn x (p.drawn x l);
  live = λ x l h. p.live x l (q.live x (p.drawn x l) h);
  sessions = λ x l. later_then (t.circuit_at x).end.half.sessions (v.circuit_at x).end.half.sessions (w.circuit_at x).end.half.sessions (p.sessions x l) (q.sessions x (p.drawn x l));
  accepts = λ x k h. p.accepts x k (q.accepts x k h);
  good = λ g. q.good (p.good g);
  alone = λ e g x. omega (arith, p.alone e g x, q.alone e (p.good g) x);
}

-- a step of one circuit
pub steps_later : (m b : Bool) (t : Table) (x : ℕ) (s : Step) → (lives s.end ≡ true → lives (t.circuit_at x).end ≡ true) → SessionsLater (t.circuit_at x).end.half.sessions s.end.half.sessions → LaterTable m t (steps_at b t x s).table
steps_later m b t x s h l = record {
  drawn = λ y l. l;
  live = λ y d q. live y (nat_eq y x) refl q;
  sessions = λ y d. sessions y (nat_eq y x) refl;
  accepts = λ y k q. (sessions y (nat_eq y x) refl).accepts k q;
  good = λ g. record {
    masters = λ y. (sessions y (nat_eq y x) refl).master ∙ g.masters y;
    new = λ k d. dead k (g.new k d) (lives (updated_at k).end) refl;
    found = λ y. (sessions y (nat_eq y x) refl).found (g.found y);
    held = λ y k q. g.held y k ((sessions y (nat_eq y x) refl).accepts k q);
  };
  alone = λ e g y. (sessions y (nat_eq y x) refl).alone (g.masters y ∙ e);
}
  where
    new : CircuitEntry
    new = record { address = (t.circuit_at x).address; end = (note_empty (t.circuit_at x).end s).end }

    updated_at : ℕ → CircuitEntry
    updated_at y = (steps_at b t x s).table.circuit_at y

    live : (y : ℕ) (c : Bool) → nat_eq y x ≡ c → lives (cond c new (t.circuit_at y)).end ≡ true → lives (t.circuit_at y).end ≡ true
    live y true q r = ap (λ z. lives (t.circuit_at z).end) (eqb-true y x q) ∙ h r
    live y false q r = r

    sessions : (y : ℕ) (c : Bool) → nat_eq y x ≡ c → SessionsLater (t.circuit_at y).end.half.sessions (cond c new (t.circuit_at y)).end.half.sessions
    sessions y true q = subst (λ z. SessionsLater (t.circuit_at z).end.half.sessions s.end.half.sessions) (sym (eqb-true y x q)) l
    sessions y false q = later_same (t.circuit_at y).end.half.sessions

    dead : (k : ℕ) → lives (t.circuit_at k).end ≡ false → (c : Bool) → lives (updated_at k).end ≡ c → lives (updated_at k).end ≡ false
    dead k d true q = absurd (true≢false (sym (live k (nat_eq k x) refl q) ∙ d))
    dead k d false q = q

-- a circuit more, whose sessions are none
pub fresh_later : (m b : Bool) (t : Table) (address : ℕ) (s : Step) → s.end.half.sessions.master ≡ m → Found s.end.half.sessions → ((k : ℕ) → (s.end.half.sessions.session k).accepted ≡ false) → s.end.half.sessions.made ≡ 0 → LaterTable m t (put_at b t (suc t.drawn) (next_id t) address s).table
fresh_later m b t address s e f n z = record {
  drawn = drawn_behind t.first t.drawn;
  live = λ y d q. sym (ap (λ (z : CircuitEntry). lives z.end) (old y d)) ∙ q;
  sessions = λ y d. subst (λ (z : CircuitEntry). SessionsLater (t.circuit_at y).end.half.sessions z.end.half.sessions) (sym (old y d)) (later_same (t.circuit_at y).end.half.sessions);
  accepts = λ y k q. accepts y k (nat_eq y (next_id t)) q;
  good = λ g. record {
    masters = λ y. upd_all (λ (z : CircuitEntry). z.end.half.sessions.master ≡ m) t.circuit_at (next_id t) new e g.masters y;
    new = λ k d. ap (λ (z : CircuitEntry). lives z.end) (upd_other t.circuit_at (next_id t) new k (undrawn_other t.first t.drawn k d)) ∙ g.new k (undrawn_before t.first t.drawn k d);
    found = λ y. upd_all (λ (z : CircuitEntry). Found z.end.half.sessions) t.circuit_at (next_id t) new f g.found y;
    held = λ y k q. drawn_behind t.first t.drawn y (g.held y k (accepts y k (nat_eq y (next_id t)) q));
  };
  alone = λ q g y. made y (nat_eq y (next_id t));
}
  where
    new : CircuitEntry
    new = record { address = address; end = s.end }

    old : (y : ℕ) → is_drawn t y ≡ true → (put_at b t (suc t.drawn) (next_id t) address s).table.circuit_at y ≡ t.circuit_at y
    old y d = upd_other t.circuit_at (next_id t) new y (drawn_apart t.first t.drawn y d)

    made : (y : ℕ) (c : Bool) → (cond c new (t.circuit_at y)).end.half.sessions.made ≤ (t.circuit_at y).end.half.sessions.made
    made y true = omega (arith, z)
    made y false = omega arith

    accepts : (y k : ℕ) (c : Bool) → ((cond c new (t.circuit_at y)).end.half.sessions.session k).accepted ≡ true → ((t.circuit_at y).end.half.sessions.session k).accepted ≡ true
    accepts y k true q = absurd (false≢true (sym (n k) ∙ q))
    accepts y k false q = q

pub call_at_later : (u : Setup) (t : Table) (address now : ℕ) → LaterTable true t (call_at u t address now).table
call_at_later u t address now = fresh_later true true t address (called u now) refl (record { made = λ i. omega arith; named = λ i n. absurd (n refl); none = refl; held = λ k q. absurd (false≢true q); asked = λ q. absurd (true≢false q); agreed = omega arith; holds = λ k q. absurd (true≢false q); within = λ i q. refl }) (λ k. refl) refl

pub make_later : (u : Setup) (t : Table) (from source now : ℕ) (g : Agreed) → LaterTable false t (put_at false t (suc t.drawn) (next_id t) from (make_slave now source g (first_end false false u))).table
make_later u t from source now g = fresh_later false false t from (make_slave now source g (first_end false false u)) refl (record { made = λ i. omega arith; named = λ i n. absurd (n refl); none = refl; held = λ k q. absurd (false≢true q); asked = λ m k n l. absurd (omega (arith, n, l)); agreed = omega arith; holds = λ k q. absurd (true≢false q); within = λ i q. refl }) (λ k. refl) refl

act_cond : (m n : Bool) (t : Table) (a b : Acted) → (n ≡ true → LaterTable m t a.table) → (n ≡ false → LaterTable m t b.table) → LaterTable m t (cond n a b).table
act_cond m true t a b p q = p refl
act_cond m false t a b p q = q refl

heard_cond : (m n : Bool) (t : Table) (a b : HeardAct) → (n ≡ true → LaterTable m t a.act.table) → (n ≡ false → LaterTable m t b.act.table) → LaterTable m t (cond n a b).act.table
heard_cond m true t a b p q = p refl
heard_cond m false t a b p q = q refl

pub local_later : (m b : Bool) (t : Table) (x : ℕ) (c : Call) → accepts_none c ≡ true → LaterTable m t (local_at b t x c).table
local_later m b t x c h =
    let s : Step = record { end = call_end c (t.circuit_at x).end; sent = [] } in
    act_cond m (lives (t.circuit_at x).end) t (steps_at b t x s) (idle t) (λ i. steps_later m b t x s (λ q. i) (call_later (t.circuit_at x).end.half.sessions c h)) (λ i. table_same m t)

pub time_at_later : (m b : Bool) (t : Table) (x now : ℕ) → LaterTable m t (time_at b t x now).table
time_at_later m b t x now = act_cond m (lives (t.circuit_at x).end) t (steps_at b t x (time_step now (t.circuit_at x).end)) (idle t) (λ i. steps_later m b t x (time_step now (t.circuit_at x).end) (λ q. i) (time_later now (t.circuit_at x).end)) (λ i. table_same m t)

pub end_at_later : (m b : Bool) (t : Table) (x r : ℕ) → LaterTable m t (end_at b t x r).table
end_at_later m b t x r = act_cond m (lives (t.circuit_at x).end) t (steps_at b t x (finish r (t.circuit_at x).end)) (idle t) (λ i. steps_later m b t x (finish r (t.circuit_at x).end) (λ q. i) (later_same (t.circuit_at x).end.half.sessions)) (λ i. table_same m t)

outlived_later : (from source : ℕ) (t : Table) (x : ℕ) → LaterTable false t (outlive_at from source x t)
outlived_later from source t x = go (is_outlived (t.circuit_at x) from source)
  where
    go : (b : Bool) → LaterTable false t (cond b (steps_at false t x (lapse 5 (t.circuit_at x).end)).table t)
    go true = steps_later false false t x (lapse 5 (t.circuit_at x).end) (λ q. absurd (false≢true q)) (later_same (t.circuit_at x).end.half.sessions)
    go false = table_same false t

pub outlive_later : (from source : ℕ) (xs : List ℕ) (t : Table) → LaterTable false t (outlive from source xs t)
outlive_later from source [] t = table_same false t
outlive_later from source (x ∷ xs) t = table_then false t (outlive_at from source x t) (outlive from source xs (outlive_at from source x t)) (outlived_later from source t x) (outlive_later from source xs (outlive_at from source x t))

move_later : (m b : Bool) (t : Table) (x now : ℕ) → LaterTable m t (move_at b t x now).table
move_later m b t x now =
    let s : Step = record { end = record ((t.circuit_at x).end) { moment = now }; sent = [] } in
    act_cond m (lives (t.circuit_at x).end) t (steps_at b t x s) (idle t) (λ i. steps_later m b t x s (λ q. i) (later_same (t.circuit_at x).end.half.sessions)) (λ i. table_same m t)

pub run_at_later : (m b : Bool) (t : Table) (from : ℕ) (wide : Bool) (h : Head) (slots : List Slot) (k : Option Numbers) (now : ℕ) → LaterTable m t (hear_run b t from wide h slots k now).act.table
run_at_later m b t from wide h slots k now =
    let e : End = (t.circuit_at h.to).end in
    let s : Step = (run_end now h.ask (run_frame (numbers_at e h k) slots) e).step in
    heard_cond m (names t from h.to h.from) t (run_at b t h.to (fits_kind e h.master wide) now h.ask (run_frame (numbers_at e h k) slots)) (foreign t)
    (λ i. heard_cond m (fits_kind e h.master wide) t _ _
    (λ j. steps_later m b t h.to s (λ q. (and_parts (is_of (t.circuit_at h.to) from h.from) (lives e) (and_parts (is_of (t.circuit_at h.to) from h.from && lives e) e.running i).0).1) (run_later now h.ask (run_frame (numbers_at e h k) slots) e))
    (λ j. move_later m b t h.to now))
    (λ i. table_same m t)

pub stop_at_later : (m b : Bool) (t : Table) (from to source now reason : ℕ) → LaterTable m t (hear_stop_at b t from to source now reason).act.table
stop_at_later m b t from to source now reason =
    let c : CircuitEntry = t.circuit_at to in
    heard_cond m (nat_eq c.address from && (nat_eq c.end.peer source || nat_eq source 0) && lives c.end) t (record { act = steps_at b t to (hear_stop now reason c.end); answer = Ended reason }) (foreign t)
    (λ i. steps_later m b t to (hear_stop now reason c.end) (λ q. (and_parts (nat_eq c.address from && (nat_eq c.end.peer source || nat_eq source 0)) (lives c.end) i).1) (stop_later now reason c.end)) (λ i. table_same m t)

pub reply_at_later : (t : Table) (from to source now : ℕ) (g : Agreed) → LaterTable true t (hear_reply_at t from to source now g).act.table
reply_at_later t from to source now g =
    let c : CircuitEntry = t.circuit_at to in
    heard_cond true (nat_eq c.address from && lives c.end && (not c.end.running || nat_eq c.end.peer source)) t (record { act = steps_at true t to (hear_reply now source g c.end); answer = cond c.end.running Again Running }) (foreign t)
    (λ i. steps_later true true t to (hear_reply now source g c.end) (λ q. (and_parts (nat_eq c.address from) (lives c.end) (and_parts (nat_eq c.address from && lives c.end) (not c.end.running || nat_eq c.end.peer source) i).0).1) (reply_later now source g c.end)) (λ i. table_same true t)

pub again_at_later : (t : Table) (x now : ℕ) → LaterTable false t (steps_at false t x (again_start now (t.circuit_at x).end)).table
again_at_later t x now = steps_later false false t x (again_start now (t.circuit_at x).end) (λ q. sym (again_leaves now (t.circuit_at x).end).1 ∙ q) (again_leaves now (t.circuit_at x).end).0
