-- Each event keeps the ends as their configurations and the STARTs want them.
use Rattle.std.proofs.Common.{◌≡◌, ℕ, suc, ◌-◌, ◌<◌, ◌≤◌, ◌⊎◌, inl, inr, ⊎_elim, sym, ◌∙◌, refl, arith, Bool, true, false, not, cond, ◌&&◌, ◌||◌, List, [], ◌∷◌, min, Option, Some, nat_eq, nat_lt, eqb-true}
use Rattle.std.proofs.lemmas.Bool.{and_parts, false≢true}
use Rattle.lat_model.specs.sessions.Slots.{Slot}
use Rattle.lat_model.specs.sessions.Session.{waits}
use Rattle.lat_model.specs.sessions.Sessions.{Sessions, named, held}
use Rattle.lat_model.specs.sessions.Calls.{Call, Connect, Put, Set, Attend, Take, Close, Answer, RejectAsk, call, connect}
use Rattle.lat_model.specs.ends.End.{ReplyStart, End, Step, lives, call_end, finish}
use Rattle.lat_model.specs.ends.Timers.{note_empty, time_step}
use Rattle.lat_model.specs.ends.Run.{run_end}
use Rattle.lat_model.specs.ends.Starting.{Agreed, reply_end, make_slave, again_start, hear_reply, hear_stop}
use Rattle.lat_model.specs.circuits.World.{CircuitEntry, first_end}
use Rattle.lat_model.specs.circuits.Arriving.{living, slave_of}
use Rattle.lat_model.proofs.sessions.Words.{upd_all}
use Rattle.lat_model.proofs.circuits.Kin.{Kin, kin_time, kin_run}
use Rattle.lat_model.specs.circuits.Ids.{next_id}
use Rattle.lat_machines.specs.values.Messages.{Head, StartInfo}
use Rattle.lat_machines.specs.values.Timing.{Timing, is_wide, agreed_by}
use Rattle.lat_machines.specs.values.Events.{Numbers}
use Rattle.lat_machines.specs.values.Answers.{Again, Running, Ended}
use Rattle.lat_machines.specs.cores.Acts.{Acted, idle, put_at, steps_at, called, local_at, time_at, move_at, end_at}
use Rattle.lat_machines.specs.cores.Hearing.{HeardAct, foreign, names, fits_kind, numbers_at, run_frame, run_at, hear_run, hear_stop_at, hear_reply_at, Makes, Repeats, Refuses, start_at}
use Rattle.lat_machines.specs.cores.Cores.{Core, with_circuits, setup_of, at_moment}
use Rattle.lat_machines.specs.world.Machines.{Setups}
use Rattle.lat_laws.specs.rounds.Fitting.{Ways, ways_of, EndFits, CoreFits, StartSays}
use Rattle.lat_laws.proofs.rounds.ready.Laters.{call_later, time_later, run_later}
use Rattle.lat_laws.proofs.rounds.ready.Stays.{Stays, stays_time, stays_run}
use Rattle.lat_laws.proofs.rounds.ready.Traverse.{KeepsServer, KeepsNode}

-- one end after a step

fits_by : (p : Ways) (n address : ℕ) (e f : End) → f.running ≡ e.running → f.window ≡ e.window → f.room ≡ e.room → f.timer ≡ e.timer → f.half.sessions.ceiling ≡ e.half.sessions.ceiling → f.due_at ≤ n → EndFits p n address e → EndFits p n address f
fits_by p n address e f r w o t c d h = record {
  ceiling = c ∙ h.ceiling;
  due = d;
  window = λ q. (let x : 0 < e.window = h.window (sym r ∙ q) in omega (arith, x, w));
  room = λ q a. (let x : 300 ≤ e.room = h.room (sym r ∙ q) a in omega (arith, x, o));
  timer = λ q a. t ∙ h.timer (⊎_elim {B = f.running ≡ true} {C = (p.server ≡ true) ⊎ (e.running ≡ true)} (λ x. inl x) (λ x. inr (sym r ∙ x)) q) a;
}

noted_fits : (p : Ways) (n address : ℕ) (e : End) (s : Step) → EndFits p n address s.end → EndFits p n address (note_empty e s).end
noted_fits p n address e s h = record { ceiling = h.ceiling; due = h.due; window = h.window; room = h.room; timer = h.timer }

due_stays : (n : ℕ) (e f : End) → e.due_at ≤ n → Stays (record e { moment = n }) f → f.due_at ≤ n
due_stays n e f d s = ⊎_elim {B = f.due_at ≡ n} {C = f.due_at ≤ n} (λ q. omega (arith, q, d)) (λ q. omega (arith, q)) s.due

-- the circuits of a core

put_fits : (p : Ways) (b : Bool) (c : Core) (drawn x address : ℕ) (s : Step) → EndFits p c.moment address s.end → CoreFits p c → CoreFits p (with_circuits c (put_at b c.circuits drawn x address s).table)
put_fits p b c drawn x address s h g y = upd_all (λ (z : CircuitEntry). EndFits p c.moment z.address z.end) c.circuits.circuit_at x (record { address = address; end = s.end }) h g y

steps_fit : (p : Ways) (b : Bool) (c : Core) (x : ℕ) (s : Step) → EndFits p c.moment (c.circuits.circuit_at x).address s.end → CoreFits p c → CoreFits p (with_circuits c (steps_at b c.circuits x s).table)
steps_fit p b c x s h g = put_fits p b c c.circuits.drawn x (c.circuits.circuit_at x).address (note_empty (c.circuits.circuit_at x).end s) (noted_fits p c.moment (c.circuits.circuit_at x).address (c.circuits.circuit_at x).end s h) g

act_cond : (p : Ways) (c : Core) (n : Bool) (x y : Acted) → (n ≡ true → CoreFits p (with_circuits c x.table)) → (n ≡ false → CoreFits p (with_circuits c y.table)) → CoreFits p (with_circuits c (cond n x y).table)
act_cond p c true x y f g = f refl
act_cond p c false x y f g = g refl

heard_cond : (p : Ways) (c : Core) (n : Bool) (x y : HeardAct) → (n ≡ true → CoreFits p (with_circuits c x.act.table)) → (n ≡ false → CoreFits p (with_circuits c y.act.table)) → CoreFits p (with_circuits c (cond n x y).act.table)
heard_cond p c true x y f g = f refl
heard_cond p c false x y f g = g refl

call_cond : (b : Bool) (x y : Sessions) (m : ℕ) → x.ceiling ≡ m → y.ceiling ≡ m → (cond b x y).ceiling ≡ m
call_cond true x y m p q = p
call_cond false x y m p q = q

pub call_ceiling : (e : Sessions) (c : Call) → (call e c).ceiling ≡ e.ceiling
call_ceiling e (Connect service request) = call_cond (e.master && nat_lt (held e) e.agreed) (connect e service request) e e.ceiling refl refl
call_ceiling e (Answer id) = call_cond (not e.master && waits (named e id)) _ e e.ceiling refl refl
call_ceiling e (Put id bs) = (call_later e (Put id bs) refl).ceiling
call_ceiling e (Set id t) = (call_later e (Set id t) refl).ceiling
call_ceiling e (Attend id flag) = (call_later e (Attend id flag) refl).ceiling
call_ceiling e (Take id n) = (call_later e (Take id n) refl).ceiling
call_ceiling e (Close id) = (call_later e (Close id) refl).ceiling
call_ceiling e (RejectAsk id reason) = (call_later e (RejectAsk id reason) refl).ceiling

local_fits : (p : Ways) (b : Bool) (c : Core) (x : ℕ) (y : Call) → CoreFits p c → CoreFits p (with_circuits c (local_at b c.circuits x y).table)
local_fits p b c x y g =
    let e : End = (c.circuits.circuit_at x).end in
    let s : Step = record { end = call_end y e; sent = [] } in
    act_cond p c (lives e) (steps_at b c.circuits x s) (idle c.circuits) (λ i. steps_fit p b c x s (fits_by p c.moment (c.circuits.circuit_at x).address e s.end refl refl refl refl (call_ceiling e.half.sessions y) (g x).due (g x)) g) (λ i. g)

time_fits : (p : Ways) (b : Bool) (c : Core) (x : ℕ) → CoreFits p c → CoreFits p (with_circuits c (time_at b c.circuits x c.moment).table)
time_fits p b c x g =
    let e : End = (c.circuits.circuit_at x).end in
    let s : Step = time_step c.moment e in
    let k : Kin e s.end = kin_time c.moment e in
    let t : Stays (record e { moment = c.moment }) s.end = stays_time c.moment e in
    act_cond p c (lives e) (steps_at b c.circuits x s) (idle c.circuits) (λ i. steps_fit p b c x s (fits_by p c.moment (c.circuits.circuit_at x).address e s.end k.running k.window t.room t.timer (time_later c.moment e).ceiling (due_stays c.moment e s.end (g x).due t) (g x)) g) (λ i. g)

move_fits : (p : Ways) (b : Bool) (c : Core) (x : ℕ) → CoreFits p c → CoreFits p (with_circuits c (move_at b c.circuits x c.moment).table)
move_fits p b c x g =
    let e : End = (c.circuits.circuit_at x).end in
    let s : Step = record { end = record e { moment = c.moment }; sent = [] } in
    act_cond p c (lives e) (steps_at b c.circuits x s) (idle c.circuits) (λ i. steps_fit p b c x s (fits_by p c.moment (c.circuits.circuit_at x).address e s.end refl refl refl refl refl (g x).due (g x)) g) (λ i. g)

run_fits : (p : Ways) (b : Bool) (c : Core) (from : ℕ) (wide : Bool) (h : Head) (slots : List Slot) (n : Option Numbers) → CoreFits p c → CoreFits p (with_circuits c (hear_run b c.circuits from wide h slots n c.moment).act.table)
run_fits p b c from wide h slots n g =
    let e : End = (c.circuits.circuit_at h.to).end in
    let s : Step = (run_end c.moment h.ask (run_frame (numbers_at e h n) slots) e).step in
    let k : Kin e s.end = kin_run c.moment h.ask (run_frame (numbers_at e h n) slots) e in
    let t : Stays (record e { moment = c.moment }) s.end = stays_run c.moment h.ask (run_frame (numbers_at e h n) slots) e in
    heard_cond p c (names c.circuits from h.to h.from) (run_at b c.circuits h.to (fits_kind e h.master wide) c.moment h.ask (run_frame (numbers_at e h n) slots)) (foreign c.circuits)
    (λ i. heard_cond p c (fits_kind e h.master wide) _ _
    (λ j. steps_fit p b c h.to s (fits_by p c.moment (c.circuits.circuit_at h.to).address e s.end k.running k.window t.room t.timer (run_later c.moment h.ask (run_frame (numbers_at e h n) slots) e).ceiling (due_stays c.moment e s.end (g h.to).due t) (g h.to)) g)
    (λ j. move_fits p b c h.to g))
    (λ i. g)

stop_end_fits : (p : Ways) (n now address r : ℕ) (e : End) → EndFits p n address e → EndFits p n address (hear_stop now r e).end
stop_end_fits p n now address r e h = go (lives e)
  where
    go : (b : Bool) → EndFits p n address (cond {A = Step} b (record { end = record e { ended = Some r; moment = now }; sent = [] }) (record { end = e; sent = [] })).end
    go true = record { ceiling = h.ceiling; due = h.due; window = h.window; room = h.room; timer = h.timer }
    go false = h

stop_fits : (p : Ways) (b : Bool) (c : Core) (from to source reason : ℕ) → CoreFits p c → CoreFits p (with_circuits c (hear_stop_at b c.circuits from to source c.moment reason).act.table)
stop_fits p b c from to source reason g =
    let y : CircuitEntry = c.circuits.circuit_at to in
    heard_cond p c (nat_eq y.address from && (nat_eq y.end.peer source || nat_eq source 0) && lives y.end) (record { act = steps_at b c.circuits to (hear_stop c.moment reason y.end); answer = Ended reason }) (foreign c.circuits)
    (λ i. steps_fit p b c to (hear_stop c.moment reason y.end) (stop_end_fits p c.moment c.moment y.address reason y.end (g to)) g) (λ i. g)

end_fits : (p : Ways) (b : Bool) (c : Core) (x r : ℕ) → CoreFits p c → CoreFits p (with_circuits c (end_at b c.circuits x r).table)
end_fits p b c x r g =
    let e : End = (c.circuits.circuit_at x).end in
    act_cond p c (lives e) (steps_at b c.circuits x (finish r e)) (idle c.circuits) (λ i. steps_fit p b c x (finish r e) (fits_by p c.moment (c.circuits.circuit_at x).address e (finish r e).end refl refl refl refl refl (g x).due (g x)) g) (λ i. g)

moment_fits : (p : Ways) (c : Core) (now : ℕ) → CoreFits p c → CoreFits p (at_moment now c)
moment_fits p c now g x = let h : EndFits p c.moment (c.circuits.circuit_at x).address (c.circuits.circuit_at x).end = g x in record { ceiling = h.ceiling; due = omega (arith, h.due); window = h.window; room = h.room; timer = h.timer }

-- STARTs

agreed_room : (t : Timing) (i : StartInfo) → i.size ≡ 1500 → 300 ≤ (agreed_by t i).room
agreed_room t i s = go (t.wide && is_wide i.params)
  where
    go : (b : Bool) → 300 ≤ min 1500 i.size - cond b 10 8
    go true = omega (arith, s)
    go false = omega (arith, s)

agreed_window : (t : Timing) (i : StartInfo) → 0 < min (agreed_by t i).window 8
agreed_window t i = omega arith

reply_fits : (p : Ways) (t : Timing) (n now source from address : ℕ) (info : StartInfo) (e : End) → p.server ≡ true → address ≡ from → StartSays p from false info → EndFits p n address e → EndFits p n address (hear_reply now source (agreed_by t info) e).end
reply_fits p t n now source from address info e m a s h = go (lives e) e.running
  where
    g : Agreed
    g = agreed_by t info

    again : Step
    again = record { end = record e { moment = now; heard_at = now }; sent = [] }

    first : Step
    first = record { end = reply_end now source g e; sent = [] }

    none : Step
    none = record { end = e; sent = [] }

    go : (b c : Bool) → EndFits p n address (cond b (cond c again first) none).end
    go true true = record { ceiling = h.ceiling; due = h.due; window = h.window; room = h.room; timer = h.timer }
    go true false = record { ceiling = h.ceiling; due = h.due; window = λ q. agreed_window t info; room = λ q o. agreed_room t info (s.size (sym a ∙ o)); timer = λ q o. h.timer (inl m) o }
    go false c = h

again_fits : (p : Ways) (n now address : ℕ) (e : End) → EndFits p n address e → EndFits p n address (again_start now e).end
again_fits p n now address e h = go (lives e) (not e.heard_run)
  where
    again : Step
    again = record { end = record e { moment = now; heard_at = now; sent_at = now; owed = false }; sent = ReplyStart ∷ [] }

    heard : Step
    heard = record { end = record e { moment = now; heard_at = now }; sent = [] }

    none : Step
    none = record { end = e; sent = [] }

    go : (a b : Bool) → EndFits p n address (cond (a && b) again (cond a heard none)).end
    go true true = record { ceiling = h.ceiling; due = h.due; window = h.window; room = h.room; timer = h.timer }
    go true false = record { ceiling = h.ceiling; due = h.due; window = h.window; room = h.room; timer = h.timer }
    go false b = h

pub server_fits : (u : Setups) → KeepsServer u.server (StartSays (ways_of u true)) (CoreFits (ways_of u true))
server_fits u = record {
  acts = record {
    within = λ n. true;
    moment = λ c now q g. moment_fits (ways_of u true) c now g;
    sits = λ c ss g. g;
    renames = λ c ns g. g;
    calls = local_fits (ways_of u true) true;
    times = time_fits (ways_of u true) true;
    runs = run_fits (ways_of u true) true;
    stops = stop_fits (ways_of u true) true;
    ends = end_fits (ways_of u true) true;
  };
  opens = λ c address g. put_fits (ways_of u true) true c (suc c.circuits.drawn) (next_id c.circuits) address (called (setup_of u.server.timing) c.moment) (record { ceiling = refl; due = omega arith; window = λ q. absurd (false≢true q); room = λ q a. absurd (false≢true q); timer = λ q a. refl }) g;
  replies = λ c from to source info s g. replies c from to source info s g;
}
  where
    p : Ways
    p = ways_of u true

    replies : (c : Core) (from to source : ℕ) (info : StartInfo) → StartSays p from false info → CoreFits p c → CoreFits p (with_circuits c (hear_reply_at c.circuits from to source c.moment (agreed_by u.server.timing info)).act.table)
    replies c from to source info s g =
        let y : CircuitEntry = c.circuits.circuit_at to in
        let a : Agreed = agreed_by u.server.timing info in
        heard_cond p c (nat_eq y.address from && lives y.end && (not y.end.running || nat_eq y.end.peer source)) (record { act = steps_at true c.circuits to (hear_reply c.moment source a y.end); answer = cond y.end.running Again Running }) (foreign c.circuits)
        (λ i. steps_fit p true c to (hear_reply c.moment source a y.end) (reply_fits p u.server.timing c.moment c.moment source from y.address info y.end refl (eqb-true y.address from (and_parts (nat_eq y.address from) (lives y.end) (and_parts (nat_eq y.address from && lives y.end) (not y.end.running || nat_eq y.end.peer source) i).0).0) s (g to)) g)
        (λ i. g)

pub node_fits : (u : Setups) → KeepsNode u.node (StartSays (ways_of u false)) (CoreFits (ways_of u false))
node_fits u = record {
  acts = record {
    within = λ n. true;
    moment = λ c now q g. moment_fits (ways_of u false) c now g;
    sits = λ c ss g. g;
    renames = λ c ns g. g;
    calls = local_fits (ways_of u false) false;
    times = time_fits (ways_of u false) false;
    runs = run_fits (ways_of u false) false;
    stops = stop_fits (ways_of u false) false;
    ends = end_fits (ways_of u false) false;
  };
  starts = λ c from source info s g. go c from source info s g (nat_eq (slave_of c.circuits from source) 0) (nat_lt (living c.circuits) 8 && nat_lt c.circuits.drawn 65535);
}
  where
    p : Ways
    p = ways_of u false

    go : (c : Core) (from source : ℕ) (info : StartInfo) → StartSays p from true info → CoreFits p c → (a b : Bool) → CoreFits p (with_circuits c (start_at (setup_of u.node.timing) c.circuits from source c.moment (agreed_by u.node.timing info) (cond a (cond b (Makes (next_id c.circuits)) Refuses) (Repeats (slave_of c.circuits from source)))).table)
    go c from source info s g true true = put_fits p false c (suc c.circuits.drawn) (next_id c.circuits) from (make_slave c.moment source (agreed_by u.node.timing info) (first_end false false (setup_of u.node.timing))) (record { ceiling = refl; due = omega arith; window = λ q. agreed_window u.node.timing info; room = λ q a. agreed_room u.node.timing info (s.size a); timer = λ q a. s.timer a refl refl }) g
    go c from source info s g true false = g
    go c from source info s g false b = steps_fit p false c (slave_of c.circuits from source) (again_start c.moment (c.circuits.circuit_at (slave_of c.circuits from source)).end) (again_fits p c.moment c.moment (c.circuits.circuit_at (slave_of c.circuits from source)).address (c.circuits.circuit_at (slave_of c.circuits from source)).end (g (slave_of c.circuits from source))) g

-- at any moment
pub server_any : (u : Setups) (n : ℕ) → (server_fits u).acts.within n ≡ true
unfolding server_fits
server_any u n = refl

pub node_any : (u : Setups) (n : ℕ) → (node_fits u).acts.within n ≡ true
unfolding node_fits
node_any u n = refl
