-- What an act that puts and takes nothing leaves of a table of circuits: one that doesn't live stays as it is, and one that
-- runs keeps its peer.
use Rattle.std.proofs.Common.{◌≡◌, ℕ, suc, refl, sym, ap, ◌∙◌, subst, arith, Bool, true, false, not, cond, ◌&&◌, ◌||◌, List, [], Option, nat_eq, nat_lt, eqb-true}
use Rattle.std.proofs.lemmas.Bool.{and_parts, true≢false, eqb-false}
use Rattle.lat_model.specs.sessions.Slots.{Slot}
use Rattle.lat_model.specs.sessions.Sessions.{Sessions}
use Rattle.lat_model.specs.sessions.Calls.{Call}
use Rattle.lat_model.specs.numbers.Link.{Frame}
use Rattle.lat_model.specs.ends.End.{End, Step, still, lives, call_end, finish, lapse}
use Rattle.lat_model.specs.ends.Timers.{note_empty, time_step}
use Rattle.lat_model.specs.ends.Run.{run_end}
use Rattle.lat_model.specs.ends.Starting.{Agreed, Setup, make_slave, again_start, noted, replied, reply_end, hear_reply, hear_stop}
use Rattle.lat_model.specs.circuits.World.{CircuitEntry, Table, first_end}
use Rattle.lat_model.specs.circuits.Arriving.{is_of, living, slave_of}
use Rattle.lat_model.proofs.sessions.Words.{upd_other, upd_all}
use Rattle.lat_model.proofs.circuits.Kin.{Kin, kin_time, kin_run, kin_stop}
use Rattle.lat_model.proofs.circuits.Begins.{kin_call}
use Rattle.lat_model.proofs.circuits.Ids.{drawn_apart, drawn_behind}
use Rattle.lat_model.specs.circuits.Ids.{is_drawn, next_id, IdsStay, ids}
use Rattle.lat_machines.specs.values.Messages.{Head}
use Rattle.lat_machines.specs.values.Events.{Numbers}
use Rattle.lat_machines.specs.values.Answers.{Again, Running, Ended}
use Rattle.lat_machines.specs.cores.Acts.{Acted, idle, put_at, steps_at, call_at, called, local_at, time_at, move_at, end_at}
use Rattle.lat_machines.specs.cores.Hearing.{HeardAct, foreign, names, fits_kind, numbers_at, run_frame, run_at, hear_run, hear_stop_at, hear_reply_at, Repeats, Makes, Refuses, start_fact, start_at, follows, is_outlived, outlive_at}
use Rattle.lat_machines.proofs.queue.Rooms.{least_true}
use Rattle.lat_laws.proofs.rounds.counting.Kept.{to_time, to_run, to_again, to_stop, to_reply, is_none}
use Rattle.lat_laws.proofs.tales.steps.Goes.{Good, Onto, Goes, goes_same, goes_kept, one_then, IsQuiet, goes_call, void_good}

abbrev pub sess : Table → ℕ → Sessions
sess t x = (t.circuit_at x).end.half.sessions

pub record EntryGoes (c : CircuitEntry) (d : CircuitEntry) : Type 0 where
  pub address : d.address ≡ c.address
  pub dead : lives c.end ≡ false → d ≡ c
  pub running : c.end.running ≡ true → (d.end.running ≡ true) × (d.end.peer ≡ c.end.peer)
  pub sessions : Onto c.end.half.sessions d.end.half.sessions

abbrev pub TableGood : Table → Type 0
TableGood t = (x : ℕ) → Good (sess t x)

pub record Turned (t : Table) (v : Table) : Type 0 where
  pub drawn : IdsStay t v
  pub at : (x : ℕ) → is_drawn t x ≡ true → EntryGoes (t.circuit_at x) (v.circuit_at x)
  pub good : TableGood v

abbrev pub Turns : Table → Table → Type 0
Turns t v = TableGood t → Turned t v

entry_same : (c : CircuitEntry) → Good c.end.half.sessions → EntryGoes c c
entry_same c g = record { address = refl; dead = λ l. refl; running = λ r. (r, refl); sessions = goes_same c.end.half.sessions g }

entry_then : (c d e : CircuitEntry) → EntryGoes c d → EntryGoes d e → EntryGoes c e
entry_then c d e p q = record {
  address = q.address ∙ p.address;
  dead = λ l. (let i : d ≡ c = p.dead l in q.dead (ap (λ (z : CircuitEntry). lives z.end) i ∙ l) ∙ i);
  running = λ r. (let a : (d.end.running ≡ true) × (d.end.peer ≡ c.end.peer) = p.running r in let b : (e.end.running ≡ true) × (e.end.peer ≡ d.end.peer) = q.running a.0 in (b.0, b.1 ∙ a.1));
  sessions = onto_then p.sessions q.sessions;
}
  where
    onto_then : {a b f : Sessions} → Onto a b → Onto b f → Onto a f
    onto_then {a} {b} {f} p q = record {
      good = q.good;
      made = omega (arith, p.made, q.made);
      master = q.master ∙ p.master;
      each = λ k l. one_then (a.session k) (b.session k) (f.session k) (p.each k l) (q.each k (omega (arith, l, p.made)));
    }

pub turned_same : (t : Table) → Turns t t
turned_same t g = record { drawn = λ x l. l; at = λ x l. entry_same (t.circuit_at x) (g x); good = g }

pub turned_then : (t v w : Table) → Turned t v → Turned v w → Turned t w
turned_then t v w p q = record {
  drawn = λ x l. q.drawn x (p.drawn x l);
  at = λ x l. entry_then (t.circuit_at x) (v.circuit_at x) (w.circuit_at x) (p.at x l) (q.at x (p.drawn x l));
  good = q.good;
}

abbrev KeepsPeer : End → End → Type 0
KeepsPeer e f = e.running ≡ true → (f.running ≡ true) × (f.peer ≡ e.peer)

kin_peer : (e f : End) → Kin e f → KeepsPeer e f
kin_peer e f k r = (k.running ∙ r, k.peer)

-- a step of a circuit that lives
steps_turn : (b : Bool) (t : Table) (x : ℕ) (s : Step) → lives (t.circuit_at x).end ≡ true → KeepsPeer (t.circuit_at x).end s.end → Goes (sess t x) s.end.half.sessions → Turns t (steps_at b t x s).table
steps_turn b t x s l k h g = record {
  drawn = λ y l. l;
  at = λ y m. at y (nat_eq y x) refl;
  good = λ y. upd_all (λ (z : CircuitEntry). Good z.end.half.sessions) t.circuit_at x new (h (g x)).good g y;
}
  where
    new : CircuitEntry
    new = record { address = (t.circuit_at x).address; end = (note_empty (t.circuit_at x).end s).end }

    here : EntryGoes (t.circuit_at x) new
    here = record { address = refl; dead = λ d. absurd (true≢false (sym l ∙ d)); running = k; sessions = h (g x) }

    at : (y : ℕ) (c : Bool) → nat_eq y x ≡ c → EntryGoes (t.circuit_at y) (cond c new (t.circuit_at y))
    at y true q = subst (λ z. EntryGoes (t.circuit_at z) new) (sym (eqb-true y x q)) here
    at y false q = entry_same (t.circuit_at y) (g y)

-- a circuit more, without sessions
fresh_turn : (b : Bool) (t : Table) (address : ℕ) (s : Step) → Good s.end.half.sessions → Turns t (put_at b t (suc t.drawn) (next_id t) address s).table
fresh_turn b t address s n g = record {
  drawn = drawn_behind t.first t.drawn;
  at = λ y m. subst (EntryGoes (t.circuit_at y)) (sym (upd_other t.circuit_at (next_id t) new y (drawn_apart t.first t.drawn y m))) (entry_same (t.circuit_at y) (g y));
  good = λ y. upd_all (λ (z : CircuitEntry). Good z.end.half.sessions) t.circuit_at (next_id t) new n g y;
}
  where
    new : CircuitEntry
    new = record { address = address; end = s.end }

act_cond : (t : Table) (n : Bool) (a b : Acted) → (n ≡ true → Turns t a.table) → Turns t b.table → Turns t (cond n a b).table
act_cond t true a b p q = p refl
act_cond t false a b p q = q

heard_cond : (t : Table) (n : Bool) (a b : HeardAct) → (n ≡ true → Turns t a.act.table) → (n ≡ false → Turns t b.act.table) → Turns t (cond n a b).act.table
heard_cond t true a b p q = p refl
heard_cond t false a b p q = q refl

-- each act

abbrev Going : ℕ → Sessions → Sessions → Type 0
Going x e f = is_none x ≡ true → Goes e f

time_goes : (now : ℕ) (e : End) → Goes e.half.sessions (time_step now e).end.half.sessions
time_goes now e = to_time is_none true Going (goes_kept is_none true) 0 now e refl

run_goes : (now : ℕ) (a : Bool) (f : Frame (List Slot)) (e : End) → Goes e.half.sessions (run_end now a f e).step.end.half.sessions
run_goes now a f e = to_run is_none true Going (goes_kept is_none true) 0 now a f e refl

again_goes : (now : ℕ) (e : End) → Goes e.half.sessions (again_start now e).end.half.sessions
again_goes now e = to_again is_none true Going (goes_kept is_none true) 0 now e refl

stop_goes : (now r : ℕ) (e : End) → Goes e.half.sessions (hear_stop now r e).end.half.sessions
stop_goes now r e = to_stop is_none true Going (goes_kept is_none true) 0 now r e refl

reply_goes : (now peer : ℕ) (g : Agreed) (e : End) → Goes e.half.sessions (hear_reply now peer g e).end.half.sessions
reply_goes now peer g e = to_reply is_none true Going (goes_kept is_none true) 0 now peer g e refl

peer_cond : (e : End) (b : Bool) (s t : Step) → (b ≡ true → KeepsPeer e s.end) → (b ≡ false → KeepsPeer e t.end) → KeepsPeer e (cond b s t).end
peer_cond e true s t p q = p refl
peer_cond e false s t p q = q refl

reply_peer : (now peer : ℕ) (g : Agreed) (e : End) → KeepsPeer e (hear_reply now peer g e).end
reply_peer now peer g e = peer_cond e (lives e) (cond e.running (noted now e) (still (reply_end now peer g e))) (still e) (λ l. peer_cond e e.running (noted now e) (still (reply_end now peer g e)) (λ q r. (r, refl)) (λ q r. absurd (true≢false (sym r ∙ q)))) (λ l r. (r, refl))

again_peer : (now : ℕ) (e : End) → KeepsPeer e (again_start now e).end
again_peer now e = peer_cond e (lives e && not e.heard_run) (replied now e) (cond (lives e) (noted now e) (still e)) (λ q r. (r, refl)) (λ q. peer_cond e (lives e) (noted now e) (still e) (λ z r. (r, refl)) (λ z r. (r, refl)))

pub local_turn : (b : Bool) (t : Table) (x : ℕ) (c : Call) → IsQuiet c → Turns t (local_at b t x c).table
local_turn b t x c h =
    let s : Step = record { end = call_end c (t.circuit_at x).end; sent = [] } in
    act_cond t (lives (t.circuit_at x).end) (steps_at b t x s) (idle t) (λ i. steps_turn b t x s i (kin_peer (t.circuit_at x).end s.end (kin_call c (t.circuit_at x).end)) (goes_call (sess t x) c h)) (turned_same t)

pub time_turn : (b : Bool) (t : Table) (x now : ℕ) → Turns t (time_at b t x now).table
time_turn b t x now =
    let e : End = (t.circuit_at x).end in
    act_cond t (lives e) (steps_at b t x (time_step now e)) (idle t) (λ i. steps_turn b t x (time_step now e) i (kin_peer e (time_step now e).end (kin_time now e)) (time_goes now e)) (turned_same t)

pub end_turn : (b : Bool) (t : Table) (x r : ℕ) → Turns t (end_at b t x r).table
end_turn b t x r =
    let s : Step = finish r (t.circuit_at x).end in
    act_cond t (lives (t.circuit_at x).end) (steps_at b t x s) (idle t) (λ i. steps_turn b t x s i (λ q. (q, refl)) (goes_same (sess t x))) (turned_same t)

pub outlive_turn : (t : Table) (from source x : ℕ) → Turns t (outlive_at from source x t)
outlive_turn t from source x = go (is_outlived c from source) refl
  where
    c : CircuitEntry
    c = t.circuit_at x

    go : (n : Bool) → is_outlived c from source ≡ n → Turns t (cond n (steps_at false t x (lapse 5 c.end)).table t)
    go true i = steps_turn false t x (lapse 5 c.end) (and_parts (nat_eq c.address from && follows c.end.peer source) (lives c.end) i).1 (λ q. (q, refl)) (goes_same (sess t x))
    go false i = turned_same t

move_turn : (b : Bool) (t : Table) (x now : ℕ) → Turns t (move_at b t x now).table
move_turn b t x now =
    let s : Step = record { end = record ((t.circuit_at x).end) { moment = now }; sent = [] } in
    act_cond t (lives (t.circuit_at x).end) (steps_at b t x s) (idle t) (λ i. steps_turn b t x s i (λ r. (r, refl)) (goes_same (sess t x))) (turned_same t)

pub run_turn : (b : Bool) (t : Table) (from : ℕ) (wide : Bool) (h : Head) (slots : List Slot) (k : Option Numbers) (now : ℕ) → Turns t (hear_run b t from wide h slots k now).act.table
run_turn b t from wide h slots k now =
    let e : End = (t.circuit_at h.to).end in
    let f : Frame (List Slot) = run_frame (numbers_at e h k) slots in
    let s : Step = (run_end now h.ask f e).step in
    heard_cond t (names t from h.to h.from) (run_at b t h.to (fits_kind e h.master wide) now h.ask f) (foreign t)
    (λ i. heard_cond t (fits_kind e h.master wide) _ _
    (λ j. steps_turn b t h.to s (and_parts (is_of (t.circuit_at h.to) from h.from) (lives e) (and_parts (is_of (t.circuit_at h.to) from h.from && lives e) e.running i).0).1 (kin_peer e s.end (kin_run now h.ask f e)) (run_goes now h.ask f e))
    (λ j. move_turn b t h.to now))
    (λ i. turned_same t)

pub stop_turn : (b : Bool) (t : Table) (from to source now reason : ℕ) → Turns t (hear_stop_at b t from to source now reason).act.table
stop_turn b t from to source now reason =
    let c : CircuitEntry = t.circuit_at to in
    heard_cond t (nat_eq c.address from && (nat_eq c.end.peer source || nat_eq source 0) && lives c.end) (record { act = steps_at b t to (hear_stop now reason c.end); answer = Ended reason }) (foreign t)
    (λ i. steps_turn b t to (hear_stop now reason c.end) (and_parts (nat_eq c.address from && (nat_eq c.end.peer source || nat_eq source 0)) (lives c.end) i).1 (kin_peer c.end (hear_stop now reason c.end).end (kin_stop now reason c.end)) (stop_goes now reason c.end)) (λ i. turned_same t)

pub reply_turn : (t : Table) (from to source now : ℕ) (g : Agreed) → Turns t (hear_reply_at t from to source now g).act.table
reply_turn t from to source now g =
    let c : CircuitEntry = t.circuit_at to in
    heard_cond t (nat_eq c.address from && lives c.end && (not c.end.running || nat_eq c.end.peer source)) (record { act = steps_at true t to (hear_reply now source g c.end); answer = cond c.end.running Again Running }) (foreign t)
    (λ i. steps_turn true t to (hear_reply now source g c.end) (and_parts (nat_eq c.address from) (lives c.end) (and_parts (nat_eq c.address from && lives c.end) (not c.end.running || nat_eq c.end.peer source) i).0).1 (reply_peer now source g c.end) (reply_goes now source g c.end)) (λ i. turned_same t)

pub call_turn : (u : Setup) (t : Table) (address now : ℕ) → Turns t (call_at u t address now).table
call_turn u t address now = fresh_turn true t address (called u now) (void_good true _ _)

pub start_turn : (u : Setup) (t : Table) (from source now : ℕ) (g : Agreed) → Turns t (start_at u t from source now g (start_fact t from source)).table
start_turn u t from source now g = go (nat_eq (slave_of t from source) 0) refl (nat_lt (living t) 8 && nat_lt t.drawn 65535)
  where
    k : ℕ
    k = slave_of t from source

    go : (a : Bool) → nat_eq (slave_of t from source) 0 ≡ a → (b : Bool) → Turns t (start_at u t from source now g (cond a (cond b (Makes (next_id t)) Refuses) (Repeats k))).table
    go true q true = fresh_turn false t from (make_slave now source g (first_end false false u)) (void_good false _ _)
    go true q false = turned_same t
    go false q b = steps_turn false t k (again_start now (t.circuit_at k).end) (alive q) (again_peer now (t.circuit_at k).end) (again_goes now (t.circuit_at k).end)
      where
        alive : nat_eq (slave_of t from source) 0 ≡ false → lives (t.circuit_at k).end ≡ true
        alive q = (and_parts (is_of (t.circuit_at k) from source) (lives (t.circuit_at k).end) (least_true (λ i. is_of (t.circuit_at i) from source && lives (t.circuit_at i).end) (ids t) (eqb-false k 0 q))).1
