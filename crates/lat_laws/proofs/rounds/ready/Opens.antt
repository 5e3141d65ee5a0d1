-- A session that is connected, and one that is accepted, has its line.
use Rattle.std.proofs.Common.{◌≡◌, ◌≢◌, ℕ, zero, suc, ◌+◌, ◌<◌, ◌≤◌, ◌⊎◌, inl, inr, ⊎_elim, sym, ap, ap₂, ◌∙◌, refl, subst, arith, Bool, true, false, not, cond, ◌&&◌, List, [], ◌∷◌, ◌++◌, Option, Some, None, nat_eq, nat_lt, nat_le, eqb-true, ltb-true}
use Rattle.std.proofs.lemmas.Bool.{cases_lt, and_parts, and_from, true≢false, false≢true, not-true, eqb-false, lt-ltb, le-leb}
use Rattle.lat_model.specs.sessions.Slots.{starts}
use Rattle.lat_model.specs.sessions.Session.{Session, free, answered, gone, waits}
use Rattle.lat_model.specs.sessions.Sessions.{Sessions, named, held, least_free}
use Rattle.lat_model.specs.sessions.Calls.{Call, Connect, RejectAsk, call, connect, new_call, answer}
use Rattle.lat_model.specs.Lists.{updated, upwards, Each}
use Rattle.lat_model.specs.ends.End.{End, Step, lives, call_end}
use Rattle.lat_model.specs.ends.Timers.{note_empty}
use Rattle.lat_model.specs.circuits.World.{CircuitEntry, Table}
use Rattle.lat_model.proofs.sessions.Words.{upd_same, upd_other, upd_all}
use Rattle.lat_machines.specs.values.Names.{Name}
use Rattle.lat_machines.specs.values.Keys.{Key}
use Rattle.lat_machines.specs.cores.Acts.{Acted, idle, steps_at, call_at, local_at}
use Rattle.lat_machines.specs.cores.Cores.{Seat, no_seat, Core, Doing, rests, acts, with_circuits, setup_of, circuit_to}
use Rattle.lat_machines.specs.cores.Lines.{over, last_on, seat_at, has_session, line_exists}
use Rattle.lat_machines.specs.server.Server.{ServerConfig, server_side, has_room, may_call, can_open, connects_on, opens}
use Rattle.lat_machines.specs.node.Node.{NodeConfig, Node, free_line, Accepts, Rejects, on_free_line, verdict, was_requested, request_of, is_offered, local_call, judged, asked_at, answers_one, answers_in, asked_on, answers_asked}
use Rattle.lat_machines.proofs.queue.Rooms.{Called, call_opens, test_of, least_true, least_in}
use Rattle.lat_laws.specs.rounds.Seated.{Found, Drawn, LaterTable, IsSeat, Placed, Seated}
use Rattle.lat_laws.proofs.rounds.ready.Laters.{waits_goes, more_found, least_new}
use Rattle.lat_laws.proofs.rounds.ready.Tables.{call_at_later, local_later}
use Rattle.lat_laws.proofs.rounds.ready.Seats.{over_parts, over_none, holds_seat, seated_later, Seats, seats_more}
use Rattle.std.specs.List.{list_any}
use Rattle.lat_model.specs.sessions.Calls as Calls
use Rattle.lat_model.proofs.circuits.Ids.{drawn_or}
use Rattle.lat_model.specs.circuits.Ids.{is_drawn, next_id, ids}

abbrev sess : Table → ℕ → Sessions
sess t x = (t.circuit_at x).end.half.sessions

pub drawn_of : (m : Bool) (t : Table) (x : ℕ) → Drawn m t → lives (t.circuit_at x).end ≡ true → is_drawn t x ≡ true
drawn_of m t x g l = ⊎_elim {C = is_drawn t x ≡ true} (λ h. absurd (true≢false (sym l ∙ g.new x h))) (λ h. h) (drawn_or t x)

-- the circuit of the seat gets these sessions
abbrev with_sessions : End → Sessions → Step
with_sessions e z = record { end = record e { half = record (e.half) { sessions = z } }; sent = [] }

abbrev seated_core : Bool → Core → Seat → Sessions → Core
seated_core b c s z = record c {
  circuits = (steps_at b c.circuits s.circuit (with_sessions (c.circuits.circuit_at s.circuit).end z)).table;
  seats = c.seats ++ s ∷ [];
}

record Accepted (m : Bool) (lines : ℕ) (c : Core) (s : Seat) (z : Sessions) : Type 0 where
  pub alive : lives (c.circuits.circuit_at s.circuit).end ≡ true
  pub master : z.master ≡ m
  pub found : Found z
  pub more : (sess c.circuits s.circuit).made ≤ z.made
  pub made : s.serial ≤ z.made
  pub only : (k : ℕ) → (k ≡ s.serial → ⊥) → k ≤ z.made → k ≤ (sess c.circuits s.circuit).made
  pub old : (k : ℕ) → (k ≡ s.serial → ⊥) → z.session k ≡ (sess c.circuits s.circuit).session k
  pub id : (z.session s.serial).id ≡ s.id
  pub accepted : (z.session s.serial).accepted ≡ true
  pub fresh : (t : Seat) → Placed lines c t → t.circuit ≡ s.circuit → t.serial ≡ s.serial → ⊥
  pub line : line_exists lines s.line ≡ true
  pub free_line : has_session c s.line ≡ false

accepts_seats : (m b : Bool) (lines : ℕ) (c : Core) (s : Seat) (z : Sessions) → Accepted m lines c s z → Drawn m c.circuits → Seats m lines c (seated_core b c s z) s
accepts_seats m b lines c s z r g = record {
  seats = refl;
  good = record {
    masters = λ y. upd_all (λ (w : CircuitEntry). w.end.half.sessions.master ≡ m) t.circuit_at s.circuit new r.master g.masters y;
    new = λ k l. alive k (nat_eq k s.circuit) refl ∙ g.new k l;
    found = λ y. upd_all (λ (w : CircuitEntry). Found w.end.half.sessions) t.circuit_at s.circuit new r.found g.found y;
    held = λ y k q. held y k (nat_eq y s.circuit) refl q;
  };
  drawn = λ y l. l;
  alive = λ y. alive y (nat_eq y s.circuit) refl;
  made = λ y. made y (nat_eq y s.circuit) refl;
  old = λ y k n. old y k (nat_eq y s.circuit) refl n;
  grows = λ y k n l. grows y k (nat_eq y s.circuit) refl n l;
  fresh = r.fresh;
  placed = record {
    drawn = here;
    made = subst (λ (w : CircuitEntry). s.serial ≤ w.end.half.sessions.made) (sym at) r.made;
    id = ap (λ (w : CircuitEntry). (w.end.half.sessions.session s.serial).id) at ∙ r.id;
    accepted = ap (λ (w : CircuitEntry). (w.end.half.sessions.session s.serial).accepted) at ∙ r.accepted;
    line = r.line;
  };
  free_line = r.free_line;
}
  where
    t : Table
    t = c.circuits

    new : CircuitEntry
    new = record { address = (t.circuit_at s.circuit).address; end = (note_empty (t.circuit_at s.circuit).end (with_sessions (t.circuit_at s.circuit).end z)).end }

    at : (seated_core b c s z).circuits.circuit_at s.circuit ≡ new
    at = upd_same t.circuit_at s.circuit new

    here : is_drawn t s.circuit ≡ true
    here = drawn_of m t s.circuit g r.alive

    alive : (y : ℕ) (a : Bool) → nat_eq y s.circuit ≡ a → lives (cond a new (t.circuit_at y)).end ≡ lives (t.circuit_at y).end
    alive y true q = ap (λ w. lives (t.circuit_at w).end) (sym (eqb-true y s.circuit q))
    alive y false q = refl

    held : (y k : ℕ) (a : Bool) → nat_eq y s.circuit ≡ a → ((cond a new (t.circuit_at y)).end.half.sessions.session k).accepted ≡ true → is_drawn t y ≡ true
    held y k true q h = subst (λ w. is_drawn t w ≡ true) (sym (eqb-true y s.circuit q)) here
    held y k false q h = g.held y k h

    made : (y : ℕ) (a : Bool) → nat_eq y s.circuit ≡ a → (sess t y).made ≤ (cond a new (t.circuit_at y)).end.half.sessions.made
    made y true q = subst (λ w. (sess t w).made ≤ z.made) (sym (eqb-true y s.circuit q)) r.more
    made y false q = omega arith

    grows : (y k : ℕ) (a : Bool) → nat_eq y s.circuit ≡ a → (y ≡ s.circuit → k ≡ s.serial → ⊥) → k ≤ (cond a new (t.circuit_at y)).end.half.sessions.made → k ≤ (sess t y).made
    grows y k true q n l = let e : y ≡ s.circuit = eqb-true y s.circuit q in subst (λ w. k ≤ (sess t w).made) (sym e) (r.only k (λ h. n e h) l)
    grows y k false q n l = l

    old : (y k : ℕ) (a : Bool) → nat_eq y s.circuit ≡ a → (y ≡ s.circuit → k ≡ s.serial → ⊥) → (cond a new (t.circuit_at y)).end.half.sessions.session k ≡ (sess t y).session k
    old y k true q n = let e : y ≡ s.circuit = eqb-true y s.circuit q in r.old k (λ h. n e h) ∙ ap (λ w. (sess t w).session k) (sym e)
    old y k false q n = refl

accepts_seated : (m b : Bool) (lines : ℕ) (c : Core) (s : Seat) (z : Sessions) → Accepted m lines c s z → Seated m lines c → Seated m lines (seated_core b c s z)
accepts_seated m b lines c s z r h = seats_more m lines c (seated_core b c s z) s (accepts_seats m b lines c s z r h.good) h

-- a line without a session has none behind a step

last_is : (line : ℕ) (s : Seat) (xs : List Seat) → (last_on line s xs ≡ s) ⊎ IsSeat (last_on line s xs) xs
last_is line s [] = inl refl
last_is line s (x ∷ xs) = go (nat_eq x.line line) (λ y. last_is line y xs)
  where
    go : (b : Bool) → ((y : Seat) → (last_on line y xs ≡ y) ⊎ IsSeat (last_on line y xs) xs) → (last_on line (cond b x s) xs ≡ s) ⊎ ((last_on line (cond b x s) xs ≡ x) ⊎ IsSeat (last_on line (cond b x s) xs) xs)
    go true h = inr (h x)
    go false h = ⊎_elim {C = (last_on line s xs ≡ s) ⊎ ((last_on line s xs ≡ x) ⊎ IsSeat (last_on line s xs) xs)} (λ q. inl q) (λ q. inr (inr q)) (h s)

pub still_free : (m : Bool) (lines : ℕ) (c d : Core) (line : ℕ) → d.seats ≡ c.seats → LaterTable m c.circuits d.circuits → Seated m lines c → has_session c line ≡ false → has_session d line ≡ false
still_free m lines c d line q l h n = go (has_session d line) refl
  where
    s : Seat
    s = seat_at c line

    same : seat_at d line ≡ s
    same = ap (last_on line no_seat) q

    over_d : over d (seat_at d line) ≡ false → (s ≡ no_seat) ⊎ IsSeat s c.seats → ⊥
    over_d o k =
        let r : (lives (d.circuits.circuit_at s.circuit).end ≡ true) × (free ((sess d.circuits s.circuit).session s.serial) ≡ false) = over_parts d s (sym (ap (over d) same) ∙ o) in
        ⊎_elim {C = ⊥}
        (λ e. true≢false (sym ((l.good h.good).found s.circuit).none ∙ (ap (λ z. free ((sess d.circuits s.circuit).session z)) (sym (ap (λ (z : Seat). z.serial) e)) ∙ r.1)))
        (λ i. let p : Placed lines c s = h.placed s i in
        true≢false (sym (holds_seat c line n) ∙ over_none c s (l.live s.circuit p.drawn r.0) ((l.sessions s.circuit p.drawn).frees s.serial p.made r.1)))
        k

    go : (b : Bool) → has_session d line ≡ b → has_session d line ≡ false
    go true e = absurd (over_d (not-true (over d (seat_at d line)) e) (last_is line no_seat c.seats))
    go false e = e

-- the server connects a session

connect_seated : (config : ServerConfig) (line x : ℕ) (service : Name) (key : Option Key) (request : Option ℕ) (c : Core) → Seated true config.lines c → lives (c.circuits.circuit_at x).end ≡ true → has_room c x ≡ true → line_exists config.lines line ≡ true → has_session c line ≡ false → Seated true config.lines (connects_on config line x service key request c).core
connect_seated config line x service key request c h l room ex fr = subst (λ (t : Table). Seated true config.lines (record c { circuits = t; seats = c.seats ++ s ∷ [] })) (sym table_is) (accepts_seated true true config.lines c s z
    (record {
      alive = l;
      master = h.good.masters x;
      found = more_found e z (new_call e service request) (h.good.found x) refl refl refl (λ q. absurd (true≢false (sym (h.good.masters x) ∙ q))) (least_new e service request (h.good.found x) (ltb-true (held e) e.agreed room)) (λ i. ids i (nat_eq i (least_free e)) refl);
      more = omega arith;
      made = omega arith;
      only = λ k n l. below k (cases_lt e.made k) n l;
      old = λ k n. upd_other e.session (suc e.made) (new_call e service request) k n;
      id = ap (λ (w : Session). w.id) (upd_same e.session (suc e.made) (new_call e service request));
      accepted = ap (λ (w : Session). w.accepted) (upd_same e.session (suc e.made) (new_call e service request));
      fresh = λ t p i j. (let q : (sess c.circuits t.circuit).made ≡ e.made = ap (λ w. (sess c.circuits w).made) i in absurd (omega (arith, p.made, q, j)));
      line = ex;
      free_line = fr;
    })
    h)
  where
    t : Table
    t = c.circuits

    e : Sessions
    e = sess t x

    s : Seat
    s = record { line = line; circuit = x; id = least_free e; serial = suc e.made; key = key }

    z : Sessions
    z = connect e service request

    below : (k : ℕ) → (e.made < k) ⊎ (k ≤ e.made) → (k ≡ suc e.made → ⊥) → k ≤ suc e.made → k ≤ e.made
    below k c n l = ⊎_elim {B = k ≤ e.made} {C = k ≤ e.made} (λ a. absurd (n (omega (arith, a, l)))) (λ a. a) c

    is_connect : call e (Connect service request) ≡ z
    is_connect = ap₂ (λ a b. cond (a && b) (connect e service request) e) (h.good.masters x) room

    table_is : (local_at true t x (Connect service request)).table ≡ (steps_at true t x (with_sessions (t.circuit_at x).end z)).table
    table_is = ap (λ b. (cond {A = Acted} b (steps_at true t x (with_sessions (t.circuit_at x).end (call e (Connect service request)))) (idle t)).table) l ∙ ap (λ w. (steps_at true t x (with_sessions (t.circuit_at x).end w)).table) is_connect

    ids : (i : ℕ) (b : Bool) → nat_eq i (least_free e) ≡ b → (cond b (suc e.made) (e.at_id i) ≡ e.at_id i) ⊎ ((cond b (suc e.made) (e.at_id i) ≡ suc e.made) × (least_free e ≡ i))
    ids i true q = inr (refl, sym (eqb-true i (least_free e) q))
    ids i false q = inl refl

pub opens_seated : (config : ServerConfig) (line address : ℕ) (node service : Name) (key : Option Key) (request : Option ℕ) (c : Core) → 0 < config.timing.sessions → Seated true config.lines c → can_open c address ≡ true → line_exists config.lines line ≡ true → has_session c line ≡ false → Seated true config.lines (opens config line address node service key request c).core
opens_seated config line address node service key request c pos h can ex fr = go (nat_eq (circuit_to c address) 0) refl can
  where
    named_core : Core
    named_core = record c { names = updated c.names (next_id c.circuits) node }

    made : Doing
    made = acts (server_side config) named_core (call_at (setup_of config.timing) named_core.circuits address named_core.moment)

    after : Doing → Core
    after d = (connects_on config line (circuit_to d.core address) service key request d.core).core

    go : (b : Bool) → nat_eq (circuit_to c address) 0 ≡ b → cond b (may_call c) (has_room c (circuit_to c address)) ≡ true → Seated true config.lines (after (cond b made (rests c)))
    go false i can = connect_seated config line (circuit_to c address) service key request c h (and_parts (nat_eq (c.circuits.circuit_at (circuit_to c address)).address address) (lives (c.circuits.circuit_at (circuit_to c address)).end) (least_true (test_of c.circuits address) (ids c.circuits) (eqb-false (circuit_to c address) 0 i))).1 can ex fr
    go true i can =
        let k : Called named_core address (with_circuits named_core (call_at (setup_of config.timing) named_core.circuits address named_core.moment).table) = call_opens (setup_of config.timing) named_core address named_core.moment pos (record { masters = h.good.masters; new = h.good.new }) (eqb-true (circuit_to c address) 0 i) can in
        let l : LaterTable true c.circuits made.core.circuits = call_at_later (setup_of config.timing) c.circuits address c.moment in
        connect_seated config line (circuit_to made.core address) service key request made.core (seated_later true config.lines c made.core refl l h)
        (ap (λ z. lives (made.core.circuits.circuit_at z).end) k.at ∙ k.alive) (ap (has_room made.core) k.at ∙ k.some) ex (still_free true config.lines c made.core line refl l h fr)

-- the node answers asked sessions

pub line_from : (lines line : ℕ) → 0 < line → line ≤ lines → line_exists lines line ≡ true
line_from lines line a b = and_from (nat_lt 0 line) (nat_le line lines) (lt-ltb 0 line a) (le-leb line lines b)

pub lines_exist : (lines n k : ℕ) → n + k ≤ lines → Each (λ line. line_exists lines line ≡ true) (upwards n k)
lines_exist lines n zero l = tt
lines_exist lines n (suc k) l = (line_from lines (suc n) (omega arith) (omega (arith, l)), lines_exist lines (suc n) k (omega (arith, l)))

-- Answering a circuit that lives
pub record Answering (lines : ℕ) (x : ℕ) (c : Core) : Type 0 where
  pub seated : Seated false lines c
  pub alive : lives (c.circuits.circuit_at x).end ≡ true

local_alive : (b : Bool) (t : Table) (x : ℕ) (c : Call) → lives ((local_at b t x c).table.circuit_at x).end ≡ lives (t.circuit_at x).end
local_alive b t x c = go (lives (t.circuit_at x).end) (nat_eq x x)
  where
    new : CircuitEntry
    new = record { address = (t.circuit_at x).address; end = (note_empty (t.circuit_at x).end (record { end = call_end c (t.circuit_at x).end; sent = [] })).end }

    go : (l n : Bool) → lives ((cond l (steps_at b t x (record { end = call_end c (t.circuit_at x).end; sent = [] })) (idle t)).table.circuit_at x).end ≡ lives (t.circuit_at x).end
    go true n = ap (λ (w : CircuitEntry). lives w.end) (upd_same t.circuit_at x new)
    go false n = refl

refuse_answering : (config : NodeConfig) (x id reason : ℕ) (c : Core) → Answering config.lines x c → Answering config.lines x (local_call config x (RejectAsk id reason) c)
refuse_answering config x id reason c h = record {
  seated = seated_later false config.lines c (local_call config x (RejectAsk id reason) c) refl (local_later false false c.circuits x (RejectAsk id reason) refl) h.seated;
  alive = local_alive false c.circuits x (RejectAsk id reason) ∙ h.alive;
}

answer_answering : (config : NodeConfig) (st : Node) (x id : ℕ) (request : Option ℕ) (line : ℕ) → waits (asked_at st x id) ≡ true → line_exists config.lines line ≡ true → has_session st.core line ≡ false → Answering config.lines x st.core → Answering config.lines x (judged config st x id request (Accepts line)).core
answer_answering config st x id request line w ex fr h = record {
  seated = subst (λ (v : Table). Seated false config.lines (core_with v ((v.circuit_at x).end.half.sessions.at_id id))) (sym table_is) (subst (λ n. Seated false config.lines (core_with answered_table n)) (sym serial_is) (accepts_seated false false config.lines c s z
      (record {
        alive = h.alive;
        master = h.seated.good.masters x;
        found = found;
        more = omega arith;
        made = f.made id;
        only = λ k n l. l;
        old = λ k n. upd_other e.session (e.at_id id) new k n;
        id = ap (λ (y : Session). y.id) (upd_same e.session (e.at_id id) new) ∙ f.named id some;
        accepted = ap (λ (y : Session). y.accepted) (upd_same e.session (e.at_id id) new);
        fresh = λ p q i j. true≢false (sym q.accepted ∙ (ap₂ (λ a b. ((sess t a).session b).accepted) i j ∙ unaccepted));
        line = ex;
        free_line = fr;
      })
      h.seated));
  alive = local_alive false t x (Calls.Answer id) ∙ h.alive;
}
  where
    c : Core
    c = st.core

    t : Table
    t = c.circuits

    e : Sessions
    e = sess t x

    f : Found e
    f = h.seated.good.found x

    new : Session
    new = record (named e id) { accepted = true }

    z : Sessions
    z = answer e id

    s : Seat
    s = record { line = line; circuit = x; id = id; serial = e.at_id id; key = None }

    some : e.at_id id ≢ 0
    some q = true≢false (sym f.none ∙ (ap (λ y. free (e.session y)) (sym q) ∙ waits_goes (named e id) w))

    asks : starts (named e id).came ≡ true
    asks = f.asked (h.seated.good.masters x) (e.at_id id) some (f.made id)

    unaccepted : (named e id).accepted ≡ false
    unaccepted = go (named e id).accepted (starts (named e id).came) asks (not-true (answered (named e id)) (and_parts (not (answered (named e id))) (not (gone (named e id))) w).0)
      where
        go : (a b : Bool) → b ≡ true → (a && b) ≡ false → a ≡ false
        go true true p q = q
        go true false p q = absurd (false≢true p)
        go false b p q = refl

    answered_table : Table
    answered_table = (steps_at false t x (with_sessions (t.circuit_at x).end z)).table

    core_with : Table → ℕ → Core
    core_with v n = record c { circuits = v; seats = c.seats ++ record { line = line; circuit = x; id = id; serial = n; key = None } ∷ [] }

    is_answer : call e (Calls.Answer id) ≡ z
    is_answer = ap₂ (λ a b. cond (not a && b) (answer e id) e) (h.seated.good.masters x) w

    table_is : (local_at false t x (Calls.Answer id)).table ≡ answered_table
    table_is = ap (λ b. (cond {A = Acted} b (steps_at false t x (with_sessions (t.circuit_at x).end (call e (Calls.Answer id)))) (idle t)).table) h.alive ∙ ap (λ y. (steps_at false t x (with_sessions (t.circuit_at x).end y)).table) is_answer

    serial_is : (answered_table.circuit_at x).end.half.sessions.at_id id ≡ e.at_id id
    serial_is = ap (λ (y : CircuitEntry). y.end.half.sessions.at_id id) (upd_same t.circuit_at x (record { address = (t.circuit_at x).address; end = (note_empty (t.circuit_at x).end (with_sessions (t.circuit_at x).end z)).end }))

    found : Found z
    found = record {
      made = f.made;
      named = λ i n. ids (e.at_id i) ∙ f.named i n;
      none = ap free (upd_other e.session (e.at_id id) new 0 (λ q. some (sym q))) ∙ f.none;
      held = λ k q. held k (nat_eq k (e.at_id id)) refl q;
      asked = λ m k n l. came k (nat_eq k (e.at_id id)) refl (f.asked m k n l);
      agreed = f.agreed;
      holds = λ k q. ap e.at_id (ids k) ∙ f.holds k (frees k (nat_eq k (e.at_id id)) refl q);
      within = f.within;
    }
      where
        ids : (k : ℕ) → (z.session k).id ≡ (e.session k).id
        ids k = go (nat_eq k (e.at_id id)) refl
          where
            go : (b : Bool) → nat_eq k (e.at_id id) ≡ b → (cond b new (e.session k)).id ≡ (e.session k).id
            go true q = ap (λ y. (e.session y).id) (sym (eqb-true k (e.at_id id) q))
            go false q = refl

        frees : (k : ℕ) (b : Bool) → nat_eq k (e.at_id id) ≡ b → free (cond b new (e.session k)) ≡ false → free (e.session k) ≡ false
        frees k true q a = ap (λ y. free (e.session y)) (eqb-true k (e.at_id id) q) ∙ waits_goes (named e id) w
        frees k false q a = a

        held : (k : ℕ) (b : Bool) → nat_eq k (e.at_id id) ≡ b → (cond b new (e.session k)).accepted ≡ true → k ≤ e.made
        held k true q a = subst (λ y. y ≤ e.made) (sym (eqb-true k (e.at_id id) q)) (f.made id)
        held k false q a = f.held k a

        came : (k : ℕ) (b : Bool) → nat_eq k (e.at_id id) ≡ b → starts (e.session k).came ≡ true → starts (cond b new (e.session k)).came ≡ true
        came k true q a = asks
        came k false q a = a

pub judged_answering : (config : NodeConfig) (st : Node) (x id : ℕ) (request : Option ℕ) (service : Name) → waits (asked_at st x id) ≡ true → Answering config.lines x st.core → Answering config.lines x (judged config st x id request (verdict config st service request)).core
judged_answering config st x id request service w h = by request
  where
    l : ℕ
    l = free_line config st.core

    on_line : (b : Bool) → nat_eq l 0 ≡ b → Answering config.lines x (judged config st x id request (cond b (Rejects 7) (Accepts l))).core
    on_line true q = refuse_answering config x id 7 st.core h
    on_line false q =
        let n : l ≢ 0 = eqb-false l 0 q in
        answer_answering config st x id request l w (line_from config.lines l (omega (arith, n)) (omega (arith, least_in (λ line. not (has_session st.core line)) 0 config.lines))) (not-true (has_session st.core l) (least_true (λ line. not (has_session st.core line)) (upwards 0 config.lines) n)) h

    either : (b : Bool) (n : ℕ) → Answering config.lines x (judged config st x id request (cond b (on_free_line l) (Rejects n))).core
    either true n = on_line (nat_eq l 0) refl
    either false n = refuse_answering config x id n st.core h

    by : (o : Option ℕ) → Answering config.lines x (judged config st x id request (verdict config st service o)).core
    by None = either (is_offered config service) 4
    by (Some k) = either (was_requested service (request_of k st) && not (list_any (nat_eq k) st.accepted)) 5

answers_in_seated : (config : NodeConfig) (x : ℕ) (ids : List ℕ) (st : Node) → Answering config.lines x st.core → Answering config.lines x (answers_in config x ids st).core
answers_in_seated config x [] st h = h
answers_in_seated config x (id ∷ ids) st h = answers_in_seated config x ids (answers_one config x st id) (go (waits s) refl)
  where
    s : Session
    s = asked_at st x id

    go : (b : Bool) → waits s ≡ b → Answering config.lines x (cond b (judged config st x id s.request (verdict config st s.service s.request)) st).core
    go true q = judged_answering config st x id s.request s.service q h
    go false q = h

pub answers_seated : (config : NodeConfig) (x : ℕ) (st : Node) → Seated false config.lines st.core → Seated false config.lines (answers_asked config x st).core
answers_seated config x st h = go (lives (st.core.circuits.circuit_at x).end) refl
  where
    rest : Node
    rest = record st { turned_away = st.turned_away + asked_on st x }

    go : (b : Bool) → lives (st.core.circuits.circuit_at x).end ≡ b → Seated false config.lines (cond b (answers_in config x (upwards 0 64) st) rest).core
    go true q = (answers_in_seated config x (upwards 0 64) st (record { seated = h; alive = q })).seated
    go false q = h
