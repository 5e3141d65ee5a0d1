-- What Takes and grants leave of the sessions: what came stays, and no less is taken.
use Rattle.std.proofs.Common.{◌≡◌, ℕ, suc, ◌+◌, ◌≤◌, ◌⊎◌, inl, inr, ⊎_elim, sym, ap, ◌∙◌, refl, subst, arith, Bool, true, false, cond, ◌&&◌, List, [], ◌∷◌, Option, Some, None, nat_eq, nat_lt, eqb-true}
use Rattle.lat_model.specs.sessions.Session.{Session, free, take_open}
use Rattle.lat_model.specs.sessions.Sessions.{Sessions, named, held}
use Rattle.lat_model.specs.sessions.Calls.{Call, Connect, Take, call, connect, new_call, touch, take_count}
use Rattle.lat_model.specs.sessions.EndOk.{EndOk}
use Rattle.lat_model.specs.Lists.{updated}
use Rattle.lat_model.specs.ends.End.{Step, lives, call_end}
use Rattle.lat_model.specs.ends.Timers.{note_empty}
use Rattle.lat_model.specs.ends.Starting.{Setup}
use Rattle.lat_model.specs.circuits.World.{CircuitEntry, Table}
use Rattle.lat_model.proofs.sessions.Words.{upd_other}
use Rattle.lat_model.proofs.sessions.Locals.{called}
use Rattle.lat_model.specs.circuits.Ids.{is_drawn, next_id, IdsStay}
use Rattle.lat_model.proofs.circuits.Ids.{drawn_apart, drawn_behind}
use Rattle.lat_machines.specs.values.Names.{Name}
use Rattle.lat_machines.specs.values.Keys.{Key}
use Rattle.lat_machines.specs.values.Answers.{Closed, NoLine}
use Rattle.lat_machines.specs.cores.Acts as Acts
use Rattle.lat_machines.specs.cores.Acts.{idle, steps_at, call_at, local_at}
use Rattle.lat_machines.specs.cores.Cores.{Seat, Core, Side, Doing, rests, acts, setup_of, circuit_to}
use Rattle.lat_machines.specs.cores.Lines.{session_of, seat_at, has_session, line_exists}
use Rattle.lat_machines.specs.cores.LineCalls.{Said, says, calls_on, take_on, on_line}
use Rattle.lat_machines.specs.server.Queue.{Request}
use Rattle.lat_machines.specs.server.Server.{ServerConfig, server_side, offer_on, connects_on, opens, Passing, grantable, grants_by, grant_line, grant_lines}
use Rattle.lat_laws.specs.rounds.Measure.{weights}
use Rattle.lat_laws.proofs.rounds.measure.Keeping.{call_same}
use Rattle.lat_laws.specs.rounds.Seated.{IsSeat}
use Rattle.lat_laws.proofs.rounds.ready.Laters.{takes_goes}
use Rattle.lat_laws.proofs.rounds.ready.Seats.{is_more}

pub record TookOne (s : Session) (t : Session) : Type 0 where
  pub came : t.came ≡ s.came
  pub taken : s.taken ≤ t.taken
  pub closed : t.closed ≡ s.closed
  pub accepted : t.accepted ≡ s.accepted
  pub frees : free t ≡ false → free s ≡ false

-- each session, or it is a new one
pub record Took (a : Sessions) (b : Sessions) : Type 0 where
  pub each : (k : ℕ) → TookOne (a.session k) (b.session k) ⊎ ((b.session k).came ≡ [])
  pub ok : EndOk a → EndOk b
  pub weigh : EndOk a → weights b ≡ weights a

abbrev sess : Table → ℕ → Sessions
sess t x = (t.circuit_at x).end.half.sessions

-- a circuit but for its sessions
pub record Face (c : CircuitEntry) (d : CircuitEntry) : Type 0 where
  pub address : d.address ≡ c.address
  pub running : d.end.running ≡ c.end.running
  pub peer : d.end.peer ≡ c.end.peer
  pub link : d.end.half.link ≡ c.end.half.link
  pub heard_run : d.end.heard_run ≡ c.end.heard_run

pub record TookTable (t : Table) (v : Table) : Type 0 where
  pub drawn : IdsStay t v
  pub face : (x : ℕ) → is_drawn t x ≡ true → Face (t.circuit_at x) (v.circuit_at x)
  pub live : (x : ℕ) → is_drawn t x ≡ true → lives (v.circuit_at x).end ≡ lives (t.circuit_at x).end
  pub sessions : (x : ℕ) → is_drawn t x ≡ true → Took (sess t x) (sess v x)

pub record TookCore (c : Core) (d : Core) : Type 0 where
  pub table : TookTable c.circuits d.circuits
  pub seats : (s : Seat) → IsSeat s c.seats → IsSeat s d.seats

face_same : (c : CircuitEntry) → Face c c
face_same c = record { address = refl; running = refl; peer = refl; link = refl; heard_run = refl }

one_same : (s : Session) → TookOne s s
one_same s = record { came = refl; taken = omega arith; closed = refl; accepted = refl; frees = λ h. h }

pub one_then : (s t v : Session) → TookOne s t → TookOne t v → TookOne s v
one_then s t v p q = record { came = q.came ∙ p.came; taken = omega (arith, p.taken, q.taken); closed = q.closed ∙ p.closed; accepted = q.accepted ∙ p.accepted; frees = λ h. p.frees (q.frees h) }

took_same : (e : Sessions) → Took e e
took_same e = record { each = λ k. inl (one_same (e.session k)); ok = λ h. h; weigh = λ h. refl }

took_then : (a b c : Sessions) → Took a b → Took b c → Took a c
took_then a b c p q = record {
  each = λ k. ⊎_elim {C = TookOne (a.session k) (c.session k) ⊎ ((c.session k).came ≡ [])}
      (λ y. ⊎_elim {C = TookOne (a.session k) (c.session k) ⊎ ((c.session k).came ≡ [])} (λ x. inl (one_then (a.session k) (b.session k) (c.session k) x y)) (λ x. inr (y.came ∙ x)) (p.each k))
      (λ y. inr y) (q.each k);
  ok = λ h. q.ok (p.ok h);
  weigh = λ h. q.weigh (p.ok h) ∙ p.weigh h;
}

pub table_took : (t : Table) → TookTable t t
table_took t = record { drawn = λ x l. l; face = λ x l. face_same (t.circuit_at x); live = λ x l. refl; sessions = λ x l. took_same (sess t x) }

tables_then : (t v w : Table) → TookTable t v → TookTable v w → TookTable t w
tables_then t v w p q = record {
  drawn = λ x l. q.drawn x (p.drawn x l);
  face = λ x l. (let a : Face (t.circuit_at x) (v.circuit_at x) = p.face x l in let b : Face (v.circuit_at x) (w.circuit_at x) = q.face x (p.drawn x l) in record { address = b.address ∙ a.address; running = b.running ∙ a.running; peer = b.peer ∙ a.peer; link = b.link ∙ a.link; heard_run = b.heard_run ∙ a.heard_run });
  live = λ x l. q.live x (p.drawn x l) ∙ p.live x l;
  sessions = λ x l. took_then (sess t x) (sess v x) (sess w x) (p.sessions x l) (q.sessions x (p.drawn x l));
}

pub core_took : (c : Core) → TookCore c c
core_took c = record { table = table_took c.circuits; seats = λ s i. i }

pub cores_then : (c d e : Core) → TookCore c d → TookCore d e → TookCore c e
cores_then c d e p q = record { table = tables_then c.circuits d.circuits e.circuits p.table q.table; seats = λ s i. q.seats s (p.seats s i) }

-- the two calls

take_took : (e : Sessions) (id n : ℕ) → Took e (call e (Take id n))
take_took e id n = record { each = λ k. inl (one (take_open (named e id)) refl k); ok = λ h. (called e (Take id n) h).ok; weigh = λ h. call_same e (Take id n) h refl }
  where
    s : Session
    s = record (named e id) { taken = (named e id).taken + take_count (named e id) n }

    one : (b : Bool) → take_open (named e id) ≡ b → (k : ℕ) → TookOne (e.session k) ((cond b (touch e (e.at_id id) s) e).session k)
    one false q k = one_same (e.session k)
    one true q k = at (nat_eq k (e.at_id id)) refl
      where
        at : (c : Bool) → nat_eq k (e.at_id id) ≡ c → TookOne (e.session k) (cond c s (e.session k))
        at true r = subst (λ j. TookOne (e.session j) s) (sym (eqb-true k (e.at_id id) r)) (record { came = refl; taken = omega arith; closed = refl; accepted = refl; frees = λ h. takes_goes (named e id) q })
        at false r = one_same (e.session k)

connect_took : (e : Sessions) (service : Name) (request : Option ℕ) → Took e (call e (Connect service request))
connect_took e service request = record { each = λ k. go (e.master && nat_lt (held e) e.agreed) (nat_eq k (suc e.made)) k; ok = λ h. (called e (Connect service request) h).ok; weigh = λ h. call_same e (Connect service request) h refl }
  where
    go : (b c : Bool) (k : ℕ) → TookOne (e.session k) ((cond b (connect e service request) e).session k) ⊎ (((cond b (connect e service request) e).session k).came ≡ [])
    go false c k = inl (one_same (e.session k))
    go true c k = at (nat_eq k (suc e.made))
      where
        at : (c : Bool) → TookOne (e.session k) (cond c (new_call e service request) (e.session k)) ⊎ ((cond c (new_call e service request) (e.session k)).came ≡ [])
        at true = inr refl
        at false = inl (one_same (e.session k))

-- acts

local_took : (b : Bool) (t : Table) (x : ℕ) (c : Call) → Took (sess t x) (call (sess t x) c) → TookTable t (local_at b t x c).table
local_took b t x c h = go (lives (t.circuit_at x).end)
  where
    s : Step
    s = record { end = call_end c (t.circuit_at x).end; sent = [] }

    new : CircuitEntry
    new = record { address = (t.circuit_at x).address; end = (note_empty (t.circuit_at x).end s).end }

    live : (y : ℕ) (a : Bool) → nat_eq y x ≡ a → lives (cond a new (t.circuit_at y)).end ≡ lives (t.circuit_at y).end
    live y true q = ap (λ z. lives (t.circuit_at z).end) (sym (eqb-true y x q))
    live y false q = refl

    face : (y : ℕ) (a : Bool) → nat_eq y x ≡ a → Face (t.circuit_at y) (cond a new (t.circuit_at y))
    face y true q = subst (λ z. Face (t.circuit_at z) new) (sym (eqb-true y x q)) (record { address = refl; running = refl; peer = refl; link = refl; heard_run = refl })
    face y false q = face_same (t.circuit_at y)

    sessions : (y : ℕ) (a : Bool) → nat_eq y x ≡ a → Took (sess t y) (cond a new (t.circuit_at y)).end.half.sessions
    sessions y true q = subst (λ z. Took (sess t z) (call (sess t x) c)) (sym (eqb-true y x q)) h
    sessions y false q = took_same (sess t y)

    go : (l : Bool) → TookTable t (cond {A = Acts.Acted} l (steps_at b t x s) (idle t)).table
    go true = record { drawn = λ y l. l; face = λ y l. face y (nat_eq y x) refl; live = λ y l. live y (nat_eq y x) refl; sessions = λ y l. sessions y (nat_eq y x) refl }
    go false = table_took t

call_took : (u : Setup) (t : Table) (address now : ℕ) → TookTable t (call_at u t address now).table
call_took u t address now = record {
  drawn = drawn_behind t.first t.drawn;
  face = λ x l. subst (λ z. Face (t.circuit_at x) z) (sym (old x l)) (face_same (t.circuit_at x));
  live = λ x l. ap (λ (z : CircuitEntry). lives z.end) (old x l);
  sessions = λ x l. subst (λ (z : CircuitEntry). Took (sess t x) z.end.half.sessions) (sym (old x l)) (took_same (sess t x));
}
  where
    old : (x : ℕ) → is_drawn t x ≡ true → (call_at u t address now).table.circuit_at x ≡ t.circuit_at x
    old x l = upd_other t.circuit_at (next_id t) (record { address = address; end = (Acts.called u now).end }) x (drawn_apart t.first t.drawn x l)

-- opening a session

pub opens_took : (config : ServerConfig) (line address : ℕ) (node service : Name) (key : Option Key) (request : Option ℕ) (c : Core) → TookCore c (opens config line address node service key request c).core
opens_took config line address node service key request c = go (nat_eq (circuit_to c address) 0)
  where
    named_core : Core
    named_core = record c { names = updated c.names (next_id c.circuits) node }

    made : Doing
    made = acts (server_side config) named_core (call_at (setup_of config.timing) named_core.circuits address named_core.moment)

    after : Doing → Core
    after d = (connects_on config line (circuit_to d.core address) service key request d.core).core

    connects : (d : Core) (x : ℕ) → TookCore d (connects_on config line x service key request d).core
    connects d x = record {
      table = local_took true d.circuits x (Connect service request) (connect_took (sess d.circuits x) service request);
      seats = λ s i. is_more s _ d.seats i;
    }

    go : (b : Bool) → TookCore c (after (cond b made (rests c)))
    go true = cores_then c made.core (after made) (record { table = call_took (setup_of config.timing) c.circuits address c.moment; seats = λ s i. i }) (connects made.core (circuit_to made.core address))
    go false = connects c (circuit_to c address)

grants_took : (config : ServerConfig) (line : ℕ) (o : Option Name) (g : Option Request) (p : Passing) → TookCore p.state.core (grants_by config line o g p).state.core
grants_took config line None g p = core_took p.state.core
grants_took config line (Some service) None p = core_took p.state.core
grants_took config line (Some service) (Some g) p = opens_took config line g.from g.key.node service (Some g.key) (Some g.key.request) p.state.core

pub pass_took : (config : ServerConfig) (lines : List ℕ) (p : Passing) → TookCore p.state.core (grant_lines config lines p).state.core
pass_took config [] p = core_took p.state.core
pass_took config (line ∷ lines) p = cores_then p.state.core (grant_line config p line).state.core (grant_lines config lines (grant_line config p line)).state.core (grants_took config line (offer_on line config.offers) (grantable p.state line (offer_on line config.offers)) p) (pass_took config lines (grant_line config p line))

-- a Take on a line

said_took : (c : Core) (b : Bool) (x y : Said) → TookCore c x.core → TookCore c y.core → TookCore c (cond b x y).core
said_took c true x y p q = p
said_took c false x y p q = q

take_on_took : (k : Side) (c : Core) (s : Seat) (n : ℕ) → TookCore c (take_on k c s n).core
take_on_took k c s n = said_took c (take_open (session_of c s)) (says (calls_on k c s (Take s.id n)) _) (says c Closed) (record { table = local_took k.server c.circuits s.circuit (Take s.id n) (take_took (sess c.circuits s.circuit) s.id n); seats = λ t i. i }) (core_took c)

pub line_took : (k : Side) (lines : ℕ) (c : Core) (line n : ℕ) → TookCore c (on_line lines c line (λ s. take_on k c s n)).core
line_took k lines c line n = said_took c (line_exists lines line) (cond (has_session c line) (take_on k c (seat_at c line) n) (says c Closed)) (says c NoLine) (said_took c (has_session c line) (take_on k c (seat_at c line) n) (says c Closed) (take_on_took k c (seat_at c line) n) (core_took c)) (core_took c)
