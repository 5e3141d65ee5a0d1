-- What a time event of a core makes of one of its circuits that lives.
use Rattle.std.proofs.Common.{◌≡◌, ◌≢◌, ℕ, ◌<◌, ◌≤◌, arith, refl, sym, ap, ◌∙◌, Bool, true, false, cond, List, [], ◌∷◌, max, inl, inr}
use Rattle.lat_model.specs.Lists.{upwards, Each}
use Rattle.lat_model.specs.ends.End.{End, lives}
use Rattle.lat_model.specs.ends.Timers.{note_empty, time_step}
use Rattle.lat_model.specs.circuits.World.{CircuitEntry, Table}
use Rattle.lat_model.proofs.sessions.Words.{upd_same, upd_other}
use Rattle.lat_model.proofs.circuits.IdLists.{id_once, Once}
use Rattle.lat_model.specs.circuits.Ids.{is_drawn, IdsStay, ids}
use Rattle.lat_machines.specs.values.Events.{Time}
use Rattle.lat_machines.specs.cores.Acts.{Acted, idle, steps_at, time_at}
use Rattle.lat_machines.specs.cores.Cores.{Core, Side, Doing, rests, then_doing, acts, at_moment, time_each, passes_time}
use Rattle.lat_machines.specs.server.Server.{server_side, server_event, finished_requests}
use Rattle.lat_machines.specs.node.Node.{node_side}
use Rattle.lat_machines.specs.world.Machines.{Setups, Machines, Does, happens}
use Rattle.lat_machines.specs.world.Home.{Connection, connects_all}
use Rattle.lat_laws.proofs.rounds.shape.Passes.{PassStays, lines_stay}

-- the circuit after its time
abbrev pub timed : ℕ → CircuitEntry → CircuitEntry
timed now c = record { address = c.address; end = (note_empty c.end (time_step now c.end)).end }

pub time_other : (k : Side) (t : Table) (x y now : ℕ) → x ≢ y → (time_at k.server t y now).table.circuit_at x ≡ t.circuit_at x
time_other k t x y now n = go (lives (t.circuit_at y).end)
  where
    go : (b : Bool) → (cond {A = Acted} b (steps_at k.server t y (time_step now (t.circuit_at y).end)) (idle t)).table.circuit_at x ≡ t.circuit_at x
    go true = upd_other t.circuit_at y (timed now (t.circuit_at y)) x n
    go false = refl

time_same : (k : Side) (t : Table) (x now : ℕ) → lives (t.circuit_at x).end ≡ true → (time_at k.server t x now).table.circuit_at x ≡ timed now (t.circuit_at x)
time_same k t x now l = ap (λ b. (cond {A = Acted} b (steps_at k.server t x (time_step now (t.circuit_at x).end)) (idle t)).table.circuit_at x) l ∙ upd_same t.circuit_at x (timed now (t.circuit_at x))

-- one of the circuits' times
abbrev one_time : Side → ℕ → Doing → Doing
one_time k y d = then_doing d (λ c. acts k c (time_at k.server c.circuits y c.moment))

times_other : (k : Side) (xs : List ℕ) (d : Doing) (x : ℕ) → Each (λ y. y ≢ x) xs → (time_each k xs d).core.circuits.circuit_at x ≡ d.core.circuits.circuit_at x
times_other k [] d x l = refl
times_other k (y ∷ xs) d x l = times_other k xs (one_time k y d) x l.1 ∙ time_other k d.core.circuits x y d.core.moment (λ q. l.0 (sym q))

pub times_here : (k : Side) (xs : List ℕ) (d : Doing) (x : ℕ) → Once x xs → lives (d.core.circuits.circuit_at x).end ≡ true → (time_each k xs d).core.circuits.circuit_at x ≡ timed d.core.moment (d.core.circuits.circuit_at x)
times_here k [] d x a l = absurd a
times_here k (y ∷ xs) d x (inl a) l = times_other k xs (one_time k y d) x a.1 ∙ (ap (λ z. (time_at k.server d.core.circuits z d.core.moment).table.circuit_at x) a.0 ∙ time_same k d.core.circuits x d.core.moment l)
times_here k (y ∷ xs) d x (inr a) l =
    let o : (one_time k y d).core.circuits.circuit_at x ≡ d.core.circuits.circuit_at x = time_other k d.core.circuits x y d.core.moment (λ q. a.0 (sym q)) in
    times_here k xs (one_time k y d) x a.1 (ap (λ (z : CircuitEntry). lives z.end) o ∙ l) ∙ ap (timed d.core.moment) o

passes_here : (k : Side) (c : Core) (now x : ℕ) → c.moment ≤ now → 0 < x → is_drawn c.circuits x ≡ true → lives (c.circuits.circuit_at x).end ≡ true → (passes_time k (at_moment now c)).core.circuits.circuit_at x ≡ timed now (c.circuits.circuit_at x)
passes_here k c now x m a b l = times_here k (ids c.circuits) (rests (at_moment now c)) x (id_once c.circuits.first c.circuits.drawn x b) l ∙ ap (λ n. timed n (c.circuits.circuit_at x)) latest
  where
    latest : max c.moment now ≡ now
    latest = omega (arith, m)

-- at the node
pub time_there : (u : Setups) (w : Machines) (now q : ℕ) → w.node.core.moment ≤ now → 0 < q → is_drawn w.node.core.circuits q ≡ true → lives (w.node.core.circuits.circuit_at q).end ≡ true → (happens u w (Does false (Time now) [])).node.core.circuits.circuit_at q ≡ timed now (w.node.core.circuits.circuit_at q)
time_there u w now q m a b l = passes_here (node_side u.node) w.node.core now q m a b l

times_drawn : (k : Side) (xs : List ℕ) (d : Doing) → IdsStay d.core.circuits (time_each k xs d).core.circuits
times_drawn k [] d = λ y l. l
times_drawn k (x ∷ xs) d = λ y l. times_drawn k xs (one_time k x d) y (go (lives (d.core.circuits.circuit_at x).end) y l)
  where
    t : Table
    t = d.core.circuits

    go : (b : Bool) → IdsStay t (cond {A = Acted} b (steps_at k.server t x (time_step d.core.moment (t.circuit_at x).end)) (idle t)).table
    go true = λ y l. l
    go false = λ y l. l

-- at the server, whose grant pass may connect sessions
pub time_here : (u : Setups) (w : Machines) (now p : ℕ) → w.server.core.moment ≤ now → 0 < p → is_drawn w.server.core.circuits p ≡ true → lives (w.server.core.circuits.circuit_at p).end ≡ true → (cs : List Connection) × ((happens u w (Does true (Time now) [])).server.core.circuits.circuit_at p ≡ record { address = (w.server.core.circuits.circuit_at p).address; end = connects_all cs (timed now (w.server.core.circuits.circuit_at p)).end })
time_here u w now p m a b l = (s.circuit.connected, entry)
  where
    c : Core
    c = (passes_time (server_side u.server) (at_moment now w.server.core)).core

    after : CircuitEntry
    after = (happens u w (Does true (Time now) [])).server.core.circuits.circuit_at p

    here : c.circuits.circuit_at p ≡ timed now (w.server.core.circuits.circuit_at p)
    here = passes_here (server_side u.server) w.server.core now p m a b l

    drawn : IdsStay w.server.core.circuits c.circuits
    drawn = times_drawn (server_side u.server) (ids w.server.core.circuits) (rests (at_moment now w.server.core))

    s : PassStays c (happens u w (Does true (Time now) [])).server.core p
    s = lines_stay u.server (upwards 0 u.server.lines) (record { state = finished_requests (server_event u.server w.server (Time now)).state; frames = [] }) p (drawn p b)

    entry : after ≡ record { address = (w.server.core.circuits.circuit_at p).address; end = connects_all s.circuit.connected (timed now (w.server.core.circuits.circuit_at p)).end }
    entry = same after (w.server.core.circuits.circuit_at p).address (connects_all s.circuit.connected (timed now (w.server.core.circuits.circuit_at p)).end) (s.circuit.address ∙ ap (λ (z : CircuitEntry). z.address) here) (s.circuit.end ∙ ap (λ (z : CircuitEntry). connects_all s.circuit.connected z.end) here)
      where
        same : (z : CircuitEntry) (x : ℕ) (e : End) → z.address ≡ x → z.end ≡ e → z ≡ record { address = x; end = e }
        same z x e p q = ap (λ y. record { address = y; end = z.end }) p ∙ ap (λ y. record { address = x; end = y }) q
