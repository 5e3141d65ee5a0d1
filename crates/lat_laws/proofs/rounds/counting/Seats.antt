-- In every run of the two machines each session that a server made has its seat, and each that a node accepted.
use Rattle.std.proofs.Common.{◌≡◌, ◌≢◌, ℕ, suc, ◌<◌, ◌≤◌, ◌⊎◌, inl, inr, ⊎_elim, refl, sym, ap, ◌∙◌, subst, arith, Bool, true, false, not, cond, ◌&&◌, ◌||◌, List, [], ◌∷◌, ◌++◌, Option, Some, None, nat_eq, nat_lt, eqb-true, eq-eqb, slice_get}
use Rattle.std.proofs.lemmas.Bool.{true≢false, or_left, or_right, cases_lt, false≢true}
use Rattle.lat_model.specs.sessions.Session.{waits}
use Rattle.lat_model.specs.sessions.Sessions.{Sessions, named, held, least_free}
use Rattle.lat_model.specs.sessions.Calls.{Connect, Answer, call, connect, answer}
use Rattle.lat_model.specs.ends.End.{lives, call_end}
use Rattle.lat_model.specs.circuits.World.{CircuitEntry, Table}
use Rattle.lat_machines.specs.values.Names.{Name}
use Rattle.lat_machines.specs.values.Keys.{Key}
use Rattle.lat_machines.specs.values.Events.{Event, Hears, Time, Connects, Puts, Sets, Takes, Attends, Closes, Requests, Withdraws, Announces, is_heard, Avoids, Readies, Halts}
use Rattle.lat_machines.specs.cores.Acts.{idle, steps_at, local_at}
use Rattle.lat_machines.specs.cores.Cores.{Seat, Core}
use Rattle.lat_machines.specs.server.Server.{ServerConfig, connects_on}
use Rattle.lat_machines.specs.node.Node.{NodeConfig, Node, Accepts, judged, asked_at, local_call}
use Rattle.lat_machines.specs.world.Machines.{Setups, Posted, Machines, Move, Does, HearsFrame, HearsForeign, tell, is_for_other, heard_as, marked_delivered, counted, comes, is_own, happens, run, open_machines}
use Rattle.lat_laws.specs.rounds.Lossless.{is_in}
use Rattle.lat_laws.specs.rounds.Counting.{sessions_in, serials_on, ServerSeated, NodeSeated, Unseen}
use Rattle.lat_laws.proofs.rounds.counting.Tables.{Holds}
use Rattle.lat_laws.proofs.rounds.counting.Cores.{EventAllows}
use Rattle.lat_laws.proofs.rounds.counting.Servers.{server_holds}
use Rattle.lat_laws.proofs.rounds.counting.Nodes.{node_holds}
use Rattle.lat_laws.proofs.rounds.counting.Seated.{Makes, makes_kept, NoConnect, makes_call, Hides, hides_kept, NoAnswer, hides_call}

-- one seat more

old_seat : (x k : ℕ) (ss : List Seat) (s : Seat) → is_in k (serials_on x ss) ≡ true → is_in k (serials_on x (ss ++ s ∷ [])) ≡ true
old_seat x k [] s h = absurd (true≢false (sym h))
old_seat x k (t ∷ ss) s h = go (nat_eq t.circuit x) h (old_seat x k ss s)
  where
    at : (b : Bool) → (b || is_in k (serials_on x ss)) ≡ true → (is_in k (serials_on x ss) ≡ true → is_in k (serials_on x (ss ++ s ∷ [])) ≡ true) → (b || is_in k (serials_on x (ss ++ s ∷ []))) ≡ true
    at true h ih = refl
    at false h ih = ih h

    go : (b : Bool) → is_in k (cond b (t.serial ∷ serials_on x ss) (serials_on x ss)) ≡ true → (is_in k (serials_on x ss) ≡ true → is_in k (serials_on x (ss ++ s ∷ [])) ≡ true) → is_in k (cond b (t.serial ∷ serials_on x (ss ++ s ∷ [])) (serials_on x (ss ++ s ∷ []))) ≡ true
    go true h ih = at (nat_eq k t.serial) h ih
    go false h ih = ih h

new_seat : (x k : ℕ) (ss : List Seat) (s : Seat) → s.circuit ≡ x → s.serial ≡ k → is_in k (serials_on x (ss ++ s ∷ [])) ≡ true
new_seat x k [] s c n = go (nat_eq s.circuit x) (eq-eqb s.circuit x c)
  where
    go : (b : Bool) → b ≡ true → is_in k (cond b (s.serial ∷ []) []) ≡ true
    go true q = or_left (nat_eq k s.serial) false (eq-eqb k s.serial (sym n))
    go false q = absurd (true≢false (sym q))
new_seat x k (t ∷ ss) s c n = go (nat_eq t.circuit x) (new_seat x k ss s c n)
  where
    go : (b : Bool) → is_in k (serials_on x (ss ++ s ∷ [])) ≡ true → is_in k (cond b (t.serial ∷ serials_on x (ss ++ s ∷ [])) (serials_on x (ss ++ s ∷ []))) ≡ true
    go true h = or_right (nat_eq k t.serial) (is_in k (serials_on x (ss ++ s ∷ []))) h
    go false h = h

no_old : (x k : ℕ) (ss : List Seat) (s : Seat) → is_in k (serials_on x (ss ++ s ∷ [])) ≡ false → is_in k (serials_on x ss) ≡ false
no_old x k ss s h = go (is_in k (serials_on x ss)) refl
  where
    go : (b : Bool) → is_in k (serials_on x ss) ≡ b → is_in k (serials_on x ss) ≡ false
    go true q = absurd (true≢false (sym (old_seat x k ss s q) ∙ h))
    go false q = q

-- at a server

pub record ServerGood (c : Core) : Type 0 where
  pub masters : (x : ℕ) → (sessions_in c x).master ≡ true
  pub seated : ServerSeated c

server_all : Holds (λ x. false) true (λ x. Makes) NoConnect ServerGood
server_all = record {
  kept = makes_kept;
  calls = λ x. makes_call;
  drawn = λ c p x l. absurd (false≢true l);
  turns = λ c d p s t. record {
    masters = λ x. (t.at x).master (p.masters x);
    seated = λ x k l m. ap (λ ss. is_in k (serials_on x ss)) s ∙ p.seated x k l (omega (arith, m, (t.at x).made (p.masters x)));
  };
}

-- a session is made, or none
pub record Connected (e : Sessions) (f : Sessions) : Type 0 where
  pub master : f.master ≡ e.master
  pub made : f.made ≤ suc e.made

connected : (b : Bool) (e : Sessions) (service : List ℕ) (request : Option ℕ) → Connected e (cond b (connect e service request) e)
connected true e service request = record { master = refl; made = omega arith }
connected false e service request = record { master = refl; made = omega arith }

connects_good : (config : ServerConfig) (line x : ℕ) (service : Name) (key : Option Key) (request : Option ℕ) (c : Core) → ServerGood c → ServerGood (connects_on config line x service key request c).core
connects_good config line x service key request c p = record { masters = λ y. (at y).0; seated = λ y k l m. seat y k l m }
  where
    e : Sessions
    e = sessions_in c x

    s : Seat
    s = record { line = line; circuit = x; id = least_free e; serial = suc e.made; key = key }

    t : Table
    t = (local_at true c.circuits x (Connect service request)).table

    o : Connected e (call e (Connect service request))
    o = connected (e.master && nat_lt (held e) e.agreed) e service request

    At : ℕ → Sessions → Type 0
    At y f = (f.master ≡ true) × ((f.made ≤ (sessions_in c y).made) ⊎ ((y ≡ x) × (f.made ≤ suc e.made)))

    at : (y : ℕ) → At y (t.circuit_at y).end.half.sessions
    at y = go (lives (c.circuits.circuit_at x).end)
      where
        old : At y (sessions_in c y)
        old = (p.masters y, inl (omega arith))

        by : (d : Bool) → nat_eq y x ≡ d → (v : CircuitEntry) → v.end.half.sessions ≡ call e (Connect service request) → At y (cond d v (c.circuits.circuit_at y)).end.half.sessions
        by true q v w = subst (At y) (sym w) (o.master ∙ p.masters x, inr (eqb-true y x q, o.made))
        by false q v w = old

        go : (b : Bool) → At y ((cond b (steps_at true c.circuits x (record { end = call_end (Connect service request) (c.circuits.circuit_at x).end; sent = [] })) (idle c.circuits)).table.circuit_at y).end.half.sessions
        go true = by (nat_eq y x) refl _ refl
        go false = old

    seat : (y k : ℕ) → 0 < k → k ≤ (t.circuit_at y).end.half.sessions.made → is_in k (serials_on y (c.seats ++ s ∷ [])) ≡ true
    seat y k l m = ⊎_elim {C = is_in k (serials_on y (c.seats ++ s ∷ [])) ≡ true}
        (λ h. old_seat y k c.seats s (p.seated y k l (omega (arith, m, h))))
        (λ h. ⊎_elim {C = is_in k (serials_on y (c.seats ++ s ∷ [])) ≡ true}
        (λ w. old_seat y k c.seats s (p.seated y k l (let z : (sessions_in c y).made ≡ e.made = ap (λ i. (sessions_in c i).made) h.0 in omega (arith, w, z))))
        (λ w. new_seat y k c.seats s (sym h.0) (omega (arith, w, m, h.1)))
        (cases_lt k (suc e.made)))
        (at y).1

-- at a node

node_all : Holds (λ x. false) false (λ x. Hides) NoAnswer NodeSeated
node_all = record {
  kept = hides_kept;
  calls = λ x. hides_call;
  drawn = λ c p x l. absurd (false≢true l);
  turns = λ c d p s t x k n. t.at x k (p x k (ap (λ ss. is_in k (serials_on x ss)) (sym s) ∙ n));
}

answered_ids : (b : Bool) (e : Sessions) (id : ℕ) → (cond b (answer e id) e).at_id id ≡ e.at_id id
answered_ids true e id = refl
answered_ids false e id = refl

answered_other : (b : Bool) (e : Sessions) (id k : ℕ) → k ≢ e.at_id id → Unseen (e.session k) → Unseen ((cond b (answer e id) e).session k)
answered_other false e id k n u = u
answered_other true e id k n u = go (nat_eq k (e.at_id id)) refl
  where
    go : (b : Bool) → nat_eq k (e.at_id id) ≡ b → Unseen (cond b (record (named e id) { accepted = true }) (e.session k))
    go true q = absurd (n (eqb-true k (e.at_id id) q))
    go false q = u

accepts_good : (config : NodeConfig) (st : Node) (x id line : ℕ) (request : Option ℕ) → waits (asked_at st x id) ≡ true → NodeSeated st.core → NodeSeated (judged config st x id request (Accepts line)).core
accepts_good config st x id line request w p y k n = go (lives (c.circuits.circuit_at x).end) refl
  where
    c : Core
    c = st.core

    d : Core
    d = local_call config x (Answer id) c

    s : Seat
    s = record { line = line; circuit = x; id = id; serial = (d.circuits.circuit_at x).end.half.sessions.at_id id; key = None }

    e : Sessions
    e = sessions_in c x

    f : Sessions
    f = call e (Answer id)

    before : Unseen ((sessions_in c y).session k)
    before = p y k (no_old y k c.seats s n)

    -- the ids are as they were
    ids : (b : Bool) → ((cond b (steps_at false c.circuits x (record { end = call_end (Answer id) (c.circuits.circuit_at x).end; sent = [] })) (idle c.circuits)).table.circuit_at x).end.half.sessions.at_id id ≡ e.at_id id
    ids true = here (nat_eq x x) (eq-eqb x x refl) _ refl
      where
        here : (b : Bool) → b ≡ true → (v : CircuitEntry) → v.end.half.sessions ≡ f → (cond b v (c.circuits.circuit_at x)).end.half.sessions.at_id id ≡ e.at_id id
        here true q v z = ap (λ (i : Sessions). i.at_id id) z ∙ answered_ids (not e.master && waits (named e id)) e id
        here false q v z = absurd (true≢false (sym q))
    ids false = refl

    other : y ≡ x → k ≢ e.at_id id
    other q r = true≢false (sym (new_seat y k c.seats s (sym q) (ids (lives (c.circuits.circuit_at x).end) ∙ sym r)) ∙ n)

    go : (b : Bool) → lives (c.circuits.circuit_at x).end ≡ b → Unseen (((cond b (steps_at false c.circuits x (record { end = call_end (Answer id) (c.circuits.circuit_at x).end; sent = [] })) (idle c.circuits)).table.circuit_at y).end.half.sessions.session k)
    go false l = before
    go true l = by (nat_eq y x) refl _ refl
      where
        by : (b : Bool) → nat_eq y x ≡ b → (v : CircuitEntry) → v.end.half.sessions ≡ f → Unseen ((cond b v (c.circuits.circuit_at y)).end.half.sessions.session k)
        by true q v z = subst (λ (i : Sessions). Unseen (i.session k)) (sym z) (answered_other (not e.master && waits (named e id)) e id k (other (eqb-true y x q)) (subst (λ i. Unseen ((sessions_in c i).session k)) (eqb-true y x q) before))
        by false q v z = before

-- every event

any_connect : (e : Event) → EventAllows NoConnect e
any_connect (Hears from payload k now) = tt
any_connect (Time now) = tt
any_connect (Connects line service) = tt
any_connect (Puts line bytes) = λ id. tt
any_connect (Sets line setting) = λ id. tt
any_connect (Takes line n) = λ id. tt
any_connect (Attends line flag) = λ id. tt
any_connect (Closes line) = λ id. tt
any_connect (Requests to id service) = tt
any_connect (Withdraws id) = tt
any_connect Announces = tt
any_connect (Avoids line) = tt
any_connect (Readies line ready) = tt
any_connect Halts = tt

any_answer : (e : Event) → EventAllows NoAnswer e
any_answer (Hears from payload k now) = tt
any_answer (Time now) = tt
any_answer (Connects line service) = tt
any_answer (Puts line bytes) = λ id. tt
any_answer (Sets line setting) = λ id. tt
any_answer (Takes line n) = λ id. tt
any_answer (Attends line flag) = λ id. tt
any_answer (Closes line) = λ id. tt
any_answer (Requests to id service) = tt
any_answer (Withdraws id) = tt
any_answer Announces = tt
any_answer (Avoids line) = tt
any_answer (Readies line ready) = tt
any_answer Halts = tt

pub record AllSeated (w : Machines) : Type 0 where
  pub server : ServerGood w.server.core
  pub node : NodeSeated w.node.core

tell_seated : (u : Setups) (w : Machines) (b : Bool) (e : Event) (rates : List ℕ) → AllSeated w → AllSeated (tell u w b e rates)
tell_seated u w true e rates a = record { server = server_holds (λ z. false) (λ x. Makes) NoConnect ServerGood server_all u.server (connects_good u.server) w.server e (any_connect e) a.server; node = a.node }
tell_seated u w false e rates a = record { server = a.server; node = node_holds (λ z. false) (λ x. Hides) NoAnswer NodeSeated node_all u.node (λ st x id line request q p. accepts_good u.node st x id line request q p) (λ id reason. tt) rates w.node e (any_answer e) a.node }

pub seated_cond : (b : Bool) (w v : Machines) → AllSeated w → AllSeated v → AllSeated (cond b w v)
seated_cond true w v p q = p
seated_cond false w v p q = q

pub happens_seated : (u : Setups) (w : Machines) (m : Move) → AllSeated w → AllSeated (happens u w m)
happens_seated u w (Does b e rates) a = seated_cond (is_heard e) w (tell u w b e rates) a (tell_seated u w b e rates a)
happens_seated u w (HearsForeign b from payload now rates) a = seated_cond (is_own u from) w (tell u w b (Hears from payload None now) rates) a (tell_seated u w b (Hears from payload None now) rates a)
happens_seated u w (HearsFrame i now rates) a = go (slice_get w.posts i)
  where
    go : (o : Option Posted) → AllSeated (comes u w i now rates o)
    go None = a
    go (Some p) = seated_cond (is_for_other u p) (tell u (marked_delivered i w) (not p.by_server) (heard_as u p now) rates) (counted (marked_delivered i w)) (tell_seated u (marked_delivered i w) (not p.by_server) (heard_as u p now) rates (record { server = a.server; node = a.node })) (record { server = a.server; node = a.node })

runs_seated : (u : Setups) (ms : List Move) (w : Machines) → AllSeated w → AllSeated (run u ms w)
runs_seated u [] w a = a
runs_seated u (m ∷ ms) w a = runs_seated u ms (happens u w m) (happens_seated u w m a)

pub run_seated : (u : Setups) (ms : List Move) → AllSeated (run u ms (open_machines u))
run_seated u ms = runs_seated u ms (open_machines u) (record {
  server = record { masters = λ x. refl; seated = λ x k l m. absurd (omega (arith, l, m)) };
  node = λ x k n. record { accepted = refl; put = refl; taken = refl; closed = refl };
})
