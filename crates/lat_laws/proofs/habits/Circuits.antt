-- What every event leaves of the circuits that live: a new one is made only where none has its address, or its address and
-- its peer's id.
use Rattle.std.proofs.Common.{◌≡◌, ℕ, refl, sym, ap, ap₂, ◌∙◌, Bool, true, false, not, cond, ◌&&◌, ◌||◌, List, [], ◌∷◌, Option, nat_eq, nat_lt, eqb-true, eq-eqb}
use Rattle.std.proofs.lemmas.Bool.{and_parts, true≢false, eqb-false}
use Rattle.lat_model.specs.sessions.Slots.{Slot}
use Rattle.lat_model.specs.sessions.Calls.{Call, Connect, Answer, RejectAsk}
use Rattle.lat_model.specs.Lists.{updated}
use Rattle.lat_model.specs.ends.End.{End, Step, lives, call_end, finish, lapse}
use Rattle.lat_model.specs.ends.Timers.{note_empty, time_step}
use Rattle.lat_model.specs.ends.Run.{run_end}
use Rattle.lat_model.specs.ends.Starting.{Agreed, Setup, make_slave, again_start, hear_reply, hear_stop}
use Rattle.lat_model.specs.circuits.World.{CircuitEntry, Table, first_end}
use Rattle.lat_model.specs.circuits.Arriving.{is_of, living, slave_of}
use Rattle.lat_model.proofs.circuits.Kin.{Kin, kin_time, kin_run, kin_again, kin_stop, kin_finish}
use Rattle.lat_model.proofs.circuits.Begins.{kin_call}
use Rattle.lat_model.specs.circuits.Ids.{next_id, ids}
use Rattle.lat_machines.specs.values.Names.{Name}
use Rattle.lat_machines.specs.values.Messages.{Head}
use Rattle.lat_machines.specs.values.Keys.{Key}
use Rattle.lat_machines.specs.values.Events.{Numbers, Event, Hears, Time, Connects, Puts, Sets, Takes, Attends, Closes, Requests, Withdraws, Announces, Avoids, Readies, Halts}
use Rattle.lat_machines.specs.values.Answers.{Again, Running, Ended}
use Rattle.lat_machines.specs.cores.Acts.{Acted, idle, steps_at, call_at, called, local_at, time_at, move_at, end_at}
use Rattle.lat_machines.specs.cores.Hearing.{HeardAct, foreign, names, fits_kind, numbers_at, run_frame, run_at, hear_run, hear_stop_at, hear_reply_at, start_at, Repeats, Makes, Refuses, start_fact, follows, is_outlived, outlive_at}
use Rattle.lat_machines.specs.cores.Cores.{Core, Side, Doing, rests, acts, setup_of, circuit_to}
use Rattle.lat_machines.specs.server.Server.{ServerConfig, Server, server_side, open_server, connects_on, opens, server_step}
use Rattle.lat_machines.specs.node.Node.{NodeConfig, Node, node_side, open_node, node_step}
use Rattle.lat_machines.specs.world.Histories.{server_run, RatedEvent, node_run}
use Rattle.lat_machines.proofs.queue.Rooms.{test_of, least_true}
use Rattle.lat_laws.proofs.rounds.counting.Cores.{EventAllows}
use Rattle.lat_laws.proofs.tales.steps.Walk.{Acts, ServerActs, NodeActs, server_keeps, node_keeps}
use Rattle.lat_laws.specs.habits.Living.{ServerCircuitsApart, NodeCircuitsApart}
use Rattle.lat_laws.proofs.habits.Lone.{Lone, lone_steps, lone_makes, least_none}

-- acts, of a key that they keep

-- what tells circuits apart stays where the peer's id does
abbrev Steady : {K : Type 0} → (CircuitEntry → K) → Type 0
Steady key = (address : ℕ) (e : End) (s : Step) → Kin e s.end → key (record { address = address; end = (note_empty e s).end }) ≡ key (record { address = address; end = e })

act_cond : {K : Type 0} (key : CircuitEntry → K) (n : Bool) (a b : Acted) → (n ≡ true → Lone key a.table) → (n ≡ false → Lone key b.table) → Lone key (cond n a b).table
act_cond key true a b p q = p refl
act_cond key false a b p q = q refl

heard_cond : {K : Type 0} (key : CircuitEntry → K) (n : Bool) (a b : HeardAct) → (n ≡ true → Lone key a.act.table) → (n ≡ false → Lone key b.act.table) → Lone key (cond n a b).act.table
heard_cond key true a b p q = p refl
heard_cond key false a b p q = q refl

module _ {K : Type 0} (key : CircuitEntry → K) (steady : Steady key) (b : Bool) (t : Table) (h : Lone key t) where
  at_living : (x : ℕ) (s : Step) → lives (t.circuit_at x).end ≡ true → Kin (t.circuit_at x).end s.end → Lone key (steps_at b t x s).table
  at_living x s l k = lone_steps key b t x s h l (steady (t.circuit_at x).address (t.circuit_at x).end s k)

  local_lone : (x : ℕ) (c : Call) → Lone key (local_at b t x c).table
  local_lone x c =
      let s : Step = record { end = call_end c (t.circuit_at x).end; sent = [] } in
      act_cond key (lives (t.circuit_at x).end) (steps_at b t x s) (idle t) (λ i. at_living x s i (kin_call c (t.circuit_at x).end)) (λ i. h)

  time_lone : (x now : ℕ) → Lone key (time_at b t x now).table
  time_lone x now = act_cond key (lives (t.circuit_at x).end) (steps_at b t x (time_step now (t.circuit_at x).end)) (idle t) (λ i. at_living x (time_step now (t.circuit_at x).end) i (kin_time now (t.circuit_at x).end)) (λ i. h)

  end_lone : (x r : ℕ) → Lone key (end_at b t x r).table
  end_lone x r = act_cond key (lives (t.circuit_at x).end) (steps_at b t x (finish r (t.circuit_at x).end)) (idle t) (λ i. at_living x (finish r (t.circuit_at x).end) i (kin_finish r (t.circuit_at x).end)) (λ i. h)

  move_lone : (x now : ℕ) → Lone key (move_at b t x now).table
  move_lone x now =
      let s : Step = record { end = record ((t.circuit_at x).end) { moment = now }; sent = [] } in
      act_cond key (lives (t.circuit_at x).end) (steps_at b t x s) (idle t) (λ i. at_living x s i (record { peer = refl; running = refl; master = refl; window = refl; wide = refl; sessions = refl })) (λ i. h)

  run_lone : (from : ℕ) (wide : Bool) (m : Head) (slots : List Slot) (k : Option Numbers) (now : ℕ) → Lone key (hear_run b t from wide m slots k now).act.table
  run_lone from wide m slots k now =
      let e : End = (t.circuit_at m.to).end in
      let s : Step = (run_end now m.ask (run_frame (numbers_at e m k) slots) e).step in
      heard_cond key (names t from m.to m.from) (run_at b t m.to (fits_kind e m.master wide) now m.ask (run_frame (numbers_at e m k) slots)) (foreign t)
      (λ i. heard_cond key (fits_kind e m.master wide) _ _
      (λ j. at_living m.to s (and_parts (is_of (t.circuit_at m.to) from m.from) (lives e) (and_parts (is_of (t.circuit_at m.to) from m.from && lives e) e.running i).0).1 (kin_run now m.ask (run_frame (numbers_at e m k) slots) e))
      (λ j. move_lone m.to now))
      (λ i. h)

  stop_lone : (from to source now reason : ℕ) → Lone key (hear_stop_at b t from to source now reason).act.table
  stop_lone from to source now reason =
      let c : CircuitEntry = t.circuit_at to in
      heard_cond key (nat_eq c.address from && (nat_eq c.end.peer source || nat_eq source 0) && lives c.end) (record { act = steps_at b t to (hear_stop now reason c.end); answer = Ended reason }) (foreign t)
      (λ i. at_living to (hear_stop now reason c.end) (and_parts (nat_eq c.address from && (nat_eq c.end.peer source || nat_eq source 0)) (lives c.end) i).1 (kin_stop now reason c.end)) (λ i. h)

lone_acts : {K : Type 0} (key : CircuitEntry → K) → Steady key → (k : Side) → Acts k (λ y. Unit {0}) (λ c. Lone key c.circuits)
lone_acts key steady k = record {
  moment = λ c now h. h;
  renames = λ c ns h. h;
  calls = λ c x y a h. local_lone key steady k.server c.circuits h x y;
  times = λ c x h. time_lone key steady k.server c.circuits h x c.moment;
  ends = λ c x r h. end_lone key steady k.server c.circuits h x r;
  runs = λ c from wide m slots n h. run_lone key steady k.server c.circuits h from wide m slots n c.moment;
  stops = λ c from to source reason h. stop_lone key steady k.server c.circuits h from to source c.moment reason;
}

pub any_allowed : (e : Event) → EventAllows (λ y. Unit {0}) e
any_allowed (Hears from payload k now) = tt
any_allowed (Time now) = tt
any_allowed (Connects line service) = tt
any_allowed (Puts line bytes) = λ id. tt
any_allowed (Sets line setting) = λ id. tt
any_allowed (Takes line n) = λ id. tt
any_allowed (Attends line flag) = λ id. tt
any_allowed (Closes line) = λ id. tt
any_allowed (Requests to id service) = tt
any_allowed (Withdraws id) = tt
any_allowed Announces = tt
any_allowed (Avoids line) = tt
any_allowed (Readies line ready) = tt
any_allowed Halts = tt

-- the server: by addresses

abbrev pub by_address : CircuitEntry → ℕ
by_address z = z.address

steady_address : Steady by_address
steady_address address e s k = refl

reply_lone : (t : Table) (from to source now : ℕ) (g : Agreed) → Lone by_address t → Lone by_address (hear_reply_at t from to source now g).act.table
reply_lone t from to source now g h =
    let c : CircuitEntry = t.circuit_at to in
    heard_cond by_address (nat_eq c.address from && lives c.end && (not c.end.running || nat_eq c.end.peer source)) (record { act = steps_at true t to (hear_reply now source g c.end); answer = cond c.end.running Again Running }) (foreign t)
    (λ i. lone_steps by_address true t to (hear_reply now source g c.end) h (and_parts (nat_eq c.address from) (lives c.end) (and_parts (nat_eq c.address from && lives c.end) (not c.end.running || nat_eq c.end.peer source) i).0).1 refl) (λ i. h)

-- a call, where no circuit to the address lives
call_lone : (u : Setup) (c : Core) (address now : ℕ) → Lone by_address c.circuits → circuit_to c address ≡ 0 → Lone by_address (call_at u c.circuits address now).table
call_lone u c address now h q = lone_makes by_address true c.circuits address (called u now) h (λ i b l e. true≢false (sym (ap₂ (λ m n. m && n) (eq-eqb (c.circuits.circuit_at i).address address e) l) ∙ least_none (test_of c.circuits address) c.circuits q i b))

opens_lone : (config : ServerConfig) (line address : ℕ) (node service : Name) (key : Option Key) (request : Option ℕ) (c : Core) → Lone by_address c.circuits → Lone by_address (opens config line address node service key request c).core.circuits
opens_lone config line address node service key request c h = go (nat_eq (circuit_to c address) 0) refl
  where
    named : Core
    named = record c { names = updated c.names (next_id c.circuits) node }

    made : Doing
    made = acts (server_side config) named (call_at (setup_of config.timing) named.circuits address named.moment)

    after : Doing → Core
    after d = (connects_on config line (circuit_to d.core address) service key request d.core).core

    go : (n : Bool) → nat_eq (circuit_to c address) 0 ≡ n → Lone by_address (after (cond n made (rests c))).circuits
    go true q = local_lone by_address steady_address true made.core.circuits (call_lone (setup_of config.timing) c address c.moment h (eqb-true (circuit_to c address) 0 q)) (circuit_to made.core address) (Connect service request)
    go false q = local_lone by_address steady_address true c.circuits h (circuit_to c address) (Connect service request)

abbrev LoneCore : {K : Type 0} → (CircuitEntry → K) → Core → Type 0
LoneCore key c = Lone key c.circuits

server_acts : (config : ServerConfig) → ServerActs config (λ y. Unit {0}) (LoneCore by_address) (LoneCore by_address) (Unit {0})
server_acts config = record {
  acts = lone_acts by_address steady_address (server_side config);
  replies = λ c from to source g h. reply_lone c.circuits from to source c.moment g h;
  done = λ c h. h;
  opens = λ o line address node service key request c can ex free h. opens_lone config line address node service key request c h;
}

pub server_lone : (config : ServerConfig) (es : List Event) (st : Server) → LoneCore by_address st.core → LoneCore by_address (server_run config es st).core
server_lone config [] st h = h
server_lone config (e ∷ es) st h = server_lone config es (server_step config st e).state (server_keeps config (λ y. Unit {0}) (LoneCore by_address) (LoneCore by_address) (Unit {0}) (server_acts config) st e (λ q. tt) (λ q. tt) (any_allowed e) h)

pub none_yet : {K : Type 0} (key : CircuitEntry → K) (t : Table) → ((k : ℕ) → lives (t.circuit_at k).end ≡ false) → Lone key t
none_yet key t n = record { new = λ k d. n k; one = λ x y a b e. absurd (true≢false (sym a ∙ n x)) }

pub server_found : (config : ServerConfig) (es : List Event) → Lone by_address (server_run config es (open_server config)).core.circuits
server_found config es = server_lone config es (open_server config) (none_yet by_address (open_server config).core.circuits (λ k. refl))

pub server_apart : ServerCircuitsApart
server_apart config es = (server_found config es).one

-- the node: by addresses and ids

abbrev pub by_peer : CircuitEntry → ℕ × ℕ
by_peer z = (z.address, z.end.peer)

steady_peer : Steady by_peer
steady_peer address e s k = ap (λ n. (address, n)) k.peer

start_lone : (u : Setup) (t : Table) (from source now : ℕ) (g : Agreed) → Lone by_peer t → Lone by_peer (start_at u t from source now g (start_fact t from source)).table
start_lone u t from source now g h = go (nat_eq (slave_of t from source) 0) refl (nat_lt (living t) 8 && nat_lt t.drawn 65535)
  where
    test : ℕ → Bool
    test i = is_of (t.circuit_at i) from source && lives (t.circuit_at i).end

    is_it : (i : ℕ) → by_peer (t.circuit_at i) ≡ (from, source) → is_of (t.circuit_at i) from source ≡ true
    is_it i e = ap₂ (λ m n. m && n) (eq-eqb (t.circuit_at i).address from (ap (λ (z : ℕ × ℕ). z.0) e)) (eq-eqb (t.circuit_at i).end.peer source (ap (λ (z : ℕ × ℕ). z.1) e))

    go : (a : Bool) → nat_eq (slave_of t from source) 0 ≡ a → (m : Bool) → Lone by_peer (start_at u t from source now g (cond a (cond m (Makes (next_id t)) Refuses) (Repeats (slave_of t from source)))).table
    go true q true = lone_makes by_peer false t from (make_slave now source g (first_end false false u)) h (λ i b l e. true≢false (sym (ap₂ (λ m n. m && n) (is_it i e) l) ∙ least_none test t (eqb-true (slave_of t from source) 0 q) i b))
    go true q false = h
    go false q m =
        let k : ℕ = slave_of t from source in
        at_living by_peer steady_peer false t h k (again_start now (t.circuit_at k).end) (and_parts (is_of (t.circuit_at k) from source) (lives (t.circuit_at k).end) (least_true test (ids t) (eqb-false k 0 q))).1 (kin_again now (t.circuit_at k).end)

outlive_lone : (t : Table) (from source x : ℕ) → Lone by_peer t → Lone by_peer (outlive_at from source x t)
outlive_lone t from source x h = go (is_outlived c from source) refl
  where
    c : CircuitEntry
    c = t.circuit_at x

    go : (n : Bool) → is_outlived c from source ≡ n → Lone by_peer (cond n (steps_at false t x (lapse 5 c.end)).table t)
    go true i = lone_steps by_peer false t x (lapse 5 c.end) h (and_parts (nat_eq c.address from && follows c.end.peer source) (lives c.end) i).1 refl
    go false i = h

node_acts : (config : NodeConfig) → NodeActs config (λ y. Unit {0}) (LoneCore by_peer) (LoneCore by_peer) (Unit {0})
node_acts config = record {
  acts = lone_acts by_peer steady_peer (node_side config);
  starts = λ o c from source g h. start_lone (setup_of config.timing) c.circuits from source c.moment g h;
  lapses = λ c from source x h. outlive_lone c.circuits from source x h;
  done = λ c h. h;
  accepts = λ st x id line request service w v l ex free h. local_lone by_peer steady_peer false st.core.circuits h x (Answer id);
  refuses = λ c x id reason h. local_lone by_peer steady_peer false c.circuits h x (RejectAsk id reason);
}

pub node_lone : (config : NodeConfig) (es : List RatedEvent) (st : Node) → LoneCore by_peer st.core → LoneCore by_peer (node_run config es st).core
node_lone config [] st h = h
node_lone config (e ∷ es) st h = node_lone config es (node_step config e.rates st e.event).state (node_keeps config (λ y. Unit {0}) (LoneCore by_peer) (LoneCore by_peer) (Unit {0}) (node_acts config) e.rates st e.event (λ q. tt) (any_allowed e.event) h)

pub node_found : (config : NodeConfig) (es : List RatedEvent) → Lone by_peer (node_run config es (open_node config)).core.circuits
node_found config es = node_lone config es (open_node config) (none_yet by_peer (open_node config).core.circuits (λ k. refl))

pub node_apart : NodeCircuitsApart
node_apart config es x y a b p q = (node_found config es).one x y a b (ap₂ (λ m n. (m, n)) p q)
