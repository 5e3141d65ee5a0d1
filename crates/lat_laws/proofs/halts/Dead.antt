-- Behind a halt no circuit lives: the halt ends each that does, and where none lives no act makes one.
use Rattle.std.proofs.Common.{◌≡◌, ℕ, refl, sym, ap, ◌∙◌, Bool, true, false, not, cond, ◌&&◌, ◌||◌, List, [], ◌∷◌, ◌++◌, Option, nat_eq, eqb-true, inl, inr, eq-eqb}
use Rattle.std.proofs.lemmas.Bool.{true≢false}
use Rattle.lat_model.specs.sessions.Slots.{Slot}
use Rattle.lat_model.specs.sessions.Calls.{Call, Answer, RejectAsk}
use Rattle.lat_model.specs.ends.End.{End, Step, lives, call_end, finish, lapse}
use Rattle.lat_model.specs.ends.Timers.{note_empty, time_step}
use Rattle.lat_model.specs.ends.Starting.{Agreed, hear_reply, hear_stop}
use Rattle.lat_model.specs.circuits.World.{CircuitEntry, Table}
use Rattle.lat_model.specs.circuits.Arriving.{is_of}
use Rattle.lat_model.proofs.circuits.Kin.{and_false, right_false}
use Rattle.lat_model.proofs.circuits.IdLists.{id_once, Once}
use Rattle.lat_model.specs.circuits.Ids.{is_drawn, ids}
use Rattle.lat_machines.specs.values.Messages.{Head}
use Rattle.lat_machines.specs.values.Events.{Numbers, Event, Halts}
use Rattle.lat_machines.specs.values.Answers.{Again, Running, Ended}
use Rattle.lat_machines.specs.cores.Acts.{Acted, idle, steps_at, local_at, time_at, end_at}
use Rattle.lat_machines.specs.cores.Hearing.{HeardAct, foreign, names, fits_kind, numbers_at, run_frame, run_at, hear_run, hear_stop_at, hear_reply_at, follows, is_outlived, outlive_at}
use Rattle.lat_machines.specs.cores.Cores.{Core, Side, Doing, rests, then_doing, acts, end_each, ends_all}
use Rattle.lat_machines.specs.server.Server.{ServerConfig, Server, server_side, open_server, server_step}
use Rattle.lat_machines.specs.node.Node.{NodeConfig, Node, node_side, open_node, node_step}
use Rattle.lat_machines.specs.world.Histories.{server_run, RatedEvent, node_run}
use Rattle.lat_laws.proofs.tales.steps.Walk.{Acts, ServerActs, NodeActs, server_keeps, passed_keeps, node_keeps}
use Rattle.lat_laws.proofs.habits.Lone.{Lone}
use Rattle.lat_laws.proofs.habits.Circuits.{any_allowed, by_address, by_peer, server_found, node_found}
use Rattle.lat_laws.proofs.halts.Stays.{event_halted, step_halted, halt_halts, node_halted}
use Rattle.lat_laws.specs.halts.Dead.{NoneLives, HaltedServerIsDead, HaltedNodeIsDead}

-- acts, where no circuit lives

abbrev TableDead : Table → Type 0
TableDead t = (x : ℕ) → lives (t.circuit_at x).end ≡ false

dead_cond : (n : Bool) (a b : Acted) → n ≡ false → TableDead b.table → TableDead (cond n a b).table
dead_cond true a b q h = absurd (true≢false q)
dead_cond false a b q h = h

heard_cond : (n : Bool) (a b : HeardAct) → n ≡ false → TableDead b.act.table → TableDead (cond n a b).act.table
heard_cond true a b q h = absurd (true≢false q)
heard_cond false a b q h = h

module _ (b : Bool) (t : Table) (h : TableDead t) where
  local_dead : (x : ℕ) (c : Call) → TableDead (local_at b t x c).table
  local_dead x c = dead_cond (lives (t.circuit_at x).end) (steps_at b t x (record { end = call_end c (t.circuit_at x).end; sent = [] })) (idle t) (h x) h

  time_dead : (x now : ℕ) → TableDead (time_at b t x now).table
  time_dead x now = dead_cond (lives (t.circuit_at x).end) (steps_at b t x (time_step now (t.circuit_at x).end)) (idle t) (h x) h

  end_dead : (x r : ℕ) → TableDead (end_at b t x r).table
  end_dead x r = dead_cond (lives (t.circuit_at x).end) (steps_at b t x (finish r (t.circuit_at x).end)) (idle t) (h x) h

  run_dead : (from : ℕ) (wide : Bool) (m : Head) (slots : List Slot) (k : Option Numbers) (now : ℕ) → TableDead (hear_run b t from wide m slots k now).act.table
  run_dead from wide m slots k now =
      let e : End = (t.circuit_at m.to).end in
      heard_cond (names t from m.to m.from) (run_at b t m.to (fits_kind e m.master wide) now m.ask (run_frame (numbers_at e m k) slots)) (foreign t)
      (and_false (is_of (t.circuit_at m.to) from m.from && lives e) e.running (right_false (is_of (t.circuit_at m.to) from m.from) (lives e) (h m.to))) h

  stop_dead : (from to source now reason : ℕ) → TableDead (hear_stop_at b t from to source now reason).act.table
  stop_dead from to source now reason =
      let c : CircuitEntry = t.circuit_at to in
      heard_cond (nat_eq c.address from && (nat_eq c.end.peer source || nat_eq source 0) && lives c.end) (record { act = steps_at b t to (hear_stop now reason c.end); answer = Ended reason }) (foreign t)
      (right_false (nat_eq c.address from && (nat_eq c.end.peer source || nat_eq source 0)) (lives c.end) (h to)) h

reply_dead : (t : Table) → TableDead t → (from to source now : ℕ) (g : Agreed) → TableDead (hear_reply_at t from to source now g).act.table
reply_dead t h from to source now g =
    let c : CircuitEntry = t.circuit_at to in
    heard_cond (nat_eq c.address from && lives c.end && (not c.end.running || nat_eq c.end.peer source)) (record { act = steps_at true t to (hear_reply now source g c.end); answer = cond c.end.running Again Running }) (foreign t)
    (and_false (nat_eq c.address from && lives c.end) (not c.end.running || nat_eq c.end.peer source) (right_false (nat_eq c.address from) (lives c.end) (h to))) h

outlive_dead : (t : Table) → TableDead t → (from source x : ℕ) → TableDead (outlive_at from source x t)
outlive_dead t h from source x = go (is_outlived (t.circuit_at x) from source) (right_false (nat_eq (t.circuit_at x).address from && follows (t.circuit_at x).end.peer source) (lives (t.circuit_at x).end) (h x))
  where
    go : (n : Bool) → n ≡ false → TableDead (cond n (steps_at false t x (lapse 5 (t.circuit_at x).end)).table t)
    go true q = absurd (true≢false q)
    go false q = h

dead_acts : (k : Side) → Acts k (λ y. Unit {0}) NoneLives
dead_acts k = record {
  moment = λ c now h. h;
  renames = λ c ns h. h;
  calls = λ c x y a h. local_dead k.server c.circuits h x y;
  times = λ c x h. time_dead k.server c.circuits h x c.moment;
  ends = λ c x r h. end_dead k.server c.circuits h x r;
  runs = λ c from wide m slots n h. run_dead k.server c.circuits h from wide m slots n c.moment;
  stops = λ c from to source reason h. stop_dead k.server c.circuits h from to source c.moment reason;
}

server_acts : (config : ServerConfig) → ServerActs config (λ y. Unit {0}) NoneLives NoneLives ⊥
server_acts config = record {
  acts = dead_acts (server_side config);
  replies = λ c from to source g h. reply_dead c.circuits h from to source c.moment g;
  done = λ c h. h;
  opens = λ o line address node service key request c can ex free h. absurd o;
}

node_acts : (config : NodeConfig) → NodeActs config (λ y. Unit {0}) NoneLives NoneLives ⊥
node_acts config = record {
  acts = dead_acts (node_side config);
  starts = λ o c from source g h. absurd o;
  lapses = λ c from source x h. outlive_dead c.circuits h from source x;
  done = λ c h. h;
  accepts = λ st x id line request service w v l ex free h. local_dead false st.core.circuits h x (Answer id);
  refuses = λ c x id reason h. local_dead false c.circuits h x (RejectAsk id reason);
}

pub awake : {b : Bool} → b ≡ true → b ≡ false → ⊥
awake q r = true≢false (sym q ∙ r)

pub server_dead : (config : ServerConfig) (st : Server) (e : Event) → st.halted ≡ true → NoneLives st.core → NoneLives (server_step config st e).state.core
server_dead config st e q h = server_keeps config (λ y. Unit {0}) NoneLives NoneLives ⊥ (server_acts config) st e (awake q) (awake (event_halted config st true q e (λ i. refl))) (any_allowed e) h

pub node_dead : (config : NodeConfig) (rates : List ℕ) (st : Node) (e : Event) → st.halted ≡ true → NoneLives st.core → NoneLives (node_step config rates st e).state.core
node_dead config rates st e q h = node_keeps config (λ y. Unit {0}) NoneLives NoneLives ⊥ (node_acts config) rates st e (awake q) (any_allowed e) h

-- the halt

-- what is ended doesn't live, and what doesn't live stays so
ended_at : (b : Bool) (t : Table) (x r y : ℕ) → (nat_eq y x ≡ false → lives (t.circuit_at y).end ≡ false) → lives ((end_at b t x r).table.circuit_at y).end ≡ false
ended_at b t x r y h = go (lives (t.circuit_at x).end) refl (nat_eq y x) refl
  where
    s : Step
    s = finish r (t.circuit_at x).end

    new : CircuitEntry
    new = record { address = (t.circuit_at x).address; end = (note_empty (t.circuit_at x).end s).end }

    by : (m : Bool) → nat_eq y x ≡ m → lives (cond m new (t.circuit_at y)).end ≡ false
    by true j = refl
    by false j = h j

    go : (n : Bool) → lives (t.circuit_at x).end ≡ n → (m : Bool) → nat_eq y x ≡ m → lives ((cond n (steps_at b t x s) (idle t)).table.circuit_at y).end ≡ false
    go true i m j = by (nat_eq y x) refl
    go false i true j = ap (λ z. lives (t.circuit_at z).end) (eqb-true y x j) ∙ i
    go false i false j = h j

dead_through : (k : Side) (r : ℕ) (xs : List ℕ) (d : Doing) (y : ℕ) → lives (d.core.circuits.circuit_at y).end ≡ false → lives ((end_each k r xs d).core.circuits.circuit_at y).end ≡ false
dead_through k r [] d y h = h
dead_through k r (x ∷ xs) d y h = dead_through k r xs (then_doing d (λ c. acts k c (end_at k.server c.circuits x r))) y (ended_at k.server d.core.circuits x r y (λ q. h))

all_ended : (k : Side) (r : ℕ) (xs : List ℕ) (d : Doing) (y : ℕ) → Once y xs → lives ((end_each k r xs d).core.circuits.circuit_at y).end ≡ false
all_ended k r [] d y a = absurd a
all_ended k r (x ∷ xs) d y (inl a) = dead_through k r xs (then_doing d (λ c. acts k c (end_at k.server c.circuits x r))) y (ended_at k.server d.core.circuits x r y (λ z. absurd (true≢false (sym (eq-eqb y x (sym a.0)) ∙ z))))
all_ended k r (x ∷ xs) d y (inr a) = all_ended k r xs (then_doing d (λ c. acts k c (end_at k.server c.circuits x r))) y a.1

ends_dead : {K : Type 0} (key : CircuitEntry → K) (k : Side) (r : ℕ) (c : Core) → Lone key c.circuits → NoneLives (ends_all k r c).core
ends_dead key k r c h y = go (is_drawn c.circuits y) refl
  where
    go : (n : Bool) → is_drawn c.circuits y ≡ n → lives ((ends_all k r c).core.circuits.circuit_at y).end ≡ false
    go false i = dead_through k r (ids c.circuits) (rests c) y (h.new y i)
    go true i = all_ended k r (ids c.circuits) (rests c) y (id_once c.circuits.first c.circuits.drawn y i)

pub server_halt : (config : ServerConfig) (st : Server) → Lone by_address st.core.circuits → NoneLives (server_step config st Halts).state.core
server_halt config st h = passed_keeps config (λ y. Unit {0}) NoneLives NoneLives ⊥ (server_acts config) st Halts (awake refl) (ends_dead by_address (server_side config) 3 st.core h)

pub node_halt : (config : NodeConfig) (rates : List ℕ) (st : Node) → Lone by_peer st.core.circuits → NoneLives (node_step config rates st Halts).state.core
node_halt config rates st h = ends_dead by_peer (node_side config) 3 st.core h

-- histories

server_stays_dead : (config : ServerConfig) (es : List Event) (st : Server) → st.halted ≡ true → NoneLives st.core → NoneLives (server_run config es st).core
server_stays_dead config [] st q h = h
server_stays_dead config (e ∷ es) st q h = server_stays_dead config es (server_step config st e).state (step_halted config st true q e (λ i. refl)) (server_dead config st e q h)

node_stays_dead : (config : NodeConfig) (es : List RatedEvent) (st : Node) → st.halted ≡ true → NoneLives st.core → NoneLives (node_run config es st).core
node_stays_dead config [] st q h = h
node_stays_dead config (e ∷ es) st q h = node_stays_dead config es (node_step config e.rates st e.event).state (node_halted config e.rates st e.event (λ i. q) ∙ q) (node_dead config e.rates st e.event q h)

server_more : (config : ServerConfig) (es fs : List Event) (st : Server) → server_run config (es ++ fs) st ≡ server_run config fs (server_run config es st)
server_more config [] fs st = refl
server_more config (e ∷ es) fs st = server_more config es fs (server_step config st e).state

node_more : (config : NodeConfig) (es fs : List RatedEvent) (st : Node) → node_run config (es ++ fs) st ≡ node_run config fs (node_run config es st)
node_more config [] fs st = refl
node_more config (e ∷ es) fs st = node_more config es fs (node_step config e.rates st e.event).state

pub server_is_dead : HaltedServerIsDead
server_is_dead config before after x =
    let st : Server = server_run config before (open_server config) in
    ap (λ (s : Server). lives (s.core.circuits.circuit_at x).end) (server_more config before (Halts ∷ after) (open_server config))
    ∙ server_stays_dead config after (server_step config st Halts).state (halt_halts config st) (server_halt config st (server_found config before)) x

pub node_is_dead : HaltedNodeIsDead
node_is_dead config before after rates x =
    let st : Node = node_run config before (open_node config) in
    ap (λ (s : Node). lives (s.core.circuits.circuit_at x).end) (node_more config before (record { event = Halts; rates = rates } ∷ after) (open_node config))
    ∙ node_stays_dead config after (node_step config rates st Halts).state refl (node_halt config rates st (node_found config before)) x
