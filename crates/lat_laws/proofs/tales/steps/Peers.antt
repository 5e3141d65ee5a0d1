-- A slave keeps the id of its peer, whatever is heard and called.
use Rattle.std.proofs.Common.{◌≡◌, ℕ, refl, sym, ap, ◌∙◌, Bool, true, false, not, cond, ◌&&◌, ◌||◌, List, [], Option, nat_eq, nat_lt, eqb-true}
use Rattle.lat_model.specs.sessions.Slots.{Slot}
use Rattle.lat_model.specs.sessions.Calls.{Call, Answer, RejectAsk}
use Rattle.lat_model.specs.numbers.Link.{Frame}
use Rattle.lat_model.specs.ends.End.{End, Step, still, lives, call_end, finish, lapse}
use Rattle.lat_model.specs.ends.Timers.{note_empty, time_step}
use Rattle.lat_model.specs.ends.Run.{run_end}
use Rattle.lat_model.specs.ends.Starting.{Agreed, Setup, make_slave, again_start, noted, replied, hear_stop}
use Rattle.lat_model.specs.circuits.World.{CircuitEntry, Table, first_end}
use Rattle.lat_model.specs.circuits.Arriving.{living, slave_of}
use Rattle.lat_model.proofs.sessions.Words.{upd_other}
use Rattle.lat_model.proofs.circuits.Kin.{kin_time, kin_run, kin_stop}
use Rattle.lat_model.proofs.circuits.Begins.{kin_call}
use Rattle.lat_model.proofs.circuits.Ids.{drawn_apart, drawn_behind}
use Rattle.lat_model.specs.circuits.Ids.{is_drawn, next_id, IdsStay}
use Rattle.lat_machines.specs.values.Messages.{Head}
use Rattle.lat_machines.specs.values.Events.{Numbers, Event, Hears, Time, Connects, Puts, Sets, Takes, Attends, Closes, Requests, Withdraws, Announces, Avoids, Readies, Halts}
use Rattle.lat_machines.specs.values.Answers.{Ended}
use Rattle.lat_machines.specs.cores.Acts.{Acted, idle, steps_at, local_at, time_at, move_at, end_at}
use Rattle.lat_machines.specs.cores.Hearing.{HeardAct, foreign, names, fits_kind, numbers_at, run_frame, run_at, hear_run, hear_stop_at, Repeats, Makes, Refuses, start_fact, start_at, is_outlived, outlive_at}
use Rattle.lat_machines.specs.cores.Cores.{Core, setup_of}
use Rattle.lat_machines.specs.node.Node.{NodeConfig, Node, node_step}
use Rattle.lat_laws.proofs.rounds.counting.Cores.{EventAllows}
use Rattle.lat_laws.proofs.tales.steps.Walk.{NodeActs, node_keeps}

pub record KeepsPeers (t : Table) (v : Table) : Type 0 where
  pub drawn : IdsStay t v
  pub peer : (x : ℕ) → is_drawn t x ≡ true → (v.circuit_at x).end.peer ≡ (t.circuit_at x).end.peer

peers_same : (t : Table) → KeepsPeers t t
peers_same t = record { drawn = λ x l. l; peer = λ x l. refl }

peers_then : (t v w : Table) → KeepsPeers t v → KeepsPeers v w → KeepsPeers t w
peers_then t v w p q = record { drawn = λ x l. q.drawn x (p.drawn x l); peer = λ x l. q.peer x (p.drawn x l) ∙ p.peer x l }

steps_peers : (t : Table) (x : ℕ) (s : Step) → s.end.peer ≡ (t.circuit_at x).end.peer → KeepsPeers t (steps_at false t x s).table
steps_peers t x s h = record { drawn = λ y l. l; peer = λ y l. go y (nat_eq y x) refl }
  where
    new : CircuitEntry
    new = record { address = (t.circuit_at x).address; end = (note_empty (t.circuit_at x).end s).end }

    go : (y : ℕ) (b : Bool) → nat_eq y x ≡ b → (cond b new (t.circuit_at y)).end.peer ≡ (t.circuit_at y).end.peer
    go y true q = h ∙ ap (λ z. (t.circuit_at z).end.peer) (sym (eqb-true y x q))
    go y false q = refl

act_cond : (t : Table) (n : Bool) (a b : Acted) → KeepsPeers t a.table → KeepsPeers t b.table → KeepsPeers t (cond n a b).table
act_cond t true a b p q = p
act_cond t false a b p q = q

heard_cond : (t : Table) (n : Bool) (a b : HeardAct) → KeepsPeers t a.act.table → KeepsPeers t b.act.table → KeepsPeers t (cond n a b).act.table
heard_cond t true a b p q = p
heard_cond t false a b p q = q

local_peers : (t : Table) (x : ℕ) (c : Call) → KeepsPeers t (local_at false t x c).table
local_peers t x c =
    let s : Step = record { end = call_end c (t.circuit_at x).end; sent = [] } in
    act_cond t (lives (t.circuit_at x).end) (steps_at false t x s) (idle t) (steps_peers t x s (kin_call c (t.circuit_at x).end).peer) (peers_same t)

time_peers : (t : Table) (x now : ℕ) → KeepsPeers t (time_at false t x now).table
time_peers t x now = act_cond t (lives (t.circuit_at x).end) (steps_at false t x (time_step now (t.circuit_at x).end)) (idle t) (steps_peers t x (time_step now (t.circuit_at x).end) (kin_time now (t.circuit_at x).end).peer) (peers_same t)

end_peers : (t : Table) (x r : ℕ) → KeepsPeers t (end_at false t x r).table
end_peers t x r = act_cond t (lives (t.circuit_at x).end) (steps_at false t x (finish r (t.circuit_at x).end)) (idle t) (steps_peers t x (finish r (t.circuit_at x).end) refl) (peers_same t)

outlive_peers : (t : Table) (from source x : ℕ) → KeepsPeers t (outlive_at from source x t)
outlive_peers t from source x = go (is_outlived (t.circuit_at x) from source)
  where
    go : (n : Bool) → KeepsPeers t (cond n (steps_at false t x (lapse 5 (t.circuit_at x).end)).table t)
    go true = steps_peers t x (lapse 5 (t.circuit_at x).end) refl
    go false = peers_same t

move_peers : (t : Table) (x now : ℕ) → KeepsPeers t (move_at false t x now).table
move_peers t x now =
    let s : Step = record { end = record ((t.circuit_at x).end) { moment = now }; sent = [] } in
    act_cond t (lives (t.circuit_at x).end) (steps_at false t x s) (idle t) (steps_peers t x s refl) (peers_same t)

run_peers : (t : Table) (from : ℕ) (wide : Bool) (h : Head) (slots : List Slot) (k : Option Numbers) (now : ℕ) → KeepsPeers t (hear_run false t from wide h slots k now).act.table
run_peers t from wide h slots k now =
    let e : End = (t.circuit_at h.to).end in
    let f : Frame (List Slot) = run_frame (numbers_at e h k) slots in
    heard_cond t (names t from h.to h.from) (run_at false t h.to (fits_kind e h.master wide) now h.ask f) (foreign t)
    (heard_cond t (fits_kind e h.master wide) _ _ (steps_peers t h.to (run_end now h.ask f e).step (kin_run now h.ask f e).peer) (move_peers t h.to now))
    (peers_same t)

stop_peers : (t : Table) (from to source now reason : ℕ) → KeepsPeers t (hear_stop_at false t from to source now reason).act.table
stop_peers t from to source now reason =
    let c : CircuitEntry = t.circuit_at to in
    heard_cond t (nat_eq c.address from && (nat_eq c.end.peer source || nat_eq source 0) && lives c.end) (record { act = steps_at false t to (hear_stop now reason c.end); answer = Ended reason }) (foreign t)
    (steps_peers t to (hear_stop now reason c.end) (kin_stop now reason c.end).peer) (peers_same t)

again_peer : (now : ℕ) (e : End) → (again_start now e).end.peer ≡ e.peer
again_peer now e = go (lives e) e.heard_run
  where
    go : (a b : Bool) → (cond (a && not b) (replied now e) (cond a (noted now e) (still e))).end.peer ≡ e.peer
    go true true = refl
    go true false = refl
    go false b = refl

start_peers : (u : Setup) (t : Table) (from source now : ℕ) (g : Agreed) → KeepsPeers t (start_at u t from source now g (start_fact t from source)).table
start_peers u t from source now g = go (nat_eq (slave_of t from source) 0) (nat_lt (living t) 8 && nat_lt t.drawn 65535)
  where
    k : ℕ
    k = slave_of t from source

    new : CircuitEntry
    new = record { address = from; end = (make_slave now source g (first_end false false u)).end }

    go : (a b : Bool) → KeepsPeers t (start_at u t from source now g (cond a (cond b (Makes (next_id t)) Refuses) (Repeats k))).table
    go true true = record { drawn = drawn_behind t.first t.drawn; peer = λ x l. ap (λ (z : CircuitEntry). z.end.peer) (upd_other t.circuit_at (next_id t) new x (drawn_apart t.first t.drawn x l)) }
    go true false = peers_same t
    go false b = steps_peers t k (again_start now (t.circuit_at k).end) (again_peer now (t.circuit_at k).end)

-- every event

abbrev AnyCall : Call → Type 0
AnyCall y = Unit {0}

any_allowed : (e : Event) → EventAllows AnyCall e
any_allowed (Hears from payload k now) = tt
any_allowed (Time now) = tt
any_allowed (Connects line service) = tt
any_allowed (Puts line bytes) = λ id. tt
any_allowed (Sets line setting) = λ id. tt
any_allowed (Takes line n) = λ id. tt
any_allowed (Attends line flag) = λ id. tt
any_allowed (Closes line) = λ id. tt
any_allowed (Requests to id service) = tt
any_allowed (Withdraws id) = tt
any_allowed Announces = tt
any_allowed (Avoids line) = tt
any_allowed (Readies line ready) = tt
any_allowed Halts = tt

abbrev Keeping : Core → Core → Type 0
Keeping c d = KeepsPeers c.circuits d.circuits

peers_acts : (config : NodeConfig) (c : Core) → NodeActs config AnyCall (Keeping c) (Keeping c) (Unit {0})
peers_acts config c = record {
  acts = record {
    moment = λ d now p. p;
    renames = λ d ns p. p;
    calls = λ d x y a p. peers_then c.circuits d.circuits _ p (local_peers d.circuits x y);
    times = λ d x p. peers_then c.circuits d.circuits _ p (time_peers d.circuits x d.moment);
    ends = λ d x r p. peers_then c.circuits d.circuits _ p (end_peers d.circuits x r);
    runs = λ d from wide h slots n p. peers_then c.circuits d.circuits _ p (run_peers d.circuits from wide h slots n d.moment);
    stops = λ d from to source reason p. peers_then c.circuits d.circuits _ p (stop_peers d.circuits from to source d.moment reason);
  };
  starts = λ o d from source g p. peers_then c.circuits d.circuits _ p (start_peers (setup_of config.timing) d.circuits from source d.moment g);
  lapses = λ d from source x p. peers_then c.circuits d.circuits _ p (outlive_peers d.circuits from source x);
  done = λ d p. p;
  accepts = λ st x id line request service w v l ex fr p. peers_then c.circuits st.core.circuits _ p (local_peers st.core.circuits x (Answer id));
  refuses = λ d x id reason p. peers_then c.circuits d.circuits _ p (local_peers d.circuits x (RejectAsk id reason));
}

pub node_peers : (config : NodeConfig) (rates : List ℕ) (st : Node) (e : Event) → KeepsPeers st.core.circuits (node_step config rates st e).state.core.circuits
node_peers config rates st e = node_keeps config AnyCall (Keeping st.core) (Keeping st.core) (Unit {0}) (peers_acts config st.core) rates st e (λ q. tt) (any_allowed e) (peers_same st.core.circuits)
