-- In every history of a machine each credited slot had its credit: what each act leaves of the sessions of all circuits.
use Rattle.std.proofs.Common.{◌≡◌, ℕ, suc, refl, sym, ap, ◌∙◌, subst, arith, Bool, true, false, not, cond, ◌&&◌, ◌||◌, List, [], ◌∷◌, ◌++◌, Option, nat_eq, nat_lt, eqb-true}
use Rattle.std.proofs.lemmas.Bool.{and_parts, true≢false, eqb-false}
use Rattle.lat_model.specs.sessions.Slots.{Slot}
use Rattle.lat_model.specs.sessions.Session.{blank}
use Rattle.lat_model.specs.sessions.Calls.{Call, Connect, Answer, RejectAsk}
use Rattle.lat_model.specs.Lists.{updated}
use Rattle.lat_model.specs.numbers.Link.{Frame}
use Rattle.lat_model.specs.ends.End.{End, Step, lives, call_end, finish, lapse}
use Rattle.lat_model.specs.ends.Timers.{note_empty, time_step}
use Rattle.lat_model.specs.ends.Run.{run_end}
use Rattle.lat_model.specs.ends.Starting.{Agreed, Setup, make_slave, again_start, hear_reply, hear_stop}
use Rattle.lat_model.specs.circuits.World.{CircuitEntry, Table, first_end}
use Rattle.lat_model.specs.circuits.Arriving.{is_of, living, slave_of}
use Rattle.lat_model.proofs.sessions.Words.{upd_other, upd_all}
use Rattle.lat_model.specs.circuits.Ids.{is_drawn, next_id, ids}
use Rattle.lat_model.proofs.circuits.Ids.{undrawn_before, undrawn_other, next_new}
use Rattle.lat_machines.specs.values.Names.{Name}
use Rattle.lat_machines.specs.values.Messages.{Head}
use Rattle.lat_machines.specs.values.Keys.{Key}
use Rattle.lat_machines.specs.values.Events.{Numbers, Event}
use Rattle.lat_machines.specs.values.Answers.{Again, Running, Ended}
use Rattle.lat_machines.specs.cores.Acts.{Acted, idle, put_at, steps_at, call_at, called, local_at, time_at, move_at, end_at}
use Rattle.lat_machines.specs.cores.Hearing.{HeardAct, foreign, names, fits_kind, numbers_at, run_frame, run_at, hear_run, hear_stop_at, hear_reply_at, start_at, Repeats, Makes, Refuses, start_fact, follows, is_outlived, outlive_at}
use Rattle.lat_machines.specs.cores.Cores.{Core, Side, Doing, rests, acts, with_circuits, setup_of, circuit_to}
use Rattle.lat_machines.specs.server.Server.{ServerConfig, Server, server_side, open_server, connects_on, opens, server_step}
use Rattle.lat_machines.specs.node.Node.{NodeConfig, Node, node_side, open_node, node_step}
use Rattle.lat_machines.specs.world.Histories.{server_run, RatedEvent, node_run}
use Rattle.lat_machines.proofs.queue.Rooms.{least_true}
use Rattle.lat_laws.proofs.rounds.counting.Kept.{to_time, to_run, to_again, to_stop, to_reply, is_none}
use Rattle.lat_laws.proofs.tales.steps.Tables.{sess}
use Rattle.lat_laws.proofs.tales.steps.Walk.{Acts, ServerActs, NodeActs, server_keeps, node_keeps}
use Rattle.lat_laws.proofs.habits.Circuits.{any_allowed}
use Rattle.lat_laws.proofs.habits.Growing.{Grown, Past, More, Grows, grown_same, grown_then, grows_kept, grows_call}
use Rattle.lat_laws.proofs.habits.Formed.{each_credited}
use Rattle.lat_laws.specs.habits.Credits.{session_on, IsCredited, ServerSlotsCredited, NodeSlotsCredited, ServerWithinCredits, NodeWithinCredits}

-- tables

-- circuits that weren't drawn don't live, and have no sessions
record Tidy (t : Table) : Type 0 where
  past : (x : ℕ) → Past (sess t x)
  undrawn : (x : ℕ) → is_drawn t x ≡ false → lives (t.circuit_at x).end ≡ false
  empty : (x k : ℕ) → is_drawn t x ≡ false → (sess t x).session k ≡ blank

record MoreOf (t : Table) (v : Table) : Type 0 where
  tidy : Tidy v
  each : (x k : ℕ) → Grown ((sess t x).session k) ((sess v x).session k)

abbrev TableGrows : Table → Table → Type 0
TableGrows t v = Tidy t → MoreOf t v

table_same : (t : Table) → TableGrows t t
table_same t h = record { tidy = h; each = λ x k. grown_same ((sess t x).session k) }

act_cond : (t : Table) (n : Bool) (a b : Acted) → (n ≡ true → TableGrows t a.table) → TableGrows t b.table → TableGrows t (cond n a b).table
act_cond t true a b p q = p refl
act_cond t false a b p q = q

heard_cond : (t : Table) (n : Bool) (a b : HeardAct) → (n ≡ true → TableGrows t a.act.table) → TableGrows t b.act.table → TableGrows t (cond n a b).act.table
heard_cond t true a b p q = p refl
heard_cond t false a b p q = q

-- a step of a circuit that lives
steps_grow : (b : Bool) (t : Table) (x : ℕ) (s : Step) → lives (t.circuit_at x).end ≡ true → Grows (sess t x) s.end.half.sessions → TableGrows t (steps_at b t x s).table
steps_grow b t x s l g h = record {
  tidy = record {
    past = λ y. upd_all (λ (z : CircuitEntry). Past z.end.half.sessions) t.circuit_at x new more.past h.past y;
    undrawn = λ y d. ap (λ (z : CircuitEntry). lives z.end) (upd_other t.circuit_at x new y (other y d)) ∙ h.undrawn y d;
    empty = λ y k d. ap (λ (z : CircuitEntry). z.end.half.sessions.session k) (upd_other t.circuit_at x new y (other y d)) ∙ h.empty y k d;
  };
  each = λ y k. go y k (nat_eq y x) refl;
}
  where
    new : CircuitEntry
    new = record { address = (t.circuit_at x).address; end = (note_empty (t.circuit_at x).end s).end }

    more : More (sess t x) s.end.half.sessions
    more = g (h.past x)

    other : (y : ℕ) → is_drawn t y ≡ false → y ≡ x → ⊥
    other y d q = true≢false (sym l ∙ (ap (λ i. lives (t.circuit_at i).end) (sym q) ∙ h.undrawn y d))

    go : (y k : ℕ) (c : Bool) → nat_eq y x ≡ c → Grown ((sess t y).session k) ((cond c new (t.circuit_at y)).end.half.sessions.session k)
    go y k true q = subst (λ z. Grown ((sess t z).session k) (s.end.half.sessions.session k)) (sym (eqb-true y x q)) (more.each k)
    go y k false q = grown_same ((sess t y).session k)

-- a circuit more, without sessions
makes_grow : (b : Bool) (t : Table) (address : ℕ) (s : Step) → ((k : ℕ) → s.end.half.sessions.session k ≡ blank) → TableGrows t (put_at b t (suc t.drawn) (next_id t) address s).table
makes_grow b t address s n h = record {
  tidy = record {
    past = λ y. upd_all (λ (z : CircuitEntry). Past z.end.half.sessions) t.circuit_at (next_id t) new (λ k l. n k) h.past y;
    undrawn = λ y d. ap (λ (z : CircuitEntry). lives z.end) (upd_other t.circuit_at (next_id t) new y (undrawn_other t.first t.drawn y d)) ∙ h.undrawn y (undrawn_before t.first t.drawn y d);
    empty = λ y k d. ap (λ (z : CircuitEntry). z.end.half.sessions.session k) (upd_other t.circuit_at (next_id t) new y (undrawn_other t.first t.drawn y d)) ∙ h.empty y k (undrawn_before t.first t.drawn y d);
  };
  each = λ y k. go y k (nat_eq y (next_id t)) refl;
}
  where
    new : CircuitEntry
    new = record { address = address; end = s.end }

    go : (y k : ℕ) (c : Bool) → nat_eq y (next_id t) ≡ c → Grown ((sess t y).session k) ((cond c new (t.circuit_at y)).end.half.sessions.session k)
    go y k true q = (let i : y ≡ next_id t = eqb-true y (next_id t) q in subst (Grown ((sess t y).session k)) (h.empty y k (subst (λ z. is_drawn t z ≡ false) (sym i) (next_new t.first t.drawn)) ∙ sym (n k)) (grown_same ((sess t y).session k)))
    go y k false q = grown_same ((sess t y).session k)

-- acts

module _ (b : Bool) (t : Table) where
  local_grow : (x : ℕ) (c : Call) → TableGrows t (local_at b t x c).table
  local_grow x c =
      let s : Step = record { end = call_end c (t.circuit_at x).end; sent = [] } in
      act_cond t (lives (t.circuit_at x).end) (steps_at b t x s) (idle t) (λ l. steps_grow b t x s l (grows_call (sess t x) c)) (table_same t)

  time_grow : (x now : ℕ) → TableGrows t (time_at b t x now).table
  time_grow x now =
      let s : Step = time_step now (t.circuit_at x).end in
      act_cond t (lives (t.circuit_at x).end) (steps_at b t x s) (idle t) (λ l. steps_grow b t x s l (to_time is_none b _ (grows_kept b) 0 now (t.circuit_at x).end refl)) (table_same t)

  -- a circuit that lives is ended
  ends_grow : (x : ℕ) (s : Step) → s.end.half.sessions ≡ sess t x → lives (t.circuit_at x).end ≡ true → TableGrows t (steps_at b t x s).table
  ends_grow x s q l = steps_grow b t x s l (λ h. record { past = subst Past (sym q) h; each = λ k. subst (λ z. Grown ((sess t x).session k) (z.session k)) (sym q) (grown_same ((sess t x).session k)) })

  end_grow : (x r : ℕ) → TableGrows t (end_at b t x r).table
  end_grow x r = act_cond t (lives (t.circuit_at x).end) (steps_at b t x (finish r (t.circuit_at x).end)) (idle t) (ends_grow x (finish r (t.circuit_at x).end) refl) (table_same t)

  move_grow : (x now : ℕ) → TableGrows t (move_at b t x now).table
  move_grow x now =
      let s : Step = record { end = record ((t.circuit_at x).end) { moment = now }; sent = [] } in
      act_cond t (lives (t.circuit_at x).end) (steps_at b t x s) (idle t) (λ l. steps_grow b t x s l (λ h. record { past = h; each = λ k. grown_same ((sess t x).session k) })) (table_same t)

  run_grow : (from : ℕ) (wide : Bool) (m : Head) (slots : List Slot) (k : Option Numbers) (now : ℕ) → TableGrows t (hear_run b t from wide m slots k now).act.table
  run_grow from wide m slots k now =
      let e : End = (t.circuit_at m.to).end in
      let f : Frame (List Slot) = run_frame (numbers_at e m k) slots in
      heard_cond t (names t from m.to m.from) (run_at b t m.to (fits_kind e m.master wide) now m.ask f) (foreign t)
      (λ i. heard_cond t (fits_kind e m.master wide) _ _
      (λ j. steps_grow b t m.to (run_end now m.ask f e).step (and_parts (is_of (t.circuit_at m.to) from m.from) (lives e) (and_parts (is_of (t.circuit_at m.to) from m.from && lives e) e.running i).0).1 (to_run is_none b _ (grows_kept b) 0 now m.ask f e refl))
      (move_grow m.to now))
      (table_same t)

  stop_grow : (from to source now reason : ℕ) → TableGrows t (hear_stop_at b t from to source now reason).act.table
  stop_grow from to source now reason =
      let c : CircuitEntry = t.circuit_at to in
      heard_cond t (nat_eq c.address from && (nat_eq c.end.peer source || nat_eq source 0) && lives c.end) (record { act = steps_at b t to (hear_stop now reason c.end); answer = Ended reason }) (foreign t)
      (λ i. steps_grow b t to (hear_stop now reason c.end) (and_parts (nat_eq c.address from && (nat_eq c.end.peer source || nat_eq source 0)) (lives c.end) i).1 (to_stop is_none b _ (grows_kept b) 0 now reason c.end refl))
      (table_same t)

reply_grow : (t : Table) (from to source now : ℕ) (g : Agreed) → TableGrows t (hear_reply_at t from to source now g).act.table
reply_grow t from to source now g =
    let c : CircuitEntry = t.circuit_at to in
    heard_cond t (nat_eq c.address from && lives c.end && (not c.end.running || nat_eq c.end.peer source)) (record { act = steps_at true t to (hear_reply now source g c.end); answer = cond c.end.running Again Running }) (foreign t)
    (λ i. steps_grow true t to (hear_reply now source g c.end) (and_parts (nat_eq c.address from) (lives c.end) (and_parts (nat_eq c.address from && lives c.end) (not c.end.running || nat_eq c.end.peer source) i).0).1 (to_reply is_none true _ (grows_kept true) 0 now source g c.end refl))
    (table_same t)

outlive_grow : (t : Table) (from source x : ℕ) → TableGrows t (outlive_at from source x t)
outlive_grow t from source x = go (is_outlived c from source) refl
  where
    c : CircuitEntry
    c = t.circuit_at x

    go : (n : Bool) → is_outlived c from source ≡ n → TableGrows t (cond n (steps_at false t x (lapse 5 c.end)).table t)
    go true i = ends_grow false t x (lapse 5 c.end) refl (and_parts (nat_eq c.address from && follows c.end.peer source) (lives c.end) i).1
    go false i = table_same t

start_grow : (u : Setup) (t : Table) (from source now : ℕ) (g : Agreed) → TableGrows t (start_at u t from source now g (start_fact t from source)).table
start_grow u t from source now g = go (nat_eq (slave_of t from source) 0) refl (nat_lt (living t) 8 && nat_lt t.drawn 65535)
  where
    test : ℕ → Bool
    test i = is_of (t.circuit_at i) from source && lives (t.circuit_at i).end

    go : (a : Bool) → nat_eq (slave_of t from source) 0 ≡ a → (m : Bool) → TableGrows t (start_at u t from source now g (cond a (cond m (Makes (next_id t)) Refuses) (Repeats (slave_of t from source)))).table
    go true q true = makes_grow false t from (make_slave now source g (first_end false false u)) (λ k. refl)
    go true q false = table_same t
    go false q m =
        let k : ℕ = slave_of t from source in
        steps_grow false t k (again_start now (t.circuit_at k).end) (and_parts (is_of (t.circuit_at k) from source) (lives (t.circuit_at k).end) (least_true test (ids t) (eqb-false k 0 q))).1 (to_again is_none false _ (grows_kept false) 0 now (t.circuit_at k).end refl)

-- cores

-- a core since another one
record Since (c : Core) (d : Core) : Type 0 where
  tidy : Tidy d.circuits
  each : (x k : ℕ) → Grown (session_on c x k) (session_on d x k)

since_then : (c d : Core) (v : Table) → TableGrows d.circuits v → Since c d → Since c (with_circuits d v)
since_then c d v g s =
    let m : MoreOf d.circuits v = g s.tidy in
    record { tidy = m.tidy; each = λ x k. grown_then (session_on c x k) (session_on d x k) ((sess v x).session k) (s.each x k) (m.each x k) }

since_acts : (c : Core) (k : Side) → Acts k (λ y. Unit {0}) (Since c)
since_acts c k = record {
  moment = λ d now s. record { tidy = s.tidy; each = s.each };
  renames = λ d ns s. record { tidy = s.tidy; each = s.each };
  calls = λ d x y a s. since_then c d _ (local_grow k.server d.circuits x y) s;
  times = λ d x s. since_then c d _ (time_grow k.server d.circuits x d.moment) s;
  ends = λ d x r s. since_then c d _ (end_grow k.server d.circuits x r) s;
  runs = λ d from wide h slots n s. since_then c d _ (run_grow k.server d.circuits from wide h slots n d.moment) s;
  stops = λ d from to source reason s. since_then c d _ (stop_grow k.server d.circuits from to source d.moment reason) s;
}

opens_since : (config : ServerConfig) (line address : ℕ) (node service : Name) (key : Option Key) (request : Option ℕ) (c d : Core) → Since c d → Since c (opens config line address node service key request d).core
opens_since config line address node service key request c d s = go (nat_eq (circuit_to d address) 0)
  where
    renamed : Core
    renamed = record d { names = updated d.names (next_id d.circuits) node }

    made : Doing
    made = acts (server_side config) renamed (call_at (setup_of config.timing) renamed.circuits address renamed.moment)

    seated : (f : Core) → Since c f → Since c (connects_on config line (circuit_to f address) service key request f).core
    seated f h =
        let p : Since c (with_circuits f (local_at true f.circuits (circuit_to f address) (Connect service request)).table) = since_then c f _ (local_grow true f.circuits (circuit_to f address) (Connect service request)) h in
        record { tidy = p.tidy; each = p.each }

    named : Since c renamed
    named = record { tidy = s.tidy; each = s.each }

    after : Doing → Core
    after e = (connects_on config line (circuit_to e.core address) service key request e.core).core

    go : (n : Bool) → Since c (after (cond n made (rests d)))
    go true = seated made.core (since_then c renamed _ (makes_grow true d.circuits address (called (setup_of config.timing) d.moment) (λ k. refl)) named)
    go false = seated d s

server_acts : (config : ServerConfig) (c : Core) → ServerActs config (λ y. Unit {0}) (Since c) (Since c) (Unit {0})
server_acts config c = record {
  acts = since_acts c (server_side config);
  replies = λ d from to source g s. since_then c d _ (reply_grow d.circuits from to source d.moment g) s;
  done = λ d s. s;
  opens = λ o line address node service key request d can ex free s. opens_since config line address node service key request c d s;
}

node_acts : (config : NodeConfig) (c : Core) → NodeActs config (λ y. Unit {0}) (Since c) (Since c) (Unit {0})
node_acts config c = record {
  acts = since_acts c (node_side config);
  starts = λ o d from source g s. since_then c d _ (start_grow (setup_of config.timing) d.circuits from source d.moment g) s;
  lapses = λ d from source x s. since_then c d _ (outlive_grow d.circuits from source x) s;
  done = λ d s. s;
  accepts = λ st x id line request service w v l ex free s. (let p : Since c (with_circuits st.core (local_at false st.core.circuits x (Answer id)).table) = since_then c st.core _ (local_grow false st.core.circuits x (Answer id)) s in record { tidy = p.tidy; each = p.each });
  refuses = λ d x id reason s. since_then c d _ (local_grow false d.circuits x (RejectAsk id reason)) s;
}

-- histories

server_since : (config : ServerConfig) (c : Core) (es : List Event) (st : Server) → Since c st.core → Since c (server_run config es st).core
server_since config c [] st s = s
server_since config c (e ∷ es) st s = server_since config c es (server_step config st e).state (server_keeps config (λ y. Unit {0}) (Since c) (Since c) (Unit {0}) (server_acts config c) st e (λ q. tt) (λ q. tt) (any_allowed e) s)

node_since : (config : NodeConfig) (c : Core) (es : List RatedEvent) (st : Node) → Since c st.core → Since c (node_run config es st).core
node_since config c [] st s = s
node_since config c (e ∷ es) st s = node_since config c es (node_step config e.rates st e.event).state (node_keeps config (λ y. Unit {0}) (Since c) (Since c) (Unit {0}) (node_acts config c) e.rates st e.event (λ q. tt) (any_allowed e.event) s)

since_none : (c : Core) → Tidy c.circuits → Since c c
since_none c h = record { tidy = h; each = λ x k. grown_same (session_on c x k) }

none_credited : IsCredited blank
none_credited = omega arith

open_tidy : (t : Table) → t.drawn ≡ 0 → ((x : ℕ) → lives (t.circuit_at x).end ≡ false) → ((x k : ℕ) → (sess t x).session k ≡ blank) → Tidy t
open_tidy t d l n = record { past = λ x k i. n x k; undrawn = λ x i. l x; empty = λ x k i. n x k }

server_tidy : (config : ServerConfig) → Tidy (open_server config).core.circuits
server_tidy config = open_tidy (open_server config).core.circuits refl (λ x. refl) (λ x k. refl)

node_tidy : (config : NodeConfig) → Tidy (open_node config).core.circuits
node_tidy config = open_tidy (open_node config).core.circuits refl (λ x. refl) (λ x k. refl)

server_from : (config : ServerConfig) (es : List Event) → Since (open_server config).core (server_run config es (open_server config)).core
server_from config es = server_since config (open_server config).core es (open_server config) (since_none (open_server config).core (server_tidy config))

node_from : (config : NodeConfig) (es : List RatedEvent) → Since (open_node config).core (node_run config es (open_node config)).core
node_from config es = node_since config (open_node config).core es (open_node config) (since_none (open_node config).core (node_tidy config))

pub server_within : ServerWithinCredits
server_within config es x k = ((server_from config es).each x k).credited none_credited

pub node_within : NodeWithinCredits
node_within config es x k = ((node_from config es).each x k).credited none_credited

server_more : (config : ServerConfig) (es fs : List Event) (st : Server) → server_run config (es ++ fs) st ≡ server_run config fs (server_run config es st)
server_more config [] fs st = refl
server_more config (e ∷ es) fs st = server_more config es fs (server_step config st e).state

node_more : (config : NodeConfig) (es fs : List RatedEvent) (st : Node) → node_run config (es ++ fs) st ≡ node_run config fs (node_run config es st)
node_more config [] fs st = refl
node_more config (e ∷ es) fs st = node_more config es fs (node_step config e.rates st e.event).state

pub server_credited : ServerSlotsCredited
server_credited config events x k = each_credited (λ es. session_on (server_run config es (open_server config)).core x k) (λ es. server_within config es x k) grows refl events
  where
    grows : (es fs : List Event) → Grown (session_on (server_run config es (open_server config)).core x k) (session_on (server_run config (es ++ fs) (open_server config)).core x k)
    grows es fs =
        let st : Server = server_run config es (open_server config) in
        subst (λ z. Grown (session_on st.core x k) (session_on z.core x k)) (sym (server_more config es fs (open_server config))) ((server_since config st.core fs st (since_none st.core (server_from config es).tidy)).each x k)

pub node_credited : NodeSlotsCredited
node_credited config events x k = each_credited (λ es. session_on (node_run config es (open_node config)).core x k) (λ es. node_within config es x k) grows refl events
  where
    grows : (es fs : List RatedEvent) → Grown (session_on (node_run config es (open_node config)).core x k) (session_on (node_run config (es ++ fs) (open_node config)).core x k)
    grows es fs =
        let st : Node = node_run config es (open_node config) in
        subst (λ z. Grown (session_on st.core x k) (session_on z.core x k)) (sym (node_more config es fs (open_node config))) ((node_since config st.core fs st (since_none st.core (node_from config es).tidy)).each x k)
