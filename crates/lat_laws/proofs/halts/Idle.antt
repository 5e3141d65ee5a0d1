-- A halted machine makes no line session and no circuit.
use Rattle.std.proofs.Common.{◌≡◌, ℕ, refl, ap, ◌∙◌, Bool, true, false, not, cond, ◌&&◌, ◌||◌, List, [], ◌∷◌, Option, Some, None, nat_eq}
use Rattle.std.proofs.lemmas.Bool.{ne_eqb}
use Rattle.lat_model.specs.sessions.Slots.{Slot}
use Rattle.lat_model.specs.sessions.Calls.{Call, Answer, RejectAsk}
use Rattle.lat_model.specs.Lists.{upwards}
use Rattle.lat_model.specs.ends.End.{End, lives, call_end, finish, lapse}
use Rattle.lat_model.specs.ends.Timers.{time_step}
use Rattle.lat_model.specs.ends.Starting.{Agreed, hear_reply, hear_stop}
use Rattle.lat_model.specs.circuits.World.{CircuitEntry, Table}
use Rattle.lat_machines.specs.values.Names.{Name}
use Rattle.lat_machines.specs.values.Addresses.{everyone}
use Rattle.lat_machines.specs.values.Messages.{Head, StartMessage}
use Rattle.lat_machines.specs.values.Frames.{OfCircuit}
use Rattle.lat_machines.specs.values.Events.{Numbers}
use Rattle.lat_machines.specs.values.Answers.{Again, Running, Ended, Ignored}
use Rattle.lat_machines.specs.cores.Acts.{Acted, idle, steps_at, local_at, time_at, end_at, move_at}
use Rattle.lat_machines.specs.cores.Hearing.{HeardAct, foreign, names, fits_kind, numbers_at, run_frame, run_at, hear_run, hear_stop_at, hear_reply_at, is_outlived, outlive_at}
use Rattle.lat_machines.specs.cores.Cores.{Seat, Core, Side, at_moment}
use Rattle.lat_machines.specs.server.Server.{ServerConfig, server_side, offer_on, grantable_on, grantable, Passing, grants_by, grant_lines}
use Rattle.lat_machines.specs.node.Node.{NodeConfig, Node, node_side, tells, announcement, turns_away, starts, makes_way, hears_value}
use Rattle.lat_laws.proofs.tales.steps.Walk.{Acts, ServerActs, NodeActs, server_keeps, node_keeps}
use Rattle.lat_laws.proofs.habits.Circuits.{any_allowed}
use Rattle.lat_laws.proofs.halts.Stays.{event_halted}
use Rattle.lat_laws.proofs.halts.Dead.{awake}
use Rattle.lat_laws.specs.halts.Idle.{HaltedServerBeginsNone, HaltedServerGrantsNone, HaltedNodeTurnsAway, HaltedNodeMakesNone, HaltedNodeAnnouncesNothing}

-- acts draw no id

act_cond : (d : ℕ) (n : Bool) (a b : Acted) → a.table.drawn ≡ d → b.table.drawn ≡ d → (cond n a b).table.drawn ≡ d
act_cond d true a b p q = p
act_cond d false a b p q = q

heard_cond : (d : ℕ) (n : Bool) (a b : HeardAct) → a.act.table.drawn ≡ d → b.act.table.drawn ≡ d → (cond n a b).act.table.drawn ≡ d
heard_cond d true a b p q = p
heard_cond d false a b p q = q

module _ (d : ℕ) (b : Bool) (t : Table) (p : t.drawn ≡ d) where
  local_drawn : (x : ℕ) (c : Call) → (local_at b t x c).table.drawn ≡ d
  local_drawn x c = act_cond d (lives (t.circuit_at x).end) (steps_at b t x (record { end = call_end c (t.circuit_at x).end; sent = [] })) (idle t) p p

  time_drawn : (x now : ℕ) → (time_at b t x now).table.drawn ≡ d
  time_drawn x now = act_cond d (lives (t.circuit_at x).end) (steps_at b t x (time_step now (t.circuit_at x).end)) (idle t) p p

  end_drawn : (x r : ℕ) → (end_at b t x r).table.drawn ≡ d
  end_drawn x r = act_cond d (lives (t.circuit_at x).end) (steps_at b t x (finish r (t.circuit_at x).end)) (idle t) p p

  move_drawn : (x now : ℕ) → (move_at b t x now).table.drawn ≡ d
  move_drawn x now = act_cond d (lives (t.circuit_at x).end) (steps_at b t x (record { end = record ((t.circuit_at x).end) { moment = now }; sent = [] })) (idle t) p p

  run_drawn : (from : ℕ) (wide : Bool) (m : Head) (slots : List Slot) (k : Option Numbers) (now : ℕ) → (hear_run b t from wide m slots k now).act.table.drawn ≡ d
  run_drawn from wide m slots k now =
      let e : End = (t.circuit_at m.to).end in
      heard_cond d (names t from m.to m.from) (run_at b t m.to (fits_kind e m.master wide) now m.ask (run_frame (numbers_at e m k) slots)) (foreign t)
      (heard_cond d (fits_kind e m.master wide) _ _ p (move_drawn m.to now)) p

  stop_drawn : (from to source now reason : ℕ) → (hear_stop_at b t from to source now reason).act.table.drawn ≡ d
  stop_drawn from to source now reason =
      let c : CircuitEntry = t.circuit_at to in
      heard_cond d (nat_eq c.address from && (nat_eq c.end.peer source || nat_eq source 0) && lives c.end) (record { act = steps_at b t to (hear_stop now reason c.end); answer = Ended reason }) (foreign t) p p

reply_drawn : (d : ℕ) (t : Table) → t.drawn ≡ d → (from to source now : ℕ) (g : Agreed) → (hear_reply_at t from to source now g).act.table.drawn ≡ d
reply_drawn d t p from to source now g =
    let c : CircuitEntry = t.circuit_at to in
    heard_cond d (nat_eq c.address from && lives c.end && (not c.end.running || nat_eq c.end.peer source)) (record { act = steps_at true t to (hear_reply now source g c.end); answer = cond c.end.running Again Running }) (foreign t) p p

outlive_drawn : (d : ℕ) (t : Table) → t.drawn ≡ d → (from source x : ℕ) → (outlive_at from source x t).drawn ≡ d
outlive_drawn d t p from source x = go (is_outlived (t.circuit_at x) from source)
  where
    go : (n : Bool) → (cond n (steps_at false t x (lapse 5 (t.circuit_at x).end)).table t).drawn ≡ d
    go true = p
    go false = p

abbrev Draws : ℕ → Core → Type 0
Draws d c = c.circuits.drawn ≡ d

drawn_acts : (d : ℕ) (k : Side) → Acts k (λ y. Unit {0}) (Draws d)
drawn_acts d k = record {
  moment = λ c now p. p;
  renames = λ c ns p. p;
  calls = λ c x y a p. local_drawn d k.server c.circuits p x y;
  times = λ c x p. time_drawn d k.server c.circuits p x c.moment;
  ends = λ c x r p. end_drawn d k.server c.circuits p x r;
  runs = λ c from wide m slots n p. run_drawn d k.server c.circuits p from wide m slots n c.moment;
  stops = λ c from to source reason p. stop_drawn d k.server c.circuits p from to source c.moment reason;
}

server_drawn : (config : ServerConfig) (d : ℕ) → ServerActs config (λ y. Unit {0}) (Draws d) (Draws d) ⊥
server_drawn config d = record {
  acts = drawn_acts d (server_side config);
  replies = λ c from to source g p. reply_drawn d c.circuits p from to source c.moment g;
  done = λ c p. p;
  opens = λ o line address node service key request c can ex free p. absurd o;
}

node_drawn : (config : NodeConfig) (d : ℕ) → NodeActs config (λ y. Unit {0}) (Draws d) (Draws d) ⊥
node_drawn config d = record {
  acts = drawn_acts d (node_side config);
  starts = λ o c from source g p. absurd o;
  lapses = λ c from source x p. outlive_drawn d c.circuits p from source x;
  done = λ c p. p;
  accepts = λ st x id line request service w v l ex free p. local_drawn d false st.core.circuits p x (Answer id);
  refuses = λ c x id reason p. local_drawn d false c.circuits p x (RejectAsk id reason);
}

-- nor do they make a line session

abbrev Sits : List Seat → Core → Type 0
Sits ss c = c.seats ≡ ss

server_seats : (config : ServerConfig) (ss : List Seat) → ServerActs config (λ y. Unit {0}) (Sits ss) (Sits ss) ⊥
server_seats config ss = record {
  acts = record { moment = λ c now p. p; renames = λ c ns p. p; calls = λ c x y a p. p; times = λ c x p. p; ends = λ c x r p. p; runs = λ c from wide m slots n p. p; stops = λ c from to source reason p. p };
  replies = λ c from to source g p. p;
  done = λ c p. p;
  opens = λ o line address node service key request c can ex free p. absurd o;
}

pub server_begins_none : HaltedServerBeginsNone
server_begins_none config st e q = record {
  seats = server_keeps config (λ y. Unit {0}) (Sits st.core.seats) (Sits st.core.seats) ⊥ (server_seats config st.core.seats) st e (awake q) (awake (event_halted config st true q e (λ i. refl))) (any_allowed e) refl;
  drawn = server_keeps config (λ y. Unit {0}) (Draws st.core.circuits.drawn) (Draws st.core.circuits.drawn) ⊥ (server_drawn config st.core.circuits.drawn) st e (awake q) (awake (event_halted config st true q e (λ i. refl))) (any_allowed e) refl;
}

pub node_makes_none : HaltedNodeMakesNone
node_makes_none config rates st e q = node_keeps config (λ y. Unit {0}) (Draws st.core.circuits.drawn) (Draws st.core.circuits.drawn) ⊥ (node_drawn config st.core.circuits.drawn) rates st e (awake q) (any_allowed e) refl

-- the pass

lines_idle : (config : ServerConfig) (lines : List ℕ) (p : Passing) → p.state.halted ≡ true → grant_lines config lines p ≡ p
lines_idle config [] p q = refl
lines_idle config (line ∷ lines) p q = ap (grant_lines config lines) (go (offer_on line config.offers)) ∙ lines_idle config lines p q
  where
    go : (o : Option Name) → grants_by config line o (grantable p.state line o) p ≡ p
    go None = refl
    go (Some service) =
        ap (λ g. grants_by config line (Some service) g p) (ap (λ b. cond (not b && p.state.ready line) (grantable_on p.state.core p.state.queue line service) None) q)

pub server_grants_none : HaltedServerGrantsNone
server_grants_none config st q = lines_idle config (upwards 0 config.lines) (record { state = st; frames = [] }) q

-- a halted node

pub node_turns_away : HaltedNodeTurnsAway
node_turns_away config rates st from to source now ask info numbers q n =
    let t : Node = record st { core = at_moment now st.core } in
    ap (λ b. cond b (tells t Ignored) (hears_value config rates t from (OfCircuit (StartMessage true ask to source info)) numbers)) (ne_eqb from everyone n)
    ∙ ap (λ b. cond b (turns_away config t from source) (starts config (makes_way config t from source) from source info)) q

pub node_announces_nothing : HaltedNodeAnnouncesNothing
node_announces_nothing config rates st q = ap (λ b. cond b [] (announcement config rates ∷ [])) q
