-- A circuit that runs keeps its peer, and one that has ended stays so.
use Rattle.std.proofs.Common.{◌≡◌, ℕ, suc, refl, sym, ap, ◌∙◌, subst, Bool, true, false, not, cond, ◌&&◌, ◌||◌, List, [], Option, nat_eq, nat_lt, eqb-true}
use Rattle.std.proofs.lemmas.Bool.{true≢false, false≢true, and_parts, eqb-false}
use Rattle.lat_model.specs.sessions.Slots.{Slot}
use Rattle.lat_model.specs.sessions.Calls.{Call}
use Rattle.lat_model.specs.ends.End.{End, Step, lives, call_end, finish}
use Rattle.lat_model.specs.ends.Timers.{note_empty, time_step}
use Rattle.lat_model.specs.ends.Run.{run_end}
use Rattle.lat_model.specs.ends.Starting.{Agreed, reply_end, make_slave, again_start, hear_reply, hear_stop}
use Rattle.lat_model.specs.circuits.World.{CircuitEntry, Table, first_end}
use Rattle.lat_model.specs.numbers.Link.{Frame}
use Rattle.lat_model.specs.circuits.Arriving.{is_of, living, slave_of}
use Rattle.lat_model.proofs.sessions.Words.{upd_same, upd_other}
use Rattle.lat_model.proofs.circuits.Kin.{Kin, kin_time, kin_run, kin_again, kin_stop}
use Rattle.lat_model.specs.circuits.Ids.{is_drawn, next_id, ids}
use Rattle.lat_model.proofs.circuits.Ids.{drawn_apart, drawn_behind}
use Rattle.lat_machines.specs.values.Messages.{Head, StartInfo}
use Rattle.lat_machines.specs.values.Events.{Numbers}
use Rattle.lat_machines.specs.values.Answers.{Again, Running}
use Rattle.lat_machines.specs.values.Answers as Answers
use Rattle.lat_machines.specs.values.Timing.{agreed_by}
use Rattle.lat_machines.specs.cores.Acts.{Acted, idle, put_at, steps_at, move_at, called}
use Rattle.lat_machines.specs.cores.Hearing.{HeardAct, foreign, names, fits_kind, numbers_at, run_frame, run_at, hear_run, hear_stop_at, Makes, Repeats, Refuses, start_at}
use Rattle.lat_machines.specs.cores.Cores.{Core, Side, with_circuits, setup_of}
use Rattle.lat_machines.specs.server.Server.{ServerConfig, server_side}
use Rattle.lat_machines.specs.node.Node.{NodeConfig, node_side}
use Rattle.lat_laws.proofs.rounds.carried.Kinds.{least_passes}
use Rattle.lat_laws.proofs.rounds.ready.Traverse.{Keeps, KeepsServer, KeepsNode}
use Rattle.lat_laws.proofs.rounds.ready.Firsts.{Anything}

-- the circuit x with this address, whose end is such a one
pub record HasEnd (x : ℕ) (home : ℕ) (P : End → Type 0) (c : Core) : Type 0 where
  pub drawn : is_drawn c.circuits x ≡ true
  pub address : (c.circuits.circuit_at x).address ≡ home
  pub end : P (c.circuits.circuit_at x).end

-- an invariant of a server's core, or of a node's, at all moments
pub record AlwaysServer (config : ServerConfig) (Q : Core → Type 0) : Type 0 where
  pub keeps : KeepsServer config Anything Q
  pub any : (n : ℕ) → keeps.acts.within n ≡ true

pub record AlwaysNode (config : NodeConfig) (Q : Core → Type 0) : Type 0 where
  pub keeps : KeepsNode config Anything Q
  pub any : (n : ℕ) → keeps.acts.within n ≡ true

-- what the steps of an end that lives keep of it
pub record KeepsEnd (P : End → Type 0) : Type 0 where
  pub empties : (n : ℕ) (e : End) → P e → P (record e { empty_at = n })
  pub calls : (k : Call) (e : End) → lives e ≡ true → P e → P (call_end k e)
  pub moves : (n : ℕ) (e : End) → lives e ≡ true → P e → P (record e { moment = n })
  pub times : (n : ℕ) (e : End) → lives e ≡ true → P e → P (time_step n e).end
  pub runs : (n : ℕ) (a : Bool) (f : Frame (List Slot)) (e : End) → lives e ≡ true → P e → P (run_end n a f e).step.end
  pub stops : (n r : ℕ) (e : End) → lives e ≡ true → P e → P (hear_stop n r e).end
  pub ends : (r : ℕ) (e : End) → lives e ≡ true → P e → P (finish r e).end

module _ (P : End → Type 0) (k : KeepsEnd P) (x : ℕ) (home : ℕ) where
  abbrev At : Core → Type 0
  At c = HasEnd x home P c

  -- a step of a circuit that lives
  steps_keep : (b : Bool) (c : Core) (y : ℕ) (s : Step) → ((e : End) → e ≡ (c.circuits.circuit_at y).end → P e → P s.end) → At c → At (with_circuits c (steps_at b c.circuits y s).table)
  steps_keep b c y s h g = go (nat_eq x y) refl
    where
      go : (n : Bool) → nat_eq x y ≡ n → At (with_circuits c (steps_at b c.circuits y s).table)
      go true q =
          let same : x ≡ y = eqb-true x y q in
          let old : HasEnd y home P c = subst (λ z. HasEnd z home P c) same g in
          let e : End = (note_empty (c.circuits.circuit_at y).end s).end in
          subst (λ z. HasEnd z home P (with_circuits c (steps_at b c.circuits y s).table)) (sym same) (record {
            drawn = old.drawn;
            address = ap (λ (z : CircuitEntry). z.address) (upd_same c.circuits.circuit_at y (record { address = (c.circuits.circuit_at y).address; end = e })) ∙ old.address;
            end = subst (λ (z : CircuitEntry). P z.end) (sym (upd_same c.circuits.circuit_at y (record { address = (c.circuits.circuit_at y).address; end = e }))) (k.empties e.empty_at s.end (h (c.circuits.circuit_at y).end refl old.end));
          })
      go false q =
          let same : (steps_at b c.circuits y s).table.circuit_at x ≡ c.circuits.circuit_at x = upd_other c.circuits.circuit_at y _ x (eqb-false x y q) in
          record { drawn = g.drawn; address = ap (λ (z : CircuitEntry). z.address) same ∙ g.address; end = subst (λ (z : CircuitEntry). P z.end) (sym same) g.end }

  act_keeps : (c : Core) (n : Bool) (a b : Acted) → (n ≡ true → At (with_circuits c a.table)) → At (with_circuits c b.table) → At (with_circuits c (cond n a b).table)
  act_keeps c true a b f g = f refl
  act_keeps c false a b f g = g

  heard_keeps : (c : Core) (n : Bool) (a b : HeardAct) → (n ≡ true → At (with_circuits c a.act.table)) → At (with_circuits c b.act.table) → At (with_circuits c (cond n a b).act.table)
  heard_keeps c true a b f g = f refl
  heard_keeps c false a b f g = g

  -- a new circuit
  new_keeps : (b : Bool) (c : Core) (a : ℕ) (s : Step) → At c → At (with_circuits c (put_at b c.circuits (suc c.circuits.drawn) (next_id c.circuits) a s).table)
  new_keeps b c a s g =
      let same : (put_at b c.circuits (suc c.circuits.drawn) (next_id c.circuits) a s).table.circuit_at x ≡ c.circuits.circuit_at x = upd_other c.circuits.circuit_at (next_id c.circuits) (record { address = a; end = s.end }) x (drawn_apart c.circuits.first c.circuits.drawn x g.drawn) in
      record { drawn = drawn_behind c.circuits.first c.circuits.drawn x g.drawn; address = ap (λ (z : CircuitEntry). z.address) same ∙ g.address; end = subst (λ (z : CircuitEntry). P z.end) (sym same) g.end }

  alive_at : (c : Core) (y : ℕ) (s : Step) (b : Bool) → lives (c.circuits.circuit_at y).end ≡ true → ((e : End) → lives e ≡ true → P e → e ≡ (c.circuits.circuit_at y).end → P s.end) → At c → At (with_circuits c (steps_at b c.circuits y s).table)
  alive_at c y s b l h g = steps_keep b c y s (λ e q p. h e (ap lives q ∙ l) p q) g

  acts_keep : (side : Side) → Keeps side At
  acts_keep side = record {
    within = λ n. true;
    moment = λ c now q g. record { drawn = g.drawn; address = g.address; end = g.end };
    sits = λ c ss g. record { drawn = g.drawn; address = g.address; end = g.end };
    renames = λ c ns g. record { drawn = g.drawn; address = g.address; end = g.end };
    calls = λ c y z g. (let s : Step = record { end = call_end z (c.circuits.circuit_at y).end; sent = [] } in act_keeps c (lives (c.circuits.circuit_at y).end) (steps_at side.server c.circuits y s) (idle c.circuits) (λ l. alive_at c y s side.server l (λ e a p q. subst (λ w. P (call_end z w)) q (k.calls z e a p)) g) g);
    times = λ c y g. (let s : Step = time_step c.moment (c.circuits.circuit_at y).end in act_keeps c (lives (c.circuits.circuit_at y).end) (steps_at side.server c.circuits y s) (idle c.circuits) (λ l. alive_at c y s side.server l (λ e a p q. subst (λ w. P (time_step c.moment w).end) q (k.times c.moment e a p)) g) g);
    runs = λ c from wide h slots n g. runs side.server c from wide h slots n g;
    stops = λ c from to source reason g. stops side.server c from to source reason g;
    ends = λ c y r g. (let s : Step = finish r (c.circuits.circuit_at y).end in act_keeps c (lives (c.circuits.circuit_at y).end) (steps_at side.server c.circuits y s) (idle c.circuits) (λ l. alive_at c y s side.server l (λ e a p q. subst (λ w. P (finish r w).end) q (k.ends r e a p)) g) g);
  }
    where
      moved : (b : Bool) (c : Core) (y : ℕ) → At c → At (with_circuits c (move_at b c.circuits y c.moment).table)
      moved b c y g =
          let s : Step = record { end = record ((c.circuits.circuit_at y).end) { moment = c.moment }; sent = [] } in
          act_keeps c (lives (c.circuits.circuit_at y).end) (steps_at b c.circuits y s) (idle c.circuits) (λ l. alive_at c y s b l (λ e a p q. subst (λ (w : End). P (record w { moment = c.moment })) q (k.moves c.moment e a p)) g) g

      alive_named : (t : Table) (from to source : ℕ) → names t from to source ≡ true → lives (t.circuit_at to).end ≡ true
      alive_named t from to source i = (and_parts (is_of (t.circuit_at to) from source) (lives (t.circuit_at to).end) (and_parts (is_of (t.circuit_at to) from source && lives (t.circuit_at to).end) (t.circuit_at to).end.running i).0).1

      runs : (b : Bool) (c : Core) (from : ℕ) (wide : Bool) (h : Head) (slots : List Slot) (n : Option Numbers) → At c → At (with_circuits c (hear_run b c.circuits from wide h slots n c.moment).act.table)
      runs b c from wide h slots n g =
          let e : End = (c.circuits.circuit_at h.to).end in
          let f : Frame (List Slot) = run_frame (numbers_at e h n) slots in
          let s : Step = (run_end c.moment h.ask f e).step in
          heard_keeps c (names c.circuits from h.to h.from) (run_at b c.circuits h.to (fits_kind e h.master wide) c.moment h.ask f) (foreign c.circuits)
          (λ i. heard_keeps c (fits_kind e h.master wide) _ _ (λ j. alive_at c h.to s b (alive_named c.circuits from h.to h.from i) (λ d a p q. subst (λ w. P (run_end c.moment h.ask f w).step.end) q (k.runs c.moment h.ask f d a p)) g) (moved b c h.to g))
          g

      stops : (b : Bool) (c : Core) (from to source reason : ℕ) → At c → At (with_circuits c (hear_stop_at b c.circuits from to source c.moment reason).act.table)
      stops b c from to source reason g =
          let y : CircuitEntry = c.circuits.circuit_at to in
          let s : Step = hear_stop c.moment reason y.end in
          heard_keeps c (nat_eq y.address from && (nat_eq y.end.peer source || nat_eq source 0) && lives y.end) (record { act = steps_at b c.circuits to s; answer = Answers.Ended reason }) (foreign c.circuits)
          (λ i. alive_at c to s b (and_parts (nat_eq y.address from && (nat_eq y.end.peer source || nat_eq source 0)) (lives y.end) i).1 (λ e a p q. subst (λ w. P (hear_stop c.moment reason w).end) q (k.stops c.moment reason e a p)) g)
          g

  server_steady : (config : ServerConfig) → ((n s : ℕ) (g : Agreed) (e : End) → lives e ≡ true → P e → P (hear_reply n s g e).end) → KeepsServer config Anything At
  server_steady config replies = record {
    acts = acts_keep (server_side config);
    opens = λ c a g. new_keeps true c a (called (setup_of config.timing) c.moment) g;
    replies = λ c from to source info s g. (
        let y : CircuitEntry = c.circuits.circuit_at to in
        let a : Agreed = agreed_by config.timing info in
        let t : Step = hear_reply c.moment source a y.end in
        heard_keeps c (nat_eq y.address from && lives y.end && (not y.end.running || nat_eq y.end.peer source)) (record { act = steps_at true c.circuits to t; answer = cond y.end.running Again Running }) (foreign c.circuits)
        (λ i. alive_at c to t true (and_parts (nat_eq y.address from) (lives y.end) (and_parts (nat_eq y.address from && lives y.end) (not y.end.running || nat_eq y.end.peer source) i).0).1 (λ e l p q. subst (λ w. P (hear_reply c.moment source a w).end) q (replies c.moment source a e l p)) g)
        g);
  }

  node_steady : (config : NodeConfig) → ((n : ℕ) (e : End) → lives e ≡ true → P e → P (again_start n e).end) → KeepsNode config Anything At
  node_steady config again = record {
    acts = acts_keep (node_side config);
    starts = λ c from source info s g. starts c from source info g (nat_eq (slave_of c.circuits from source) 0) refl (nat_lt (living c.circuits) 8 && nat_lt c.circuits.drawn 65535);
  }
    where
      starts : (c : Core) (from source : ℕ) (info : StartInfo) → At c → (a : Bool) → nat_eq (slave_of c.circuits from source) 0 ≡ a → (b : Bool) → At (with_circuits c (start_at (setup_of config.timing) c.circuits from source c.moment (agreed_by config.timing info) (cond a (cond b (Makes (next_id c.circuits)) Refuses) (Repeats (slave_of c.circuits from source)))).table)
      starts c from source info g true z true = new_keeps false c from (make_slave c.moment source (agreed_by config.timing info) (first_end false false (setup_of config.timing))) g
      starts c from source info g true z false = record { drawn = g.drawn; address = g.address; end = g.end }
      starts c from source info g false z b =
          let y : ℕ = slave_of c.circuits from source in
          let s : Step = again_start c.moment (c.circuits.circuit_at y).end in
          alive_at c y s false (and_parts (is_of (c.circuits.circuit_at y) from source) (lives (c.circuits.circuit_at y).end) (least_passes (λ i. is_of (c.circuits.circuit_at i) from source && lives (c.circuits.circuit_at i).end) (ids c.circuits) (eqb-false y 0 z))).1
          (λ e l p q. subst (λ w. P (again_start c.moment w).end) q (again c.moment e l p)) g

  server_any : (config : ServerConfig) (r : (n s : ℕ) (g : Agreed) (e : End) → lives e ≡ true → P e → P (hear_reply n s g e).end) (n : ℕ) → (server_steady config r).acts.within n ≡ true
  unfolding server_steady acts_keep
  server_any config r n = refl

  node_any : (config : NodeConfig) (r : (n : ℕ) (e : End) → lives e ≡ true → P e → P (again_start n e).end) (n : ℕ) → (node_steady config r).acts.within n ≡ true
  unfolding node_steady acts_keep
  node_any config r n = refl

  pub server_always : (config : ServerConfig) → ((n s : ℕ) (g : Agreed) (e : End) → lives e ≡ true → P e → P (hear_reply n s g e).end) → AlwaysServer config At
  server_always config r = record { keeps = server_steady config r; any = server_any config r }

  pub node_always : (config : NodeConfig) → ((n : ℕ) (e : End) → lives e ≡ true → P e → P (again_start n e).end) → AlwaysNode config At
  node_always config r = record { keeps = node_steady config r; any = node_any config r }

-- a circuit that runs, with this peer

abbrev pub RunsTo : ℕ → End → Type 0
RunsTo q e = (e.running ≡ true) × (e.peer ≡ q)

runs_kin : (q : ℕ) (e f : End) → Kin e f → RunsTo q e → RunsTo q f
runs_kin q e f k p = (k.running ∙ p.0, k.peer ∙ p.1)

pub runs_keep : (q : ℕ) → KeepsEnd (RunsTo q)
runs_keep q = record {
  empties = λ n e p. p;
  calls = λ k e l p. p;
  moves = λ n e l p. p;
  times = λ n e l p. runs_kin q e (time_step n e).end (kin_time n e) p;
  runs = λ n a f e l p. runs_kin q e (run_end n a f e).step.end (kin_run n a f e) p;
  stops = λ n r e l p. runs_kin q e (hear_stop n r e).end (kin_stop n r e) p;
  ends = λ r e l p. p;
}

pub runs_reply : (q n s : ℕ) (g : Agreed) (e : End) → lives e ≡ true → RunsTo q e → RunsTo q (hear_reply n s g e).end
runs_reply q n s g e l p = go (lives e) e.running p.0
  where
    go : (a b : Bool) → b ≡ true → RunsTo q (cond {A = Step} a (cond b (record { end = record e { moment = n; heard_at = n }; sent = [] }) (record { end = reply_end n s g e; sent = [] })) (record { end = e; sent = [] })).end
    go true true r = p
    go true false r = absurd (false≢true r)
    go false b r = p

-- a slave with this peer

abbrev pub SlaveOf : ℕ → End → Type 0
SlaveOf p e = (e.master ≡ false) × (e.peer ≡ p)

slave_kin : (p : ℕ) (e f : End) → Kin e f → SlaveOf p e → SlaveOf p f
slave_kin p e f k h = (k.master ∙ h.0, k.peer ∙ h.1)

pub slave_keeps : (p : ℕ) → KeepsEnd (SlaveOf p)
slave_keeps p = record {
  empties = λ n e h. h;
  calls = λ k e l h. h;
  moves = λ n e l h. h;
  times = λ n e l h. slave_kin p e (time_step n e).end (kin_time n e) h;
  runs = λ n a f e l h. slave_kin p e (run_end n a f e).step.end (kin_run n a f e) h;
  stops = λ n r e l h. slave_kin p e (hear_stop n r e).end (kin_stop n r e) h;
  ends = λ r e l h. h;
}

-- one that has ended

abbrev pub Ended : End → Type 0
Ended e = lives e ≡ false

ended_not : {A : Type 0} → (e : End) → lives e ≡ true → Ended e → A
ended_not e l d = absurd (true≢false (sym l ∙ d))

pub ended_keeps : KeepsEnd Ended
ended_keeps = record {
  empties = λ n e d. d;
  calls = λ k e l d. ended_not e l d;
  moves = λ n e l d. ended_not e l d;
  times = λ n e l d. ended_not e l d;
  runs = λ n a f e l d. ended_not e l d;
  stops = λ n r e l d. ended_not e l d;
  ends = λ r e l d. ended_not e l d;
}

pub slave_again : (p n : ℕ) (e : End) → lives e ≡ true → SlaveOf p e → SlaveOf p (again_start n e).end
slave_again p n e l h = slave_kin p e (again_start n e).end (kin_again n e) h

pub ended_reply : (n s : ℕ) (g : Agreed) (e : End) → lives e ≡ true → Ended e → Ended (hear_reply n s g e).end
ended_reply n s g e l d = ended_not e l d

pub ended_again : (n : ℕ) (e : End) → lives e ≡ true → Ended e → Ended (again_start n e).end
ended_again n e l d = ended_not e l d

-- any at all

abbrev pub AnyEnd : End → Type 0
AnyEnd e = Unit {0}

pub any_keeps : KeepsEnd AnyEnd
any_keeps = record { empties = λ n e p. tt; calls = λ k e l p. tt; moves = λ n e l p. tt; times = λ n e l p. tt; runs = λ n a f e l p. tt; stops = λ n r e l p. tt; ends = λ r e l p. tt }
