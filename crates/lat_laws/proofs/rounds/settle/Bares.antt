-- A slave hears a RUN without slots, and what the node answers then does not throw it back.
use Rattle.std.proofs.Common.{◌≡◌, ℕ, ◌≤◌, sym, ap, ◌∙◌, refl, subst, arith, Bool, true, false, cond, ◌||◌, List, [], length, Option, Some, None, nat_eq, nat_lt}
use Rattle.lat_model.specs.sessions.Slots.{Slot}
use Rattle.lat_model.specs.sessions.Packing.{pack}
use Rattle.lat_model.specs.sessions.Calls.{Answer}
use Rattle.lat_model.specs.Lists.{is_empty}
use Rattle.lat_model.specs.numbers.Link.{Link, bare_frame, window_open, ack_in}
use Rattle.lat_model.specs.ends.End.{End, still, lives, finish, acknowledge, send_bare, send_message, occasion}
use Rattle.lat_model.specs.ends.Run.{RunBroke, ack_end, body_end, after_run, run_end}
use Rattle.lat_model.specs.ends.Timers.{note_empty}
use Rattle.lat_model.specs.circuits.World.{CircuitEntry, Table}
use Rattle.lat_model.proofs.sessions.Words.{upd_same}
use Rattle.lat_model.specs.circuits.Ids.{is_drawn}
use Rattle.lat_machines.specs.values.Addresses.{everyone}
use Rattle.lat_machines.specs.values.Messages.{Head, RunMessage, WideMessage}
use Rattle.lat_machines.specs.values.Frames.{Value, OfCircuit, Whole}
use Rattle.lat_machines.specs.values.Runs.{run_head}
use Rattle.lat_machines.specs.values.Events.{Numbers, Hears}
use Rattle.lat_machines.specs.values.Answers.{Ignored}
use Rattle.lat_machines.specs.cores.Acts.{steps_at}
use Rattle.lat_machines.specs.cores.Hearing.{foreign, names, fits_kind, run_at, hear_run}
use Rattle.lat_machines.specs.cores.Cores.{at_moment}
use Rattle.lat_machines.specs.node.Node.{NodeConfig, Node, NodeStep, answers_asked, hears_run, hears_value, node_step}
use Rattle.lat_machines.specs.node.Node as N
use Rattle.lat_laws.specs.rounds.Measure.{weights}
use Rattle.lat_laws.specs.rounds.Counting.{sessions_in}
use Rattle.lat_laws.proofs.rounds.counting.Stays.{Past, Low, Onto, goes_kept, InRounds, goes_call}
use Rattle.lat_laws.proofs.rounds.counting.Tables.{turned_same, turned_then, run_turned, local_turned}
use Rattle.lat_laws.proofs.rounds.counting.Nodes.{asked_holds}
use Rattle.lat_laws.proofs.rounds.counting.Forth.{Drawn, On, on_holds}

-- what is answered throws no end back
asked_more : (config : NodeConfig) (x q : ℕ) (st : Node) → is_drawn st.core.circuits q ≡ true → Past (sessions_in st.core q) → Low (sessions_in st.core q) → weights (sessions_in st.core q) ≤ weights (sessions_in (answers_asked config x st).core q)
asked_more config x q st d p l =
    let n : ℕ → Bool = is_drawn st.core.circuits in
    let t : On st.core (answers_asked config x st).core = asked_holds n (Drawn n) InRounds (On st.core) (on_holds false st.core) config
    (λ s y id line request w h. turned_then n false (Drawn n) (goes_kept n false) st.core.circuits s.core.circuits _ h (local_turned n false (Drawn n) (goes_kept n false) false s.core.circuits y (Answer id) (λ k. goes_call (s.core.circuits.circuit_at y).end.half.sessions (Answer id) tt)))
    (λ id reason. tt) x st (turned_same n false (Drawn n) (goes_kept n false) st.core.circuits) in
    (let o : Onto (sessions_in st.core q) (sessions_in (answers_asked config x st).core q) = t.at q d p in o.rises l).1

-- a frame without slots, of this link
abbrev pub bare_numbers : Link (List Slot) → Option Numbers
bare_numbers l = Some (record { number = (bare_frame l).number; acknowledgement = (bare_frame l).acknowledgement })

module _ (config : NodeConfig) (st : Node) (q p from W : ℕ) (wide y : Bool) (l : Link (List Slot)) (named : names st.core.circuits from q p ≡ true) (fits : fits_kind (st.core.circuits.circuit_at q).end true wide ≡ true) (drawn : is_drawn st.core.circuits q ≡ true) (past : Past (sessions_in st.core q)) (low : Low (sessions_in st.core q)) (brings : (t : ℕ) → W ≤ weights (run_end t false (bare_frame l) (st.core.circuits.circuit_at q).end).step.end.half.sessions) where
  abbrev h : Head
  h = run_head true y false q p (bare_frame l)

  abbrev t : Table
  t = st.core.circuits

  abbrev now : ℕ
  now = st.core.moment

  abbrev e : End
  e = (st.core.circuits.circuit_at q).end

  abbrev heard : NodeStep
  heard = N.heard_at config st (hear_run false t from wide h [] (bare_numbers l) now)

  table_is : heard.state.core.circuits ≡ (steps_at false t q (run_end now false (bare_frame l) e).step).table
  table_is =
      ap (λ b. (cond b (run_at false t q (fits_kind e true wide) now false (bare_frame l)) (foreign t)).act.table) named
      ∙ ap (λ b. (run_at false t q b now false (bare_frame l)).act.table) fits

  sessions_is : sessions_in heard.state.core q ≡ (run_end now false (bare_frame l) e).step.end.half.sessions
  sessions_is =
      ap (λ (x : Table). (x.circuit_at q).end.half.sessions) table_is
      ∙ ap (λ (c : CircuitEntry). c.end.half.sessions) (upd_same t.circuit_at q (record { address = (t.circuit_at q).address; end = (note_empty e (run_end now false (bare_frame l) e).step).end }))

  onto : Onto (sessions_in st.core q) (sessions_in heard.state.core q)
  onto = (run_turned (is_drawn t) false (Drawn (is_drawn t)) (goes_kept (is_drawn t) false) false t from wide h [] (bare_numbers l) now).at q drawn past

  more : (b : Bool) → weights (sessions_in heard.state.core q) ≤ weights (sessions_in (cond b (answers_asked config q heard.state) heard.state).core q)
  more true = asked_more config q q heard.state ((run_turned (is_drawn t) false (Drawn (is_drawn t)) (goes_kept (is_drawn t) false) false t from wide h [] (bare_numbers l) now).drawn q drawn) onto.past (onto.rises low).0
  more false = omega arith

  pub run_brings : W ≤ weights (sessions_in (hears_run config st from wide h [] (bare_numbers l)).state.core q)
  run_brings = omega (arith, brings now, ap weights sessions_is, more (names st.core.circuits from q p))

-- the same of a value, at its moment
pub hears_bare : (config : NodeConfig) (rates : List ℕ) (st : Node) (q p from now W : ℕ) (z y : Bool) (l : Link (List Slot)) → nat_eq from everyone ≡ false → names st.core.circuits from q p ≡ true → fits_kind (st.core.circuits.circuit_at q).end true z ≡ true → is_drawn st.core.circuits q ≡ true → Past (sessions_in st.core q) → Low (sessions_in st.core q) → ((t : ℕ) → W ≤ weights (run_end t false (bare_frame l) (st.core.circuits.circuit_at q).end).step.end.half.sessions) → W ≤ weights (sessions_in (node_step config rates st (Hears from (Whole (OfCircuit (cond z (WideMessage (run_head true y false q p (bare_frame l)) []) (RunMessage (run_head true y false q p (bare_frame l)) [])))) (bare_numbers l) now)).state.core q)
hears_bare config rates st q p from now W z y l other named fits drawn past low brings = subst (λ b. W ≤ weights (sessions_in (cond b (N.tells s Ignored) (hears_value config rates s from (value z) (bare_numbers l))).state.core q)) (sym other) (go z fits)
  where
    s : Node
    s = record st { core = at_moment now st.core }

    value : Bool → Value
    value z = OfCircuit (cond z (WideMessage (run_head true y false q p (bare_frame l)) []) (RunMessage (run_head true y false q p (bare_frame l)) []))

    go : (z : Bool) → fits_kind (st.core.circuits.circuit_at q).end true z ≡ true → W ≤ weights (sessions_in (hears_value config rates (record st { core = at_moment now st.core }) from (OfCircuit (cond z (WideMessage (run_head true y false q p (bare_frame l)) []) (RunMessage (run_head true y false q p (bare_frame l)) []))) (bare_numbers l)).state.core q)
    go true f = run_brings config (record st { core = at_moment now st.core }) q p from W true y l named f drawn past low brings
    go false f = run_brings config (record st { core = at_moment now st.core }) q p from W false y l named f drawn past low brings

-- when its last session became free is nothing to such a RUN

settle_same : (e : End) → (acknowledge e).end.half.sessions ≡ e.half.sessions
settle_same e = go e.owed
  where
    go : (b : Bool) → (cond b (send_bare false e) (still e)).end.half.sessions ≡ e.half.sessions
    go true = refl
    go false = refl

occasion_empty : (e : End) (n : ℕ) → (occasion (record e { empty_at = n })).end.half.sessions ≡ (occasion e).end.half.sessions
occasion_empty e n = go (window_open e.window e.half.link) (is_empty (pack e.room e.half.sessions).slots)
  where
    d : End
    d = record e { empty_at = n }

    settled : (acknowledge (record e { empty_at = n })).end.half.sessions ≡ (acknowledge e).end.half.sessions
    settled = settle_same (record e { empty_at = n }) ∙ sym (settle_same e)

    go : (a b : Bool) → (cond a (cond b (acknowledge (record e { empty_at = n })) (send_message (pack e.room e.half.sessions) (record e { empty_at = n }))) (acknowledge (record e { empty_at = n }))).end.half.sessions ≡ (cond a (cond b (acknowledge e) (send_message (pack e.room e.half.sessions) e)) (acknowledge e)).end.half.sessions
    go true true = settled
    go true false = refl
    go false b = settled

slave_empty : (e : End) (n : ℕ) → (after_run (record { step = still (record e { empty_at = n }); answer = RunBroke })).step.end.half.sessions ≡ (after_run (record { step = still e; answer = RunBroke })).step.end.half.sessions
slave_empty e n = go (lives e) e.master
  where
    go : (a b : Bool) → (cond a (cond b (still (record e { empty_at = n })) (occasion (record e { empty_at = n }))) (still (record e { empty_at = n }))).end.half.sessions ≡ (cond a (cond b (still e) (occasion e)) (still e)).end.half.sessions
    go true true = refl
    go true false = occasion_empty e n
    go false b = refl

ack_empty : (a : ℕ) (e : End) (n : ℕ) → ack_end a (record e { empty_at = n }) ≡ record (ack_end a e) { empty_at = n }
ack_empty a e n = go (nat_lt e.half.link.known a)
  where
    go : (b : Bool) → cond b (record e { half = record (e.half) { link = ack_in e.half.link a }; rounds = 0; since = e.moment; empty_at = n }) (record e { half = record (e.half) { link = ack_in e.half.link a }; empty_at = n }) ≡ record (cond b (record e { half = record (e.half) { link = ack_in e.half.link a }; rounds = 0; since = e.moment }) (record e { half = record (e.half) { link = ack_in e.half.link a } })) { empty_at = n }
    go true = refl
    go false = refl

pub run_empty : (t n : ℕ) (l : Link (List Slot)) (e : End) → (run_end t false (bare_frame l) (record e { empty_at = n })).step.end.half.sessions ≡ (run_end t false (bare_frame l) e).step.end.half.sessions
run_empty t n l e = go (nat_lt (length e.half.link.sent) (bare_frame l).acknowledgement)
  where
    d : End
    d = record e { moment = t; heard_at = t; heard_run = true }

    a : ℕ
    a = (bare_frame l).acknowledgement

    heard : (after_run (body_end (bare_frame l).number false None (ack_end (bare_frame l).acknowledgement (record e { moment = t; heard_at = t; heard_run = true; empty_at = n })))).step.end.half.sessions ≡ (after_run (body_end (bare_frame l).number false None (ack_end (bare_frame l).acknowledgement (record e { moment = t; heard_at = t; heard_run = true })))).step.end.half.sessions
    heard =
        ap (λ z. (after_run (body_end (bare_frame l).number false None z)).step.end.half.sessions) (ack_empty (bare_frame l).acknowledgement (record e { moment = t; heard_at = t; heard_run = true }) n)
        ∙ slave_empty (record (ack_end (bare_frame l).acknowledgement (record e { moment = t; heard_at = t; heard_run = true })) { owed = (ack_end (bare_frame l).acknowledgement (record e { moment = t; heard_at = t; heard_run = true })).owed || false }) n

    go : (b : Bool) → (cond b (record { step = finish 2 (record e { moment = t; heard_at = t; heard_run = true; empty_at = n }); answer = RunBroke }) (after_run (body_end (bare_frame l).number false None (ack_end (bare_frame l).acknowledgement (record e { moment = t; heard_at = t; heard_run = true; empty_at = n }))))).step.end.half.sessions ≡ (cond b (record { step = finish 2 (record e { moment = t; heard_at = t; heard_run = true }); answer = RunBroke }) (after_run (body_end (bare_frame l).number false None (ack_end (bare_frame l).acknowledgement (record e { moment = t; heard_at = t; heard_run = true }))))).step.end.half.sessions
    go true = refl
    go false = heard
