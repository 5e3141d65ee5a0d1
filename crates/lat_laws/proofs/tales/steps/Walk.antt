-- What every event of a core keeps, where each of its acts does. A session is opened, or accepted, on a line without one.
use Rattle.std.proofs.Common.{◌≡◌, ◌≢◌, ℕ, zero, suc, ◌+◌, ◌≤◌, refl, sym, ap, ◌∙◌, subst, arith, Bool, true, false, not, cond, ◌&&◌, List, [], ◌∷◌, ◌++◌, length, Option, Some, None, nat_eq, nat_lt, nat_le, find}
use Rattle.std.proofs.lemmas.Bool.{eqb-false, and_from, lt-ltb, le-leb, not-true}
use Rattle.std.specs.List.{list_any}
use Rattle.lat_model.specs.sessions.Slots.{Slot}
use Rattle.lat_model.specs.sessions.Session.{Session, waits, put_open, take_open, unframed}
use Rattle.lat_model.specs.sessions.Sessions.{least_free}
use Rattle.lat_model.specs.sessions.Calls.{Call, Put, Set, Attend, Take, Close, RejectAsk}
use Rattle.lat_model.specs.sessions.Calls as Calls
use Rattle.lat_model.specs.Lists.{upwards, Each}
use Rattle.lat_model.specs.ends.End.{lives, call_end}
use Rattle.lat_model.specs.ends.Timers.{note_empty}
use Rattle.lat_model.specs.ends.Starting.{Agreed}
use Rattle.lat_model.specs.circuits.World.{CircuitEntry, Table}
use Rattle.lat_model.specs.circuits.Arriving.{living, slave_of}
use Rattle.lat_model.proofs.sessions.Words.{upd_same}
use Rattle.lat_model.specs.circuits.Ids.{ids, next_id}
use Rattle.lat_machines.specs.values.Names.{Name, same}
use Rattle.lat_machines.specs.values.Addresses.{everyone}
use Rattle.lat_machines.specs.values.Messages.{Head, StartInfo, RunMessage, WideMessage, StartMessage, StopMessage}
use Rattle.lat_machines.specs.values.Notices.{Kept, KeptAs, Unknown, Action, Ask, Cancel, Command, AnnouncementNotice, CommandNotice, StatusNotice, SolicitNotice, ResponseNotice}
use Rattle.lat_machines.specs.values.Frames.{Value, OfCircuit, OfNotice, Whole, Malformed}
use Rattle.lat_machines.specs.values.Timing.{agreed_by}
use Rattle.lat_machines.specs.values.Keys.{Key}
use Rattle.lat_machines.specs.values.Events.{Numbers, Event, Hears, Time, Connects, Puts, Sets, Takes, Attends, Closes, Requests, Withdraws, Announces, Avoids, Readies, Halts}
use Rattle.lat_machines.specs.values.Answers.{Answer, Done, Connected, Ignored, Closed, Busy, NoLine, SessionsFull, CircuitsFull, IdsOut, IdUsed, NotKept, KeptIs, Full, Halted}
use Rattle.lat_machines.specs.server.Directory.{Best, best}
use Rattle.lat_machines.specs.server.Queue.{Cancels, Request, next_request}
use Rattle.lat_machines.specs.server.Records.{kept_for}
use Rattle.lat_machines.specs.cores.Acts.{idle, steps_at, time_at, local_at, end_at}
use Rattle.lat_machines.specs.cores.Hearing.{names, hear_run, hear_stop_at, hear_reply_at, StartFact, Makes, Repeats, Refuses, start_fact, start_at, outlive_at, outlive}
use Rattle.lat_machines.specs.cores.Cores.{Seat, Core, Side, Doing, rests, then_doing, acts, with_circuits, setup_of, at_moment, time_each, circuit_to, end_each}
use Rattle.lat_machines.specs.cores.Lines.{session_of, seat_at, has_session, line_exists}
use Rattle.lat_machines.specs.cores.LineCalls.{Said, says, calls_on, put_on, set_on, attend_on, take_on, close_on, on_line}
use Rattle.lat_machines.specs.server.Server.{ServerConfig, Server, ServerStep, server_side, offer_on, tells, does, has_room, may_call, can_open, opens, connects_to, solicits_for, connect_event, status_frame, key_of, hears_command, hears_value, server_event, finished_requests, Passing, fitting, grantable, grants_by, grant_line, grant_lines, server_step, grantable_on}
use Rattle.lat_machines.specs.node.Node.{NodeConfig, Node, NodeStep, Requested, node_side, request_of, Verdict, Accepts, Rejects, on_free_line, free_line, verdict, was_requested, is_offered, judged, asked_at, answers_one, answers_in, asked_on, answers_asked, requests_again, withdraws, solicited, hears_run, hears_start, node_step, turns_away, starts, makes_way}
use Rattle.lat_machines.specs.node.Node as N
use Rattle.lat_machines.proofs.queue.Rooms.{least_in, least_true}
use Rattle.lat_laws.proofs.rounds.counting.Cores.{EventAllows}
use Rattle.lat_machines.proofs.queue.Legal.{grantable_ready}

-- each act of a core, with the calls that are allowed
pub record Acts (k : Side) (A : Call → Type 0) (Q : Core → Type 0) : Type 0 where
  pub moment : (c : Core) (now : ℕ) → Q c → Q (at_moment now c)
  pub renames : (c : Core) (ns : ℕ → Name) → Q c → Q (record c { names = ns })
  pub calls : (c : Core) (x : ℕ) (y : Call) → A y → Q c → Q (with_circuits c (local_at k.server c.circuits x y).table)
  pub times : (c : Core) (x : ℕ) → Q c → Q (with_circuits c (time_at k.server c.circuits x c.moment).table)
  pub ends : (c : Core) (x r : ℕ) → Q c → Q (with_circuits c (end_at k.server c.circuits x r).table)
  pub runs : (c : Core) (from : ℕ) (wide : Bool) (h : Head) (slots : List Slot) (n : Option Numbers) → Q c → Q (with_circuits c (hear_run k.server c.circuits from wide h slots n c.moment).act.table)
  pub stops : (c : Core) (from to source reason : ℕ) → Q c → Q (with_circuits c (hear_stop_at k.server c.circuits from to source c.moment reason).act.table)

-- `P` holds until the acts of an event are done, `Q` while sessions are opened or answered behind them. `O` is what is known
-- of a machine that isn't halted: no other one opens sessions or makes circuits
pub record ServerActs (config : ServerConfig) (A : Call → Type 0) (P : Core → Type 0) (Q : Core → Type 0) (O : Type 0) : Type 0 where
  pub acts : Acts (server_side config) A P
  pub replies : (c : Core) (from to source : ℕ) (g : Agreed) → P c → P (with_circuits c (hear_reply_at c.circuits from to source c.moment g).act.table)
  pub done : (c : Core) → P c → Q c
  pub opens : O → (line address : ℕ) (node service : Name) (key : Option Key) (request : Option ℕ) (c : Core) → can_open c address ≡ true → line_exists config.lines line ≡ true → has_session c line ≡ false → Q c → Q (opens config line address node service key request c).core

pub record NodeActs (config : NodeConfig) (A : Call → Type 0) (P : Core → Type 0) (Q : Core → Type 0) (O : Type 0) : Type 0 where
  pub acts : Acts (node_side config) A P
  pub starts : O → (c : Core) (from source : ℕ) (g : Agreed) → P c → P (with_circuits c (start_at (setup_of config.timing) c.circuits from source c.moment g (start_fact c.circuits from source)).table)
  pub lapses : (c : Core) (from source x : ℕ) → P c → P (with_circuits c (outlive_at from source x c.circuits))
  pub done : (c : Core) → P c → Q c
  pub accepts : (st : Node) (x id line : ℕ) (request : Option ℕ) (service : Name) → waits (asked_at st x id) ≡ true → verdict config st service request ≡ Accepts line → lives (st.core.circuits.circuit_at x).end ≡ true → line_exists config.lines line ≡ true → has_session st.core line ≡ false → Q st.core → Q (judged config st x id request (Accepts line)).core
  pub refuses : (c : Core) (x id reason : ℕ) → Q c → Q (with_circuits c (local_at false c.circuits x (RejectAsk id reason)).table)

-- what both cores do

said_cond : (Q : Core → Type 0) (n : Bool) (a b : Said) → Q a.core → Q b.core → Q (cond n a b).core
said_cond Q true a b p q = p
said_cond Q false a b p q = q

line_keeps : (Q : Core → Type 0) (lines : ℕ) (c : Core) (line : ℕ) (f : Seat → Said) → Q c → ((s : Seat) → Q (f s).core) → Q (on_line lines c line f).core
line_keeps Q lines c line f r p = said_cond Q (line_exists lines line) (cond (has_session c line) (f (seat_at c line)) (says c Closed)) (says c NoLine) (said_cond Q (has_session c line) (f (seat_at c line)) (says c Closed) (p (seat_at c line)) r) r

call_if : (A : Call → Type 0) (Q : Core → Type 0) (k : Side) → Acts k A Q → (c : Core) (s : Seat) (n : Bool) (x : Call) (a b : Answer) → A x → Q c → Q (cond n (says (calls_on k c s x) a) (says c b)).core
call_if A Q k h c s n x a b w r = said_cond Q n (says (calls_on k c s x) a) (says c b) (h.calls c s.circuit x w r) r

times_keep : (A : Call → Type 0) (Q : Core → Type 0) (k : Side) → Acts k A Q → (xs : List ℕ) (d : Doing) → Q d.core → Q (time_each k xs d).core
times_keep A Q k h [] d r = r
times_keep A Q k h (x ∷ xs) d r = times_keep A Q k h xs (then_doing d (λ c. acts k c (time_at k.server c.circuits x c.moment))) (h.times d.core x r)

ends_keep : (A : Call → Type 0) (Q : Core → Type 0) (k : Side) → Acts k A Q → (r : ℕ) (xs : List ℕ) (d : Doing) → Q d.core → Q (end_each k r xs d).core
ends_keep A Q k h r [] d q = q
ends_keep A Q k h r (x ∷ xs) d q = ends_keep A Q k h r xs (then_doing d (λ c. acts k c (end_at k.server c.circuits x r))) (h.ends d.core x r q)

module _ (A : Call → Type 0) (Q : Core → Type 0) (k : Side) (h : Acts k A Q) (lines : ℕ) (c : Core) (line : ℕ) (r : Q c) where
  put_keeps : (bytes : List ℕ) → ((id : ℕ) → A (Put id bytes)) → Q (on_line lines c line (λ s. put_on k c s bytes)).core
  put_keeps bytes w = line_keeps Q lines c line (λ s. put_on k c s bytes) r (λ s. call_if A Q k h c s (put_open (session_of c s)) (Put s.id bytes) _ Closed (w s.id) r)

  set_keeps : (setting : List ℕ) → ((id : ℕ) → A (Set id setting)) → Q (on_line lines c line (λ s. set_on k c s setting)).core
  set_keeps setting w = line_keeps Q lines c line (λ s. set_on k c s setting) r (λ s. said_cond Q (put_open (session_of c s)) _ (says c Closed) (call_if A Q k h c s (nat_lt (length (unframed (session_of c s))) 4096) (Set s.id setting) Done Full (w s.id) r) r)

  take_keeps : (n : ℕ) → ((id : ℕ) → A (Take id n)) → Q (on_line lines c line (λ s. take_on k c s n)).core
  take_keeps n w = line_keeps Q lines c line (λ s. take_on k c s n) r (λ s. call_if A Q k h c s (take_open (session_of c s)) (Take s.id n) _ Closed (w s.id) r)

  attend_keeps : (flag : ℕ) → ((id : ℕ) → A (Attend id flag)) → Q (on_line lines c line (λ s. attend_on k c s flag)).core
  attend_keeps flag w = line_keeps Q lines c line (λ s. attend_on k c s flag) r (λ s. call_if A Q k h c s (put_open (session_of c s)) (Attend s.id flag) _ Closed (w s.id) r)

  close_keeps : ((id : ℕ) → A (Close id)) → Q (on_line lines c line (λ s. close_on k c s)).core
  close_keeps w = line_keeps Q lines c line (λ s. close_on k c s) r (λ s. call_if A Q k h c s (take_open (session_of c s)) (Close s.id) _ Closed (w s.id) r)

pub lines_exist : (lines n k : ℕ) → n + k ≤ lines → Each (λ line. line_exists lines line ≡ true) (upwards n k)
lines_exist lines n zero l = tt
lines_exist lines n (suc k) l = (and_from (nat_lt 0 (suc n)) (nat_le (suc n) lines) (lt-ltb 0 (suc n) (omega arith)) (le-leb (suc n) lines (omega (arith, l))), lines_exist lines (suc n) k (omega (arith, l)))

-- the server

step_cond : (Q : Core → Type 0) (n : Bool) (s t : ServerStep) → (n ≡ true → Q s.state.core) → (n ≡ false → Q t.state.core) → Q (cond n s t).state.core
step_cond Q true s t p q = p refl
step_cond Q false s t p q = q refl

both_true : (a b : Bool) → a ≡ true → b ≡ true → (a && b) ≡ true
both_true true b p q = q
both_true false b p q = p

-- a line that grants is one of a server that isn't halted
grantable_awake : (st : Server) (line : ℕ) (service : Name) (r : Request) → grantable st line (Some service) ≡ Some r → st.halted ≡ false
grantable_awake st line service r = go st.halted refl
  where
    go : (n : Bool) → st.halted ≡ n → cond (not n && st.ready line) (grantable_on st.core st.queue line service) None ≡ Some r → n ≡ false
    go true i q = let z : ⊥ = cc in absurd z
    go false i q = refl

pub grant_halted : (config : ServerConfig) (line : ℕ) (p : Passing) → (grant_line config p line).state.halted ≡ p.state.halted
grant_halted config line p = go (offer_on line config.offers) (grantable p.state line (offer_on line config.offers))
  where
    go : (o : Option Name) (g : Option Request) → (grants_by config line o g p).state.halted ≡ p.state.halted
    go None g = refl
    go (Some service) None = refl
    go (Some service) (Some g) = refl

module _ (config : ServerConfig) (A : Call → Type 0) (P : Core → Type 0) (Q : Core → Type 0) (O : Type 0) (h : ServerActs config A P Q O) where
  connect_keeps : (st : Server) (line : ℕ) (service : Name) → O → P st.core → Q (connect_event config st line service).state.core
  connect_keeps st line service a p = go (line_exists config.lines line) refl (has_session st.core line) refl (best config.groups service st.core.moment st.heard)
    where
      r : Q st.core
      r = h.done st.core p

      reaches : line_exists config.lines line ≡ true → has_session st.core line ≡ false → (b : Best) → Q (connects_to config st line service b).state.core
      reaches ex fr b =
          let x : ℕ = circuit_to st.core b.from in
          let d : Doing = opens config line b.from b.node service None None st.core in
          step_cond Q (nat_eq x 0)
          (cond (nat_lt (living st.core.circuits) 8) (cond (nat_lt st.core.circuits.drawn 65535) (does st (Connected (next_id st.core.circuits) 1) d) (tells st IdsOut)) (tells st CircuitsFull))
          (cond (has_room st.core x) (does st (Connected x (least_free (st.core.circuits.circuit_at x).end.half.sessions)) d) (tells st SessionsFull))
          (λ i. step_cond Q (nat_lt (living st.core.circuits) 8) (cond (nat_lt st.core.circuits.drawn 65535) (does st (Connected (next_id st.core.circuits) 1) d) (tells st IdsOut)) (tells st CircuitsFull)
          (λ j. step_cond Q (nat_lt st.core.circuits.drawn 65535) (does st (Connected (next_id st.core.circuits) 1) d) (tells st IdsOut)
          (λ k. h.opens a line b.from b.node service None None st.core (ap (λ z. cond z (may_call st.core) (has_room st.core x)) i ∙ both_true (nat_lt (living st.core.circuits) 8) (nat_lt st.core.circuits.drawn 65535) j k) ex fr r)
          (λ k. r))
          (λ j. r))
          (λ i. step_cond Q (has_room st.core x) (does st (Connected x (least_free (st.core.circuits.circuit_at x).end.half.sessions)) d) (tells st SessionsFull)
          (λ k. h.opens a line b.from b.node service None None st.core (ap (λ z. cond z (may_call st.core) (has_room st.core x)) i ∙ k) ex fr r)
          (λ k. r))

      go : (n : Bool) → line_exists config.lines line ≡ n → (m : Bool) → has_session st.core line ≡ m → (o : Option Best) → Q (cond n (cond m (tells st Busy) (elim o [ None ↦ solicits_for config st service | Some b ↦ connects_to config st line service b ])) (tells st NoLine)).state.core
      go false i m j o = r
      go true i true j o = r
      go true i false j None = r
      go true i false j (Some b) = reaches i j b

  command_keeps : (st : Server) (from : ℕ) (m : Command) (a : Action) → P st.core → P (hears_command config st from m a).state.core
  command_keeps st from m Ask r = r
  command_keeps st from m Cancel r = go (kept_for (key_of m) (st.queue ++ Cancels (key_of m) ∷ []))
    where
      told : Option Kept → ServerStep
      told o = elim o [
        | None ↦ record { state = record st { queue = st.queue ++ Cancels (key_of m) ∷ [] }; answer = NotKept; frames = status_frame from m Unknown ∷ [] }
        | Some k ↦ record { state = record st { queue = st.queue ++ Cancels (key_of m) ∷ [] }; answer = KeptIs k; frames = status_frame from m (KeptAs k) ∷ [] }
      ]

      go : (o : Option Kept) → P (told o).state.core
      go None = r
      go (Some k) = r

  value_keeps : (st : Server) (from : ℕ) (v : Value) (k : Option Numbers) → P st.core → P (hears_value config st from v k).state.core
  value_keeps st from (OfCircuit (RunMessage hd slots)) k r = h.acts.runs st.core from false hd slots k r
  value_keeps st from (OfCircuit (WideMessage hd slots)) k r = h.acts.runs st.core from true hd slots k r
  value_keeps st from (OfCircuit (StartMessage true ask to source info)) k r = r
  value_keeps st from (OfCircuit (StartMessage false ask to source info)) k r = h.replies st.core from to source (agreed_by config.timing info) r
  value_keeps st from (OfCircuit (StopMessage master ask to source reason text)) k r = h.acts.stops st.core from to source reason r
  value_keeps st from (OfNotice (AnnouncementNotice a)) k r = r
  value_keeps st from (OfNotice (CommandNotice m)) k r = command_keeps st from m m.action r
  value_keeps st from (OfNotice (ResponseNotice m)) k r = r
  value_keeps st from (OfNotice (StatusNotice m)) k r = r
  value_keeps st from (OfNotice (SolicitNotice m)) k r = r

  pub event_keeps : (st : Server) (e : Event) → (st.halted ≡ false → O) → EventAllows A e → P st.core → Q (server_event config st e).state.core
  event_keeps st (Hears from (Malformed field at) k now) a w r = h.done _ (h.acts.moment st.core now r)
  event_keeps st (Hears from (Whole v) k now) a w r =
      let t : Server = record st { core = at_moment now st.core } in
      let q : P t.core = h.acts.moment st.core now r in
      step_cond Q (nat_eq from everyone) (tells t Ignored) (hears_value config t from v k) (λ y. h.done _ q) (λ y. h.done _ (value_keeps t from v k q))
  event_keeps st (Time now) a w r = h.done _ (times_keep A P (server_side config) h.acts (ids st.core.circuits) (rests (at_moment now st.core)) (h.acts.moment st.core now r))
  event_keeps st (Connects line service) a w r = step_cond Q st.halted (tells st Halted) (connect_event config st line service) (λ y. h.done _ r) (λ y. connect_keeps st line service (a y) r)
  event_keeps st (Puts line bytes) a w r = h.done _ (put_keeps A P (server_side config) h.acts config.lines st.core line r bytes w)
  event_keeps st (Sets line setting) a w r = h.done _ (set_keeps A P (server_side config) h.acts config.lines st.core line r setting w)
  event_keeps st (Takes line n) a w r = h.done _ (take_keeps A P (server_side config) h.acts config.lines st.core line r n w)
  event_keeps st (Attends line flag) a w r = h.done _ (attend_keeps A P (server_side config) h.acts config.lines st.core line r flag w)
  event_keeps st (Closes line) a w r = h.done _ (close_keeps A P (server_side config) h.acts config.lines st.core line r w)
  event_keeps st (Requests to id service) a w r = h.done _ r
  event_keeps st (Withdraws id) a w r = h.done _ r
  event_keeps st Announces a w r = h.done _ r
  event_keeps st (Avoids line) a w r = h.done _ r
  event_keeps st (Readies line ready) a w r = h.done _ r
  event_keeps st Halts a w r = h.done _ (ends_keep A P (server_side config) h.acts 3 (ids st.core.circuits) (rests st.core) r)

  -- the grant pass

  grants_keep : (line : ℕ) (o : Option Name) (g : Option Request) (p : Passing) → (p.state.halted ≡ false → O) → line_exists config.lines line ≡ true → grantable p.state line o ≡ g → Q p.state.core → Q (grants_by config line o g p).state.core
  grants_keep line None g p a ex q r = r
  grants_keep line (Some service) None p a ex q r = r
  grants_keep line (Some service) (Some g) p a ex q r = go (has_session p.state.core line) refl (next_request service p.state.queue) (grantable_ready p.state line service g q)
    where
      wrong : None ≡ Some g → ⊥
      wrong e = cc

      is_it : (y : Request) → Some y ≡ Some g → y ≡ g
      is_it y e = cc

      opened : (y : Request) (b : Bool) → can_open p.state.core y.from ≡ b → has_session p.state.core line ≡ false → cond b (Some y) None ≡ Some g → Q (opens config line g.from g.key.node service (Some g.key) (Some g.key.request) p.state.core).core
      opened y true i f e = h.opens (a (grantable_awake p.state line service g q)) line g.from g.key.node service (Some g.key) (Some g.key.request) p.state.core (ap (λ (z : Request). can_open p.state.core z.from) (sym (is_it y e)) ∙ i) ex f r
      opened y false i f e = absurd (wrong e)

      go : (b : Bool) → has_session p.state.core line ≡ b → (o : Option Request) → cond b None (fitting p.state.core o) ≡ Some g → Q (opens config line g.from g.key.node service (Some g.key) (Some g.key.request) p.state.core).core
      go true i o e = absurd (wrong e)
      go false i None e = absurd (wrong e)
      go false i (Some y) e = opened y (can_open p.state.core y.from) refl i e

  pub pass_keeps : (lines : List ℕ) (p : Passing) → (p.state.halted ≡ false → O) → Each (λ line. line_exists config.lines line ≡ true) lines → Q p.state.core → Q (grant_lines config lines p).state.core
  pass_keeps [] p a ex r = r
  pass_keeps (line ∷ lines) p a ex r = pass_keeps lines (grant_line config p line) (λ y. a (sym (grant_halted config line p) ∙ y)) ex.1 (grants_keep line (offer_on line config.offers) (grantable p.state line (offer_on line config.offers)) p a ex.0 refl r)

  -- what follows an event
  pub passed_keeps : (st : Server) (e : Event) → ((server_event config st e).state.halted ≡ false → O) → Q (server_event config st e).state.core → Q (server_step config st e).state.core
  passed_keeps st e a r = pass_keeps (upwards 0 config.lines) (record { state = finished_requests (server_event config st e).state; frames = [] }) a (lines_exist config.lines 0 config.lines (omega arith)) r

  pub server_keeps : (st : Server) (e : Event) → (st.halted ≡ false → O) → ((server_event config st e).state.halted ≡ false → O) → EventAllows A e → P st.core → Q (server_step config st e).state.core
  server_keeps st e a b w r = passed_keeps st e b (event_keeps st e a w r)

-- the node

pub local_alive : (b : Bool) (t : Table) (x : ℕ) (c : Call) → lives ((local_at b t x c).table.circuit_at x).end ≡ lives (t.circuit_at x).end
local_alive b t x c = go (lives (t.circuit_at x).end)
  where
    new : CircuitEntry
    new = record { address = (t.circuit_at x).address; end = (note_empty (t.circuit_at x).end (record { end = call_end c (t.circuit_at x).end; sent = [] })).end }

    go : (l : Bool) → lives ((cond l (steps_at b t x (record { end = call_end c (t.circuit_at x).end; sent = [] })) (idle t)).table.circuit_at x).end ≡ lives (t.circuit_at x).end
    go true = ap (λ (w : CircuitEntry). lives w.end) (upd_same t.circuit_at x new)
    go false = refl

node_cond : (Q : Core → Type 0) (n : Bool) (s t : NodeStep) → Q s.state.core → Q t.state.core → Q (cond n s t).state.core
node_cond Q true s t p q = p
node_cond Q false s t p q = q

-- who is accepted gets a line that exists and has no session
verdict_line : (config : NodeConfig) (st : Node) (service : Name) (request : Option ℕ) (line : ℕ) → verdict config st service request ≡ Accepts line → (line_exists config.lines line ≡ true) × (has_session st.core line ≡ false)
verdict_line config st service request line e = by request e
  where
    l : ℕ
    l = free_line config st.core

    wrong : (n : ℕ) → Rejects n ≡ Accepts line → ⊥
    wrong n q = cc

    is_it : Accepts l ≡ Accepts line → l ≡ line
    is_it q = cc

    on_line : (b : Bool) → nat_eq l 0 ≡ b → cond b (Rejects 7) (Accepts l) ≡ Accepts line → (line_exists config.lines line ≡ true) × (has_session st.core line ≡ false)
    on_line true q r = absurd (wrong 7 r)
    on_line false q r =
        let n : l ≢ 0 = eqb-false l 0 q in
        let m : l ≤ 0 + config.lines = least_in (λ y. not (has_session st.core y)) 0 config.lines in
        subst (λ y. (line_exists config.lines y ≡ true) × (has_session st.core y ≡ false)) (is_it r)
        (and_from (nat_lt 0 l) (nat_le l config.lines) (lt-ltb 0 l (omega (arith, n))) (le-leb l config.lines (omega (arith, m))), not-true (has_session st.core l) (least_true (λ y. not (has_session st.core y)) (upwards 0 config.lines) n))

    either : (b : Bool) (n : ℕ) → cond b (on_free_line l) (Rejects n) ≡ Accepts line → (line_exists config.lines line ≡ true) × (has_session st.core line ≡ false)
    either true n r = on_line (nat_eq l 0) refl r
    either false n r = absurd (wrong n r)

    by : (o : Option ℕ) → verdict config st service o ≡ Accepts line → (line_exists config.lines line ≡ true) × (has_session st.core line ≡ false)
    by None r = either (is_offered config service) 4 r
    by (Some k) r = either (was_requested service (request_of k st) && not (list_any (nat_eq k) st.accepted)) 5 r

-- Answering a circuit that lives
record Answering (Q : Core → Type 0) (x : ℕ) (c : Core) : Type 0 where
  pub keeps : Q c
  pub alive : lives (c.circuits.circuit_at x).end ≡ true

module _ (config : NodeConfig) (A : Call → Type 0) (P : Core → Type 0) (Q : Core → Type 0) (O : Type 0) (h : NodeActs config A P Q O) where
  judged_keeps : (st : Node) (x id : ℕ) (request : Option ℕ) (service : Name) → waits (asked_at st x id) ≡ true → Answering Q x st.core → Answering Q x (judged config st x id request (verdict config st service request)).core
  judged_keeps st x id request service w a = go (verdict config st service request) refl
    where
      go : (v : Verdict) → verdict config st service request ≡ v → Answering Q x (judged config st x id request v).core
      go (Rejects n) e = record { keeps = h.refuses st.core x id n a.keeps; alive = local_alive false st.core.circuits x (RejectAsk id n) ∙ a.alive }
      go (Accepts line) e =
          let f : (line_exists config.lines line ≡ true) × (has_session st.core line ≡ false) = verdict_line config st service request line e in
          record { keeps = h.accepts st x id line request service w e a.alive f.0 f.1 a.keeps; alive = local_alive false st.core.circuits x (Calls.Answer id) ∙ a.alive }

  answers_keep : (x : ℕ) (ids : List ℕ) (st : Node) → Answering Q x st.core → Answering Q x (answers_in config x ids st).core
  answers_keep x [] st a = a
  answers_keep x (id ∷ ids) st a = answers_keep x ids (answers_one config x st id) (go (waits s) refl)
    where
      s : Session
      s = asked_at st x id

      go : (b : Bool) → waits s ≡ b → Answering Q x (cond b (judged config st x id s.request (verdict config st s.service s.request)) st).core
      go true q = judged_keeps st x id s.request s.service q a
      go false q = a

  asked_keeps : (x : ℕ) (st : Node) → Q st.core → Q (answers_asked config x st).core
  asked_keeps x st r = go (lives (st.core.circuits.circuit_at x).end) refl
    where
      left : Node
      left = record st { turned_away = st.turned_away + asked_on st x }

      go : (b : Bool) → lives (st.core.circuits.circuit_at x).end ≡ b → Q (cond b (answers_in config x (upwards 0 64) st) left).core
      go true q = (answers_keep x (upwards 0 64) st (record { keeps = r; alive = q })).keeps
      go false q = r

  hears_run_keeps : (st : Node) (from : ℕ) (wide : Bool) (hd : Head) (slots : List Slot) (k : Option Numbers) → P st.core → Q (hears_run config st from wide hd slots k).state.core
  hears_run_keeps st from wide hd slots k r = go (names st.core.circuits from hd.to hd.from)
    where
      s : NodeStep
      s = N.heard_at config st (hear_run false st.core.circuits from wide hd slots k st.core.moment)

      q : Q s.state.core
      q = h.done s.state.core (h.acts.runs st.core from wide hd slots k r)

      go : (b : Bool) → Q (cond b (answers_asked config hd.to s.state) s.state).core
      go true = asked_keeps hd.to s.state q
      go false = q

  start_keeps : (st : Node) (from source : ℕ) (info : StartInfo) → O → P st.core → P (hears_start config st from source info (start_fact st.core.circuits from source)).state.core
  start_keeps st from source info a r = go (nat_eq (slave_of st.core.circuits from source) 0) (nat_lt (living st.core.circuits) 8 && nat_lt st.core.circuits.drawn 65535) (h.starts a st.core from source (agreed_by config.timing info) r)
    where
      t : Table
      t = st.core.circuits

      fact : Bool → Bool → StartFact
      fact a b = cond a (cond b (Makes (next_id t)) Refuses) (Repeats (slave_of t from source))

      go : (a b : Bool) → P (with_circuits st.core (start_at (setup_of config.timing) t from source st.core.moment (agreed_by config.timing info) (fact a b)).table) → P (hears_start config st from source info (fact a b)).state.core
      go true true q = h.acts.renames _ _ q
      go true false q = q
      go false b q = q

  -- the slaves that a START follows
  outlive_keeps : (from source : ℕ) (xs : List ℕ) (c : Core) (t : Table) → P (with_circuits c t) → P (with_circuits c (outlive from source xs t))
  outlive_keeps from source [] c t r = r
  outlive_keeps from source (x ∷ xs) c t r = outlive_keeps from source xs c (outlive_at from source x t) (h.lapses (with_circuits c t) from source x r)

  way_keeps : (st : Node) (from source : ℕ) → P st.core → P (makes_way config st from source).core
  way_keeps st from source r = go config.prompt
    where
      go : (n : Bool) → P (with_circuits st.core (cond n (outlive from source (ids st.core.circuits) st.core.circuits) st.core.circuits))
      go true = outlive_keeps from source (ids st.core.circuits) st.core st.core.circuits r
      go false = r

  node_value_keeps : (rates : List ℕ) (st : Node) (from : ℕ) (v : Value) (k : Option Numbers) → (st.halted ≡ false → O) → P st.core → Q (N.hears_value config rates st from v k).state.core
  node_value_keeps rates st from (OfCircuit (RunMessage hd slots)) k a r = hears_run_keeps st from false hd slots k r
  node_value_keeps rates st from (OfCircuit (WideMessage hd slots)) k a r = hears_run_keeps st from true hd slots k r
  node_value_keeps rates st from (OfCircuit (StartMessage true ask to source info)) k a r = go st.halted refl
    where
      go : (n : Bool) → st.halted ≡ n → Q (cond n (turns_away config st from source) (starts config (makes_way config st from source) from source info)).state.core
      go true i = h.done _ r
      go false i = h.done _ (start_keeps (makes_way config st from source) from source info (a i) (way_keeps st from source r))
  node_value_keeps rates st from (OfCircuit (StartMessage false ask to source info)) k a r = h.done _ r
  node_value_keeps rates st from (OfCircuit (StopMessage master ask to source reason text)) k a r = h.done _ (h.acts.stops st.core from to source reason r)
  node_value_keeps rates st from (OfNotice (StatusNotice m)) k a r = h.done _ r
  node_value_keeps rates st from (OfNotice (SolicitNotice m)) k a r = go (find (same m.service) config.services)
    where
      go : (o : Option Name) → Q (solicited config rates st from m.id o).state.core
      go None = h.done _ r
      go (Some n) = h.done _ r
  node_value_keeps rates st from (OfNotice (AnnouncementNotice m)) k a r = h.done _ r
  node_value_keeps rates st from (OfNotice (CommandNotice m)) k a r = h.done _ r
  node_value_keeps rates st from (OfNotice (ResponseNotice m)) k a r = h.done _ r

  again_keeps : (st : Node) (to id : ℕ) (service : Name) (o : Option Requested) → Q st.core → Q (requests_again config st to id service o).state.core
  again_keeps st to id service None r = r
  again_keeps st to id service (Some x) r = node_cond Q (nat_eq x.to to && same x.service service) _ (N.tells st IdUsed) r r

  withdraw_keeps : (st : Node) (o : Option Requested) → Q st.core → Q (withdraws config st o).state.core
  withdraw_keeps st None r = r
  withdraw_keeps st (Some x) r = r

  pub node_keeps : (rates : List ℕ) (st : Node) (e : Event) → (st.halted ≡ false → O) → EventAllows A e → P st.core → Q (node_step config rates st e).state.core
  node_keeps rates st (Hears from (Malformed field at) k now) a w r = h.done _ (h.acts.moment st.core now r)
  node_keeps rates st (Hears from (Whole v) k now) a w r =
      let t : Node = record st { core = at_moment now st.core } in
      let q : P t.core = h.acts.moment st.core now r in
      node_cond Q (nat_eq from everyone) (N.tells t Ignored) (N.hears_value config rates t from v k) (h.done _ q) (node_value_keeps rates t from v k a q)
  node_keeps rates st (Time now) a w r = h.done _ (times_keep A P (node_side config) h.acts (ids st.core.circuits) (rests (at_moment now st.core)) (h.acts.moment st.core now r))
  node_keeps rates st (Connects line service) a w r = h.done _ r
  node_keeps rates st (Puts line bytes) a w r = h.done _ (put_keeps A P (node_side config) h.acts config.lines st.core line r bytes w)
  node_keeps rates st (Sets line setting) a w r = h.done _ (set_keeps A P (node_side config) h.acts config.lines st.core line r setting w)
  node_keeps rates st (Takes line n) a w r = h.done _ (take_keeps A P (node_side config) h.acts config.lines st.core line r n w)
  node_keeps rates st (Attends line flag) a w r = h.done _ (attend_keeps A P (node_side config) h.acts config.lines st.core line r flag w)
  node_keeps rates st (Closes line) a w r = h.done _ (close_keeps A P (node_side config) h.acts config.lines st.core line r w)
  node_keeps rates st (Requests to id service) a w r = again_keeps st to id service (request_of id st) (h.done _ r)
  node_keeps rates st (Withdraws id) a w r = withdraw_keeps st (request_of id st) (h.done _ r)
  node_keeps rates st Announces a w r = h.done _ r
  node_keeps rates st (Avoids line) a w r = h.done _ r
  node_keeps rates st (Readies line ready) a w r = h.done _ r
  node_keeps rates st Halts a w r = h.done _ (ends_keep A P (node_side config) h.acts 3 (ids st.core.circuits) (rests st.core) r)
