-- A frame leaves alone the circuits of other addresses, but for the sessions that the grant pass connects.
use Rattle.std.proofs.Common.{◌≡◌, ℕ, refl, sym, ap, ◌∙◌, subst, Bool, true, false, not, cond, ◌&&◌, ◌||◌, List, [], ◌∷◌, ◌++◌, Option, Some, None, nat_eq, eqb-true}
use Rattle.lat_model.specs.sessions.Slots.{Slot}
use Rattle.lat_model.specs.sessions.Calls.{Connect}
use Rattle.lat_model.specs.Lists.{updated, upwards}
use Rattle.lat_model.specs.ends.End.{End, Step, lives, call_end}
use Rattle.lat_model.specs.ends.Timers.{note_empty}
use Rattle.lat_model.specs.ends.Starting.{hear_reply, hear_stop}
use Rattle.lat_model.specs.circuits.World.{CircuitEntry, Table}
use Rattle.lat_model.proofs.sessions.Words.{upd_other}
use Rattle.lat_model.specs.circuits.Ids.{is_drawn, next_id}
use Rattle.lat_model.proofs.circuits.Ids.{drawn_apart, drawn_behind}
use Rattle.lat_machines.specs.values.Names.{Name}
use Rattle.lat_machines.specs.values.Addresses.{everyone}
use Rattle.lat_machines.specs.values.Messages.{Head, RunMessage, WideMessage, StartMessage, StopMessage}
use Rattle.lat_machines.specs.values.Notices.{Kept, KeptAs, Unknown, Action, Ask, Cancel, Command, AnnouncementNotice, CommandNotice, StatusNotice, SolicitNotice, ResponseNotice}
use Rattle.lat_machines.specs.values.Frames.{Value, OfCircuit, OfNotice, Reading, Whole, Malformed}
use Rattle.lat_machines.specs.values.Timing.{agreed_by}
use Rattle.lat_machines.specs.values.Keys.{Key}
use Rattle.lat_machines.specs.values.Events.{Numbers, Hears}
use Rattle.lat_machines.specs.values.Answers.{Again, Running, Ended, Ignored, NotKept, KeptIs}
use Rattle.lat_machines.specs.server.Queue.{Cancels, Request}
use Rattle.lat_machines.specs.server.Records.{kept_for}
use Rattle.lat_machines.specs.cores.Acts.{Acted, idle, steps_at, call_at, called, local_at}
use Rattle.lat_machines.specs.cores.Hearing.{HeardAct, foreign, names, fits_kind, numbers_at, run_frame, run_at, hear_run}
use Rattle.lat_machines.specs.cores.Cores.{Core, Doing, rests, acts, setup_of, at_moment, circuit_to}
use Rattle.lat_machines.specs.server.Server.{ServerConfig, Server, ServerStep, server_side, offer_on, tells, connects_on, opens, status_frame, key_of, hears_command, hears_value, server_event, finished_requests, Passing, grantable, grants_by, grant_line, grant_lines, grant_pass}
use Rattle.lat_machines.specs.world.Home.{Connection, connects_one, connects_all, ButForSessions, ServerStaysHome}
use Rattle.lat_machines.proofs.frames.Homes.{server_home}

-- sessions connected on a circuit

connects_more : (xs ys : List Connection) (e : End) → connects_all (xs ++ ys) e ≡ connects_all ys (connects_all xs e)
connects_more [] ys e = refl
connects_more (x ∷ xs) ys e = connects_more xs ys (connects_one x e)

but_none : (c : CircuitEntry) → ButForSessions c c
but_none c = record { address = refl; connected = []; end = refl }

but_then : (a b c : CircuitEntry) → ButForSessions a b → ButForSessions b c → ButForSessions a c
but_then a b c p q = record {
  address = q.address ∙ p.address;
  connected = p.connected ++ q.connected;
  end = q.end ∙ (ap (connects_all q.connected) p.end ∙ sym (connects_more p.connected q.connected a.end));
}

-- no circuit is lost, and each that was drawn is as it was but for sessions
record Stays (c : Core) (d : Core) (x : ℕ) : Type 0 where
  pub circuit : ButForSessions (c.circuits.circuit_at x) (d.circuits.circuit_at x)
  pub drawn : is_drawn c.circuits x ≡ true → is_drawn d.circuits x ≡ true

stays_then : (c d e : Core) (x : ℕ) → Stays c d x → Stays d e x → Stays c e x
stays_then c d e x p q = record {
  circuit = but_then (c.circuits.circuit_at x) (d.circuits.circuit_at x) (e.circuits.circuit_at x) p.circuit q.circuit;
  drawn = λ l. q.drawn (p.drawn l);
}

connect_stays : (t : Table) (x y : ℕ) (service : Name) (request : Option ℕ) → ButForSessions (t.circuit_at x) ((local_at true t y (Connect service request)).table.circuit_at x)
connect_stays t x y service request = go (lives (t.circuit_at y).end)
  where
    s : Step
    s = record { end = call_end (Connect service request) (t.circuit_at y).end; sent = [] }

    new : CircuitEntry
    new = record { address = (t.circuit_at y).address; end = (note_empty (t.circuit_at y).end s).end }

    here : ButForSessions (t.circuit_at y) new
    here = record { address = refl; connected = record { service = service; request = request } ∷ []; end = refl }

    at : (b : Bool) → nat_eq x y ≡ b → ButForSessions (t.circuit_at x) (cond b new (t.circuit_at x))
    at true q = subst (λ z. ButForSessions (t.circuit_at z) new) (sym (eqb-true x y q)) here
    at false q = but_none (t.circuit_at x)

    go : (b : Bool) → ButForSessions (t.circuit_at x) ((cond b (steps_at true t y s) (idle t)).table.circuit_at x)
    go true = at (nat_eq x y) refl
    go false = but_none (t.circuit_at x)

connect_drawn : (t : Table) (x y : ℕ) (service : Name) (request : Option ℕ) → is_drawn (local_at true t y (Connect service request)).table x ≡ is_drawn t x
connect_drawn t x y service request = go (lives (t.circuit_at y).end)
  where
    go : (b : Bool) → is_drawn (cond b (steps_at true t y (record { end = call_end (Connect service request) (t.circuit_at y).end; sent = [] })) (idle t)).table x ≡ is_drawn t x
    go true = refl
    go false = refl

opens_stays : (config : ServerConfig) (line address : ℕ) (node service : Name) (key : Option Key) (request : Option ℕ) (c : Core) (x : ℕ) → is_drawn c.circuits x ≡ true → Stays c (opens config line address node service key request c).core x
opens_stays config line address node service key request c x l = go (nat_eq (circuit_to c address) 0)
  where
    named : Core
    named = record c { names = updated c.names (next_id c.circuits) node }

    made : Doing
    made = acts (server_side config) named (call_at (setup_of config.timing) named.circuits address named.moment)

    after : Doing → Core
    after d = (connects_on config line (circuit_to d.core address) service key request d.core).core

    connected : (d : Doing) → Stays d.core (after d) x
    connected d = record {
      circuit = connect_stays d.core.circuits x (circuit_to d.core address) service request;
      drawn = λ m. connect_drawn d.core.circuits x (circuit_to d.core address) service request ∙ m;
    }

    called_new : Stays c made.core x
    called_new = record {
      circuit = subst (ButForSessions (c.circuits.circuit_at x)) (sym (upd_other c.circuits.circuit_at (next_id c.circuits) (record { address = address; end = (called (setup_of config.timing) c.moment).end }) x (drawn_apart c.circuits.first c.circuits.drawn x l))) (but_none (c.circuits.circuit_at x));
      drawn = drawn_behind c.circuits.first c.circuits.drawn x;
    }

    go : (b : Bool) → Stays c (after (cond b made (rests c))) x
    go true = stays_then c made.core (after made) x called_new (connected made)
    go false = connected (rests c)

line_stays : (config : ServerConfig) (line : ℕ) (o : Option Name) (g : Option Request) (p : Passing) (x : ℕ) → is_drawn p.state.core.circuits x ≡ true → Stays p.state.core (grants_by config line o g p).state.core x
line_stays config line None g p x l = record { circuit = but_none (p.state.core.circuits.circuit_at x); drawn = λ m. m }
line_stays config line (Some service) None p x l = record { circuit = but_none (p.state.core.circuits.circuit_at x); drawn = λ m. m }
line_stays config line (Some service) (Some g) p x l = opens_stays config line g.from g.key.node service (Some g.key) (Some g.key.request) p.state.core x l

lines_stay : (config : ServerConfig) (lines : List ℕ) (p : Passing) (x : ℕ) → is_drawn p.state.core.circuits x ≡ true → Stays p.state.core (grant_lines config lines p).state.core x
lines_stay config [] p x l = record { circuit = but_none (p.state.core.circuits.circuit_at x); drawn = λ m. m }
lines_stay config (line ∷ lines) p x l =
    let s : Stays p.state.core (grant_line config p line).state.core x = line_stays config line (offer_on line config.offers) (grantable p.state line (offer_on line config.offers)) p x l in
    stays_then p.state.core (grant_line config p line).state.core (grant_lines config lines (grant_line config p line)).state.core x s
    (lines_stay config lines (grant_line config p line) x (s.drawn l))

-- hearing draws no circuit

act_drawn : (n : Bool) (z : ℕ) (b : Bool) (x y : Acted) → is_drawn x.table z ≡ n → is_drawn y.table z ≡ n → is_drawn (cond b x y).table z ≡ n
act_drawn n z true x y p q = p
act_drawn n z false x y p q = q

heard_drawn : (n : Bool) (z : ℕ) (b : Bool) (x y : HeardAct) → is_drawn x.act.table z ≡ n → is_drawn y.act.table z ≡ n → is_drawn (cond b x y).act.table z ≡ n
heard_drawn n z true x y p q = p
heard_drawn n z false x y p q = q

run_drawn : (t : Table) (x : ℕ) (from : ℕ) (wide : Bool) (h : Head) (slots : List Slot) (k : Option Numbers) (now : ℕ) → is_drawn (hear_run true t from wide h slots k now).act.table x ≡ is_drawn t x
run_drawn t x from wide h slots k now =
    let e : End = (t.circuit_at h.to).end in
    heard_drawn (is_drawn t x) x (names t from h.to h.from) (run_at true t h.to (fits_kind e h.master wide) now h.ask (run_frame (numbers_at e h k) slots)) (foreign t)
    (heard_drawn (is_drawn t x) x (fits_kind e h.master wide) _ _ refl (act_drawn (is_drawn t x) x (lives e) (steps_at true t h.to (record { end = record e { moment = now }; sent = [] })) (idle t) refl refl))
    refl

command_drawn : (config : ServerConfig) (st : Server) (x from : ℕ) (m : Command) (a : Action) → is_drawn (hears_command config st from m a).state.core.circuits x ≡ is_drawn st.core.circuits x
command_drawn config st x from m Ask = refl
command_drawn config st x from m Cancel = go (kept_for (key_of m) (st.queue ++ Cancels (key_of m) ∷ []))
  where
    told : Option Kept → ServerStep
    told o = elim o [
      | None ↦ record { state = record st { queue = st.queue ++ Cancels (key_of m) ∷ [] }; answer = NotKept; frames = status_frame from m Unknown ∷ [] }
      | Some k ↦ record { state = record st { queue = st.queue ++ Cancels (key_of m) ∷ [] }; answer = KeptIs k; frames = status_frame from m (KeptAs k) ∷ [] }
    ]

    go : (o : Option Kept) → is_drawn (told o).state.core.circuits x ≡ is_drawn st.core.circuits x
    go None = refl
    go (Some k) = refl

value_drawn : (config : ServerConfig) (st : Server) (x from : ℕ) (v : Value) (k : Option Numbers) → is_drawn (hears_value config st from v k).state.core.circuits x ≡ is_drawn st.core.circuits x
value_drawn config st x from (OfCircuit (RunMessage h slots)) k = run_drawn st.core.circuits x from false h slots k st.core.moment
value_drawn config st x from (OfCircuit (WideMessage h slots)) k = run_drawn st.core.circuits x from true h slots k st.core.moment
value_drawn config st x from (OfCircuit (StartMessage true ask to source info)) k = refl
value_drawn config st x from (OfCircuit (StartMessage false ask to source info)) k =
    let t : Table = st.core.circuits in
    let c : CircuitEntry = t.circuit_at to in
    heard_drawn (is_drawn t x) x (nat_eq c.address from && lives c.end && (not c.end.running || nat_eq c.end.peer source)) (record { act = steps_at true t to (hear_reply st.core.moment source (agreed_by config.timing info) c.end); answer = cond c.end.running Again Running }) (foreign t) refl refl
value_drawn config st x from (OfCircuit (StopMessage master ask to source reason text)) k =
    let t : Table = st.core.circuits in
    let c : CircuitEntry = t.circuit_at to in
    heard_drawn (is_drawn t x) x (nat_eq c.address from && (nat_eq c.end.peer source || nat_eq source 0) && lives c.end) (record { act = steps_at true t to (hear_stop st.core.moment reason c.end); answer = Ended reason }) (foreign t) refl refl
value_drawn config st x from (OfNotice (AnnouncementNotice a)) k = refl
value_drawn config st x from (OfNotice (CommandNotice m)) k = command_drawn config st x from m m.action
value_drawn config st x from (OfNotice (ResponseNotice m)) k = refl
value_drawn config st x from (OfNotice (StatusNotice m)) k = refl
value_drawn config st x from (OfNotice (SolicitNotice m)) k = refl

event_drawn : (config : ServerConfig) (st : Server) (x from : ℕ) (r : Reading) (k : Option Numbers) (now : ℕ) → is_drawn (server_event config st (Hears from r k now)).state.core.circuits x ≡ is_drawn st.core.circuits x
event_drawn config st x from (Malformed field at) k now = refl
event_drawn config st x from (Whole v) k now = go (nat_eq from everyone)
  where
    s : Server
    s = record st { core = at_moment now st.core }

    go : (b : Bool) → is_drawn (cond b (tells s Ignored) (hears_value config s from v k)).state.core.circuits x ≡ is_drawn st.core.circuits x
    go true = refl
    go false = value_drawn config s x from v k

pub server_stays : ServerStaysHome
server_stays config st from r k now x l n =
    let s : Server = (server_event config st (Hears from r k now)).state in
    let d : is_drawn s.core.circuits x ≡ is_drawn st.core.circuits x = event_drawn config st x from r k now in
    subst (λ z. ButForSessions z ((grant_pass config (finished_requests s)).state.core.circuits.circuit_at x)) (server_home config st from r k now x n)
    (lines_stay config (upwards 0 config.lines) (record { state = finished_requests s; frames = [] }) x (d ∙ l)).circuit
