-- A frame leaves alone the circuits of other addresses.
use Rattle.std.proofs.Common.{◌≡◌, ◌≢◌, ℕ, ◌+◌, refl, ap, ◌∙◌, Bool, true, false, not, cond, ◌&&◌, ◌||◌, List, [], ◌∷◌, ◌++◌, Option, Some, None, nat_eq, nat_lt, eqb-true, subst, sym}
use Rattle.std.specs.List.{find}
use Rattle.std.proofs.lemmas.Bool.{and_parts, eqb-false}
use Rattle.lat_model.specs.sessions.Slots.{Slot}
use Rattle.lat_model.specs.sessions.Session.{Session, waits}
use Rattle.lat_model.specs.Lists.{upwards}
use Rattle.lat_model.specs.sessions.Calls.{Call, RejectAsk}
use Rattle.lat_model.specs.sessions.Calls as Calls
use Rattle.lat_model.specs.ends.End.{End, Step, lives, call_end, lapse}
use Rattle.lat_model.specs.ends.Run.{run_end}
use Rattle.lat_model.specs.ends.Starting.{Agreed, again_start, hear_reply, hear_stop}
use Rattle.lat_model.specs.circuits.World.{CircuitEntry, Table}
use Rattle.lat_model.specs.circuits.Arriving.{is_of, slave_of, living}
use Rattle.lat_model.proofs.sessions.Words.{upd_other}
use Rattle.lat_model.specs.circuits.Ids.{ids, is_drawn, next_id}
use Rattle.lat_model.proofs.circuits.Ids.{drawn_apart}
use Rattle.lat_machines.specs.values.Names.{Name, same}
use Rattle.lat_machines.specs.values.Addresses.{everyone}
use Rattle.lat_machines.specs.values.Messages.{Head, StartInfo, Message, RunMessage, WideMessage, StartMessage, StopMessage}
use Rattle.lat_machines.specs.values.Notices.{Notice, AnnouncementNotice, CommandNotice, StatusNotice, SolicitNotice, ResponseNotice, Action, Ask, Cancel, Command, Kept, KeptAs, Unknown}
use Rattle.lat_machines.specs.values.Frames.{Value, OfCircuit, OfNotice, Whole, Malformed}
use Rattle.lat_machines.specs.values.Timing.{agreed_by}
use Rattle.lat_machines.specs.server.Queue.{Cancels}
use Rattle.lat_machines.specs.server.Records.{kept_for}
use Rattle.lat_machines.specs.values.Events.{Numbers}
use Rattle.lat_machines.specs.values.Answers.{Ignored, NotKept, KeptIs, Ended, Again, Running}
use Rattle.lat_machines.specs.cores.Acts.{Acted, idle, steps_at, local_at}
use Rattle.lat_machines.specs.cores.Hearing.{HeardAct, foreign, names, fits_kind, numbers_at, run_frame, run_at, hear_run, hear_stop_at, hear_reply_at, StartFact, Repeats, Makes, Refuses, start_fact, outlive, outlive_at, is_outlived, follows}
use Rattle.lat_machines.specs.cores.Cores.{at_moment}
use Rattle.lat_machines.specs.server.Server.{ServerConfig, Server, ServerStep, key_of}
use Rattle.lat_machines.specs.server.Server as Server
use Rattle.lat_machines.specs.node.Node.{NodeConfig, Node, NodeStep, Verdict, Accepts, Rejects, judged, verdict, asked_at, answers_one, answers_in, asked_on, answers_asked}
use Rattle.lat_machines.specs.node.Node as Node
use Rattle.lat_machines.specs.world.Home.{ServerHearsAtHome, NodeStaysHome}
use Rattle.lat_machines.proofs.queue.Rooms.{least_true}

-- the circuit x is as it was
abbrev At : ℕ → CircuitEntry → Acted → Type 0
At x c a = a.table.circuit_at x ≡ c

at_cond : (x : ℕ) (c : CircuitEntry) (n : Bool) (a b : Acted) → (n ≡ true → At x c a) → (n ≡ false → At x c b) → At x c (cond n a b)
at_cond x c true a b p q = p refl
at_cond x c false a b p q = q refl

steps_home : (b : Bool) (t : Table) (x y : ℕ) (s : Step) → x ≢ y → (steps_at b t y s).table.circuit_at x ≡ t.circuit_at x
steps_home b t x y s n = upd_other t.circuit_at y _ x n

local_home : (b : Bool) (t : Table) (x y : ℕ) (c : Call) → x ≢ y → (local_at b t y c).table.circuit_at x ≡ t.circuit_at x
local_home b t x y c n = at_cond x (t.circuit_at x) (lives (t.circuit_at y).end) (steps_at b t y (record { end = call_end c (t.circuit_at y).end; sent = [] })) (idle t) (λ i. steps_home b t x y (record { end = call_end c (t.circuit_at y).end; sent = [] }) n) (λ i. refl)

apart : (t : Table) (x y from : ℕ) → (t.circuit_at x).address ≢ from → nat_eq (t.circuit_at y).address from ≡ true → x ≢ y
apart t x y from n e q = n (ap (λ z. (t.circuit_at z).address) q ∙ eqb-true (t.circuit_at y).address from e)

addr_named : (t : Table) (from to source : ℕ) → names t from to source ≡ true → nat_eq (t.circuit_at to).address from ≡ true
addr_named t from to source i = (and_parts (nat_eq (t.circuit_at to).address from) (nat_eq (t.circuit_at to).end.peer source) (and_parts (is_of (t.circuit_at to) from source) (lives (t.circuit_at to).end) (and_parts (is_of (t.circuit_at to) from source && lives (t.circuit_at to).end) (t.circuit_at to).end.running i).0).0).0

heard_cond : (x : ℕ) (c : CircuitEntry) (n : Bool) (a b : HeardAct) → (n ≡ true → At x c a.act) → (n ≡ false → At x c b.act) → At x c (cond n a b).act
heard_cond x c true a b p q = p refl
heard_cond x c false a b p q = q refl

run_home : (b : Bool) (t : Table) (x from : ℕ) (wide : Bool) (h : Head) (slots : List Slot) (k : Option Numbers) (now : ℕ) → (t.circuit_at x).address ≢ from → At x (t.circuit_at x) (hear_run b t from wide h slots k now).act
run_home b t x from wide h slots k now n =
    let e : End = (t.circuit_at h.to).end in
    let s : Step = (run_end now h.ask (run_frame (numbers_at e h k) slots) e).step in
    heard_cond x (t.circuit_at x) (names t from h.to h.from) (run_at b t h.to (fits_kind e h.master wide) now h.ask (run_frame (numbers_at e h k) slots)) (foreign t)
    (λ i. let d : x ≢ h.to = apart t x h.to from n (addr_named t from h.to h.from i) in
    heard_cond x (t.circuit_at x) (fits_kind e h.master wide) _ _ (λ j. steps_home b t x h.to s d)
    (λ j. at_cond x (t.circuit_at x) (lives e) (steps_at b t h.to (record { end = record e { moment = now }; sent = [] })) (idle t) (λ l. steps_home b t x h.to (record { end = record e { moment = now }; sent = [] }) d) (λ l. refl)))
    (λ i. refl)

stop_home : (b : Bool) (t : Table) (x from to source now r : ℕ) → (t.circuit_at x).address ≢ from → At x (t.circuit_at x) (hear_stop_at b t from to source now r).act
stop_home b t x from to source now r n =
    let c : CircuitEntry = t.circuit_at to in
    heard_cond x (t.circuit_at x) (nat_eq c.address from && (nat_eq c.end.peer source || nat_eq source 0) && lives c.end) (record { act = steps_at b t to (hear_stop now r c.end); answer = Ended r }) (foreign t)
    (λ i. steps_home b t x to (hear_stop now r c.end) (apart t x to from n (and_parts (nat_eq c.address from) (nat_eq c.end.peer source || nat_eq source 0) (and_parts (nat_eq c.address from && (nat_eq c.end.peer source || nat_eq source 0)) (lives c.end) i).0).0)) (λ i. refl)

reply_home : (t : Table) (x from to source now : ℕ) (g : Agreed) → (t.circuit_at x).address ≢ from → At x (t.circuit_at x) (hear_reply_at t from to source now g).act
reply_home t x from to source now g n =
    let c : CircuitEntry = t.circuit_at to in
    heard_cond x (t.circuit_at x) (nat_eq c.address from && lives c.end && (not c.end.running || nat_eq c.end.peer source)) (record { act = steps_at true t to (hear_reply now source g c.end); answer = cond c.end.running Again Running }) (foreign t)
    (λ i. steps_home true t x to (hear_reply now source g c.end) (apart t x to from n (and_parts (nat_eq c.address from) (lives c.end) (and_parts (nat_eq c.address from && lives c.end) (not c.end.running || nat_eq c.end.peer source) i).0).0)) (λ i. refl)

-- the server

server_message : (config : ServerConfig) (st : Server) (x from : ℕ) (m : Message) (k : Option Numbers) → (st.core.circuits.circuit_at x).address ≢ from → (Server.hears_message config st from m k).state.core.circuits.circuit_at x ≡ st.core.circuits.circuit_at x
server_message config st x from (RunMessage h slots) k n = run_home true st.core.circuits x from false h slots k st.core.moment n
server_message config st x from (WideMessage h slots) k n = run_home true st.core.circuits x from true h slots k st.core.moment n
server_message config st x from (StartMessage true ask to source info) k n = refl
server_message config st x from (StartMessage false ask to source info) k n = reply_home st.core.circuits x from to source st.core.moment (agreed_by config.timing info) n
server_message config st x from (StopMessage master ask to source reason text) k n = stop_home true st.core.circuits x from to source st.core.moment reason n

server_command : (config : ServerConfig) (st : Server) (x from : ℕ) (m : Command) (a : Action) → (Server.hears_command config st from m a).state.core.circuits.circuit_at x ≡ st.core.circuits.circuit_at x
server_command config st x from m Ask = refl
server_command config st x from m Cancel = go (kept_for (key_of m) (st.queue ++ Cancels (key_of m) ∷ []))
  where
    told : Option Kept → ServerStep
    told o = elim o [
      | None ↦ record { state = record st { queue = st.queue ++ Cancels (key_of m) ∷ [] }; answer = NotKept; frames = Server.status_frame from m Unknown ∷ [] }
      | Some k ↦ record { state = record st { queue = st.queue ++ Cancels (key_of m) ∷ [] }; answer = KeptIs k; frames = Server.status_frame from m (KeptAs k) ∷ [] }
    ]

    go : (o : Option Kept) → (told o).state.core.circuits.circuit_at x ≡ st.core.circuits.circuit_at x
    go None = refl
    go (Some k) = refl

server_notice : (config : ServerConfig) (st : Server) (x from : ℕ) (m : Notice) → (Server.hears_notice config st from m).state.core.circuits.circuit_at x ≡ st.core.circuits.circuit_at x
server_notice config st x from (AnnouncementNotice a) = refl
server_notice config st x from (CommandNotice m) = server_command config st x from m m.action
server_notice config st x from (ResponseNotice r) = refl
server_notice config st x from (StatusNotice r) = refl
server_notice config st x from (SolicitNotice r) = refl

pub server_home : ServerHearsAtHome
server_home config st from (Malformed field at) k now x n = refl
server_home config st from (Whole v) k now x n = go (nat_eq from everyone) (value v)
  where
    s : Server
    s = record st { core = at_moment now st.core }

    value : (v : Value) → (Server.hears_value config s from v k).state.core.circuits.circuit_at x ≡ st.core.circuits.circuit_at x
    value (OfCircuit m) = server_message config s x from m k n
    value (OfNotice m) = server_notice config s x from m

    go : (b : Bool) → (Server.hears_value config s from v k).state.core.circuits.circuit_at x ≡ st.core.circuits.circuit_at x → (cond b (Server.tells s Ignored) (Server.hears_value config s from v k)).state.core.circuits.circuit_at x ≡ st.core.circuits.circuit_at x
    go true p = refl
    go false p = p

-- the node

judge_home : (config : NodeConfig) (st : Node) (x y id : ℕ) (request : Option ℕ) (v : Verdict) → x ≢ y → (judged config st y id request v).core.circuits.circuit_at x ≡ st.core.circuits.circuit_at x
judge_home config st x y id request (Rejects reason) n = local_home false st.core.circuits x y (RejectAsk id reason) n
judge_home config st x y id request (Accepts line) n = local_home false st.core.circuits x y (Calls.Answer id) n

ones_home : (config : NodeConfig) (x y : ℕ) (ids : List ℕ) (st : Node) → x ≢ y → (answers_in config y ids st).core.circuits.circuit_at x ≡ st.core.circuits.circuit_at x
ones_home config x y [] st n = refl
ones_home config x y (id ∷ ids) st n = ones_home config x y ids (answers_one config y st id) n ∙ go (waits (asked_at st y id))
  where
    s : Session
    s = asked_at st y id

    go : (b : Bool) → (cond b (judged config st y id s.request (verdict config st s.service s.request)) st).core.circuits.circuit_at x ≡ st.core.circuits.circuit_at x
    go true = judge_home config st x y id s.request (verdict config st s.service s.request) n
    go false = refl

asked_home : (config : NodeConfig) (x y : ℕ) (st : Node) → x ≢ y → (answers_asked config y st).core.circuits.circuit_at x ≡ st.core.circuits.circuit_at x
asked_home config x y st n = go (lives (st.core.circuits.circuit_at y).end)
  where
    left : Node
    left = record st { turned_away = st.turned_away + asked_on st y }

    go : (b : Bool) → (cond b (answers_in config y (upwards 0 64) st) left).core.circuits.circuit_at x ≡ st.core.circuits.circuit_at x
    go true = ones_home config x y (upwards 0 64) st n
    go false = refl

node_run_home : (config : NodeConfig) (st : Node) (x from : ℕ) (wide : Bool) (h : Head) (slots : List Slot) (k : Option Numbers) → (st.core.circuits.circuit_at x).address ≢ from → (Node.hears_run config st from wide h slots k).state.core.circuits.circuit_at x ≡ st.core.circuits.circuit_at x
node_run_home config st x from wide h slots k n = go (names st.core.circuits from h.to h.from) refl
  where
    s : NodeStep
    s = Node.heard_at config st (hear_run false st.core.circuits from wide h slots k st.core.moment)

    home : s.state.core.circuits.circuit_at x ≡ st.core.circuits.circuit_at x
    home = run_home false st.core.circuits x from wide h slots k st.core.moment n

    go : (b : Bool) → names st.core.circuits from h.to h.from ≡ b → (cond b (answers_asked config h.to s.state) s.state).core.circuits.circuit_at x ≡ st.core.circuits.circuit_at x
    go true i = asked_home config x h.to s.state (apart st.core.circuits x h.to from n (addr_named st.core.circuits from h.to h.from i)) ∙ home
    go false i = home

start_home : (config : NodeConfig) (st : Node) (x from source : ℕ) (info : StartInfo) → is_drawn st.core.circuits x ≡ true → (st.core.circuits.circuit_at x).address ≢ from → (Node.hears_start config st from source info (start_fact st.core.circuits from source)).state.core.circuits.circuit_at x ≡ st.core.circuits.circuit_at x
start_home config st x from source info l n = go (nat_eq k 0) refl (nat_lt (living t) 8 && nat_lt t.drawn 65535)
  where
    t : Table
    t = st.core.circuits

    k : ℕ
    k = slave_of t from source

    fact : Bool → Bool → StartFact
    fact a b = cond a (cond b (Makes (next_id t)) Refuses) (Repeats k)

    go : (a : Bool) → nat_eq k 0 ≡ a → (b : Bool) → (Node.hears_start config st from source info (fact a b)).state.core.circuits.circuit_at x ≡ t.circuit_at x
    go true i true = upd_other t.circuit_at (next_id t) _ x (drawn_apart t.first t.drawn x l)
    go true i false = refl
    go false i b = steps_home false t x k (again_start st.core.moment (t.circuit_at k).end) (apart t x k from n (and_parts (nat_eq (t.circuit_at k).address from) (nat_eq (t.circuit_at k).end.peer source) (and_parts (is_of (t.circuit_at k) from source) (lives (t.circuit_at k).end) (least_true (λ j. is_of (t.circuit_at j) from source && lives (t.circuit_at j).end) (ids t) (eqb-false k 0 i))).0).0)

outlive_home : (from source x : ℕ) (ys : List ℕ) (t : Table) → (t.circuit_at x).address ≢ from → ((outlive from source ys t).circuit_at x ≡ t.circuit_at x) × ((outlive from source ys t).drawn ≡ t.drawn)
outlive_home from source x [] t n = (refl, refl)
outlive_home from source x (y ∷ ys) t n =
    let u : Table = outlive_at from source y t in
    let one : (u.circuit_at x ≡ t.circuit_at x) × (u.drawn ≡ t.drawn) = go (is_outlived (t.circuit_at y) from source) refl in
    let all : ((outlive from source ys u).circuit_at x ≡ u.circuit_at x) × ((outlive from source ys u).drawn ≡ u.drawn) = outlive_home from source x ys u (subst (λ (c : CircuitEntry). c.address ≢ from) (sym one.0) n) in
    (all.0 ∙ one.0, all.1 ∙ one.1)
  where
    e : End
    e = (t.circuit_at y).end

    go : (b : Bool) → is_outlived (t.circuit_at y) from source ≡ b → ((cond b (steps_at false t y (lapse 5 e)).table t).circuit_at x ≡ t.circuit_at x) × ((cond b (steps_at false t y (lapse 5 e)).table t).drawn ≡ t.drawn)
    go false i = (refl, refl)
    go true i = (steps_home false t x y (lapse 5 e) (apart t x y from n (and_parts (nat_eq (t.circuit_at y).address from) (follows e.peer source) (and_parts (nat_eq (t.circuit_at y).address from && follows e.peer source) (lives e) i).0).0), refl)

way_home : (config : NodeConfig) (st : Node) (x from source : ℕ) → (st.core.circuits.circuit_at x).address ≢ from → (Node.makes_way config st from source).core.circuits.circuit_at x ≡ st.core.circuits.circuit_at x
way_home config st x from source n = go config.prompt
  where
    go : (b : Bool) → (cond b (outlive from source (ids st.core.circuits) st.core.circuits) st.core.circuits).circuit_at x ≡ st.core.circuits.circuit_at x
    go true = (outlive_home from source x (ids st.core.circuits) st.core.circuits n).0
    go false = refl

outlive_drawn : (from source x : ℕ) (ys : List ℕ) (t : Table) → is_drawn (outlive from source ys t) x ≡ is_drawn t x
outlive_drawn from source x [] t = refl
outlive_drawn from source x (y ∷ ys) t = outlive_drawn from source x ys (outlive_at from source y t) ∙ go (is_outlived (t.circuit_at y) from source)
  where
    go : (b : Bool) → is_drawn (cond b (steps_at false t y (lapse 5 (t.circuit_at y).end)).table t) x ≡ is_drawn t x
    go true = refl
    go false = refl

way_drawn : (config : NodeConfig) (st : Node) (from source x : ℕ) → is_drawn (Node.makes_way config st from source).core.circuits x ≡ is_drawn st.core.circuits x
way_drawn config st from source x = go config.prompt
  where
    go : (b : Bool) → is_drawn (cond b (outlive from source (ids st.core.circuits) st.core.circuits) st.core.circuits) x ≡ is_drawn st.core.circuits x
    go true = outlive_drawn from source x (ids st.core.circuits) st.core.circuits
    go false = refl

node_message : (config : NodeConfig) (st : Node) (x from : ℕ) (m : Message) (k : Option Numbers) → is_drawn st.core.circuits x ≡ true → (st.core.circuits.circuit_at x).address ≢ from → (Node.hears_message config st from m k).state.core.circuits.circuit_at x ≡ st.core.circuits.circuit_at x
node_message config st x from (RunMessage h slots) k l n = node_run_home config st x from false h slots k n
node_message config st x from (WideMessage h slots) k l n = node_run_home config st x from true h slots k n
node_message config st x from (StartMessage true ask to source info) k l n = by st.halted
  where
    by : (b : Bool) → (cond b (Node.turns_away config st from source) (Node.starts config (Node.makes_way config st from source) from source info)).state.core.circuits.circuit_at x ≡ st.core.circuits.circuit_at x
    by true = refl
    by false =
        let way : (Node.makes_way config st from source).core.circuits.circuit_at x ≡ st.core.circuits.circuit_at x = way_home config st x from source n in
        start_home config (Node.makes_way config st from source) x from source info (way_drawn config st from source x ∙ l) (subst (λ (c : CircuitEntry). c.address ≢ from) (sym way) n) ∙ way
node_message config st x from (StartMessage false ask to source info) k l n = refl
node_message config st x from (StopMessage master ask to source reason text) k l n = stop_home false st.core.circuits x from to source st.core.moment reason n

node_notice : (config : NodeConfig) (rates : List ℕ) (st : Node) (x from : ℕ) (m : Notice) → (Node.hears_notice config rates st from m).state.core.circuits.circuit_at x ≡ st.core.circuits.circuit_at x
node_notice config rates st x from (AnnouncementNotice a) = refl
node_notice config rates st x from (CommandNotice m) = refl
node_notice config rates st x from (ResponseNotice r) = refl
node_notice config rates st x from (StatusNotice r) = refl
node_notice config rates st x from (SolicitNotice r) = go (find (same r.service) config.services)
  where
    go : (o : Option Name) → (Node.solicited config rates st from r.id o).state.core.circuits.circuit_at x ≡ st.core.circuits.circuit_at x
    go None = refl
    go (Some s) = refl

pub node_home : NodeStaysHome
node_home config rates st from (Malformed field at) k now x l n = refl
node_home config rates st from (Whole v) k now x l n = go (nat_eq from everyone) (value v)
  where
    s : Node
    s = record st { core = at_moment now st.core }

    value : (v : Value) → (Node.hears_value config rates s from v k).state.core.circuits.circuit_at x ≡ st.core.circuits.circuit_at x
    value (OfCircuit m) = node_message config s x from m k l n
    value (OfNotice m) = node_notice config rates s x from m

    go : (b : Bool) → (Node.hears_value config rates s from v k).state.core.circuits.circuit_at x ≡ st.core.circuits.circuit_at x → (cond b (Node.tells s Ignored) (Node.hears_value config rates s from v k)).state.core.circuits.circuit_at x ≡ st.core.circuits.circuit_at x
    go true p = refl
    go false p = p
