-- A frame of a circuit of the server leaves alone the slaves of its other circuits, at a node that isn't prompt.
use Rattle.std.proofs.Common.{◌≡◌, ◌≢◌, ℕ, ◌+◌, ⊎_elim, sym, ap, ◌∙◌, refl, subst, Bool, true, false, not, cond, ◌&&◌, ◌||◌, List, [], ◌∷◌, Option, Some, None, nat_eq, nat_lt, slice_get, eqb-true, ne_eqb, find}
use Rattle.std.proofs.lemmas.Bool.{true≢false, false≢true, and_parts, eqb-false}
use Rattle.lat_model.specs.Lists.{upwards}
use Rattle.lat_model.specs.sessions.Slots.{Slot}
use Rattle.lat_model.specs.sessions.Session.{Session, waits}
use Rattle.lat_model.specs.sessions.Calls.{Call, RejectAsk}
use Rattle.lat_model.specs.sessions.Calls as Calls
use Rattle.lat_model.specs.ends.End.{Sent, Run, CallStart, ReplyStart, Stopped, End, Step, lives, call_end}
use Rattle.lat_model.specs.ends.Run.{run_end}
use Rattle.lat_model.specs.ends.Starting.{again_start, hear_stop}
use Rattle.lat_model.specs.circuits.World.{CircuitEntry, Table, Wired, World, table}
use Rattle.lat_model.specs.circuits.WorldOk.{ByServer, FromSender}
use Rattle.lat_model.specs.circuits.Arriving.{is_of, slave_of, living}
use Rattle.lat_model.proofs.numbers.Net.{each_at}
use Rattle.lat_model.proofs.sessions.Words.{upd_other}
use Rattle.lat_model.specs.circuits.Ids.{is_drawn, next_id, ids}
use Rattle.lat_model.proofs.circuits.Ids.{drawn_apart}
use Rattle.lat_machines.specs.values.Names.{Name, same}
use Rattle.lat_machines.specs.values.Addresses.{everyone}
use Rattle.lat_machines.specs.values.Messages.{Head, StartInfo, RunMessage, WideMessage, StartMessage, StopMessage}
use Rattle.lat_machines.specs.values.Notices.{Notice, AnnouncementNotice, CommandNotice, StatusNotice, SolicitNotice, ResponseNotice}
use Rattle.lat_machines.specs.values.Frames.{Value, OfCircuit, OfNotice, Whole, OutFrame}
use Rattle.lat_machines.specs.values.Runs.{slots_in, run_head}
use Rattle.lat_machines.specs.values.Events.{Numbers, Hears}
use Rattle.lat_machines.specs.values.Answers.{Ignored, Ended}
use Rattle.lat_machines.specs.cores.Acts.{Acted, idle, steps_at, local_at}
use Rattle.lat_machines.specs.cores.Hearing.{HeardAct, foreign, names, fits_kind, numbers_at, run_frame, run_at, hear_run, hear_stop_at, Repeats, Makes, Refuses, start_fact, outlive}
use Rattle.lat_machines.specs.cores.Cores.{Side, Core, sent_frame, at_moment, with_circuits}
use Rattle.lat_machines.specs.node.Node.{NodeConfig, Node, NodeStep, Verdict, Accepts, Rejects, judged, verdict, asked_at, answers_one, answers_in, asked_on, answers_asked, solicited, hears_run, hears_start, hears_value, node_step, makes_way, starts, turns_away}
use Rattle.lat_machines.specs.node.Node as N
use Rattle.lat_machines.specs.world.Machines.{Setups, Posted, Machines, is_for_other}
use Rattle.lat_machines.specs.world.Ties.{Shown, IsNotice}
use Rattle.lat_machines.proofs.events.Tied.{to_other}
use Rattle.lat_laws.specs.rounds.Carried.{NamesSender}
use Rattle.lat_laws.proofs.rounds.carried.Kinds.{least_passes}
use Rattle.lat_laws.proofs.rounds.rounds.Beside.{Beside, tied}
use Rattle.lat_laws.proofs.rounds.rounds.Done.{FoundAt, shown_at}
use Rattle.lat_laws.proofs.rounds.rounds.Places.{place}
use Rattle.lat_laws.proofs.rounds.rounds.Empty.{sent_circuit}

-- the sender's id that a message of a server states
abbrev pub Speaks : ℕ → Value → Type 0
Speaks x (OfCircuit (RunMessage h slots)) = h.from ≡ x
Speaks x (OfCircuit (WideMessage h slots)) = h.from ≡ x
Speaks x (OfCircuit (StartMessage master ask to source info)) = master ≡ true → source ≡ x
Speaks x (OfCircuit (StopMessage master ask to source reason text)) = (source ≡ x) × (x ≢ 0)
Speaks x (OfNotice n) = Unit {0}

-- the circuit y is as it was
abbrev At : ℕ → CircuitEntry → Acted → Type 0
At y c a = a.table.circuit_at y ≡ c

at_cond : (y : ℕ) (c : CircuitEntry) (n : Bool) (a b : Acted) → At y c a → At y c b → At y c (cond n a b)
at_cond y c true a b p q = p
at_cond y c false a b p q = q

heard_cond : (y : ℕ) (c : CircuitEntry) (n : Bool) (a b : HeardAct) → (n ≡ true → At y c a.act) → At y c b.act → At y c (cond n a b).act
heard_cond y c true a b p q = p refl
heard_cond y c false a b p q = q

steps_else : (t : Table) (y z : ℕ) (s : Step) → y ≢ z → (steps_at false t z s).table.circuit_at y ≡ t.circuit_at y
steps_else t y z s n = upd_other t.circuit_at z _ y n

-- whom a frame names has its sender for a peer
not_named : (t : Table) (y z from source : ℕ) → (t.circuit_at y).end.peer ≢ source → is_of (t.circuit_at z) from source ≡ true → y ≢ z
not_named t y z from source n i q = n (ap (λ w. (t.circuit_at w).end.peer) q ∙ eqb-true (t.circuit_at z).end.peer source (and_parts (nat_eq (t.circuit_at z).address from) (nat_eq (t.circuit_at z).end.peer source) i).1)

named_of : (t : Table) (from to source : ℕ) → names t from to source ≡ true → is_of (t.circuit_at to) from source ≡ true
named_of t from to source h = (and_parts (is_of (t.circuit_at to) from source) (lives (t.circuit_at to).end) (and_parts (is_of (t.circuit_at to) from source && lives (t.circuit_at to).end) (t.circuit_at to).end.running h).0).0

run_else : (t : Table) (y from : ℕ) (wide : Bool) (h : Head) (slots : List Slot) (k : Option Numbers) (now : ℕ) → (t.circuit_at y).end.peer ≢ h.from → At y (t.circuit_at y) (hear_run false t from wide h slots k now).act
run_else t y from wide h slots k now n =
    let e : End = (t.circuit_at h.to).end in
    let s : Step = (run_end now h.ask (run_frame (numbers_at e h k) slots) e).step in
    heard_cond y (t.circuit_at y) (names t from h.to h.from) (run_at false t h.to (fits_kind e h.master wide) now h.ask (run_frame (numbers_at e h k) slots)) (foreign t)
    (λ i. let d : y ≢ h.to = not_named t y h.to from h.from n (named_of t from h.to h.from i) in
    heard_cond y (t.circuit_at y) (fits_kind e h.master wide) _ _ (λ j. steps_else t y h.to s d)
    (at_cond y (t.circuit_at y) (lives e) (steps_at false t h.to (record { end = record e { moment = now }; sent = [] })) (idle t) (steps_else t y h.to (record { end = record e { moment = now }; sent = [] }) d) refl))
    refl

stop_else : (t : Table) (y from to source now r : ℕ) → source ≢ 0 → (t.circuit_at y).end.peer ≢ source → At y (t.circuit_at y) (hear_stop_at false t from to source now r).act
stop_else t y from to source now r some n =
    let c : CircuitEntry = t.circuit_at to in
    heard_cond y (t.circuit_at y) (nat_eq c.address from && (nat_eq c.end.peer source || nat_eq source 0) && lives c.end) (record { act = steps_at false t to (hear_stop now r c.end); answer = Ended r }) (foreign t)
    (λ i. steps_else t y to (hear_stop now r c.end) (λ q. n (ap (λ w. (t.circuit_at w).end.peer) q ∙ eqb-true c.end.peer source (left (nat_eq c.end.peer source) (nat_eq source 0) (and_parts (nat_eq c.address from) (nat_eq c.end.peer source || nat_eq source 0) (and_parts (nat_eq c.address from && (nat_eq c.end.peer source || nat_eq source 0)) (lives c.end) i).0).1 (ne_eqb source 0 some))))) refl
  where
    left : (a b : Bool) → (a || b) ≡ true → b ≡ false → a ≡ true
    left true b h z = refl
    left false b h z = absurd (true≢false (sym h ∙ z))

-- the answers at another circuit

local_else : (t : Table) (y z : ℕ) (c : Call) → y ≢ z → (local_at false t z c).table.circuit_at y ≡ t.circuit_at y
local_else t y z c n = at_cond y (t.circuit_at y) (lives (t.circuit_at z).end) (steps_at false t z (record { end = call_end c (t.circuit_at z).end; sent = [] })) (idle t) (steps_else t y z (record { end = call_end c (t.circuit_at z).end; sent = [] }) n) refl

judge_else : (config : NodeConfig) (st : Node) (y z id : ℕ) (request : Option ℕ) (v : Verdict) → y ≢ z → (judged config st z id request v).core.circuits.circuit_at y ≡ st.core.circuits.circuit_at y
judge_else config st y z id request (Rejects reason) n = local_else st.core.circuits y z (RejectAsk id reason) n
judge_else config st y z id request (Accepts line) n = local_else st.core.circuits y z (Calls.Answer id) n

ones_else : (config : NodeConfig) (y z : ℕ) (ids : List ℕ) (st : Node) → y ≢ z → (answers_in config z ids st).core.circuits.circuit_at y ≡ st.core.circuits.circuit_at y
ones_else config y z [] st n = refl
ones_else config y z (id ∷ ids) st n = ones_else config y z ids (answers_one config z st id) n ∙ go (waits (asked_at st z id))
  where
    s : Session
    s = asked_at st z id

    go : (b : Bool) → (cond b (judged config st z id s.request (verdict config st s.service s.request)) st).core.circuits.circuit_at y ≡ st.core.circuits.circuit_at y
    go true = judge_else config st y z id s.request (verdict config st s.service s.request) n
    go false = refl

asked_else : (config : NodeConfig) (y z : ℕ) (st : Node) → y ≢ z → (answers_asked config z st).core.circuits.circuit_at y ≡ st.core.circuits.circuit_at y
asked_else config y z st n = go (lives (st.core.circuits.circuit_at z).end)
  where
    left : Node
    left = record st { turned_away = st.turned_away + asked_on st z }

    go : (b : Bool) → (cond b (answers_in config z (upwards 0 64) st) left).core.circuits.circuit_at y ≡ st.core.circuits.circuit_at y
    go true = ones_else config y z (upwards 0 64) st n
    go false = refl

-- the node

hears_run_else : (config : NodeConfig) (st : Node) (y from : ℕ) (wide : Bool) (h : Head) (slots : List Slot) (k : Option Numbers) → (st.core.circuits.circuit_at y).end.peer ≢ h.from → (hears_run config st from wide h slots k).state.core.circuits.circuit_at y ≡ st.core.circuits.circuit_at y
hears_run_else config st y from wide h slots k n = go (names st.core.circuits from h.to h.from) refl
  where
    s : NodeStep
    s = N.heard_at config st (hear_run false st.core.circuits from wide h slots k st.core.moment)

    heard : s.state.core.circuits.circuit_at y ≡ st.core.circuits.circuit_at y
    heard = run_else st.core.circuits y from wide h slots k st.core.moment n

    go : (b : Bool) → names st.core.circuits from h.to h.from ≡ b → (cond b (answers_asked config h.to s.state) s.state).core.circuits.circuit_at y ≡ st.core.circuits.circuit_at y
    go true i = asked_else config y h.to s.state (not_named st.core.circuits y h.to from h.from n (named_of st.core.circuits from h.to h.from i)) ∙ heard
    go false i = heard

start_else : (config : NodeConfig) (st : Node) (y from source : ℕ) (info : StartInfo) → is_drawn st.core.circuits y ≡ true → (st.core.circuits.circuit_at y).end.peer ≢ source → (hears_start config st from source info (start_fact st.core.circuits from source)).state.core.circuits.circuit_at y ≡ st.core.circuits.circuit_at y
start_else config st y from source info l n = go (nat_eq (slave_of t from source) 0) refl (nat_lt (living t) 8 && nat_lt t.drawn 65535)
  where
    t : Table
    t = st.core.circuits

    go : (a : Bool) → nat_eq (slave_of st.core.circuits from source) 0 ≡ a → (b : Bool) → (hears_start config st from source info (cond a (cond b (Makes (next_id st.core.circuits)) Refuses) (Repeats (slave_of st.core.circuits from source)))).state.core.circuits.circuit_at y ≡ st.core.circuits.circuit_at y
    go true z true = upd_other st.core.circuits.circuit_at (next_id st.core.circuits) _ y (drawn_apart st.core.circuits.first st.core.circuits.drawn y l)
    go true z false = refl
    go false z b =
        let x : ℕ = slave_of st.core.circuits from source in
        steps_else st.core.circuits y x (again_start st.core.moment (st.core.circuits.circuit_at x).end) (not_named st.core.circuits y x from source n (and_parts (is_of (st.core.circuits.circuit_at x) from source) (lives (st.core.circuits.circuit_at x).end) (least_passes (λ i. is_of (st.core.circuits.circuit_at i) from source && lives (st.core.circuits.circuit_at i).end) (ids st.core.circuits) (eqb-false x 0 z))).0)

-- a node that isn't prompt ends no slave that a START follows
starts_else : (config : NodeConfig) (st : Node) (y from source : ℕ) (info : StartInfo) → config.prompt ≡ false → is_drawn st.core.circuits y ≡ true → (st.core.circuits.circuit_at y).end.peer ≢ source → (starts config (makes_way config st from source) from source info).state.core.circuits.circuit_at y ≡ st.core.circuits.circuit_at y
starts_else config st y from source info p l n = subst (λ z. (starts config z from source info).state.core.circuits.circuit_at y ≡ st.core.circuits.circuit_at y) (sym same_node) (start_else config st y from source info l n)
  where
    same_node : makes_way config st from source ≡ st
    same_node = ap (λ b. record st { core = with_circuits st.core (cond b (outlive from source (ids st.core.circuits) st.core.circuits) st.core.circuits) }) p

step_else : (st : Node) (y : ℕ) (n : Bool) (s t : NodeStep) → s.state.core.circuits.circuit_at y ≡ st.core.circuits.circuit_at y → t.state.core.circuits.circuit_at y ≡ st.core.circuits.circuit_at y → (cond n s t).state.core.circuits.circuit_at y ≡ st.core.circuits.circuit_at y
step_else st y true s t p q = p
step_else st y false s t p q = q

notice_else : (config : NodeConfig) (rates : List ℕ) (st : Node) (y from : ℕ) (m : Notice) → (N.hears_notice config rates st from m).state.core.circuits.circuit_at y ≡ st.core.circuits.circuit_at y
notice_else config rates st y from (StatusNotice m) = refl
notice_else config rates st y from (SolicitNotice m) = go (find (same m.service) config.services)
  where
    go : (o : Option Name) → (solicited config rates st from m.id o).state.core.circuits.circuit_at y ≡ st.core.circuits.circuit_at y
    go None = refl
    go (Some n) = refl
notice_else config rates st y from (AnnouncementNotice a) = refl
notice_else config rates st y from (CommandNotice m) = refl
notice_else config rates st y from (ResponseNotice r) = refl

value_else : (config : NodeConfig) (rates : List ℕ) (st : Node) (y x from : ℕ) (v : Value) (k : Option Numbers) → config.prompt ≡ false → is_drawn st.core.circuits y ≡ true → (st.core.circuits.circuit_at y).end.peer ≢ x → Speaks x v → (hears_value config rates st from v k).state.core.circuits.circuit_at y ≡ st.core.circuits.circuit_at y
value_else config rates st y x from (OfCircuit (RunMessage h slots)) k p l n s = hears_run_else config st y from false h slots k (λ q. n (q ∙ s))
value_else config rates st y x from (OfCircuit (WideMessage h slots)) k p l n s = hears_run_else config st y from true h slots k (λ q. n (q ∙ s))
value_else config rates st y x from (OfCircuit (StartMessage true ask to source info)) k p l n s = step_else st y st.halted (turns_away config st from source) (starts config (makes_way config st from source) from source info) refl (starts_else config st y from source info p l (λ q. n (q ∙ s refl)))
value_else config rates st y x from (OfCircuit (StartMessage false ask to source info)) k p l n s = refl
value_else config rates st y x from (OfCircuit (StopMessage master ask to source reason text)) k p l n s = stop_else st.core.circuits y from to source st.core.moment reason (λ q. s.1 (sym s.0 ∙ q)) (λ q. n (q ∙ s.0))
value_else config rates st y x from (OfNotice m) k p l n s = notice_else config rates st y from m

pub node_else : (config : NodeConfig) (rates : List ℕ) (st : Node) (y x from now : ℕ) (v : Value) (k : Option Numbers) → config.prompt ≡ false → is_drawn st.core.circuits y ≡ true → (st.core.circuits.circuit_at y).end.peer ≢ x → Speaks x v → (node_step config rates st (Hears from (Whole v) k now)).state.core.circuits.circuit_at y ≡ st.core.circuits.circuit_at y
node_else config rates st y x from now v k p l n s = go (nat_eq from everyone)
  where
    t : Node
    t = record st { core = at_moment now st.core }

    go : (b : Bool) → (cond b (N.tells t Ignored) (hears_value config rates t from v k)).state.core.circuits.circuit_at y ≡ st.core.circuits.circuit_at y
    go true = refl
    go false = value_else config rates t y x from v k p l n s

-- each frame of the server states its own circuit

sent_speaks : (w : World) (k : Side) (c : Core) (x to d s : ℕ) (t : Sent) → to ≡ w.node.own → FromSender w true x to d s t → NamesSender w true x to d s t → Speaks x (sent_frame k c (record { by_server = true; circuit = x; to = to; destination = d; source = s; sent = t })).value
sent_speaks w k c x to d s (Run m ask f) home says tells = go (c.circuits.circuit_at x).end.wide (c.circuits.circuit_at x).end.wide
  where
    by : ByServer w x d s f
    by = (says home).1

    go : (z y : Bool) → Speaks x (OfCircuit (cond z (WideMessage (run_head true y ask d s f) (slots_in f)) (RunMessage (run_head true y ask d s f) (slots_in f))))
    go true y = by.source
    go false y = by.source
sent_speaks w k c x to d s CallStart home says tells = λ m. tells
sent_speaks w k c x to d s ReplyStart home says tells = λ m. absurd (false≢true m)
sent_speaks w k c x to d s (Stopped r) home says tells = (tells.1, tells.2)

pub speaks_of : (u : Setups) (m : Machines) (w : World) (i : ℕ) (f : Posted) → Beside u m w → slice_get m.posts i ≡ Some f → f.by_server ≡ true → is_for_other u f ≡ true → Speaks f.frame.circuit f.frame.value
speaks_of u m w i f h e by other = ⊎_elim {C = Speaks f.frame.circuit f.frame.value} notice found (shown_at m.posts w.frames i f h.ties.shows e)
  where
    notice : IsNotice f → Speaks f.frame.circuit f.frame.value
    notice n = subst (Speaks f.frame.circuit) (sym n.1) tt

    found : FoundAt w.frames f (place m.posts i) → Speaks f.frame.circuit f.frame.value
    found x =
        let v : Wired = x.0 in
        let s : Shown f v = x.2 in
        let b : v.by_server ≡ true = sym s.by_server ∙ by in
        let to : v.to ≡ w.node.own = to_other u m w f v (place m.posts i) (tied u m w h) x.1 s other ∙ ap (λ z. (table w (not z)).own) b in
        let same : record { by_server = true; circuit = v.circuit; to = v.to; destination = v.destination; source = v.source; sent = v.sent } ≡ v = ap (λ z. record { by_server = z; circuit = v.circuit; to = v.to; destination = v.destination; source = v.source; sent = v.sent }) (sym b) in
        let says : FromSender w true v.circuit v.to v.destination v.source v.sent = subst (λ z. FromSender w z v.circuit v.to v.destination v.source v.sent) b (each_at (λ (y : Wired). FromSender w y.by_server y.circuit y.to y.destination y.source y.sent) w.frames (place m.posts i) v h.good.says x.1) in
        let tells : NamesSender w true v.circuit v.to v.destination v.source v.sent = subst (λ z. NamesSender w z v.circuit v.to v.destination v.source v.sent) b (each_at (λ (y : Wired). NamesSender w y.by_server y.circuit y.to y.destination y.source y.sent) w.frames (place m.posts i) v h.carried.tells x.1) in
        let r : Speaks v.circuit (sent_frame s.side s.core v).value = subst (λ z. Speaks v.circuit (sent_frame s.side s.core z).value) same (sent_speaks w s.side s.core v.circuit v.to v.destination v.source v.sent to says tells) in
        subst (λ (z : OutFrame). Speaks z.circuit z.value) (sym s.frame) (subst (λ z. Speaks z (sent_frame s.side s.core v).value) (sym (sent_circuit s.side s.core v)) r)
