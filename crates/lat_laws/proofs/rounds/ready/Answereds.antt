-- In every run no session of a living circuit of the node waits for its answer.
use Rattle.std.proofs.Common.{◌≡◌, ◌≢◌, ℕ, suc, ◌+◌, ◌<◌, sym, ◌∙◌, refl, subst, Bool, true, false, not, cond, ◌&&◌, ◌||◌, List, [], ◌∷◌, Option, Some, None, nat_eq, nat_lt, slice_get, find, eqb-true}
use Rattle.std.proofs.lemmas.Bool.{true≢false, false≢true, eqb-false}
use Rattle.lat_model.specs.sessions.Slots.{Slot}
use Rattle.lat_model.specs.sessions.Session.{Session, waits, put_open, take_open}
use Rattle.lat_model.specs.sessions.Sessions.{Sessions}
use Rattle.lat_model.specs.sessions.Calls.{Call, Put, Set, Attend, Take, Close, Answer, RejectAsk}
use Rattle.lat_model.specs.Lists.{upwards}
use Rattle.lat_model.specs.ends.End.{ReplyStart, End, Step, lives, call_end, finish, lapse}
use Rattle.lat_model.specs.ends.Timers.{note_empty, time_step}
use Rattle.lat_model.specs.ends.Run.{run_end}
use Rattle.lat_model.specs.ends.Starting.{make_slave, again_start, hear_stop}
use Rattle.lat_model.specs.circuits.World.{CircuitEntry, Table, first_end}
use Rattle.lat_model.specs.circuits.Arriving.{living, slave_of}
use Rattle.lat_model.proofs.sessions.Words.{upd_other}
use Rattle.lat_model.specs.circuits.Ids.{ids, next_id}
use Rattle.lat_machines.specs.values.Names.{Name, same}
use Rattle.lat_machines.specs.values.Addresses.{everyone}
use Rattle.lat_machines.specs.values.Messages.{Head, StartInfo, RunMessage, WideMessage, StartMessage, StopMessage}
use Rattle.lat_machines.specs.values.Notices.{AnnouncementNotice, CommandNotice, StatusNotice, SolicitNotice, ResponseNotice}
use Rattle.lat_machines.specs.values.Frames.{Value, OfCircuit, OfNotice, Whole, Malformed}
use Rattle.lat_machines.specs.values.Timing.{agreed_by}
use Rattle.lat_machines.specs.values.Events.{Numbers, Event, Hears, Time, Connects, Puts, Sets, Takes, Attends, Closes, Requests, Withdraws, Announces, is_heard, Avoids, Readies, Halts}
use Rattle.lat_machines.specs.values.Answers.{Closed, Ignored, IdUsed, NoLine, Ended}
use Rattle.lat_machines.specs.values.Answers as A
use Rattle.lat_machines.specs.cores.Acts.{Acted, idle, put_at, steps_at, local_at, time_at, end_at}
use Rattle.lat_machines.specs.cores.Hearing.{HeardAct, foreign, names, fits_kind, numbers_at, run_frame, run_at, hear_run, hear_stop_at, Makes, Repeats, Refuses, start_fact, is_outlived, outlive_at, outlive}
use Rattle.lat_machines.specs.cores.Cores.{Seat, Core, Doing, rests, then_doing, acts, with_circuits, setup_of, at_moment, time_each, end_each}
use Rattle.lat_machines.specs.cores.Lines.{session_of, seat_at, has_session, line_exists}
use Rattle.lat_machines.specs.cores.LineCalls.{Said, says, calls_on, put_on, set_on, attend_on, take_on, close_on, on_line}
use Rattle.lat_machines.specs.node.Node.{NodeConfig, Node, NodeStep, Requested, node_side, request_of, Verdict, Accepts, Rejects, verdict, judged, asked_at, answers_one, answers_in, asked_on, answers_asked, requests_again, withdraws, solicited, hears_run, hears_start, node_step, makes_way, starts, turns_away}
use Rattle.lat_machines.specs.node.Node as N
use Rattle.lat_machines.specs.world.Machines.{Setups, Posted, Machines, Move, Does, HearsFrame, HearsForeign, tell, is_for_other, heard_as, counted, marked_delivered, comes, is_own, happens, run, open_machines}
use Rattle.lat_laws.specs.rounds.Seated.{Seated, BothSeated}
use Rattle.lat_laws.proofs.rounds.ready.Tables.{run_at_later}
use Rattle.lat_laws.proofs.rounds.ready.Seats.{seated_later}
use Rattle.lat_laws.proofs.rounds.ready.Opens.{Answering}
use Rattle.lat_laws.proofs.rounds.ready.Events.{happens_seated}
use Rattle.lat_laws.proofs.rounds.ready.Answers.{WaitsLess, call_less, time_less, answered_all}

abbrev sess : Table → ℕ → Sessions
sess t x = (t.circuit_at x).end.half.sessions

abbrev AnsweredEnd : End → Type 0
AnsweredEnd e = lives e ≡ true → (k : ℕ) → waits (e.half.sessions.session k) ≡ false

abbrev pub Answered : Table → Type 0
Answered t = (x : ℕ) → AnsweredEnd (t.circuit_at x).end

abbrev AnsweredBut : ℕ → Table → Type 0
AnsweredBut y t = (x : ℕ) → x ≢ y → AnsweredEnd (t.circuit_at x).end

less_none : (a b : Sessions) → WaitsLess a b → ((k : ℕ) → waits (a.session k) ≡ false) → (k : ℕ) → waits (b.session k) ≡ false
less_none a b l h k = go (waits (b.session k)) refl
  where
    go : (c : Bool) → waits (b.session k) ≡ c → waits (b.session k) ≡ false
    go true q = absurd (true≢false (sym (l k q) ∙ h k))
    go false q = q

put_answered : (b : Bool) (t : Table) (drawn x address : ℕ) (s : Step) → AnsweredEnd s.end → Answered t → Answered (put_at b t drawn x address s).table
put_answered b t drawn x address s h g y = go (nat_eq y x)
  where
    go : (c : Bool) → AnsweredEnd (cond c (record { address = address; end = s.end }) (t.circuit_at y)).end
    go true = h
    go false = g y

steps_answered : (t : Table) (x : ℕ) (s : Step) → AnsweredEnd s.end → Answered t → Answered (steps_at false t x s).table
steps_answered t x s h g = put_answered false t t.drawn x (t.circuit_at x).address (note_empty (t.circuit_at x).end s) h g

steps_but : (t : Table) (x : ℕ) (s : Step) → AnsweredBut x t → AnsweredBut x (steps_at false t x s).table
steps_but t x s g y n = subst (λ (z : CircuitEntry). AnsweredEnd z.end) (sym (upd_other t.circuit_at x (record { address = (t.circuit_at x).address; end = (note_empty (t.circuit_at x).end s).end }) y n)) (g y n)

act_cond : (n : Bool) (a b : Acted) → (n ≡ true → Answered a.table) → Answered b.table → Answered (cond n a b).table
act_cond true a b p q = p refl
act_cond false a b p q = q

local_answered : (t : Table) (x : ℕ) (c : Call) → (sess t x).master ≡ false → Answered t → Answered (local_at false t x c).table
local_answered t x c m g =
    let e : End = (t.circuit_at x).end in
    let s : Step = record { end = call_end c e; sent = [] } in
    act_cond (lives e) (steps_at false t x s) (idle t) (λ i. steps_answered t x s (λ l. less_none e.half.sessions s.end.half.sessions (call_less e.half.sessions c m) (g x i)) g) g

local_but : (t : Table) (x : ℕ) (c : Call) → AnsweredBut x t → AnsweredBut x (local_at false t x c).table
local_but t x c g = go (lives (t.circuit_at x).end)
  where
    s : Step
    s = record { end = call_end c (t.circuit_at x).end; sent = [] }

    go : (b : Bool) → AnsweredBut x (cond {A = Acted} b (steps_at false t x s) (idle t)).table
    go true = steps_but t x s g
    go false = g

time_answered : (t : Table) (x now : ℕ) → Answered t → Answered (time_at false t x now).table
time_answered t x now g =
    let e : End = (t.circuit_at x).end in
    act_cond (lives e) (steps_at false t x (time_step now e)) (idle t) (λ i. steps_answered t x (time_step now e) (λ l. less_none e.half.sessions (time_step now e).end.half.sessions (time_less now e) (g x i)) g) g

stop_end : (now r : ℕ) (e : End) → AnsweredEnd e → AnsweredEnd (hear_stop now r e).end
stop_end now r e h = go (lives e)
  where
    go : (b : Bool) → AnsweredEnd (cond {A = Step} b (record { end = record e { ended = Some r; moment = now }; sent = [] }) (record { end = e; sent = [] })).end
    go true = λ l. absurd (false≢true l)
    go false = h

stop_answered : (t : Table) (from to source now reason : ℕ) → Answered t → Answered (hear_stop_at false t from to source now reason).act.table
stop_answered t from to source now reason g = go (nat_eq c.address from && (nat_eq c.end.peer source || nat_eq source 0) && lives c.end)
  where
    c : CircuitEntry
    c = t.circuit_at to

    go : (b : Bool) → Answered (cond {A = HeardAct} b (record { act = steps_at false t to (hear_stop now reason c.end); answer = Ended reason }) (foreign t)).act.table
    go true = steps_answered t to (hear_stop now reason c.end) (stop_end now reason c.end (g to)) g
    go false = g

again_end : (now : ℕ) (e : End) → AnsweredEnd e → AnsweredEnd (again_start now e).end
again_end now e h = go (lives e) refl (not e.heard_run)
  where
    again : Step
    again = record { end = record e { moment = now; heard_at = now; sent_at = now; owed = false }; sent = ReplyStart ∷ [] }

    heard : Step
    heard = record { end = record e { moment = now; heard_at = now }; sent = [] }

    none : Step
    none = record { end = e; sent = [] }

    go : (a : Bool) → lives e ≡ a → (b : Bool) → AnsweredEnd (cond (a && b) again (cond a heard none)).end
    go true q true = λ l. h q
    go true q false = λ l. h q
    go false q b = h

-- the node's answers

record Behind (config : NodeConfig) (x : ℕ) (st : Node) : Type 0 where
  answering : Answering config.lines x st.core
  but : AnsweredBut x st.core.circuits

judged_but : (config : NodeConfig) (st : Node) (x id : ℕ) (request : Option ℕ) (v : Verdict) → AnsweredBut x st.core.circuits → AnsweredBut x (judged config st x id request v).core.circuits
judged_but config st x id request (Accepts line) g = local_but st.core.circuits x (Answer id) g
judged_but config st x id request (Rejects reason) g = local_but st.core.circuits x (RejectAsk id reason) g

answers_but : (config : NodeConfig) (x : ℕ) (ids : List ℕ) (st : Node) → AnsweredBut x st.core.circuits → AnsweredBut x (answers_in config x ids st).core.circuits
answers_but config x [] st g = g
answers_but config x (id ∷ ids) st g = answers_but config x ids (answers_one config x st id) (go (waits s))
  where
    s : Session
    s = asked_at st x id

    go : (b : Bool) → AnsweredBut x (cond b (judged config st x id s.request (verdict config st s.service s.request)) st).core.circuits
    go true = judged_but config st x id s.request (verdict config st s.service s.request) g
    go false = g

all_of : (t : Table) (x : ℕ) → AnsweredBut x t → AnsweredEnd (t.circuit_at x).end → Answered t
all_of t x g h y = go (nat_eq y x) refl
  where
    go : (b : Bool) → nat_eq y x ≡ b → AnsweredEnd (t.circuit_at y).end
    go true q = subst (λ z. AnsweredEnd (t.circuit_at z).end) (sym (eqb-true y x q)) h
    go false q = g y (eqb-false y x q)

asked_answered : (config : NodeConfig) (x : ℕ) (st : Node) → Seated false config.lines st.core → AnsweredBut x st.core.circuits → Answered (answers_asked config x st).core.circuits
asked_answered config x st h g = go (lives (st.core.circuits.circuit_at x).end) refl
  where
    left : Node
    left = record st { turned_away = st.turned_away + asked_on st x }

    go : (b : Bool) → lives (st.core.circuits.circuit_at x).end ≡ b → Answered (cond b (answers_in config x (upwards 0 64) st) left).core.circuits
    go true q = all_of (answers_in config x (upwards 0 64) st).core.circuits x (answers_but config x (upwards 0 64) st g) (λ l. answered_all config x st (record { seated = h; alive = q }))
    go false q = all_of st.core.circuits x g (λ l. absurd (false≢true (sym q ∙ l)))

but_cond : (z : ℕ) (n : Bool) (x y : HeardAct) → AnsweredBut z x.act.table → AnsweredBut z y.act.table → AnsweredBut z (cond n x y).act.table
but_cond z true x y p q = p
but_cond z false x y p q = q

hears_run_answered : (config : NodeConfig) (st : Node) (from : ℕ) (wide : Bool) (hd : Head) (slots : List Slot) (n : Option Numbers) → Seated false config.lines st.core → Answered st.core.circuits → Answered (hears_run config st from wide hd slots n).state.core.circuits
hears_run_answered config st from wide hd slots n h g = go (names t from hd.to hd.from) (seated_later false config.lines st.core (with_circuits st.core (hear_run false t from wide hd slots n st.core.moment).act.table) refl (run_at_later false false t from wide hd slots n st.core.moment) h)
  where
    t : Table
    t = st.core.circuits

    e : End
    e = (t.circuit_at hd.to).end

    step : Step
    step = (run_end st.core.moment hd.ask (run_frame (numbers_at e hd n) slots) e).step

    ran : HeardAct
    ran = run_at false t hd.to (fits_kind e hd.master wide) st.core.moment hd.ask (run_frame (numbers_at e hd n) slots)

    moved : Step
    moved = record { end = record e { moment = st.core.moment }; sent = [] }

    -- all but that circuit
    but : AnsweredBut hd.to ran.act.table
    but = but_cond hd.to (fits_kind e hd.master wide) _ _ (steps_but t hd.to step (λ x q. g x)) (moves (lives e))
      where
        moves : (b : Bool) → AnsweredBut hd.to (cond {A = Acted} b (steps_at false t hd.to moved) (idle t)).table
        moves true = steps_but t hd.to moved (λ x q. g x)
        moves false = λ x q. g x

    after : Bool → NodeStep
    after b = N.heard_at config st (cond b ran (foreign t))

    go : (b : Bool) → Seated false config.lines (after b).state.core → Answered (cond b (answers_asked config hd.to (after b).state) (after b).state).core.circuits
    go true s = asked_answered config hd.to (after true).state s but
    go false s = g

start_answered : (config : NodeConfig) (st : Node) (from source : ℕ) (info : StartInfo) → Answered st.core.circuits → Answered (hears_start config st from source info (start_fact st.core.circuits from source)).state.core.circuits
start_answered config st from source info g = go (nat_eq (slave_of t from source) 0) (nat_lt (living t) 8 && nat_lt t.drawn 65535)
  where
    t : Table
    t = st.core.circuits

    go : (a b : Bool) → Answered (hears_start config st from source info (cond a (cond b (Makes (next_id t)) Refuses) (Repeats (slave_of t from source)))).state.core.circuits
    go true true = put_answered false t (suc t.drawn) (next_id t) from (make_slave st.core.moment source (agreed_by config.timing info) (first_end false false (setup_of config.timing))) (λ l k. refl) g
    go true false = g
    go false b = steps_answered t (slave_of t from source) (again_start st.core.moment (t.circuit_at (slave_of t from source)).end) (again_end st.core.moment (t.circuit_at (slave_of t from source)).end (g (slave_of t from source))) g

-- the node's events

pub record NodeAnswered (lines : ℕ) (c : Core) : Type 0 where
  pub seated : Seated false lines c
  pub answered : Answered c.circuits

said_cond : (n : Bool) (a b : Said) → Answered a.core.circuits → Answered b.core.circuits → Answered (cond n a b).core.circuits
said_cond true a b p q = p
said_cond false a b p q = q

line_answered : (lines : ℕ) (c : Core) (line : ℕ) (f : Seat → Said) → Answered c.circuits → ((s : Seat) → Answered (f s).core.circuits) → Answered (on_line lines c line f).core.circuits
line_answered lines c line f r p = said_cond (line_exists lines line) (cond (has_session c line) (f (seat_at c line)) (says c Closed)) (says c NoLine) (said_cond (has_session c line) (f (seat_at c line)) (says c Closed) (p (seat_at c line)) r) r

call_if : (config : NodeConfig) (c : Core) → NodeAnswered config.lines c → (s : Seat) (n : Bool) (x : Call) (a b : A.Answer) → Answered (cond n (says (calls_on (node_side config) c s x) a) (says c b)).core.circuits
call_if config c r s n x a b = said_cond n (says (calls_on (node_side config) c s x) a) (says c b) (local_answered c.circuits s.circuit x (r.seated.good.masters s.circuit) r.answered) r.answered

times_answered : (config : NodeConfig) (xs : List ℕ) (d : Doing) → Answered d.core.circuits → Answered (time_each (node_side config) xs d).core.circuits
times_answered config [] d r = r
times_answered config (x ∷ xs) d r = times_answered config xs (then_doing d (λ c. acts (node_side config) c (time_at false c.circuits x c.moment))) (time_answered d.core.circuits x d.core.moment r)

-- an end that ends
end_answered : (t : Table) (x r : ℕ) → Answered t → Answered (end_at false t x r).table
end_answered t x r g = act_cond (lives (t.circuit_at x).end) (steps_at false t x (finish r (t.circuit_at x).end)) (idle t) (λ i. steps_answered t x (finish r (t.circuit_at x).end) (λ l. absurd (false≢true l)) g) g

ends_answered : (config : NodeConfig) (r : ℕ) (xs : List ℕ) (d : Doing) → Answered d.core.circuits → Answered (end_each (node_side config) r xs d).core.circuits
ends_answered config r [] d g = g
ends_answered config r (x ∷ xs) d g = ends_answered config r xs (then_doing d (λ c. acts (node_side config) c (end_at false c.circuits x r))) (end_answered d.core.circuits x r g)

outlived_answered : (from source : ℕ) (xs : List ℕ) (t : Table) → Answered t → Answered (outlive from source xs t)
outlived_answered from source [] t g = g
outlived_answered from source (x ∷ xs) t g = outlived_answered from source xs (outlive_at from source x t) (go (is_outlived (t.circuit_at x) from source))
  where
    go : (b : Bool) → Answered (cond b (steps_at false t x (lapse 5 (t.circuit_at x).end)).table t)
    go true = steps_answered t x (lapse 5 (t.circuit_at x).end) (λ l. absurd (false≢true l)) g
    go false = g

way_answered : (config : NodeConfig) (st : Node) (from source : ℕ) → Answered st.core.circuits → Answered (makes_way config st from source).core.circuits
way_answered config st from source g = go config.prompt
  where
    go : (b : Bool) → Answered (cond b (outlive from source (ids st.core.circuits) st.core.circuits) st.core.circuits)
    go true = outlived_answered from source (ids st.core.circuits) st.core.circuits g
    go false = g

node_cond : (n : Bool) (s t : NodeStep) → Answered s.state.core.circuits → Answered t.state.core.circuits → Answered (cond n s t).state.core.circuits
node_cond true s t p q = p
node_cond false s t p q = q

value_answered : (config : NodeConfig) (rates : List ℕ) (st : Node) (from : ℕ) (v : Value) (k : Option Numbers) → NodeAnswered config.lines st.core → Answered (N.hears_value config rates st from v k).state.core.circuits
value_answered config rates st from (OfCircuit (RunMessage h slots)) k r = hears_run_answered config st from false h slots k r.seated r.answered
value_answered config rates st from (OfCircuit (WideMessage h slots)) k r = hears_run_answered config st from true h slots k r.seated r.answered
value_answered config rates st from (OfCircuit (StartMessage true ask to source info)) k r =
    let m : Node = makes_way config st from source in
    node_cond st.halted (turns_away config st from source) (starts config m from source info) r.answered (start_answered config m from source info (way_answered config st from source r.answered))
value_answered config rates st from (OfCircuit (StartMessage false ask to source info)) k r = r.answered
value_answered config rates st from (OfCircuit (StopMessage master ask to source reason text)) k r = stop_answered st.core.circuits from to source st.core.moment reason r.answered
value_answered config rates st from (OfNotice (StatusNotice m)) k r = r.answered
value_answered config rates st from (OfNotice (SolicitNotice m)) k r = go (find (same m.service) config.services)
  where
    go : (o : Option Name) → Answered (solicited config rates st from m.id o).state.core.circuits
    go None = r.answered
    go (Some n) = r.answered
value_answered config rates st from (OfNotice (AnnouncementNotice a)) k r = r.answered
value_answered config rates st from (OfNotice (CommandNotice m)) k r = r.answered
value_answered config rates st from (OfNotice (ResponseNotice m)) k r = r.answered

again_answered : (config : NodeConfig) (st : Node) (to id : ℕ) (service : Name) (o : Option Requested) → Answered st.core.circuits → Answered (requests_again config st to id service o).state.core.circuits
again_answered config st to id service None r = r
again_answered config st to id service (Some x) r = node_cond (nat_eq x.to to && same x.service service) _ (N.tells st IdUsed) r r

withdraw_answered : (config : NodeConfig) (st : Node) (o : Option Requested) → Answered st.core.circuits → Answered (withdraws config st o).state.core.circuits
withdraw_answered config st None r = r
withdraw_answered config st (Some x) r = r

moment_seated : (config : NodeConfig) (c : Core) (now : ℕ) → Seated false config.lines c → Seated false config.lines (at_moment now c)
moment_seated config c now s = record { good = s.good; seat = λ x k l f a. (let h = s.seat x k l f a in record { seat = h.seat; is_seat = h.is_seat; circuit = h.circuit; serial = h.serial }); placed = λ t i. (let h = s.placed t i in record { drawn = h.drawn; made = h.made; id = h.id; accepted = h.accepted; line = h.line }); last = s.last; every = λ x k a. (let h = s.every x k a in record { seat = h.seat; is_seat = h.is_seat; circuit = h.circuit; serial = h.serial }); all = λ e x k a b. (let h = s.all e x k a b in record { seat = h.seat; is_seat = h.is_seat; circuit = h.circuit; serial = h.serial }) }

node_answered : (config : NodeConfig) (rates : List ℕ) (st : Node) (e : Event) → NodeAnswered config.lines st.core → Answered (node_step config rates st e).state.core.circuits
node_answered config rates st (Hears from (Malformed field at) k now) r = r.answered
node_answered config rates st (Hears from (Whole v) k now) r =
    let s : Node = record st { core = at_moment now st.core } in
    node_cond (nat_eq from everyone) (N.tells s Ignored) (N.hears_value config rates s from v k) r.answered (value_answered config rates s from v k (record { seated = moment_seated config st.core now r.seated; answered = r.answered }))
node_answered config rates st (Time now) r = times_answered config (ids st.core.circuits) (rests (at_moment now st.core)) r.answered
node_answered config rates st (Connects line service) r = r.answered
node_answered config rates st (Puts line bytes) r = line_answered config.lines st.core line (λ s. put_on (node_side config) st.core s bytes) r.answered (λ s. call_if config st.core r s (put_open (session_of st.core s)) (Put s.id bytes) _ Closed)
node_answered config rates st (Sets line setting) r = line_answered config.lines st.core line (λ s. set_on (node_side config) st.core s setting) r.answered (λ s. said_cond (put_open (session_of st.core s)) _ (says st.core Closed) (call_if config st.core r s _ (Set s.id setting) _ _) r.answered)
node_answered config rates st (Takes line n) r = line_answered config.lines st.core line (λ s. take_on (node_side config) st.core s n) r.answered (λ s. call_if config st.core r s (take_open (session_of st.core s)) (Take s.id n) _ Closed)
node_answered config rates st (Attends line flag) r = line_answered config.lines st.core line (λ s. attend_on (node_side config) st.core s flag) r.answered (λ s. call_if config st.core r s (put_open (session_of st.core s)) (Attend s.id flag) _ Closed)
node_answered config rates st (Closes line) r = line_answered config.lines st.core line (λ s. close_on (node_side config) st.core s) r.answered (λ s. call_if config st.core r s (take_open (session_of st.core s)) (Close s.id) _ Closed)
node_answered config rates st (Requests to id service) r = again_answered config st to id service (request_of id st) r.answered
node_answered config rates st (Withdraws id) r = withdraw_answered config st (request_of id st) r.answered
node_answered config rates st Announces r = r.answered
node_answered config rates st (Avoids line) r = r.answered
node_answered config rates st (Readies line ready) r = r.answered
node_answered config rates st Halts r = ends_answered config 3 (ids st.core.circuits) (rests st.core) r.answered

-- in every run

abbrev pub AllAnsweredAt : Machines → Type 0
AllAnsweredAt w = Answered w.node.core.circuits

tell_answered : (u : Setups) (w : Machines) (b : Bool) (e : Event) (rates : List ℕ) → BothSeated u w → AllAnsweredAt w → AllAnsweredAt (tell u w b e rates)
tell_answered u w true e rates s h = h
tell_answered u w false e rates s h = node_answered u.node rates w.node e (record { seated = s.node; answered = h })

answered_cond : (n : Bool) (x y : Machines) → AllAnsweredAt x → AllAnsweredAt y → AllAnsweredAt (cond n x y)
answered_cond true x y p q = p
answered_cond false x y p q = q

pub happens_answered : (u : Setups) (w : Machines) (e : Move) → BothSeated u w → AllAnsweredAt w → AllAnsweredAt (happens u w e)
happens_answered u w (Does b e rates) s h = answered_cond (is_heard e) w (tell u w b e rates) h (tell_answered u w b e rates s h)
happens_answered u w (HearsForeign b from payload now rates) s h = answered_cond (is_own u from) w (tell u w b (Hears from payload None now) rates) h (tell_answered u w b (Hears from payload None now) rates s h)
happens_answered u w (HearsFrame i now rates) s h = go (slice_get w.posts i)
  where
    go : (o : Option Posted) → AllAnsweredAt (comes u w i now rates o)
    go None = h
    go (Some f) = answered_cond (is_for_other u f) (tell u (marked_delivered i w) (not f.by_server) (heard_as u f now) rates) (counted (marked_delivered i w)) (tell_answered u (marked_delivered i w) (not f.by_server) (heard_as u f now) rates (record { server = s.server; node = s.node }) h) h

pub run_answered : (u : Setups) (es : List Move) (w : Machines) → 0 < u.server.timing.sessions → BothSeated u w → AllAnsweredAt w → AllAnsweredAt (run u es w)
run_answered u [] w pos s h = h
run_answered u (e ∷ es) w pos s h = run_answered u es (happens u w e) pos (happens_seated u w e pos s) (happens_answered u w e s h)

pub open_answered : (u : Setups) → AllAnsweredAt (open_machines u)
open_answered u x l k = refl
