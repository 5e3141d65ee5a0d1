-- A server alone, whatever it hears and from whom: its queue is legal, and no line is left that could grant a request.
use Rattle.std.proofs.Common.{◌≡◌, ℕ, ◌<◌, refl, sym, ap, ◌∙◌, Bool, true, false, not, cond, ◌&&◌, ◌||◌, List, [], ◌∷◌, ◌++◌, Option, Some, None, nat_eq, nat_lt}
use Rattle.std.proofs.lemmas.Bool.{and_parts, true≢false}
use Rattle.lat_model.specs.sessions.Slots.{Slot}
use Rattle.lat_model.specs.sessions.Session.{put_open, take_open}
use Rattle.lat_model.specs.sessions.Sessions.{least_free}
use Rattle.lat_model.specs.sessions.Calls.{Call, Connect, Put, Set, Attend, Take, Close}
use Rattle.lat_model.specs.Lists.{updated, upwards}
use Rattle.lat_model.specs.ends.End.{End, Step, lives, call_end, finish}
use Rattle.lat_model.specs.ends.Timers.{note_empty, time_step}
use Rattle.lat_model.specs.ends.Run.{run_end}
use Rattle.lat_model.specs.ends.Starting.{Agreed, Setup, hear_reply, hear_stop}
use Rattle.lat_model.specs.circuits.World.{CircuitEntry, Table}
use Rattle.lat_model.specs.circuits.Arriving.{is_of, living}
use Rattle.lat_model.proofs.sessions.Words.{upd_all, upd_other}
use Rattle.lat_model.proofs.circuits.Kin.{kin_time, kin_run, kin_stop}
use Rattle.lat_model.proofs.circuits.Begins.{kin_call}
use Rattle.lat_model.specs.circuits.Ids.{ids, is_drawn, next_id}
use Rattle.lat_model.proofs.circuits.Ids.{undrawn_other, undrawn_before}
use Rattle.lat_machines.specs.values.Names.{Name}
use Rattle.lat_machines.specs.values.Addresses.{everyone}
use Rattle.lat_machines.specs.values.Messages.{Head, RunMessage, WideMessage, StartMessage, StopMessage}
use Rattle.lat_machines.specs.values.Notices.{Kept, KeptAs, Unknown, Action, Ask, Cancel, Command, AnnouncementNotice, CommandNotice, StatusNotice, SolicitNotice, ResponseNotice}
use Rattle.lat_machines.specs.values.Frames.{Value, OfCircuit, OfNotice, Whole, Malformed}
use Rattle.lat_machines.specs.values.Timing.{agreed_by}
use Rattle.lat_machines.specs.values.Keys.{Key}
use Rattle.lat_machines.specs.values.Events.{Numbers, Event, Hears, Time, Connects, Puts, Sets, Takes, Attends, Closes, Requests, Withdraws, Announces, Avoids, Readies, Halts}
use Rattle.lat_machines.specs.values.Answers.{Again, Running, Ended, Answer, Connected, Ignored, Closed, Busy, NoLine, SessionsFull, CircuitsFull, IdsOut, NotKept, KeptIs, Halted}
use Rattle.lat_machines.specs.server.Directory.{Best, best}
use Rattle.lat_machines.specs.server.Queue.{Cancels, Request, LegalQueue}
use Rattle.lat_machines.specs.server.Records.{kept_for}
use Rattle.lat_machines.specs.cores.Acts.{Acted, idle, steps_at, call_at, called, local_at, time_at, move_at, end_at}
use Rattle.lat_machines.specs.cores.Hearing.{HeardAct, foreign, names, fits_kind, numbers_at, run_frame, run_at, hear_run, hear_stop_at, hear_reply_at}
use Rattle.lat_machines.specs.cores.Cores.{Seat, Core, Doing, rests, then_doing, acts, setup_of, at_moment, time_each, circuit_to, end_each}
use Rattle.lat_machines.specs.cores.Lines.{session_of, seat_at, has_session, line_exists}
use Rattle.lat_machines.specs.cores.LineCalls.{Said, says, calls_on, put_on, set_on, attend_on, take_on, close_on, on_line}
use Rattle.lat_machines.specs.server.Server.{ServerConfig, Server, ServerStep, server_side, open_server, offer_on, tells, does, has_room, connects_on, opens, connects_to, solicits_for, connect_event, status_frame, key_of, hears_command, hears_value, server_event, finished_requests, Passing, grantable, grants_by, grant_line, grant_lines, server_step}
use Rattle.lat_machines.specs.world.Histories.{server_run}
use Rattle.lat_machines.specs.world.Safe.{NoGrant}
use Rattle.lat_machines.proofs.queue.Legal.{legal_none, legal_step}
use Rattle.lat_machines.proofs.queue.Grants.{no_grant}
use Rattle.lat_machines.proofs.queue.Quiet.{reply_master}

-- the queue

pub legal_history : (config : ServerConfig) (es : List Event) (st : Server) → LegalQueue st.queue → LegalQueue (server_run config es st).queue
legal_history config [] st l = l
legal_history config (e ∷ es) st l = legal_history config es (server_step config st e).state (legal_step config st e l)

-- its circuits are masters, and those that weren't drawn don't live

pub record Sound (t : Table) : Type 0 where
  pub masters : (x : ℕ) → (t.circuit_at x).end.half.sessions.master ≡ true
  pub new : (k : ℕ) → is_drawn t k ≡ false → lives (t.circuit_at k).end ≡ false

steps_sound : (t : Table) (x : ℕ) (s : Step) → Sound t → lives (t.circuit_at x).end ≡ true → s.end.half.sessions.master ≡ (t.circuit_at x).end.half.sessions.master → Sound (steps_at true t x s).table
steps_sound t x s r l m = record {
  masters = λ y. upd_all (λ (z : CircuitEntry). z.end.half.sessions.master ≡ true) t.circuit_at x new (m ∙ r.masters x) r.masters y;
  new = λ k d. ap (λ (z : CircuitEntry). lives z.end) (upd_other t.circuit_at x new k (λ q. true≢false (sym l ∙ (ap (λ z. lives (t.circuit_at z).end) (sym q) ∙ r.new k d)))) ∙ r.new k d;
}
  where
    new : CircuitEntry
    new = record { address = (t.circuit_at x).address; end = (note_empty (t.circuit_at x).end s).end }

call_sound : (u : Setup) (t : Table) (address now : ℕ) → Sound t → Sound (call_at u t address now).table
call_sound u t address now r = record {
  masters = λ y. upd_all (λ (z : CircuitEntry). z.end.half.sessions.master ≡ true) t.circuit_at (next_id t) new refl r.masters y;
  new = λ k d. ap (λ (z : CircuitEntry). lives z.end) (upd_other t.circuit_at (next_id t) new k (undrawn_other t.first t.drawn k d)) ∙ r.new k (undrawn_before t.first t.drawn k d);
}
  where
    new : CircuitEntry
    new = record { address = address; end = (called u now).end }

act_cond : (n : Bool) (a b : Acted) → (n ≡ true → Sound a.table) → (n ≡ false → Sound b.table) → Sound (cond n a b).table
act_cond true a b p q = p refl
act_cond false a b p q = q refl

heard_cond : (n : Bool) (a b : HeardAct) → (n ≡ true → Sound a.act.table) → (n ≡ false → Sound b.act.table) → Sound (cond n a b).act.table
heard_cond true a b p q = p refl
heard_cond false a b p q = q refl

local_sound : (t : Table) (x : ℕ) (c : Call) → Sound t → Sound (local_at true t x c).table
local_sound t x c r =
    let s : Step = record { end = call_end c (t.circuit_at x).end; sent = [] } in
    act_cond (lives (t.circuit_at x).end) (steps_at true t x s) (idle t) (λ i. steps_sound t x s r i (kin_call c (t.circuit_at x).end).sessions) (λ i. r)

time_sound : (t : Table) (x now : ℕ) → Sound t → Sound (time_at true t x now).table
time_sound t x now r = act_cond (lives (t.circuit_at x).end) (steps_at true t x (time_step now (t.circuit_at x).end)) (idle t) (λ i. steps_sound t x (time_step now (t.circuit_at x).end) r i (kin_time now (t.circuit_at x).end).sessions) (λ i. r)

end_sound : (t : Table) (x n : ℕ) → Sound t → Sound (end_at true t x n).table
end_sound t x n r = act_cond (lives (t.circuit_at x).end) (steps_at true t x (finish n (t.circuit_at x).end)) (idle t) (λ i. steps_sound t x (finish n (t.circuit_at x).end) r i refl) (λ i. r)

move_sound : (t : Table) (x now : ℕ) → Sound t → Sound (move_at true t x now).table
move_sound t x now r =
    let s : Step = record { end = record ((t.circuit_at x).end) { moment = now }; sent = [] } in
    act_cond (lives (t.circuit_at x).end) (steps_at true t x s) (idle t) (λ i. steps_sound t x s r i refl) (λ i. r)

run_sound : (t : Table) (from : ℕ) (wide : Bool) (h : Head) (slots : List Slot) (k : Option Numbers) (now : ℕ) → Sound t → Sound (hear_run true t from wide h slots k now).act.table
run_sound t from wide h slots k now r =
    let e : End = (t.circuit_at h.to).end in
    let s : Step = (run_end now h.ask (run_frame (numbers_at e h k) slots) e).step in
    heard_cond (names t from h.to h.from) (run_at true t h.to (fits_kind e h.master wide) now h.ask (run_frame (numbers_at e h k) slots)) (foreign t)
    (λ i. heard_cond (fits_kind e h.master wide) _ _
    (λ j. steps_sound t h.to s r (and_parts (is_of (t.circuit_at h.to) from h.from) (lives e) (and_parts (is_of (t.circuit_at h.to) from h.from && lives e) e.running i).0).1 (kin_run now h.ask (run_frame (numbers_at e h k) slots) e).sessions)
    (λ j. move_sound t h.to now r))
    (λ i. r)

stop_sound : (t : Table) (from to source now reason : ℕ) → Sound t → Sound (hear_stop_at true t from to source now reason).act.table
stop_sound t from to source now reason r =
    let c : CircuitEntry = t.circuit_at to in
    heard_cond (nat_eq c.address from && (nat_eq c.end.peer source || nat_eq source 0) && lives c.end) (record { act = steps_at true t to (hear_stop now reason c.end); answer = Ended reason }) (foreign t)
    (λ i. steps_sound t to (hear_stop now reason c.end) r (and_parts (nat_eq c.address from && (nat_eq c.end.peer source || nat_eq source 0)) (lives c.end) i).1 (kin_stop now reason c.end).sessions) (λ i. r)

reply_sound : (t : Table) (from to source now : ℕ) (g : Agreed) → Sound t → Sound (hear_reply_at t from to source now g).act.table
reply_sound t from to source now g r =
    let c : CircuitEntry = t.circuit_at to in
    heard_cond (nat_eq c.address from && lives c.end && (not c.end.running || nat_eq c.end.peer source)) (record { act = steps_at true t to (hear_reply now source g c.end); answer = cond c.end.running Again Running }) (foreign t)
    (λ i. steps_sound t to (hear_reply now source g c.end) r (and_parts (nat_eq c.address from) (lives c.end) (and_parts (nat_eq c.address from && lives c.end) (not c.end.running || nat_eq c.end.peer source) i).0).1 (reply_master now source g c.end)) (λ i. r)

-- opening a session

opens_sound : (config : ServerConfig) (line address : ℕ) (node service : Name) (key : Option Key) (request : Option ℕ) (c : Core) → Sound c.circuits → Sound (opens config line address node service key request c).core.circuits
opens_sound config line address node service key request c r = go (nat_eq (circuit_to c address) 0)
  where
    named : Core
    named = record c { names = updated c.names (next_id c.circuits) node }

    made : Doing
    made = acts (server_side config) named (call_at (setup_of config.timing) named.circuits address named.moment)

    after : Doing → Core
    after d = (connects_on config line (circuit_to d.core address) service key request d.core).core

    go : (b : Bool) → Sound (after (cond b made (rests c))).circuits
    go true = local_sound made.core.circuits (circuit_to made.core address) (Connect service request) (call_sound (setup_of config.timing) c.circuits address c.moment r)
    go false = local_sound c.circuits (circuit_to c address) (Connect service request) r

-- the events

steady_cond : (st : Server) (n : Bool) (s t : ServerStep) → (Sound st.core.circuits → Sound s.state.core.circuits) → (Sound st.core.circuits → Sound t.state.core.circuits) → Sound st.core.circuits → Sound (cond n s t).state.core.circuits
steady_cond st true s t p q = p
steady_cond st false s t p q = q

connect_sound : (config : ServerConfig) (st : Server) (line : ℕ) (service : Name) → Sound st.core.circuits → Sound (connect_event config st line service).state.core.circuits
connect_sound config st line service r = go (line_exists config.lines line) (has_session st.core line) (best config.groups service st.core.moment st.heard)
  where
    reaches : (b : Best) → Sound (connects_to config st line service b).state.core.circuits
    reaches b =
        let x : ℕ = circuit_to st.core b.from in
        let d : Doing = opens config line b.from b.node service None None st.core in
        let o : Sound d.core.circuits = opens_sound config line b.from b.node service None None st.core r in
        steady_cond st (nat_eq x 0)
        (cond (nat_lt (living st.core.circuits) 8) (cond (nat_lt st.core.circuits.drawn 65535) (does st (Connected (next_id st.core.circuits) 1) d) (tells st IdsOut)) (tells st CircuitsFull))
        (cond (has_room st.core x) (does st (Connected x (least_free (st.core.circuits.circuit_at x).end.half.sessions)) d) (tells st SessionsFull))
        (steady_cond st (nat_lt (living st.core.circuits) 8) (cond (nat_lt st.core.circuits.drawn 65535) (does st (Connected (next_id st.core.circuits) 1) d) (tells st IdsOut)) (tells st CircuitsFull) (steady_cond st (nat_lt st.core.circuits.drawn 65535) (does st (Connected (next_id st.core.circuits) 1) d) (tells st IdsOut) (λ y. o) (λ y. y)) (λ y. y))
        (steady_cond st (has_room st.core x) (does st (Connected x (least_free (st.core.circuits.circuit_at x).end.half.sessions)) d) (tells st SessionsFull) (λ y. o) (λ y. y))
        r

    go : (n m : Bool) (o : Option Best) → Sound (cond n (cond m (tells st Busy) (elim o [ None ↦ solicits_for config st service | Some b ↦ connects_to config st line service b ])) (tells st NoLine)).state.core.circuits
    go false m o = r
    go true true o = r
    go true false None = r
    go true false (Some b) = reaches b

times_sound : (config : ServerConfig) (xs : List ℕ) (d : Doing) → Sound d.core.circuits → Sound (time_each (server_side config) xs d).core.circuits
times_sound config [] d r = r
times_sound config (x ∷ xs) d r = times_sound config xs (then_doing d (λ c. acts (server_side config) c (time_at true c.circuits x c.moment))) (time_sound d.core.circuits x d.core.moment r)

ends_sound : (config : ServerConfig) (n : ℕ) (xs : List ℕ) (d : Doing) → Sound d.core.circuits → Sound (end_each (server_side config) n xs d).core.circuits
ends_sound config n [] d r = r
ends_sound config n (x ∷ xs) d r = ends_sound config n xs (then_doing d (λ c. acts (server_side config) c (end_at true c.circuits x n))) (end_sound d.core.circuits x n r)

said_cond : (n : Bool) (a b : Said) → Sound a.core.circuits → Sound b.core.circuits → Sound (cond n a b).core.circuits
said_cond true a b p q = p
said_cond false a b p q = q

line_sound : (lines : ℕ) (c : Core) (line : ℕ) (f : Seat → Said) → Sound c.circuits → ((s : Seat) → Sound (f s).core.circuits) → Sound (on_line lines c line f).core.circuits
line_sound lines c line f r p = said_cond (line_exists lines line) (cond (has_session c line) (f (seat_at c line)) (says c Closed)) (says c NoLine) (said_cond (has_session c line) (f (seat_at c line)) (says c Closed) (p (seat_at c line)) r) r

-- a call that a session may refuse, and one that it may refuse twice
call_sound_if : (config : ServerConfig) (c : Core) (s : Seat) (n : Bool) (x : Call) (a b : Answer) → Sound c.circuits → Sound (cond n (says (calls_on (server_side config) c s x) a) (says c b)).core.circuits
call_sound_if config c s n x a b r = said_cond n (says (calls_on (server_side config) c s x) a) (says c b) (local_sound c.circuits s.circuit x r) r

command_sound : (config : ServerConfig) (st : Server) (from : ℕ) (m : Command) (a : Action) → Sound st.core.circuits → Sound (hears_command config st from m a).state.core.circuits
command_sound config st from m Ask r = r
command_sound config st from m Cancel r = go (kept_for (key_of m) (st.queue ++ Cancels (key_of m) ∷ []))
  where
    told : Option Kept → ServerStep
    told o = elim o [
      | None ↦ record { state = record st { queue = st.queue ++ Cancels (key_of m) ∷ [] }; answer = NotKept; frames = status_frame from m Unknown ∷ [] }
      | Some k ↦ record { state = record st { queue = st.queue ++ Cancels (key_of m) ∷ [] }; answer = KeptIs k; frames = status_frame from m (KeptAs k) ∷ [] }
    ]

    go : (o : Option Kept) → Sound (told o).state.core.circuits
    go None = r
    go (Some k) = r

value_sound : (config : ServerConfig) (st : Server) (from : ℕ) (v : Value) (k : Option Numbers) → Sound st.core.circuits → Sound (hears_value config st from v k).state.core.circuits
value_sound config st from (OfCircuit (RunMessage h slots)) k r = run_sound st.core.circuits from false h slots k st.core.moment r
value_sound config st from (OfCircuit (WideMessage h slots)) k r = run_sound st.core.circuits from true h slots k st.core.moment r
value_sound config st from (OfCircuit (StartMessage true ask to source info)) k r = r
value_sound config st from (OfCircuit (StartMessage false ask to source info)) k r = reply_sound st.core.circuits from to source st.core.moment (agreed_by config.timing info) r
value_sound config st from (OfCircuit (StopMessage master ask to source reason text)) k r = stop_sound st.core.circuits from to source st.core.moment reason r
value_sound config st from (OfNotice (AnnouncementNotice a)) k r = r
value_sound config st from (OfNotice (CommandNotice m)) k r = command_sound config st from m m.action r
value_sound config st from (OfNotice (ResponseNotice m)) k r = r
value_sound config st from (OfNotice (StatusNotice m)) k r = r
value_sound config st from (OfNotice (SolicitNotice m)) k r = r

pub event_sound : (config : ServerConfig) (st : Server) (e : Event) → Sound st.core.circuits → Sound (server_event config st e).state.core.circuits
event_sound config st (Hears from (Malformed field at) k now) r = r
event_sound config st (Hears from (Whole v) k now) r =
    let s : Server = record st { core = at_moment now st.core } in
    steady_cond s (nat_eq from everyone) (tells s Ignored) (hears_value config s from v k) (λ y. y) (value_sound config s from v k) r
event_sound config st (Time now) r = times_sound config (ids st.core.circuits) (rests (at_moment now st.core)) r
event_sound config st (Connects line service) r = steady_cond st st.halted (tells st Halted) (connect_event config st line service) (λ y. y) (connect_sound config st line service) r
event_sound config st (Puts line bytes) r = line_sound config.lines st.core line (λ s. put_on (server_side config) st.core s bytes) r (λ s. call_sound_if config st.core s (put_open (session_of st.core s)) (Put s.id bytes) _ Closed r)
event_sound config st (Sets line setting) r =
    line_sound config.lines st.core line (λ s. set_on (server_side config) st.core s setting) r
    (λ s. said_cond (put_open (session_of st.core s)) _ (says st.core Closed) (call_sound_if config st.core s _ (Set s.id setting) _ _ r) r)
event_sound config st (Takes line n) r = line_sound config.lines st.core line (λ s. take_on (server_side config) st.core s n) r (λ s. call_sound_if config st.core s (take_open (session_of st.core s)) (Take s.id n) _ Closed r)
event_sound config st (Attends line flag) r = line_sound config.lines st.core line (λ s. attend_on (server_side config) st.core s flag) r (λ s. call_sound_if config st.core s (put_open (session_of st.core s)) (Attend s.id flag) _ Closed r)
event_sound config st (Closes line) r = line_sound config.lines st.core line (λ s. close_on (server_side config) st.core s) r (λ s. call_sound_if config st.core s (take_open (session_of st.core s)) (Close s.id) _ Closed r)
event_sound config st (Requests to id service) r = r
event_sound config st (Withdraws id) r = r
event_sound config st Announces r = r
event_sound config st (Avoids line) r = r
event_sound config st (Readies line ready) r = r
event_sound config st Halts r = ends_sound config 3 (ids st.core.circuits) (rests st.core) r

-- the grant pass

pub line_grants_sound : (config : ServerConfig) (line : ℕ) (o : Option Name) (g : Option Request) (p : Passing) → Sound p.state.core.circuits → Sound (grants_by config line o g p).state.core.circuits
line_grants_sound config line None g p r = r
line_grants_sound config line (Some service) None p r = r
line_grants_sound config line (Some service) (Some g) p r = opens_sound config line g.from g.key.node service (Some g.key) (Some g.key.request) p.state.core r

pub pass_sound : (config : ServerConfig) (lines : List ℕ) (p : Passing) → Sound p.state.core.circuits → Sound (grant_lines config lines p).state.core.circuits
pass_sound config [] p r = r
pass_sound config (line ∷ lines) p r = pass_sound config lines (grant_line config p line) (line_grants_sound config line (offer_on line config.offers) (grantable p.state line (offer_on line config.offers)) p r)

-- every history

none_left_on : (config : ServerConfig) (es : List Event) (st : Server) → 0 < config.timing.sessions → Sound st.core.circuits → NoGrant config st → NoGrant config (server_run config es st)
none_left_on config [] st pos r g = g
none_left_on config (e ∷ es) st pos r g =
    let s : Server = finished_requests (server_event config st e).state in
    let h : Sound (server_event config st e).state.core.circuits = event_sound config st e r in
    none_left_on config es (server_step config st e).state pos (pass_sound config (upwards 0 config.lines) (record { state = s; frames = [] }) h) (no_grant config s pos (record { masters = h.masters; new = h.new }))

pub first_quiet : (config : ServerConfig) → NoGrant config (open_server config)
first_quiet config line a b = go (offer_on line config.offers)
  where
    go : (o : Option Name) → grantable (open_server config) line o ≡ None
    go None = refl
    go (Some s) = refl

pub none_left : (config : ServerConfig) (es : List Event) → 0 < config.timing.sessions → NoGrant config (server_run config es (open_server config))
none_left config es pos = none_left_on config es (open_server config) pos (record { masters = λ x. refl; new = λ k l. refl }) (first_quiet config)

pub legal_alone : (config : ServerConfig) (es : List Event) → LegalQueue (server_run config es (open_server config)).queue
legal_alone config es = legal_history config es (open_server config) legal_none
