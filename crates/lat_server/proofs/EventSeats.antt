-- The line sessions after an event, before what follows it.
use Rattle.std.proofs.Common.{◌≡◌, ℕ, refl, sym, ◌∙◌, Bool, true, false, cond, List, [], ◌∷◌, ◌++◌, length, Option, Some, None, nat_eq, nat_lt}
use Rattle.std.proofs.lemmas.List.{append-nil}
use Rattle.lat_model.specs.circuits.Ids.{ids, next_id}
use Rattle.lat_model.specs.sessions.Sessions.{least_free}
use Rattle.lat_model.specs.sessions.Session.{put_open, take_open, unframed}
use Rattle.lat_model.specs.sessions.Calls.{Put, Set, Attend, Take, Close, put_count, took}
use Rattle.lat_model.specs.circuits.Arriving.{living}
use Rattle.lat_machines.specs.values.Addresses.{everyone}
use Rattle.lat_machines.specs.values.Names.{Name}
use Rattle.lat_machines.specs.values.Messages.{Message, RunMessage, WideMessage, StartMessage, StopMessage}
use Rattle.lat_machines.specs.values.Notices.{Kept, KeptAs, Unknown, Action, Ask, Cancel, Command, AnnouncementNotice, CommandNotice, StatusNotice, SolicitNotice, ResponseNotice}
use Rattle.lat_machines.specs.values.Frames.{Value, OfCircuit, OfNotice, Reading, Whole, Malformed}
use Rattle.lat_machines.specs.values.Events.{Numbers, Event, Hears, Time, Connects, Puts, Sets, Takes, Attends, Closes, Requests, Withdraws, Announces, Avoids, Readies, Halts}
use Rattle.lat_machines.specs.values.Answers.{Accepted, Took, Done, Full, Closed, NoLine, Busy, SessionsFull, CircuitsFull, IdsOut, Connected, NotKept, KeptIs, Ignored, Halted}
use Rattle.lat_machines.specs.server.Directory.{Best, best}
use Rattle.lat_machines.specs.server.Queue.{QueueEvent, Cancels}
use Rattle.lat_machines.specs.server.Records.{kept_for}
use Rattle.lat_model.specs.Reasons as reasons
use Rattle.lat_machines.specs.cores.Acts.{time_at, end_at}
use Rattle.lat_machines.specs.cores.Cores.{Seat, Core, Side, Doing, rests, then_doing, acts, at_moment, time_each, end_each, circuit_to}
use Rattle.lat_machines.specs.cores.Lines.{sessions_of, session_of, seat_at, has_session, line_exists}
use Rattle.lat_machines.specs.cores.LineCalls.{Said, says, calls_on, put_on, set_on, attend_on, take_on, close_on, on_line}
use Rattle.lat_machines.specs.server.Server.{ServerConfig, Server, ServerStep, server_side, tells, does, has_room, opens, connects_to, solicits_for, connect_event, status_frame, key_of, hears_message, hears_command, hears_value, hears, server_event}
use Rattle.lat_server.specs.Concluded as concluded
use Rattle.lat_server.proofs.Openings.{Opening, opening_of}

-- the same sessions

abbrev Same : Core → Core → Type 0
Same c d = d.seats ≡ c.seats

same : (c d : Core) → Same c d → concluded.Connects c d
same c d q = record { new = []; seats = q ∙ sym (append-nil c.seats); keyless = tt }

step_cond : (c : Core) (b : Bool) (s t : ServerStep) → Same c s.state.core → Same c t.state.core → Same c (cond b s t).state.core
step_cond c true s t p q = p
step_cond c false s t p q = q

said_cond : (c : Core) (b : Bool) (s t : Said) → Same c s.core → Same c t.core → Same c (cond b s t).core
said_cond c true s t p q = p
said_cond c false s t p q = q

line_same : (lines : ℕ) (c : Core) (line : ℕ) (f : Seat → Said) → ((s : Seat) → Same c (f s).core) → Same c (on_line lines c line f).core
line_same lines c line f p = said_cond c (line_exists lines line) (cond (has_session c line) (f (seat_at c line)) (says c Closed)) (says c NoLine) (said_cond c (has_session c line) (f (seat_at c line)) (says c Closed) (p (seat_at c line)) refl) refl

put_same : (k : Side) (c : Core) (bytes : List ℕ) (s : Seat) → Same c (put_on k c s bytes).core
put_same k c bytes s = said_cond c (put_open (session_of c s)) (says (calls_on k c s (Put s.id bytes)) (Accepted (put_count (session_of c s) (length bytes)))) (says c Closed) refl refl

set_same : (k : Side) (c : Core) (setting : List ℕ) (s : Seat) → Same c (set_on k c s setting).core
set_same k c setting s =
    let room : Bool = nat_lt (length (unframed (session_of c s))) 4096 in
    said_cond c (put_open (session_of c s)) (cond room (says (calls_on k c s (Set s.id setting)) Done) (says c Full)) (says c Closed) (said_cond c room (says (calls_on k c s (Set s.id setting)) Done) (says c Full) refl refl) refl

attend_same : (k : Side) (c : Core) (flag : ℕ) (s : Seat) → Same c (attend_on k c s flag).core
attend_same k c flag s = said_cond c (put_open (session_of c s)) (says (calls_on k c s (Attend s.id flag)) Done) (says c Closed) refl refl

take_same : (k : Side) (c : Core) (n : ℕ) (s : Seat) → Same c (take_on k c s n).core
take_same k c n s = said_cond c (take_open (session_of c s)) (says (calls_on k c s (Take s.id n)) (Took (took (sessions_of c s) s.id n))) (says c Closed) refl refl

close_same : (k : Side) (c : Core) (s : Seat) → Same c (close_on k c s).core
close_same k c s = said_cond c (take_open (session_of c s)) (says (calls_on k c s (Close s.id)) Done) (says c Closed) refl refl

times_same : (k : Side) (xs : List ℕ) (d : Doing) → (time_each k xs d).core.seats ≡ d.core.seats
times_same k [] d = refl
times_same k (x ∷ xs) d = times_same k xs (then_doing d (λ c. acts k c (time_at k.server c.circuits x c.moment)))

ends_same : (k : Side) (r : ℕ) (xs : List ℕ) (d : Doing) → (end_each k r xs d).core.seats ≡ d.core.seats
ends_same k r [] d = refl
ends_same k r (x ∷ xs) d = ends_same k r xs (then_doing d (λ c. acts k c (end_at k.server c.circuits x r)))

-- what is heard

message_same : (config : ServerConfig) (st : Server) (from : ℕ) (m : Message) (k : Option Numbers) → Same st.core (hears_message config st from m k).state.core
message_same config st from (RunMessage h slots) k = refl
message_same config st from (WideMessage h slots) k = refl
message_same config st from (StartMessage true ask to source info) k = refl
message_same config st from (StartMessage false ask to source info) k = refl
message_same config st from (StopMessage master ask to source reason text) k = refl

command_same : (config : ServerConfig) (st : Server) (from : ℕ) (m : Command) (a : Action) → Same st.core (hears_command config st from m a).state.core
command_same config st from m Ask = refl
command_same config st from m Cancel = by (kept_for (key_of m) q)
  where
    q : List QueueEvent
    q = st.queue ++ Cancels (key_of m) ∷ []

    told : Option Kept → ServerStep
    told o = elim o [
      | None ↦ record { state = record st { queue = q }; answer = NotKept; frames = status_frame from m Unknown ∷ [] }
      | Some k ↦ record { state = record st { queue = q }; answer = KeptIs k; frames = status_frame from m (KeptAs k) ∷ [] }
    ]

    by : (o : Option Kept) → Same st.core (told o).state.core
    by None = refl
    by (Some k) = refl

value_same : (config : ServerConfig) (st : Server) (from : ℕ) (v : Value) (k : Option Numbers) → Same st.core (hears_value config st from v k).state.core
value_same config st from (OfCircuit m) k = message_same config st from m k
value_same config st from (OfNotice (AnnouncementNotice a)) k = refl
value_same config st from (OfNotice (CommandNotice m)) k = command_same config st from m m.action
value_same config st from (OfNotice (ResponseNotice m)) k = refl
value_same config st from (OfNotice (StatusNotice m)) k = refl
value_same config st from (OfNotice (SolicitNotice m)) k = refl

hears_same : (config : ServerConfig) (st : Server) (from : ℕ) (r : Reading) (k : Option Numbers) → Same st.core (hears config st from r k).state.core
hears_same config st from (Malformed field at) k = refl
hears_same config st from (Whole v) k = step_cond st.core (nat_eq from everyone) (tells st Ignored) (hears_value config st from v k) refl (value_same config st from v k)

-- a line that is connected

connect_seats : (config : ServerConfig) (st : Server) (line : ℕ) (service : Name) → concluded.Connects st.core (connect_event config st line service).state.core
connect_seats config st line service = by (line_exists config.lines line) (has_session st.core line) (best config.groups service st.core.moment st.heard)
  where
    none : concluded.Connects st.core st.core
    none = same st.core st.core refl

    if : (b : Bool) (s t : ServerStep) → concluded.Connects st.core s.state.core → concluded.Connects st.core t.state.core → concluded.Connects st.core (cond b s t).state.core
    if true s t p q = p
    if false s t p q = q

    reaches : (b : Best) → concluded.Connects st.core (connects_to config st line service b).state.core
    reaches b =
        let x : ℕ = circuit_to st.core b.from in
        let d : Doing = opens config line b.from b.node service None None st.core in
        let o : Opening st.core None d.core = opening_of config line b.from b.node service None None st.core in
        let n : concluded.Connects st.core d.core = record { new = o.seat ∷ []; seats = o.seats; keyless = (o.key, tt) } in
        if (nat_eq x 0)
        (cond (nat_lt (living st.core.circuits) 8) (cond (nat_lt st.core.circuits.drawn 65535) (does st (Connected (next_id st.core.circuits) 1) d) (tells st IdsOut)) (tells st CircuitsFull))
        (cond (has_room st.core x) (does st (Connected x (least_free (st.core.circuits.circuit_at x).end.half.sessions)) d) (tells st SessionsFull))
        (if (nat_lt (living st.core.circuits) 8) (cond (nat_lt st.core.circuits.drawn 65535) (does st (Connected (next_id st.core.circuits) 1) d) (tells st IdsOut)) (tells st CircuitsFull) (if (nat_lt st.core.circuits.drawn 65535) (does st (Connected (next_id st.core.circuits) 1) d) (tells st IdsOut) n none) none)
        (if (has_room st.core x) (does st (Connected x (least_free (st.core.circuits.circuit_at x).end.half.sessions)) d) (tells st SessionsFull) n none)

    by : (n m : Bool) (o : Option Best) → concluded.Connects st.core (cond n (cond m (tells st Busy) (elim o [ None ↦ solicits_for config st service | Some b ↦ connects_to config st line service b ])) (tells st NoLine)).state.core
    by false m o = none
    by true true o = none
    by true false None = none
    by true false (Some b) = reaches b

-- every event

pub event_seats : (config : ServerConfig) (st : Server) (e : Event) → concluded.Connects st.core (server_event config st e).state.core
event_seats config st (Hears from payload k now) = same st.core (hears config (record st { core = at_moment now st.core }) from payload k).state.core (hears_same config (record st { core = at_moment now st.core }) from payload k)
event_seats config st (Time now) = same st.core (time_each (server_side config) (ids st.core.circuits) (rests (at_moment now st.core))).core (times_same (server_side config) (ids st.core.circuits) (rests (at_moment now st.core)))
event_seats config st (Connects line service) = by st.halted
  where
    by : (b : Bool) → concluded.Connects st.core (cond b (tells st Halted) (connect_event config st line service)).state.core
    by true = same st.core st.core refl
    by false = connect_seats config st line service
event_seats config st (Puts line bytes) = same st.core (on_line config.lines st.core line (λ s. put_on (server_side config) st.core s bytes)).core (line_same config.lines st.core line (λ s. put_on (server_side config) st.core s bytes) (λ s. put_same (server_side config) st.core bytes s))
event_seats config st (Sets line setting) = same st.core (on_line config.lines st.core line (λ s. set_on (server_side config) st.core s setting)).core (line_same config.lines st.core line (λ s. set_on (server_side config) st.core s setting) (λ s. set_same (server_side config) st.core setting s))
event_seats config st (Takes line n) = same st.core (on_line config.lines st.core line (λ s. take_on (server_side config) st.core s n)).core (line_same config.lines st.core line (λ s. take_on (server_side config) st.core s n) (λ s. take_same (server_side config) st.core n s))
event_seats config st (Attends line flag) = same st.core (on_line config.lines st.core line (λ s. attend_on (server_side config) st.core s flag)).core (line_same config.lines st.core line (λ s. attend_on (server_side config) st.core s flag) (λ s. attend_same (server_side config) st.core flag s))
event_seats config st (Closes line) = same st.core (on_line config.lines st.core line (λ s. close_on (server_side config) st.core s)).core (line_same config.lines st.core line (λ s. close_on (server_side config) st.core s) (λ s. close_same (server_side config) st.core s))
event_seats config st (Requests to id service) = same st.core st.core refl
event_seats config st (Withdraws id) = same st.core st.core refl
event_seats config st Announces = same st.core st.core refl
event_seats config st (Avoids line) = same st.core st.core refl
event_seats config st (Readies line ready) = same st.core st.core refl
event_seats config st Halts =
    same st.core (end_each (server_side config) reasons.halted (ids st.core.circuits) (rests st.core)).core (ends_same (server_side config) reasons.halted (ids st.core.circuits) (rests st.core))
