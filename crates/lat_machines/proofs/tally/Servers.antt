-- What every event of a server tallies.
use Rattle.std.proofs.Common.{◌≡◌, ℕ, refl, Bool, true, false, cond, List, [], ◌∷◌, ◌++◌, Option, Some, None, nat_eq, nat_lt}
use Rattle.lat_model.specs.sessions.Sessions.{least_free}
use Rattle.lat_model.specs.sessions.Calls.{Connect}
use Rattle.lat_model.specs.sessions.Slots.{Slot}
use Rattle.lat_model.specs.Lists.{updated, upwards}
use Rattle.lat_model.specs.circuits.Arriving.{living}
use Rattle.lat_model.specs.circuits.Ids.{ids, next_id}
use Rattle.lat_machines.specs.values.Names.{Name}
use Rattle.lat_machines.specs.values.Addresses.{everyone}
use Rattle.lat_machines.specs.values.Messages.{Head, RunMessage, WideMessage, StartMessage, StopMessage}
use Rattle.lat_machines.specs.values.Notices.{Kept, KeptAs, Unknown, Action, Ask, Cancel, Command, AnnouncementNotice, CommandNotice, StatusNotice, SolicitNotice, ResponseNotice}
use Rattle.lat_machines.specs.values.Frames.{Value, OfCircuit, OfNotice, Whole, Malformed}
use Rattle.lat_machines.specs.values.Timing.{agreed_by}
use Rattle.lat_machines.specs.values.Keys.{Key}
use Rattle.lat_machines.specs.values.Events.{Numbers, Event, Hears, Time, Connects, Puts, Sets, Takes, Attends, Closes, Requests, Withdraws, Announces, Avoids, Readies, Halts}
use Rattle.lat_machines.specs.values.Answers.{Heard, Running, Taken, Again, AckOnly, Foreign, Broke, Ended, Circuit, Connected, Ignored, Busy, NoLine, SessionsFull, CircuitsFull, IdsOut, NotKept, KeptIs, Halted}
use Rattle.lat_machines.specs.server.Directory.{Best, best}
use Rattle.lat_machines.specs.server.Queue.{Cancels, Request}
use Rattle.lat_machines.specs.server.Records.{kept_for}
use Rattle.lat_machines.specs.cores.Acts.{call_at}
use Rattle.lat_machines.specs.cores.Hearing.{hear_run, HeardAct}
use Rattle.lat_machines.specs.cores.Cores.{Core, Doing, rests, acts, setup_of, at_moment, circuit_to, told_stranger}
use Rattle.lat_machines.specs.cores.Lines.{has_session, line_exists}
use Rattle.lat_machines.specs.cores.LineCalls.{put_on, set_on, attend_on, take_on, close_on}
use Rattle.lat_machines.specs.server.Server.{ServerConfig, Server, ServerStep, server_side, open_server, offer_on, tells, does, has_room, connects_on, opens, connects_to, solicits_for, connect_event, status_frame, key_of, hears_command, hears_value, server_event, finished_requests, Passing, grantable, grants_by, grant_line, grant_lines, server_step, hears_run, heard_at}
use Rattle.lat_machines.specs.world.Histories.{server_run}
use Rattle.lat_machines.specs.world.Tally.{taken_by, ServerTallied}
use Rattle.lat_machines.proofs.tally.Tables.{Steady, CoreCounts, Same, core_none, core_then, more_as, local_counts, call_counts, cond_none}
use Rattle.lat_machines.proofs.tally.Cores.{stop_counts, reply_counts, run_counts, taken_of, notice_more, times_counts, line_counts, put_same, set_same, attend_same, take_same, close_same, ends_counts, stranger_counts}

abbrev pub StepCounts : Event → Server → ServerStep → Type 0
StepCounts e st s = CoreCounts st.core s.state.core s.frames (taken_by e s.answer)

-- an event that takes no message
abbrev StepSame : Server → ServerStep → Type 0
StepSame st s = Same st.core s.state.core s.frames

same_cond : (st : Server) (n : Bool) (s t : ServerStep) → StepSame st s → StepSame st t → StepSame st (cond n s t)
same_cond st true s t f g = f
same_cond st false s t f g = g

opens_counts : (config : ServerConfig) (line address : ℕ) (node service : Name) (key : Option Key) (request : Option ℕ) (c : Core) → Steady c.circuits → Same c (opens config line address node service key request c).core (opens config line address node service key request c).frames
opens_counts config line address node service key request c r = go (nat_eq (circuit_to c address) 0)
  where
    named : Core
    named = record c { names = updated c.names (next_id c.circuits) node }

    made : Doing
    made = acts (server_side config) named (call_at (setup_of config.timing) named.circuits address named.moment)

    after : Doing → Doing
    after d = connects_on config line (circuit_to d.core address) service key request d.core

    all : Doing → Doing
    all d = record { core = (after d).core; frames = d.frames ++ (after d).frames }

    connected : (d : Doing) → Same c d.core d.frames → Same c (all d).core (all d).frames
    connected d h =
        let e : Core = record (d.core) { seats = (after d).core.seats } in
        core_then c d.core (after d).core d.frames (after d).frames (λ x. 0) h (local_counts true (server_side config) e (circuit_to d.core address) (Connect service request) h.steady)

    go : (b : Bool) → Same c (all (cond b made (rests c))).core (all (cond b made (rests c))).frames
    go true = connected made (call_counts (server_side config) named (setup_of config.timing) address named.moment r)
    go false = connected (rests c) (core_none c r)

connect_counts : (config : ServerConfig) (st : Server) (line : ℕ) (service : Name) → Steady st.core.circuits → StepSame st (connect_event config st line service)
connect_counts config st line service r = go (line_exists config.lines line) (has_session st.core line) (best config.groups service st.core.moment st.heard)
  where
    none : Same st.core st.core []
    none = core_none st.core r

    reaches : (b : Best) → StepSame st (connects_to config st line service b)
    reaches b =
        let x : ℕ = circuit_to st.core b.from in
        let d : Doing = opens config line b.from b.node service None None st.core in
        let o : Same st.core d.core d.frames = opens_counts config line b.from b.node service None None st.core r in
        same_cond st (nat_eq x 0)
        (cond (nat_lt (living st.core.circuits) 8) (cond (nat_lt st.core.circuits.drawn 65535) (does st (Connected (next_id st.core.circuits) 1) d) (tells st IdsOut)) (tells st CircuitsFull))
        (cond (has_room st.core x) (does st (Connected x (least_free (st.core.circuits.circuit_at x).end.half.sessions)) d) (tells st SessionsFull))
        (same_cond st (nat_lt (living st.core.circuits) 8) (cond (nat_lt st.core.circuits.drawn 65535) (does st (Connected (next_id st.core.circuits) 1) d) (tells st IdsOut)) (tells st CircuitsFull) (same_cond st (nat_lt st.core.circuits.drawn 65535) (does st (Connected (next_id st.core.circuits) 1) d) (tells st IdsOut) o none) none)
        (same_cond st (has_room st.core x) (does st (Connected x (least_free (st.core.circuits.circuit_at x).end.half.sessions)) d) (tells st SessionsFull) o none)

    go : (n m : Bool) (o : Option Best) → StepSame st (cond n (cond m (tells st Busy) (elim o [ None ↦ solicits_for config st service | Some b ↦ connects_to config st line service b ])) (tells st NoLine))
    go false m o = none
    go true true o = none
    go true false None = notice_more st.core st.core everyone _ [] none
    go true false (Some b) = reaches b

command_counts : (config : ServerConfig) (st : Server) (from : ℕ) (m : Command) (a : Action) → Steady st.core.circuits → StepSame st (hears_command config st from m a)
command_counts config st from m Ask r = notice_more st.core st.core from _ [] (core_none st.core r)
command_counts config st from m Cancel r = go (kept_for (key_of m) (st.queue ++ Cancels (key_of m) ∷ []))
  where
    told : Option Kept → ServerStep
    told o = elim o [
      | None ↦ record { state = record st { queue = st.queue ++ Cancels (key_of m) ∷ [] }; answer = NotKept; frames = status_frame from m Unknown ∷ [] }
      | Some k ↦ record { state = record st { queue = st.queue ++ Cancels (key_of m) ∷ [] }; answer = KeptIs k; frames = status_frame from m (KeptAs k) ∷ [] }
    ]

    go : (o : Option Kept) → StepSame st (told o)
    go None = notice_more st.core st.core from _ [] (core_none st.core r)
    go (Some k) = notice_more st.core st.core from _ [] (core_none st.core r)

pub run_says : (from : ℕ) (h : Head) (slots : List Slot) (n : Option Numbers) (now x : ℕ) (a : Heard) → cond (nat_eq h.to x) (taken_of a) 0 ≡ taken_by (Hears from (Whole (OfCircuit (RunMessage h slots))) n now) (Circuit a) x
run_says from h slots n now x (Taken i) = refl
run_says from h slots n now x Running = cond_none (nat_eq h.to x)
run_says from h slots n now x Again = cond_none (nat_eq h.to x)
run_says from h slots n now x AckOnly = cond_none (nat_eq h.to x)
run_says from h slots n now x Foreign = cond_none (nat_eq h.to x)
run_says from h slots n now x (Broke r) = cond_none (nat_eq h.to x)
run_says from h slots n now x (Ended r) = cond_none (nat_eq h.to x)

pub wide_says : (from : ℕ) (h : Head) (slots : List Slot) (n : Option Numbers) (now x : ℕ) (a : Heard) → cond (nat_eq h.to x) (taken_of a) 0 ≡ taken_by (Hears from (Whole (OfCircuit (WideMessage h slots))) n now) (Circuit a) x
wide_says from h slots n now x (Taken i) = refl
wide_says from h slots n now x Running = cond_none (nat_eq h.to x)
wide_says from h slots n now x Again = cond_none (nat_eq h.to x)
wide_says from h slots n now x AckOnly = cond_none (nat_eq h.to x)
wide_says from h slots n now x Foreign = cond_none (nat_eq h.to x)
wide_says from h slots n now x (Broke r) = cond_none (nat_eq h.to x)
wide_says from h slots n now x (Ended r) = cond_none (nat_eq h.to x)

hears_run_counts : (config : ServerConfig) (st : Server) (from : ℕ) (wide : Bool) (h : Head) (slots : List Slot) (k : Option Numbers) → Steady st.core.circuits → CoreCounts st.core (hears_run config st from wide h slots k).state.core (hears_run config st from wide h slots k).frames (λ y. cond (nat_eq h.to y) (taken_of (hear_run true st.core.circuits from wide h slots k st.core.moment).answer) 0)
hears_run_counts config st from wide h slots k r =
    let a : HeardAct = hear_run true st.core.circuits from wide h slots k st.core.moment in
    let s : ServerStep = heard_at config st a in
    let p : CoreCounts st.core s.state.core s.frames (λ y. cond (nat_eq h.to y) (taken_of a.answer) 0) = run_counts true (server_side config) st.core from wide h slots k st.core.moment r in
    core_then st.core s.state.core s.state.core s.frames (told_stranger (server_side config) config.prompt st.core from h) (λ y. cond (nat_eq h.to y) (taken_of a.answer) 0) p (stranger_counts (server_side config) config.prompt st.core from h s.state.core p.steady)

value_counts : (config : ServerConfig) (st : Server) (from : ℕ) (v : Value) (k : Option Numbers) (now : ℕ) → Steady st.core.circuits → StepCounts (Hears from (Whole v) k now) st (hears_value config st from v k)
value_counts config st from (OfCircuit (RunMessage h slots)) k now r = more_as _ _ _ _ _ (λ x. run_says from h slots k now x (hear_run true st.core.circuits from false h slots k st.core.moment).answer) (hears_run_counts config st from false h slots k r)
value_counts config st from (OfCircuit (WideMessage h slots)) k now r = more_as _ _ _ _ _ (λ x. wide_says from h slots k now x (hear_run true st.core.circuits from true h slots k st.core.moment).answer) (hears_run_counts config st from true h slots k r)
value_counts config st from (OfCircuit (StartMessage true ask to source info)) k now r = core_none st.core r
value_counts config st from (OfCircuit (StartMessage false ask to source info)) k now r = reply_counts (server_side config) st.core from to source st.core.moment (agreed_by config.timing info) r
value_counts config st from (OfCircuit (StopMessage master ask to source reason text)) k now r = stop_counts true (server_side config) st.core from to source st.core.moment reason r
value_counts config st from (OfNotice (AnnouncementNotice a)) k now r = core_none st.core r
value_counts config st from (OfNotice (CommandNotice m)) k now r = command_counts config st from m m.action r
value_counts config st from (OfNotice (ResponseNotice m)) k now r = core_none st.core r
value_counts config st from (OfNotice (StatusNotice m)) k now r = core_none st.core r
value_counts config st from (OfNotice (SolicitNotice m)) k now r = core_none st.core r

event_counts : (config : ServerConfig) (st : Server) (e : Event) → Steady st.core.circuits → StepCounts e st (server_event config st e)
event_counts config st (Hears from (Malformed field at) k now) r = core_none st.core r
event_counts config st (Hears from (Whole v) k now) r = go (nat_eq from everyone)
  where
    s : Server
    s = record st { core = at_moment now st.core }

    none : Same st.core s.core []
    none = core_none st.core r

    ignored : (v : Value) → StepCounts (Hears from (Whole v) k now) st (tells s Ignored)
    ignored (OfCircuit (RunMessage h slots)) = none
    ignored (OfCircuit (WideMessage h slots)) = none
    ignored (OfCircuit (StartMessage master ask to source info)) = none
    ignored (OfCircuit (StopMessage master ask to source reason text)) = none
    ignored (OfNotice n) = none

    heard : StepCounts (Hears from (Whole v) k now) st (hears_value config s from v k)
    heard = value_counts config s from v k now r

    go : (b : Bool) → StepCounts (Hears from (Whole v) k now) st (cond b (tells s Ignored) (hears_value config s from v k))
    go true = ignored v
    go false = heard
event_counts config st (Time now) r =
    times_counts true config.timing config.name (ids st.core.circuits) st.core (rests (at_moment now st.core)) (core_none st.core r)
event_counts config st (Connects line service) r = same_cond st st.halted (tells st Halted) (connect_event config st line service) (core_none st.core r) (connect_counts config st line service r)
event_counts config st (Puts line bytes) r = line_counts config.lines st.core line (λ s. put_on (server_side config) st.core s bytes) r (λ s. put_same true config.timing config.name st.core s bytes r)
event_counts config st (Sets line setting) r = line_counts config.lines st.core line (λ s. set_on (server_side config) st.core s setting) r (λ s. set_same true config.timing config.name st.core s setting r)
event_counts config st (Takes line n) r = line_counts config.lines st.core line (λ s. take_on (server_side config) st.core s n) r (λ s. take_same true config.timing config.name st.core s n r)
event_counts config st (Attends line flag) r = line_counts config.lines st.core line (λ s. attend_on (server_side config) st.core s flag) r (λ s. attend_same true config.timing config.name st.core s flag r)
event_counts config st (Closes line) r = line_counts config.lines st.core line (λ s. close_on (server_side config) st.core s) r (λ s. close_same true config.timing config.name st.core s r)
event_counts config st (Requests to id service) r = core_none st.core r
event_counts config st (Withdraws id) r = core_none st.core r
event_counts config st Announces r = core_none st.core r
event_counts config st (Avoids line) r = core_none st.core r
event_counts config st (Readies line ready) r = core_none st.core r
event_counts config st Halts r = ends_counts true config.timing config.name 3 (ids st.core.circuits) st.core (rests st.core) (core_none st.core r)

-- the grant pass

abbrev PassSame : Core → Passing → Type 0
PassSame c x = Same c x.state.core x.frames

line_grants_counts : (config : ServerConfig) (line : ℕ) (o : Option Name) (g : Option Request) (c : Core) (x : Passing) → PassSame c x → PassSame c (grants_by config line o g x)
line_grants_counts config line None g c x p = p
line_grants_counts config line (Some service) None c x p = p
line_grants_counts config line (Some service) (Some g) c x p =
    let d : Doing = opens config line g.from g.key.node service (Some g.key) (Some g.key.request) x.state.core in
    core_then c x.state.core d.core x.frames _ (λ y. 0) p (notice_more x.state.core d.core g.from _ d.frames (opens_counts config line g.from g.key.node service (Some g.key) (Some g.key.request) x.state.core p.steady))

pass_counts : (config : ServerConfig) (lines : List ℕ) (c : Core) (x : Passing) → PassSame c x → PassSame c (grant_lines config lines x)
pass_counts config [] c x p = p
pass_counts config (line ∷ lines) c x p = pass_counts config lines c (grant_line config x line) (line_grants_counts config line (offer_on line config.offers) (grantable x.state line (offer_on line config.offers)) c x p)

pub step_counts : (config : ServerConfig) (st : Server) (e : Event) → Steady st.core.circuits → StepCounts e st (server_step config st e)
step_counts config st e r =
    let s : ServerStep = server_event config st e in
    let p : StepCounts e st s = event_counts config st e r in
    let z : Passing = grant_lines config (upwards 0 config.lines) (record { state = finished_requests s.state; frames = [] }) in
    core_then st.core s.state.core z.state.core s.frames z.frames (taken_by e s.answer) p (pass_counts config (upwards 0 config.lines) s.state.core (record { state = finished_requests s.state; frames = [] }) (core_none s.state.core p.steady))

steady_on : (config : ServerConfig) (es : List Event) (st : Server) → Steady st.core.circuits → Steady (server_run config es st).core.circuits
steady_on config [] st r = r
steady_on config (e ∷ es) st r = steady_on config es (server_step config st e).state (step_counts config st e r).steady

-- a core that has no circuits
pub open_steady : (config : ServerConfig) → Steady (open_server config).core.circuits
open_steady config = record { unused = λ x l. (refl, refl); full = λ x. tt }

pub tallies : (config : ServerConfig) (st : Server) (e : Event) → Steady st.core.circuits → ServerTallied config st e
tallies config st e r =
    let p : StepCounts e st (server_step config st e) = step_counts config st e r in
    record { numbers = p.numbers; bears = p.bears; formed = p.formed; taken = p.taken; shown = p.shown }

pub server_tallies : (config : ServerConfig) (es : List Event) (e : Event) → ServerTallied config (server_run config es (open_server config)) e
server_tallies config es e = tallies config (server_run config es (open_server config)) e (steady_on config es (open_server config) (open_steady config))
