-- What every event of a node tallies.
use Rattle.std.proofs.Common.{◌≡◌, ℕ, ◌+◌, refl, sym, subst, Bool, true, false, cond, ◌&&◌, List, [], ◌∷◌, Option, Some, None, nat_eq}
use Rattle.std.specs.List.{find}
use Rattle.lat_model.specs.sessions.Session.{Session, waits}
use Rattle.lat_model.specs.sessions.Calls.{RejectAsk}
use Rattle.lat_model.specs.sessions.Calls as Calls
use Rattle.lat_model.specs.sessions.Slots.{Slot}
use Rattle.lat_model.specs.Lists.{upwards}
use Rattle.lat_model.specs.ends.End.{lives}
use Rattle.lat_model.specs.circuits.World.{Table}
use Rattle.lat_model.specs.circuits.Ids.{ids}
use Rattle.lat_machines.specs.values.Names.{Name, same}
use Rattle.lat_machines.specs.values.Addresses.{everyone}
use Rattle.lat_machines.specs.values.Messages.{Head, StartInfo, RunMessage, WideMessage, StartMessage, StopMessage}
use Rattle.lat_machines.specs.values.Notices.{AnnouncementNotice, CommandNotice, StatusNotice, SolicitNotice, ResponseNotice}
use Rattle.lat_machines.specs.values.Frames.{Value, OfCircuit, OfNotice, Whole, Malformed, OutFrame}
use Rattle.lat_machines.specs.values.Timing.{agreed_by}
use Rattle.lat_machines.specs.values.Events.{Numbers, Event, Hears, Time, Connects, Puts, Sets, Takes, Attends, Closes, Requests, Withdraws, Announces, Avoids, Readies, Halts}
use Rattle.lat_machines.specs.values.Answers.{Ignored, IdUsed}
use Rattle.lat_machines.specs.cores.Hearing.{HeardAct, names, hear_run, StartFact, Repeats, Makes, Refuses, start_fact, start_at, outlive}
use Rattle.lat_machines.specs.cores.Cores.{Core, setup_of, rests, acts, at_moment, Doing, ends_all, told_stranger, with_circuits}
use Rattle.lat_machines.specs.cores.LineCalls.{put_on, set_on, attend_on, take_on, close_on}
use Rattle.lat_machines.specs.node.Node.{NodeConfig, Requested, Node, NodeStep, node_side, open_node, tells, request_of, Verdict, Accepts, Rejects, verdict, judged, asked_at, answers_one, answers_in, asked_on, answers_asked, heard_at, hears_run, names_for, hears_start, solicited, hears_value, requests_again, withdraws, node_step, halts, farewell, response, announcement, first_rate, rest_rates, turns_away, starts, makes_way}
use Rattle.lat_machines.specs.world.Histories.{RatedEvent, node_run}
use Rattle.lat_machines.specs.world.Tally.{taken_by, NodeTallied}
use Rattle.lat_machines.proofs.tally.Tables.{Steady, CoreCounts, Same, core_none, more_as, core_then, outlive_counts}
use Rattle.lat_machines.proofs.tally.Cores.{core_quiet, local_quiet, stop_counts, start_counts, run_counts, taken_of, notice_more, times_counts, line_counts, put_same, set_same, attend_same, take_same, close_same, ends_counts, stray_counts, stranger_counts}
use Rattle.lat_machines.proofs.tally.Servers.{run_says, wide_says}

abbrev pub StepCounts : Event → Node → NodeStep → Type 0
StepCounts e st s = CoreCounts st.core s.state.core s.frames (taken_by e s.answer)

abbrev StepSame : Node → NodeStep → Type 0
StepSame st s = Same st.core s.state.core s.frames

same_cond : (st : Node) (n : Bool) (s t : NodeStep) → StepSame st s → StepSame st t → StepSame st (cond n s t)
same_cond st true s t f g = f
same_cond st false s t f g = g

-- answering

judged_same : (config : NodeConfig) (st : Node) (x id : ℕ) (request : Option ℕ) (v : Verdict) → Steady st.core.circuits → Same st.core (judged config st x id request v).core []
judged_same config st x id request (Rejects reason) r = local_quiet false (node_side config) st.core x (RejectAsk id reason) r
judged_same config st x id request (Accepts line) r = local_quiet false (node_side config) st.core x (Calls.Answer id) r

answers_same : (config : NodeConfig) (x : ℕ) (ids : List ℕ) (c : Core) (st : Node) → Same c st.core [] → Same c (answers_in config x ids st).core []
answers_same config x [] c st p = p
answers_same config x (id ∷ ids) c st p = answers_same config x ids c (answers_one config x st id) (core_quiet c st.core (answers_one config x st id).core [] (λ y. 0) p (go (waits s)))
  where
    s : Session
    s = asked_at st x id

    go : (b : Bool) → Same st.core (cond b (judged config st x id s.request (verdict config st s.service s.request)) st).core []
    go true = judged_same config st x id s.request (verdict config st s.service s.request) p.steady
    go false = core_none st.core p.steady

asked_same : (config : NodeConfig) (x : ℕ) (st : Node) → Steady st.core.circuits → Same st.core (answers_asked config x st).core []
asked_same config x st r = go (lives (st.core.circuits.circuit_at x).end)
  where
    left : Node
    left = record st { turned_away = st.turned_away + asked_on st x }

    go : (b : Bool) → Same st.core (cond b (answers_in config x (upwards 0 64) st) left).core []
    go true = answers_same config x (upwards 0 64) st.core st (core_none st.core r)
    go false = core_none st.core r

-- hearing

hears_run_counts : (config : NodeConfig) (st : Node) (from : ℕ) (wide : Bool) (h : Head) (slots : List Slot) (k : Option Numbers) → Steady st.core.circuits → CoreCounts st.core (hears_run config st from wide h slots k).state.core (hears_run config st from wide h slots k).frames (λ y. cond (nat_eq h.to y) (taken_of (hear_run false st.core.circuits from wide h slots k st.core.moment).answer) 0)
hears_run_counts config st from wide h slots k r =
    let c : Core = (cond (names st.core.circuits from h.to h.from) (answers_asked config h.to s.state) s.state).core in
    let x : CoreCounts st.core c s.frames (λ y. cond (nat_eq h.to y) (taken_of act.answer) 0) = go (names st.core.circuits from h.to h.from) in
    core_then st.core c c s.frames (told_stranger (node_side config) config.prompt st.core from h) (λ y. cond (nat_eq h.to y) (taken_of act.answer) 0) x (stranger_counts (node_side config) config.prompt st.core from h c x.steady)
  where
    act : HeardAct
    act = hear_run false st.core.circuits from wide h slots k st.core.moment

    s : NodeStep
    s = heard_at config st act

    more : ℕ → ℕ
    more y = cond (nat_eq h.to y) (taken_of act.answer) 0

    p : CoreCounts st.core s.state.core s.frames (λ y. cond (nat_eq h.to y) (taken_of act.answer) 0)
    p = run_counts false (node_side config) st.core from wide h slots k st.core.moment r

    go : (b : Bool) → CoreCounts st.core (cond b (answers_asked config h.to s.state) s.state).core s.frames (λ y. cond (nat_eq h.to y) (taken_of act.answer) 0)
    go true = core_quiet st.core s.state.core (answers_asked config h.to s.state).core s.frames (λ y. cond (nat_eq h.to y) (taken_of act.answer) 0) p (asked_same config h.to s.state p.steady)
    go false = p

started_same : (config : NodeConfig) (st : Node) (from source : ℕ) (info : StartInfo) (fact : StartFact) → ((c : Core) → c.circuits ≡ st.core.circuits → Same c (acts (node_side config) c (start_at (setup_of config.timing) c.circuits from source st.core.moment (agreed_by config.timing info) fact)).core (acts (node_side config) c (start_at (setup_of config.timing) c.circuits from source st.core.moment (agreed_by config.timing info) fact)).frames) → StepSame st (hears_start config st from source info fact)
started_same config st from source info (Makes k) h = h (names_for (Makes k) info.name st.core) refl
started_same config st from source info (Repeats k) h = h st.core refl
started_same config st from source info Refuses h = h st.core refl

silenced : (st : Node) (fs : List OutFrame) → Steady st.core.circuits → Same st.core st.core fs → Same st.core st.core (cond st.halted [] fs)
silenced st fs r p = go st.halted
  where
    go : (n : Bool) → Same st.core st.core (cond n [] fs)
    go true = core_none st.core r
    go false = p

halt_same : (config : NodeConfig) (st : Node) → Steady st.core.circuits → StepSame st (halts config st)
halt_same config st r =
    let d : Doing = ends_all (node_side config) 3 st.core in
    let p : Same st.core d.core d.frames = ends_counts false config.timing config.name 3 (ids st.core.circuits) st.core (rests st.core) (core_none st.core r) in
    core_then st.core d.core d.core d.frames (farewell config st.halted) (λ y. 0) p (go d.core p.steady st.halted)
  where
    go : (c : Core) → Steady c.circuits → (n : Bool) → Same c c (farewell config n)
    go c t true = core_none c t
    go c t false = notice_more c c everyone _ [] (core_none c t)

solicited_same : (config : NodeConfig) (rates : List ℕ) (st : Node) (from id : ℕ) (o : Option Name) → Steady st.core.circuits → StepSame st (solicited config rates st from id o)
solicited_same config rates st from id None r = core_none st.core r
solicited_same config rates st from id (Some service) r = silenced st (response config from id service (first_rate rates) ∷ announcement config (rest_rates rates) ∷ []) r (notice_more st.core st.core from _ _ (notice_more st.core st.core everyone _ [] (core_none st.core r)))

start_same : (config : NodeConfig) (st : Node) (from source : ℕ) (info : StartInfo) → Steady st.core.circuits → StepSame st (hears_start config st from source info (start_fact st.core.circuits from source))
start_same config st from source info r = started_same config st from source info (start_fact st.core.circuits from source) (λ c q. at c q)
  where
    at : (c : Core) → c.circuits ≡ st.core.circuits → Same c (acts (node_side config) c (start_at (setup_of config.timing) c.circuits from source st.core.moment (agreed_by config.timing info) (start_fact st.core.circuits from source))).core (acts (node_side config) c (start_at (setup_of config.timing) c.circuits from source st.core.moment (agreed_by config.timing info) (start_fact st.core.circuits from source))).frames
    at c q =
        subst (λ (t : Table). Same c (acts (node_side config) c (start_at (setup_of config.timing) c.circuits from source st.core.moment (agreed_by config.timing info) (start_fact t from source))).core (acts (node_side config) c (start_at (setup_of config.timing) c.circuits from source st.core.moment (agreed_by config.timing info) (start_fact t from source))).frames) q
        (start_counts (node_side config) c (setup_of config.timing) from source st.core.moment (agreed_by config.timing info) (subst Steady (sym q) r))

starts_same : (config : NodeConfig) (st : Node) (from source : ℕ) (info : StartInfo) → Steady st.core.circuits → StepSame st (starts config (makes_way config st from source) from source info)
starts_same config st from source info r =
    let x : Node = makes_way config st from source in
    let p : Same st.core x.core [] = go config.prompt in
    let s : NodeStep = starts config x from source info in
    core_then st.core x.core s.state.core [] s.frames (λ y. 0) p (start_same config x from source info p.steady)
  where
    go : (n : Bool) → Same st.core (with_circuits st.core (cond n (outlive from source (ids st.core.circuits) st.core.circuits) st.core.circuits)) []
    go true = outlive_counts (node_side config) from source (ids st.core.circuits) st.core r
    go false = core_none st.core r

value_counts : (config : NodeConfig) (rates : List ℕ) (st : Node) (from : ℕ) (v : Value) (k : Option Numbers) (now : ℕ) → Steady st.core.circuits → StepCounts (Hears from (Whole v) k now) st (hears_value config rates st from v k)
value_counts config rates st from (OfCircuit (RunMessage h slots)) k now r = more_as _ _ _ _ _ (λ x. run_says from h slots k now x (hear_run false st.core.circuits from false h slots k st.core.moment).answer) (hears_run_counts config st from false h slots k r)
value_counts config rates st from (OfCircuit (WideMessage h slots)) k now r = more_as _ _ _ _ _ (λ x. wide_says from h slots k now x (hear_run false st.core.circuits from true h slots k st.core.moment).answer) (hears_run_counts config st from true h slots k r)
value_counts config rates st from (OfCircuit (StartMessage true ask to source info)) k now r = same_cond st st.halted (turns_away config st from source) (starts config (makes_way config st from source) from source info) (stray_counts (node_side config) false st.core from source 0 3 r) (starts_same config st from source info r)
value_counts config rates st from (OfCircuit (StartMessage false ask to source info)) k now r = core_none st.core r
value_counts config rates st from (OfCircuit (StopMessage master ask to source reason text)) k now r = stop_counts false (node_side config) st.core from to source st.core.moment reason r
value_counts config rates st from (OfNotice (StatusNotice s)) k now r = core_none st.core r
value_counts config rates st from (OfNotice (SolicitNotice s)) k now r = solicited_same config rates st from s.id (find (same s.service) config.services) r
value_counts config rates st from (OfNotice (AnnouncementNotice a)) k now r = core_none st.core r
value_counts config rates st from (OfNotice (CommandNotice m)) k now r = core_none st.core r
value_counts config rates st from (OfNotice (ResponseNotice m)) k now r = core_none st.core r

-- requests

again_same : (config : NodeConfig) (st : Node) (to id : ℕ) (service : Name) (o : Option Requested) → Steady st.core.circuits → StepSame st (requests_again config st to id service o)
again_same config st to id service None r = notice_more st.core st.core to _ [] (core_none st.core r)
again_same config st to id service (Some x) r = same_cond st (nat_eq x.to to && same x.service service) _ (tells st IdUsed) (notice_more st.core st.core to _ [] (core_none st.core r)) (core_none st.core r)

withdraw_same : (config : NodeConfig) (st : Node) (o : Option Requested) → Steady st.core.circuits → StepSame st (withdraws config st o)
withdraw_same config st None r = core_none st.core r
withdraw_same config st (Some x) r = notice_more st.core st.core x.to _ [] (core_none st.core r)

pub step_counts : (config : NodeConfig) (rates : List ℕ) (st : Node) (e : Event) → Steady st.core.circuits → StepCounts e st (node_step config rates st e)
step_counts config rates st (Hears from (Malformed field at) k now) r = core_none st.core r
step_counts config rates st (Hears from (Whole v) k now) r = go (nat_eq from everyone)
  where
    s : Node
    s = record st { core = at_moment now st.core }

    none : Same st.core s.core []
    none = core_none st.core r

    ignored : (v : Value) → StepCounts (Hears from (Whole v) k now) st (tells s Ignored)
    ignored (OfCircuit (RunMessage h slots)) = none
    ignored (OfCircuit (WideMessage h slots)) = none
    ignored (OfCircuit (StartMessage master ask to source info)) = none
    ignored (OfCircuit (StopMessage master ask to source reason text)) = none
    ignored (OfNotice n) = none

    heard : StepCounts (Hears from (Whole v) k now) st (hears_value config rates s from v k)
    heard = value_counts config rates s from v k now r

    go : (b : Bool) → StepCounts (Hears from (Whole v) k now) st (cond b (tells s Ignored) (hears_value config rates s from v k))
    go true = ignored v
    go false = heard
step_counts config rates st (Time now) r =
    times_counts false config.timing config.name (ids st.core.circuits) st.core (rests (at_moment now st.core)) (core_none st.core r)
step_counts config rates st (Connects line service) r = core_none st.core r
step_counts config rates st (Puts line bytes) r = line_counts config.lines st.core line (λ s. put_on (node_side config) st.core s bytes) r (λ s. put_same false config.timing config.name st.core s bytes r)
step_counts config rates st (Sets line setting) r = line_counts config.lines st.core line (λ s. set_on (node_side config) st.core s setting) r (λ s. set_same false config.timing config.name st.core s setting r)
step_counts config rates st (Takes line n) r = line_counts config.lines st.core line (λ s. take_on (node_side config) st.core s n) r (λ s. take_same false config.timing config.name st.core s n r)
step_counts config rates st (Attends line flag) r = line_counts config.lines st.core line (λ s. attend_on (node_side config) st.core s flag) r (λ s. attend_same false config.timing config.name st.core s flag r)
step_counts config rates st (Closes line) r = line_counts config.lines st.core line (λ s. close_on (node_side config) st.core s) r (λ s. close_same false config.timing config.name st.core s r)
step_counts config rates st (Requests to id service) r = again_same config st to id service (request_of id st) r
step_counts config rates st (Withdraws id) r = withdraw_same config st (request_of id st) r
step_counts config rates st Announces r = silenced st (announcement config rates ∷ []) r (notice_more st.core st.core everyone _ [] (core_none st.core r))
step_counts config rates st (Avoids line) r = core_none st.core r
step_counts config rates st (Readies line ready) r = core_none st.core r
step_counts config rates st Halts r = halt_same config st r

steady_on : (config : NodeConfig) (es : List RatedEvent) (st : Node) → Steady st.core.circuits → Steady (node_run config es st).core.circuits
steady_on config [] st r = r
steady_on config (e ∷ es) st r = steady_on config es (node_step config e.rates st e.event).state (step_counts config e.rates st e.event r).steady

-- a core that has no circuits
pub open_steady : (config : NodeConfig) → Steady (open_node config).core.circuits
open_steady config = record { unused = λ x l. (refl, refl); full = λ x. tt }

pub tallies : (config : NodeConfig) (rates : List ℕ) (st : Node) (e : Event) → Steady st.core.circuits → NodeTallied config rates st e
tallies config rates st e r =
    let p : StepCounts e st (node_step config rates st e) = step_counts config rates st e r in
    record { numbers = p.numbers; bears = p.bears; formed = p.formed; taken = p.taken; shown = p.shown }

pub node_tallies : (config : NodeConfig) (es : List RatedEvent) (rates : List ℕ) (e : Event) → NodeTallied config rates (node_run config es (open_node config)) e
node_tallies config es rates e = tallies config rates (node_run config es (open_node config)) e (steady_on config es (open_node config) (open_steady config))
