-- Every event of a node is a list of events of the world of circuits.
use Rattle.std.proofs.Common.{◌≡◌, ◌≢◌, ℕ, ◌+◌, refl, subst, Bool, true, false, cond, ◌&&◌, List, [], ◌∷◌, Option, Some, None, nat_eq, eqb-true}
use Rattle.std.proofs.lemmas.Bool.{eqb-false}
use Rattle.std.specs.List.{find}
use Rattle.lat_model.specs.sessions.Slots.{Slot}
use Rattle.lat_model.specs.sessions.Session.{Session, waits}
use Rattle.lat_model.specs.Lists.{upwards}
use Rattle.lat_model.specs.sessions.Calls.{RejectAsk}
use Rattle.lat_model.specs.sessions.Calls as Calls
use Rattle.lat_model.specs.ends.End.{lives, CallStart}
use Rattle.lat_model.specs.circuits.World.{World, table, with_table, Table}
use Rattle.lat_model.specs.circuits.Ids.{ids}
use Rattle.lat_machines.specs.values.Names.{Name, same}
use Rattle.lat_machines.specs.values.Addresses.{everyone}
use Rattle.lat_machines.specs.values.Messages.{Head, StartInfo, Message, RunMessage, WideMessage, StartMessage, StopMessage}
use Rattle.lat_machines.specs.values.Notices.{Notice, AnnouncementNotice, CommandNotice, StatusNotice, SolicitNotice, ResponseNotice}
use Rattle.lat_machines.specs.values.Frames.{Value, OfCircuit, OfNotice, Reading, Whole, Malformed, OutFrame}
use Rattle.lat_machines.specs.values.Timing.{agreed_by}
use Rattle.lat_machines.specs.values.Events.{Numbers, Event, Hears, Time, Connects, Puts, Sets, Takes, Attends, Closes, Requests, Withdraws, Announces, Avoids, Readies, Halts}
use Rattle.lat_machines.specs.values.Answers.{Ignored, IdUsed}
use Rattle.lat_machines.specs.cores.Hearing.{HeardAct, names, hear_run, hear_stop_at, StartFact, Repeats, Makes, Refuses, start_fact, start_at, outlive}
use Rattle.lat_machines.specs.cores.Cores.{setup_of, at_moment, Doing, Core, ends_all, told_stranger}
use Rattle.lat_machines.specs.cores.LineCalls.{put_on, set_on, attend_on, take_on, close_on}
use Rattle.lat_machines.specs.node.Node.{NodeConfig, Requested, Node, NodeStep, node_side, tells, request_of, Verdict, Accepts, Rejects, verdict, local_call, judged, asked_at, answers_one, answers_in, asked_on, answers_asked, heard_at, hears_run, names_for, hears_start, hears_message, solicited, hears_notice, hears_value, hears, requests_again, withdraws, node_step, turns_away, halts, farewell, response, announcement, first_rate, rest_rates, starts, makes_way}
use Rattle.lat_machines.proofs.events.Leads.{Deed, Breaking, Quiet, Leads, leads_ignored, any_agreed, run_leads, stop_leads, start_leads, table_with, like, Brings, brings_like, outlive_leads, leads_before, leads_none, append_nil}
use Rattle.lat_machines.proofs.events.Mades.{Made, made_loud, acts_made, made_none, made_quiet, made_notice, local_made, passes_made, put_made, set_made, attend_made, take_made, close_made, line_made, ends_made, stray_made, made_then, stranger_made}
use Rattle.lat_machines.proofs.events.Servers.{BroughtRun, Brought, BroughtIn, BroughtBy, read_quiet}

abbrev NodeMade : (Deed → Type 0) → (List ℕ → Type 0) → World → Node → List OutFrame → Type 0
NodeMade L D w st fs = Made L D w false st.core fs

did_cond : {L : Deed → Type 0} {D : List ℕ → Type 0} (w : World) (n : Bool) (s t : NodeStep) → (n ≡ true → NodeMade L D w s.state s.frames) → (n ≡ false → NodeMade L D w t.state t.frames) → NodeMade L D w (cond n s t).state (cond n s t).frames
did_cond w true s t p q = p refl
did_cond w false s t p q = q refl

-- what is broken off at a prompt or a halted node may be: it ends what it outlives, and turns away without hearing
pub record MayBreak (L : Deed → Type 0) (D : List ℕ → Type 0) (config : NodeConfig) (st : Node) : Type 0 where
  pub prompt : config.prompt ≡ true → L Breaking
  pub halted : st.halted ≡ true → D [] × L Breaking

-- answering

judge_did : {L : Deed → Type 0} (config : NodeConfig) (w : World) (st : Node) (x id : ℕ) (request : Option ℕ) (v : Verdict) → table w false ≡ st.core.circuits → NodeMade L Quiet w (judged config st x id request v) []
judge_did {L} config w st x id request (Rejects reason) q = local_made (node_side config) st.core w false x (RejectAsk id reason) tt q
judge_did {L} config w st x id request (Accepts line) q =
    let m : Made L Quiet w false (local_call config x (Calls.Answer id) st.core) [] = local_made (node_side config) st.core w false x (Calls.Answer id) tt q in
    record { wired = m.wired; leads = m.leads; shown = m.shown }

one_did : {L : Deed → Type 0} (config : NodeConfig) (w : World) (x : ℕ) (st : Node) (id : ℕ) → table w false ≡ st.core.circuits → NodeMade L Quiet w (answers_one config x st id) []
one_did {L} config w x st id q = go (waits s)
  where
    s : Session
    s = asked_at st x id

    go : (n : Bool) → NodeMade L Quiet w (cond n (judged config st x id s.request (verdict config st s.service s.request)) st) []
    go true = judge_did config w st x id s.request (verdict config st s.service s.request) q
    go false = made_none w false st.core q

all_did : {L : Deed → Type 0} {D : List ℕ → Type 0} (config : NodeConfig) (w : World) (x : ℕ) (ids : List ℕ) (st : Node) (fs : List OutFrame) → NodeMade L D w st fs → NodeMade L D w (answers_in config x ids st) fs
all_did config w x [] st fs m = m
all_did config w x (id ∷ ids) st fs m =
    all_did config w x ids (answers_one config x st id) fs
    (made_quiet w false st.core fs (answers_one config x st id).core m (one_did config (with_table w false st.core.circuits m.wired) x st id refl))

asked_did : {L : Deed → Type 0} {D : List ℕ → Type 0} (config : NodeConfig) (w : World) (x : ℕ) (st : Node) (fs : List OutFrame) → NodeMade L D w st fs → NodeMade L D w (answers_asked config x st) fs
asked_did {L} {D} config w x st fs m = go (lives (st.core.circuits.circuit_at x).end)
  where
    left : Node
    left = record st { turned_away = st.turned_away + asked_on st x }

    go : (n : Bool) → NodeMade L D w (cond n (answers_in config x (upwards 0 64) st) left) fs
    go true = all_did config w x (upwards 0 64) st fs m
    go false = record { wired = m.wired; leads = m.leads; shown = m.shown }

-- hearing

did_heard : {L : Deed → Type 0} {D : List ℕ → Type 0} (config : NodeConfig) (w : World) (st : Node) (h : HeardAct) → Leads L D w false h.act.table h.act.sent → NodeMade L D w (heard_at config st h).state (heard_at config st h).frames
did_heard config w st h p = acts_made (node_side config) st.core w false h.act p

did_run : {L : Deed → Type 0} {D : List ℕ → Type 0} (config : NodeConfig) (w : World) (st : Node) (from : ℕ) (wide : Bool) (h : Head) (slots : List Slot) (k : Option Numbers) → (config.prompt ≡ true → L Breaking) → from ≢ everyone → table w false ≡ st.core.circuits → BroughtRun L D w false from k wide h slots → NodeMade L D w (hears_run config st from wide h slots k).state (hears_run config st from wide h slots k).frames
did_run {L} {D} config w st from wide h slots k l n q p =
    let c : Core = (cond (names st.core.circuits from h.to h.from) (answers_asked config h.to s.state) s.state).core in
    let d : Made L D w false c s.frames = go (names st.core.circuits from h.to h.from) in
    made_then w false c s.frames c (told_stranger (node_side config) config.prompt st.core from h) d (stranger_made (node_side config) config.prompt st.core from h (with_table w false c.circuits d.wired) c l refl n)
  where
    act : HeardAct
    act = hear_run false st.core.circuits from wide h slots k st.core.moment

    s : NodeStep
    s = heard_at config st act

    m : NodeMade L D w s.state s.frames
    m = did_heard config w st act (subst (λ t. Leads L D w false (hear_run false t from wide h slots k st.core.moment).act.table (hear_run false t from wide h slots k st.core.moment).act.sent) q (run_leads w false from wide h slots k st.core.moment p.mark p.frame p.spans p.brings (p.same st.core.moment)))

    go : (n : Bool) → NodeMade L D w (cond n (answers_asked config h.to s.state) s.state) s.frames
    go true = asked_did config w h.to s.state s.frames m
    go false = m

did_start : {L : Deed → Type 0} {D : List ℕ → Type 0} (config : NodeConfig) (w : World) (st : Node) (from to source : ℕ) (info : StartInfo) (fact : StartFact) → table w false ≡ st.core.circuits → Leads L D w false (start_at (setup_of config.timing) st.core.circuits from source st.core.moment (agreed_by config.timing info) fact).table (start_at (setup_of config.timing) st.core.circuits from source st.core.moment (agreed_by config.timing info) fact).sent → NodeMade L D w (hears_start config st from source info fact).state (hears_start config st from source info fact).frames
did_start config w st from to source info (Makes k) q p = acts_made (node_side config) (names_for (Makes k) info.name st.core) w false (start_at (setup_of config.timing) st.core.circuits from source st.core.moment (agreed_by config.timing info) (Makes k)) p
did_start config w st from to source info (Repeats k) q p = acts_made (node_side config) st.core w false (start_at (setup_of config.timing) st.core.circuits from source st.core.moment (agreed_by config.timing info) (Repeats k)) p
did_start config w st from to source info Refuses q p = acts_made (node_side config) st.core w false (start_at (setup_of config.timing) st.core.circuits from source st.core.moment (agreed_by config.timing info) Refuses) p

-- a START behind the end of the slaves that it follows
did_starts : {L : Deed → Type 0} {D : List ℕ → Type 0} (config : NodeConfig) (w : World) (st : Node) (from to source : ℕ) (info : StartInfo) → (config.prompt ≡ true → L Breaking) → table w false ≡ st.core.circuits → w.other ≡ setup_of config.timing → Brings L D w false from true to source CallStart → NodeMade L D w (starts config (makes_way config st from source) from source info).state (starts config (makes_way config st from source) from source info).frames
did_starts {L} {D} config w st from to source info b q s p =
    let x : Node = makes_way config st from source in
    let t : Table = x.core.circuits in
    let l : Leads L Quiet w false t [] = way in
    let v : World = with_table w false t [] in
    let y : Brings L D v false from true to source CallStart = brings_like w v false from true to source CallStart (record { frames = append_nil w.frames; server = refl; node = l.own }) p in
    let m : Made L D v false (starts config x from source info).state.core (starts config x from source info).frames =
    did_start config v x from to source info (start_fact t from source) refl
    (subst (λ u. Leads L D v false (start_at u t from source st.core.moment (agreed_by config.timing info) (start_fact t from source)).table (start_at u t from source st.core.moment (agreed_by config.timing info) (start_fact t from source)).sent) s
    (start_leads v from source st.core.moment (agreed_by config.timing info) true to y)) in
    record { wired = m.wired; leads = leads_before w false t [] (starts config x from source info).state.core.circuits m.wired l m.leads; shown = m.shown }
  where
    outlived : L Breaking → (t : Table) → w.node ≡ t → Leads L Quiet w false (outlive from source (ids t) t) []
    outlived b t q = subst (λ z. Leads L Quiet w false (outlive from source (ids z) z) []) q (outlive_leads from source (ids w.node) w b)

    way : Leads L Quiet w false (makes_way config st from source).core.circuits []
    way = go config.prompt refl
      where
        go : (n : Bool) → config.prompt ≡ n → Leads L Quiet w false (cond n (outlive from source (ids st.core.circuits) st.core.circuits) st.core.circuits) []
        go true i = outlived (b i) st.core.circuits q
        go false i = subst (λ t. Leads L Quiet w false t []) q (leads_none w false)

did_message : {L : Deed → Type 0} {D : List ℕ → Type 0} (config : NodeConfig) (w : World) (st : Node) (from : ℕ) (m : Message) (k : Option Numbers) → MayBreak L D config st → from ≢ everyone → table w false ≡ st.core.circuits → w.other ≡ setup_of config.timing → Brought L D w false from k m → NodeMade L D w (hears_message config st from m k).state (hears_message config st from m k).frames
did_message {L} {D} config w st from (RunMessage x slots) k h n q s p = did_run config w st from false x slots k h.prompt n q p
did_message {L} {D} config w st from (WideMessage x slots) k h n q s p = did_run config w st from true x slots k h.prompt n q p
did_message {L} {D} config w st from (StartMessage true ask to source info) k h n q s p =
    did_cond w st.halted (turns_away config st from source) (starts config (makes_way config st from source) from source info)
    (λ i. made_loud w false _ _ (h.halted i).0 (stray_made (node_side config) st.core w false from source 0 3 n (h.halted i).1 q))
    (λ i. did_starts config w st from to source info h.prompt q s p)
did_message {L} {D} config w st from (StartMessage false ask to source info) k h n q s p = record { wired = []; leads = subst (λ t. Leads L D w false t []) q (leads_ignored w false (p.event st.core.moment any_agreed) (p.fits st.core.moment any_agreed) (p.gives st.core.moment any_agreed) (p.arrives w (like w) st.core.moment any_agreed)); shown = refl }
did_message {L} {D} config w st from (StopMessage master ask to source reason text) k h n q s p = did_heard config w st (hear_stop_at false st.core.circuits from to source st.core.moment reason) (subst (λ t. Leads L D w false (hear_stop_at false t from to source st.core.moment reason).act.table (hear_stop_at false t from to source st.core.moment reason).act.sent) q (stop_leads w false from to source st.core.moment reason master p))

-- a halted node says nothing
silenced : {L : Deed → Type 0} (w : World) (st : Node) (fs : List OutFrame) → table w false ≡ st.core.circuits → NodeMade L Quiet w st fs → NodeMade L Quiet w st (cond st.halted [] fs)
silenced {L} w st fs q m = go st.halted
  where
    go : (n : Bool) → NodeMade L Quiet w st (cond n [] fs)
    go true = made_none w false st.core q
    go false = m

did_solicited : {L : Deed → Type 0} (config : NodeConfig) (rates : List ℕ) (w : World) (st : Node) (from id : ℕ) (o : Option Name) → table w false ≡ st.core.circuits → NodeMade L Quiet w (solicited config rates st from id o).state (solicited config rates st from id o).frames
did_solicited config rates w st from id None q = made_none w false st.core q
did_solicited config rates w st from id (Some service) q = silenced w st (response config from id service (first_rate rates) ∷ announcement config (rest_rates rates) ∷ []) q (made_notice w false st.core _ _ _ refl (made_notice w false st.core _ [] _ refl (made_none w false st.core q)))

did_notice : {L : Deed → Type 0} (config : NodeConfig) (rates : List ℕ) (w : World) (st : Node) (from : ℕ) (n : Notice) → table w false ≡ st.core.circuits → NodeMade L Quiet w (hears_notice config rates st from n).state (hears_notice config rates st from n).frames
did_notice config rates w st from (StatusNotice s) q = made_none w false st.core q
did_notice config rates w st from (SolicitNotice s) q = did_solicited config rates w st from s.id (find (same s.service) config.services) q
did_notice config rates w st from (AnnouncementNotice a) q = made_none w false st.core q
did_notice config rates w st from (CommandNotice m) q = made_none w false st.core q
did_notice config rates w st from (ResponseNotice r) q = made_none w false st.core q

did_value : {L : Deed → Type 0} {D : List ℕ → Type 0} (config : NodeConfig) (rates : List ℕ) (w : World) (st : Node) (from : ℕ) (v : Value) (k : Option Numbers) → MayBreak L D config st → from ≢ everyone → table w false ≡ st.core.circuits → w.other ≡ setup_of config.timing → BroughtIn L D w false from k (Whole v) → NodeMade L D w (hears_value config rates st from v k).state (hears_value config rates st from v k).frames
did_value config rates w st from (OfCircuit m) k h n q s p = did_message config w st from m k h n q s p
did_value config rates w st from (OfNotice m) k h n q s p = made_loud w false _ _ p (did_notice config rates w st from m q)

did_hear : {L : Deed → Type 0} {D : List ℕ → Type 0} (config : NodeConfig) (rates : List ℕ) (w : World) (st : Node) (from : ℕ) (r : Reading) (k : Option Numbers) → MayBreak L D config st → table w false ≡ st.core.circuits → w.other ≡ setup_of config.timing → (from ≡ everyone → D []) → (from ≢ everyone → BroughtIn L D w false from k r) → NodeMade L D w (hears config rates st from r k).state (hears config rates st from r k).frames
did_hear {L} {D} config rates w st from (Malformed field at) k h q s o p = made_loud w false _ _ (read_quiet D from o p) (made_none w false st.core q)
did_hear {L} {D} config rates w st from (Whole v) k h q s o p = did_cond w (nat_eq from everyone) (tells st Ignored) (hears_value config rates st from v k) (λ i. made_loud w false _ _ (o (eqb-true from everyone i)) (made_none w false st.core q)) (λ i. did_value config rates w st from v k h (eqb-false from everyone i) q s (p (eqb-false from everyone i)))

-- requests

did_request : {L : Deed → Type 0} (config : NodeConfig) (w : World) (st : Node) (to id : ℕ) (service : Name) (o : Option Requested) → table w false ≡ st.core.circuits → NodeMade L Quiet w (requests_again config st to id service o).state (requests_again config st to id service o).frames
did_request config w st to id service None q = made_notice w false st.core _ [] _ refl (made_none w false st.core q)
did_request config w st to id service (Some r) q = did_cond w (nat_eq r.to to && same r.service service) _ (tells st IdUsed) (λ i. made_notice w false st.core _ [] _ refl (made_none w false st.core q)) (λ i. made_none w false st.core q)

did_withdraw : {L : Deed → Type 0} (config : NodeConfig) (w : World) (st : Node) (o : Option Requested) → table w false ≡ st.core.circuits → NodeMade L Quiet w (withdraws config st o).state (withdraws config st o).frames
did_withdraw config w st None q = made_none w false st.core q
did_withdraw config w st (Some r) q = made_notice w false st.core _ [] _ refl (made_none w false st.core q)

did_halt : {L : Deed → Type 0} (config : NodeConfig) (w : World) (st : Node) → L Breaking → table w false ≡ st.core.circuits → NodeMade L Quiet w (halts config st).state (halts config st).frames
did_halt {L} config w st l q =
    let d : Doing = ends_all (node_side config) 3 st.core in
    let m : Made L Quiet w false d.core d.frames = ends_made (node_side config) 3 st.core w l q in
    made_then w false d.core d.frames d.core (farewell config st.halted) m (go (with_table w false d.core.circuits m.wired) d.core (table_with w false d.core.circuits m.wired) st.halted)
  where
    go : (v : World) (c : Core) → table v false ≡ c.circuits → (n : Bool) → Made L Quiet v false c (farewell config n)
    go v c q true = made_none v false c q
    go v c q false = made_notice v false c _ [] _ refl (made_none v false c q)

-- one event of the node
pub node_did_step : {L : Deed → Type 0} {D : List ℕ → Type 0} (config : NodeConfig) (rates : List ℕ) (w : World) (st : Node) (e : Event) → MayBreak L D config st → table w false ≡ st.core.circuits → w.other ≡ setup_of config.timing → BroughtBy L D w false e → Made L D w false (node_step config rates st e).state.core (node_step config rates st e).frames
node_did_step config rates w st (Hears from payload k now) h q s p = did_hear config rates w (record st { core = at_moment now st.core }) from payload k (record { prompt = h.prompt; halted = h.halted }) q s p.0 p.1
node_did_step config rates w st (Time now) h q s p = made_loud w false _ _ p (passes_made (node_side config) (at_moment now st.core) w q)
node_did_step config rates w st (Connects line service) h q s p = made_loud w false _ _ p.0 (made_none w false st.core q)
node_did_step config rates w st (Puts line bytes) h q s p = made_loud w false _ _ p (line_made (node_side config) config.lines st.core w line (λ t. put_on (node_side config) st.core t bytes) q (λ t. put_made (node_side config) st.core w t bytes q))
node_did_step config rates w st (Sets line setting) h q s p = made_loud w false _ _ p (line_made (node_side config) config.lines st.core w line (λ t. set_on (node_side config) st.core t setting) q (λ t. set_made (node_side config) st.core w t setting q))
node_did_step config rates w st (Takes line n) h q s p = made_loud w false _ _ p (line_made (node_side config) config.lines st.core w line (λ t. take_on (node_side config) st.core t n) q (λ t. take_made (node_side config) st.core w t n q))
node_did_step config rates w st (Attends line flag) h q s p = made_loud w false _ _ p (line_made (node_side config) config.lines st.core w line (λ t. attend_on (node_side config) st.core t flag) q (λ t. attend_made (node_side config) st.core w t flag q))
node_did_step config rates w st (Closes line) h q s p = made_loud w false _ _ p (line_made (node_side config) config.lines st.core w line (λ t. close_on (node_side config) st.core t) q (λ t. close_made (node_side config) st.core w t q))
node_did_step config rates w st (Requests to id service) h q s p = made_loud w false _ _ p (did_request config w st to id service (request_of id st) q)
node_did_step config rates w st (Withdraws id) h q s p = made_loud w false _ _ p (did_withdraw config w st (request_of id st) q)
node_did_step config rates w st Announces h q s p = made_loud w false _ _ p (silenced w st (announcement config rates ∷ []) q (made_notice w false st.core _ [] _ refl (made_none w false st.core q)))
node_did_step config rates w st (Avoids line) h q s p = made_loud w false _ _ p (made_none w false st.core q)
node_did_step config rates w st (Readies line ready) h q s p = made_loud w false _ _ p (made_none w false st.core q)
node_did_step config rates w st Halts h q s p = made_loud w false _ _ p.0 (did_halt config w st p.1 q)
