-- Every event of a server is a list of events of the world of circuits, and keeps its lists free of frames from everyone.
use Rattle.std.proofs.Common.{◌≡◌, ◌≢◌, ℕ, suc, ◌⊎◌, refl, subst, Bool, true, false, not, cond, ◌&&◌, List, [], ◌∷◌, ◌++◌, Option, Some, None, nat_eq, nat_lt, eqb-true, filter}
use Rattle.std.proofs.lemmas.Bool.{eqb-false}
use Rattle.std.specs.List.{list_any}
use Rattle.lat_model.specs.sessions.Slots.{Slot}
use Rattle.lat_model.specs.sessions.Sessions.{Sessions, least_free}
use Rattle.lat_model.specs.Lists.{upwards, updated, Each}
use Rattle.lat_model.specs.sessions.Calls.{Connect}
use Rattle.lat_model.specs.numbers.Link.{Frame}
use Rattle.lat_model.specs.ends.End.{Mark, Run, CallStart, ReplyStart, Stopped}
use Rattle.lat_model.specs.ends.Run.{run_end}
use Rattle.lat_model.specs.circuits.World.{World, table, with_table}
use Rattle.lat_model.specs.circuits.Arriving.{living}
use Rattle.lat_model.specs.circuits.Ids.{next_id}
use Rattle.lat_machines.specs.values.Names.{Name, same}
use Rattle.lat_machines.specs.values.Addresses.{everyone}
use Rattle.lat_machines.specs.values.Messages.{Head, Message, RunMessage, WideMessage, StartMessage, StopMessage}
use Rattle.lat_machines.specs.values.Notices.{Kept, KeptAs, Unknown, Action, Ask, Cancel, Announcement, Command, Notice, AnnouncementNotice, CommandNotice, StatusNotice, SolicitNotice, ResponseNotice}
use Rattle.lat_machines.specs.values.Frames.{Value, OfCircuit, OfNotice, Reading, Whole, Malformed, OutFrame}
use Rattle.lat_machines.specs.values.Timing.{agreed_by}
use Rattle.lat_machines.specs.server.Directory.{HeardAnnouncement, Best, any_of, latest, live, is_live, refuses, rating_of, offer_of, beats, better, best_in, best, avoid}
use Rattle.lat_machines.specs.values.Keys.{Key, same_key}
use Rattle.lat_machines.specs.server.Queue.{QueueEvent, Asks, Cancels, Grants, Finishes, Request, first_asks, is_overfull, records, waits, waiting, first, next_request}
use Rattle.lat_machines.specs.server.Records.{ask_answer, kept_for, is_granted}
use Rattle.lat_machines.specs.values.Events.{Numbers, Event, Hears, Time, Connects, Puts, Sets, Takes, Attends, Closes, Requests, Withdraws, Announces, Avoids, Readies, Halts}
use Rattle.lat_machines.specs.values.Answers.{Connected, NoLine, Busy, SessionsFull, CircuitsFull, IdsOut, Ignored, NotKept, KeptIs, Halted}
use Rattle.lat_machines.specs.cores.Acts.{call_at}
use Rattle.lat_machines.specs.cores.Hearing.{HeardAct, names, numbers_at, run_frame, hear_run, hear_stop_at, hear_reply_at}
use Rattle.lat_machines.specs.cores.Cores.{Seat, Core, setup_of, Doing, rests, acts, at_moment, circuit_to, told_stranger}
use Rattle.lat_machines.specs.cores.Lines.{over, has_session, had_session, peer_address, line_exists}
use Rattle.lat_machines.specs.cores.LineCalls.{put_on, set_on, attend_on, take_on, close_on}
use Rattle.lat_machines.specs.server.Server.{Offer, ServerConfig, Server, ServerStep, Passing, server_side, offer_on, has_room, can_open, calls_to, connects_on, opens, connects_to, solicits_for, connect_event, heard_at, hears_message, hears_announcement, hears_command, hears_notice, hears_value, hears, server_event, avoids_on, key_of, status_frame, finish_one, finish_all, finished_requests, grant_frame, fitting, grantable_on, grantable, grants_by, grant_line, grant_lines, grant_pass, server_step, tells, does, offered, may_grant, hears_run}
use Rattle.lat_machines.proofs.events.Leads.{Deed, Naming, Breaking, Quiet, Leads, Brings, leads_ignored, any_agreed, run_leads, stop_leads, reply_leads, call_leads, table_with, each_more, like}
use Rattle.lat_machines.proofs.events.Mades.{Made, made_loud, acts_made, made_none, made_then, made_notice, made_cond, local_made_all, passes_made, put_made, set_made, attend_made, take_made, close_made, line_made, ends_made, stranger_made}

-- what comes to a side, whoever sent it

pub record BroughtRun (L : Deed → Type 0) (D : List ℕ → Type 0) (w : World) (b : Bool) (from : ℕ) (k : Option Numbers) (wide : Bool) (h : Head) (slots : List Slot) : Type 0 where
  pub mark : Mark
  pub frame : Frame (List Slot)
  pub brings : Brings L D w b from h.master h.to h.from (Run mark h.ask frame)
  pub same : (now : ℕ) → run_end now h.ask frame ((table w b).circuit_at h.to).end ≡ run_end now h.ask (run_frame (numbers_at ((table w b).circuit_at h.to).end h k) slots) ((table w b).circuit_at h.to).end
  -- it is of the kind that its circuit has, where this matters
  pub spans : D [] ⊎ (names (table w b) from h.to h.from ≡ true → cond wide ((table w b).circuit_at h.to).end.wide (not ((table w b).circuit_at h.to).end.wide) ≡ true)

abbrev pub Brought : (Deed → Type 0) → (List ℕ → Type 0) → World → Bool → ℕ → Option Numbers → Message → Type 0
Brought L D w b from k (RunMessage h slots) = BroughtRun L D w b from k false h slots
Brought L D w b from k (WideMessage h slots) = BroughtRun L D w b from k true h slots
Brought L D w b from k (StartMessage master ask to source info) = Brings L D w b from master to source (cond master CallStart ReplyStart)
Brought L D w b from k (StopMessage master ask to source reason text) = Brings L D w b from master to source (Stopped reason)

abbrev pub BroughtIn : (Deed → Type 0) → (List ℕ → Type 0) → World → Bool → ℕ → Option Numbers → Reading → Type 0
BroughtIn L D w b from k (Malformed field at) = D []
BroughtIn L D w b from k (Whole (OfCircuit m)) = Brought L D w b from k m
BroughtIn L D w b from k (Whole (OfNotice n)) = D []

abbrev pub BroughtBy : (Deed → Type 0) → (List ℕ → Type 0) → World → Bool → Event → Type 0
BroughtBy L D w b (Hears from payload k now) = (from ≡ everyone → D []) × (from ≢ everyone → BroughtIn L D w b from k payload)
BroughtBy L D w b (Connects line service) = D [] × L (Naming service)
BroughtBy L D w b Halts = D [] × L Breaking
BroughtBy L D w b _ = D []

-- what can't be read delivers nothing
pub read_quiet : (D : List ℕ → Type 0) (from : ℕ) → (from ≡ everyone → D []) → (from ≢ everyone → D []) → D []
read_quiet D from p q = go (nat_eq from everyone) refl
  where
    go : (n : Bool) → nat_eq from everyone ≡ n → D []
    go true i = p (eqb-true from everyone i)
    go false i = q (eqb-false from everyone i)

-- nobody is called everyone

abbrev pub AskFits : QueueEvent → Type 0
AskFits (Asks k from service answer) = from ≢ everyone
AskFits _ = Unit {0}

pub record ServerFits (st : Server) : Type 0 where
  pub heard : Each (λ (e : HeardAnnouncement). e.from ≢ everyone) st.heard
  pub queue : Each AskFits st.queue

pub each_filter : {A : Type 0} (P : A → Type 0) (test : A → Bool) (xs : List A) → Each P xs → Each P (filter test xs)
each_filter {A} P test [] p = tt
each_filter {A} P test (x ∷ xs) p = go (test x) (each_filter P test xs p.1)
  where
    go : (n : Bool) → Each P (filter test xs) → Each P (cond n (x ∷ filter test xs) (filter test xs))
    go true q = (p.0, q)
    go false q = q

each_latest : (P : HeardAnnouncement → Type 0) (h : List HeardAnnouncement) → Each P h → Each P (latest h)
each_latest P [] p = tt
each_latest P (e ∷ es) p = go (any_of e.announcement.node es) (each_latest P es p.1)
  where
    go : (n : Bool) → Each P (latest es) → Each P (cond n (latest es) (e ∷ latest es))
    go true q = q
    go false q = (p.0, q)

abbrev pub BestFits : Option Best → Type 0
BestFits None = Unit {0}
BestFits (Some b) = b.from ≢ everyone

better_fits : (x : Best) (o : Option Best) → x.from ≢ everyone → BestFits o → BestFits (better x o)
better_fits x None p q = p
better_fits x (Some y) p q = go (beats y x)
  where
    go : (n : Bool) → BestFits (cond n (Some y) (Some x))
    go true = q
    go false = p

best_in_fits : (service : Name) (h : List HeardAnnouncement) → Each (λ (e : HeardAnnouncement). e.from ≢ everyone) h → BestFits (best_in service h)
best_in_fits service [] p = tt
best_in_fits service (e ∷ es) p = go (nat_eq (rating_of service e.announcement.services) 0) (best_in_fits service es p.1)
  where
    go : (n : Bool) → BestFits (best_in service es) → BestFits (cond n (best_in service es) (better (offer_of service e) (best_in service es)))
    go true q = q
    go false q = better_fits (offer_of service e) (best_in service es) p.0 q

best_fits : (groups : List ℕ) (service : Name) (now : ℕ) (h : List HeardAnnouncement) → Each (λ (e : HeardAnnouncement). e.from ≢ everyone) h → BestFits (best groups service now h)
best_fits groups service now h p = best_in_fits service (live groups now h) (each_filter (λ (e : HeardAnnouncement). e.from ≢ everyone) (is_live groups now) (latest h) (each_latest (λ (e : HeardAnnouncement). e.from ≢ everyone) h p))

abbrev pub RequestFits : Option Request → Type 0
RequestFits None = Unit {0}
RequestFits (Some r) = r.from ≢ everyone

asks_fit : (seen : List Key) (h : List QueueEvent) → Each AskFits h → Each (λ (r : Request). r.from ≢ everyone) (first_asks seen h)
asks_fit seen [] p = tt
asks_fit seen (Asks k from service answer ∷ h) p = go (list_any (same_key k) seen) (asks_fit seen h p.1) (asks_fit (k ∷ seen) h p.1)
  where
    go : (n : Bool) → Each (λ (r : Request). r.from ≢ everyone) (first_asks seen h) → Each (λ (r : Request). r.from ≢ everyone) (first_asks (k ∷ seen) h) → Each (λ (r : Request). r.from ≢ everyone) (cond n (first_asks seen h) (record { key = k; from = from; service = service; answer = answer; later = h } ∷ first_asks (k ∷ seen) h))
    go true q r = q
    go false q r = (p.0, r)
asks_fit seen (Cancels k ∷ h) p = asks_fit seen h p.1
asks_fit seen (Grants k s ∷ h) p = asks_fit seen h p.1
asks_fit seen (Finishes k ∷ h) p = asks_fit seen h p.1

next_fits : (service : Name) (h : List QueueEvent) → Each AskFits h → RequestFits (next_request service h)
next_fits service h p = go (waiting service h) (each_filter (λ (r : Request). r.from ≢ everyone) (λ r. waits r && same r.service service) (records h) (each_filter (λ (r : Request). r.from ≢ everyone) (λ r. not (is_overfull r.answer)) (first_asks [] h) (asks_fit [] h p)))
  where
    go : (rs : List Request) → Each (λ (r : Request). r.from ≢ everyone) rs → RequestFits (first rs)
    go [] q = tt
    go (r ∷ rs) q = q.0

-- the services of these lines
abbrev pub OffersFit : (Deed → Type 0) → List Offer → Type 0
OffersFit L os = Each (λ (o : Offer). L (Naming o.service)) os

abbrev pub NameFits : (Deed → Type 0) → Option Name → Type 0
NameFits L None = Unit {0}
NameFits L (Some service) = L (Naming service)

offer_fits : (L : Deed → Type 0) (line : ℕ) (os : List Offer) → OffersFit L os → NameFits L (offer_on line os)
offer_fits L line [] h = tt
offer_fits L line (o ∷ os) h = go (nat_eq o.line line) (offer_fits L line os h.1)
  where
    go : (n : Bool) → NameFits L (offer_on line os) → NameFits L (cond n (Some o.service) (offer_on line os))
    go true p = h.0
    go false p = p

-- opening a session for a line

calls_made : {L : Deed → Type 0} (config : ServerConfig) (address : ℕ) (node : Name) (c : Core) (w : World) → table w true ≡ c.circuits → w.setup ≡ setup_of config.timing → address ≢ everyone → Made L Quiet w true (calls_to config address node c).core (calls_to config address node c).frames
calls_made {L} config address node c w q s f =
    let d : Core = record c { names = updated c.names (next_id c.circuits) node } in
    made_cond w true (nat_eq (circuit_to c address) 0) (acts (server_side config) d (call_at (setup_of config.timing) d.circuits address d.moment)) (rests c)
    (λ i. acts_made (server_side config) d w true (call_at (setup_of config.timing) d.circuits address d.moment) (subst (λ u. Leads L Quiet w true (call_at u d.circuits address d.moment).table (call_at u d.circuits address d.moment).sent) s (subst (λ t. Leads L Quiet w true (call_at w.setup t address d.moment).table (call_at w.setup t address d.moment).sent) q (call_leads w address d.moment f))))
    (λ i. made_none w true c q)

connects_made : {L : Deed → Type 0} (config : ServerConfig) (line x : ℕ) (service : Name) (key : Option Key) (request : Option ℕ) (c : Core) (w : World) → L (Naming service) → table w true ≡ c.circuits → Made L Quiet w true (connects_on config line x service key request c).core (connects_on config line x service key request c).frames
connects_made config line x service key request c w n q =
    let e : Sessions = (c.circuits.circuit_at x).end.half.sessions in
    let d : Core = record c { seats = c.seats ++ record { line = line; circuit = x; id = least_free e; serial = suc e.made; key = key } ∷ [] } in
    local_made_all (server_side config) d w true x (Connect service request) n q

opens_made : {L : Deed → Type 0} (config : ServerConfig) (line address : ℕ) (node service : Name) (key : Option Key) (request : Option ℕ) (c : Core) (w : World) → L (Naming service) → table w true ≡ c.circuits → w.setup ≡ setup_of config.timing → address ≢ everyone → Made L Quiet w true (opens config line address node service key request c).core (opens config line address node service key request c).frames
opens_made {L} config line address node service key request c w l q s f =
    let d : Doing = calls_to config address node c in
    let m : Made L Quiet w true d.core d.frames = calls_made config address node c w q s f in
    let n : Doing = connects_on config line (circuit_to d.core address) service key request d.core in
    made_then w true d.core d.frames n.core n.frames m (connects_made config line (circuit_to d.core address) service key request d.core (with_table w true d.core.circuits m.wired) l (table_with w true d.core.circuits m.wired))

-- one event

pub record ServerMade (L : Deed → Type 0) (D : List ℕ → Type 0) (w : World) (st : Server) (fs : List OutFrame) : Type 0 where
  pub made : Made L D w true st.core fs
  pub fits : ServerFits st

did_cond : {L : Deed → Type 0} {D : List ℕ → Type 0} (w : World) (n : Bool) (s t : ServerStep) → (n ≡ true → ServerMade L D w s.state s.frames) → (n ≡ false → ServerMade L D w t.state t.frames) → ServerMade L D w (cond n s t).state (cond n s t).frames
did_cond w true s t p q = p refl
did_cond w false s t p q = q refl

did_none : {L : Deed → Type 0} (w : World) (st : Server) → table w true ≡ st.core.circuits → ServerFits st → ServerMade L Quiet w st []
did_none w st q f = record { made = made_none w true st.core q; fits = f }

-- what delivers nothing, where this may be
did_loud : {L : Deed → Type 0} {D : List ℕ → Type 0} (w : World) (st : Server) (fs : List OutFrame) → D [] → ServerMade L Quiet w st fs → ServerMade L D w st fs
did_loud w st fs l d = record { made = made_loud w true st.core fs l d.made; fits = d.fits }

did_core : {L : Deed → Type 0} {D : List ℕ → Type 0} (w : World) (st : Server) (c : Core) (fs : List OutFrame) → ServerFits st → Made L D w true c fs → ServerMade L D w (record st { core = c }) fs
did_core w st c fs f m = record { made = m; fits = record { heard = f.heard; queue = f.queue } }

did_connect : {L : Deed → Type 0} (config : ServerConfig) (w : World) (st : Server) (line : ℕ) (service : Name) → L (Naming service) → table w true ≡ st.core.circuits → w.setup ≡ setup_of config.timing → ServerFits st → ServerMade L Quiet w (connect_event config st line service).state (connect_event config st line service).frames
did_connect {L} config w st line service l q s f = go (line_exists config.lines line) (has_session st.core line) (best config.groups service st.core.moment st.heard) (best_fits config.groups service st.core.moment st.heard f.heard)
  where
    none : ServerMade L Quiet w st []
    none = did_none w st q f

    reaches : (b : Best) → b.from ≢ everyone → ServerMade L Quiet w (connects_to config st line service b).state (connects_to config st line service b).frames
    reaches b g =
        let x : ℕ = circuit_to st.core b.from in
        let d : Doing = opens config line b.from b.node service None None st.core in
        let yes : ServerMade L Quiet w (record st { core = d.core }) d.frames = did_core w st d.core d.frames f (opens_made config line b.from b.node service None None st.core w l q s g) in
        step (nat_eq x 0) (nat_lt (living st.core.circuits) 8) (nat_lt st.core.circuits.drawn 65535) (has_room st.core x) d yes x
      where
        step : (i j k l : Bool) (d : Doing) → ServerMade L Quiet w (record st { core = d.core }) d.frames → (x : ℕ) → ServerMade L Quiet w (cond i (cond j (cond k (does st (Connected (next_id st.core.circuits) 1) d) (tells st IdsOut)) (tells st CircuitsFull)) (cond l (does st (Connected x (least_free (st.core.circuits.circuit_at x).end.half.sessions)) d) (tells st SessionsFull))).state (cond i (cond j (cond k (does st (Connected (next_id st.core.circuits) 1) d) (tells st IdsOut)) (tells st CircuitsFull)) (cond l (does st (Connected x (least_free (st.core.circuits.circuit_at x).end.half.sessions)) d) (tells st SessionsFull))).frames
        step true true true l d y x = y
        step true true false l d y x = none
        step true false k l d y x = none
        step false j k true d y x = y
        step false j k false d y x = none

    solicits : ServerMade L Quiet w (solicits_for config st service).state (solicits_for config st service).frames
    solicits = record { made = made_notice w true st.core _ [] _ refl (made_none w true st.core q); fits = record { heard = f.heard; queue = f.queue } }

    asks : (o : Option Best) → ServerStep
    asks o = elim o [ None ↦ solicits_for config st service | Some b ↦ connects_to config st line service b ]

    go : (n m : Bool) (o : Option Best) → BestFits o → ServerMade L Quiet w (cond n (cond m (tells st Busy) (elim o [ None ↦ solicits_for config st service | Some b ↦ connects_to config st line service b ])) (tells st NoLine)).state (cond n (cond m (tells st Busy) (elim o [ None ↦ solicits_for config st service | Some b ↦ connects_to config st line service b ])) (tells st NoLine)).frames
    go false m o g = none
    go true true o g = none
    go true false None g = solicits
    go true false (Some b) g = reaches b g

did_heard : {L : Deed → Type 0} {D : List ℕ → Type 0} (config : ServerConfig) (w : World) (st : Server) (h : HeardAct) → ServerFits st → Leads L D w true h.act.table h.act.sent → ServerMade L D w (heard_at config st h).state (heard_at config st h).frames
did_heard config w st h f p = did_core w st (acts (server_side config) st.core h.act).core (acts (server_side config) st.core h.act).frames f (acts_made (server_side config) st.core w true h.act p)

did_run : {L : Deed → Type 0} {D : List ℕ → Type 0} (config : ServerConfig) (w : World) (st : Server) (from : ℕ) (wide : Bool) (h : Head) (slots : List Slot) (k : Option Numbers) → (config.prompt ≡ true → L Breaking) → from ≢ everyone → table w true ≡ st.core.circuits → ServerFits st → BroughtRun L D w true from k wide h slots → ServerMade L D w (hears_run config st from wide h slots k).state (hears_run config st from wide h slots k).frames
did_run {L} {D} config w st from wide h slots k l n q f p =
    let s : ServerStep = heard_at config st (hear_run true st.core.circuits from wide h slots k st.core.moment) in
    let d : ServerMade L D w s.state s.frames = did_heard config w st (hear_run true st.core.circuits from wide h slots k st.core.moment) f (subst (λ t. Leads L D w true (hear_run true t from wide h slots k st.core.moment).act.table (hear_run true t from wide h slots k st.core.moment).act.sent) q (run_leads w true from wide h slots k st.core.moment p.mark p.frame p.spans p.brings (p.same st.core.moment))) in
    let v : World = with_table w true s.state.core.circuits d.made.wired in
    record { made = made_then w true s.state.core s.frames s.state.core (told_stranger (server_side config) config.prompt st.core from h) d.made (stranger_made (server_side config) config.prompt st.core from h v s.state.core l refl n); fits = d.fits }

did_message : {L : Deed → Type 0} {D : List ℕ → Type 0} (config : ServerConfig) (w : World) (st : Server) (from : ℕ) (m : Message) (k : Option Numbers) → (config.prompt ≡ true → L Breaking) → from ≢ everyone → table w true ≡ st.core.circuits → ServerFits st → Brought L D w true from k m → ServerMade L D w (hears_message config st from m k).state (hears_message config st from m k).frames
did_message {L} {D} config w st from (RunMessage h slots) k l n q f p = did_run config w st from false h slots k l n q f p
did_message {L} {D} config w st from (WideMessage h slots) k l n q f p = did_run config w st from true h slots k l n q f p
did_message {L} {D} config w st from (StartMessage true ask to source info) k l n q f p = record { made = record { wired = []; leads = subst (λ t. Leads L D w true t []) q (leads_ignored w true (p.event st.core.moment any_agreed) (p.fits st.core.moment any_agreed) (p.gives st.core.moment any_agreed) (p.arrives w (like w) st.core.moment any_agreed)); shown = refl }; fits = f }
did_message {L} {D} config w st from (StartMessage false ask to source info) k l n q f p = did_heard config w st (hear_reply_at st.core.circuits from to source st.core.moment (agreed_by config.timing info)) f (subst (λ t. Leads L D w true (hear_reply_at t from to source st.core.moment (agreed_by config.timing info)).act.table (hear_reply_at t from to source st.core.moment (agreed_by config.timing info)).act.sent) q (reply_leads w from to source st.core.moment (agreed_by config.timing info) false p))
did_message {L} {D} config w st from (StopMessage master ask to source reason text) k l n q f p = did_heard config w st (hear_stop_at true st.core.circuits from to source st.core.moment reason) f (subst (λ t. Leads L D w true (hear_stop_at true t from to source st.core.moment reason).act.table (hear_stop_at true t from to source st.core.moment reason).act.sent) q (stop_leads w true from to source st.core.moment reason master p))

did_command : {L : Deed → Type 0} (config : ServerConfig) (w : World) (st : Server) (from : ℕ) (m : Command) (a : Action) → table w true ≡ st.core.circuits → ServerFits st → from ≢ everyone → ServerMade L Quiet w (hears_command config st from m a).state (hears_command config st from m a).frames
did_command {L} config w st from m Ask q f n = record { made = made_notice w true st.core _ [] _ refl (made_none w true st.core q); fits = record { heard = f.heard; queue = each_more AskFits st.queue (Asks (key_of m) from m.service (ask_answer (offered config) (key_of m) m.service st.queue) ∷ []) f.queue (n, tt) } }
did_command {L} config w st from m Cancel q f n = go (kept_for (key_of m) (st.queue ++ Cancels (key_of m) ∷ []))
  where
    fits : ServerFits (record st { queue = st.queue ++ Cancels (key_of m) ∷ [] })
    fits = record { heard = f.heard; queue = each_more AskFits st.queue (Cancels (key_of m) ∷ []) f.queue (tt, tt) }

    told : (o : Option Kept) → ServerStep
    told o = elim o [
      | None ↦ record { state = record st { queue = st.queue ++ Cancels (key_of m) ∷ [] }; answer = NotKept; frames = status_frame from m Unknown ∷ [] }
      | Some k ↦ record { state = record st { queue = st.queue ++ Cancels (key_of m) ∷ [] }; answer = KeptIs k; frames = status_frame from m (KeptAs k) ∷ [] }
    ]

    go : (o : Option Kept) → ServerMade L Quiet w (told o).state (told o).frames
    go None = record { made = made_notice w true st.core _ [] _ refl (made_none w true st.core q); fits = fits }
    go (Some k) = record { made = made_notice w true st.core _ [] _ refl (made_none w true st.core q); fits = fits }

did_announcement : {L : Deed → Type 0} (config : ServerConfig) (w : World) (st : Server) (from : ℕ) (a : Announcement) → table w true ≡ st.core.circuits → ServerFits st → from ≢ everyone → ServerMade L Quiet w (hears_announcement config st from a).state (hears_announcement config st from a).frames
did_announcement config w st from a q f n = record { made = made_none w true st.core q; fits = record { heard = go (refuses config.groups st.core.moment a st.heard); queue = f.queue } }
  where
    go : (r : Bool) → Each (λ (e : HeardAnnouncement). e.from ≢ everyone) (cond r st.heard (st.heard ++ record { from = from; announcement = a; at = st.core.moment } ∷ []))
    go true = f.heard
    go false = each_more (λ (e : HeardAnnouncement). e.from ≢ everyone) st.heard (record { from = from; announcement = a; at = st.core.moment } ∷ []) f.heard (n, tt)

did_notice : {L : Deed → Type 0} (config : ServerConfig) (w : World) (st : Server) (from : ℕ) (n : Notice) → table w true ≡ st.core.circuits → ServerFits st → from ≢ everyone → ServerMade L Quiet w (hears_notice config st from n).state (hears_notice config st from n).frames
did_notice config w st from (AnnouncementNotice a) q f n = did_announcement config w st from a q f n
did_notice config w st from (CommandNotice m) q f n = did_command config w st from m m.action q f n
did_notice config w st from (ResponseNotice r) q f n = did_none w st q f
did_notice config w st from (StatusNotice s) q f n = did_none w st q f
did_notice config w st from (SolicitNotice s) q f n = did_none w st q f

did_value : {L : Deed → Type 0} {D : List ℕ → Type 0} (config : ServerConfig) (w : World) (st : Server) (from : ℕ) (v : Value) (k : Option Numbers) → (config.prompt ≡ true → L Breaking) → table w true ≡ st.core.circuits → ServerFits st → from ≢ everyone → BroughtIn L D w true from k (Whole v) → ServerMade L D w (hears_value config st from v k).state (hears_value config st from v k).frames
did_value config w st from (OfCircuit m) k l q f n p = did_message config w st from m k l n q f p
did_value config w st from (OfNotice m) k l q f n p = did_loud w (hears_notice config st from m).state (hears_notice config st from m).frames p (did_notice config w st from m q f n)

did_hear : {L : Deed → Type 0} {D : List ℕ → Type 0} (config : ServerConfig) (w : World) (st : Server) (from : ℕ) (r : Reading) (k : Option Numbers) → (config.prompt ≡ true → L Breaking) → table w true ≡ st.core.circuits → ServerFits st → (from ≡ everyone → D []) → (from ≢ everyone → BroughtIn L D w true from k r) → ServerMade L D w (hears config st from r k).state (hears config st from r k).frames
did_hear {L} {D} config w st from (Malformed field at) k l q f o p = did_loud w st [] (read_quiet D from o p) (did_none w st q f)
did_hear {L} {D} config w st from (Whole v) k l q f o p = did_cond w (nat_eq from everyone) (tells st Ignored) (hears_value config st from v k) (λ i. did_loud w st [] (o (eqb-true from everyone i)) (did_none w st q f)) (λ i. did_value config w st from v k l q f (eqb-false from everyone i) (p (eqb-false from everyone i)))

did_avoid : {L : Deed → Type 0} (config : ServerConfig) (w : World) (st : Server) (line : ℕ) → table w true ≡ st.core.circuits → ServerFits st → ServerMade L Quiet w (avoids_on config st line).state (avoids_on config st line).frames
did_avoid config w st line q f = record { made = made_none w true st.core q; fits = record { heard = go (line_exists config.lines line) (had_session st.core line); queue = f.queue } }
  where
    rest : Each (λ (e : HeardAnnouncement). e.from ≢ everyone) (avoid (peer_address st.core line) st.heard)
    rest = each_filter (λ (e : HeardAnnouncement). e.from ≢ everyone) (λ e. not (nat_eq e.from (peer_address st.core line))) (latest st.heard) (each_latest (λ (e : HeardAnnouncement). e.from ≢ everyone) st.heard f.heard)

    go : (n m : Bool) → Each (λ (e : HeardAnnouncement). e.from ≢ everyone) (cond n (cond m (avoid (peer_address st.core line) st.heard) st.heard) st.heard)
    go false m = f.heard
    go true false = f.heard
    go true true = rest

pub did_event : {L : Deed → Type 0} {D : List ℕ → Type 0} (config : ServerConfig) (w : World) (st : Server) (e : Event) → (config.prompt ≡ true → L Breaking) → table w true ≡ st.core.circuits → w.setup ≡ setup_of config.timing → ServerFits st → BroughtBy L D w true e → ServerMade L D w (server_event config st e).state (server_event config st e).frames
did_event config w st (Hears from payload k now) l q s f p = did_hear config w (record st { core = at_moment now st.core }) from payload k l q (record { heard = f.heard; queue = f.queue }) p.0 p.1
did_event config w st (Time now) l q s f p = did_loud w _ _ p (did_core w st _ _ f (passes_made (server_side config) (at_moment now st.core) w q))
did_event config w st (Connects line service) l q s f p = did_loud w _ _ p.0 (did_cond w st.halted (tells st Halted) (connect_event config st line service) (λ i. did_none w st q f) (λ i. did_connect config w st line service p.1 q s f))
did_event config w st (Puts line bytes) l q s f p = did_loud w _ _ p (did_core w st _ [] f (line_made (server_side config) config.lines st.core w line (λ t. put_on (server_side config) st.core t bytes) q (λ t. put_made (server_side config) st.core w t bytes q)))
did_event config w st (Sets line setting) l q s f p = did_loud w _ _ p (did_core w st _ [] f (line_made (server_side config) config.lines st.core w line (λ t. set_on (server_side config) st.core t setting) q (λ t. set_made (server_side config) st.core w t setting q)))
did_event config w st (Takes line n) l q s f p = did_loud w _ _ p (did_core w st _ [] f (line_made (server_side config) config.lines st.core w line (λ t. take_on (server_side config) st.core t n) q (λ t. take_made (server_side config) st.core w t n q)))
did_event config w st (Attends line flag) l q s f p = did_loud w _ _ p (did_core w st _ [] f (line_made (server_side config) config.lines st.core w line (λ t. attend_on (server_side config) st.core t flag) q (λ t. attend_made (server_side config) st.core w t flag q)))
did_event config w st (Closes line) l q s f p = did_loud w _ _ p (did_core w st _ [] f (line_made (server_side config) config.lines st.core w line (λ t. close_on (server_side config) st.core t) q (λ t. close_made (server_side config) st.core w t q)))
did_event config w st (Requests to id service) l q s f p = did_loud w _ _ p (did_none w st q f)
did_event config w st (Withdraws id) l q s f p = did_loud w _ _ p (did_none w st q f)
did_event config w st Announces l q s f p = did_loud w _ _ p (did_none w st q f)
did_event config w st (Avoids line) l q s f p = did_loud w _ _ p (did_avoid config w st line q f)
did_event config w st Halts l q s f p = did_loud w _ _ p.0 (did_core w (record st { halted = true }) _ _ (record { heard = f.heard; queue = f.queue }) (ends_made (server_side config) 3 st.core w p.1 q))
did_event config w st (Readies line ready) l q s f p = did_loud w _ _ p (record { made = made_none w true st.core q; fits = record { heard = f.heard; queue = f.queue } })

-- what follows every event

finish_fits : (c : Core) (ss : List Seat) (h : List QueueEvent) → Each AskFits h → Each AskFits (finish_all c ss h)
finish_fits c [] h p = p
finish_fits c (s ∷ ss) h p = finish_fits c ss (finish_one c s.key (over c s) h) (go s.key (over c s))
  where
    go : (k : Option Key) (o : Bool) → Each AskFits (finish_one c k o h)
    go None o = p
    go (Some k) o = step (o && is_granted (kept_for k h))
      where
        step : (n : Bool) → Each AskFits (cond n (h ++ Finishes k ∷ []) h)
        step true = each_more AskFits h (Finishes k ∷ []) p (tt, tt)
        step false = p

grantable_fits : (st : Server) (line : ℕ) (o : Option Name) → ServerFits st → RequestFits (grantable st line o)
grantable_fits st line None f = tt
grantable_fits st line (Some service) f = by (may_grant st line) (go (has_session st.core line) (next_request service st.queue) (next_fits service st.queue f.queue))
  where
    fit : (n : Bool) (r : Request) → r.from ≢ everyone → RequestFits (cond n (Some r) None)
    fit true r p = p
    fit false r p = tt

    by : (n : Bool) → RequestFits (grantable_on st.core st.queue line service) → RequestFits (cond n (grantable_on st.core st.queue line service) None)
    by true p = p
    by false p = tt

    go : (n : Bool) (o : Option Request) → RequestFits o → RequestFits (cond n None (fitting st.core o))
    go true o p = tt
    go false None p = tt
    go false (Some r) p = fit (can_open st.core r.from) r p

did_grant : {L : Deed → Type 0} {D : List ℕ → Type 0} (config : ServerConfig) (w : World) (p : Passing) (line : ℕ) (o : Option Name) (r : Option Request) → NameFits L o → w.setup ≡ setup_of config.timing → RequestFits r → ServerMade L D w p.state p.frames → ServerMade L D w (grants_by config line o r p).state (grants_by config line o r p).frames
did_grant config w p line None r l s g d = d
did_grant config w p line (Some service) None l s g d = d
did_grant config w p line (Some service) (Some r) l s g d =
    let v : World = with_table w true p.state.core.circuits d.made.wired in
    let n : Doing = opens config line r.from r.key.node service (Some r.key) (Some r.key.request) p.state.core in
    record {
      made = made_then w true p.state.core p.frames n.core (grant_frame r ∷ n.frames) d.made (made_notice v true n.core (grant_frame r) n.frames _ refl (opens_made config line r.from r.key.node service (Some r.key) (Some r.key.request) p.state.core v l refl s g));
      fits = record { heard = d.fits.heard; queue = each_more AskFits p.state.queue (Grants r.key service ∷ []) d.fits.queue (tt, tt) };
    }

did_lines : {L : Deed → Type 0} {D : List ℕ → Type 0} (config : ServerConfig) (w : World) (lines : List ℕ) (p : Passing) → OffersFit L config.offers → w.setup ≡ setup_of config.timing → ServerMade L D w p.state p.frames → ServerMade L D w (grant_lines config lines p).state (grant_lines config lines p).frames
did_lines {L} config w [] p l s d = d
did_lines {L} config w (line ∷ lines) p l s d = did_lines config w lines (grant_line config p line) l s (did_grant config w p line (offer_on line config.offers) (grantable p.state line (offer_on line config.offers)) (offer_fits L line config.offers l) s (grantable_fits p.state line (offer_on line config.offers) d.fits) d)

-- an event of the server, with what follows it
pub did_step : {L : Deed → Type 0} {D : List ℕ → Type 0} (config : ServerConfig) (w : World) (st : Server) (e : Event) → (config.prompt ≡ true → L Breaking) → OffersFit L config.offers → table w true ≡ st.core.circuits → w.setup ≡ setup_of config.timing → ServerFits st → BroughtBy L D w true e → ServerMade L D w (server_step config st e).state (server_step config st e).frames
did_step {L} {D} config w st e b l q s f p =
    let x : ServerStep = server_event config st e in
    let d : ServerMade L D w x.state x.frames = did_event config w st e b q s f p in
    let v : World = with_table w true x.state.core.circuits d.made.wired in
    let y : Server = finished_requests x.state in
    let n : ServerMade L Quiet v y [] = record { made = made_none v true y.core refl; fits = record { heard = d.fits.heard; queue = finish_fits x.state.core x.state.core.seats x.state.queue d.fits.queue } } in
    let g : ServerMade L Quiet v (grant_pass config y).state (grant_pass config y).frames = did_lines config v (upwards 0 config.lines) (record { state = y; frames = [] }) l s n in
    record { made = made_then w true x.state.core x.frames (grant_pass config y).state.core (grant_pass config y).frames d.made g.made; fits = g.fits }
