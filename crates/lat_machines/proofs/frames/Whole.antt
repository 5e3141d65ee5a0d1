-- No frame that one end sent breaks a circuit of the other.
use Rattle.std.proofs.Common.{◌≡◌, ◌≢◌, ℕ, ⊎_elim, refl, sym, ap, ap₂, ◌∙◌, subst, Bool, true, false, not, cond, ◌&&◌, ◌||◌, List, [], ◌∷◌, ◌++◌, Option, Some, None, slice_get, nat_eq}
use Rattle.std.proofs.lemmas.Bool.{and_parts}
use Rattle.std.specs.List.{find}
use Rattle.lat_model.specs.sessions.Slots.{Slot}
use Rattle.lat_model.specs.numbers.Link.{Frame}
use Rattle.lat_model.specs.ends.End.{Mark, Sent, Run, CallStart, ReplyStart, Stopped, End, lives}
use Rattle.lat_model.specs.ends.Run.{RunAnswer, RunTaken, RunRepeated, RunAckOnly, RunBroke, run_end}
use Rattle.lat_model.specs.ends.Starting.{hear_reply, hear_stop}
use Rattle.lat_model.specs.circuits.World.{CircuitEntry, Table, Wired, World, table}
use Rattle.lat_model.specs.circuits.WorldOk.{WorldOk}
use Rattle.lat_model.proofs.circuits.Follows.{world_whole}
use Rattle.lat_machines.specs.values.Names.{Name, same}
use Rattle.lat_machines.specs.values.Addresses.{everyone}
use Rattle.lat_machines.specs.values.Messages.{Head, Message, RunMessage, WideMessage, StartMessage, StopMessage}
use Rattle.lat_machines.specs.values.Notices.{Kept, KeptAs, Unknown, Action, Ask, Cancel, Command, Notice, AnnouncementNotice, CommandNotice, StatusNotice, SolicitNotice, ResponseNotice}
use Rattle.lat_machines.specs.values.Frames.{Value, OfCircuit, OfNotice, Whole, OutFrame}
use Rattle.lat_machines.specs.values.Runs.{slots_in, run_head}
use Rattle.lat_machines.specs.values.Timing.{agreed_by}
use Rattle.lat_machines.specs.server.Directory.{refuses, meets}
use Rattle.lat_machines.specs.server.Queue.{Cancels}
use Rattle.lat_machines.specs.server.Records.{kept_for}
use Rattle.lat_machines.specs.values.Events.{Numbers, Hears}
use Rattle.lat_machines.specs.values.Answers.{Heard, Again, Broke, Ended, Running, Circuit, Announced, Apart, DirectoryFull, NotKept, KeptIs, Ignored}
use Rattle.lat_machines.specs.cores.Acts.{Acted, steps_at}
use Rattle.lat_machines.specs.cores.Hearing.{answer_of, names, fits_kind, numbers_at, run_frame, run_at, foreign, hear_run, hear_reply_at, hear_stop_at, start_fact, StartFact, Repeats, Makes, Refuses}
use Rattle.lat_machines.specs.cores.Cores.{Side, Core, sent_frame, at_moment}
use Rattle.lat_machines.specs.server.Server.{ServerConfig, Server, ServerStep, server_step, key_of}
use Rattle.lat_machines.specs.server.Server as Server
use Rattle.lat_machines.specs.node.Node.{NodeConfig, Node, NodeStep, start_answer, node_step}
use Rattle.lat_machines.specs.node.Node as Node
use Rattle.lat_machines.specs.world.Machines.{Setups, Posted, Machines, own_of, is_for_other, heard_as}
use Rattle.lat_machines.specs.world.Ties.{Shown}
use Rattle.lat_machines.specs.world.Safe.{answer_by, NeverBreaks}
use Rattle.lat_machines.proofs.events.Tied.{Beside, shows_at, to_other, own_tied, same_body}

-- a RUN that isn't bad, wherever it is heard
abbrev WholeRun : Table → ℕ → Option Numbers → Bool → Head → List Slot → Type 0
WholeRun t from k wide h slots = (now : ℕ) → names t from h.to h.from ≡ true → fits_kind (t.circuit_at h.to).end h.master wide ≡ true → (run_end now h.ask (run_frame (numbers_at (t.circuit_at h.to).end h k) slots) (t.circuit_at h.to).end).answer ≢ RunBroke

abbrev WholeIn : Table → ℕ → Option Numbers → Value → Type 0
WholeIn t from k (OfCircuit (RunMessage h slots)) = WholeRun t from k false h slots
WholeIn t from k (OfCircuit (WideMessage h slots)) = WholeRun t from k true h slots
WholeIn t from k (OfCircuit (StartMessage master ask to source info)) = Unit {0}
WholeIn t from k (OfCircuit (StopMessage master ask to source reason text)) = Unit {0}
WholeIn t from k (OfNotice n) = Unit {0}

answer_whole : (h : RunAnswer) (r : ℕ) → h ≢ RunBroke → answer_of h ≢ Broke r
answer_whole (RunTaken n) r p q = let z : ⊥ = cc in z
answer_whole RunRepeated r p q = let z : ⊥ = cc in z
answer_whole RunAckOnly r p q = let z : ⊥ = cc in z
answer_whole RunBroke r p q = p refl

run_whole : (b : Bool) (t : Table) (from : ℕ) (wide : Bool) (h : Head) (slots : List Slot) (k : Option Numbers) (now r : ℕ) → WholeRun t from k wide h slots → (hear_run b t from wide h slots k now).answer ≢ Broke r
run_whole b t from wide h slots k now r p = go (names t from h.to h.from) refl (fits_kind (t.circuit_at h.to).end h.master wide) refl
  where
    f : Frame (List Slot)
    f = run_frame (numbers_at (t.circuit_at h.to).end h k) slots

    go : (n : Bool) → names t from h.to h.from ≡ n → (y : Bool) → fits_kind (t.circuit_at h.to).end h.master wide ≡ y → (cond n (run_at b t h.to y now h.ask f) (foreign t)).answer ≢ Broke r
    go false i y j q = let z : ⊥ = cc in z
    go true i false j q = let z : ⊥ = cc in z
    go true i true j q = answer_whole (run_end now h.ask f (t.circuit_at h.to).end).answer r (p now i j) q

reply_whole : (t : Table) (n m : Bool) (x : Acted) (r : ℕ) → (cond n (record { act = x; answer = cond m Again Running }) (foreign t)).answer ≢ Broke r
reply_whole t true true x r q = let z : ⊥ = cc in z
reply_whole t true false x r q = let z : ⊥ = cc in z
reply_whole t false m x r q = let z : ⊥ = cc in z

stop_whole : (t : Table) (n : Bool) (x : Acted) (r s : ℕ) → (cond n (record { act = x; answer = Ended s }) (foreign t)).answer ≢ Broke r
stop_whole t true x r s q = let z : ⊥ = cc in z
stop_whole t false x r s q = let z : ⊥ = cc in z

inner : (x : Heard) (r : ℕ) → x ≢ Broke r → Circuit x ≢ Circuit (Broke r)
inner x r p q = let e : x ≡ Broke r = cc in p e

-- the server

server_message : (config : ServerConfig) (st : Server) (from : ℕ) (m : Message) (k : Option Numbers) (r : ℕ) → WholeIn st.core.circuits from k (OfCircuit m) → (Server.hears_message config st from m k).answer ≢ Circuit (Broke r)
server_message config st from (RunMessage h slots) k r p q = inner (hear_run true st.core.circuits from false h slots k st.core.moment).answer r (run_whole true st.core.circuits from false h slots k st.core.moment r p) q
server_message config st from (WideMessage h slots) k r p q = inner (hear_run true st.core.circuits from true h slots k st.core.moment).answer r (run_whole true st.core.circuits from true h slots k st.core.moment r p) q
server_message config st from (StartMessage true ask to source info) k r p q = let z : ⊥ = cc in z
server_message config st from (StartMessage false ask to source info) k r p q =
    let c : CircuitEntry = st.core.circuits.circuit_at to in
    inner (hear_reply_at st.core.circuits from to source st.core.moment (agreed_by config.timing info)).answer r (reply_whole st.core.circuits (nat_eq c.address from && lives c.end && (not c.end.running || nat_eq c.end.peer source)) c.end.running (steps_at true st.core.circuits to (hear_reply st.core.moment source (agreed_by config.timing info) c.end)) r) q
server_message config st from (StopMessage master ask to source reason text) k r p q =
    let c : CircuitEntry = st.core.circuits.circuit_at to in
    inner (hear_stop_at true st.core.circuits from to source st.core.moment reason).answer r (stop_whole st.core.circuits (nat_eq c.address from && (nat_eq c.end.peer source || nat_eq source 0) && lives c.end) (steps_at true st.core.circuits to (hear_stop st.core.moment reason c.end)) r reason) q

server_command : (config : ServerConfig) (st : Server) (from : ℕ) (m : Command) (a : Action) (r : ℕ) → (Server.hears_command config st from m a).answer ≢ Circuit (Broke r)
server_command config st from m Ask r q = let z : ⊥ = cc in z
server_command config st from m Cancel r q = go (kept_for (key_of m) (st.queue ++ Cancels (key_of m) ∷ [])) q
  where
    told : Option Kept → ServerStep
    told o = elim o [
      | None ↦ record { state = record st { queue = st.queue ++ Cancels (key_of m) ∷ [] }; answer = NotKept; frames = Server.status_frame from m Unknown ∷ [] }
      | Some k ↦ record { state = record st { queue = st.queue ++ Cancels (key_of m) ∷ [] }; answer = KeptIs k; frames = Server.status_frame from m (KeptAs k) ∷ [] }
    ]

    go : (o : Option Kept) → (told o).answer ≢ Circuit (Broke r)
    go None q = let z : ⊥ = cc in z
    go (Some k) q = let z : ⊥ = cc in z

announced : (x y : Bool) (r : ℕ) → cond x DirectoryFull (cond y Announced Apart) ≢ Circuit (Broke r)
announced true y r q = let z : ⊥ = cc in z
announced false true r q = let z : ⊥ = cc in z
announced false false r q = let z : ⊥ = cc in z

server_notice : (config : ServerConfig) (st : Server) (from : ℕ) (n : Notice) (r : ℕ) → (Server.hears_notice config st from n).answer ≢ Circuit (Broke r)
server_notice config st from (AnnouncementNotice a) r q = announced (refuses config.groups st.core.moment a st.heard) (meets config.groups a) r q
server_notice config st from (CommandNotice m) r q = server_command config st from m m.action r q
server_notice config st from (ResponseNotice x) r q = let z : ⊥ = cc in z
server_notice config st from (StatusNotice x) r q = let z : ⊥ = cc in z
server_notice config st from (SolicitNotice x) r q = let z : ⊥ = cc in z

server_value : (config : ServerConfig) (st : Server) (from : ℕ) (v : Value) (k : Option Numbers) (r : ℕ) → WholeIn st.core.circuits from k v → (Server.hears_value config st from v k).answer ≢ Circuit (Broke r)
server_value config st from (OfCircuit m) k r p = server_message config st from m k r p
server_value config st from (OfNotice n) k r p = server_notice config st from n r

server_whole : (config : ServerConfig) (st : Server) (from : ℕ) (v : Value) (k : Option Numbers) (now r : ℕ) → WholeIn st.core.circuits from k v → (server_step config st (Hears from (Whole v) k now)).answer ≢ Circuit (Broke r)
server_whole config st from v k now r p = go (nat_eq from everyone)
  where
    x : Server
    x = record st { core = at_moment now st.core }

    go : (n : Bool) → (cond n (Server.tells x Ignored) (Server.hears_value config x from v k)).answer ≢ Circuit (Broke r)
    go true q = let z : ⊥ = cc in z
    go false q = server_value config x from v k r p q

-- the node

node_message : (config : NodeConfig) (st : Node) (from : ℕ) (m : Message) (k : Option Numbers) (r : ℕ) → WholeIn st.core.circuits from k (OfCircuit m) → (Node.hears_message config st from m k).answer ≢ Circuit (Broke r)
node_message config st from (RunMessage h slots) k r p q = inner (hear_run false st.core.circuits from false h slots k st.core.moment).answer r (run_whole false st.core.circuits from false h slots k st.core.moment r p) q
node_message config st from (WideMessage h slots) k r p q = inner (hear_run false st.core.circuits from true h slots k st.core.moment).answer r (run_whole false st.core.circuits from true h slots k st.core.moment r p) q
node_message config st from (StartMessage false ask to source info) k r p q = let z : ⊥ = cc in z
node_message config st from (StartMessage true ask to source info) k r p q = by st.halted q
  where
    go : (f : StartFact) → start_answer f ≢ Circuit (Broke r)
    go (Repeats x) q = let z : ⊥ = cc in z
    go (Makes x) q = let z : ⊥ = cc in z
    go Refuses q = let z : ⊥ = cc in z

    by : (n : Bool) → (cond n (Node.turns_away config st from source) (Node.starts config (Node.makes_way config st from source) from source info)).answer ≢ Circuit (Broke r)
    by true q = let z : ⊥ = cc in z
    by false q = go (start_fact (Node.makes_way config st from source).core.circuits from source) q
node_message config st from (StopMessage master ask to source reason text) k r p q =
    let c : CircuitEntry = st.core.circuits.circuit_at to in
    inner (hear_stop_at false st.core.circuits from to source st.core.moment reason).answer r (stop_whole st.core.circuits (nat_eq c.address from && (nat_eq c.end.peer source || nat_eq source 0) && lives c.end) (steps_at false st.core.circuits to (hear_stop st.core.moment reason c.end)) r reason) q

node_notice : (config : NodeConfig) (rates : List ℕ) (st : Node) (from : ℕ) (n : Notice) (r : ℕ) → (Node.hears_notice config rates st from n).answer ≢ Circuit (Broke r)
node_notice config rates st from (AnnouncementNotice a) r q = let z : ⊥ = cc in z
node_notice config rates st from (CommandNotice m) r q = let z : ⊥ = cc in z
node_notice config rates st from (ResponseNotice x) r q = let z : ⊥ = cc in z
node_notice config rates st from (StatusNotice x) r q = let z : ⊥ = cc in z
node_notice config rates st from (SolicitNotice x) r q = go (find (same x.service) config.services) q
  where
    go : (o : Option Name) → (Node.solicited config rates st from x.id o).answer ≢ Circuit (Broke r)
    go None q = let z : ⊥ = cc in z
    go (Some s) q = let z : ⊥ = cc in z

node_value : (config : NodeConfig) (rates : List ℕ) (st : Node) (from : ℕ) (v : Value) (k : Option Numbers) (r : ℕ) → WholeIn st.core.circuits from k v → (Node.hears_value config rates st from v k).answer ≢ Circuit (Broke r)
node_value config rates st from (OfCircuit m) k r p = node_message config st from m k r p
node_value config rates st from (OfNotice n) k r p = node_notice config rates st from n r

node_whole : (config : NodeConfig) (rates : List ℕ) (st : Node) (from : ℕ) (v : Value) (k : Option Numbers) (now r : ℕ) → WholeIn st.core.circuits from k v → (node_step config rates st (Hears from (Whole v) k now)).answer ≢ Circuit (Broke r)
node_whole config rates st from v k now r p = go (nat_eq from everyone)
  where
    x : Node
    x = record st { core = at_moment now st.core }

    go : (n : Bool) → (cond n (Node.tells x Ignored) (Node.hears_value config rates x from v k)).answer ≢ Circuit (Broke r)
    go true q = let z : ⊥ = cc in z
    go false q = node_value config rates x from v k r p q

-- what comes from the other end isn't bad

whole_run : (w : World) (ok : WorldOk w) (b : Bool) (j : ℕ) (to circuit destination source : ℕ) (m : Mark) (ask : Bool) (f : Frame (List Slot)) (wide y : Bool) → slice_get w.frames j ≡ Some (record { by_server = b; circuit = circuit; to = to; destination = destination; source = source; sent = Run m ask f }) → to ≡ (table w (not b)).own → WholeRun (table w (not b)) (table w b).own (Some (record { number = f.number; acknowledgement = f.acknowledgement })) wide (run_head b y ask destination source f) (slots_in f)
whole_run w ok b j to circuit destination source m ask f wide y q t now i k z =
    let e : End = ((table w (not b)).circuit_at destination).end in
    world_whole w ok j now (record { by_server = b; circuit = circuit; to = to; destination = destination; source = source; sent = Run m ask f }) ask f q
    (record { to = t; mark = m; run = refl; names = ap₂ (λ x v. x && v) i (and_parts (cond b (not e.master) e.master) (cond wide e.wide (not e.wide)) k).0 })
    (ap (λ x. x.answer) (same_body now ask f.number f.acknowledgement f.body e) ∙ z)

whole_sent : (w : World) (ok : WorldOk w) (k : Side) (c : Core) (b : Bool) (j : ℕ) (circuit to destination source : ℕ) (s : Sent) → slice_get w.frames j ≡ Some (record { by_server = b; circuit = circuit; to = to; destination = destination; source = source; sent = s }) → to ≡ (table w (not b)).own → WholeIn (table w (not b)) (table w b).own (Some (record { number = (sent_frame k c (record { by_server = b; circuit = circuit; to = to; destination = destination; source = source; sent = s })).number; acknowledgement = (sent_frame k c (record { by_server = b; circuit = circuit; to = to; destination = destination; source = source; sent = s })).acknowledgement })) (sent_frame k c (record { by_server = b; circuit = circuit; to = to; destination = destination; source = source; sent = s })).value
whole_sent w ok k c b j circuit to destination source (Run m ask f) q t = go (c.circuits.circuit_at circuit).end.wide (c.circuits.circuit_at circuit).end.wide
  where
    go : (z y : Bool) → WholeIn (table w (not b)) (table w b).own (Some (record { number = f.number; acknowledgement = f.acknowledgement })) (OfCircuit (cond z (WideMessage (run_head b y ask destination source f) (slots_in f)) (RunMessage (run_head b y ask destination source f) (slots_in f))))
    go true y = whole_run w ok b j to circuit destination source m ask f true y q t
    go false y = whole_run w ok b j to circuit destination source m ask f false y q t
whole_sent w ok k c b j circuit to destination source CallStart q t = tt
whole_sent w ok k c b j circuit to destination source ReplyStart q t = tt
whole_sent w ok k c b j circuit to destination source (Stopped r) q t = tt

whole_frame : (u : Setups) (m : Machines) (w : World) (p : Posted) (i : ℕ) → Beside u m w → WorldOk w → slice_get m.posts i ≡ Some p → is_for_other u p ≡ true → WholeIn (table w (not p.by_server)) (own_of u p.by_server) (Some (record { number = p.frame.number; acknowledgement = p.frame.acknowledgement })) p.frame.value
whole_frame u m w p i h ok q t = ⊎_elim {C = WholeIn (table w (not p.by_server)) (own_of u p.by_server) (Some (record { number = p.frame.number; acknowledgement = p.frame.acknowledgement })) p.frame.value} (λ n. subst (WholeIn (table w (not p.by_server)) (own_of u p.by_server) (Some (record { number = p.frame.number; acknowledgement = p.frame.acknowledgement }))) (sym n.1) tt) (λ f. found f.0 f.1 f.2 f.3) (shows_at m.posts w.frames i p h.ties.shows q)
  where
    found : (j : ℕ) (v : Wired) → slice_get w.frames j ≡ Some v → Shown p v → WholeIn (table w (not p.by_server)) (own_of u p.by_server) (Some (record { number = p.frame.number; acknowledgement = p.frame.acknowledgement })) p.frame.value
    found j v e s =
        let f : OutFrame = sent_frame s.side s.core v in
        let x : WholeIn (table w (not v.by_server)) (own_of u v.by_server) (Some (record { number = f.number; acknowledgement = f.acknowledgement })) f.value =
        subst (λ z. WholeIn (table w (not v.by_server)) z (Some (record { number = f.number; acknowledgement = f.acknowledgement })) f.value) (own_tied u m w v.by_server h.ties)
        (whole_sent w ok s.side s.core v.by_server j v.circuit v.to v.destination v.source v.sent e (to_other u m w p v j h e s t)) in
        subst (λ z. WholeIn (table w (not z)) (own_of u z) (Some (record { number = p.frame.number; acknowledgement = p.frame.acknowledgement })) p.frame.value) (sym s.by_server)
        (subst (λ z. WholeIn (table w (not v.by_server)) (own_of u v.by_server) (Some (record { number = z.number; acknowledgement = z.acknowledgement })) z.value) (sym s.frame) x)

pub never_breaks : (u : Setups) (m : Machines) (w : World) → Beside u m w → WorldOk w → NeverBreaks u m
never_breaks u m w h ok i now r p q t = go (not p.by_server) (whole_frame u m w p i h ok q t)
  where
    go : (b : Bool) → WholeIn (table w b) (own_of u p.by_server) (Some (record { number = p.frame.number; acknowledgement = p.frame.acknowledgement })) p.frame.value → answer_by u m b (heard_as u p now) ≢ Circuit (Broke r)
    go true x = server_whole u.server m.server (own_of u p.by_server) p.frame.value (Some (record { number = p.frame.number; acknowledgement = p.frame.acknowledgement })) now r (subst (λ z. WholeIn z (own_of u p.by_server) (Some (record { number = p.frame.number; acknowledgement = p.frame.acknowledgement })) p.frame.value) h.ties.server x)
    go false x = node_whole u.node [] m.node (own_of u p.by_server) p.frame.value (Some (record { number = p.frame.number; acknowledgement = p.frame.acknowledgement })) now r (subst (λ z. WholeIn z (own_of u p.by_server) (Some (record { number = p.frame.number; acknowledgement = p.frame.acknowledgement })) p.frame.value) h.ties.node x)
