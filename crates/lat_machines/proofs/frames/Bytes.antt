-- A young frame of the other end is heard by its number fields as by its numbers.
use Rattle.std.proofs.Common.{◌≡◌, ℕ, ◌<◌, ⊎_elim, arith, refl, sym, ap, ap₂, ◌∙◌, subst, Bool, true, false, not, cond, ◌&&◌, List, Option, Some, None, slice_get, nat_eq, ◌++◌}
use Rattle.std.proofs.lemmas.Bool.{and_parts, false≢true}
use Rattle.lat_model.specs.sessions.Slots.{Slot}
use Rattle.lat_model.specs.numbers.Link.{Frame}
use Rattle.lat_model.specs.numbers.NetOk.{Young, as_bytes}
use Rattle.lat_model.specs.ends.End.{Mark, Sent, Run, CallStart, ReplyStart, Stopped, End}
use Rattle.lat_model.specs.circuits.World.{Table, Wired, World, table}
use Rattle.lat_model.specs.circuits.Comes.{Comes}
use Rattle.lat_model.specs.circuits.WorldOk.{WorldOk, FromSender}
use Rattle.lat_model.specs.circuits.Agree.{the_half}
use Rattle.lat_model.proofs.circuits.Follows.{world_bytes}
use Rattle.lat_model.proofs.numbers.Net.{each_at}
use Rattle.lat_machines.specs.values.Addresses.{everyone}
use Rattle.lat_machines.specs.values.Frames.{OfRun, Value, OfCircuit, OfNotice, Whole, OutFrame}
use Rattle.lat_machines.specs.values.Timing.{half_range}
use Rattle.lat_machines.specs.values.Messages.{Head, RunMessage, WideMessage, StartMessage, StopMessage}
use Rattle.lat_machines.specs.values.Runs.{slots_in, run_head}
use Rattle.lat_machines.specs.values.Events.{Numbers, Hears}
use Rattle.lat_machines.specs.values.Answers.{Ignored}
use Rattle.lat_machines.specs.cores.Hearing.{names, fits_kind, numbers_at, run_frame, run_at, foreign, hear_run}
use Rattle.lat_machines.specs.cores.Cores.{Side, Core, sent_frame, at_moment, told_stranger}
use Rattle.lat_machines.specs.server.Server.{ServerConfig, Server, server_step}
use Rattle.lat_machines.specs.server.Server as Server
use Rattle.lat_machines.specs.node.Node.{NodeConfig, Node, node_step}
use Rattle.lat_machines.specs.node.Node as Node
use Rattle.lat_machines.specs.world.Machines.{Setups, Posted, Machines, server_did, node_did, tell, heard_as, own_of, is_for_other}
use Rattle.lat_machines.specs.world.Young.{head_of, YoungOf, IsYoung}
use Rattle.lat_machines.specs.world.Ties.{Shown, Ties}
use Rattle.lat_machines.specs.world.Safe.{HeardByBytes}
use Rattle.lat_machines.proofs.events.Tied.{Beside, shows_at, to_other, own_tied}

abbrev pub SameRun : Table → ℕ → Numbers → Bool → Head → Type 0
SameRun t from k wide h = names t from h.to h.from ≡ true → fits_kind (t.circuit_at h.to).end h.master wide ≡ true → numbers_at (t.circuit_at h.to).end h None ≡ k

abbrev pub SameIn : Table → ℕ → Numbers → Value → Type 0
SameIn t from k (OfCircuit (RunMessage h slots)) = SameRun t from k false h
SameIn t from k (OfCircuit (WideMessage h slots)) = SameRun t from k true h
SameIn t from k (OfCircuit (StartMessage master ask to source info)) = Unit {0}
SameIn t from k (OfCircuit (StopMessage master ask to source reason text)) = Unit {0}
SameIn t from k (OfNotice n) = Unit {0}

same_hear : (b : Bool) (t : Table) (from : ℕ) (wide : Bool) (h : Head) (slots : List Slot) (k : Numbers) (now : ℕ) → SameRun t from k wide h → hear_run b t from wide h slots None now ≡ hear_run b t from wide h slots (Some k) now
same_hear b t from wide h slots k now p = go (names t from h.to h.from) refl (fits_kind (t.circuit_at h.to).end h.master wide) refl
  where
    e : End
    e = (t.circuit_at h.to).end

    go : (n : Bool) → names t from h.to h.from ≡ n → (y : Bool) → fits_kind e h.master wide ≡ y → cond n (run_at b t h.to y now h.ask (run_frame (numbers_at e h None) slots)) (foreign t) ≡ cond n (run_at b t h.to y now h.ask (run_frame k slots)) (foreign t)
    go false i y j = refl
    go true i false j = refl
    go true i true j = ap (λ z. run_at b t h.to true now h.ask (run_frame z slots)) (p i j)

server_same : (config : ServerConfig) (st : Server) (from : ℕ) (v : Value) (k : Numbers) → SameIn st.core.circuits from k v → Server.hears_value config st from v None ≡ Server.hears_value config st from v (Some k)
server_same config st from (OfCircuit (RunMessage h slots)) k p = ap (λ z. record { state = (Server.heard_at config st z).state; answer = (Server.heard_at config st z).answer; frames = (Server.heard_at config st z).frames ++ told_stranger (Server.server_side config) config.prompt st.core from h }) (same_hear true st.core.circuits from false h slots k st.core.moment p)
server_same config st from (OfCircuit (WideMessage h slots)) k p = ap (λ z. record { state = (Server.heard_at config st z).state; answer = (Server.heard_at config st z).answer; frames = (Server.heard_at config st z).frames ++ told_stranger (Server.server_side config) config.prompt st.core from h }) (same_hear true st.core.circuits from true h slots k st.core.moment p)
server_same config st from (OfCircuit (StartMessage master ask to source info)) k p = refl
server_same config st from (OfCircuit (StopMessage master ask to source reason text)) k p = refl
server_same config st from (OfNotice n) k p = refl

pub server_bytes : (config : ServerConfig) (st : Server) (from : ℕ) (v : Value) (k : Numbers) (now : ℕ) → SameIn st.core.circuits from k v → server_step config st (Hears from (Whole v) None now) ≡ server_step config st (Hears from (Whole v) (Some k) now)
server_bytes config st from v k now p = ap (λ z. Server.passed config (cond (nat_eq from everyone) (Server.tells (record st { core = at_moment now st.core }) Ignored) z)) (server_same config (record st { core = at_moment now st.core }) from v k p)

node_same : (config : NodeConfig) (rates : List ℕ) (st : Node) (from : ℕ) (v : Value) (k : Numbers) → SameIn st.core.circuits from k v → Node.hears_value config rates st from v None ≡ Node.hears_value config rates st from v (Some k)
node_same config rates st from (OfCircuit (RunMessage h slots)) k p = ap (λ z. record { state = (Node.then_answers config (names st.core.circuits from h.to h.from) h.to (Node.heard_at config st z)).state; answer = (Node.then_answers config (names st.core.circuits from h.to h.from) h.to (Node.heard_at config st z)).answer; frames = (Node.then_answers config (names st.core.circuits from h.to h.from) h.to (Node.heard_at config st z)).frames ++ told_stranger (Node.node_side config) config.prompt st.core from h }) (same_hear false st.core.circuits from false h slots k st.core.moment p)
node_same config rates st from (OfCircuit (WideMessage h slots)) k p = ap (λ z. record { state = (Node.then_answers config (names st.core.circuits from h.to h.from) h.to (Node.heard_at config st z)).state; answer = (Node.then_answers config (names st.core.circuits from h.to h.from) h.to (Node.heard_at config st z)).answer; frames = (Node.then_answers config (names st.core.circuits from h.to h.from) h.to (Node.heard_at config st z)).frames ++ told_stranger (Node.node_side config) config.prompt st.core from h }) (same_hear false st.core.circuits from true h slots k st.core.moment p)
node_same config rates st from (OfCircuit (StartMessage master ask to source info)) k p = refl
node_same config rates st from (OfCircuit (StopMessage master ask to source reason text)) k p = refl
node_same config rates st from (OfNotice n) k p = refl

pub node_bytes : (config : NodeConfig) (rates : List ℕ) (st : Node) (from : ℕ) (v : Value) (k : Numbers) (now : ℕ) → SameIn st.core.circuits from k v → node_step config rates st (Hears from (Whole v) None now) ≡ node_step config rates st (Hears from (Whole v) (Some k) now)
node_bytes config rates st from v k now p = ap (λ z. cond (nat_eq from everyone) (Node.tells (record st { core = at_moment now st.core }) Ignored) z) (node_same config rates (record st { core = at_moment now st.core }) from v k p)

-- the numbers of a young frame

half_above : (wide : Bool) → 8 < half_range wide
half_above true = omega arith
half_above false = omega arith

kind_is : (z e : Bool) → cond z e (not e) ≡ true → e ≡ z
kind_is true e q = q
kind_is false true q = absurd (false≢true q)
kind_is false false q = refl

-- the circuit that a RUN names as its sender is its sender's
src_is : (w : World) (ok : WorldOk w) (j : ℕ) (b : Bool) (to circuit destination source : ℕ) (m : Mark) (ask : Bool) (f : Frame (List Slot)) → slice_get w.frames j ≡ Some (record { by_server = b; circuit = circuit; to = to; destination = destination; source = source; sent = Run m ask f }) → to ≡ (table w (not b)).own → source ≡ circuit
src_is w ok j b to circuit destination source m ask f q t = go b t (each_at (λ p. FromSender w p.by_server p.circuit p.to p.destination p.source p.sent) w.frames j (record { by_server = b; circuit = circuit; to = to; destination = destination; source = source; sent = Run m ask f }) ok.says q)
  where
    go : (b : Bool) → to ≡ (table w (not b)).own → FromSender w b circuit to destination source (Run m ask f) → source ≡ circuit
    go true t h = (h t).1.source
    go false t h = (h t).0.source

young_run : (w : World) (ok : WorldOk w) (j : ℕ) (b : Bool) (to circuit destination source : ℕ) (m : Mark) (ask : Bool) (f : Frame (List Slot)) (z : Bool) → slice_get w.frames j ≡ Some (record { by_server = b; circuit = circuit; to = to; destination = destination; source = source; sent = Run m ask f }) → to ≡ (table w (not b)).own → (names (table w (not b)) (table w b).own destination source ≡ true → Young (List Slot) (half_range ((table w (not b)).circuit_at destination).end.wide) (the_half w b circuit).link (record { number = f.number; acknowledgement = f.acknowledgement; body = None })) → SameRun (table w (not b)) (table w b).own (record { number = f.number; acknowledgement = f.acknowledgement }) z (run_head b z ask destination source f)
young_run w ok j b to circuit destination source m ask f z q t y i k =
    let e : End = ((table w (not b)).circuit_at destination).end in
    let g : (cond b (not e.master) e.master ≡ true) × (cond z e.wide (not e.wide) ≡ true) = and_parts (cond b (not e.master) e.master) (cond z e.wide (not e.wide)) k in
    let c : Comes w (record { by_server = b; circuit = circuit; to = to; destination = destination; source = source; sent = Run m ask f }) ask f = record { to = t; mark = m; run = refl; names = ap₂ (λ x v. x && v) i g.0 } in
    let old : Young (List Slot) (half_range e.wide) (the_half w b source).link (record { number = f.number; acknowledgement = f.acknowledgement; body = None }) = subst (λ x. Young (List Slot) (half_range e.wide) (the_half w b x).link (record { number = f.number; acknowledgement = f.acknowledgement; body = None })) (sym (src_is w ok j b to circuit destination source m ask f q t)) (y i) in
    let same : as_bytes (half_range e.wide) (the_half w (not b) destination).link f ≡ f = world_bytes w ok j (half_range e.wide) (record { by_server = b; circuit = circuit; to = to; destination = destination; source = source; sent = Run m ask f }) ask f q c (half_above e.wide) (record { message = old.message; acknowledgement = old.acknowledgement }) in
    let k' : Numbers = record { number = f.number; acknowledgement = f.acknowledgement } in
    subst (λ x. numbers_at e (run_head b x ask destination source f) None ≡ k') (kind_is z e.wide g.1) (ap (λ (x : Frame (List Slot)). let o : Numbers = record { number = x.number; acknowledgement = x.acknowledgement } in o) same)

-- a post of the machines

abbrev YoungHead : World → Bool → OutFrame → Option Head → Type 0
YoungHead w b f None = Unit {0}
YoungHead w b f (Some h) = names (table w (not b)) (table w b).own h.to h.from ≡ true → Young (List Slot) (half_range ((table w (not b)).circuit_at h.to).end.wide) ((table w b).circuit_at f.circuit).end.half.link (record { number = f.number; acknowledgement = f.acknowledgement; body = None })

abbrev YoungFrame : World → Bool → OutFrame → Type 0
YoungFrame w b f = YoungHead w b f (head_of f.value)

young_sent : (w : World) (ok : WorldOk w) (k : Side) (c : Core) (j : ℕ) (b : Bool) (circuit to destination source : ℕ) (s : Sent) → slice_get w.frames j ≡ Some (record { by_server = b; circuit = circuit; to = to; destination = destination; source = source; sent = s }) → to ≡ (table w (not b)).own → YoungFrame w b (sent_frame k c (record { by_server = b; circuit = circuit; to = to; destination = destination; source = source; sent = s })) → SameIn (table w (not b)) (table w b).own (record { number = (sent_frame k c (record { by_server = b; circuit = circuit; to = to; destination = destination; source = source; sent = s })).number; acknowledgement = (sent_frame k c (record { by_server = b; circuit = circuit; to = to; destination = destination; source = source; sent = s })).acknowledgement }) (sent_frame k c (record { by_server = b; circuit = circuit; to = to; destination = destination; source = source; sent = s })).value
young_sent w ok k c j b circuit to destination source (Run m ask f) q t y' = go (c.circuits.circuit_at circuit).end.wide y'
  where
    go : (z : Bool) → YoungFrame w b (record { to = to; circuit = circuit; mark = OfRun m; number = f.number; acknowledgement = f.acknowledgement; value = OfCircuit (cond z (WideMessage (run_head b z ask destination source f) (slots_in f)) (RunMessage (run_head b z ask destination source f) (slots_in f))) }) → SameIn (table w (not b)) (table w b).own (record { number = f.number; acknowledgement = f.acknowledgement }) (OfCircuit (cond z (WideMessage (run_head b z ask destination source f) (slots_in f)) (RunMessage (run_head b z ask destination source f) (slots_in f))))
    go true y = young_run w ok j b to circuit destination source m ask f true q t y
    go false y = young_run w ok j b to circuit destination source m ask f false q t y
young_sent w ok k c j b circuit to destination source CallStart q t y = tt
young_sent w ok k c j b circuit to destination source ReplyStart q t y = tt
young_sent w ok k c j b circuit to destination source (Stopped r) q t y = tt

-- a young frame of the machines is a young frame of the world of circuits
young_tied : (u : Setups) (m : Machines) (w : World) (b : Bool) (f : OutFrame) → Ties u m w → IsYoung u m (record { by_server = b; frame = f }) → YoungFrame w b f
young_tied u m w b f t y = go b (head_of f.value) y
  where
    go : (b : Bool) (o : Option Head) → YoungOf u m (record { by_server = b; frame = f }) o → YoungHead w b f o
    go b None y = tt
    go true (Some h) y = subst (λ (z : Table). names w.node z.own h.to h.from ≡ true → Young (List Slot) (half_range (w.node.circuit_at h.to).end.wide) (z.circuit_at f.circuit).end.half.link (record { number = f.number; acknowledgement = f.acknowledgement; body = None })) (sym t.server)
        (subst (λ (x : Table). names x m.server.core.circuits.own h.to h.from ≡ true → Young (List Slot) (half_range (x.circuit_at h.to).end.wide) (m.server.core.circuits.circuit_at f.circuit).end.half.link (record { number = f.number; acknowledgement = f.acknowledgement; body = None })) (sym t.node)
        (subst (λ x. names m.node.core.circuits x h.to h.from ≡ true → Young (List Slot) (half_range (m.node.core.circuits.circuit_at h.to).end.wide) (m.server.core.circuits.circuit_at f.circuit).end.half.link (record { number = f.number; acknowledgement = f.acknowledgement; body = None })) (sym (sym (ap (λ (z : Table). z.own) t.server) ∙ t.server_own)) y))
    go false (Some h) y = subst (λ (z : Table). names w.server z.own h.to h.from ≡ true → Young (List Slot) (half_range (w.server.circuit_at h.to).end.wide) (z.circuit_at f.circuit).end.half.link (record { number = f.number; acknowledgement = f.acknowledgement; body = None })) (sym t.node)
        (subst (λ (x : Table). names x m.node.core.circuits.own h.to h.from ≡ true → Young (List Slot) (half_range (x.circuit_at h.to).end.wide) (m.node.core.circuits.circuit_at f.circuit).end.half.link (record { number = f.number; acknowledgement = f.acknowledgement; body = None })) (sym t.server)
        (subst (λ x. names m.server.core.circuits x h.to h.from ≡ true → Young (List Slot) (half_range (m.server.core.circuits.circuit_at h.to).end.wide) (m.node.core.circuits.circuit_at f.circuit).end.half.link (record { number = f.number; acknowledgement = f.acknowledgement; body = None })) (sym (sym (ap (λ (z : Table). z.own) t.node) ∙ t.node_own)) y))

pub same_frame : (u : Setups) (m : Machines) (w : World) (p : Posted) (i : ℕ) → Beside u m w → WorldOk w → slice_get m.posts i ≡ Some p → is_for_other u p ≡ true → IsYoung u m p → SameIn (table w (not p.by_server)) (own_of u p.by_server) (record { number = p.frame.number; acknowledgement = p.frame.acknowledgement }) p.frame.value
same_frame u m w p i h ok q t y = ⊎_elim {C = SameIn (table w (not p.by_server)) (own_of u p.by_server) (record { number = p.frame.number; acknowledgement = p.frame.acknowledgement }) p.frame.value} (λ n. subst (SameIn (table w (not p.by_server)) (own_of u p.by_server) (record { number = p.frame.number; acknowledgement = p.frame.acknowledgement })) (sym n.1) tt) (λ f. found f.0 f.1 f.2 f.3) (shows_at m.posts w.frames i p h.ties.shows q)
  where
    found : (j : ℕ) (v : Wired) → slice_get w.frames j ≡ Some v → Shown p v → SameIn (table w (not p.by_server)) (own_of u p.by_server) (record { number = p.frame.number; acknowledgement = p.frame.acknowledgement }) p.frame.value
    found j v e s =
        let f : OutFrame = sent_frame s.side s.core v in
        let y' : YoungFrame w v.by_server f = subst (λ z. YoungFrame w v.by_server z) s.frame (subst (λ z. YoungFrame w z p.frame) s.by_server (young_tied u m w p.by_server p.frame h.ties y)) in
        let x : SameIn (table w (not v.by_server)) (own_of u v.by_server) (record { number = f.number; acknowledgement = f.acknowledgement }) f.value =
        subst (λ z. SameIn (table w (not v.by_server)) z (record { number = f.number; acknowledgement = f.acknowledgement }) f.value) (own_tied u m w v.by_server h.ties)
        (young_sent w ok s.side s.core j v.by_server v.circuit v.to v.destination v.source v.sent e (to_other u m w p v j h e s t) y') in
        subst (λ z. SameIn (table w (not z)) (own_of u z) (record { number = p.frame.number; acknowledgement = p.frame.acknowledgement }) p.frame.value) (sym s.by_server)
        (subst (λ z. SameIn (table w (not v.by_server)) (own_of u v.by_server) (record { number = z.number; acknowledgement = z.acknowledgement }) z.value) (sym s.frame) x)

pub heard_by_bytes : (u : Setups) (m : Machines) (w : World) → Beside u m w → WorldOk w → HeardByBytes u m
heard_by_bytes u m w h ok i now rates p q t y = go (not p.by_server) (same_frame u m w p i h ok q t y)
  where
    k : Numbers
    k = record { number = p.frame.number; acknowledgement = p.frame.acknowledgement }

    go : (b : Bool) → SameIn (table w b) (own_of u p.by_server) k p.frame.value → tell u m b (Hears (own_of u p.by_server) (Whole p.frame.value) None now) rates ≡ tell u m b (heard_as u p now) rates
    go true s = ap (server_did m) (server_bytes u.server m.server (own_of u p.by_server) p.frame.value k now (subst (λ z. SameIn z (own_of u p.by_server) k p.frame.value) h.ties.server s))
    go false s = ap (node_did m) (node_bytes u.node rates m.node (own_of u p.by_server) p.frame.value k now (subst (λ z. SameIn z (own_of u p.by_server) k p.frame.value) h.ties.node s))
