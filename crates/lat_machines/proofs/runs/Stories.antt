-- Two histories whose frames an honest carrier brought are a run of the two machines.
use Rattle.std.proofs.Common.{◌≡◌, ℕ, refl, sym, ap, ap₂, ◌∙◌, subst, Bool, true, false, not, cond, List, [], ◌∷◌, ◌++◌, Option, Some, None}
use Rattle.lat_model.specs.circuits.World.{World, table}
use Rattle.lat_model.specs.circuits.Events.{go_on}
use Rattle.lat_model.specs.circuits.WorldOk.{WorldOk}
use Rattle.lat_model.proofs.circuits.Arrives.{go_on_ok}
use Rattle.lat_machines.specs.values.Frames.{Value, Whole}
use Rattle.lat_machines.specs.values.Events.{Numbers, Event, Hears, Time, Connects, Puts, Sets, Takes, Attends, Closes, Requests, Withdraws, Announces, Avoids, Readies, Halts}
use Rattle.lat_machines.specs.server.Server.{Server, ServerStep, server_step}
use Rattle.lat_machines.specs.node.Node.{Node, NodeStep, node_step}
use Rattle.lat_machines.specs.world.Machines.{Setups, Posted, Machines, post_all, HearsFrame, own_of, tell, heard_as, counted, marked_delivered, comes, happens, run, open_machines}
use Rattle.lat_machines.specs.world.Histories.{server_run, node_run, RatedEvent, Passed, server_part, node_part, moment_of, foreign_or_own, move_by, move_of, moves_of, Brought, Unnamed, HonestBy, Honest, posts_by, server_next, node_next, posts_of, HistoriesAreAWorld}
use Rattle.lat_machines.specs.world.Safe.{circuits_open}
use Rattle.lat_machines.proofs.events.Leads.{append_nil, append_more}
use Rattle.lat_machines.proofs.events.Tied.{Beside, Goes, happens_goes, open_beside}
use Rattle.lat_machines.proofs.frames.Bytes.{SameIn, same_frame, server_bytes, node_bytes}
use Rattle.lat_machines.proofs.queue.Quiet.{world_ok}
use Rattle.lat_machines.proofs.runs.Safety.{every_safe}

-- one side took this event, and the other did nothing
abbrev StepBy : Setups → Machines → Bool → Event → List ℕ → Machines → Type 0
StepBy u m true e rates m' = (m'.server ≡ (server_step u.server m.server e).state) × (m'.node ≡ m.node) × (m'.posts ≡ m.posts ++ post_all true (server_step u.server m.server e).frames)
StepBy u m false e rates m' = (m'.server ≡ m.server) × (m'.node ≡ (node_step u.node rates m.node e).state) × (m'.posts ≡ m.posts ++ post_all false (node_step u.node rates m.node e).frames)

told : (u : Setups) (m : Machines) (b : Bool) (e : Event) (rates : List ℕ) → StepBy u m b e rates (tell u m b e rates)
told u m true e rates = (refl, refl, refl)
told u m false e rates = (refl, refl, refl)

-- marking a frame as delivered changes neither
told_marked : (u : Setups) (m : Machines) (i : ℕ) (b : Bool) (e : Event) (rates : List ℕ) → StepBy u m b e rates (tell u (marked_delivered i m) b e rates)
told_marked u m i true e rates = (refl, refl, refl)
told_marked u m i false e rates = (refl, refl, refl)

unnamed_step : (u : Setups) (m : Machines) (b : Bool) (e : Event) (rates : List ℕ) → Unnamed u e → StepBy u m b e rates (happens u m (foreign_or_own b e rates))
unnamed_step u m b (Hears from payload k now) rates h =
    subst (StepBy u m b (Hears from payload k now) rates) (sym (ap (λ z. cond z m (tell u m b (Hears from payload None now) rates)) h.1))
    (subst (λ z. StepBy u m b (Hears from payload z now) rates (tell u m b (Hears from payload None now) rates)) (sym h.0) (told u m b (Hears from payload None now) rates))
unnamed_step u m b (Time now) rates h = told u m b (Time now) rates
unnamed_step u m b (Connects line service) rates h = told u m b (Connects line service) rates
unnamed_step u m b (Puts line bytes) rates h = told u m b (Puts line bytes) rates
unnamed_step u m b (Sets line setting) rates h = told u m b (Sets line setting) rates
unnamed_step u m b (Takes line n) rates h = told u m b (Takes line n) rates
unnamed_step u m b (Attends line flag) rates h = told u m b (Attends line flag) rates
unnamed_step u m b (Closes line) rates h = told u m b (Closes line) rates
unnamed_step u m b (Requests to id service) rates h = told u m b (Requests to id service) rates
unnamed_step u m b (Withdraws id) rates h = told u m b (Withdraws id) rates
unnamed_step u m b Announces rates h = told u m b Announces rates
unnamed_step u m b (Avoids line) rates h = told u m b (Avoids line) rates
unnamed_step u m b (Readies line ready) rates h = told u m b (Readies line ready) rates
unnamed_step u m b Halts rates h = told u m b Halts rates

-- heard by its bytes as by its numbers
by_bytes : (u : Setups) (m : Machines) (w : World) (b : Bool) (from : ℕ) (v : Value) (k : Numbers) (now : ℕ) (rates : List ℕ) (m' : Machines) → Beside u m w → SameIn (table w b) from k v → StepBy u m b (Hears from (Whole v) (Some k) now) rates m' → StepBy u m b (Hears from (Whole v) None now) rates m'
by_bytes u m w true from v k now rates m' h s p =
    let e : server_step u.server m.server (Hears from (Whole v) (Some k) now) ≡ server_step u.server m.server (Hears from (Whole v) None now) = sym (server_bytes u.server m.server from v k now (subst (λ z. SameIn z from k v) h.ties.server s)) in
    (p.0 ∙ ap (λ (x : ServerStep). x.state) e, p.1, p.2 ∙ ap (λ (x : ServerStep). m.posts ++ post_all true x.frames) e)
by_bytes u m w false from v k now rates m' h s p =
    let e : node_step u.node rates m.node (Hears from (Whole v) (Some k) now) ≡ node_step u.node rates m.node (Hears from (Whole v) None now) = sym (node_bytes u.node rates m.node from v k now (subst (λ z. SameIn z from k v) h.ties.node s)) in
    (p.0, p.1 ∙ ap (λ (x : NodeStep). x.state) e, p.2 ∙ ap (λ (x : NodeStep). m.posts ++ post_all false x.frames) e)

named_step : (u : Setups) (m : Machines) (w : World) (b : Bool) (e : Event) (rates : List ℕ) (i : ℕ) → Beside u m w → WorldOk w → Brought u m b e i → StepBy u m b e rates (happens u m (HearsFrame i (moment_of e) rates))
named_step u m w b e rates i h ok p =
    let now : ℕ = p.payload.0 in
    let v : Value = p.post.frame.value in
    let k : Numbers = record { number = p.post.frame.number; acknowledgement = p.post.frame.acknowledgement } in
    let bs : Bool = p.post.by_server in
    let came : Machines = tell u (marked_delivered i m) (not bs) (heard_as u p.post now) rates in
    let does : happens u m (HearsFrame i now rates) ≡ came = ap (comes u m i now rates) p.found ∙ ap (λ z. cond z came (counted (marked_delivered i m))) p.addressed in
    let x : StepBy u m (not bs) (Hears (own_of u bs) (Whole v) None now) rates came = by_bytes u m w (not bs) (own_of u bs) v k now rates came h (same_frame u m w p.post i h ok p.found p.addressed p.young) (told_marked u m i (not bs) (heard_as u p.post now) rates) in
    let y : StepBy u m (not bs) (Hears (own_of u bs) (Whole v) None now) rates (happens u m (HearsFrame i now rates)) = subst (StepBy u m (not bs) (Hears (own_of u bs) (Whole v) None now) rates) (sym does) x in
    let z : StepBy u m (not (not b)) (Hears (own_of u (not b)) (Whole v) None now) rates (happens u m (HearsFrame i now rates)) = subst (λ q. StepBy u m (not q) (Hears (own_of u q) (Whole v) None now) rates (happens u m (HearsFrame i now rates))) p.by_other y in
    subst (λ q. StepBy u m b q rates (happens u m (HearsFrame i (moment_of q) rates))) (sym p.payload.1) (twice b (λ q. StepBy u m q (Hears (own_of u (not b)) (Whole v) None now) rates (happens u m (HearsFrame i now rates))) z)
  where
    twice : (b : Bool) (P : Bool → Type 0) → P (not (not b)) → P b
    twice true P p = p
    twice false P p = p

any_step : (u : Setups) (m : Machines) (w : World) (b : Bool) (e : Event) (rates : List ℕ) (o : Option ℕ) → Beside u m w → WorldOk w → HonestBy u m o b e → StepBy u m b e rates (happens u m (move_by o b e rates))
any_step u m w b e rates None h ok p = unnamed_step u m b e rates p
any_step u m w b e rates (Some i) h ok p = named_step u m w b e rates i h ok p

server_on : (u : Setups) (m : Machines) (b : Bool) (e : Event) (rates : List ℕ) (m' : Machines) (es : List Event) (st : Server) → StepBy u m b e rates m' → st ≡ server_run u.server es m'.server → st ≡ server_run u.server (cond b (e ∷ es) es) m.server
server_on u m true e rates m' es st p q = q ∙ ap (server_run u.server es) p.0
server_on u m false e rates m' es st p q = q ∙ ap (server_run u.server es) p.0

node_on : (u : Setups) (m : Machines) (b : Bool) (e : Event) (rates : List ℕ) (m' : Machines) (es : List RatedEvent) (st : Node) → StepBy u m b e rates m' → st ≡ node_run u.node es m'.node → st ≡ node_run u.node (cond b es (record { event = e; rates = rates } ∷ es)) m.node
node_on u m true e rates m' es st p q = q ∙ ap (node_run u.node es) p.1
node_on u m false e rates m' es st p q = q ∙ ap (node_run u.node es) p.1

posts_on : (u : Setups) (m : Machines) (b : Bool) (e : Event) (rates : List ℕ) (m' : Machines) (ps : List Passed) (out : List Posted) → StepBy u m b e rates m' → out ≡ m'.posts ++ posts_of u ps m'.server m'.node → out ≡ m.posts ++ (posts_by u b e rates m.server m.node ++ posts_of u ps (server_next u b e m.server) (node_next u b e rates m.node))
posts_on u m true e rates m' ps out p q = q ∙ (ap₂ (λ x y. x ++ posts_of u ps y m'.node) p.2 p.0 ∙ (ap (λ x. (m.posts ++ post_all true (server_step u.server m.server e).frames) ++ posts_of u ps (server_step u.server m.server e).state x) p.1 ∙ append_more m.posts (post_all true (server_step u.server m.server e).frames) (posts_of u ps (server_step u.server m.server e).state m.node)))
posts_on u m false e rates m' ps out p q = q ∙ (ap₂ (λ x y. x ++ posts_of u ps y m'.node) p.2 p.0 ∙ (ap (λ x. (m.posts ++ post_all false (node_step u.node rates m.node e).frames) ++ posts_of u ps m.server x) p.1 ∙ append_more m.posts (post_all false (node_step u.node rates m.node e).frames) (posts_of u ps m.server (node_step u.node rates m.node e).state)))

record Tale (u : Setups) (order : List Passed) (m : Machines) (n : Machines) : Type 0 where
  pub server : n.server ≡ server_run u.server (server_part order) m.server
  pub node : n.node ≡ node_run u.node (node_part order) m.node
  pub posts : n.posts ≡ m.posts ++ posts_of u order m.server m.node

story : (u : Setups) (order : List Passed) (m : Machines) (w : World) → Beside u m w → WorldOk w → Honest u order m → Tale u order m (run u (moves_of order) m)
story u [] m w h ok p = record { server = refl; node = refl; posts = sym (append_nil m.posts) }
story u (x ∷ xs) m w h ok p =
    let m' : Machines = happens u m (move_of x) in
    let g : Goes u m' w = happens_goes u m w (move_of x) h in
    let s : StepBy u m x.server x.event x.rates m' = any_step u m w x.server x.event x.rates x.named h ok p.0 in
    let r : Tale u xs m' (run u (moves_of xs) m') = story u xs m' (go_on g.events w) g.beside (go_on_ok g.events w ok) p.1 in
    record {
      server = server_on u m x.server x.event x.rates m' (server_part xs) (run u (moves_of xs) m').server s r.server;
      node = node_on u m x.server x.event x.rates m' (node_part xs) (run u (moves_of xs) m').node s r.node;
      posts = posts_on u m x.server x.event x.rates m' xs (run u (moves_of xs) m').posts s r.posts;
    }

pub stories : HistoriesAreAWorld
stories u order f p =
    let r : Tale u order (open_machines u) (run u (moves_of order) (open_machines u)) = story u order (open_machines u) (circuits_open u) (open_beside u f) (world_ok u f []) p in
    record { server = r.server; node = r.node; posts = r.posts; safe = every_safe u (moves_of order) f }
