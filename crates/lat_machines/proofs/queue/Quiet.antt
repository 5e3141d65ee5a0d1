-- In every run no line of the server could grant a request.
use Rattle.std.proofs.Common.{◌≡◌, ℕ, suc, ◌<◌, refl, sym, ap, ◌∙◌, subst, Bool, true, false, not, cond, ◌&&◌, ◌||◌, List, [], ◌∷◌, Option, Some, None, slice_get, nat_eq, nat_lt}
use Rattle.std.proofs.lemmas.Bool.{or_parts}
use Rattle.lat_model.specs.ends.End.{Sent, Run, CallStart, ReplyStart, Stopped, End, Step, lives, call_end, finish, lapse}
use Rattle.lat_model.specs.ends.Timers.{note_empty, time_step}
use Rattle.lat_model.specs.ends.Run.{run_end}
use Rattle.lat_model.specs.ends.Starting.{Agreed, reply_end, make_slave, again_start, hear_reply, hear_stop}
use Rattle.lat_model.specs.circuits.World.{CircuitEntry, Table, Wired, World, table, with_table, put_circuit, at_end, first_end}
use Rattle.lat_model.specs.circuits.Arriving.{is_of, living, slave_of, make_in, arrive}
use Rattle.lat_model.specs.circuits.Events.{deliver_in, WorldEvent, Calls, Locally, Times, Moves, Delivers, Injects, occurs, go_on, Ends, Lapses, Stops}
use Rattle.lat_model.specs.circuits.WorldOk.{WorldOk}
use Rattle.lat_model.proofs.sessions.Words.{upd_all}
use Rattle.lat_model.proofs.circuits.Kin.{kin_time, kin_run, kin_stop}
use Rattle.lat_model.proofs.circuits.Begins.{kin_call}
use Rattle.lat_model.proofs.circuits.Arrives.{go_on_ok}
use Rattle.lat_model.proofs.circuits.Follows.{every_world}
use Rattle.lat_model.specs.circuits.Ids.{is_drawn, next_id}
use Rattle.lat_machines.specs.cores.Acts.{called}
use Rattle.lat_machines.specs.values.Events.{Event, Hears, is_heard}
use Rattle.lat_machines.specs.cores.Cores.{Core, setup_of}
use Rattle.lat_machines.specs.server.Server.{ServerStep, server_event, finished_requests, offer_on, grantable}
use Rattle.lat_machines.specs.world.Machines.{Setups, Posted, Machines, Move, Does, HearsFrame, HearsForeign, tell, is_for_other, heard_as, counted, marked_delivered, comes, is_own, happens, run, open_machines}
use Rattle.lat_machines.specs.world.Safe.{Fit, circuits_open, NoGrant}
use Rattle.lat_machines.proofs.events.Leads.{Quiet}
use Rattle.lat_machines.proofs.events.Servers.{BroughtBy, ServerMade, did_event}
use Rattle.lat_machines.proofs.events.Tied.{Beside, Anything, AnyDeed, any_own, Goes, happens_goes, open_beside, brought_local, brought_frame, foreign_in, marked_beside}
use Rattle.lat_machines.proofs.queue.Rooms.{Ready}
use Rattle.lat_machines.proofs.queue.Grants.{no_grant}

pub world_ok : (u : Setups) → Fit u → (es : List WorldEvent) → WorldOk (go_on es (circuits_open u))
world_ok u f es = every_world u.server.own u.node.own u.server.first u.node.first (setup_of u.server.timing) (setup_of u.node.timing) es f.apart f.server_ceiling f.node_ceiling

-- each circuit of the server is a master

abbrev pub Masters : World → Type 0
Masters w = (x : ℕ) → (w.server.circuit_at x).end.half.sessions.master ≡ true

masters_cond : (n : Bool) (v w : World) → Masters v → Masters w → Masters (cond n v w)
masters_cond true v w p q = p
masters_cond false v w p q = q

put_masters : (w : World) (b : Bool) (drawn x address : ℕ) (s : Step) → Masters w → (b ≡ true → s.end.half.sessions.master ≡ true) → Masters (put_circuit w b drawn x address s)
put_masters w true drawn x address s m h y = upd_all (λ (z : CircuitEntry). z.end.half.sessions.master ≡ true) w.server.circuit_at x (record { address = address; end = s.end }) (h refl) m y
put_masters w false drawn x address s m h y = m y

-- a step that leaves the side of its sessions
at_masters : (w : World) (b : Bool) (x : ℕ) (s : Step) → Masters w → s.end.half.sessions.master ≡ ((table w b).circuit_at x).end.half.sessions.master → Masters (at_end w b x s)
at_masters w true x s m h = put_masters w true w.server.drawn x (w.server.circuit_at x).address (note_empty (w.server.circuit_at x).end s) m (λ q. h ∙ m x)
at_masters w false x s m h = m

pub reply_master : (now source : ℕ) (g : Agreed) (e : End) → (hear_reply now source g e).end.half.sessions.master ≡ e.half.sessions.master
reply_master now source g e = go (lives e) e.running
  where
    again : Step
    again = record { end = record e { moment = now; heard_at = now }; sent = [] }

    first : Step
    first = record { end = reply_end now source g e; sent = [] }

    none : Step
    none = record { end = e; sent = [] }

    side : Step → Bool
    side s = s.end.half.sessions.master

    go : (a b : Bool) → side (cond a (cond b again first) none) ≡ e.half.sessions.master
    go true true = refl
    go true false = refl
    go false b = refl

arrive_masters : (w : World) (b : Bool) (from : ℕ) (bit : Bool) (destination source now : ℕ) (g : Agreed) (s : Sent) → Masters w → Masters (arrive w b from bit destination source now g s)
arrive_masters w b from bit destination source now g (Run k ask f) m =
    let c : CircuitEntry = (table w b).circuit_at destination in
    masters_cond (is_of c from source && lives c.end && c.end.running && (cond bit (not c.end.master) c.end.master)) (at_end w b destination (run_end now ask f c.end).step) w (at_masters w b destination (run_end now ask f c.end).step m (kin_run now ask f c.end).sessions) m
arrive_masters w true from bit destination source now g CallStart m = m
arrive_masters w false from bit destination source now g CallStart m =
    let k : ℕ = slave_of w.node from source in
    masters_cond (nat_eq k 0) (make_in w from source now g) (at_end w false k (again_start now (w.node.circuit_at k).end))
    (masters_cond (nat_lt (living w.node) 8 && nat_lt w.node.drawn 65535) (put_circuit w false (suc w.node.drawn) (next_id w.node) from (make_slave now source g (first_end false false w.other))) (with_table w false w.node (record { by_server = false; circuit = 0; to = from; destination = source; source = 0; sent = Stopped 7 } ∷ [])) m m)
    m
arrive_masters w true from bit destination source now g ReplyStart m =
    let c : CircuitEntry = w.server.circuit_at destination in
    masters_cond (nat_eq c.address from && lives c.end && (not c.end.running || nat_eq c.end.peer source)) (at_end w true destination (hear_reply now source g c.end)) w (at_masters w true destination (hear_reply now source g c.end) m (reply_master now source g c.end)) m
arrive_masters w false from bit destination source now g ReplyStart m = m
arrive_masters w b from bit destination source now g (Stopped r) m =
    let c : CircuitEntry = (table w b).circuit_at destination in
    masters_cond (nat_eq c.address from && (nat_eq c.end.peer source || nat_eq source 0) && lives c.end) (at_end w b destination (hear_stop now r c.end)) w (at_masters w b destination (hear_stop now r c.end) m (kin_stop now r c.end).sessions) m

deliver_masters : (w : World) (now : ℕ) (g : Agreed) (o : Option Wired) → Masters w → Masters (deliver_in w now g o)
deliver_masters w now g None m = m
deliver_masters w now g (Some p) m =
    masters_cond (nat_eq p.to (table w (not p.by_server)).own) (arrive w (not p.by_server) (table w p.by_server).own p.by_server p.destination p.source now g p.sent) w
    (arrive_masters w (not p.by_server) (table w p.by_server).own p.by_server p.destination p.source now g p.sent m) m

event_masters : (w : World) (e : WorldEvent) → Masters w → Masters (occurs w e)
event_masters w (Calls address now) m = put_masters w true (suc w.server.drawn) (next_id w.server) address (called w.setup now) m (λ q. refl)
event_masters w (Locally b x c) m =
    let e : End = ((table w b).circuit_at x).end in
    masters_cond (lives e) (at_end w b x (record { end = call_end c e; sent = [] })) w (at_masters w b x (record { end = call_end c e; sent = [] }) m (kin_call c e).sessions) m
event_masters w (Times b x now) m =
    let e : End = ((table w b).circuit_at x).end in
    masters_cond (lives e) (at_end w b x (time_step now e)) w (at_masters w b x (time_step now e) m (kin_time now e).sessions) m
event_masters w (Moves b x now) m =
    let e : End = ((table w b).circuit_at x).end in
    masters_cond (lives e) (at_end w b x (record { end = record e { moment = now }; sent = [] })) w (at_masters w b x (record { end = record e { moment = now }; sent = [] }) m refl) m
event_masters w (Ends b x r) m =
    let e : End = ((table w b).circuit_at x).end in
    masters_cond (lives e) (at_end w b x (finish r e)) w (at_masters w b x (finish r e) m refl) m
event_masters w (Lapses b x r) m =
    let e : End = ((table w b).circuit_at x).end in
    masters_cond (lives e) (at_end w b x (lapse r e)) w (at_masters w b x (lapse r e) m refl) m
event_masters w (Stops true to d s r) m = m
event_masters w (Stops false to d s r) m = m
event_masters w (Delivers i now g) m = deliver_masters w now g (slice_get w.frames i) m
event_masters w (Injects b from bit destination source now g s) m = masters_cond (nat_eq from w.server.own || nat_eq from w.node.own) w (arrive w b from bit destination source now g s) m (arrive_masters w b from bit destination source now g s m)

masters_on : (es : List WorldEvent) (w : World) → Masters w → Masters (go_on es w)
masters_on [] w m = m
masters_on (e ∷ es) w m = masters_on es (occurs w e) (event_masters w e m)

-- the circuits of a server in a world are as the pass wants them

ready_of : (w : World) (c : Core) → w.server ≡ c.circuits → WorldOk w → Masters w → Ready c
ready_of w c q ok m = record {
  masters = λ x. ap (λ (t : Table). (t.circuit_at x).end.half.sessions.master) (sym q) ∙ m x;
  new = λ k l. ap (λ (t : Table). lives (t.circuit_at k).end) (sym q) ∙ ap (λ (z : CircuitEntry). lives z.end) (ok.none_server k (subst (λ (t : Table). is_drawn t k ≡ false) (sym q) l));
}

pub record Going (u : Setups) (m : Machines) (w : World) : Type 0 where
  pub beside : Beside u m w
  pub ok : WorldOk w
  pub masters : Masters w
  pub quiet : NoGrant u.server m.server

quiet_step : (D : List ℕ → Type 0) (u : Setups) (m : Machines) (w : World) (b : Bool) (e : Event) (rates : List ℕ) → 0 < u.server.timing.sessions → Going u m w → BroughtBy AnyDeed D w b e → NoGrant u.server (tell u m b e rates).server
quiet_step D u m w false e rates pos g h = g.quiet
quiet_step D u m w true e rates pos g h =
    let x : ServerStep = server_event u.server m.server e in
    let d : ServerMade AnyDeed D w x.state x.frames = did_event u.server w m.server e (λ i. tt) g.beside.ties.server g.beside.ties.setup g.beside.fits h in
    let at : (go_on d.made.leads.events w).server ≡ x.state.core.circuits = ap (λ (z : World). z.server) d.made.leads.there in
    let r : Ready x.state.core = ready_of (go_on d.made.leads.events w) x.state.core at (go_on_ok d.made.leads.events w g.ok) (masters_on d.made.leads.events w g.masters) in
    no_grant u.server (finished_requests x.state) pos (record { masters = r.masters; new = r.new })

quiet_cond : (u : Setups) (n : Bool) (x y : Machines) → (n ≡ true → NoGrant u.server x.server) → (n ≡ false → NoGrant u.server y.server) → NoGrant u.server (cond n x y).server
quiet_cond u true x y p q = p refl
quiet_cond u false x y p q = q refl

quiet_happens : (u : Setups) (m : Machines) (w : World) (e : Move) → 0 < u.server.timing.sessions → Going u m w → NoGrant u.server (happens u m e).server
quiet_happens u m w (Does b e rates) pos g = quiet_cond u (is_heard e) m (tell u m b e rates) (λ i. g.quiet) (λ i. quiet_step Anything u m w b e rates pos g (brought_local AnyDeed Anything w b e tt (any_own e) i))
quiet_happens u m w (HearsForeign b from payload now rates) pos g =
    quiet_cond u (is_own u from) m (tell u m b (Hears from payload None now) rates) (λ i. g.quiet)
    (λ i. let o : (nat_eq from u.server.own ≡ false) × (nat_eq from u.node.own ≡ false) = or_parts (nat_eq from u.server.own) (nat_eq from u.node.own) i in
    quiet_step Quiet u m w b (Hears from payload None now) rates pos g (λ a. refl, λ n. foreign_in AnyDeed w b from payload n (subst (λ z. nat_eq from z ≡ false) (sym g.beside.ties.server_own) o.0) (subst (λ z. nat_eq from z ≡ false) (sym g.beside.ties.node_own) o.1)))
quiet_happens u m w (HearsFrame i now rates) pos g = go (slice_get m.posts i) refl
  where
    go : (o : Option Posted) → slice_get m.posts i ≡ o → NoGrant u.server (comes u m i now rates o).server
    go None q = g.quiet
    go (Some f) q =
        quiet_cond u (is_for_other u f) (tell u (marked_delivered i m) (not f.by_server) (heard_as u f now) rates) (counted (marked_delivered i m))
        (λ t. quiet_step Anything u (marked_delivered i m) w (not f.by_server) (heard_as u f now) rates pos (record { beside = marked_beside u m w i g.beside; ok = g.ok; masters = g.masters; quiet = g.quiet }) (λ a. tt, λ n. brought_frame u m w f i g.beside q t))
        (λ t. g.quiet)

quiet_on : (u : Setups) (es : List Move) (m : Machines) (w : World) → 0 < u.server.timing.sessions → Going u m w → NoGrant u.server (run u es m).server
quiet_on u [] m w pos g = g.quiet
quiet_on u (e ∷ es) m w pos g =
    let h : Goes u (happens u m e) w = happens_goes u m w e g.beside in
    quiet_on u es (happens u m e) (go_on h.events w) pos (record { beside = h.beside; ok = go_on_ok h.events w g.ok; masters = masters_on h.events w g.masters; quiet = quiet_happens u m w e pos g })

quiet_open : (u : Setups) → NoGrant u.server (open_machines u).server
quiet_open u line a b = go (offer_on line u.server.offers)
  where
    go : (o : Option (List ℕ)) → grantable (open_machines u).server line o ≡ None
    go None = refl
    go (Some s) = refl

pub run_quiet : (u : Setups) (es : List Move) → Fit u → NoGrant u.server (run u es (open_machines u)).server
run_quiet u es f = quiet_on u es (open_machines u) (circuits_open u) f.sessions (record { beside = open_beside u f; ok = world_ok u f []; masters = λ x. refl; quiet = quiet_open u })
