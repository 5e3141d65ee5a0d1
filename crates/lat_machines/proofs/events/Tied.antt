-- Each event of the two machines is a list of events of the world of circuits.
use Rattle.std.proofs.Common.{◌≡◌, ◌≢◌, ℕ, zero, suc, ◌⊎◌, inl, inr, ⊎_elim, refl, sym, ap, ap₂, ◌∙◌, subst, Bool, true, false, not, cond, ◌&&◌, ◌||◌, List, [], ◌∷◌, ◌++◌, Option, Some, None, slice_get, nat_eq, nat_lt, eqb-true}
use Rattle.std.proofs.lemmas.Bool.{eqb-false, or_parts, true≢false, false≢true}
use Rattle.lat_model.specs.sessions.Slots.{Slot}
use Rattle.lat_model.specs.Lists.{is_empty, Each}
use Rattle.lat_model.specs.numbers.Link.{Frame}
use Rattle.lat_model.specs.ends.End.{Mark, Bare, Sent, Run, CallStart, ReplyStart, Stopped, End, Step, lives, call_end, finish, lapse}
use Rattle.lat_model.specs.ends.Timers.{note_empty, time_step}
use Rattle.lat_model.specs.ends.Run.{run_end}
use Rattle.lat_model.specs.ends.Starting.{Agreed, make_slave, again_start, hear_reply, hear_stop}
use Rattle.lat_model.specs.circuits.World.{CircuitEntry, Table, Wired, World, table, with_table, put_circuit, at_end, wire_all, first_end}
use Rattle.lat_model.specs.circuits.Arriving.{is_of, living, slave_of, make_in, arrive}
use Rattle.lat_model.specs.circuits.Events.{deliver_in, WorldEvent, Calls, Locally, Times, Moves, Delivers, Injects, occurs, go_on, open_world, Ends, Lapses, Stops, stray_stop}
use Rattle.lat_model.proofs.sessions.Words.{upd_all}
use Rattle.lat_model.proofs.numbers.Net.{each_at}
use Rattle.lat_model.specs.circuits.Ids.{next_id}
use Rattle.lat_machines.specs.values.Addresses.{everyone}
use Rattle.lat_machines.specs.values.Messages.{RunMessage, WideMessage, StartMessage, StopMessage}
use Rattle.lat_machines.specs.values.Notices.{Notice}
use Rattle.lat_machines.specs.values.Frames.{Value, OfCircuit, OfNotice, Reading, Whole, Malformed, OutFrame}
use Rattle.lat_machines.specs.values.Runs.{slots_in, run_head}
use Rattle.lat_machines.specs.values.Events.{Numbers, Event, Hears, Time, Connects, Puts, Sets, Takes, Attends, Closes, Requests, Withdraws, Announces, Avoids, Readies, Halts, is_heard}
use Rattle.lat_machines.specs.cores.Acts.{called}
use Rattle.lat_machines.specs.cores.Hearing.{names, numbers_at, run_frame}
use Rattle.lat_machines.specs.cores.Cores.{Side, Core, sent_frame, setup_of}
use Rattle.lat_machines.specs.server.Server.{Offer, server_step}
use Rattle.lat_machines.specs.node.Node.{node_step}
use Rattle.lat_machines.specs.world.Machines.{Setups, Posted, Machines, Move, Does, HearsFrame, HearsForeign, own_of, post_all, tell, is_for_other, heard_as, counted, marked_delivered, comes, is_own, happens, run, open_machines}
use Rattle.lat_machines.specs.world.Safe.{Fit}
use Rattle.lat_machines.specs.world.Ties.{Shown, IsNotice, Shows, Apart, Ties}
use Rattle.lat_machines.proofs.events.Leads.{Deed, Naming, Breaking, EventFits, Quiet, all_given, Leads, Brings, Like, each_more, go_on_more}
use Rattle.lat_machines.proofs.events.Mades.{Made, shows_more}
use Rattle.lat_machines.proofs.events.Servers.{OffersFit, BroughtRun, BroughtIn, BroughtBy, ServerFits, did_step, ServerMade}
use Rattle.lat_machines.proofs.events.Nodes.{MayBreak, node_did_step}

-- nobody is called everyone

apart_cond : (n : Bool) (v w : World) → Apart v → Apart w → Apart (cond n v w)
apart_cond true v w p q = p
apart_cond false v w p q = q

wire_to : (b : Bool) (x to destination : ℕ) (ss : List Sent) → to ≢ everyone → Each (λ (v : Wired). v.to ≢ everyone) (wire_all b x to destination ss)
wire_to b x to destination [] n = tt
wire_to b x to destination (s ∷ ss) n = (n, wire_to b x to destination ss n)

put_apart : (w : World) (b : Bool) (drawn x address : ℕ) (s : Step) → Apart w → address ≢ everyone → Apart (put_circuit w b drawn x address s)
put_apart w true drawn x address s a n = record {
  server_own = a.server_own;
  node_own = a.node_own;
  server = λ y. upd_all (λ (z : CircuitEntry). z.address ≢ everyone) w.server.circuit_at x (record { address = address; end = s.end }) n a.server y;
  node = a.node;
  frames = each_more (λ (v : Wired). v.to ≢ everyone) w.frames (wire_all true x address s.end.peer s.sent) a.frames (wire_to true x address s.end.peer s.sent n);
}
put_apart w false drawn x address s a n = record {
  server_own = a.server_own;
  node_own = a.node_own;
  server = a.server;
  node = λ y. upd_all (λ (z : CircuitEntry). z.address ≢ everyone) w.node.circuit_at x (record { address = address; end = s.end }) n a.node y;
  frames = each_more (λ (v : Wired). v.to ≢ everyone) w.frames (wire_all false x address s.end.peer s.sent) a.frames (wire_to false x address s.end.peer s.sent n);
}

at_apart : (w : World) (b : Bool) (x : ℕ) (s : Step) → Apart w → Apart (at_end w b x s)
at_apart w true x s a = put_apart w true w.server.drawn x (w.server.circuit_at x).address (note_empty (w.server.circuit_at x).end s) a (a.server x)
at_apart w false x s a = put_apart w false w.node.drawn x (w.node.circuit_at x).address (note_empty (w.node.circuit_at x).end s) a (a.node x)

refuse_apart : (w : World) (from source : ℕ) → Apart w → from ≢ everyone → Apart (with_table w false w.node (record { by_server = false; circuit = 0; to = from; destination = source; source = 0; sent = Stopped 7 } ∷ []))
refuse_apart w from source a n = record { server_own = a.server_own; node_own = a.node_own; server = a.server; node = a.node; frames = each_more (λ (v : Wired). v.to ≢ everyone) w.frames (record { by_server = false; circuit = 0; to = from; destination = source; source = 0; sent = Stopped 7 } ∷ []) a.frames (n, tt) }

stray_apart : (w : World) (b : Bool) (to d s r : ℕ) → Apart w → to ≢ everyone → Apart (record w { frames = w.frames ++ stray_stop b to d s r ∷ [] })
stray_apart w b to d s r a n = record { server_own = a.server_own; node_own = a.node_own; server = a.server; node = a.node; frames = each_more (λ (v : Wired). v.to ≢ everyone) w.frames (stray_stop b to d s r ∷ []) a.frames (n, tt) }

arrive_apart : (w : World) (b : Bool) (from : ℕ) (bit : Bool) (destination source now : ℕ) (g : Agreed) (s : Sent) → Apart w → from ≢ everyone → Apart (arrive w b from bit destination source now g s)
arrive_apart w b from bit destination source now g (Run k ask f) a n =
    let c : CircuitEntry = (table w b).circuit_at destination in
    apart_cond (is_of c from source && lives c.end && c.end.running && (cond bit (not c.end.master) c.end.master)) (at_end w b destination (run_end now ask f c.end).step) w (at_apart w b destination (run_end now ask f c.end).step a) a
arrive_apart w true from bit destination source now g CallStart a n = a
arrive_apart w false from bit destination source now g CallStart a n =
    let k : ℕ = slave_of w.node from source in
    apart_cond (nat_eq k 0) (make_in w from source now g) (at_end w false k (again_start now (w.node.circuit_at k).end))
    (apart_cond (nat_lt (living w.node) 8 && nat_lt w.node.drawn 65535) (put_circuit w false (suc w.node.drawn) (next_id w.node) from (make_slave now source g (first_end false false w.other))) (with_table w false w.node (record { by_server = false; circuit = 0; to = from; destination = source; source = 0; sent = Stopped 7 } ∷ []))
    (put_apart w false (suc w.node.drawn) (next_id w.node) from (make_slave now source g (first_end false false w.other)) a n)
    (refuse_apart w from source a n))
    (at_apart w false k (again_start now (w.node.circuit_at k).end) a)
arrive_apart w true from bit destination source now g ReplyStart a n =
    let c : CircuitEntry = w.server.circuit_at destination in
    apart_cond (nat_eq c.address from && lives c.end && (not c.end.running || nat_eq c.end.peer source)) (at_end w true destination (hear_reply now source g c.end)) w (at_apart w true destination (hear_reply now source g c.end) a) a
arrive_apart w false from bit destination source now g ReplyStart a n = a
arrive_apart w b from bit destination source now g (Stopped r) a n =
    let c : CircuitEntry = (table w b).circuit_at destination in
    apart_cond (nat_eq c.address from && (nat_eq c.end.peer source || nat_eq source 0) && lives c.end) (at_end w b destination (hear_stop now r c.end)) w (at_apart w b destination (hear_stop now r c.end) a) a

own_apart : (w : World) (b : Bool) → Apart w → (table w b).own ≢ everyone
own_apart w true a = a.server_own
own_apart w false a = a.node_own

deliver_apart : (w : World) (now : ℕ) (g : Agreed) (o : Option Wired) → Apart w → Apart (deliver_in w now g o)
deliver_apart w now g None a = a
deliver_apart w now g (Some p) a =
    apart_cond (nat_eq p.to (table w (not p.by_server)).own) (arrive w (not p.by_server) (table w p.by_server).own p.by_server p.destination p.source now g p.sent) w
    (arrive_apart w (not p.by_server) (table w p.by_server).own p.by_server p.destination p.source now g p.sent a (own_apart w p.by_server a)) a

event_apart : (L : Deed → Type 0) (w : World) (e : WorldEvent) → Apart w → EventFits L e → Apart (occurs w e)
event_apart L w (Calls address now) a n = put_apart w true (suc w.server.drawn) (next_id w.server) address (called w.setup now) a n
event_apart L w (Locally b x c) a n =
    let e : End = ((table w b).circuit_at x).end in
    apart_cond (lives e) (at_end w b x (record { end = call_end c e; sent = [] })) w (at_apart w b x (record { end = call_end c e; sent = [] }) a) a
event_apart L w (Times b x now) a n =
    let e : End = ((table w b).circuit_at x).end in
    apart_cond (lives e) (at_end w b x (time_step now e)) w (at_apart w b x (time_step now e) a) a
event_apart L w (Moves b x now) a n =
    let e : End = ((table w b).circuit_at x).end in
    apart_cond (lives e) (at_end w b x (record { end = record e { moment = now }; sent = [] })) w (at_apart w b x (record { end = record e { moment = now }; sent = [] }) a) a
event_apart L w (Ends b x r) a n =
    let e : End = ((table w b).circuit_at x).end in
    apart_cond (lives e) (at_end w b x (finish r e)) w (at_apart w b x (finish r e) a) a
event_apart L w (Lapses b x r) a n =
    let e : End = ((table w b).circuit_at x).end in
    apart_cond (lives e) (at_end w b x (lapse r e)) w (at_apart w b x (lapse r e) a) a
event_apart L w (Stops true to d s r) a n = stray_apart w true to d s r a n.0
event_apart L w (Stops false to d s r) a n = stray_apart w false to d s r a n.0
event_apart L w (Delivers i now g) a n = deliver_apart w now g (slice_get w.frames i) a
event_apart L w (Injects b from bit destination source now g s) a n = apart_cond (nat_eq from w.server.own || nat_eq from w.node.own) w (arrive w b from bit destination source now g s) a (arrive_apart w b from bit destination source now g s a n)

events_apart : (L : Deed → Type 0) (es : List WorldEvent) (w : World) → Apart w → Each (EventFits L) es → Apart (go_on es w)
events_apart L [] w a f = a
events_apart L (e ∷ es) w a f = events_apart L es (occurs w e) (event_apart L w e a f.0) f.1

-- what comes

pub same_body : (now : ℕ) (ask : Bool) (n a : ℕ) (o : Option (List Slot)) (e : End) → run_end now ask (record { number = n; acknowledgement = a; body = o }) e ≡ run_end now ask (record { number = n; acknowledgement = a; body = cond (is_empty (slots_in (record { number = n; acknowledgement = a; body = o }))) None (Some (slots_in (record { number = n; acknowledgement = a; body = o }))) }) e
same_body now ask n a None e = refl
same_body now ask n a (Some []) e = refl
same_body now ask n a (Some (x ∷ xs)) e = refl

brought_run : {L : Deed → Type 0} {D : List ℕ → Type 0} (w : World) (b : Bool) (from : ℕ) (bs : Bool) (destination source : ℕ) (m : Mark) (ask : Bool) (f : Frame (List Slot)) → Brings L D w b from bs destination source (Run m ask f) → (z y : Bool) → (D [] ⊎ (names (table w b) from destination source ≡ true → cond z ((table w b).circuit_at destination).end.wide (not ((table w b).circuit_at destination).end.wide) ≡ true)) → BroughtRun L D w b from (Some (record { number = f.number; acknowledgement = f.acknowledgement })) z (run_head bs y ask destination source f) (slots_in f)
brought_run w b from bs destination source m ask f p z y o = record { spans = o; mark = m; frame = f; brings = record { event = p.event; fits = p.fits; gives = p.gives; arrives = p.arrives }; same = λ now. same_body now ask f.number f.acknowledgement f.body ((table w b).circuit_at destination).end }

-- a RUN is of the kind that the circuit has which it names
abbrev pub SpanFits : Table → ℕ → Value → Type 0
SpanFits t from (OfCircuit (RunMessage h slots)) = names t from h.to h.from ≡ true → not (t.circuit_at h.to).end.wide ≡ true
SpanFits t from (OfCircuit (WideMessage h slots)) = names t from h.to h.from ≡ true → (t.circuit_at h.to).end.wide ≡ true
SpanFits t from (OfCircuit (StartMessage master ask to source info)) = Unit {0}
SpanFits t from (OfCircuit (StopMessage master ask to source reason text)) = Unit {0}
SpanFits t from (OfNotice n) = Unit {0}

brought_sent : {L : Deed → Type 0} {D : List ℕ → Type 0} (w : World) (b : Bool) (from : ℕ) (k : Side) (c : Core) (bs : Bool) (circuit to destination source : ℕ) (s : Sent) → Brings L D w b from bs destination source s → (D [] ⊎ SpanFits (table w b) from (sent_frame k c (record { by_server = bs; circuit = circuit; to = to; destination = destination; source = source; sent = s })).value) → BroughtIn L D w b from (Some (record { number = (sent_frame k c (record { by_server = bs; circuit = circuit; to = to; destination = destination; source = source; sent = s })).number; acknowledgement = (sent_frame k c (record { by_server = bs; circuit = circuit; to = to; destination = destination; source = source; sent = s })).acknowledgement })) (Whole (sent_frame k c (record { by_server = bs; circuit = circuit; to = to; destination = destination; source = source; sent = s })).value)
brought_sent {L} {D} w b from k c bs circuit to destination source (Run m ask f) p o = go (c.circuits.circuit_at circuit).end.wide (c.circuits.circuit_at circuit).end.wide o
  where
    go : (z y : Bool) → (D [] ⊎ SpanFits (table w b) from (OfCircuit (cond z (WideMessage (run_head bs y ask destination source f) (slots_in f)) (RunMessage (run_head bs y ask destination source f) (slots_in f))))) → BroughtIn L D w b from (Some (record { number = f.number; acknowledgement = f.acknowledgement })) (Whole (OfCircuit (cond z (WideMessage (run_head bs y ask destination source f) (slots_in f)) (RunMessage (run_head bs y ask destination source f) (slots_in f)))))
    go true y o = brought_run w b from bs destination source m ask f p true y o
    go false y o = brought_run w b from bs destination source m ask f p false y o
brought_sent {L} {D} w b from k c bs circuit to destination source CallStart p o = record { event = p.event; gives = p.gives; fits = p.fits; arrives = p.arrives }
brought_sent {L} {D} w b from k c bs circuit to destination source ReplyStart p o = record { event = p.event; gives = p.gives; fits = p.fits; arrives = p.arrives }
brought_sent {L} {D} w b from k c bs circuit to destination source (Stopped r) p o = p

pub sent_to : (k : Side) (c : Core) (bs : Bool) (circuit to destination source : ℕ) (s : Sent) → (sent_frame k c (record { by_server = bs; circuit = circuit; to = to; destination = destination; source = source; sent = s })).to ≡ to
sent_to k c bs circuit to destination source (Run m ask f) = refl
sent_to k c bs circuit to destination source CallStart = refl
sent_to k c bs circuit to destination source ReplyStart = refl
sent_to k c bs circuit to destination source (Stopped r) = refl

-- a frame of the world comes
delivers : {L : Deed → Type 0} {D : List ℕ → Type 0} (w : World) (i : ℕ) (v : Wired) → D (i ∷ []) → slice_get w.frames i ≡ Some v → v.to ≡ (table w (not v.by_server)).own → Brings L D w (not v.by_server) (table w v.by_server).own v.by_server v.destination v.source v.sent
delivers w i v d q t = record {
  event = λ now g. Delivers i now g;
  fits = λ now g. tt;
  gives = λ now g. d;
  arrives = λ u l now g.
      ap (deliver_in u now g) (ap (λ fs. slice_get fs i) l.frames ∙ q)
      ∙ (go (nat_eq v.to (table u (not v.by_server)).own) u (arrive u (not v.by_server) (table u v.by_server).own v.by_server v.destination v.source now g v.sent) (t ∙ sym (owns u l (not v.by_server))) refl
      ∙ ap (λ z. arrive u (not v.by_server) z v.by_server v.destination v.source now g v.sent) (owns u l v.by_server));
}
  where
    owns : (u : World) → Like w u → (b : Bool) → (table u b).own ≡ (table w b).own
    owns u l true = l.server
    owns u l false = l.node

    go : (n : Bool) (u z : World) → v.to ≡ (table u (not v.by_server)).own → nat_eq v.to (table u (not v.by_server)).own ≡ n → cond n z u ≡ z
    go true u z t i = refl
    go false u z t i = absurd (eqb-false v.to (table u (not v.by_server)).own i t)

-- and one of a foreign address
injects : {L : Deed → Type 0} (w : World) (b : Bool) (from : ℕ) (bit : Bool) (destination source : ℕ) (s : Sent) → from ≢ everyone → nat_eq from w.server.own ≡ false → nat_eq from w.node.own ≡ false → Brings L Quiet w b from bit destination source s
injects w b from bit destination source s n p q = record {
  event = λ now g. Injects b from bit destination source now g s;
  fits = λ now g. n;
  gives = λ now g. refl;
  arrives = λ u l now g. ap₂ (λ y z. cond (y || z) u (arrive u b from bit destination source now g s)) (ap (nat_eq from) l.server ∙ p) (ap (nat_eq from) l.node ∙ q);
}

pub foreign_in : (L : Deed → Type 0) (w : World) (b : Bool) (from : ℕ) (r : Reading) → from ≢ everyone → nat_eq from w.server.own ≡ false → nat_eq from w.node.own ≡ false → BroughtIn L Quiet w b from None r
foreign_in L w b from (Malformed field at) n p q = refl
foreign_in L w b from (Whole (OfNotice m)) n p q = refl
foreign_in L w b from (Whole (OfCircuit (RunMessage h slots))) n p q = record { spans = inl refl; mark = Bare; frame = run_frame (numbers_at ((table w b).circuit_at h.to).end h None) slots; brings = injects w b from h.master h.to h.from _ n p q; same = λ now. refl }
foreign_in L w b from (Whole (OfCircuit (WideMessage h slots))) n p q = record { spans = inl refl; mark = Bare; frame = run_frame (numbers_at ((table w b).circuit_at h.to).end h None) slots; brings = injects w b from h.master h.to h.from _ n p q; same = λ now. refl }
foreign_in L w b from (Whole (OfCircuit (StartMessage master ask to source info))) n p q = injects w b from master to source _ n p q
foreign_in L w b from (Whole (OfCircuit (StopMessage master ask to source reason text))) n p q = injects w b from master to source _ n p q

-- the frames of the machines, and those of the world

abbrev pub Found : List Wired → Posted → Type 0
Found ws p = (j : ℕ) × (v : Wired) × (slice_get ws j ≡ Some v) × Shown p v

pub shows_at : (ps : List Posted) (ws : List Wired) (i : ℕ) (p : Posted) → Shows ps ws → slice_get ps i ≡ Some p → IsNotice p ⊎ Found ws p
shows_at [] ws i p s q = let z : ⊥ = cc in absurd z
shows_at (x ∷ ps) ws zero p s q =
    let e : x ≡ p = cc in
    ⊎_elim {C = IsNotice p ⊎ Found ws p} (λ n. inl (subst IsNotice e n.0)) (λ n. inr (0, n.0, ap (λ z. slice_get z 0) n.2, subst (λ z. Shown z n.0) e n.3)) s
shows_at (x ∷ ps) ws (suc i) p s q =
    ⊎_elim {C = IsNotice p ⊎ Found ws p} (λ n. shows_at ps ws i p n.1 q)
    (λ n. ⊎_elim {C = IsNotice p ⊎ Found ws p} (λ m. inl m) (λ m. inr (suc m.0, m.1, ap (λ z. slice_get z (suc m.0)) n.2 ∙ m.2, m.3)) (shows_at ps n.1 i p n.4 q)) s

-- The run of the world of circuits beside that of the machines

pub record Beside (u : Setups) (m : Machines) (w : World) : Type 0 where
  pub ties : Ties u m w
  pub apart : Apart w
  pub fits : ServerFits m.server

pub record Goes (u : Setups) (m : Machines) (w : World) : Type 0 where
  pub events : List WorldEvent
  pub beside : Beside u m (go_on events w)

-- The same, where what they do is as L says, and what they deliver as D says
pub record GoesBy (L : Deed → Type 0) (D : List ℕ → Type 0) (u : Setups) (m : Machines) (w : World) : Type 0 where
  pub events : List WorldEvent
  pub fits : Each (EventFits L) events
  pub gives : D (all_given events)
  pub beside : Beside u m (go_on events w)

abbrev pub Anything : List ℕ → Type 0
Anything is = Unit {0}

abbrev pub AnyDeed : Deed → Type 0
AnyDeed d = Unit {0}

any_offer : (os : List Offer) → OffersFit AnyDeed os
any_offer [] = tt
any_offer (o ∷ os) = (tt, any_offer os)

pub goes_none : (u : Setups) (m : Machines) (w : World) → Beside u m w → Goes u m w
goes_none u m w p = record { events = []; beside = p }

goes_any : {L : Deed → Type 0} {D : List ℕ → Type 0} (u : Setups) (m : Machines) (w : World) → GoesBy L D u m w → Goes u m w
goes_any u m w g = record { events = g.events; beside = g.beside }

goes_to : {L : Deed → Type 0} {D : List ℕ → Type 0} (u : Setups) (m : Machines) (w : World) (b : Bool) (t : Table) (ws : List Wired) → Leads L D w b t ws → Ties u m (with_table w b t ws) → Apart w → ServerFits m.server → GoesBy L D u m w
goes_to {L} u m w b t ws l q a f = record { events = l.events; fits = l.fits; gives = l.gives; beside = record { ties = subst (Ties u m) (sym l.there) q; apart = events_apart L l.events w a l.fits; fits = f } }

-- whether anything is broken off: at a prompt end, or a halted node
pub record BreaksFit (L : Deed → Type 0) (D : List ℕ → Type 0) (u : Setups) (m : Machines) : Type 0 where
  pub server : u.server.prompt ≡ true → L Breaking
  pub node : MayBreak L D u.node m.node

any_break : (u : Setups) (m : Machines) → BreaksFit AnyDeed Anything u m
any_break u m = record { server = λ i. tt; node = record { prompt = λ i. tt; halted = λ i. (tt, tt) } }

pub tell_goes : {L : Deed → Type 0} {D : List ℕ → Type 0} (u : Setups) (m : Machines) (w : World) (b : Bool) (e : Event) (rates : List ℕ) → OffersFit L u.server.offers → Beside u m w → BreaksFit L D u m → BroughtBy L D w b e → GoesBy L D u (tell u m b e rates) w
tell_goes {L} {D} u m w true e rates o p n h =
    let d : ServerMade L D w (server_step u.server m.server e).state (server_step u.server m.server e).frames = did_step u.server w m.server e n.server o p.ties.server p.ties.setup p.fits h in
    goes_to u (tell u m true e rates) w true (server_step u.server m.server e).state.core.circuits d.made.wired d.made.leads
    (record { server = refl; node = p.ties.node; shows = shows_more m.posts (post_all true (server_step u.server m.server e).frames) w.frames d.made.wired p.ties.shows d.made.shown; setup = p.ties.setup; other = p.ties.other; server_own = d.made.leads.own ∙ p.ties.server_own; node_own = p.ties.node_own })
    p.apart d.fits
tell_goes {L} {D} u m w false e rates o p n h =
    let d : Made L D w false (node_step u.node rates m.node e).state.core (node_step u.node rates m.node e).frames = node_did_step u.node rates w m.node e n.node p.ties.node p.ties.other h in
    goes_to u (tell u m false e rates) w false (node_step u.node rates m.node e).state.core.circuits d.wired d.leads
    (record { server = p.ties.server; node = refl; shows = shows_more m.posts (post_all false (node_step u.node rates m.node e).frames) w.frames d.wired p.ties.shows d.shown; setup = p.ties.setup; other = p.ties.other; server_own = p.ties.server_own; node_own = d.leads.own ∙ p.ties.node_own })
    p.apart p.fits

goes_cond : (u : Setups) (n : Bool) (x y : Machines) (w : World) → (n ≡ true → Goes u x w) → (n ≡ false → Goes u y w) → Goes u (cond n x y) w
goes_cond u true x y w p q = p refl
goes_cond u false x y w p q = q refl

abbrev pub OwnFits : (Deed → Type 0) → Event → Type 0
OwnFits L (Connects line service) = L (Naming service)
OwnFits L Halts = L Breaking
OwnFits L _ = Unit {0}

pub any_own : (e : Event) → OwnFits AnyDeed e
any_own (Hears from payload k now) = tt
any_own (Time now) = tt
any_own (Connects line service) = tt
any_own (Puts line bytes) = tt
any_own (Sets line setting) = tt
any_own (Takes line n) = tt
any_own (Attends line flag) = tt
any_own (Closes line) = tt
any_own (Requests to id service) = tt
any_own (Withdraws id) = tt
any_own Announces = tt
any_own (Avoids line) = tt
any_own (Readies line ready) = tt
any_own Halts = tt

pub brought_local : (L : Deed → Type 0) (D : List ℕ → Type 0) (w : World) (b : Bool) (e : Event) → D [] → OwnFits L e → is_heard e ≡ false → BroughtBy L D w b e
brought_local L D w b (Hears from payload k now) d l q = absurd (true≢false q)
brought_local L D w b (Time now) d l q = d
brought_local L D w b (Connects line service) d l q = (d, l)
brought_local L D w b (Puts line bytes) d l q = d
brought_local L D w b (Sets line setting) d l q = d
brought_local L D w b (Takes line n) d l q = d
brought_local L D w b (Attends line flag) d l q = d
brought_local L D w b (Closes line) d l q = d
brought_local L D w b (Requests to id service) d l q = d
brought_local L D w b (Withdraws id) d l q = d
brought_local L D w b Announces d l q = d
brought_local L D w b (Avoids line) d l q = d
brought_local L D w b (Readies line ready) d l q = d
brought_local L D w b Halts d l q = (d, l)

pub own_tied : (u : Setups) (m : Machines) (w : World) (b : Bool) → Ties u m w → (table w b).own ≡ own_of u b
own_tied u m w true t = t.server_own
own_tied u m w false t = t.node_own

-- a frame to everyone is no frame of a circuit
pub to_other : (u : Setups) (m : Machines) (w : World) (p : Posted) (v : Wired) (j : ℕ) → Beside u m w → slice_get w.frames j ≡ Some v → Shown p v → is_for_other u p ≡ true → v.to ≡ (table w (not v.by_server)).own
to_other u m w p v j h q s t = go (nat_eq p.frame.to (own_of u (not p.by_server))) (nat_eq p.frame.to everyone) refl refl t
  where
    same : p.frame.to ≡ v.to
    same = ap (λ (f : OutFrame). f.to) s.frame ∙ sent_to s.side s.core v.by_server v.circuit v.to v.destination v.source v.sent

    go : (x y : Bool) → nat_eq p.frame.to (own_of u (not p.by_server)) ≡ x → nat_eq p.frame.to everyone ≡ y → (x || y) ≡ true → v.to ≡ (table w (not v.by_server)).own
    go true y i k o = sym same ∙ (eqb-true p.frame.to (own_of u (not p.by_server)) i ∙ (ap (λ z. own_of u (not z)) s.by_server ∙ sym (own_tied u m w (not v.by_server) h.ties)))
    go false true i k o = absurd (each_at (λ (z : Wired). z.to ≢ everyone) w.frames j v h.apart.frames q (sym same ∙ eqb-true p.frame.to everyone k))
    go false false i k o = absurd (false≢true o)

notice_in : (L : Deed → Type 0) (D : List ℕ → Type 0) (w : World) (b : Bool) (from : ℕ) (k : Option Numbers) (v : Value) (n : Notice) → D [] → v ≡ OfNotice n → BroughtIn L D w b from k (Whole v)
notice_in L D w b from k v n d q = subst (λ z. BroughtIn L D w b from k (Whole z)) (sym q) d

-- the frame that a machine sent is this one of the world
pub brought_found : (L : Deed → Type 0) (D : List ℕ → Type 0) (u : Setups) (m : Machines) (w : World) (p : Posted) → Beside u m w → is_for_other u p ≡ true → (j : ℕ) (v : Wired) → slice_get w.frames j ≡ Some v → Shown p v → D (j ∷ []) → (D [] ⊎ SpanFits (table w (not p.by_server)) (own_of u p.by_server) p.frame.value) → BroughtIn L D w (not p.by_server) (own_of u p.by_server) (Some (record { number = p.frame.number; acknowledgement = p.frame.acknowledgement })) (Whole p.frame.value)
brought_found L D u m w p h t j v e s d o =
    let f : OutFrame = sent_frame s.side s.core v in
    let o1 : D [] ⊎ SpanFits (table w (not v.by_server)) (own_of u v.by_server) p.frame.value = subst (λ z. D [] ⊎ SpanFits (table w (not z)) (own_of u z) p.frame.value) s.by_server o in
    let o2 : D [] ⊎ SpanFits (table w (not v.by_server)) (own_of u v.by_server) f.value = subst (λ (z : OutFrame). D [] ⊎ SpanFits (table w (not v.by_server)) (own_of u v.by_server) z.value) s.frame o1 in
    let o3 : D [] ⊎ SpanFits (table w (not v.by_server)) (table w v.by_server).own f.value = subst (λ z. D [] ⊎ SpanFits (table w (not v.by_server)) z f.value) (sym (own_tied u m w v.by_server h.ties)) o2 in
    let x : BroughtIn L D w (not v.by_server) (own_of u v.by_server) (Some (record { number = f.number; acknowledgement = f.acknowledgement })) (Whole f.value) =
    subst (λ z. BroughtIn L D w (not v.by_server) z (Some (record { number = f.number; acknowledgement = f.acknowledgement })) (Whole f.value)) (own_tied u m w v.by_server h.ties)
    (brought_sent w (not v.by_server) (table w v.by_server).own s.side s.core v.by_server v.circuit v.to v.destination v.source v.sent (delivers w j v d e (to_other u m w p v j h e s t)) o3) in
    subst (λ z. BroughtIn L D w (not z) (own_of u z) (Some (record { number = p.frame.number; acknowledgement = p.frame.acknowledgement })) (Whole p.frame.value)) (sym s.by_server)
    (subst (λ (z : OutFrame). BroughtIn L D w (not v.by_server) (own_of u v.by_server) (Some (record { number = z.number; acknowledgement = z.acknowledgement })) (Whole z.value)) (sym s.frame) x)

-- a notice delivers nothing
pub brought_notice : (L : Deed → Type 0) (D : List ℕ → Type 0) (u : Setups) (w : World) (p : Posted) → D [] → IsNotice p → BroughtIn L D w (not p.by_server) (own_of u p.by_server) (Some (record { number = p.frame.number; acknowledgement = p.frame.acknowledgement })) (Whole p.frame.value)
brought_notice L D u w p d n = notice_in L D w (not p.by_server) (own_of u p.by_server) (Some (record { number = p.frame.number; acknowledgement = p.frame.acknowledgement })) p.frame.value n.0 d n.1

pub brought_frame : (u : Setups) (m : Machines) (w : World) (p : Posted) (i : ℕ) → Beside u m w → slice_get m.posts i ≡ Some p → is_for_other u p ≡ true → BroughtIn AnyDeed Anything w (not p.by_server) (own_of u p.by_server) (Some (record { number = p.frame.number; acknowledgement = p.frame.acknowledgement })) (Whole p.frame.value)
brought_frame u m w p i h q t = ⊎_elim {C = BroughtIn AnyDeed Anything w (not p.by_server) (own_of u p.by_server) (Some (record { number = p.frame.number; acknowledgement = p.frame.acknowledgement })) (Whole p.frame.value)} (λ n. brought_notice AnyDeed Anything u w p tt n) (λ f. brought_found AnyDeed Anything u m w p h t f.0 f.1 f.2 f.3 tt (inl tt)) (shows_at m.posts w.frames i p h.ties.shows q)

pub marked_beside : (u : Setups) (m : Machines) (w : World) (i : ℕ) → Beside u m w → Beside u (marked_delivered i m) w
marked_beside u m w i p = record { ties = record { server = p.ties.server; node = p.ties.node; shows = p.ties.shows; setup = p.ties.setup; other = p.ties.other; server_own = p.ties.server_own; node_own = p.ties.node_own }; apart = p.apart; fits = p.fits }

counted_beside : (u : Setups) (m : Machines) (w : World) → Beside u m w → Beside u (counted m) w
counted_beside u m w p = record { ties = record { server = p.ties.server; node = p.ties.node; shows = p.ties.shows; setup = p.ties.setup; other = p.ties.other; server_own = p.ties.server_own; node_own = p.ties.node_own }; apart = p.apart; fits = p.fits }

-- a frame of a foreign address
pub foreign_goes : {L : Deed → Type 0} (u : Setups) (m : Machines) (w : World) (b : Bool) (from : ℕ) (payload : Reading) (now : ℕ) (rates : List ℕ) → OffersFit L u.server.offers → Beside u m w → BreaksFit L Quiet u m → is_own u from ≡ false → GoesBy L Quiet u (tell u m b (Hears from payload None now) rates) w
foreign_goes {L} u m w b from payload now rates l p k i =
    let o : (nat_eq from u.server.own ≡ false) × (nat_eq from u.node.own ≡ false) = or_parts (nat_eq from u.server.own) (nat_eq from u.node.own) i in
    tell_goes u m w b (Hears from payload None now) rates l p k (λ a. refl, λ n. foreign_in L w b from payload n (subst (λ z. nat_eq from z ≡ false) (sym p.ties.server_own) o.0) (subst (λ z. nat_eq from z ≡ false) (sym p.ties.node_own) o.1))

pub happens_goes : (u : Setups) (m : Machines) (w : World) (e : Move) → Beside u m w → Goes u (happens u m e) w
happens_goes u m w (Does b e rates) p = goes_cond u (is_heard e) m (tell u m b e rates) w (λ i. goes_none u m w p) (λ i. goes_any u (tell u m b e rates) w (tell_goes {L = AnyDeed} {D = Anything} u m w b e rates (any_offer u.server.offers) p (any_break u m) (brought_local AnyDeed Anything w b e tt (any_own e) i)))
happens_goes u m w (HearsForeign b from payload now rates) p =
    goes_cond u (is_own u from) m (tell u m b (Hears from payload None now) rates) w (λ i. goes_none u m w p)
    (λ i. goes_any u (tell u m b (Hears from payload None now) rates) w (foreign_goes {L = AnyDeed} u m w b from payload now rates (any_offer u.server.offers) p (record { server = λ i. tt; node = record { prompt = λ i. tt; halted = λ i. (refl, tt) } }) i))
happens_goes u m w (HearsFrame i now rates) p = go (slice_get m.posts i) refl
  where
    go : (o : Option Posted) → slice_get m.posts i ≡ o → Goes u (comes u m i now rates o) w
    go None q = goes_none u m w p
    go (Some f) q =
        goes_cond u (is_for_other u f) (tell u (marked_delivered i m) (not f.by_server) (heard_as u f now) rates) (counted (marked_delivered i m)) w
        (λ t. goes_any u (tell u (marked_delivered i m) (not f.by_server) (heard_as u f now) rates) w (tell_goes {L = AnyDeed} {D = Anything} u (marked_delivered i m) w (not f.by_server) (heard_as u f now) rates (any_offer u.server.offers) (marked_beside u m w i p) (any_break u (marked_delivered i m)) (λ a. tt, λ n. brought_frame u m w f i p q t)))
        (λ t. goes_none u (counted (marked_delivered i m)) w (counted_beside u (marked_delivered i m) w (marked_beside u m w i p)))

-- every run

not_zero : 0 ≡ everyone → ⊥
not_zero q = false≢true (sym (ap (λ z. nat_eq 0 z) q))

pub open_beside : (u : Setups) → Fit u → Beside u (open_machines u) (open_world u.server.own u.node.own u.server.first u.node.first (setup_of u.server.timing) (setup_of u.node.timing))
open_beside u f = record {
  ties = record { server = refl; node = refl; shows = refl; setup = refl; other = refl; server_own = refl; node_own = refl };
  apart = record { server_own = f.server_own; node_own = f.node_own; server = λ x. not_zero; node = λ x. not_zero; frames = tt };
  fits = record { heard = tt; queue = tt };
}

run_goes : (u : Setups) (es : List Move) (m : Machines) (w : World) → Beside u m w → Goes u (run u es m) w
run_goes u [] m w p = goes_none u m w p
run_goes u (e ∷ es) m w p =
    let g : Goes u (happens u m e) w = happens_goes u m w e p in
    let h : Goes u (run u es (happens u m e)) (go_on g.events w) = run_goes u es (happens u m e) (go_on g.events w) g.beside in
    record { events = g.events ++ h.events; beside = subst (Beside u (run u es (happens u m e))) (sym (go_on_more g.events h.events w)) h.beside }

pub every_run : (u : Setups) (es : List Move) → Fit u → Goes u (run u es (open_machines u)) (open_world u.server.own u.node.own u.server.first u.node.first (setup_of u.server.timing) (setup_of u.node.timing))
every_run u es f = run_goes u es (open_machines u) (open_world u.server.own u.node.own u.server.first u.node.first (setup_of u.server.timing) (setup_of u.node.timing)) (open_beside u f)
