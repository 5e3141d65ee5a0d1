-- Both ends of a circuit have one span.
use Rattle.std.proofs.Common.{◌≡◌, ◌≢◌, ℕ, suc, sym, ap, ◌∙◌, refl, subst, Bool, true, false, not, cond, ◌&&◌, ◌||◌, List, [], ◌∷◌, Option, Some, None, slice_get, nat_eq, nat_lt, eqb-true}
use Rattle.std.proofs.lemmas.Bool.{and_parts, or_parts, false≢true, eqb-false, true≢false}
use Rattle.lat_model.specs.ends.End.{Sent, Run, CallStart, ReplyStart, Stopped, End, Step, lives, still, call_end, finish, lapse}
use Rattle.lat_model.specs.ends.Run.{run_end}
use Rattle.lat_model.specs.ends.Timers.{time_step}
use Rattle.lat_model.specs.ends.Starting.{Agreed, make_master, make_slave, again_start, noted, reply_end, hear_reply, hear_stop}
use Rattle.lat_model.specs.circuits.World.{CircuitEntry, Wired, World, table, with_table, put_circuit, at_end, first_end}
use Rattle.lat_model.specs.circuits.Arriving.{is_of, reply_in, living, slave_of, refusal, make_in, start_in, arrive}
use Rattle.lat_model.specs.circuits.Events.{WorldEvent, Calls, Locally, Times, Moves, Delivers, Injects, WorldRun, deliver_in, occurs, go_on, open_world, Ends, Lapses, Stops}
use Rattle.lat_model.specs.circuits.WorldOk.{Joint, Replied, ByNode, FromSender, WorldOk}
use Rattle.lat_model.specs.circuits.Spans.{ReadsSpan, TellsSpan, TellSpans, OneSpan}
use Rattle.lat_model.proofs.sessions.Words.{upd_all}
use Rattle.lat_model.proofs.numbers.Net.{each_at}
use Rattle.lat_model.proofs.circuits.Kin.{Kin, kin_run, kin_time, kin_again, kin_stop, kin_finish}
use Rattle.lat_model.proofs.circuits.Begins.{kin_call}
use Rattle.lat_model.proofs.circuits.Arrives.{occurs_ok, open_world_ok}
use Rattle.lat_model.specs.circuits.Ids.{is_drawn, is_id_of, next_id}
use Rattle.lat_model.proofs.circuits.Ids.{drawn_before, none_drawn}

-- a circuit is put

put_server : (a b : Bool) (w : World) (drawn x address : ℕ) (s : Step) → OneSpan a b w → (address ≡ w.node.own → s.end.running ≡ true → s.end.wide ≡ (a && b)) → OneSpan a b (put_circuit w true drawn x address s)
put_server a b w drawn x address s h k = record {
  slaves = h.slaves;
  masters = upd_all (λ (c : CircuitEntry). c.address ≡ w.node.own → c.end.running ≡ true → c.end.wide ≡ (a && b)) w.server.circuit_at x (record { address = address; end = s.end }) k h.masters;
}

put_node : (a b : Bool) (w : World) (drawn x address : ℕ) (s : Step) → ((q : ℕ) → is_id_of w.node.first drawn q ≡ true → q ≢ x → is_drawn w.node q ≡ true) → OneSpan a b w → (is_id_of w.node.first drawn x ≡ true → address ≡ w.server.own → s.end.wide ≡ (a && b)) → OneSpan a b (put_circuit w false drawn x address s)
put_node a b w drawn x address s d h k = record { slaves = λ q. go q (nat_eq q x) refl; masters = h.masters }
  where
    entry : CircuitEntry
    entry = record { address = address; end = s.end }

    go : (q : ℕ) (c : Bool) → nat_eq q x ≡ c → is_id_of w.node.first drawn q ≡ true → (cond c entry (w.node.circuit_at q)).address ≡ w.server.own → (cond c entry (w.node.circuit_at q)).end.wide ≡ (a && b)
    go q true e i j =
        let r : q ≡ x = eqb-true q x e in
        k (subst (λ z. is_id_of w.node.first drawn z ≡ true) r i) j
    go q false e i j = h.slaves q (d q i (eqb-false q x e)) j

-- a step of a circuit that changes neither its span nor whether it runs
kin_at : (a b : Bool) (w : World) (c : Bool) (x : ℕ) (s : Step) → OneSpan a b w → Kin ((table w c).circuit_at x).end s.end → OneSpan a b (at_end w c x s)
kin_at a b w true x s h k = put_server a b w w.server.drawn x (w.server.circuit_at x).address _ h (λ e r. k.wide ∙ h.masters x e (sym k.running ∙ r))
kin_at a b w false x s h k = put_node a b w w.node.drawn x (w.node.circuit_at x).address _ (λ q i n. i) h (λ i e. k.wide ∙ h.slaves x i e)

span_cond : (a b : Bool) (c : Bool) (v w : World) → (c ≡ true → OneSpan a b v) → (c ≡ false → OneSpan a b w) → OneSpan a b (cond c v w)
span_cond a b true v w h k = h refl
span_cond a b false v w h k = k refl

-- a frame comes

-- what is read of a START, at the end that hears it
abbrev pub Reads : Bool → Bool → World → Bool → ℕ → Agreed → Sent → Type 0
Reads a b w side from g CallStart = side ≡ false → from ≡ w.server.own → g.wide ≡ (a && b)
Reads a b w side from g ReplyStart = side ≡ true → from ≡ w.node.own → g.wide ≡ (a && b)
Reads a b w side from g (Run mark ask f) = Unit {0}
Reads a b w side from g (Stopped r) = Unit {0}

start_span : (a b : Bool) (w : World) (from source now : ℕ) (g : Agreed) → OneSpan a b w → (from ≡ w.server.own → g.wide ≡ (a && b)) → OneSpan a b (start_in w from source now g)
start_span a b w from source now g h k =
    span_cond a b (nat_eq (slave_of w.node from source) 0) (make_in w from source now g) (at_end w false (slave_of w.node from source) (again_start now (w.node.circuit_at (slave_of w.node from source)).end))
    (λ e. span_cond a b (nat_lt (living w.node) 8 && nat_lt w.node.drawn 65535)
    (put_circuit w false (suc w.node.drawn) (next_id w.node) from (make_slave now source g (first_end false false w.other)))
    (with_table w false w.node (refusal from source ∷ []))
    (λ f. put_node a b w (suc w.node.drawn) (next_id w.node) from (make_slave now source g (first_end false false w.other)) (λ q i n. drawn_before w.node.first w.node.drawn q n i) h (λ i j. k j))
    (λ f. record { slaves = h.slaves; masters = h.masters }))
    (λ e. kin_at a b w false (slave_of w.node from source) (again_start now (w.node.circuit_at (slave_of w.node from source)).end) h (kin_again now (w.node.circuit_at (slave_of w.node from source)).end))

reply_span : (a b : Bool) (w : World) (from d source now : ℕ) (g : Agreed) → OneSpan a b w → (from ≡ w.node.own → g.wide ≡ (a && b)) → OneSpan a b (reply_in w from d source now g)
reply_span a b w from d source now g h k =
    span_cond a b (nat_eq c.address from && lives c.end && (not c.end.running || nat_eq c.end.peer source)) (at_end w true d (hear_reply now source g c.end)) w
    (λ e. put_server a b w w.server.drawn d c.address _ h (λ i. heard (lives c.end) c.end.running refl (sym (eqb-true c.address from (and_parts (nat_eq c.address from) (lives c.end) (and_parts (nat_eq c.address from && lives c.end) (not c.end.running || nat_eq c.end.peer source) e).0).0) ∙ i) i))
    (λ e. h)
  where
    c : CircuitEntry
    c = w.server.circuit_at d

    heard : (l r : Bool) → c.end.running ≡ r → from ≡ w.node.own → c.address ≡ w.node.own → (cond l (cond r (noted now c.end) (still (reply_end now source g c.end))) (still c.end)).end.running ≡ true → (cond l (cond r (noted now c.end) (still (reply_end now source g c.end))) (still c.end)).end.wide ≡ (a && b)
    heard true true q f i r = h.masters d i r
    heard true false q f i r = k f
    heard false r q f i s = h.masters d i s

arrive_span : (a b : Bool) (w : World) (side : Bool) (from : ℕ) (bit : Bool) (d source now : ℕ) (g : Agreed) (m : Sent) → OneSpan a b w → Reads a b w side from g m → OneSpan a b (arrive w side from bit d source now g m)
arrive_span a b w side from bit d source now g (Run mark ask f) h k =
    let c : CircuitEntry = (table w side).circuit_at d in
    span_cond a b (is_of c from source && lives c.end && c.end.running && (cond bit (not c.end.master) c.end.master)) (at_end w side d (run_end now ask f c.end).step) w
    (λ e. kin_at a b w side d (run_end now ask f c.end).step h (kin_run now ask f c.end)) (λ e. h)
arrive_span a b w side from bit d source now g CallStart h k = span_cond a b side w (start_in w from source now g) (λ e. h) (λ e. start_span a b w from source now g h (k e))
arrive_span a b w side from bit d source now g ReplyStart h k = span_cond a b side (reply_in w from d source now g) w (λ e. reply_span a b w from d source now g h (k e)) (λ e. h)
arrive_span a b w side from bit d source now g (Stopped r) h k =
    let c : CircuitEntry = (table w side).circuit_at d in
    span_cond a b (nat_eq c.address from && (nat_eq c.end.peer source || nat_eq source 0) && lives c.end) (at_end w side d (hear_stop now r c.end)) w
    (λ e. kin_at a b w side d (hear_stop now r c.end) h (kin_stop now r c.end)) (λ e. h)

-- what a frame of one end tells the other
and_again : (a b : Bool) → (a && (a && b)) ≡ (a && b)
and_again true b = refl
and_again false b = refl

sent_reads : (a b : Bool) (w : World) → OneSpan a b w → (by : Bool) (x to d s : ℕ) (g : Agreed) (m : Sent) → to ≡ (table w (not by)).own → FromSender w by x to d s m → ReadsSpan a b w g x m → Reads a b w (not by) (table w by).own g m
sent_reads a b w h by x to d s g (Run mark ask f) t y r = tt
sent_reads a b w h by x to d s g (Stopped z) t y r = tt
sent_reads a b w h by x to d s g CallStart t y r = λ e i. r
sent_reads a b w h true x to d s g ReplyStart t y r = λ e i. absurd (false≢true e)
sent_reads a b w h false x to d s g ReplyStart t y r =
    let n : ByNode w x d s = y t in
    λ e i. r ∙ ap (λ z. a && z) (h.slaves x n.drawn n.address) ∙ and_again a b

deliver_span : (a b : Bool) (w : World) → WorldOk w → OneSpan a b w → (now : ℕ) (g : Agreed) (o : Option Wired) → ((p : Wired) → o ≡ Some p → FromSender w p.by_server p.circuit p.to p.destination p.source p.sent) → ((p : Wired) → o ≡ Some p → ReadsSpan a b w g p.circuit p.sent) → OneSpan a b (deliver_in w now g o)
deliver_span a b w ok h now g None y r = h
deliver_span a b w ok h now g (Some p) y r =
    span_cond a b (nat_eq p.to (table w (not p.by_server)).own) (arrive w (not p.by_server) (table w p.by_server).own p.by_server p.destination p.source now g p.sent) w
    (λ e. arrive_span a b w (not p.by_server) (table w p.by_server).own p.by_server p.destination p.source now g p.sent h
    (sent_reads a b w h p.by_server p.circuit p.to p.destination p.source g p.sent (eqb-true p.to (table w (not p.by_server)).own e) (y p refl) (r p refl)))
    (λ e. h)

foreign_reads : (a b : Bool) (w : World) (side : Bool) (from : ℕ) (g : Agreed) (m : Sent) → (nat_eq from w.server.own || nat_eq from w.node.own) ≡ false → Reads a b w side from g m
foreign_reads a b w side from g (Run mark ask f) e = tt
foreign_reads a b w side from g (Stopped r) e = tt
foreign_reads a b w side from g CallStart e = λ i j. absurd (eqb-false from w.server.own (or_parts (nat_eq from w.server.own) (nat_eq from w.node.own) e).0 j)
foreign_reads a b w side from g ReplyStart e = λ i j. absurd (eqb-false from w.node.own (or_parts (nat_eq from w.server.own) (nat_eq from w.node.own) e).1 j)

-- an event

occurs_span : (a b : Bool) (w : World) → WorldOk w → OneSpan a b w → (e : WorldEvent) → TellsSpan a b w e → OneSpan a b (occurs w e)
occurs_span a b w ok h (Calls address now) t = put_server a b w (suc w.server.drawn) (next_id w.server) address (make_master now (first_end true true w.setup)) h (λ e r. absurd (false≢true r))
occurs_span a b w ok h (Locally c x call) t =
    let e : End = ((table w c).circuit_at x).end in
    span_cond a b (lives e) (at_end w c x (record { end = call_end call e; sent = [] })) w (λ l. kin_at a b w c x (record { end = call_end call e; sent = [] }) h (kin_call call e)) (λ l. h)
occurs_span a b w ok h (Times c x now) t =
    let e : End = ((table w c).circuit_at x).end in
    span_cond a b (lives e) (at_end w c x (time_step now e)) w (λ l. kin_at a b w c x (time_step now e) h (kin_time now e)) (λ l. h)
occurs_span a b w ok h (Moves c x now) t =
    let e : End = ((table w c).circuit_at x).end in
    span_cond a b (lives e) (at_end w c x (record { end = record e { moment = now }; sent = [] })) w (λ l. kin_at a b w c x (record { end = record e { moment = now }; sent = [] }) h (record { peer = refl; running = refl; master = refl; window = refl; wide = refl; sessions = refl })) (λ l. h)
occurs_span a b w ok h (Ends c x r) t =
    let e : End = ((table w c).circuit_at x).end in
    span_cond a b (lives e) (at_end w c x (finish r e)) w (λ l. kin_at a b w c x (finish r e) h (kin_finish r e)) (λ l. h)
occurs_span a b w ok h (Lapses c x r) t =
    let e : End = ((table w c).circuit_at x).end in
    span_cond a b (lives e) (at_end w c x (lapse r e)) w (λ l. kin_at a b w c x (lapse r e) h (record { peer = refl; running = refl; master = refl; window = refl; wide = refl; sessions = refl })) (λ l. h)
occurs_span a b w ok h (Stops true to d s r) t = record { slaves = h.slaves; masters = h.masters }
occurs_span a b w ok h (Stops false to d s r) t = record { slaves = h.slaves; masters = h.masters }
occurs_span a b w ok h (Delivers i now g) t = deliver_span a b w ok h now g (slice_get w.frames i) (λ p e. each_at (λ f. FromSender w f.by_server f.circuit f.to f.destination f.source f.sent) w.frames i p ok.says e) t
occurs_span a b w ok h (Injects c from bit d s now g m) t =
    span_cond a b (nat_eq from w.server.own || nat_eq from w.node.own) w (arrive w c from bit d s now g m) (λ e. h) (λ e. arrive_span a b w c from bit d s now g m h (foreign_reads a b w c from g m e))

pub go_on_span : (a b : Bool) (es : List WorldEvent) (w : World) → WorldOk w → OneSpan a b w → TellSpans a b w es → OneSpan a b (go_on es w)
go_on_span a b [] w ok h t = h
go_on_span a b (e ∷ es) w ok h t = go_on_span a b es (occurs w e) (occurs_ok w ok e) (occurs_span a b w ok h e t.0) t.1

-- the two ends of a circuit
pub joint_span : (a b : Bool) (w : World) → WorldOk w → OneSpan a b w → (q : ℕ) → Joint w q → ((w.node.circuit_at q).end.wide ≡ (a && b)) × ((w.server.circuit_at (w.node.circuit_at q).end.peer).end.wide ≡ (a && b))
joint_span a b w ok h q j =
    let r : Replied w (w.node.circuit_at q).end.peer = ok.replied (w.node.circuit_at q).end.peer j.address j.running in (
      h.slaves q (subst (λ z. is_drawn w.node z ≡ true) j.peer r.drawn) (ap (λ z. (w.node.circuit_at z).address) (sym j.peer) ∙ r.address),
      h.masters (w.node.circuit_at q).end.peer j.address j.running,
    )

pub run_span : (a b : Bool) (w : World) (r : WorldRun w) → TellSpans a b (open_world r.server r.node r.first r.other_first r.setup r.other) r.events → OneSpan a b w
run_span a b w r t =
    let v : World = open_world r.server r.node r.first r.other_first r.setup r.other in
    subst (OneSpan a b) (sym r.reached)
    (go_on_span a b r.events v (open_world_ok r.server r.node r.first r.other_first r.setup r.other r.apart r.ceiling r.other_ceiling)
    (record { slaves = λ q i e. absurd (true≢false (sym i ∙ none_drawn r.other_first q)); masters = λ p e f. absurd (false≢true f) }) t)
