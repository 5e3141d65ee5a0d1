-- No end opens more than its window, and one that doesn't run has formed and taken no message.
use Rattle.std.proofs.Common.{◌≡◌, ℕ, suc, ◌+◌, ◌*◌, ◌<◌, ◌≤◌, sym, ap, ◌∙◌, refl, subst, arith, Bool, true, false, not, cond, ◌&&◌, ◌||◌, List, [], ◌∷◌, length, Option, Some, None, nat_eq, nat_lt, slice_get, length-append, ltb-true}
use Rattle.std.proofs.lemmas.Bool.{and_parts, true≢false}
use Rattle.lat_model.specs.sessions.Slots.{Slot}
use Rattle.lat_model.specs.sessions.Calls.{Call}
use Rattle.lat_model.specs.sessions.Packing.{pack}
use Rattle.lat_model.specs.sessions.Hearing.{hear_all}
use Rattle.lat_model.specs.Lists.{is_empty}
use Rattle.lat_model.specs.numbers.Link.{Frame, fresh, window_open, is_next}
use Rattle.lat_model.specs.ends.End.{Sent, Run, CallStart, ReplyStart, Stopped, End, Step, still, then_do, lives, finish, send_bare, all_known, wire_of, send_message, acknowledge, form_packed, occasion, send_again, send_start, call_end, lapse}
use Rattle.lat_model.specs.ends.Run.{RunBroke, RunRepeated, RunStep, ack_end, taken_end, broken_end, take_end, body_end, after_run, run_end}
use Rattle.lat_model.specs.ends.Timers.{passed, silent, unused, a_round, rounds_step, may_form, alive_step, due_step, living, note_empty, time_step}
use Rattle.lat_model.specs.ends.Starting.{Agreed, make_master, make_slave, again_start, noted, replied, reply_end, hear_reply, hear_stop}
use Rattle.lat_model.specs.circuits.World.{CircuitEntry, Wired, World, table, with_table, put_circuit, at_end, first_end}
use Rattle.lat_model.specs.circuits.Arriving as arriving
use Rattle.lat_model.specs.circuits.Arriving.{is_of, reply_in, slave_of, refusal, make_in, start_in, arrive}
use Rattle.lat_model.specs.circuits.Events.{WorldEvent, Calls, Locally, Times, Moves, Delivers, Injects, WorldRun, deliver_in, occurs, go_on, open_world, Ends, Lapses, Stops}
use Rattle.lat_model.specs.circuits.WorldOk.{WorldOk}
use Rattle.lat_model.proofs.sessions.Words.{upd_all}
use Rattle.lat_model.proofs.circuits.Kin.{and_false, right_false, kin_run, kin_time}
use Rattle.lat_model.specs.circuits.Ids.{next_id}

-- what one end keeps of its window
pub record Opens (e : End) : Type 0 where
  pub quiet : e.running ≡ false → e.half.link ≡ fresh
  pub within : length e.half.link.sent ≤ e.half.link.known + e.window

-- Each step keeps the messages sent within the window

abbrev Within : End → Type 0
Within e = length e.half.link.sent ≤ e.half.link.known + e.window

within_cond : (c : Bool) (s t : Step) → Within s.end → Within t.end → Within (cond c s t).end
within_cond true s t p q = p
within_cond false s t p q = q

within_acknowledge : (e : End) → Within e → Within (acknowledge e).end
within_acknowledge e h = within_cond e.owed (send_bare false e) (still e) h h

within_occasion : (e : End) → Within e → Within (occasion e).end
within_occasion e h = go (window_open e.window e.half.link) refl
  where
    message : length e.half.link.sent < e.half.link.known + e.window → Within (send_message (pack e.room e.half.sessions) e).end
    message i = omega (arith, i, length-append e.half.link.sent (wire_of (pack e.room e.half.sessions).slots ∷ []))

    go : (c : Bool) → window_open e.window e.half.link ≡ c → Within (cond c (form_packed (pack e.room e.half.sessions) e) (acknowledge e)).end
    go true q =
        within_cond (is_empty (pack e.room e.half.sessions).slots) (acknowledge e) (send_message (pack e.room e.half.sessions) e) (within_acknowledge e h)
        (message (ltb-true (length e.half.link.sent) (e.half.link.known + e.window) q))
    go false q = within_acknowledge e h

within_round : (f : End → Step) (e : End) → Within (f e).end → Within e → Within (a_round f e).end
within_round f e p h = within_cond (nat_lt e.rounds 8) (f e) (finish 6 e) p h

within_rounds : (e : End) → Within e → Within (rounds_step e).end
within_rounds e h =
    within_cond e.running (cond (not (all_known e) && passed e.since 1000 e) (a_round send_again e) (still e)) (cond (passed e.start_at 1000 e) (a_round send_start e) (still e))
    (within_cond (not (all_known e) && passed e.since 1000 e) (a_round send_again e) (still e) (within_round send_again e h h) h)
    (within_cond (passed e.start_at 1000 e) (a_round send_start e) (still e) (within_round send_start e h h) h)

within_alive : (e : End) → Within e → Within (alive_step e).end
within_alive e h = within_cond (e.master && e.running && passed e.sent_at (1000 * e.keepalive) e) (send_bare true e) (still e) h h

within_due : (e : End) → Within e → Within (due_step e).end
within_due e h =
    let d : End = record e { due_at = e.moment } in
    let s : Step = cond (may_form e) (occasion d) (still d) in
    within_cond (passed e.due_at (10 * e.timer) e) (then_do s alive_step) (still e)
    (within_alive s.end (within_cond (may_form e) (occasion d) (still d) (within_occasion d h) h)) h

within_living : (f : End → Step) (e : End) → Within (f e).end → Within e → Within (living f e).end
within_living f e p h = within_cond (lives e) (f e) (still e) p h

within_time : (now : ℕ) (e : End) → Within e → Within (time_step now e).end
within_time now e h =
    let d : End = record e { moment = now } in
    let r : Within (rounds_step d).end = within_rounds d h in
    within_cond (silent d) (finish 6 d) (cond (unused d) (finish 3 d) (then_do (rounds_step d) (living due_step))) h
    (within_cond (unused d) (finish 3 d) (then_do (rounds_step d) (living due_step)) h
    (within_living due_step (rounds_step d).end (within_due (rounds_step d).end r) r))

-- an acknowledgement only raises what is known
within_ack : (a : ℕ) (e : End) → Within e → Within (ack_end a e)
within_ack a e h = go (nat_lt e.half.link.known a) refl
  where
    heard : Bool → End
    heard c = record e { half = record (e.half) { link = record (e.half.link) { known = cond c a e.half.link.known } } }

    go : (c : Bool) → nat_lt e.half.link.known a ≡ c → Within (cond c (record (heard c) { rounds = 0; since = e.moment }) (heard c))
    go true q = omega (arith, h, ltb-true e.half.link.known a q)
    go false q = h

run_cond : (c : Bool) (s t : RunStep) → Within s.step.end → Within t.step.end → Within (cond c s t).step.end
run_cond true s t p q = p
run_cond false s t p q = q

within_body : (n : ℕ) (ask : Bool) (o : Option (List Slot)) (e : End) → Within e → Within (body_end n ask o e).step.end
within_body n ask None e h = h
within_body n ask (Some []) e h = h
within_body n ask (Some (x ∷ xs)) e h =
    run_cond (is_next e.half.link n) (take_end (x ∷ xs) e) (record { step = still (record e { owed = true }); answer = RunRepeated })
    (run_cond (hear_all (x ∷ xs) e.half.sessions).good (taken_end (x ∷ xs) (hear_all (x ∷ xs) e.half.sessions).after e) (broken_end (hear_all (x ∷ xs) e.half.sessions).after e) h h)
    h

within_run : (now : ℕ) (ask : Bool) (f : Frame (List Slot)) (e : End) → Within e → Within (run_end now ask f e).step.end
within_run now ask f e h =
    let d : End = record e { moment = now; heard_at = now; heard_run = true } in
    let r : RunStep = body_end f.number ask f.body (ack_end f.acknowledgement d) in
    let k : Within r.step.end = within_body f.number ask f.body (ack_end f.acknowledgement d) (within_ack f.acknowledgement d h) in
    run_cond (nat_lt (length d.half.link.sent) f.acknowledgement) (record { step = finish 2 d; answer = RunBroke }) (after_run r) h
    (within_living (λ x. cond x.master (still x) (occasion x)) r.step.end
    (within_cond r.step.end.master (still r.step.end) (occasion r.step.end) k (within_occasion r.step.end k)) k)

-- An end that doesn't run rests, but for its moments and rounds

record Rests (e : End) (f : End) : Type 0 where
  link : f.half.link ≡ e.half.link
  running : f.running ≡ e.running

rests : (e : End) → Rests e e
rests e = record { link = refl; running = refl }

rests_cond : (e : End) (c : Bool) (s t : Step) → Rests e s.end → Rests e t.end → Rests e (cond c s t).end
rests_cond e true s t p q = p
rests_cond e false s t p q = q

rests_false : (e : End) (c : Bool) (s t : Step) → c ≡ false → Rests e t.end → Rests e (cond c s t).end
rests_false e true s t q p = absurd (true≢false q)
rests_false e false s t q p = p

rests_then : (e : End) (s : Step) (f : End → Step) → Rests e s.end → Rests s.end (f s.end).end → Rests e (then_do s f).end
rests_then e s f p q = record { link = q.link ∙ p.link; running = q.running ∙ p.running }

rests_rounds : (e : End) → e.running ≡ false → Rests e (rounds_step e).end
rests_rounds e i =
    rests_false e e.running (cond (not (all_known e) && passed e.since 1000 e) (a_round send_again e) (still e)) (cond (passed e.start_at 1000 e) (a_round send_start e) (still e)) i
    (rests_cond e (passed e.start_at 1000 e) (a_round send_start e) (still e)
    (rests_cond e (nat_lt e.rounds 8) (send_start e) (finish 6 e) (record { link = refl; running = refl }) (record { link = refl; running = refl })) (rests e))

rests_due : (e : End) → e.running ≡ false → Rests e (due_step e).end
rests_due e i =
    let d : End = record e { due_at = e.moment } in
    let s : Step = cond (may_form e) (occasion d) (still d) in
    let k : Rests e s.end = rests_false e (may_form e) (occasion d) (still d) (and_false e.running (e.master || e.heard_run) i) (record { link = refl; running = refl }) in
    rests_cond e (passed e.due_at (10 * e.timer) e) (then_do s alive_step) (still e)
    (rests_then e s alive_step k
    (rests_false s.end (s.end.master && s.end.running && passed s.end.sent_at (1000 * s.end.keepalive) s.end) (send_bare true s.end) (still s.end)
    (and_false (s.end.master && s.end.running) (passed s.end.sent_at (1000 * s.end.keepalive) s.end) (right_false s.end.master s.end.running (k.running ∙ i))) (rests s.end)))
    (rests e)

rests_time : (now : ℕ) (e : End) → e.running ≡ false → Rests e (time_step now e).end
rests_time now e i =
    let d : End = record e { moment = now } in
    let r : Rests d (rounds_step d).end = rests_rounds d i in
    let f : (n : ℕ) → Rests d (finish n d).end = λ n. record { link = refl; running = refl } in
    let all : Rests d (time_step now e).end =
    rests_cond d (silent d) (finish 6 d) (cond (unused d) (finish 3 d) (then_do (rounds_step d) (living due_step))) (f 6)
    (rests_cond d (unused d) (finish 3 d) (then_do (rounds_step d) (living due_step)) (f 3)
    (rests_then d (rounds_step d) (living due_step) r
    (rests_cond (rounds_step d).end (lives (rounds_step d).end) (due_step (rounds_step d).end) (still (rounds_step d).end) (rests_due (rounds_step d).end (r.running ∙ i)) (rests (rounds_step d).end)))) in
    record { link = all.link; running = all.running }

-- Each step of an end

open_cond : (c : Bool) (s t : Step) → Opens s.end → Opens t.end → Opens (cond c s t).end
open_cond true s t p q = p
open_cond false s t p q = q

open_time : (now : ℕ) (e : End) → Opens e → Opens (time_step now e).end
open_time now e o = record { quiet = λ r. quiet (sym (kin_time now e).running ∙ r); within = within_time now e o.within }
  where
    quiet : e.running ≡ false → (time_step now e).end.half.link ≡ fresh
    quiet i = (rests_time now e i).link ∙ o.quiet i

open_run : (now : ℕ) (ask : Bool) (f : Frame (List Slot)) (e : End) → e.running ≡ true → Opens e → Opens (run_end now ask f e).step.end
open_run now ask f e i o = record { quiet = λ r. absurd (true≢false (sym i ∙ sym (kin_run now ask f e).running ∙ r)); within = within_run now ask f e o.within }

open_call : (c : Call) (e : End) → Opens e → Opens (call_end c e)
open_call c e o = record { quiet = o.quiet; within = o.within }

open_noted : (now : ℕ) (e : End) → Opens e → Opens (noted now e).end
open_noted now e o = record { quiet = o.quiet; within = o.within }

open_again : (now : ℕ) (e : End) → Opens e → Opens (again_start now e).end
open_again now e o =
    open_cond (lives e && not e.heard_run) (replied now e) (cond (lives e) (noted now e) (still e)) (record { quiet = o.quiet; within = o.within })
    (open_cond (lives e) (noted now e) (still e) (open_noted now e o) o)

open_stop : (now r : ℕ) (e : End) → Opens e → Opens (hear_stop now r e).end
open_stop now r e o = open_cond (lives e) (still (record e { ended = Some r; moment = now })) (still e) (record { quiet = o.quiet; within = o.within }) o

-- the first reply sets the window where nothing was sent
open_reply : (now source : ℕ) (g : Agreed) (e : End) → Opens e → Opens (hear_reply now source g e).end
open_reply now source g e o = open_cond (lives e) (cond e.running (noted now e) (still (reply_end now source g e))) (still e) (go e.running refl) o
  where
    go : (r : Bool) → e.running ≡ r → Opens (cond r (noted now e) (still (reply_end now source g e))).end
    go true q = open_noted now e o
    go false q = record { quiet = λ r. absurd (true≢false r); within = omega (arith, ap (λ l. length l.sent) (o.quiet q)) }

-- All circuits

pub record AllOpen (w : World) : Type 0 where
  pub server : (k : ℕ) → Opens (w.server.circuit_at k).end
  pub node : (k : ℕ) → Opens (w.node.circuit_at k).end

pub open_at : (w : World) → AllOpen w → (b : Bool) (k : ℕ) → Opens ((table w b).circuit_at k).end
open_at w h true k = h.server k
open_at w h false k = h.node k

put_open : (w : World) (b : Bool) (drawn x address : ℕ) (s : Step) → AllOpen w → Opens s.end → AllOpen (put_circuit w b drawn x address s)
put_open w true drawn x address s h o = record { server = upd_all (λ (c : CircuitEntry). Opens c.end) w.server.circuit_at x (record { address = address; end = s.end }) o h.server; node = h.node }
put_open w false drawn x address s h o = record { server = h.server; node = upd_all (λ (c : CircuitEntry). Opens c.end) w.node.circuit_at x (record { address = address; end = s.end }) o h.node }

step_open : (w : World) (b : Bool) (x : ℕ) (s : Step) → AllOpen w → Opens s.end → AllOpen (at_end w b x s)
step_open w b x s h o = put_open w b (table w b).drawn x ((table w b).circuit_at x).address (note_empty ((table w b).circuit_at x).end s) h (record { quiet = o.quiet; within = o.within })

all_cond : (c : Bool) (v w : World) → (c ≡ true → AllOpen v) → AllOpen w → AllOpen (cond c v w)
all_cond true v w p q = p refl
all_cond false v w p q = q

start_open : (w : World) → AllOpen w → (from source now : ℕ) (g : Agreed) → AllOpen (start_in w from source now g)
start_open w h from source now g =
    all_cond (nat_eq k 0) (make_in w from source now g) (at_end w false k (again_start now (w.node.circuit_at k).end))
    (λ q. all_cond (nat_lt (arriving.living w.node) 8 && nat_lt w.node.drawn 65535)
    (put_circuit w false (suc w.node.drawn) (next_id w.node) from (make_slave now source g (first_end false false w.other)))
    (with_table w false w.node (refusal from source ∷ []))
    (λ r. put_open w false (suc w.node.drawn) (next_id w.node) from (make_slave now source g (first_end false false w.other)) h (record { quiet = λ z. refl; within = omega arith }))
    (record { server = h.server; node = h.node }))
    (step_open w false k (again_start now (w.node.circuit_at k).end) h (open_again now (w.node.circuit_at k).end (h.node k)))
  where
    k : ℕ
    k = slave_of w.node from source

arrive_open : (w : World) → AllOpen w → (b : Bool) (from : ℕ) (bit : Bool) (d source now : ℕ) (g : Agreed) (m : Sent) → AllOpen (arrive w b from bit d source now g m)
arrive_open w h b from bit d source now g (Run mark ask f) =
    let c : CircuitEntry = (table w b).circuit_at d in
    all_cond (is_of c from source && lives c.end && c.end.running && (cond bit (not c.end.master) c.end.master)) (at_end w b d (run_end now ask f c.end).step) w
    (λ q. step_open w b d (run_end now ask f c.end).step h
    (open_run now ask f c.end (and_parts (is_of c from source && lives c.end) c.end.running (and_parts (is_of c from source && lives c.end && c.end.running) (cond bit (not c.end.master) c.end.master) q).0).1 (open_at w h b d))) h
arrive_open w h b from bit d source now g CallStart = all_cond b w (start_in w from source now g) (λ q. h) (start_open w h from source now g)
arrive_open w h b from bit d source now g ReplyStart =
    let c : CircuitEntry = w.server.circuit_at d in
    all_cond b (reply_in w from d source now g) w
    (λ p. all_cond (nat_eq c.address from && lives c.end && (not c.end.running || nat_eq c.end.peer source)) (at_end w true d (hear_reply now source g c.end)) w
    (λ q. step_open w true d (hear_reply now source g c.end) h (open_reply now source g c.end (h.server d))) h) h
arrive_open w h b from bit d source now g (Stopped r) =
    let c : CircuitEntry = (table w b).circuit_at d in
    all_cond (nat_eq c.address from && (nat_eq c.end.peer source || nat_eq source 0) && lives c.end) (at_end w b d (hear_stop now r c.end)) w
    (λ q. step_open w b d (hear_stop now r c.end) h (open_stop now r c.end (open_at w h b d))) h

deliver_open : (w : World) → AllOpen w → (now : ℕ) (g : Agreed) (o : Option Wired) → AllOpen (deliver_in w now g o)
deliver_open w h now g None = h
deliver_open w h now g (Some p) =
    all_cond (nat_eq p.to (table w (not p.by_server)).own) (arrive w (not p.by_server) (table w p.by_server).own p.by_server p.destination p.source now g p.sent) w
    (λ q. arrive_open w h (not p.by_server) (table w p.by_server).own p.by_server p.destination p.source now g p.sent) h

occurs_open : (w : World) → AllOpen w → (e : WorldEvent) → AllOpen (occurs w e)
occurs_open w h (Calls address now) = put_open w true (suc w.server.drawn) (next_id w.server) address (make_master now (first_end true true w.setup)) h (record { quiet = λ z. refl; within = omega arith })
occurs_open w h (Locally b x c) =
    let e : End = ((table w b).circuit_at x).end in
    all_cond (lives e) (at_end w b x (record { end = call_end c e; sent = [] })) w (λ q. step_open w b x (record { end = call_end c e; sent = [] }) h (open_call c e (open_at w h b x))) h
occurs_open w h (Times b x now) =
    let e : End = ((table w b).circuit_at x).end in
    all_cond (lives e) (at_end w b x (time_step now e)) w (λ q. step_open w b x (time_step now e) h (open_time now e (open_at w h b x))) h
occurs_open w h (Moves b x now) =
    let e : End = ((table w b).circuit_at x).end in
    let o : Opens e = open_at w h b x in
    all_cond (lives e) (at_end w b x (record { end = record e { moment = now }; sent = [] })) w (λ q. step_open w b x (record { end = record e { moment = now }; sent = [] }) h (record { quiet = o.quiet; within = o.within })) h
occurs_open w h (Ends b x r) =
    let e : End = ((table w b).circuit_at x).end in
    let o : Opens e = open_at w h b x in
    all_cond (lives e) (at_end w b x (finish r e)) w (λ q. step_open w b x (finish r e) h (record { quiet = o.quiet; within = o.within })) h
occurs_open w h (Lapses b x r) =
    let e : End = ((table w b).circuit_at x).end in
    let o : Opens e = open_at w h b x in
    all_cond (lives e) (at_end w b x (lapse r e)) w (λ q. step_open w b x (lapse r e) h (record { quiet = o.quiet; within = o.within })) h
occurs_open w h (Stops true to d s r) = record { server = h.server; node = h.node }
occurs_open w h (Stops false to d s r) = record { server = h.server; node = h.node }
occurs_open w h (Delivers i now g) = deliver_open w h now g (slice_get w.frames i)
occurs_open w h (Injects b from bit d source now g m) =
    all_cond (nat_eq from w.server.own || nat_eq from w.node.own) w (arrive w b from bit d source now g m) (λ q. h) (arrive_open w h b from bit d source now g m)

go_on_open : (es : List WorldEvent) (w : World) → AllOpen w → AllOpen (go_on es w)
go_on_open [] w h = h
go_on_open (e ∷ es) w h = go_on_open es (occurs w e) (occurs_open w h e)

-- every run of a server and a node
pub run_open : (w : World) → WorldRun w → AllOpen w
run_open w r =
    subst AllOpen (sym r.reached)
    (go_on_open r.events (open_world r.server r.node r.first r.other_first r.setup r.other)
    (record { server = λ k. record { quiet = λ z. refl; within = omega arith }; node = λ k. record { quiet = λ z. refl; within = omega arith } }))

pub window_at : (w : World) → WorldOk w → (b : Bool) (k : ℕ) → ((table w b).circuit_at k).end.window ≤ 8
window_at w ok true k = (ok.windows k).0
window_at w ok false k = (ok.windows k).1
