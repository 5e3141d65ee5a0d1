-- The asks of a master have the generations of their places: the first one the generation 1, and so on.
use Rattle.std.proofs.Common.{◌≡◌, ℕ, zero, suc, ◌+◌, ◌*◌, arith, refl, sym, ap, ◌∙◌, subst, Bool, true, false, not, cond, ◌&&◌, ◌||◌, List, [], ◌∷◌, ◌++◌, Option, Some, None, nat_eq, nat_lt, append_assoc, slice_get}
use Rattle.std.proofs.lemmas.Bool.{false≢true}
use Rattle.lat_model.specs.sessions.Slots.{Slot, Start, DataA, DataB, Attention, Reject, Stop}
use Rattle.lat_model.specs.sessions.Session.{Session, waits}
use Rattle.lat_model.specs.sessions.Sessions.{Sessions, of_generation, named}
use Rattle.lat_model.specs.sessions.Packing.{TaggedSlot, Packing, pack}
use Rattle.lat_model.specs.sessions.Hearing.{HeardAll, hear_all, hear_slot, hear_at, heard, ask_in, behind_fits, names, names_running}
use Rattle.lat_model.specs.sessions.Joined.{Joined, AsksFrom, asks, ask_count, slots_of}
use Rattle.lat_model.specs.sessions.EndOk.{EndOk}
use Rattle.lat_model.specs.sessions.Calls.{Call, call}
use Rattle.lat_model.specs.Lists.{is_empty, any_up_to}
use Rattle.lat_model.specs.numbers.Link.{Frame, showing, form_message, window_open, is_unsent, is_next, ack_in, take_message}
use Rattle.lat_model.specs.ends.End.{wire_of, Sent, Run, CallStart, ReplyStart, Stopped, Half, End, Step, still, then_do, lives, finish, send_bare, all_known, send_message, acknowledge, form_packed, occasion, send_again, send_start, call_end, lapse}
use Rattle.lat_model.specs.ends.Run.{RunStep, RunRepeated, RunBroke, ack_end, take_end, taken_end, broken_end, body_end, after_run, run_end}
use Rattle.lat_model.specs.ends.Timers.{note_empty, passed, silent, unused, a_round, rounds_step, may_form, alive_step, due_step, living, time_step}
use Rattle.lat_model.specs.ends.Starting.{Agreed, reply_end, noted, make_master, make_slave, again_start, hear_reply, hear_stop}
use Rattle.lat_model.specs.circuits.Together.{Log, wires, flat, Together}
use Rattle.lat_model.specs.circuits.History.{History}
use Rattle.lat_model.specs.circuits.World.{CircuitEntry, Table, Wired, World, table, with_table, put_circuit, at_end, first_end}
use Rattle.lat_model.specs.circuits.WorldOk.{WorldOk, mate}
use Rattle.lat_model.specs.circuits.Arriving.{is_of, slave_of, make_in, arrive}
use Rattle.lat_model.specs.circuits.Arriving as Arriving
use Rattle.lat_model.specs.circuits.Events.{deliver_in, WorldEvent, Calls, Locally, Times, Moves, Delivers, Injects, occurs, go_on, Ends, Lapses, Stops}
use Rattle.lat_model.proofs.sessions.Words.{upd_all, upd_field, slots_of-append, asks-append}
use Rattle.lat_model.proofs.sessions.Packs.{pack_up}
use Rattle.lat_model.proofs.sessions.Joins.{Touched}
use Rattle.lat_model.proofs.sessions.Locals.{called}
use Rattle.lat_model.proofs.circuits.Logs.{wires-append, flat-push}
use Rattle.lat_model.proofs.circuits.Streams.{history_up}
use Rattle.lat_model.proofs.circuits.Arrives.{occurs_ok, open_world_ok}
use Rattle.lat_model.proofs.circuits.Kin.{kin_time}
use Rattle.lat_model.specs.circuits.Ids.{next_id}
use Rattle.lat_machines.specs.cores.Cores.{setup_of}
use Rattle.lat_machines.specs.world.Machines.{Setups, Machines}
use Rattle.lat_machines.specs.world.Ties.{Ties}
use Rattle.lat_machines.specs.world.Safe.{Fit, circuits_open, half_of, GenerationsArePlaces}

-- messages with the generations of their slots, in which the asks are numbered
pub record Numbered (a : Half) : Type 0 where
  pub log : Log
  pub wires_is : wires log ≡ a.link.sent
  pub out_is : (g : ℕ) → (of_generation a.sessions g).out ≡ slots_of g (flat log)
  pub places : AsksFrom 0 (flat log)
  pub count : a.sessions.generations ≡ asks (flat log)

-- an end that formed the same
record SameOut (e : Sessions) (f : Sessions) : Type 0 where
  pub out : (g : ℕ) → (of_generation f g).out ≡ (of_generation e g).out
  pub generations : f.generations ≡ e.generations
  pub master : f.master ≡ e.master

same_out : (e : Sessions) → SameOut e e
same_out e = record { out = λ g. refl; generations = refl; master = refl }

out_then : (e f h : Sessions) → SameOut e f → SameOut f h → SameOut e h
out_then e f h p q = record { out = λ g. q.out g ∙ p.out g; generations = q.generations ∙ p.generations; master = q.master ∙ p.master }

numbered_as : (a b : Half) → b.link.sent ≡ a.link.sent → SameOut a.sessions b.sessions → Numbered a → Numbered b
numbered_as a b q s n = record { log = n.log; wires_is = n.wires_is ∙ sym q; out_is = λ g. s.out g ∙ n.out_is g; places = n.places; count = s.generations ∙ n.count }

-- asks on, behind others

asks_after : (n : ℕ) (xs ys : List TaggedSlot) → AsksFrom n (xs ++ ys) → AsksFrom (n + asks xs) ys
asks_after n [] ys h = let e : n ≡ n + 0 = omega arith in subst (λ z. AsksFrom z ys) e h
asks_after n (o ∷ xs) ys h = let e : (n + ask_count o.slot) + asks xs ≡ n + (ask_count o.slot + asks xs) = omega arith in subst (λ z. AsksFrom z ys) e (asks_after (n + ask_count o.slot) xs ys h.1)

asks_join : (n : ℕ) (xs ys : List TaggedSlot) → AsksFrom n xs → AsksFrom (n + asks xs) ys → AsksFrom n (xs ++ ys)
asks_join n [] ys p q = let e : n + 0 ≡ n = omega arith in subst (λ z. AsksFrom z ys) e q
asks_join n (o ∷ xs) ys p q = (p.0, asks_join (n + ask_count o.slot) xs ys p.1 (let e : n + (ask_count o.slot + asks xs) ≡ (n + ask_count o.slot) + asks xs = omega arith in subst (λ z. AsksFrom z ys) e q))

-- some other end beside it
record Fits (m : Sessions) : Type 0 where
  pub other : Sessions
  pub up : List TaggedSlot
  pub down : List TaggedSlot
  pub joined : Joined m other up down

abbrev Both : Half → Type 0
Both a = Numbered a × Fits a.sessions

form_both : (a : Half) (room : ℕ) → Both a → Both (record { link = form_message a.link (wire_of (pack room a.sessions).slots); sessions = (pack room a.sessions).after })
form_both a room b = (
  record {
    log = n.log ++ p.slots ∷ [];
    wires_is = wires-append n.log (p.slots ∷ []) ∙ ap (λ z. z ++ wire_of p.slots ∷ []) n.wires_is;
    out_is = outs;
    places = subst (AsksFrom 0) (sym (flat-push n.log p.slots)) (asks_join 0 (flat n.log) p.slots n.places (subst (λ z. AsksFrom z p.slots) from (asks_after f.other.generations f.up p.slots k.asks_up)));
    count = counts ∙ ap asks (sym (flat-push n.log p.slots));
  },
  record { other = f.other; up = f.up ++ p.slots; down = f.down; joined = k },
)
  where
    n : Numbered a
    n = b.0

    f : Fits a.sessions
    f = b.1

    p : Packing
    p = pack room a.sessions

    k : Joined p.after f.other (f.up ++ p.slots) f.down
    k = pack_up a.sessions f.other f.up f.down room f.joined

    outs : (g : ℕ) → (of_generation p.after g).out ≡ slots_of g (flat (n.log ++ p.slots ∷ []))
    outs g =
        k.flow_up.at_generation g
        ∙ (ap (λ z. (of_generation f.other g).came ++ z) (slots_of-append g f.up p.slots)
        ∙ (sym (append_assoc (of_generation f.other g).came (slots_of g f.up) (slots_of g p.slots))
        ∙ (ap (λ z. z ++ slots_of g p.slots) (sym (f.joined.flow_up.at_generation g) ∙ n.out_is g)
        ∙ (sym (slots_of-append g (flat n.log) p.slots) ∙ ap (slots_of g) (sym (flat-push n.log p.slots))))))

    from : f.other.generations + asks f.up ≡ 0 + asks (flat n.log)
    from = let c : a.sessions.generations ≡ asks (flat n.log) = n.count in let d : a.sessions.generations ≡ f.other.generations + asks f.up = f.joined.asked in omega (arith, c, d)

    counts : p.after.generations ≡ asks (flat n.log ++ p.slots)
    counts =
        let c : p.after.generations ≡ f.other.generations + asks (f.up ++ p.slots) = k.asked in
        let d : asks (f.up ++ p.slots) ≡ asks f.up + asks p.slots = asks-append f.up p.slots in
        let e : asks (flat n.log ++ p.slots) ≡ asks (flat n.log) + asks p.slots = asks-append (flat n.log) p.slots in
        let h : f.other.generations + asks f.up ≡ 0 + asks (flat n.log) = from in
        omega (arith, c, d, e, h)

-- a master is given a moment

shown_both : (a : Half) → Both a → Both (record a { link = showing a.link })
shown_both a b = (numbered_as a (record a { link = showing a.link }) refl (same_out a.sessions) b.0, b.1)

both_cond : (n : Bool) (s t : Step) → Both s.end.half → Both t.end.half → Both (cond n s t).end.half
both_cond true s t p q = p
both_cond false s t p q = q

acknowledge_both : (e : End) → Both e.half → Both (acknowledge e).end.half
acknowledge_both e b = both_cond e.owed (send_bare false e) (still e) (shown_both e.half b) b

occasion_both : (e : End) → Both e.half → Both (occasion e).end.half
occasion_both e b =
    let p : Packing = pack e.room e.half.sessions in
    both_cond (window_open e.window e.half.link) (form_packed p e) (acknowledge e)
    (both_cond (is_empty p.slots) (acknowledge e) (send_message p e) (acknowledge_both e b) (form_both e.half e.room b)) (acknowledge_both e b)

rounds_both : (e : End) → Both e.half → Both (rounds_step e).end.half
rounds_both e b =
    both_cond e.running (cond (not (all_known e) && passed e.since 1000 e) (a_round send_again e) (still e)) (cond (passed e.start_at 1000 e) (a_round send_start e) (still e))
    (both_cond (not (all_known e) && passed e.since 1000 e) (a_round send_again e) (still e) (both_cond (nat_lt e.rounds 8) (send_again e) (finish 6 e) (shown_both e.half b) b) b)
    (both_cond (passed e.start_at 1000 e) (a_round send_start e) (still e) (both_cond (nat_lt e.rounds 8) (send_start e) (finish 6 e) b b) b)

due_both : (e : End) → Both e.half → Both (due_step e).end.half
due_both e b =
    let d : End = record e { due_at = e.moment } in
    let s : Step = cond (may_form e) (occasion d) (still d) in
    let k : Both s.end.half = both_cond (may_form e) (occasion d) (still d) (occasion_both d b) b in
    both_cond (passed e.due_at (10 * e.timer) e) (then_do s alive_step) (still e)
    (both_cond (s.end.master && s.end.running && passed s.end.sent_at (1000 * s.end.keepalive) s.end) (send_bare true s.end) (still s.end) (shown_both s.end.half k) k) b

time_both : (now : ℕ) (e : End) → Both e.half → Both (time_step now e).end.half
time_both now e b =
    let d : End = record e { moment = now } in
    let r : End = (rounds_step d).end in
    both_cond (silent d) (finish 6 d) (cond (unused d) (finish 3 d) (then_do (rounds_step d) (living due_step))) b
    (both_cond (unused d) (finish 3 d) (then_do (rounds_step d) (living due_step)) b (both_cond (lives r) (due_step r) (still r) (due_both r (rounds_both d b)) (rounds_both d b)))

-- a master hears slots

some_when : (b : Bool) (a f : Sessions) → cond b (Some a) None ≡ Some f → a ≡ f
some_when true a f q = cc
some_when false a f q = let z : ⊥ = cc in absurd z

heard_same : (e : Sessions) (k : ℕ) (x : Slot) → SameOut e (hear_at e k x)
heard_same e k x = record { out = λ g. upd_field (λ (z : Session). z.out) e.session k (heard (e.session k) x) refl (e.serial_of g); generations = refl; master = refl }

slot_same : (e : Sessions) (x : Slot) (f : Sessions) → e.master ≡ true → hear_slot e x ≡ Some f → SameOut e f
slot_same e (Start zero from c size service request) f m q = absurd (never e.master m q)
  where
    never : (b : Bool) → b ≡ true → cond (b || any_up_to (λ k. names from (e.session k)) e.made) None (Some (ask_in e (Start 0 from c size service request) service request)) ≡ Some f → ⊥
    never true h q = let z : ⊥ = cc in z
    never false h q = absurd (false≢true h)
slot_same e (Start (suc to) from c size service request) f m q = subst (SameOut e) (some_when (e.master && waits (named e (suc to)) && not (any_up_to (λ k. names_running from (e.session k)) e.made)) (hear_at e (e.at_id (suc to)) (Start (suc to) from c size service request)) f q) (heard_same e (e.at_id (suc to)) (Start (suc to) from c size service request))
slot_same e (Reject to from reason) f m q = subst (SameOut e) (some_when (e.master && waits (named e to)) (hear_at e (e.at_id to) (Reject to from reason)) f q) (heard_same e (e.at_id to) (Reject to from reason))
slot_same e (DataA to from c bytes) f m q = subst (SameOut e) (some_when (behind_fits (named e to) (DataA to from c bytes)) (hear_at e (e.at_id to) (DataA to from c bytes)) f q) (heard_same e (e.at_id to) (DataA to from c bytes))
slot_same e (DataB to from c setting) f m q = subst (SameOut e) (some_when (behind_fits (named e to) (DataB to from c setting)) (hear_at e (e.at_id to) (DataB to from c setting)) f q) (heard_same e (e.at_id to) (DataB to from c setting))
slot_same e (Attention to from flag) f m q = subst (SameOut e) (some_when (behind_fits (named e to) (Attention to from flag)) (hear_at e (e.at_id to) (Attention to from flag)) f q) (heard_same e (e.at_id to) (Attention to from flag))
slot_same e (Stop to from reason) f m q = subst (SameOut e) (some_when (behind_fits (named e to) (Stop to from reason)) (hear_at e (e.at_id to) (Stop to from reason)) f q) (heard_same e (e.at_id to) (Stop to from reason))

slots_same : (xs : List Slot) (e : Sessions) → e.master ≡ true → SameOut e (hear_all xs e).after
slots_same [] e m = same_out e
slots_same (x ∷ xs) e m = go (hear_slot e x) refl (λ f. slots_same xs f)
  where
    told : Option Sessions → HeardAll
    told o = elim o [ None ↦ record { after = e; good = false } | Some f ↦ hear_all xs f ]

    go : (o : Option Sessions) → hear_slot e x ≡ o → ((f : Sessions) → f.master ≡ true → SameOut f (hear_all xs f).after) → SameOut e (told o).after
    go None q h = same_out e
    go (Some f) q h = let s : SameOut e f = slot_same e x f m q in out_then e f (hear_all xs f).after s (h f (s.master ∙ m))

-- a master hears a RUN

abbrev pub Placed : End → Type 0
Placed e = (e.master ≡ true) × Numbered e.half

placed_run : (n : Bool) (r q : RunStep) → Placed r.step.end → Placed q.step.end → Placed (cond n r q).step.end
placed_run true r q x y = x
placed_run false r q x y = y

ack_placed : (a : ℕ) (e : End) → Placed e → Placed (ack_end a e)
ack_placed a e p = go (nat_lt e.half.link.known a) (numbered_as e.half (record (e.half) { link = ack_in e.half.link a }) refl (same_out e.half.sessions) p.1)
  where
    go : (n : Bool) → Numbered (record (e.half) { link = ack_in e.half.link a }) → Placed (cond n (record e { half = record (e.half) { link = ack_in e.half.link a }; rounds = 0; since = e.moment }) (record e { half = record (e.half) { link = ack_in e.half.link a } }))
    go true h = (p.0, h)
    go false h = (p.0, h)

body_placed : (n : ℕ) (ask : Bool) (o : Option (List Slot)) (e : End) → e.half.sessions.master ≡ true → Placed e → Placed (body_end n ask o e).step.end
body_placed n ask None e m p = p
body_placed n ask (Some []) e m p = p
body_placed n ask (Some (x ∷ xs)) e m p =
    let h : HeardAll = hear_all (x ∷ xs) e.half.sessions in
    let s : SameOut e.half.sessions h.after = slots_same (x ∷ xs) e.half.sessions m in
    placed_run (is_next e.half.link n) (take_end (x ∷ xs) e) (record { step = still (record e { owed = true }); answer = RunRepeated })
    (placed_run h.good (taken_end (x ∷ xs) h.after e) (broken_end h.after e)
    (p.0, numbered_as e.half (record { link = take_message e.half.link (x ∷ xs); sessions = h.after }) refl s p.1)
    (p.0, numbered_as e.half (record (e.half) { sessions = h.after }) refl s p.1))
    p

after_placed : (r : RunStep) → Placed r.step.end → Placed (after_run r).step.end
after_placed r p = go (lives d) d.master p.0
  where
    d : End
    d = r.step.end

    go : (n b : Bool) → b ≡ true → Placed (cond n (cond b (still d) (occasion d)) (still d)).end
    go true true q = p
    go true false q = absurd (false≢true q)
    go false b q = p

run_placed : (now : ℕ) (ask : Bool) (f : Frame (List Slot)) (e : End) → e.half.sessions.master ≡ true → Placed e → Placed (run_end now ask f e).step.end
run_placed now ask f e m p =
    let d : End = record e { moment = now; heard_at = now; heard_run = true } in
    let c : End = ack_end f.acknowledgement d in
    placed_run (is_unsent d.half.link f.acknowledgement) (record { step = finish 2 d; answer = RunBroke }) (after_run (body_end f.number ask f.body c)) p
    (after_placed (body_end f.number ask f.body c) (body_placed f.number ask f.body c (ack_master f.acknowledgement d m) (ack_placed f.acknowledgement d p)))
  where
    ack_master : (a : ℕ) (e : End) → e.half.sessions.master ≡ true → (ack_end a e).half.sessions.master ≡ true
    ack_master a e m = go (nat_lt e.half.link.known a)
      where
        go : (n : Bool) → (cond n (record e { half = record (e.half) { link = ack_in e.half.link a }; rounds = 0; since = e.moment }) (record e { half = record (e.half) { link = ack_in e.half.link a } })).half.sessions.master ≡ true
        go true = m
        go false = m

-- in the world of circuits: each circuit of the server to the node's address

abbrev pub AllPlaced : World → Type 0
AllPlaced w = (p : ℕ) → (w.server.circuit_at p).address ≡ w.node.own → Placed (w.server.circuit_at p).end

all_cond : (n : Bool) (v w : World) → (n ≡ true → AllPlaced v) → AllPlaced w → AllPlaced (cond n v w)
all_cond true v w p q = p refl
all_cond false v w p q = q

put_placed : (w : World) (b : Bool) (drawn x address : ℕ) (s : Step) → AllPlaced w → (b ≡ true → address ≡ w.node.own → Placed s.end) → AllPlaced (put_circuit w b drawn x address s)
put_placed w true drawn x address s m h y = upd_all (λ (z : CircuitEntry). z.address ≡ w.node.own → Placed z.end) w.server.circuit_at x (record { address = address; end = s.end }) (h refl) m y
put_placed w false drawn x address s m h y = m y

-- a step of one circuit
at_placed : (w : World) (b : Bool) (x : ℕ) (s : Step) → AllPlaced w → (b ≡ true → (w.server.circuit_at x).address ≡ w.node.own → Placed (w.server.circuit_at x).end → Placed s.end) → AllPlaced (at_end w b x s)
at_placed w true x s m h = put_placed w true w.server.drawn x (w.server.circuit_at x).address (note_empty (w.server.circuit_at x).end s) m (λ q a. h refl a (m x a))
at_placed w false x s m h = put_placed w false w.node.drawn x (w.node.circuit_at x).address (note_empty (w.node.circuit_at x).end s) m (λ q. absurd (false≢true q))

-- beside its mate
fits_at : (w : World) → WorldOk w → (x : ℕ) → (w.server.circuit_at x).address ≡ w.node.own → Together (w.server.circuit_at x).end.half (mate w x) []
fits_at w ok x a = ok.matched x a

reply_placed : (now source : ℕ) (g : Agreed) (e : End) → Placed e → Placed (hear_reply now source g e).end
reply_placed now source g e p = go (lives e) e.running
  where
    go : (n m : Bool) → Placed (cond n (cond m (noted now e) (still (reply_end now source g e))) (still e)).end
    go true true = p
    go true false = (p.0, record { log = p.1.log; wires_is = p.1.wires_is; out_is = p.1.out_is; places = p.1.places; count = p.1.count })
    go false m = p

stop_placed : (now r : ℕ) (e : End) → Placed e → Placed (hear_stop now r e).end
stop_placed now r e p = go (lives e)
  where
    go : (n : Bool) → Placed (cond n (still (record e { ended = Some r; moment = now })) (still e)).end
    go true = p
    go false = p

arrive_placed : (w : World) (b : Bool) (from : ℕ) (bit : Bool) (destination source now : ℕ) (g : Agreed) (s : Sent) → WorldOk w → AllPlaced w → AllPlaced (arrive w b from bit destination source now g s)
arrive_placed w true from bit destination source now g (Run k ask f) ok m =
    let c : CircuitEntry = w.server.circuit_at destination in
    all_cond (is_of c from source && lives c.end && c.end.running && (cond bit (not c.end.master) c.end.master)) (at_end w true destination (run_end now ask f c.end).step) w
    (λ i. at_placed w true destination (run_end now ask f c.end).step m (λ q a. run_placed now ask f c.end (fits_at w ok destination a).joined.master)) m
arrive_placed w false from bit destination source now g (Run k ask f) ok m =
    let c : CircuitEntry = w.node.circuit_at destination in
    all_cond (is_of c from source && lives c.end && c.end.running && (cond bit (not c.end.master) c.end.master)) (at_end w false destination (run_end now ask f c.end).step) w (λ i. at_placed w false destination (run_end now ask f c.end).step m (λ q. absurd (false≢true q))) m
arrive_placed w true from bit destination source now g CallStart ok m = m
arrive_placed w false from bit destination source now g CallStart ok m =
    let k : ℕ = slave_of w.node from source in
    all_cond (nat_eq k 0) (make_in w from source now g) (at_end w false k (again_start now (w.node.circuit_at k).end))
    (λ i. all_cond (nat_lt (Arriving.living w.node) 8 && nat_lt w.node.drawn 65535) (put_circuit w false (suc w.node.drawn) (next_id w.node) from (make_slave now source g (first_end false false w.other))) (with_table w false w.node (record { by_server = false; circuit = 0; to = from; destination = source; source = 0; sent = Stopped 7 } ∷ [])) (λ j. m) m)
    m
arrive_placed w true from bit destination source now g ReplyStart ok m =
    let c : CircuitEntry = w.server.circuit_at destination in
    all_cond (nat_eq c.address from && lives c.end && (not c.end.running || nat_eq c.end.peer source)) (at_end w true destination (hear_reply now source g c.end)) w
    (λ i. at_placed w true destination (hear_reply now source g c.end) m (λ q a. reply_placed now source g c.end)) m
arrive_placed w false from bit destination source now g ReplyStart ok m = m
arrive_placed w b from bit destination source now g (Stopped r) ok m =
    let c : CircuitEntry = (table w b).circuit_at destination in
    all_cond (nat_eq c.address from && (nat_eq c.end.peer source || nat_eq source 0) && lives c.end) (at_end w b destination (hear_stop now r c.end)) w (λ i. stops b) m
  where
    stops : (b : Bool) → AllPlaced (at_end w b destination (hear_stop now r ((table w b).circuit_at destination).end))
    stops true = at_placed w true destination (hear_stop now r (w.server.circuit_at destination).end) m (λ q a. stop_placed now r (w.server.circuit_at destination).end)
    stops false = at_placed w false destination (hear_stop now r (w.node.circuit_at destination).end) m (λ q. absurd (false≢true q))

deliver_placed : (w : World) (now : ℕ) (g : Agreed) (o : Option Wired) → WorldOk w → AllPlaced w → AllPlaced (deliver_in w now g o)
deliver_placed w now g None ok m = m
deliver_placed w now g (Some p) ok m =
    all_cond (nat_eq p.to (table w (not p.by_server)).own) (arrive w (not p.by_server) (table w p.by_server).own p.by_server p.destination p.source now g p.sent) w
    (λ i. arrive_placed w (not p.by_server) (table w p.by_server).own p.by_server p.destination p.source now g p.sent ok m) m

-- an event of one circuit of either side
step_placed : (w : World) (b : Bool) (x : ℕ) (f : End → Step) → AllPlaced w → ((w.server.circuit_at x).address ≡ w.node.own → Placed (w.server.circuit_at x).end → Placed (f (w.server.circuit_at x).end).end) → AllPlaced (cond (lives ((table w b).circuit_at x).end) (at_end w b x (f ((table w b).circuit_at x).end)) w)
step_placed w true x f m h = all_cond (lives (w.server.circuit_at x).end) (at_end w true x (f (w.server.circuit_at x).end)) w (λ i. at_placed w true x (f (w.server.circuit_at x).end) m (λ q. h)) m
step_placed w false x f m h = all_cond (lives (w.node.circuit_at x).end) (at_end w false x (f (w.node.circuit_at x).end)) w (λ i. at_placed w false x (f (w.node.circuit_at x).end) m (λ q. absurd (false≢true q))) m

call_placed : (c : Call) (e : End) → EndOk e.half.sessions → Placed e → Placed (call_end c e)
call_placed c e ok p =
    let t : Touched e.half.sessions (call e.half.sessions c) = called e.half.sessions c ok in
    (p.0, numbered_as e.half (record (e.half) { sessions = call e.half.sessions c }) refl (record { out = t.out; generations = t.generations; master = t.master }) p.1)

time_placed : (now : ℕ) (e : End) (s : Half) → Together e.half s [] → Placed e → Placed (time_step now e).end
time_placed now e s t p = ((kin_time now e).master ∙ p.0, (time_both now e (p.1, record { other = s.sessions; up = flat t.up; down = flat t.down; joined = t.joined })).0)

event_placed : (w : World) (e : WorldEvent) → WorldOk w → AllPlaced w → AllPlaced (occurs w e)
event_placed w (Calls address now) ok m = put_placed w true (suc w.server.drawn) (next_id w.server) address (make_master now (first_end true true w.setup)) m (λ q a. (refl, record { log = []; wires_is = refl; out_is = λ g. refl; places = tt; count = refl }))
event_placed w (Locally b x c) ok m = step_placed w b x (λ e. record { end = call_end c e; sent = [] }) m (λ a. call_placed c (w.server.circuit_at x).end (fits_at w ok x a).joined.master_ok)
event_placed w (Times b x now) ok m = step_placed w b x (time_step now) m (λ a. time_placed now (w.server.circuit_at x).end (mate w x) (fits_at w ok x a))
event_placed w (Moves b x now) ok m = step_placed w b x (λ e. record { end = record e { moment = now }; sent = [] }) m (λ a p. p)
event_placed w (Ends b x r) ok m = step_placed w b x (finish r) m (λ a p. p)
event_placed w (Lapses b x r) ok m = step_placed w b x (lapse r) m (λ a p. p)
event_placed w (Stops true to d s r) ok m = m
event_placed w (Stops false to d s r) ok m = m
event_placed w (Delivers i now g) ok m = deliver_placed w now g (slice_get w.frames i) ok m
event_placed w (Injects b from bit destination source now g s) ok m = foreign (nat_eq from w.server.own || nat_eq from w.node.own)
  where
    foreign : (n : Bool) → AllPlaced (cond n w (arrive w b from bit destination source now g s))
    foreign true = m
    foreign false = arrive_placed w b from bit destination source now g s ok m

placed_on : (es : List WorldEvent) (w : World) → WorldOk w → AllPlaced w → AllPlaced (go_on es w)
placed_on [] w ok m = m
placed_on (e ∷ es) w ok m = placed_on es (occurs w e) (occurs_ok w ok e) (event_placed w e ok m)

pub places : (u : Setups) (m : Machines) (es : List WorldEvent) → Fit u → Ties u m (go_on es (circuits_open u)) → WorldOk (go_on es (circuits_open u)) → GenerationsArePlaces u m
places u m es f t ok p q s = record { history = record { formed = n.log; taken = h.taken; formed_is = n.wires_is; taken_is = h.taken_is; out_is = n.out_is; came_is = h.came_is }; places = n.places; count = n.count }
  where
    w : World
    w = go_on es (circuits_open u)

    placed : AllPlaced w
    placed = placed_on es (circuits_open u) (open_world_ok u.server.own u.node.own u.server.first u.node.first (setup_of u.server.timing) (setup_of u.node.timing) f.apart f.server_ceiling f.node_ceiling) (λ x a. (refl, record { log = []; wires_is = refl; out_is = λ g. refl; places = tt; count = refl }))

    address : (w.server.circuit_at p).address ≡ w.node.own
    address = ap (λ (z : Table). (z.circuit_at p).address) t.server ∙ (s.address ∙ sym t.node_own)

    n : Numbered (half_of m true p)
    n = subst (λ (z : Table). Numbered (z.circuit_at p).end.half) t.server (placed p address).1

    h : History (half_of m true p)
    h = subst (λ (z : Table). History (z.circuit_at p).end.half) t.server (history_up (w.server.circuit_at p).end.half (mate w p) [] (ok.matched p address))
