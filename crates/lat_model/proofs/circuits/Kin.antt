-- What no step changes: the peer's id, whether the circuit runs, its side. And what a slave without a RUN does: nothing.
use Rattle.std.proofs.Common.{◌≡◌, ℕ, ◌*◌, ap, ap₂, ◌∙◌, refl, sym, ◌+◌, zero, suc, map, take, nat_eq, Bool, true, false, not, cond, ◌&&◌, ◌||◌, List, [], ◌∷◌, length, Option, Some, None, nat_lt, nat_le}
use Rattle.std.proofs.lemmas.Bool.{true≢false}
use Rattle.lat_model.specs.sessions.Slots.{Byte, Setting, Slot, Start, DataA, DataB, Attention, Reject, Stop}
use Rattle.lat_model.specs.sessions.Sessions.{Sessions, named, held}
use Rattle.lat_model.specs.sessions.Packing.{pack, form, first_form, next_form, Packing, turn_by, turn, turn_all, turns}
use Rattle.lat_model.specs.sessions.Hearing.{hear_all, HeardAll, names, names_running, ask_in, hear_at, behind_fits, hear_slot}
use Rattle.lat_model.specs.Lists.{is_empty, any_up_to}
use Rattle.lat_model.specs.sessions.Offers.{Offer, Nothing, Unfit, Offers, offer}
use Rattle.lat_model.specs.sessions.Session.{waits, put_open, take_open, unframed}
use Rattle.lat_model.specs.sessions.Calls.{Call, Connect, Put, Set, Attend, Take, Close, Answer, RejectAsk, call, connect, touch, put_items, put_count, take_count, answer, reject}
use Rattle.lat_model.specs.numbers.Link.{Link, Frame, window_open, is_next, ack_in, take_message}
use Rattle.lat_model.specs.ends.End.{ReplyStart, Half, End, Step, still, then_do, lives, finish, send_bare, all_known, send_message, acknowledge, form_packed, occasion, send_again, send_start, call_end}
use Rattle.lat_model.specs.ends.Run.{RunTaken, RunRepeated, RunBroke, RunStep, ack_end, take_end, body_end, after_run, run_end}
use Rattle.lat_model.specs.ends.Timers.{passed, silent, unused, a_round, rounds_step, may_form, alive_step, due_step, living, time_step}
use Rattle.lat_model.specs.ends.Starting.{again_start, hear_stop, void_sessions}
use Rattle.lat_model.specs.circuits.WorldOk.{Idle}

-- which side an end's sessions are on never changes

form_master : (e : Sessions) (k : ℕ) (x : Slot) → (form e k x).master ≡ e.master
form_master e k x = go (nat_eq (e.session k).generation 0)
  where
    go : (b : Bool) → (cond b (first_form e k x) (next_form e k x)).master ≡ e.master
    go true = refl
    go false = refl

turn_master : (p : Packing) (k : ℕ) → (turn p k).after.master ≡ p.after.master
turn_master p k = go p.going (offer p.after.master p.after.ceiling p.room (p.after.session k))
  where
    go : (b : Bool) (o : Offer) → (cond b (turn_by p k o) p).after.master ≡ p.after.master
    go false o = refl
    go true Nothing = refl
    go true Unfit = refl
    go true (Offers x) = form_master p.after k x

turns_master : (ks : List ℕ) (p : Packing) → (turn_all ks p).after.master ≡ p.after.master
turns_master [] p = refl
turns_master (k ∷ ks) p = turns_master ks (turn p k) ∙ turn_master p k

pack_master : (room : ℕ) (e : Sessions) → (pack room e).after.master ≡ e.master
pack_master room e = turns_master (turns e) (record { after = e; slots = []; room = room; left = 255; going = true })

some_when : (b : Bool) (a f : Sessions) → cond b (Some a) None ≡ Some f → a ≡ f
some_when true a f q = cc
some_when false a f q = let z : ⊥ = cc in absurd z

none_when : (b : Bool) (a f : Sessions) → cond b None (Some a) ≡ Some f → a ≡ f
none_when true a f q = let z : ⊥ = cc in absurd z
none_when false a f q = cc

slot_master : (e : Sessions) (x : Slot) (f : Sessions) → hear_slot e x ≡ Some f → f.master ≡ e.master
slot_master e (Start zero from c size service request) f q = ap (λ (z : Sessions). z.master) (sym (none_when (e.master || any_up_to (λ k. names from (e.session k)) e.made) (ask_in e (Start 0 from c size service request) service request) f q))
slot_master e (Start (suc to) from c size service request) f q = ap (λ (z : Sessions). z.master) (sym (some_when (e.master && waits (named e (suc to)) && not (any_up_to (λ k. names_running from (e.session k)) e.made)) (hear_at e (e.at_id (suc to)) (Start (suc to) from c size service request)) f q))
slot_master e (Reject to from reason) f q = ap (λ (z : Sessions). z.master) (sym (some_when (e.master && waits (named e to)) (hear_at e (e.at_id to) (Reject to from reason)) f q))
slot_master e (DataA to from c bytes) f q = ap (λ (z : Sessions). z.master) (sym (some_when (behind_fits (named e to) (DataA to from c bytes)) (hear_at e (e.at_id to) (DataA to from c bytes)) f q))
slot_master e (DataB to from c setting) f q = ap (λ (z : Sessions). z.master) (sym (some_when (behind_fits (named e to) (DataB to from c setting)) (hear_at e (e.at_id to) (DataB to from c setting)) f q))
slot_master e (Attention to from flag) f q = ap (λ (z : Sessions). z.master) (sym (some_when (behind_fits (named e to) (Attention to from flag)) (hear_at e (e.at_id to) (Attention to from flag)) f q))
slot_master e (Stop to from reason) f q = ap (λ (z : Sessions). z.master) (sym (some_when (behind_fits (named e to) (Stop to from reason)) (hear_at e (e.at_id to) (Stop to from reason)) f q))

hear_master : (xs : List Slot) (e : Sessions) → (hear_all xs e).after.master ≡ e.master
hear_master [] e = refl
hear_master (x ∷ xs) e = go (hear_slot e x) refl (λ f. hear_master xs f)
  where
    told : Option Sessions → HeardAll
    told o = elim o [ None ↦ record { after = e; good = false } | Some f ↦ hear_all xs f ]

    go : (o : Option Sessions) → hear_slot e x ≡ o → ((f : Sessions) → (hear_all xs f).after.master ≡ f.master) → (told o).after.master ≡ e.master
    go None q h = refl
    go (Some f) q h = h f ∙ slot_master e x f q

call_cond : (b : Bool) (x y : Sessions) (m : Bool) → x.master ≡ m → y.master ≡ m → (cond b x y).master ≡ m
call_cond true x y m p q = p
call_cond false x y m p q = q

pub call_master : (e : Sessions) (c : Call) → (call e c).master ≡ e.master
call_master e (Connect service request) = call_cond (e.master && nat_lt (held e) e.agreed) (connect e service request) e e.master refl refl
call_master e (Put id bs) = call_cond (put_open (named e id)) (touch e (e.at_id id) (put_items (named e id) (map Byte (take (put_count (named e id) (length bs)) bs)))) e e.master refl refl
call_master e (Set id t) = call_cond (put_open (named e id) && nat_lt (length (unframed (named e id))) 4096) (touch e (e.at_id id) (put_items (named e id) (Setting t ∷ []))) e e.master refl refl
call_master e (Attend id flag) = call_cond (put_open (named e id)) (touch e (e.at_id id) (record (named e id) { attention = Some flag })) e e.master refl refl
call_master e (Take id n) = call_cond (take_open (named e id)) (touch e (e.at_id id) (record (named e id) { taken = (named e id).taken + take_count (named e id) n })) e e.master refl refl
call_master e (Close id) = call_cond (take_open (named e id)) (touch e (e.at_id id) (record (named e id) { closed = true })) e e.master refl refl
call_master e (Answer id) = call_cond (not e.master && waits (named e id)) (answer e id) e e.master refl refl
call_master e (RejectAsk id reason) = call_cond (not e.master && waits (named e id)) (reject e id reason) e e.master refl refl

pub record Kin (e : End) (f : End) : Type 0 where
  pub peer : f.peer ≡ e.peer
  pub running : f.running ≡ e.running
  pub master : f.master ≡ e.master
  pub window : f.window ≡ e.window
  pub wide : f.wide ≡ e.wide
  pub sessions : f.half.sessions.master ≡ e.half.sessions.master

kin : (e : End) → Kin e e
kin e = record { peer = refl; running = refl; master = refl; window = refl; wide = refl; sessions = refl }

kin_then : (e : End) (s : Step) (f : End → Step) → Kin e s.end → Kin s.end (f s.end).end → Kin e (then_do s f).end
kin_then e s f p q = record { peer = q.peer ∙ p.peer; running = q.running ∙ p.running; master = q.master ∙ p.master; window = q.window ∙ p.window; wide = q.wide ∙ p.wide; sessions = q.sessions ∙ p.sessions }

kin_cond : (e : End) (c : Bool) (s t : Step) → Kin e s.end → Kin e t.end → Kin e (cond c s t).end
kin_cond e true s t p q = p
kin_cond e false s t p q = q

pub kin_finish : (r : ℕ) (e : End) → Kin e (finish r e).end
kin_finish r e = record { peer = refl; running = refl; master = refl; window = refl; wide = refl; sessions = refl }

kin_bare : (a : Bool) (e : End) → Kin e (send_bare a e).end
kin_bare a e = record { peer = refl; running = refl; master = refl; window = refl; wide = refl; sessions = refl }

kin_acknowledge : (e : End) → Kin e (acknowledge e).end
kin_acknowledge e = kin_cond e e.owed (send_bare false e) (still e) (kin_bare false e) (kin e)

kin_occasion : (e : End) → Kin e (occasion e).end
kin_occasion e =
    kin_cond e (window_open e.window e.half.link) (form_packed (pack e.room e.half.sessions) e) (acknowledge e)
    (kin_cond e (is_empty (pack e.room e.half.sessions).slots) (acknowledge e) (send_message (pack e.room e.half.sessions) e) (kin_acknowledge e) (record { peer = refl; running = refl; master = refl; window = refl; wide = refl; sessions = pack_master e.room e.half.sessions }))
    (kin_acknowledge e)

kin_rounds : (e : End) → Kin e (rounds_step e).end
kin_rounds e =
    kin_cond e e.running (cond (not (all_known e) && passed e.since 1000 e) (a_round send_again e) (still e)) (cond (passed e.start_at 1000 e) (a_round send_start e) (still e))
    (kin_cond e (not (all_known e) && passed e.since 1000 e) (a_round send_again e) (still e) (kin_cond e (nat_lt e.rounds 8) (send_again e) (finish 6 e) (record { peer = refl; running = refl; master = refl; window = refl; wide = refl; sessions = refl }) (kin_finish 6 e)) (kin e))
    (kin_cond e (passed e.start_at 1000 e) (a_round send_start e) (still e) (kin_cond e (nat_lt e.rounds 8) (send_start e) (finish 6 e) (record { peer = refl; running = refl; master = refl; window = refl; wide = refl; sessions = refl }) (kin_finish 6 e)) (kin e))

kin_living : (f : End → Step) (e : End) → Kin e (f e).end → Kin e (living f e).end
kin_living f e p = kin_cond e (lives e) (f e) (still e) p (kin e)

kin_due : (e : End) → Kin e (due_step e).end
kin_due e =
    let d : End = record e { due_at = e.moment } in
    let s : Step = cond (may_form e) (occasion d) (still d) in
    let k : Kin e s.end = kin_cond e (may_form e) (occasion d) (still d) (record { peer = (kin_occasion d).peer; running = (kin_occasion d).running; master = (kin_occasion d).master; window = (kin_occasion d).window; wide = (kin_occasion d).wide; sessions = (kin_occasion d).sessions }) (record { peer = refl; running = refl; master = refl; window = refl; wide = refl; sessions = refl }) in
    kin_cond e (passed e.due_at (10 * e.timer) e) (then_do s alive_step) (still e)
    (kin_then e s alive_step k (kin_cond s.end (s.end.master && s.end.running && passed s.end.sent_at (1000 * s.end.keepalive) s.end) (send_bare true s.end) (still s.end) (kin_bare true s.end) (kin s.end)))
    (kin e)

kin_moment : (e : End) (now : ℕ) (f : End) → Kin (record e { moment = now }) f → Kin e f
kin_moment e now f k = record { peer = k.peer; running = k.running; master = k.master; window = k.window; wide = k.wide; sessions = k.sessions }

pub kin_time : (now : ℕ) (e : End) → Kin e (time_step now e).end
kin_time now e =
    let d : End = record e { moment = now } in
    kin_moment e now (time_step now e).end
    (kin_cond d (silent d) (finish 6 d) (cond (unused d) (finish 3 d) (then_do (rounds_step d) (living due_step))) (kin_finish 6 d)
    (kin_cond d (unused d) (finish 3 d) (then_do (rounds_step d) (living due_step)) (kin_finish 3 d)
    (kin_then d (rounds_step d) (living due_step) (kin_rounds d) (kin_living due_step (rounds_step d).end (kin_due (rounds_step d).end)))))

kin_ack : (a : ℕ) (e : End) → Kin e (ack_end a e)
kin_ack a e = go (nat_lt e.half.link.known a)
  where
    go : (c : Bool) → Kin e (cond c (record e { half = record (e.half) { link = ack_in e.half.link a }; rounds = 0; since = e.moment }) (record e { half = record (e.half) { link = ack_in e.half.link a } }))
    go true = record { peer = refl; running = refl; master = refl; window = refl; wide = refl; sessions = refl }
    go false = record { peer = refl; running = refl; master = refl; window = refl; wide = refl; sessions = refl }

run_cond : (e : End) (c : Bool) (s t : RunStep) → Kin e s.step.end → Kin e t.step.end → Kin e (cond c s t).step.end
run_cond e true s t p q = p
run_cond e false s t p q = q

kin_body : (n : ℕ) (a : Bool) (o : Option (List Slot)) (e : End) → Kin e (body_end n a o e).step.end
kin_body n a None e = record { peer = refl; running = refl; master = refl; window = refl; wide = refl; sessions = refl }
kin_body n a (Some []) e = record { peer = refl; running = refl; master = refl; window = refl; wide = refl; sessions = refl }
kin_body n a (Some (x ∷ xs)) e =
    let m : List Slot = x ∷ xs in
    let taken : RunStep = record { step = still (record e { half = record { link = take_message e.half.link m; sessions = (hear_all m e.half.sessions).after }; owed = true }); answer = RunTaken (length m) } in
    let bad : RunStep = record { step = finish 2 (record e { half = record (e.half) { sessions = (hear_all m e.half.sessions).after } }); answer = RunBroke } in
    let again : RunStep = record { step = still (record e { owed = true }); answer = RunRepeated } in
    run_cond e (is_next e.half.link n) (take_end m e) again
    (run_cond e (hear_all m e.half.sessions).good taken bad (record { peer = refl; running = refl; master = refl; window = refl; wide = refl; sessions = hear_master m e.half.sessions }) (record { peer = refl; running = refl; master = refl; window = refl; wide = refl; sessions = hear_master m e.half.sessions }))
    (record { peer = refl; running = refl; master = refl; window = refl; wide = refl; sessions = refl })

pub kin_run : (now : ℕ) (a : Bool) (f : Frame (List Slot)) (e : End) → Kin e (run_end now a f e).step.end
kin_run now a f e =
    let d : End = record e { moment = now; heard_at = now; heard_run = true } in
    let r : RunStep = body_end f.number a f.body (ack_end f.acknowledgement d) in
    let k1 : Kin d (ack_end f.acknowledgement d) = kin_ack f.acknowledgement d in
    let k2 : Kin (ack_end f.acknowledgement d) r.step.end = kin_body f.number a f.body (ack_end f.acknowledgement d) in
    let k3 : Kin r.step.end (living (λ x. cond x.master (still x) (occasion x)) r.step.end).end = kin_living (λ x. cond x.master (still x) (occasion x)) r.step.end (kin_cond r.step.end r.step.end.master (still r.step.end) (occasion r.step.end) (kin r.step.end) (kin_occasion r.step.end)) in
    let bad : RunStep = record { step = finish 2 d; answer = RunBroke } in
    run_cond e (nat_lt (length d.half.link.sent) f.acknowledgement) bad (after_run r) (record { peer = refl; running = refl; master = refl; window = refl; wide = refl; sessions = refl }) (record { peer = k3.peer ∙ k2.peer ∙ k1.peer; running = k3.running ∙ k2.running ∙ k1.running; master = k3.master ∙ k2.master ∙ k1.master; window = k3.window ∙ k2.window ∙ k1.window; wide = k3.wide ∙ k2.wide ∙ k1.wide; sessions = k3.sessions ∙ k2.sessions ∙ k1.sessions })

pub kin_again : (now : ℕ) (e : End) → Kin e (again_start now e).end
kin_again now e =
    let again : Step = record { end = record e { moment = now; heard_at = now; sent_at = now; owed = false }; sent = ReplyStart ∷ [] } in
    let noted : Step = record { end = record e { moment = now; heard_at = now }; sent = [] } in
    let none : Step = record { end = e; sent = [] } in
    kin_cond e (lives e && not e.heard_run) again (cond (lives e) noted none) (record { peer = refl; running = refl; master = refl; window = refl; wide = refl; sessions = refl }) (kin_cond e (lives e) noted none (record { peer = refl; running = refl; master = refl; window = refl; wide = refl; sessions = refl }) (kin e))

pub kin_stop : (now r : ℕ) (e : End) → Kin e (hear_stop now r e).end
kin_stop now r e =
    let ends : Step = record { end = record e { ended = Some r; moment = now }; sent = [] } in
    let none : Step = record { end = e; sent = [] } in
    kin_cond e (lives e) ends none (record { peer = refl; running = refl; master = refl; window = refl; wide = refl; sessions = refl }) (kin e)

-- A slave that heard no RUN stays as it is, but for its moments

pub record Calm (e : End) (f : End) : Type 0 where
  pub half : f.half ≡ e.half
  pub heard_run : f.heard_run ≡ e.heard_run
  pub master : f.master ≡ e.master

pub idle_calm : (e f : End) → Calm e f → Idle e → Idle f
idle_calm e f c i = record { link = ap (λ (h : Half). h.link) c.half ∙ i.link; agreed = i.agreed; ceiling = i.ceiling; agreed_low = i.agreed_low; ceiling_low = i.ceiling_low; sessions = ap (λ (h : Half). h.sessions) c.half ∙ i.sessions; heard_run = c.heard_run ∙ i.heard_run; master = c.master ∙ i.master }

pub calm : (e : End) → Calm e e
calm e = record { half = refl; heard_run = refl; master = refl }

calm_cond : (e : End) (c : Bool) (s t : Step) → Calm e s.end → Calm e t.end → Calm e (cond c s t).end
calm_cond e true s t p q = p
calm_cond e false s t p q = q

calm_then : (e : End) (s : Step) (f : End → Step) → Calm e s.end → Calm s.end (f s.end).end → Calm e (then_do s f).end
calm_then e s f p q = record { half = q.half ∙ p.half; heard_run = q.heard_run ∙ p.heard_run; master = q.master ∙ p.master }

calm_false : (e : End) (c : Bool) (s t : Step) → c ≡ false → Calm e t.end → Calm e (cond c s t).end
calm_false e true s t q p = absurd (true≢false q)
calm_false e false s t q p = p

idle_known : (e : End) → Idle e → all_known e ≡ true
idle_known e i = ap (λ (l : Link (List Slot)). nat_le (length l.sent) l.known) i.link

pub and_false : (a b : Bool) → a ≡ false → (a && b) ≡ false
and_false true b q = absurd (true≢false q)
and_false false b q = refl

pub right_false : (a b : Bool) → b ≡ false → (a && b) ≡ false
right_false true b q = q
right_false false b q = refl

calm_rounds : (e : End) → Idle e → Calm e (rounds_step e).end
calm_rounds e i =
    calm_cond e e.running (cond (not (all_known e) && passed e.since 1000 e) (a_round send_again e) (still e)) (cond (passed e.start_at 1000 e) (a_round send_start e) (still e))
    (calm_false e (not (all_known e) && passed e.since 1000 e) (a_round send_again e) (still e) (and_false (not (all_known e)) (passed e.since 1000 e) (ap not (idle_known e i))) (calm e))
    (calm_cond e (passed e.start_at 1000 e) (a_round send_start e) (still e) (calm_cond e (nat_lt e.rounds 8) (send_start e) (finish 6 e) (record { half = refl; heard_run = refl; master = refl }) (record { half = refl; heard_run = refl; master = refl })) (calm e))

calm_due : (e : End) → Idle e → Calm e (due_step e).end
calm_due e i =
    let d : End = record e { due_at = e.moment } in
    let s : Step = cond (may_form e) (occasion d) (still d) in
    let no : may_form e ≡ false = right_false e.running (e.master || e.heard_run) (ap₂ (λ u v. u || v) i.master i.heard_run) in
    let k : Calm e s.end = calm_false e (may_form e) (occasion d) (still d) no (record { half = refl; heard_run = refl; master = refl }) in
    calm_cond e (passed e.due_at (10 * e.timer) e) (then_do s alive_step) (still e)
    (calm_then e s alive_step k
    (calm_false s.end (s.end.master && s.end.running && passed s.end.sent_at (1000 * s.end.keepalive) s.end) (send_bare true s.end) (still s.end)
    (and_false (s.end.master && s.end.running) (passed s.end.sent_at (1000 * s.end.keepalive) s.end) (and_false s.end.master s.end.running (k.master ∙ i.master))) (calm s.end)))
    (calm e)

pub calm_time : (now : ℕ) (e : End) → Idle e → Calm e (time_step now e).end
calm_time now e i =
    let d : End = record e { moment = now } in
    let di : Idle d = idle_calm e d (record { half = refl; heard_run = refl; master = refl }) i in
    let r : Calm d (rounds_step d).end = calm_rounds d di in
    let t : Calm d (then_do (rounds_step d) (living due_step)).end =
    calm_then d (rounds_step d) (living due_step) r
    (calm_cond (rounds_step d).end (lives (rounds_step d).end) (due_step (rounds_step d).end) (still (rounds_step d).end) (calm_due (rounds_step d).end (idle_calm d (rounds_step d).end r di)) (calm (rounds_step d).end)) in
    let f : (n : ℕ) → Calm d (finish n d).end = λ n. record { half = refl; heard_run = refl; master = refl } in
    let all : Calm d (time_step now e).end =
    calm_cond d (silent d) (finish 6 d) (cond (unused d) (finish 3 d) (then_do (rounds_step d) (living due_step))) (f 6)
    (calm_cond d (unused d) (finish 3 d) (then_do (rounds_step d) (living due_step)) (f 3) t) in
    record { half = all.half; heard_run = all.heard_run; master = all.master }

pub calm_again : (now : ℕ) (e : End) → Calm e (again_start now e).end
calm_again now e =
    let again : Step = record { end = record e { moment = now; heard_at = now; sent_at = now; owed = false }; sent = ReplyStart ∷ [] } in
    let noted : Step = record { end = record e { moment = now; heard_at = now }; sent = [] } in
    let none : Step = record { end = e; sent = [] } in
    calm_cond e (lives e && not e.heard_run) again (cond (lives e) noted none) (record { half = refl; heard_run = refl; master = refl }) (calm_cond e (lives e) noted none (record { half = refl; heard_run = refl; master = refl }) (calm e))

pub calm_stop : (now r : ℕ) (e : End) → Calm e (hear_stop now r e).end
calm_stop now r e =
    let ends : Step = record { end = record e { ended = Some r; moment = now }; sent = [] } in
    let none : Step = record { end = e; sent = [] } in
    calm_cond e (lives e) ends none (record { half = refl; heard_run = refl; master = refl }) (calm e)

-- a local call finds no session there
call_void : (a c : ℕ) (x : Call) → call (void_sessions false a c) x ≡ void_sessions false a c
call_void a c (Connect service request) = refl
call_void a c (Put id bytes) = refl
call_void a c (Set id setting) = refl
call_void a c (Attend id flag) = refl
call_void a c (Take id n) = refl
call_void a c (Close id) = refl
call_void a c (Answer id) = refl
call_void a c (RejectAsk id reason) = refl

pub idle_call : (c : Call) (e : End) → Idle e → Idle (call_end c e)
idle_call c e i = record { link = i.link; agreed = i.agreed; ceiling = i.ceiling; agreed_low = i.agreed_low; ceiling_low = i.ceiling_low; sessions = ap (λ s. call s c) i.sessions ∙ call_void i.agreed i.ceiling c; heard_run = i.heard_run; master = i.master }
