-- What an end does at a moment, at a RUN, at a reply, at a START and at a STOP.
use Rattle.std.proofs.Common.{◌≡◌, ℕ, ◌*◌, sym, ◌∙◌, refl, Bool, true, false, not, cond, ◌&&◌, List, [], ◌∷◌, Option, Some, None, nat_lt}
use Rattle.std.proofs.lemmas.Bool.{true≢false, both_ways}
use Rattle.lat_model.specs.sessions.Slots.{Slot}
use Rattle.lat_model.specs.sessions.Packing.{Packing, pack}
use Rattle.lat_model.specs.sessions.Hearing.{HeardAll, hear_all}
use Rattle.lat_model.specs.sessions.EndOk.{EndOk}
use Rattle.lat_model.specs.numbers.Link.{Frame, is_next, is_unsent, window_open, ack_in}
use Rattle.lat_model.specs.Lists.{is_empty}
use Rattle.lat_model.specs.ends.End.{End, Step, still, then_do, lives, finish, send_bare, send_message, acknowledge, form_packed, occasion, send_again, send_start, all_known}
use Rattle.lat_model.specs.ends.Timers.{passed, silent, unused, a_round, rounds_step, may_form, alive_step, due_step, living, note_empty, time_step}
use Rattle.lat_model.specs.ends.Run.{RunStep, RunRepeated, RunBroke, ack_end, taken_end, broken_end, take_end, body_end, after_run, run_end}
use Rattle.lat_model.specs.ends.Starting.{Agreed, reply_end, noted, replied, again_start, hear_reply, hear_stop}
use Rattle.lat_session.specs.Stands.{AllBegun}
use Rattle.lat_lines.specs.Later.{EndLater, Unheard}
use Rattle.lat_lines.proofs.later.Tended.{AllTended, all_tended, all_tended_on, pack_tended}
use Rattle.lat_lines.proofs.later.Heard.{Fits, AllHeard, all_heard, all_heard_on, message_heard}
use Rattle.lat_lines.proofs.later.Both.{fits, both_later, tended_later}

-- an end that forms, and goes on running with its peer
pub record EndTended (e f : End) : Type 0 where
  pub sessions : AllTended e.half.sessions f.half.sessions
  pub running : f.running ≡ e.running
  pub peer : f.peer ≡ e.peer

pub end_tended : (e : End) → EndTended e e
end_tended e = record { sessions = all_tended e.half.sessions; running = refl; peer = refl }

tended_cond : (e : End) (c : Bool) (s t : Step) → EndTended e s.end → EndTended e t.end → EndTended e (cond c s t).end
tended_cond e true s t p q = p
tended_cond e false s t p q = q

tended_then : (e : End) (s : Step) (f : End → Step) → EndTended e s.end → EndTended s.end (f s.end).end → EndTended e (then_do s f).end
tended_then e s f p q = record { sessions = all_tended_on e.half.sessions s.end.half.sessions (f s.end).end.half.sessions p.sessions q.sessions; running = q.running ∙ p.running; peer = q.peer ∙ p.peer }

tended_living : (f : End → Step) (e : End) → EndTended e (f e).end → EndTended e (living f e).end
tended_living f e h = tended_cond e (lives e) (f e) (still e) h (end_tended e)

-- forming

tended_acknowledge : (e : End) → EndTended e (acknowledge e).end
tended_acknowledge e = tended_cond e e.owed (send_bare false e) (still e) (record { sessions = all_tended e.half.sessions; running = refl; peer = refl }) (end_tended e)

tended_occasion : (e : End) → EndTended e (occasion e).end
tended_occasion e =
    let p : Packing = pack e.room e.half.sessions in
    tended_cond e (window_open e.window e.half.link) (form_packed p e) (acknowledge e)
    (tended_cond e (is_empty p.slots) (acknowledge e) (send_message p e) (tended_acknowledge e) (record { sessions = pack_tended e.room e.half.sessions; running = refl; peer = refl }))
    (tended_acknowledge e)

-- a moment

tended_rounds : (e : End) → EndTended e (rounds_step e).end
tended_rounds e =
    let same : AllTended e.half.sessions e.half.sessions = all_tended e.half.sessions in
    tended_cond e e.running (cond (not (all_known e) && passed e.since 1000 e) (a_round send_again e) (still e)) (cond (passed e.start_at 1000 e) (a_round send_start e) (still e))
    (tended_cond e (not (all_known e) && passed e.since 1000 e) (a_round send_again e) (still e) (tended_cond e (nat_lt e.rounds 8) (send_again e) (finish 6 e) (record { sessions = same; running = refl; peer = refl }) (record { sessions = same; running = refl; peer = refl })) (end_tended e))
    (tended_cond e (passed e.start_at 1000 e) (a_round send_start e) (still e) (tended_cond e (nat_lt e.rounds 8) (send_start e) (finish 6 e) (record { sessions = same; running = refl; peer = refl }) (record { sessions = same; running = refl; peer = refl })) (end_tended e))

tended_alive : (e : End) → EndTended e (alive_step e).end
tended_alive e = tended_cond e (e.master && e.running && passed e.sent_at (1000 * e.keepalive) e) (send_bare true e) (still e) (record { sessions = all_tended e.half.sessions; running = refl; peer = refl }) (end_tended e)

tended_due : (e : End) → EndTended e (due_step e).end
tended_due e =
    let d : End = record e { due_at = e.moment } in
    let o : EndTended d (occasion d).end = tended_occasion d in
    let s : Step = cond (may_form e) (occasion d) (still d) in
    tended_cond e (passed e.due_at (10 * e.timer) e) (then_do s alive_step) (still e)
    (tended_then e s alive_step
    (tended_cond e (may_form e) (occasion d) (still d) (record { sessions = o.sessions; running = o.running; peer = o.peer }) (record { sessions = all_tended e.half.sessions; running = refl; peer = refl }))
    (tended_alive s.end))
    (end_tended e)

tended_time : (now : ℕ) (e : End) → EndTended e (time_step now e).end
tended_time now e =
    let d : End = record e { moment = now } in
    let f : (n : ℕ) → EndTended d (finish n d).end = λ n. record { sessions = all_tended e.half.sessions; running = refl; peer = refl } in
    let all : EndTended d (time_step now e).end =
    tended_cond d (silent d) (finish 6 d) (cond (unused d) (finish 3 d) (then_do (rounds_step d) (living due_step))) (f 6)
    (tended_cond d (unused d) (finish 3 d) (then_do (rounds_step d) (living due_step)) (f 3)
    (tended_then d (rounds_step d) (living due_step) (tended_rounds d) (tended_living due_step (rounds_step d).end (tended_due (rounds_step d).end)))) in
    record { sessions = all.sessions; running = all.running; peer = all.peer }

-- what follows for the end as its lines see it

later_tended : (e f : End) → EndOk e.half.sessions → AllBegun e.half.sessions → EndTended e f → EndLater e f
later_tended e f ok b h = record { sessions = tended_later e.half.sessions f.half.sessions ok b h.sessions; running = λ r. h.running ∙ r; peer = λ r. h.peer }

unheard_tended : (e f : End) → EndTended e f → Unheard e → Unheard f
unheard_tended e f h u r k = (h.sessions.each k).came ∙ u (sym h.running ∙ r) k

noted_later : (e : End) (s : Step) → EndLater e s.end → EndLater e (note_empty e s).end
noted_later e s h = record { sessions = h.sessions; running = h.running; peer = h.peer }

-- once an end runs, nothing is said of it any more
pub running_unheard : (e f : End) → EndLater e f → e.running ≡ true → Unheard f
running_unheard e f h r q = absurd (both_ways f.running q (h.running r))

pub time_later : (now : ℕ) (e : End) → EndOk e.half.sessions → AllBegun e.half.sessions → EndLater e (note_empty e (time_step now e)).end
time_later now e ok b = noted_later e (time_step now e) (later_tended e (time_step now e).end ok b (tended_time now e))

pub time_unheard : (now : ℕ) (e : End) → Unheard e → Unheard (note_empty e (time_step now e)).end
time_unheard now e u = unheard_tended e (time_step now e).end (tended_time now e) u

pub move_later : (now : ℕ) (e : End) → EndOk e.half.sessions → AllBegun e.half.sessions → EndLater e (note_empty e (still (record e { moment = now }))).end
move_later now e ok b = record { sessions = tended_later e.half.sessions e.half.sessions ok b (all_tended e.half.sessions); running = λ r. r; peer = λ r. refl }

pub move_unheard : (now : ℕ) (e : End) → Unheard e → Unheard (note_empty e (still (record e { moment = now }))).end
move_unheard now e u = u

tended_again : (now : ℕ) (e : End) → EndTended e (again_start now e).end
tended_again now e =
    tended_cond e (lives e && not e.heard_run) (replied now e) (cond (lives e) (noted now e) (still e)) (record { sessions = all_tended e.half.sessions; running = refl; peer = refl })
    (tended_cond e (lives e) (noted now e) (still e) (record { sessions = all_tended e.half.sessions; running = refl; peer = refl }) (end_tended e))

pub again_later : (now : ℕ) (e : End) → EndOk e.half.sessions → AllBegun e.half.sessions → EndLater e (note_empty e (again_start now e)).end
again_later now e ok b = noted_later e (again_start now e) (later_tended e (again_start now e).end ok b (tended_again now e))

pub again_unheard : (now : ℕ) (e : End) → Unheard e → Unheard (note_empty e (again_start now e)).end
again_unheard now e u = unheard_tended e (again_start now e).end (tended_again now e) u

-- an end that ends by itself

tended_ended : (r : ℕ) (e : End) → EndTended e (record e { ended = Some r })
tended_ended r e = record { sessions = all_tended e.half.sessions; running = refl; peer = refl }

pub finish_later : (r : ℕ) (e : End) → EndOk e.half.sessions → AllBegun e.half.sessions → EndLater e (note_empty e (finish r e)).end
finish_later r e ok b = noted_later e (finish r e) (later_tended e (finish r e).end ok b (tended_ended r e))

pub finish_unheard : (r : ℕ) (e : End) → Unheard e → Unheard (note_empty e (finish r e)).end
finish_unheard r e u = u

-- a STOP

tended_stop : (now r : ℕ) (e : End) → EndTended e (hear_stop now r e).end
tended_stop now r e = tended_cond e (lives e) (still (record e { ended = Some r; moment = now })) (still e) (record { sessions = all_tended e.half.sessions; running = refl; peer = refl }) (end_tended e)

pub stop_later : (now r : ℕ) (e : End) → EndOk e.half.sessions → AllBegun e.half.sessions → EndLater e (note_empty e (hear_stop now r e)).end
stop_later now r e ok b = noted_later e (hear_stop now r e) (later_tended e (hear_stop now r e).end ok b (tended_stop now r e))

pub stop_unheard : (now r : ℕ) (e : End) → Unheard e → Unheard (note_empty e (hear_stop now r e)).end
stop_unheard now r e u = unheard_tended e (hear_stop now r e).end (tended_stop now r e) u

-- the first reply makes the master run

later_cond : (e : End) (c : Bool) (s t : Step) → EndLater e s.end → EndLater e t.end → EndLater e (cond c s t).end
later_cond e true s t p q = p
later_cond e false s t p q = q

pub reply_later : (now source : ℕ) (g : Agreed) (e : End) → EndOk e.half.sessions → AllBegun e.half.sessions → EndLater e (note_empty e (hear_reply now source g e)).end
reply_later now source g e ok b =
    noted_later e (hear_reply now source g e)
    (later_cond e (lives e) (cond e.running (noted now e) (still (reply_end now source g e))) (still e) (go e.running refl) (later_tended e e ok b (end_tended e)))
  where
    replies : AllTended e.half.sessions (reply_end now source g e).half.sessions
    replies = record { master = refl; made = refl; at_id = refl; each = (all_tended e.half.sessions).each }

    go : (c : Bool) → e.running ≡ c → EndLater e (cond c (noted now e) (still (reply_end now source g e))).end
    go true q = later_tended e (noted now e).end ok b (record { sessions = all_tended e.half.sessions; running = refl; peer = refl })
    go false q = record { sessions = tended_later e.half.sessions (reply_end now source g e).half.sessions ok b replies; running = λ r. refl; peer = λ r. absurd (both_ways e.running q r) }

unheard_cond : (c : Bool) (s t : Step) → Unheard s.end → Unheard t.end → Unheard (cond c s t).end
unheard_cond true s t p q = p
unheard_cond false s t p q = q

pub reply_unheard : (now source : ℕ) (g : Agreed) (e : End) → Unheard e → Unheard (note_empty e (hear_reply now source g e)).end
reply_unheard now source g e u =
    unheard_cond (lives e) (cond e.running (noted now e) (still (reply_end now source g e))) (still e)
    (unheard_cond e.running (noted now e) (still (reply_end now source g e)) u (λ r k. absurd (true≢false r))) u

-- a RUN

record EndHeard (e f : End) : Type 0 where
  pub sessions : AllHeard e.half.sessions f.half.sessions
  pub running : f.running ≡ e.running
  pub peer : f.peer ≡ e.peer

end_heard : (e : End) → Fits e.half.sessions → EndHeard e e
end_heard e f = record { sessions = all_heard e.half.sessions f; running = refl; peer = refl }

heard_ack : (a : ℕ) (e : End) → Fits e.half.sessions → EndHeard e (ack_end a e)
heard_ack a e f = go (nat_lt e.half.link.known a)
  where
    go : (c : Bool) → EndHeard e (cond c (record e { half = record (e.half) { link = ack_in e.half.link a }; rounds = 0; since = e.moment }) (record e { half = record (e.half) { link = ack_in e.half.link a } }))
    go true = record { sessions = all_heard e.half.sessions f; running = refl; peer = refl }
    go false = record { sessions = all_heard e.half.sessions f; running = refl; peer = refl }

heard_cond : (e : End) (c : Bool) (s t : RunStep) → EndHeard e s.step.end → EndHeard e t.step.end → EndHeard e (cond c s t).step.end
heard_cond e true s t p q = p
heard_cond e false s t p q = q

heard_body : (n : ℕ) (ask : Bool) (o : Option (List Slot)) (e : End) → Fits e.half.sessions → EndHeard e (body_end n ask o e).step.end
heard_body n ask None e f = record { sessions = all_heard e.half.sessions f; running = refl; peer = refl }
heard_body n ask (Some []) e f = record { sessions = all_heard e.half.sessions f; running = refl; peer = refl }
heard_body n ask (Some (x ∷ xs)) e f =
    let m : List Slot = x ∷ xs in
    let h : HeardAll = hear_all m e.half.sessions in
    let all : AllHeard e.half.sessions h.after = message_heard m e.half.sessions f in
    let again : RunStep = record { step = still (record e { owed = true }); answer = RunRepeated } in
    heard_cond e (is_next e.half.link n) (take_end m e) again
    (heard_cond e h.good (taken_end m h.after e) (broken_end h.after e) (record { sessions = all; running = refl; peer = refl }) (record { sessions = all; running = refl; peer = refl }))
    (record { sessions = all_heard e.half.sessions f; running = refl; peer = refl })

-- what was heard, and then formed
heard_tended : (e d f : End) → EndOk e.half.sessions → EndHeard e d → EndTended d f → EndLater e f
heard_tended e d f ok h t = record { sessions = both_later e.half.sessions d.half.sessions f.half.sessions ok h.sessions t.sessions; running = λ r. t.running ∙ h.running ∙ r; peer = λ r. t.peer ∙ h.peer }

run_cond : (e : End) (c : Bool) (s t : RunStep) → EndLater e s.step.end → EndLater e t.step.end → EndLater e (cond c s t).step.end
run_cond e true s t p q = p
run_cond e false s t p q = q

pub run_later : (now : ℕ) (ask : Bool) (f : Frame (List Slot)) (e : End) → EndOk e.half.sessions → AllBegun e.half.sessions → EndLater e (note_empty e (run_end now ask f e).step).end
run_later now ask f e ok b =
    let d : End = record e { moment = now; heard_at = now; heard_run = true } in
    let a : End = ack_end f.acknowledgement d in
    let r : RunStep = body_end f.number ask f.body a in
    let slave : End → Step = λ x. cond x.master (still x) (occasion x) in
    let bad : RunStep = record { step = finish 2 d; answer = RunBroke } in
    let ha : EndHeard d a = heard_ack f.acknowledgement d (fits e.half.sessions ok b) in
    let hr : EndHeard a r.step.end = heard_body f.number ask f.body a ha.sessions.fits in
    let h : EndHeard e r.step.end = record { sessions = all_heard_on e.half.sessions a.half.sessions r.step.end.half.sessions ha.sessions hr.sessions; running = hr.running ∙ ha.running; peer = hr.peer ∙ ha.peer } in
    let t : EndTended r.step.end (living slave r.step.end).end = tended_living slave r.step.end (tended_cond r.step.end r.step.end.master (still r.step.end) (occasion r.step.end) (end_tended r.step.end) (tended_occasion r.step.end)) in
    noted_later e (run_end now ask f e).step
    (run_cond e (is_unsent d.half.link f.acknowledgement) bad (after_run r)
    (later_tended e (finish 2 d).end ok b (record { sessions = all_tended e.half.sessions; running = refl; peer = refl }))
    (heard_tended e r.step.end (living slave r.step.end).end ok h t))

pub run_unheard : (now : ℕ) (ask : Bool) (f : Frame (List Slot)) (e : End) → EndOk e.half.sessions → AllBegun e.half.sessions → e.running ≡ true → Unheard (note_empty e (run_end now ask f e).step).end
run_unheard now ask f e ok b r = running_unheard e (note_empty e (run_end now ask f e).step).end (run_later now ask f e ok b) r
