-- What the steps of an end by itself send, and what they keep.
use Rattle.std.proofs.Common.{◌≡◌, ◌≢◌, ℕ, ◌*◌, ◌⊎◌, inl, inr, ⊎_elim, sym, ap, ◌∙◌, refl, subst, Bool, true, false, not, cond, ◌&&◌, ◌||◌, List, [], ◌∷◌, ◌++◌, nat_eq, nat_lt, ne_eqb}
use Rattle.std.proofs.lemmas.Bool.{true≢false, false≢true, and_parts}
use Rattle.lat_model.specs.sessions.Slots.{Slot}
use Rattle.lat_model.specs.Lists.{Each, is_empty}
use Rattle.lat_model.specs.sessions.Packing.{pack}
use Rattle.lat_model.specs.numbers.Link.{Frame, again_frames, window_open}
use Rattle.lat_model.specs.ends.End.{Sent, Run, CallStart, ReplyStart, Stopped, End, Step, still, then_do, lives, finish, send_bare, all_known, send_message, acknowledge, form_packed, occasion, marked, send_again, send_start}
use Rattle.lat_model.specs.ends.Timers.{passed, silent, unused, rounds_step, may_form, alive_step, due_step, living, time_step}
use Rattle.lat_model.proofs.numbers.Net.{each_append}
use Rattle.lat_laws.specs.rounds.Carried.{has_stop_sent}

-- what a frame tells of the end that sends it in a step: a RUN, that it runs; a STOP, that it has ended
abbrev pub Truly : End → End → Sent → Type 0
Truly e d (Run mark ask f) = e.running ≡ true
Truly e d (Stopped r) = lives d ≡ false
Truly e d CallStart = Unit {0}
Truly e d ReplyStart = Unit {0}

-- an end that ends by itself sends STOP, where it knows its peer
pub record True_step (e : End) (st : Step) : Type 0 where
  pub truly : Each (Truly e st.end) st.sent
  pub stops : lives e ≡ true → lives st.end ≡ false → e.peer ≢ 0 → has_stop_sent st.sent ≡ true

has_stop_sent-append : (xs ys : List Sent) → has_stop_sent xs ≡ true → has_stop_sent (xs ++ ys) ≡ true
has_stop_sent-append [] ys h = absurd (false≢true h)
has_stop_sent-append (Run mark ask f ∷ xs) ys h = has_stop_sent-append xs ys h
has_stop_sent-append (CallStart ∷ xs) ys h = has_stop_sent-append xs ys h
has_stop_sent-append (ReplyStart ∷ xs) ys h = has_stop_sent-append xs ys h
has_stop_sent-append (Stopped r ∷ xs) ys h = refl

pub stop_behind : (xs ys : List Sent) → has_stop_sent ys ≡ true → has_stop_sent (xs ++ ys) ≡ true
stop_behind [] ys h = h
stop_behind (Run mark ask f ∷ xs) ys h = stop_behind xs ys h
stop_behind (CallStart ∷ xs) ys h = stop_behind xs ys h
stop_behind (ReplyStart ∷ xs) ys h = stop_behind xs ys h
stop_behind (Stopped r ∷ xs) ys h = refl

pub stop_before : (xs ys : List Sent) → has_stop_sent xs ≡ true → has_stop_sent (xs ++ ys) ≡ true
stop_before = has_stop_sent-append

-- frames that are no STOP
abbrev pub Going : End → Sent → Type 0
Going e (Run mark ask f) = e.running ≡ true
Going e CallStart = Unit {0}
Going e ReplyStart = Unit {0}
Going e (Stopped r) = ⊥

going_truly : (e d x : End) → d.running ≡ e.running → (xs : List Sent) → Each (Going d) xs → Each (Truly e x) xs
going_truly e d x r [] h = tt
going_truly e d x r (Run mark ask f ∷ xs) h = (sym r ∙ h.0, going_truly e d x r xs h.1)
going_truly e d x r (CallStart ∷ xs) h = (tt, going_truly e d x r xs h.1)
going_truly e d x r (ReplyStart ∷ xs) h = (tt, going_truly e d x r xs h.1)
going_truly e d x r (Stopped t ∷ xs) h = absurd h.0

-- a step that lets the end live, and sends no STOP
pub record Goes (e : End) (st : Step) : Type 0 where
  pub going : Each (Going e) st.sent
  pub lives : lives st.end ≡ lives e
  pub running : st.end.running ≡ e.running

pub going_still : (e : End) → Goes e (still e)
going_still e = record { going = tt; lives = refl; running = refl }

goes_cond : (e : End) (c : Bool) (s t : Step) → (c ≡ true → Goes e s) → Goes e t → Goes e (cond c s t)
goes_cond e true s t p q = p refl
goes_cond e false s t p q = q

pub going_same : (e d : End) → d.running ≡ e.running → (xs : List Sent) → Each (Going d) xs → Each (Going e) xs
going_same e d r [] h = tt
going_same e d r (Run mark ask f ∷ xs) h = (sym r ∙ h.0, going_same e d r xs h.1)
going_same e d r (CallStart ∷ xs) h = (tt, going_same e d r xs h.1)
going_same e d r (ReplyStart ∷ xs) h = (tt, going_same e d r xs h.1)
going_same e d r (Stopped t ∷ xs) h = absurd h.0

goes_then : (e : End) (s : Step) (f : End → Step) → Goes e s → Goes s.end (f s.end) → Goes e (then_do s f)
goes_then e s f p q = record { going = each_append (Going e) s.sent (f s.end).sent p.going (going_same e s.end p.running (f s.end).sent q.going); lives = q.lives ∙ p.lives; running = q.running ∙ p.running }

goes_bare : (ask : Bool) (e : End) → e.running ≡ true → Goes e (send_bare ask e)
goes_bare ask e r = record { going = (r, tt); lives = refl; running = refl }

goes_acknowledge : (e : End) → e.running ≡ true → Goes e (acknowledge e)
goes_acknowledge e r = goes_cond e e.owed (send_bare false e) (still e) (λ q. goes_bare false e r) (going_still e)

pub goes_occasion : (e : End) → e.running ≡ true → Goes e (occasion e)
goes_occasion e r = goes_cond e (window_open e.window e.half.link) (form_packed (pack e.room e.half.sessions) e) (acknowledge e)
    (λ q. goes_cond e (is_empty (pack e.room e.half.sessions).slots) (acknowledge e) (send_message (pack e.room e.half.sessions) e) (λ w. goes_acknowledge e r) (record { going = (r, tt); lives = refl; running = refl }))
    (goes_acknowledge e r)

marked_going : (e : End) → e.running ≡ true → (fs : List (Frame (List Slot))) → Each (Going e) (marked fs)
marked_going e r [] = tt
marked_going e r (f ∷ fs) = (r, marked_going e r fs)

goes_due : (e : End) → Goes e (due_step e)
goes_due e =
    let d : End = record e { due_at = e.moment } in
    goes_cond e (passed e.due_at (10 * e.timer) e) (then_do (cond (may_form e) (occasion d) (still d)) alive_step) (still e)
    (λ q. goes_then e (cond (may_form e) (occasion d) (still d)) alive_step
    (goes_cond e (may_form e) (occasion d) (still d) (λ w. from (occasion d) (goes_occasion d (and_parts e.running (e.master || e.heard_run) w).0)) (from (still d) (going_still d)))
    (alive (cond (may_form e) (occasion d) (still d)).end))
    (going_still e)
  where
    from : (st : Step) → Goes (record e { due_at = e.moment }) st → Goes e st
    from st g = record { going = going_same e (record e { due_at = e.moment }) refl st.sent g.going; lives = g.lives; running = g.running }

    alive : (d : End) → Goes d (alive_step d)
    alive d = goes_cond d (d.master && d.running && passed d.sent_at (1000 * d.keepalive) d) (send_bare true d) (still d) (λ q. goes_bare true d (and_parts d.master d.running (and_parts (d.master && d.running) (passed d.sent_at (1000 * d.keepalive) d) q).0).1) (going_still d)

-- rounds go on, or end the circuit
rounds_case : (e : End) → (rounds_step e ≡ finish 6 e) ⊎ Goes e (rounds_step e)
rounds_case e = go e.running refl (not (all_known e) && passed e.since 1000 e) (passed e.start_at 1000 e) (nat_lt e.rounds 8)
  where
    go : (r : Bool) → e.running ≡ r → (a b c : Bool) → (cond r (cond a (cond c (send_again e) (finish 6 e)) (still e)) (cond b (cond c (send_start e) (finish 6 e)) (still e)) ≡ finish 6 e) ⊎ Goes e (cond r (cond a (cond c (send_again e) (finish 6 e)) (still e)) (cond b (cond c (send_start e) (finish 6 e)) (still e)))
    go true q true b true = inr (record { going = marked_going e q (again_frames e.half.link); lives = refl; running = refl })
    go true q true b false = inl refl
    go true q false b c = inr (going_still e)
    go false q a true true = inr (record { going = (tt, tt); lives = refl; running = refl })
    go false q a true false = inl refl
    go false q a false c = inr (going_still e)

pub finish_true : (r : ℕ) (e d : End) → d.running ≡ e.running → d.peer ≡ e.peer → True_step e (finish r d)
finish_true r e d w q = record { truly = go (nat_eq d.peer 0); stops = λ l x n. ap (λ b. has_stop_sent (cond b [] (Stopped r ∷ []))) (ne_eqb d.peer 0 (λ z. n (sym q ∙ z))) }
  where
    go : (c : Bool) → Each (Truly e (finish r d).end) (cond c [] (Stopped r ∷ []))
    go true = tt
    go false = (refl, tt)

pub goes_true : (e : End) (st : Step) → Goes e st → True_step e st
goes_true e st g = record { truly = going_truly e e st.end refl st.sent g.going; stops = λ l x n. absurd (true≢false (sym (g.lives ∙ l) ∙ x)) }

pub time_true : (now : ℕ) (e : End) → lives e ≡ true → True_step e (time_step now e)
time_true now e l = go (silent d) (unused d)
  where
    d : End
    d = record e { moment = now }

    from : (st : Step) → Goes d st → True_step e st
    from st g = goes_true e st (record { going = going_same e d refl st.sent g.going; lives = g.lives; running = g.running })

    -- a circuit that rounds ended does nothing more
    dead : then_do (finish 6 d) (living due_step) ≡ record { end = (finish 6 d).end; sent = cond (nat_eq d.peer 0) [] (Stopped 6 ∷ []) ++ [] }
    dead = refl

    dead_true : True_step e (then_do (finish 6 d) (living due_step))
    dead_true = let f : True_step e (finish 6 d) = finish_true 6 e d refl refl in record { truly = each_append (Truly e (finish 6 d).end) (finish 6 d).sent [] f.truly tt; stops = λ a b n. stop_before (finish 6 d).sent [] (f.stops a b n) }

    rounds : True_step e (then_do (rounds_step d) (living due_step))
    rounds = ⊎_elim {C = True_step e (then_do (rounds_step d) (living due_step))}
        (λ q. subst (λ z. True_step e (then_do z (living due_step))) (sym q) dead_true)
        (λ g. from (then_do (rounds_step d) (living due_step)) (goes_then d (rounds_step d) (living due_step) g (goes_cond (rounds_step d).end (lives (rounds_step d).end) (due_step (rounds_step d).end) (still (rounds_step d).end) (λ w. goes_due (rounds_step d).end) (going_still (rounds_step d).end))))
        (rounds_case d)

    go : (a b : Bool) → True_step e (cond a (finish 6 d) (cond b (finish 3 d) (then_do (rounds_step d) (living due_step))))
    go true b = finish_true 6 e d refl refl
    go false true = finish_true 3 e d refl refl
    go false false = rounds

-- a step that sends nothing and lets the end live
pub quiet_true : (e d : End) → lives d ≡ lives e → True_step e (still d)
quiet_true e d q = record { truly = tt; stops = λ l x n. absurd (true≢false (sym (q ∙ l) ∙ x)) }
