-- Only a circuit that runs sends a RUN or a reply at a time event.
use Rattle.std.proofs.Common.{◌≡◌, ℕ, suc, ◌*◌, refl, sym, ap, subst, Bool, true, false, cond, ◌&&◌, List, [], ◌∷◌, ◌++◌, Some, nat_eq, nat_lt}
use Rattle.lat_model.specs.Lists.{Each}
use Rattle.lat_model.specs.ends.End.{Sent, Run, CallStart, ReplyStart, Stopped, End, Step, still, then_do, lives, finish, send_bare, send_start}
use Rattle.lat_model.specs.ends.Timers.{passed, unused, a_round, rounds_step, alive_step, due_step, living, time_step}
use Rattle.lat_machines.proofs.events.Leads.{each_more}

-- it bears what depends on the span
abbrev pub has_span : Sent → Bool
has_span (Run m ask f) = true
has_span ReplyStart = true
has_span CallStart = false
has_span (Stopped r) = false

abbrev pub Plainly : List Sent → Type 0
Plainly ss = Each (λ (v : Sent). has_span v ≡ false) ss

plain_cond : (n : Bool) (s t : Step) → Plainly s.sent → Plainly t.sent → Plainly (cond n s t).sent
plain_cond true s t p q = p
plain_cond false s t p q = q

plain_finish : (r : ℕ) (e : End) → Plainly (finish r e).sent
plain_finish r e = go (nat_eq e.peer 0)
  where
    go : (n : Bool) → Plainly (cond n [] (Stopped r ∷ []))
    go true = tt
    go false = (refl, tt)

-- an end that doesn't run
abbrev resting : End → End
resting e = record e { running = false }

rests_alive : (e : End) → Plainly (alive_step (resting e)).sent
rests_alive e = go e.master (passed e.sent_at (1000 * e.keepalive) e)
  where
    go : (m p : Bool) → Plainly (cond (m && false && p) (send_bare true (resting e)) (still (resting e))).sent
    go true p = tt
    go false p = tt

rests_due : (e : End) → Plainly (due_step (resting e)).sent
rests_due e =
    plain_cond (passed e.due_at (10 * e.timer) e) (then_do (still (record (resting e) { due_at = e.moment })) alive_step) (still (resting e))
    (rests_alive (record e { due_at = e.moment })) tt

rests_living : (e : End) → Plainly (living due_step (resting e)).sent
rests_living e = plain_cond (lives (resting e)) (due_step (resting e)) (still (resting e)) (rests_due e) tt

-- one of the things that it may do first, and then what a due timer brings
rests_then : (e : End) (ss : List Sent) → Plainly ss → Plainly (ss ++ (living due_step (resting e)).sent)
rests_then e ss p = each_more (λ (v : Sent). has_span v ≡ false) ss (living due_step (resting e)).sent p (rests_living e)

then_cond : (n : Bool) (s t : Step) (f : End → Step) → Plainly (then_do s f).sent → Plainly (then_do t f).sent → Plainly (then_do (cond n s t) f).sent
then_cond true s t f p q = p
then_cond false s t f p q = q

rests_rounds : (d : End) → Plainly (then_do (rounds_step (resting d)) (living due_step)).sent
rests_rounds d =
    then_cond (passed d.start_at 1000 d) (a_round send_start (resting d)) (still (resting d)) (living due_step)
    (then_cond (nat_lt d.rounds 8) (send_start (resting d)) (finish 6 (resting d)) (living due_step)
    (rests_then (record d { start_at = d.moment; sent_at = d.moment; rounds = suc d.rounds }) (CallStart ∷ []) (refl, tt))
    (rests_then (record d { ended = Some 6 }) (finish 6 (resting d)).sent (plain_finish 6 (resting d))))
    (rests_then d [] tt)

rests_time : (now : ℕ) (e : End) → Plainly (time_step now (resting e)).sent
rests_time now e =
    let d : End = record e { moment = now } in
    plain_cond (unused (resting d)) (finish 3 (resting d)) (then_do (rounds_step (resting d)) (living due_step)) (plain_finish 3 (resting d)) (rests_rounds d)

-- of any end: where it sends such, it runs

each_by : {A : Type 0} (P Q : A → Type 0) → ((v : A) → P v → Q v) → (xs : List A) → Each P xs → Each Q xs
each_by P Q h [] p = tt
each_by P Q h (x ∷ xs) p = (h x p.0, each_by P Q h xs p.1)

pub each_any : {A : Type 0} (P : A → Type 0) → ((v : A) → P v) → (xs : List A) → Each P xs
each_any P h [] = tt
each_any P h (x ∷ xs) = (h x, each_any P h xs)

abbrev pub SentRunning : End → List Sent → Type 0
SentRunning e ss = Each (λ (v : Sent). has_span v ≡ true → e.running ≡ true) ss

pub time_sends : (now : ℕ) (e : End) → SentRunning e (time_step now e).sent
time_sends now e = go e.running refl
  where
    clash : (v : Sent) → has_span v ≡ false → has_span v ≡ true → e.running ≡ true
    clash v p q = let z : ⊥ = cc in absurd z

    go : (r : Bool) → e.running ≡ r → SentRunning e (time_step now e).sent
    go true q = each_any (λ (v : Sent). has_span v ≡ true → e.running ≡ true) (λ v h. q) (time_step now e).sent
    go false q =
        let same : e ≡ resting e = ap (λ z. record e { running = z }) q in
        each_by (λ (v : Sent). has_span v ≡ false) (λ (v : Sent). has_span v ≡ true → e.running ≡ true) clash (time_step now e).sent
        (subst (λ (z : End). Plainly (time_step now z).sent) (sym same) (rests_time now e))
