-- A round between two ends with nothing in flight.
use Rattle.std.proofs.Common.{◌≡◌, ℕ, suc, ◌+◌, ◌*◌, ◌<◌, ◌≤◌, ◌⊎◌, inl, inr, ⊎_elim, sym, ap, ap₂, ◌∙◌, refl, subst, arith, Bool, true, false, not, cond, ◌&&◌, ◌||◌, List, [], ◌∷◌, ◌++◌, length, None, nat_lt, ltb-false, lt-ltb, le-ltb, le-leb}
use Rattle.std.proofs.lemmas.Bool.{true≢false, false≢true}
use Rattle.lat_model.specs.sessions.Packing.{pack}
use Rattle.lat_model.specs.sessions.EndOk.{EndOk}
use Rattle.lat_model.specs.Lists.{is_empty}
use Rattle.lat_model.specs.numbers.Link.{ack_in, bare_frame, window_open}
use Rattle.lat_model.specs.ends.End.{Bare, Sent, Run, End, Step, still, then_do, lives, finish, send_bare, all_known, send_message, acknowledge, form_packed, occasion, send_again, send_start}
use Rattle.lat_model.specs.ends.Timers.{passed, a_round, rounds_step, may_form, alive_step, due_step, living, time_step}
use Rattle.lat_model.specs.ends.Run.{RunBroke, ack_end, body_end, after_run, run_end}
use Rattle.lat_laws.specs.rounds.Idle.{Silent, Fitting}
use Rattle.lat_laws.proofs.rounds.sessions.Packs.{none_packed, silent_packs}
use Rattle.lat_laws.specs.rounds.Measure.{weights}
use Rattle.lat_laws.specs.rounds.Progress.{Due, Still, Outcome, MasterForms, SlaveForms, SlaveAnswers, BothSilent}
use Rattle.lat_laws.proofs.rounds.progress.Times.{empty_is, Forward, Rounded, rounds_rounded, Passes, time_passes, occasion_forward, time_forward}

-- a master whose messages are all known sends nothing again
no_round : (e : End) → e.running ≡ true → all_known e ≡ true → rounds_step e ≡ still e
no_round e r k = go e.running (all_known e) r k
  where
    go : (a b : Bool) → a ≡ true → b ≡ true → cond a (cond (not b && passed e.since 1000 e) (a_round send_again e) (still e)) (cond (passed e.start_at 1000 e) (a_round send_start e) (still e)) ≡ still e
    go false b p q = absurd (false≢true p)
    go true false p q = absurd (false≢true q)
    go true true p q = refl

-- an open occasion with nothing to pack, where an acknowledgement is owed: it goes first
pub record Bares (e : End) (st : Step) : Type 0 where
  pub rest : List Sent
  pub sent : st.sent ≡ Run Bare false (bare_frame e.half.link) ∷ rest

occasion_bares : (e : End) → window_open e.window e.half.link ≡ true → is_empty (pack e.room e.half.sessions).slots ≡ true → e.owed ≡ true → (occasion e).sent ≡ Run Bare false (bare_frame e.half.link) ∷ []
occasion_bares e w p o = go (window_open e.window e.half.link) (is_empty (pack e.room e.half.sessions).slots) e.owed w p o
  where
    go : (a b c : Bool) → a ≡ true → b ≡ true → c ≡ true → (cond a (cond b (cond c (send_bare false e) (still e)) (send_message (pack e.room e.half.sessions) e)) (acknowledge e)).sent ≡ Run Bare false (bare_frame e.half.link) ∷ []
    go false b c p q r = absurd (false≢true p)
    go true false c p q r = absurd (false≢true q)
    go true true false p q r = absurd (false≢true r)
    go true true true p q r = refl

due_bares : (e : End) → may_form e ≡ true → e.due_at + 10 * e.timer ≤ e.moment → window_open e.window e.half.link ≡ true → is_empty (pack e.room e.half.sessions).slots ≡ true → e.owed ≡ true → Bares e (due_step e)
due_bares e m h w p o = go (passed e.due_at (10 * e.timer) e) (may_form e) (le-leb (e.due_at + 10 * e.timer) e.moment h) m
  where
    d : End
    d = record e { due_at = e.moment }

    go : (b c : Bool) → b ≡ true → c ≡ true → Bares e (cond b (then_do (cond c (occasion d) (still d)) alive_step) (still e))
    go false c x y = absurd (false≢true x)
    go true false x y = absurd (false≢true y)
    go true true x y = record { rest = (alive_step (occasion d).end).sent; sent = ap (λ z. z ++ (alive_step (occasion d).end).sent) (occasion_bares d w p o) }

-- the master's time event
pub master_time : (now : ℕ) (e : End) → Due now e → all_known e ≡ true → window_open e.window e.half.link ≡ true → e.owed ≡ true → lives (time_step now e).end ≡ true → (suc (weights e.half.sessions) ≤ weights (time_step now e).end.half.sessions) ⊎ (Silent e.room e.half.sessions × Bares e (time_step now e))
master_time now e r k w o h = ⊎_elim {C = (suc (weights e.half.sessions) ≤ weights (time_step now e).end.half.sessions) ⊎ (Silent e.room e.half.sessions × Bares e (time_step now e))} (λ z. inl z) (λ z. inr (z, bares (ap is_empty (silent_packs e.room e.half.sessions z)))) (time_forward now e r w h)
  where
    d : End
    d = record e { moment = now }

    p : Passes now e
    p = time_passes now e h

    still_then : time_step now e ≡ due_step d
    still_then = p.step ∙ ap (λ s. then_do s due_step) (no_round d r.running k)

    bares : is_empty (pack e.room e.half.sessions).slots ≡ true → Bares e (time_step now e)
    bares q = let b : Bares d (due_step d) = due_bares d r.forms r.due w q o in record { rest = b.rest; sent = ap (λ (z : Step). z.sent) still_then ∙ b.sent }

-- the slave's time event where its window is full: it waits

pub record Waited (e : End) (d : End) : Type 0 where
  pub sessions : d.half.sessions ≡ e.half.sessions
  pub sent : d.half.link.sent ≡ e.half.link.sent
  pub known : d.half.link.known ≡ e.half.link.known
  pub window : d.window ≡ e.window
  pub room : d.room ≡ e.room
  pub master : d.master ≡ e.master

settle_waited : (e : End) → Waited e (acknowledge e).end
settle_waited e = go e.owed
  where
    go : (b : Bool) → Waited e (cond b (send_bare false e) (still e)).end
    go true = record { sessions = refl; sent = refl; known = refl; window = refl; room = refl; master = refl }
    go false = record { sessions = refl; sent = refl; known = refl; window = refl; room = refl; master = refl }

occasion_waited : (e : End) → window_open e.window e.half.link ≡ false → Waited e (occasion e).end
occasion_waited e w = go (window_open e.window e.half.link) w
  where
    go : (b : Bool) → b ≡ false → Waited e (cond b (form_packed (pack e.room e.half.sessions) e) (acknowledge e)).end
    go true q = absurd (true≢false q)
    go false q = settle_waited e

alive_waited : (e : End) → Waited e (alive_step e).end
alive_waited e = go (e.master && e.running && passed e.sent_at (1000 * e.keepalive) e)
  where
    go : (b : Bool) → Waited e (cond b (send_bare true e) (still e)).end
    go true = record { sessions = refl; sent = refl; known = refl; window = refl; room = refl; master = refl }
    go false = record { sessions = refl; sent = refl; known = refl; window = refl; room = refl; master = refl }

waited_then : (a b c : End) → Waited a b → Waited b c → Waited a c
waited_then a b c p q = record { sessions = q.sessions ∙ p.sessions; sent = q.sent ∙ p.sent; known = q.known ∙ p.known; window = q.window ∙ p.window; room = q.room ∙ p.room; master = q.master ∙ p.master }

due_waited : (e : End) → window_open e.window e.half.link ≡ false → Waited e (due_step e).end
due_waited e w = go (passed e.due_at (10 * e.timer) e) (may_form e)
  where
    d : End
    d = record e { due_at = e.moment }

    same : Waited e e
    same = record { sessions = refl; sent = refl; known = refl; window = refl; room = refl; master = refl }

    from : (x : End) → Waited d x → Waited e x
    from x p = record { sessions = p.sessions; sent = p.sent; known = p.known; window = p.window; room = p.room; master = p.master }

    go : (b c : Bool) → Waited e (cond b (then_do (cond c (occasion d) (still d)) alive_step) (still e)).end
    go false c = same
    go true false = from (alive_step d).end (alive_waited d)
    go true true = from (alive_step (occasion d).end).end (waited_then d (occasion d).end (alive_step (occasion d).end).end (occasion_waited d w) (alive_waited (occasion d).end))

pub time_waited : (now : ℕ) (e : End) → window_open e.window e.half.link ≡ false → lives (time_step now e).end ≡ true → Waited e (time_step now e).end
time_waited now e w h =
    let p : Passes now e = time_passes now e h in
    let k : Rounded d (rounds_step d).end = rounds_rounded d in
    let full : window_open (rounds_step d).end.window (rounds_step d).end.half.link ≡ false = ap₂ (λ x y. nat_lt x y) (ap length k.sent) (ap₂ (λ x y. x + y) k.known k.window) ∙ w in
    let v : Waited (rounds_step d).end (due_step (rounds_step d).end).end = due_waited (rounds_step d).end full in
    subst (λ (z : Step). Waited e z.end) (sym p.step) (record { sessions = v.sessions ∙ k.sessions; sent = v.sent ∙ k.sent; known = v.known ∙ k.known; window = v.window ∙ k.window; room = v.room ∙ k.room; master = v.master ∙ k.master })
  where
    d : End
    d = record e { moment = now }

-- a RUN without slots that acknowledges all is heard: the window of the slave is open

known_all : (k n : ℕ) → k ≤ n → cond (nat_lt k n) n k ≡ n
known_all k n h = go (nat_lt k n) refl
  where
    go : (b : Bool) → nat_lt k n ≡ b → cond b n k ≡ n
    go true q = refl
    go false q = omega (arith, ltb-false k n q, h)

-- the end that heard such an acknowledgement
record Acked (a : ℕ) (e : End) (d : End) : Type 0 where
  sessions : d.half.sessions ≡ e.half.sessions
  sent : d.half.link.sent ≡ e.half.link.sent
  known : d.half.link.known ≡ cond (nat_lt e.half.link.known a) a e.half.link.known
  window : d.window ≡ e.window
  room : d.room ≡ e.room
  master : d.master ≡ e.master
  lives : lives d ≡ lives e

ack_acked : (a : ℕ) (e : End) → Acked a e (ack_end a e)
ack_acked a e = go (nat_lt e.half.link.known a)
  where
    x : End
    x = record e { half = record (e.half) { link = ack_in e.half.link a }; rounds = 0; since = e.moment }

    y : End
    y = record e { half = record (e.half) { link = ack_in e.half.link a } }

    go : (b : Bool) → Acked a e (cond b x y)
    go true = record { sessions = refl; sent = refl; known = refl; window = refl; room = refl; master = refl; lives = refl }
    go false = record { sessions = refl; sent = refl; known = refl; window = refl; room = refl; master = refl; lives = refl }

slave_occasion : (d : End) → lives d ≡ true → d.master ≡ false → living (λ e. cond e.master (still e) (occasion e)) d ≡ occasion d
slave_occasion d l m = go (lives d) d.master l m
  where
    go : (a b : Bool) → a ≡ true → b ≡ false → cond a (cond b (still d) (occasion d)) (still d) ≡ occasion d
    go false b p q = absurd (false≢true p)
    go true true p q = absurd (true≢false q)
    go true false p q = refl

pub hears_forward : (t n a : ℕ) (e : End) → a ≡ length e.half.link.sent → e.half.link.known ≤ length e.half.link.sent → 0 < e.window → lives e ≡ true → e.master ≡ false → EndOk e.half.sessions → Fitting e.room e.half.sessions → Forward e.half.sessions (run_end t false (record { number = n; acknowledgement = a; body = None }) e).step.end.half.sessions e.room
hears_forward t n a e q k w l m ok fits = go (nat_lt (length e.half.link.sent) a) (le-ltb (length e.half.link.sent) a (omega (arith, q)))
  where
    d : End
    d = record e { moment = t; heard_at = t; heard_run = true }

    x : Acked a d (ack_end a d)
    x = ack_acked a d

    h : End
    h = record (ack_end a d) { owed = (ack_end a d).owed || false }

    known : h.half.link.known ≡ length e.half.link.sent
    known = x.known ∙ ap (λ z. cond (nat_lt e.half.link.known z) z e.half.link.known) q ∙ known_all e.half.link.known (length e.half.link.sent) k

    open_now : window_open h.window h.half.link ≡ true
    open_now = lt-ltb (length h.half.link.sent) (h.half.link.known + h.window) (omega (arith, known, ap length x.sent, x.window, w))

    good : EndOk h.half.sessions
    good = subst EndOk (sym x.sessions) ok

    fit_now : Fitting h.room h.half.sessions
    fit_now = subst (λ z. Fitting z h.half.sessions) (sym x.room) (subst (λ z. Fitting e.room z) (sym x.sessions) fits)

    forward : Forward e.half.sessions (occasion h).end.half.sessions e.room
    forward = subst (λ z. Forward z (occasion h).end.half.sessions e.room) x.sessions (subst (λ z. Forward h.half.sessions (occasion h).end.half.sessions z) x.room (occasion_forward h good fit_now open_now))

    go : (b : Bool) → b ≡ false → Forward e.half.sessions (cond b (record { step = finish 2 d; answer = RunBroke }) (after_run (body_end n false None (ack_end a d)))).step.end.half.sessions e.room
    go true z = absurd (true≢false z)
    go false z = subst (λ (s : Step). Forward e.half.sessions s.end.half.sessions e.room) (sym (slave_occasion h (x.lives ∙ l) (x.master ∙ m))) forward

-- nothing in flight: the master knows all its messages to be taken
master_known : (m s : End) → Still m s → m.half.link.known ≡ length m.half.link.sent
master_known m s w = w.down.rises ∙ w.clear.1 ∙ w.up.brings

window_cases : (e : End) → (window_open e.window e.half.link ≡ true) ⊎ (window_open e.window e.half.link ≡ false)
window_cases e = go (window_open e.window e.half.link)
  where
    go : (b : Bool) → (b ≡ true) ⊎ (b ≡ false)
    go true = inl refl
    go false = inr refl

-- what a round brings
pub round_outcome : (now : ℕ) (m s : End) → Still m s → Due now m → Due now s → s.half.link.known ≤ length s.half.link.sent → lives (time_step now m).end ≡ true → lives (time_step now s).end ≡ true → Outcome now m s
round_outcome now m s w dm ds sk lm ls = ⊎_elim {C = Outcome now m s} (λ z. MasterForms z) silent_master (time_forward now m dm open_m lm)
  where
    all : all_known m ≡ true
    all = le-leb (length m.half.link.sent) m.half.link.known (omega (arith, master_known m s w))

    open_m : window_open m.window m.half.link ≡ true
    open_m = lt-ltb (length m.half.link.sent) (m.half.link.known + m.window) (omega (arith, master_known m s w, dm.window))

    full : window_open s.window s.half.link ≡ false → m.owed ≡ true
    full q = ⊎_elim {C = m.owed ≡ true} (λ z. z) (λ z. absurd (omega (arith, z, w.up.rises, w.down.brings, ltb-false (length s.half.link.sent) (s.half.link.known + s.window) q, ds.window))) w.shows

    d : End
    d = (time_step now s).end

    -- the slave that waited hears the acknowledgement
    at_once : window_open s.window s.half.link ≡ false → is_empty (pack s.room s.half.sessions).slots ≡ false → (t : ℕ) → suc (weights s.half.sessions) ≤ weights (run_end t false (bare_frame m.half.link) d).step.end.half.sessions
    at_once q x t =
        let v : Waited s d = time_waited now s q ls in
        let fit_now : Fitting d.room d.half.sessions = subst (λ r. Fitting r d.half.sessions) (sym v.room) (subst (λ r. Fitting s.room r) (sym v.sessions) ds.fits) in
        let f : Forward d.half.sessions (run_end t false (bare_frame m.half.link) d).step.end.half.sessions d.room = hears_forward t (length m.half.link.sent) (length m.half.link.came) d (w.down.brings ∙ ap length (sym v.sent)) (omega (arith, v.known, ap length v.sent, sk)) (omega (arith, v.window, ds.window)) ls (v.master ∙ w.slave) (subst EndOk (sym v.sessions) ds.good) fit_now in
        let none : Silent d.room d.half.sessions → ⊥ = λ z. true≢false (sym (ap is_empty (silent_packs d.room d.half.sessions z)) ∙ ap₂ (λ r k. is_empty (pack r k).slots) v.room v.sessions ∙ x) in
        ⊎_elim {C = suc (weights s.half.sessions) ≤ weights (run_end t false (bare_frame m.half.link) d).step.end.half.sessions} (λ y. omega (arith, y, ap weights v.sessions)) (λ y. absurd (none y)) f

    answers : Silent m.room m.half.sessions → window_open s.window s.half.link ≡ false → Bares m (time_step now m) → Outcome now m s
    answers z q b = go (is_empty (pack s.room s.half.sessions).slots) refl
      where
        go : (x : Bool) → is_empty (pack s.room s.half.sessions).slots ≡ x → Outcome now m s
        go true x = BothSilent z (none_packed s.room s.half.sessions ds.fits (empty_is (pack s.room s.half.sessions).slots x))
        go false x = SlaveAnswers b.rest b.sent (at_once q x)

    silent_master : Silent m.room m.half.sessions → Outcome now m s
    silent_master z = ⊎_elim {C = Outcome now m s}
        (λ q. ⊎_elim {C = Outcome now m s} (λ y. SlaveForms y) (λ y. BothSilent z y) (time_forward now s ds q ls))
        (λ q. ⊎_elim {C = Outcome now m s} (λ y. MasterForms y) (λ y. answers z q y.1) (master_time now m dm all open_m (full q) lm))
        (window_cases s)
