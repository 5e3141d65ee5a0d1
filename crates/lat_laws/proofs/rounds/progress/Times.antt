-- A time event at an end whose timer is due: it forms where it may and has something to send.
use Rattle.std.proofs.Common.{◌≡◌, ℕ, suc, ◌+◌, ◌*◌, ◌<◌, ◌≤◌, ◌⊎◌, inl, inr, sym, ap, ap₂, ◌∙◌, refl, subst, arith, Bool, true, false, not, cond, ◌&&◌, List, [], ◌∷◌, ◌++◌, length, nat_lt, le-leb}
use Rattle.std.proofs.lemmas.Bool.{true≢false, false≢true, both_ways}
use Rattle.lat_model.specs.sessions.Sessions.{Sessions}
use Rattle.lat_model.specs.sessions.Packing.{TaggedSlot, Packing, pack}
use Rattle.lat_model.specs.Lists.{is_empty}
use Rattle.lat_model.specs.numbers.Link.{window_open}
use Rattle.lat_model.specs.ends.End.{End, Step, still, then_do, lives, finish, send_bare, all_known, send_message, acknowledge, form_packed, occasion, send_again, send_start}
use Rattle.lat_model.specs.ends.Timers.{passed, silent, unused, a_round, rounds_step, may_form, alive_step, due_step, living, time_step}
use Rattle.lat_model.specs.sessions.EndOk.{EndOk}
use Rattle.lat_model.proofs.sessions.Alone.{pack_alone}
use Rattle.lat_laws.specs.rounds.Idle.{Silent, Fitting}
use Rattle.lat_laws.specs.rounds.Measure.{weights}
use Rattle.lat_laws.specs.rounds.Progress.{Due}
use Rattle.lat_laws.proofs.rounds.sessions.Packs.{none_packed}
use Rattle.lat_laws.proofs.rounds.measure.Forming.{pack_more}

-- a step that doesn't throw the sessions back
pub record Grows (e : End) (st : Step) : Type 0 where
  pub good : EndOk e.half.sessions → EndOk st.end.half.sessions
  pub more : EndOk e.half.sessions → weights e.half.sessions ≤ weights st.end.half.sessions

pub same_grows : (e : End) (st : Step) → st.end.half.sessions ≡ e.half.sessions → Grows e st
same_grows e st q = record { good = λ h. subst EndOk (sym q) h; more = λ h. omega (arith, ap weights q) }

pub then_grows : (e : End) (s : Step) (f : End → Step) → Grows e s → Grows s.end (f s.end) → Grows e (then_do s f)
then_grows e s f p q = record { good = λ h. q.good (p.good h); more = λ h. omega (arith, p.more h, q.more (p.good h)) }

pub cond_grows : (e : End) (c : Bool) (s t : Step) → Grows e s → Grows e t → Grows e (cond c s t)
cond_grows e true s t p q = p
cond_grows e false s t p q = q

settle_same : (e : End) → (acknowledge e).end.half.sessions ≡ e.half.sessions
settle_same e = go e.owed
  where
    go : (b : Bool) → (cond b (send_bare false e) (still e)).end.half.sessions ≡ e.half.sessions
    go true = refl
    go false = refl

message_grows : (e : End) → Grows e (send_message (pack e.room e.half.sessions) e)
message_grows e = record { good = λ h. pack_alone e.room e.half.sessions h; more = λ h. omega (arith, pack_more e.room e.half.sessions h) }

pub occasion_grows : (e : End) → Grows e (occasion e)
occasion_grows e = cond_grows e (window_open e.window e.half.link) (form_packed (pack e.room e.half.sessions) e) (acknowledge e)
    (cond_grows e (is_empty (pack e.room e.half.sessions).slots) (acknowledge e) (send_message (pack e.room e.half.sessions) e) (same_grows e (acknowledge e) (settle_same e)) (message_grows e))
    (same_grows e (acknowledge e) (settle_same e))

alive_same : (e : End) → (alive_step e).end.half.sessions ≡ e.half.sessions
alive_same e = go (e.master && e.running && passed e.sent_at (1000 * e.keepalive) e)
  where
    go : (b : Bool) → (cond b (send_bare true e) (still e)).end.half.sessions ≡ e.half.sessions
    go true = refl
    go false = refl

due_grows : (e : End) → Grows e (due_step e)
due_grows e =
    let d : End = record e { due_at = e.moment } in
    let o : Grows d (occasion d) = occasion_grows d in
    let p : Grows e (cond (may_form e) (occasion d) (still d)) = cond_grows e (may_form e) (occasion d) (still d) (record { good = o.good; more = o.more }) (same_grows e (still d) refl) in
    cond_grows e (passed e.due_at (10 * e.timer) e) (then_do (cond (may_form e) (occasion d) (still d)) alive_step) (still e)
    (then_grows e (cond (may_form e) (occasion d) (still d)) alive_step p (same_grows (cond (may_form e) (occasion d) (still d)).end (alive_step (cond (may_form e) (occasion d) (still d)).end) (alive_same (cond (may_form e) (occasion d) (still d)).end)))
    (same_grows e (still e) refl)

-- rounds leave all but the link's shown number, moments and counts
pub record Rounded (e : End) (d : End) : Type 0 where
  pub sessions : d.half.sessions ≡ e.half.sessions
  pub sent : d.half.link.sent ≡ e.half.link.sent
  pub known : d.half.link.known ≡ e.half.link.known
  pub came : d.half.link.came ≡ e.half.link.came
  pub window : d.window ≡ e.window
  pub room : d.room ≡ e.room
  pub due_at : d.due_at ≡ e.due_at
  pub timer : d.timer ≡ e.timer
  pub moment : d.moment ≡ e.moment
  pub forms : may_form d ≡ may_form e
  pub running : d.running ≡ e.running
  pub master : d.master ≡ e.master
  pub heard_run : d.heard_run ≡ e.heard_run

unrounded : (e : End) → Rounded e e
unrounded e = record { sessions = refl; sent = refl; known = refl; came = refl; window = refl; room = refl; due_at = refl; timer = refl; moment = refl; forms = refl; running = refl; master = refl; heard_run = refl }

rounded_cond : (e : End) (c : Bool) (s t : Step) → Rounded e s.end → Rounded e t.end → Rounded e (cond c s t).end
rounded_cond e true s t p q = p
rounded_cond e false s t p q = q

again_rounded : (e : End) → Rounded e (send_again e).end
again_rounded e = record { sessions = refl; sent = refl; known = refl; came = refl; window = refl; room = refl; due_at = refl; timer = refl; moment = refl; forms = refl; running = refl; master = refl; heard_run = refl }

start_rounded : (e : End) → Rounded e (send_start e).end
start_rounded e = record { sessions = refl; sent = refl; known = refl; came = refl; window = refl; room = refl; due_at = refl; timer = refl; moment = refl; forms = refl; running = refl; master = refl; heard_run = refl }

finish_rounded : (r : ℕ) (e : End) → Rounded e (finish r e).end
finish_rounded r e = record { sessions = refl; sent = refl; known = refl; came = refl; window = refl; room = refl; due_at = refl; timer = refl; moment = refl; forms = refl; running = refl; master = refl; heard_run = refl }

pub rounds_rounded : (e : End) → Rounded e (rounds_step e).end
rounds_rounded e = rounded_cond e e.running (cond (not (all_known e) && passed e.since 1000 e) (a_round send_again e) (still e)) (cond (passed e.start_at 1000 e) (a_round send_start e) (still e))
    (rounded_cond e (not (all_known e) && passed e.since 1000 e) (a_round send_again e) (still e) (rounded_cond e (nat_lt e.rounds 8) (send_again e) (finish 6 e) (again_rounded e) (finish_rounded 6 e)) (unrounded e))
    (rounded_cond e (passed e.start_at 1000 e) (a_round send_start e) (still e) (rounded_cond e (nat_lt e.rounds 8) (send_start e) (finish 6 e) (start_rounded e) (finish_rounded 6 e)) (unrounded e))

pub time_grows : (now : ℕ) (e : End) → Grows e (time_step now e)
time_grows now e =
    let d : End = record e { moment = now } in
    let k : Rounded d (rounds_step d).end = rounds_rounded d in
    let g : Grows d (then_do (rounds_step d) (living due_step)) = then_grows d (rounds_step d) (living due_step) (same_grows d (rounds_step d) k.sessions) (cond_grows (rounds_step d).end (lives (rounds_step d).end) (due_step (rounds_step d).end) (still (rounds_step d).end) (due_grows (rounds_step d).end) (same_grows (rounds_step d).end (still (rounds_step d).end) refl)) in
    cond_grows e (silent d) (finish 6 d) (cond (unused d) (finish 3 d) (then_do (rounds_step d) (living due_step))) (same_grows e (finish 6 d) refl)
    (cond_grows e (unused d) (finish 3 d) (then_do (rounds_step d) (living due_step)) (same_grows e (finish 3 d) refl) (record { good = g.good; more = g.more }))

-- what an occasion of an open window brings
pub empty_is : (xs : List TaggedSlot) → is_empty xs ≡ true → xs ≡ []
empty_is [] e = refl
empty_is (x ∷ xs) e = absurd (false≢true e)

full_is : (xs : List TaggedSlot) → is_empty xs ≡ false → 0 < length xs
full_is [] e = absurd (true≢false e)
full_is (x ∷ xs) e = omega arith

abbrev pub Forward : Sessions → Sessions → ℕ → Type 0
Forward e f room = (suc (weights e) ≤ weights f) ⊎ Silent room e

pub occasion_forward : (e : End) → EndOk e.half.sessions → Fitting e.room e.half.sessions → window_open e.window e.half.link ≡ true → Forward e.half.sessions (occasion e).end.half.sessions e.room
occasion_forward e ok fits w = open_at (window_open e.window e.half.link) w
  where
    p : Packing
    p = pack e.room e.half.sessions

    packed : (b : Bool) → is_empty p.slots ≡ b → Forward e.half.sessions (cond b (acknowledge e) (send_message p e)).end.half.sessions e.room
    packed true q = inr (none_packed e.room e.half.sessions fits (empty_is p.slots q))
    packed false q = inl (omega (arith, pack_more e.room e.half.sessions ok, full_is p.slots q))

    open_at : (b : Bool) → b ≡ true → Forward e.half.sessions (cond b (form_packed p e) (acknowledge e)).end.half.sessions e.room
    open_at true q = packed (is_empty p.slots) refl
    open_at false q = absurd (false≢true q)

-- a due time event
due_forward : (e : End) → EndOk e.half.sessions → Fitting e.room e.half.sessions → may_form e ≡ true → e.due_at + 10 * e.timer ≤ e.moment → window_open e.window e.half.link ≡ true → Forward e.half.sessions (due_step e).end.half.sessions e.room
due_forward e ok fits m h w = go (passed e.due_at (10 * e.timer) e) (may_form e) (le-leb (e.due_at + 10 * e.timer) e.moment h) m
  where
    d : End
    d = record e { due_at = e.moment }

    go : (b c : Bool) → b ≡ true → c ≡ true → Forward e.half.sessions (cond b (then_do (cond c (occasion d) (still d)) alive_step) (still e)).end.half.sessions e.room
    go false c p q = absurd (false≢true p)
    go true false p q = absurd (false≢true q)
    go true true p q = subst (λ z. Forward e.half.sessions z e.room) (sym (alive_same (occasion d).end)) (occasion_forward d ok fits w)

dead_finish : (r : ℕ) (e : End) → lives (finish r e).end ≡ true → ⊥
dead_finish r e h = false≢true h

-- the parts of a time event after which the end lives
pub record Passes (now : ℕ) (e : End) : Type 0 where
  pub lives : lives (rounds_step (record e { moment = now })).end ≡ true
  pub step : time_step now e ≡ then_do (rounds_step (record e { moment = now })) due_step

pub time_passes : (now : ℕ) (e : End) → lives (time_step now e).end ≡ true → Passes now e
time_passes now e h = go (silent d) (unused d) (lives (rounds_step d).end) refl refl refl h
  where
    d : End
    d = record e { moment = now }

    go : (a b c : Bool) → silent d ≡ a → unused d ≡ b → lives (rounds_step d).end ≡ c → lives (cond a (finish 6 d) (cond b (finish 3 d) (then_do (rounds_step d) (λ k. cond c (due_step k) (still k))))).end ≡ true → Passes now e
    go true b c p q r l = absurd (dead_finish 6 d l)
    go false true c p q r l = absurd (dead_finish 3 d l)
    go false false false p q r l = absurd (both_ways (lives (rounds_step d).end) r l)
    go false false true p q r l = record {
      lives = r;
      step = ap (λ x. cond x (finish 6 d) (cond (unused d) (finish 3 d) (then_do (rounds_step d) (living due_step)))) p
          ∙ ap (λ x. cond x (finish 3 d) (then_do (rounds_step d) (living due_step))) q
          ∙ ap (λ x. record { end = (cond x (due_step (rounds_step d).end) (still (rounds_step d).end)).end; sent = (rounds_step d).sent ++ (cond x (due_step (rounds_step d).end) (still (rounds_step d).end)).sent }) r;
    }

-- a time event at an end whose window is open brings it forward, or it has nothing to send
pub time_forward : (now : ℕ) (e : End) → Due now e → window_open e.window e.half.link ≡ true → lives (time_step now e).end ≡ true → Forward e.half.sessions (time_step now e).end.half.sessions e.room
time_forward now e r w h =
    let p : Passes now e = time_passes now e h in
    let f : Forward (rounds_step d).end.half.sessions (due_step (rounds_step d).end).end.half.sessions (rounds_step d).end.room = due_forward (rounds_step d).end good fits forms due open_yet in
    subst (λ (z : Step). Forward e.half.sessions z.end.half.sessions e.room) (sym p.step)
    (subst (λ z. Forward z (due_step (rounds_step d).end).end.half.sessions e.room) k.sessions (subst (λ z. Forward (rounds_step d).end.half.sessions (due_step (rounds_step d).end).end.half.sessions z) k.room f))
  where
    d : End
    d = record e { moment = now }

    k : Rounded d (rounds_step d).end
    k = rounds_rounded d

    good : EndOk (rounds_step d).end.half.sessions
    good = subst EndOk (sym k.sessions) r.good

    fits : Fitting (rounds_step d).end.room (rounds_step d).end.half.sessions
    fits = subst (λ z. Fitting z (rounds_step d).end.half.sessions) (sym k.room) (subst (λ z. Fitting e.room z) (sym k.sessions) r.fits)

    forms : may_form (rounds_step d).end ≡ true
    forms = k.forms ∙ r.forms

    due : (rounds_step d).end.due_at + 10 * (rounds_step d).end.timer ≤ (rounds_step d).end.moment
    due = omega (arith, k.due_at, k.timer, k.moment, r.due)

    open_yet : window_open (rounds_step d).end.window (rounds_step d).end.half.link ≡ true
    open_yet = ap₂ (λ x y. nat_lt x y) (ap length k.sent) (ap₂ (λ x y. x + y) k.known k.window) ∙ w
