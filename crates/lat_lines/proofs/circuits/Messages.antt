-- A message that names a circuit is heard by that circuit.
use Rattle.std.proofs.Common.{◌≡◌, ℕ, Bool, true, false, not, cond, ◌&&◌, ◌||◌, nat_eq, ne_eqb, List, refl, sym, ap, ◌∙◌, None}
use Rattle.std.proofs.Math.Path.{fun_ext}
use Rattle.std.proofs.lemmas.Bool.{eq-eqb, eqb-true, true≢false}
use Rattle.lat_model.specs.Lists.{updated}
use Rattle.lat_model.specs.sessions.Sessions.{held}
use Rattle.lat_model.specs.sessions.Slots.{Slot}
use Rattle.lat_model.specs.ends.End.{End, Step, still, lives}
use Rattle.lat_model.specs.ends.Timers.{note_empty}
use Rattle.lat_model.specs.ends.Run.{run_end}
use Rattle.lat_model.specs.ends.Starting.{hear_reply, hear_stop}
use Rattle.lat_machines.specs.values.Messages.{Head, StartInfo}
use Rattle.lat_machines.specs.values.Timing.{agreed_by}
use Rattle.lat_machines.specs.values.Answers.{Running, Again, Foreign, Ended, Circuit}
use Rattle.lat_machines.specs.cores.Acts.{put_at, steps_at, idle}
use Rattle.lat_machines.specs.cores.Hearing.{hear_run, hear_stop_at, hear_reply_at, run_at, fits_kind, run_frame, numbers_at, answer_of, foreign}
use Rattle.lat_machines.specs.cores.Cores.{Side, Core, acts, with_circuits, rests}
use Rattle.lat_circuit.specs.Hears.{HeardStep, hears_run, hears_named as hears_fit, hears_reply, hears_stop, foreign as foreign_step}
use Rattle.lat_lines.specs.circuits.Hears.{HeardCore, of_act, untouched}
use Rattle.lat_lines.proofs.CircuitsHeld.{eqb_self}

-- what is put in its own place
updated_same : {X : Type 0} (f : ℕ → X) (x : ℕ) → updated f x (f x) ≡ f
updated_same {X} f x = fun_ext at
  where
    at : (j : ℕ) → updated f x (f x) j ≡ f j
    at j = by (nat_eq j x) refl
      where
        by : (b : Bool) → nat_eq j x ≡ b → cond b (f x) (f j) ≡ f j
        by true e = ap f (sym (eqb-true j x e))
        by false e = refl

-- an end that did nothing has nothing to note
note_still : (e : End) → note_empty e (still e) ≡ still e
note_still e = by (nat_eq (held e.half.sessions) 0)
  where
    by : (b : Bool) → still (record e { empty_at = cond (not b && b) e.moment e.empty_at }) ≡ still e
    by true = refl
    by false = refl

abbrev pub end_at : Core → ℕ → End
end_at c x = (c.circuits.circuit_at x).end

-- The core does this step of the circuit x, and answers so
abbrev pub does : Side → ℕ → Core → HeardStep → HeardCore
does k x c s = record {
  doing = acts k c (put_at k.server c.circuits c.circuits.drawn x (c.circuits.circuit_at x).address (note_empty (c.circuits.circuit_at x).end s.step));
  answer = Circuit s.answer;
}

-- a step of a circuit that it doesn't belong to
does_foreign : (k : Side) (x : ℕ) (c : Core) → does k x c (foreign_step (c.circuits.circuit_at x).end) ≡ untouched c
does_foreign k x c =
    let e : End = (c.circuits.circuit_at x).end in
    ap (λ (s : Step). record { doing = acts k c (put_at k.server c.circuits c.circuits.drawn x (c.circuits.circuit_at x).address s); answer = Circuit Foreign }) (note_still e)
    ∙ ap (λ f. record { doing = rests (with_circuits c (record (c.circuits) { circuit_at = f })); answer = Circuit Foreign }) (updated_same c.circuits.circuit_at x)

nat_eq_sym : (x y : ℕ) → nat_eq x y ≡ nat_eq y x
nat_eq_sym x y = by (nat_eq x y) refl
  where
    by : (b : Bool) → nat_eq x y ≡ b → b ≡ nat_eq y x
    by true e = sym (eq-eqb y x (sym (eqb-true x y e)))
    by false e = sym (ne_eqb y x (λ s. true≢false (sym (eq-eqb x y (sym s)) ∙ e)))

-- what an end does at a RUN of its kind, and at one of another
abbrev fits_step : ℕ → Head → List Slot → End → HeardStep
fits_step now h slots e = record {
  step = (run_end now h.ask (run_frame (numbers_at e h None) slots) e).step;
  answer = answer_of (run_end now h.ask (run_frame (numbers_at e h None) slots) e).answer;
}

abbrev unfit_step : ℕ → End → HeardStep
unfit_step now e = record { step = still (record e { moment = now }); answer = Foreign }

-- A RUN
module _ (k : Side) (c : Core) (from : ℕ) (wide : Bool) (h : Head) (slots : List Slot) where
  -- of a circuit that lives: its kind is looked at
  kind : lives (end_at c h.to) ≡ true → (fit : Bool)
      → of_act k c (run_at k.server c.circuits h.to fit c.moment h.ask (run_frame (numbers_at (end_at c h.to) h None) slots)) ≡ does k h.to c (cond fit (fits_step c.moment h slots (end_at c h.to)) (unfit_step c.moment (end_at c h.to)))
  kind l true = refl
  kind l false = ap (λ b. of_act k c (record { act = cond b (steps_at k.server c.circuits h.to (still (record (end_at c h.to) { moment = c.moment }))) (idle c.circuits); answer = Foreign })) l

  -- of one that has the address and lives: its ids are looked at
  ids : lives (end_at c h.to) ≡ true → (peer running : Bool)
      → of_act k c (cond (peer && true && running) (run_at k.server c.circuits h.to (fits_kind (end_at c h.to) h.master wide) c.moment h.ask (run_frame (numbers_at (end_at c h.to) h None) slots)) (foreign c.circuits))
      ≡ does k h.to c (cond (peer && running) (hears_fit c.moment wide h slots (end_at c h.to)) (foreign_step (end_at c h.to)))
  ids l true true = kind l (fits_kind (end_at c h.to) h.master wide)
  ids l true false = sym (does_foreign k h.to c)
  ids l false running = sym (does_foreign k h.to c)

  -- of one that may be another's
  named : (address alive : Bool) → lives (end_at c h.to) ≡ alive
      → of_act k c (cond ((address && nat_eq (end_at c h.to).peer h.from) && alive && (end_at c h.to).running) (run_at k.server c.circuits h.to (fits_kind (end_at c h.to) h.master wide) c.moment h.ask (run_frame (numbers_at (end_at c h.to) h None) slots)) (foreign c.circuits))
      ≡ cond (address && alive) (does k h.to c (hears_run h.to c.moment wide h slots (end_at c h.to))) (untouched c)
  named true true l =
      ids l (nat_eq (end_at c h.to).peer h.from) (end_at c h.to).running
      ∙ ap (λ b. does k h.to c (cond (b && (end_at c h.to).running) (hears_fit c.moment wide h slots (end_at c h.to)) (foreign_step (end_at c h.to)))) (nat_eq_sym (end_at c h.to).peer h.from)
      ∙ ap (λ b. does k h.to c (cond (b && (nat_eq h.from (end_at c h.to).peer && (end_at c h.to).running)) (hears_fit c.moment wide h slots (end_at c h.to)) (foreign_step (end_at c h.to)))) (sym (eqb_self h.to))
  named true false l = ap (λ b. of_act k c (cond b (run_at k.server c.circuits h.to (fits_kind (end_at c h.to) h.master wide) c.moment h.ask (run_frame (numbers_at (end_at c h.to) h None) slots)) (foreign c.circuits))) (none (nat_eq (end_at c h.to).peer h.from))
    where
      none : (b : Bool) → b && false && (end_at c h.to).running ≡ false
      none true = refl
      none false = refl
  named false alive l = refl

  pub run_heard : of_act k c (hear_run k.server c.circuits from wide h slots None c.moment)
      ≡ cond (nat_eq (c.circuits.circuit_at h.to).address from && lives (end_at c h.to)) (does k h.to c (hears_run h.to c.moment wide h slots (end_at c h.to))) (untouched c)
  run_heard = named (nat_eq (c.circuits.circuit_at h.to).address from) (lives (end_at c h.to)) refl

-- A STOP
module _ (k : Side) (c : Core) (from to source reason : ℕ) where
  stopped : (own : Bool) → own ≡ true → (address source_is alive : Bool) → lives (end_at c to) ≡ alive
      → of_act k c (cond (address && source_is && alive) (record { act = steps_at k.server c.circuits to (hear_stop c.moment reason (end_at c to)); answer = Ended reason }) (foreign c.circuits))
      ≡ cond (address && alive) (does k to c (cond (own && source_is) (record { step = hear_stop c.moment reason (end_at c to); answer = Ended reason }) (foreign_step (end_at c to)))) (untouched c)
  stopped true is true true true l = refl
  stopped true is true false true l = sym (does_foreign k to c)
  stopped true is true true false l = refl
  stopped true is true false false l = refl
  stopped true is false source alive l = refl
  stopped false is address source alive l = absurd (true≢false (sym is))

  pub stop_heard : of_act k c (hear_stop_at k.server c.circuits from to source c.moment reason)
      ≡ cond (nat_eq (c.circuits.circuit_at to).address from && lives (end_at c to)) (does k to c (hears_stop to c.moment to source reason (end_at c to))) (untouched c)
  stop_heard = stopped (nat_eq to to) (eqb_self to) (nat_eq (c.circuits.circuit_at to).address from) (nat_eq (end_at c to).peer source || nat_eq source 0) (lives (end_at c to)) refl

-- A reply, at a server
module _ (k : Side) (c : Core) (from to source : ℕ) (info : StartInfo) where
  abbrev step : HeardStep
  step = record { step = hear_reply c.moment source (agreed_by k.timing info) (end_at c to); answer = cond (end_at c to).running Again Running }

  replied : (own master alive : Bool) → own ≡ true → (alive ≡ true → master ≡ true) → (address source_is : Bool) → lives (end_at c to) ≡ alive
      → of_act k c (cond (address && alive && source_is) (record { act = steps_at k.server c.circuits to step.step; answer = step.answer }) (foreign c.circuits))
      ≡ cond (address && alive) (does k to c (cond (master && (own && source_is)) step (foreign_step (end_at c to)))) (untouched c)
  replied true true true o m true true l = refl
  replied true true true o m true false l = sym (does_foreign k to c)
  replied true false true o m true source l = absurd (true≢false (sym (m refl)))
  replied true master false o m true source l = refl
  replied true master alive o m false source l = refl
  replied false master alive o m address source l = absurd (true≢false (sym o))

  pub reply_heard : k.server ≡ true → (lives (end_at c to) ≡ true → (end_at c to).master ≡ true)
      → of_act k c (hear_reply_at c.circuits from to source c.moment (agreed_by k.timing info))
      ≡ cond (nat_eq (c.circuits.circuit_at to).address from && lives (end_at c to)) (does k to c (hears_reply to c.moment k.timing to source info (end_at c to))) (untouched c)
  reply_heard server m =
      let t : Bool = nat_eq (c.circuits.circuit_at to).address from && lives (end_at c to) && (not (end_at c to).running || nat_eq (end_at c to).peer source) in
      ap (λ b. of_act k c (cond t (record { act = steps_at b c.circuits to step.step; answer = step.answer }) (foreign c.circuits))) (sym server)
      ∙ replied (nat_eq to to) (end_at c to).master (lives (end_at c to)) (eqb_self to) m (nat_eq (c.circuits.circuit_at to).address from) (not (end_at c to).running || nat_eq (end_at c to).peer source) refl
