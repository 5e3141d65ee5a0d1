-- Tallied numbers, table by table: what circuits form, take and show, and what frames bear.
use Rattle.std.proofs.Common.{◌≡◌, ◌≢◌, ℕ, suc, ◌+◌, arith, refl, sym, ap, ap₂, ◌∙◌, subst, Bool, true, false, cond, ◌&&◌, ◌||◌, List, [], ◌∷◌, ◌++◌, map, nat_eq, eqb-true}
use Rattle.lat_machines.specs.cores.Hearing.{outlive, outlive_at, is_outlived, follows}
use Rattle.std.proofs.lemmas.Bool.{true≢false, eqb-false, and_parts}
use Rattle.lat_model.specs.sessions.Slots.{Slot}
use Rattle.lat_model.specs.sessions.Calls.{Call}
use Rattle.lat_model.specs.Lists.{Each}
use Rattle.lat_model.specs.numbers.Link.{fresh}
use Rattle.lat_model.specs.ends.End.{Mark, Fresh, Bare, Sent, Run, CallStart, ReplyStart, Stopped, End, Step, still, lives, call_end, finish, lapse}
use Rattle.lat_model.specs.ends.End as End
use Rattle.lat_model.specs.ends.Timers.{note_empty, time_step}
use Rattle.lat_model.specs.ends.Starting.{Setup}
use Rattle.lat_model.specs.circuits.World.{CircuitEntry, Table, wire_all}
use Rattle.lat_model.proofs.sessions.Words.{upd_same, upd_other, upd_all}
use Rattle.lat_model.specs.circuits.Ids.{is_drawn, is_id_of, next_id}
use Rattle.lat_model.proofs.circuits.Ids.{next_new, undrawn_other, undrawn_before}
use Rattle.lat_machines.specs.values.Messages.{RunMessage, WideMessage, StartMessage, StopMessage}
use Rattle.lat_machines.specs.values.Frames.{Value, OfCircuit, OfNotice, FrameMark, OfRun, Plain, OutFrame}
use Rattle.lat_machines.specs.values.Runs.{run_head, slots_in}
use Rattle.lat_machines.specs.cores.Acts.{Acted, idle, put_at, steps_at, call_at, called, local_at, time_at, end_at}
use Rattle.lat_machines.specs.cores.Cores.{Side, Core, sent_frame, acts, with_circuits}
use Rattle.lat_machines.specs.world.Bears.{BearsMarked, BearsValue, Bears}
use Rattle.lat_machines.specs.world.Tally.{formed_in, taken_in, new_messages, new_of, is_run, sends_run, number_of, TalliedBy, Tallied}
use Rattle.lat_machines.proofs.events.Leads.{each_more}
use Rattle.lat_machines.proofs.tally.Ends.{formed, taken, shown, messages, new_by, new_in, runs_in, SentTallied, SentBears, Grown, grown_none, grown_then, bears_on, Full, shows_then, plus_zero, Counts, NoRun, plainly, quiet, counts_time, counts_finish}

-- counts

none_more : ℕ → ℕ
none_more x = 0

by_same : (m : FrameMark) (n n' a a' : ℕ) (f : OutFrame) → n ≡ n' → a ≡ a' → TalliedBy m n a f → TalliedBy m n' a' f
by_same m n n' a a' f p q h = subst (λ z. TalliedBy m z a' f) p (subst (λ z. TalliedBy m n z f) q h)

pub tallied_same : (n n' a a' : ℕ → ℕ) → ((x : ℕ) → n x ≡ n' x) → ((x : ℕ) → a x ≡ a' x) → (fs : List OutFrame) → Tallied n a fs → Tallied n' a' fs
tallied_same n n' a a' p q [] h = tt
tallied_same n n' a a' p q (f ∷ fs) h = (by_same f.mark (n f.circuit) (n' f.circuit) (a f.circuit) (a' f.circuit) f (p f.circuit) (q f.circuit) h.0, tallied_same (λ x. n x + cond (nat_eq f.circuit x) (new_messages f.mark) 0) (λ x. n' x + cond (nat_eq f.circuit x) (new_messages f.mark) 0) a a' (λ x. ap (λ z. z + cond (nat_eq f.circuit x) (new_messages f.mark) 0) (p x)) q fs h.1)

tallied_more : (n a : ℕ → ℕ) (xs ys : List OutFrame) → Tallied n a xs → Tallied (λ x. n x + new_of x xs) a ys → Tallied n a (xs ++ ys)
tallied_more n a [] ys p q = tallied_same (λ x. n x + 0) n a a (λ x. sym (plus_zero (n x))) (λ x. refl) ys q
tallied_more n a (f ∷ xs) ys p q = (p.0, tallied_more (λ x. n x + cond (nat_eq f.circuit x) (new_messages f.mark) 0) a xs ys p.1 (tallied_same _ _ a a (λ x. plus_three (n x) (cond (nat_eq f.circuit x) (new_messages f.mark) 0) (new_of x xs)) (λ x. refl) ys q))
  where
    plus_three : (i j k : ℕ) → i + (j + k) ≡ (i + j) + k
    plus_three i j k = omega arith

new_more : (x : ℕ) (xs ys : List OutFrame) → new_of x (xs ++ ys) ≡ new_of x xs + new_of x ys
new_more x [] ys = omega arith
new_more x (f ∷ xs) ys = let h : new_of x (xs ++ ys) ≡ new_of x xs + new_of x ys = new_more x xs ys in omega (arith, h)

sends_more : (x : ℕ) (xs ys : List OutFrame) → sends_run x (xs ++ ys) ≡ (sends_run x xs || sends_run x ys)
sends_more x [] ys = refl
sends_more x (f ∷ xs) ys = ap (λ z. (is_run f.mark && nat_eq f.circuit x) || z) (sends_more x xs ys) ∙ go (is_run f.mark && nat_eq f.circuit x)
  where
    go : (b : Bool) → (b || (sends_run x xs || sends_run x ys)) ≡ ((b || sends_run x xs) || sends_run x ys)
    go true = refl
    go false = refl

-- what a table's circuits have formed, taken and shown
abbrev pub formed_on : Table → ℕ → ℕ
formed_on t x = formed (t.circuit_at x).end

abbrev pub taken_on : Table → ℕ → ℕ
taken_on t x = taken (t.circuit_at x).end

abbrev pub shown_on : Table → ℕ → ℕ
shown_on t x = shown (t.circuit_at x).end

abbrev pub messages_on : Table → ℕ → List (List Slot)
messages_on t x = messages (t.circuit_at x).end

-- circuits that weren't drawn don't live, and have formed and taken nothing; no message is without slots
pub record Steady (t : Table) : Type 0 where
  pub unused : (x : ℕ) → is_drawn t x ≡ false → (lives (t.circuit_at x).end ≡ false) × ((t.circuit_at x).end.half.link ≡ fresh)
  pub full : (x : ℕ) → Full (messages_on t x)

-- from one table to another, with the frames between; each circuit took so many messages more
pub record TableCounts (t : Table) (u : Table) (fs : List OutFrame) (more : ℕ → ℕ) : Type 0 where
  pub numbers : Tallied (formed_on t) (taken_on u) fs
  pub bears : Each (Bears (messages_on u)) fs
  pub formed : (x : ℕ) → formed_on u x ≡ formed_on t x + new_of x fs
  pub taken : (x : ℕ) → taken_on u x ≡ taken_on t x + more x
  pub shown : (x : ℕ) → shown_on u x ≡ cond (sends_run x fs) (taken_on u x) (shown_on t x)
  pub grows : (x : ℕ) → Grown (messages_on t x) (messages_on u x)
  pub steady : Steady u

abbrev pub CoreCounts : Core → Core → List OutFrame → (ℕ → ℕ) → Type 0
CoreCounts c d fs more = TableCounts c.circuits d.circuits fs more

abbrev pub Same : Core → Core → List OutFrame → Type 0
Same c d fs = CoreCounts c d fs (λ x. 0)

pub core_none : (c : Core) → Steady c.circuits → Same c c []
core_none c r = record { numbers = tt; bears = tt; formed = λ x. plus_zero (formed_in c x); taken = λ x. plus_zero (taken_in c x); shown = λ x. refl; grows = λ x. grown_none (messages_on c.circuits x); steady = r }

-- frames go on bearing messages as circuits form more
marked_on : (xs ys : List (List Slot)) → Grown xs ys → (m : FrameMark) (n : ℕ) (slots : List Slot) → BearsMarked xs m n slots → BearsMarked ys m n slots
marked_on xs ys g (OfRun m) n slots h = bears_on xs ys g m n slots h
marked_on xs ys g Plain n slots h = h

pub value_on : (xs ys : List (List Slot)) → Grown xs ys → (m : FrameMark) (n : ℕ) (v : Value) → BearsValue xs m n v → BearsValue ys m n v
value_on xs ys g m n (OfCircuit (RunMessage h slots)) p = marked_on xs ys g m n slots p
value_on xs ys g m n (OfCircuit (WideMessage h slots)) p = marked_on xs ys g m n slots p
value_on xs ys g m n (OfCircuit (StartMessage master ask to from info)) p = p
value_on xs ys g m n (OfCircuit (StopMessage master ask to from reason text)) p = p
value_on xs ys g m n (OfNotice x) p = p

pub frames_on : (p q : ℕ → List (List Slot)) → ((x : ℕ) → Grown (p x) (q x)) → (fs : List OutFrame) → Each (Bears p) fs → Each (Bears q) fs
frames_on p q g [] h = tt
frames_on p q g (f ∷ fs) h = (value_on (p f.circuit) (q f.circuit) (g f.circuit) f.mark f.number f.value h.0, frames_on p q g fs h.1)

pub core_then : (c d e : Core) (fs gs : List OutFrame) (more : ℕ → ℕ) → CoreCounts c d fs more → Same d e gs → CoreCounts c e (fs ++ gs) more
core_then c d e fs gs more p q = record {
  numbers = tallied_more (formed_in c) (taken_in e) fs gs
      (tallied_same (formed_in c) (formed_in c) (taken_in d) (taken_in e) (λ x. refl) (λ x. sym (q.taken x ∙ sym (plus_zero (taken_in d x)))) fs p.numbers)
      (tallied_same (formed_in d) (λ x. formed_in c x + new_of x fs) (taken_in e) (taken_in e) p.formed (λ x. refl) gs q.numbers);
  bears = each_more (Bears (messages_on e.circuits)) fs gs (frames_on (messages_on d.circuits) (messages_on e.circuits) q.grows fs p.bears) q.bears;
  formed = λ x. (let a : formed_in d x ≡ formed_in c x + new_of x fs = p.formed x in let b : formed_in e x ≡ formed_in d x + new_of x gs = q.formed x in let h : new_of x (fs ++ gs) ≡ new_of x fs + new_of x gs = new_more x fs gs in omega (arith, a, b, h));
  taken = λ x. (let a : taken_in d x ≡ taken_in c x + more x = p.taken x in let b : taken_in e x ≡ taken_in d x + 0 = q.taken x in omega (arith, a, b));
  shown = λ x. shows_then (sends_run x fs) (sends_run x gs) (taken_in d x) (taken_in e x) (shown_on c.circuits x) (shown_on d.circuits x) (shown_on e.circuits x) (q.taken x ∙ sym (plus_zero (taken_in d x))) (p.shown x) (q.shown x) ∙ ap (λ z. cond z (taken_in e x) (shown_on c.circuits x)) (sym (sends_more x fs gs));
  grows = λ x. grown_then (messages_on c.circuits x) (messages_on d.circuits x) (messages_on e.circuits x) (p.grows x) (q.grows x);
  steady = q.steady;
}

-- frames of one circuit

pub eqb_same : (n : ℕ) → nat_eq n n ≡ true
eqb_same n = go (nat_eq n n) refl
  where
    go : (b : Bool) → nat_eq n n ≡ b → b ≡ true
    go true q = refl
    go false q = absurd (eqb-false n n q refl)

eqb_not : (x y : ℕ) → x ≢ y → nat_eq x y ≡ false
eqb_not x y h = go (nat_eq x y) refl
  where
    go : (b : Bool) → nat_eq x y ≡ b → b ≡ false
    go true q = absurd (h (eqb-true x y q))
    go false q = refl

mark_new : (m : Mark) → new_messages (OfRun m) ≡ new_by m
mark_new Fresh = refl
mark_new (End.Again back) = refl
mark_new Bare = refl

pub cond_none : (b : Bool) → cond {A = ℕ} b 0 0 ≡ 0
cond_none true = refl
cond_none false = refl

wires_tallied : (k : Side) (d : Core) (b : Bool) (x to destination : ℕ) (n a : ℕ → ℕ) (m i : ℕ) → n x ≡ m → a x ≡ i → (ss : List Sent) → SentTallied m i ss → Tallied n a (map (sent_frame k d) (wire_all b x to destination ss))
wires_tallied k d b x to destination n a m i p q [] h = tt
wires_tallied k d b x to destination n a m i p q (Run mark ask f ∷ ss) h = (
  (h.0 ∙ ap (number_of mark) (sym p), h.1 ∙ sym q),
  wires_tallied k d b x to destination (λ y. n y + cond (nat_eq x y) (new_messages (OfRun mark)) 0) a (m + new_by mark) i (ap₂ (λ y z. y + cond z (new_messages (OfRun mark)) 0) p (eqb_same x) ∙ ap (λ z. m + z) (mark_new mark)) q ss h.2,
)
wires_tallied k d b x to destination n a m i p q (CallStart ∷ ss) h = (tt, wires_tallied k d b x to destination (λ y. n y + cond (nat_eq x y) 0 0) a m i (ap (λ z. n x + z) (cond_none (nat_eq x x)) ∙ (sym (plus_zero (n x)) ∙ p)) q ss h)
wires_tallied k d b x to destination n a m i p q (ReplyStart ∷ ss) h = (tt, wires_tallied k d b x to destination (λ y. n y + cond (nat_eq x y) 0 0) a m i (ap (λ z. n x + z) (cond_none (nat_eq x x)) ∙ (sym (plus_zero (n x)) ∙ p)) q ss h)
wires_tallied k d b x to destination n a m i p q (Stopped r ∷ ss) h = (tt, wires_tallied k d b x to destination (λ y. n y + cond (nat_eq x y) 0 0) a m i (ap (λ z. n x + z) (cond_none (nat_eq x x)) ∙ (sym (plus_zero (n x)) ∙ p)) q ss h)

wires_new : (k : Side) (d : Core) (b : Bool) (x to destination y : ℕ) (ss : List Sent) → new_of y (map (sent_frame k d) (wire_all b x to destination ss)) ≡ cond (nat_eq x y) (new_in ss) 0
wires_new k d b x to destination y [] = sym (cond_none (nat_eq x y))
wires_new k d b x to destination y (Run mark ask f ∷ ss) = ap₂ (λ i j. cond (nat_eq x y) i 0 + j) (mark_new mark) (wires_new k d b x to destination y ss) ∙ go (nat_eq x y)
  where
    go : (c : Bool) → cond c (new_by mark) 0 + cond c (new_in ss) 0 ≡ cond c (new_by mark + new_in ss) 0
    go true = refl
    go false = refl
wires_new k d b x to destination y (CallStart ∷ ss) = let h : new_of y (map (sent_frame k d) (wire_all b x to destination ss)) ≡ cond (nat_eq x y) (new_in ss) 0 = wires_new k d b x to destination y ss in let z : cond (nat_eq x y) 0 0 ≡ 0 = cond_none (nat_eq x y) in omega (arith, h, z)
wires_new k d b x to destination y (ReplyStart ∷ ss) = let h : new_of y (map (sent_frame k d) (wire_all b x to destination ss)) ≡ cond (nat_eq x y) (new_in ss) 0 = wires_new k d b x to destination y ss in let z : cond (nat_eq x y) 0 0 ≡ 0 = cond_none (nat_eq x y) in omega (arith, h, z)
wires_new k d b x to destination y (Stopped r ∷ ss) = let h : new_of y (map (sent_frame k d) (wire_all b x to destination ss)) ≡ cond (nat_eq x y) (new_in ss) 0 = wires_new k d b x to destination y ss in let z : cond (nat_eq x y) 0 0 ≡ 0 = cond_none (nat_eq x y) in omega (arith, h, z)

wires_send : (k : Side) (d : Core) (b : Bool) (x to destination y : ℕ) (ss : List Sent) → sends_run y (map (sent_frame k d) (wire_all b x to destination ss)) ≡ (nat_eq x y && runs_in ss)
wires_send k d b x to destination y [] = go (nat_eq x y)
  where
    go : (c : Bool) → false ≡ (c && false)
    go true = refl
    go false = refl
wires_send k d b x to destination y (Run mark ask f ∷ ss) = ap (λ z. nat_eq x y || z) (wires_send k d b x to destination y ss) ∙ go (nat_eq x y)
  where
    go : (c : Bool) → (c || (c && runs_in ss)) ≡ (c && true)
    go true = refl
    go false = refl
wires_send k d b x to destination y (CallStart ∷ ss) = wires_send k d b x to destination y ss
wires_send k d b x to destination y (ReplyStart ∷ ss) = wires_send k d b x to destination y ss
wires_send k d b x to destination y (Stopped r ∷ ss) = wires_send k d b x to destination y ss

wires_bear : (k : Side) (d : Core) (b : Bool) (x to destination : ℕ) (messages : ℕ → List (List Slot)) (ss : List Sent) → SentBears (messages x) ss → Each (Bears messages) (map (sent_frame k d) (wire_all b x to destination ss))
wires_bear k d b x to destination messages [] h = tt
wires_bear k d b x to destination messages (Run mark ask f ∷ ss) h = (run (d.circuits.circuit_at x).end.wide (d.circuits.circuit_at x).end.wide, wires_bear k d b x to destination messages ss h.1)
  where
    run : (n v : Bool) → BearsValue (messages x) (OfRun mark) f.number (OfCircuit (cond n (WideMessage (run_head b v ask destination x f) (slots_in f)) (RunMessage (run_head b v ask destination x f) (slots_in f))))
    run true v = h.0
    run false v = h.0
wires_bear k d b x to destination messages (CallStart ∷ ss) h = (refl, wires_bear k d b x to destination messages ss h)
wires_bear k d b x to destination messages (ReplyStart ∷ ss) h = (refl, wires_bear k d b x to destination messages ss h)
wires_bear k d b x to destination messages (Stopped r ∷ ss) h = (refl, wires_bear k d b x to destination messages ss h)

-- a step at one circuit, which took so many messages
pub record StepCounts (e : End) (s : Step) (i : ℕ) : Type 0 where
  pub sent : SentTallied (formed e) (taken s.end) s.sent
  pub forms : formed s.end ≡ formed e + new_in s.sent
  pub takes : taken s.end ≡ taken e + i
  pub shows : shown s.end ≡ cond (runs_in s.sent) (taken s.end) (shown e)
  pub bears : Full (messages e) → SentBears (messages s.end) s.sent
  pub grows : Grown (messages e) (messages s.end)
  pub full : Full (messages e) → Full (messages s.end)

of_counts : (e : End) (s : Step) → Counts e s → StepCounts e s 0
of_counts e s p = record {
  sent = subst (λ z. SentTallied (formed e) z s.sent) (sym p.takes) p.sent;
  forms = p.forms;
  takes = p.takes ∙ plus_zero (taken e);
  shows = p.shows;
  bears = p.bears;
  grows = p.grows;
  full = p.full;
}

put_counts : (b : Bool) (k : Side) (c : Core) (drawn x address : ℕ) (s : Step) (i : ℕ) → Steady c.circuits → ((y : ℕ) → is_id_of c.circuits.first drawn y ≡ false → (y ≢ x) × (is_drawn c.circuits y ≡ false)) → StepCounts (c.circuits.circuit_at x).end s i → CoreCounts c (acts k c (put_at b c.circuits drawn x address s)).core (acts k c (put_at b c.circuits drawn x address s)).frames (λ y. cond (nat_eq x y) i 0)
put_counts b k c drawn x address s i r far p = record {
  numbers = wires_tallied k d b x address s.end.peer (formed_in c) (taken_in d) (formed e) (taken s.end) refl (at_x taken) s.sent p.sent;
  bears = wires_bear k d b x address s.end.peer (messages_on d.circuits) s.sent (subst (λ (z : List (List Slot)). SentBears z s.sent) (sym (at_x messages)) (p.bears (r.full x)));
  formed = λ y. forms_at y (nat_eq y x) refl;
  taken = λ y. takes_at y (nat_eq y x) refl;
  shown = λ y. shows_at y (nat_eq y x) refl;
  grows = λ y. grows_at y (nat_eq y x) refl;
  steady = record {
    unused = λ y l. (let h : (y ≢ x) × (is_drawn c.circuits y ≡ false) = far y l in subst (λ (z : CircuitEntry). (lives z.end ≡ false) × (z.end.half.link ≡ fresh)) (sym (upd_other t.circuit_at x new y h.0)) (r.unused y h.1));
    full = upd_all (λ (z : CircuitEntry). Full (messages z.end)) t.circuit_at x new (p.full (r.full x)) r.full;
  };
}
  where
    t : Table
    t = c.circuits

    e : End
    e = (t.circuit_at x).end

    new : CircuitEntry
    new = record { address = address; end = s.end }

    d : Core
    d = (acts k c (put_at b t drawn x address s)).core

    frames : List OutFrame
    frames = (acts k c (put_at b t drawn x address s)).frames

    at_x : {A : Type 0} → (f : End → A) → f (d.circuits.circuit_at x).end ≡ f s.end
    at_x f = ap (λ (z : CircuitEntry). f z.end) (upd_same t.circuit_at x new)

    at_other : {A : Type 0} → (f : End → A) (y : ℕ) → y ≢ x → f (d.circuits.circuit_at y).end ≡ f (t.circuit_at y).end
    at_other f y h = ap (λ (z : CircuitEntry). f z.end) (upd_other t.circuit_at x new y h)

    turned : (y : ℕ) → y ≢ x → nat_eq x y ≡ false
    turned y h = eqb_not x y (λ q. h (sym q))

    forms_at : (y : ℕ) (n : Bool) → nat_eq y x ≡ n → formed_in d y ≡ formed_in c y + new_of y (acts k c (put_at b t drawn x address s)).frames
    forms_at y true q =
        subst (λ z. formed_in d z ≡ formed_in c z + new_of z (acts k c (put_at b t drawn x address s)).frames) (sym (eqb-true y x q))
        (at_x formed ∙ (p.forms ∙ ap (λ z. formed e + z) (sym (wires_new k d b x address s.end.peer x s.sent ∙ ap (λ z. cond z (new_in s.sent) 0) (eqb_same x)))))
    forms_at y false q =
        let h : y ≢ x = eqb-false y x q in
        at_other formed y h ∙ (plus_zero (formed_in c y) ∙ ap (λ z. formed_in c y + z) (sym (wires_new k d b x address s.end.peer y s.sent ∙ ap (λ z. cond z (new_in s.sent) 0) (turned y h))))

    takes_at : (y : ℕ) (n : Bool) → nat_eq y x ≡ n → taken_in d y ≡ taken_in c y + cond (nat_eq x y) i 0
    takes_at y true q =
        subst (λ z. taken_in d z ≡ taken_in c z + cond (nat_eq x z) i 0) (sym (eqb-true y x q))
        (at_x taken ∙ (p.takes ∙ ap (λ z. taken e + cond z i 0) (sym (eqb_same x))))
    takes_at y false q =
        let h : y ≢ x = eqb-false y x q in
        at_other taken y h ∙ (plus_zero (taken_in c y) ∙ ap (λ z. taken_in c y + cond z i 0) (sym (turned y h)))

    shows_at : (y : ℕ) (n : Bool) → nat_eq y x ≡ n → shown_on d.circuits y ≡ cond (sends_run y frames) (taken_in d y) (shown_on t y)
    shows_at y true q =
        subst (λ z. shown_on d.circuits z ≡ cond (sends_run z frames) (taken_in d z) (shown_on t z)) (sym (eqb-true y x q))
        (at_x shown ∙ (p.shows ∙ ap₂ (λ z w. cond z w (shown e)) (sym (wires_send k d b x address s.end.peer x s.sent ∙ ap (λ z. z && runs_in s.sent) (eqb_same x))) (sym (at_x taken))))
    shows_at y false q =
        let h : y ≢ x = eqb-false y x q in
        at_other shown y h ∙ ap (λ z. cond z (taken_in d y) (shown_on t y)) (sym (wires_send k d b x address s.end.peer y s.sent ∙ ap (λ z. z && runs_in s.sent) (turned y h)))

    grows_at : (y : ℕ) (n : Bool) → nat_eq y x ≡ n → Grown (messages_on t y) (messages_on d.circuits y)
    grows_at y true q = subst (λ z. Grown (messages_on t z) (messages_on d.circuits z)) (sym (eqb-true y x q)) (subst (Grown (messages e)) (sym (at_x messages)) p.grows)
    grows_at y false q = subst (Grown (messages_on t y)) (sym (at_other messages y (eqb-false y x q))) (grown_none (messages_on t y))

-- the count of messages taken, said otherwise
pub more_as : (t u : Table) (fs : List OutFrame) (m n : ℕ → ℕ) → ((x : ℕ) → m x ≡ n x) → TableCounts t u fs m → TableCounts t u fs n
more_as t u fs m n h p = record { numbers = p.numbers; bears = p.bears; formed = p.formed; taken = λ x. p.taken x ∙ ap (λ z. taken_on t x + z) (h x); shown = p.shown; grows = p.grows; steady = p.steady }

-- a step of a living circuit
pub steps_counts : (b : Bool) (k : Side) (c : Core) (x : ℕ) (s : Step) (i : ℕ) → Steady c.circuits → lives (c.circuits.circuit_at x).end ≡ true → StepCounts (c.circuits.circuit_at x).end s i → CoreCounts c (acts k c (steps_at b c.circuits x s)).core (acts k c (steps_at b c.circuits x s)).frames (λ y. cond (nat_eq x y) i 0)
steps_counts b k c x s i r l p =
    put_counts b k c c.circuits.drawn x (c.circuits.circuit_at x).address (note_empty (c.circuits.circuit_at x).end s) i r
    (λ y h. (λ q. true≢false (sym l ∙ (ap (λ z. lives (c.circuits.circuit_at z).end) (sym q) ∙ (r.unused y h).0)), h))
    (record { sent = p.sent; forms = p.forms; takes = p.takes; shows = p.shows; bears = p.bears; grows = p.grows; full = p.full })

pub steps_same : (b : Bool) (k : Side) (c : Core) (x : ℕ) (s : Step) → Steady c.circuits → lives (c.circuits.circuit_at x).end ≡ true → Counts (c.circuits.circuit_at x).end s → Same c (acts k c (steps_at b c.circuits x s)).core (acts k c (steps_at b c.circuits x s)).frames
steps_same b k c x s r l p = more_as c.circuits (acts k c (steps_at b c.circuits x s)).core.circuits (acts k c (steps_at b c.circuits x s)).frames _ (λ y. 0) (λ y. cond_none (nat_eq x y)) (steps_counts b k c x s 0 r l (of_counts (c.circuits.circuit_at x).end s p))

pub idle_same : (k : Side) (c : Core) → Steady c.circuits → Same c (acts k c (idle c.circuits)).core (acts k c (idle c.circuits)).frames
idle_same k c r = core_none c r

pub act_cond : (k : Side) (c : Core) (n : Bool) (x y : Acted) → (n ≡ true → Same c (acts k c x).core (acts k c x).frames) → (n ≡ false → Same c (acts k c y).core (acts k c y).frames) → Same c (acts k c (cond n x y)).core (acts k c (cond n x y)).frames
act_cond k c true x y p q = p refl
act_cond k c false x y p q = q refl

pub local_counts : (b : Bool) (k : Side) (c : Core) (x : ℕ) (call : Call) → Steady c.circuits → Same c (acts k c (local_at b c.circuits x call)).core (acts k c (local_at b c.circuits x call)).frames
local_counts b k c x call r =
    let e : End = (c.circuits.circuit_at x).end in
    let s : Step = record { end = call_end call e; sent = [] } in
    act_cond k c (lives e) (steps_at b c.circuits x s) (idle c.circuits) (λ i. steps_same b k c x s r i (quiet e s refl refl)) (λ i. idle_same k c r)

pub time_counts : (b : Bool) (k : Side) (c : Core) (x now : ℕ) → Steady c.circuits → Same c (acts k c (time_at b c.circuits x now)).core (acts k c (time_at b c.circuits x now)).frames
time_counts b k c x now r =
    let e : End = (c.circuits.circuit_at x).end in
    act_cond k c (lives e) (steps_at b c.circuits x (time_step now e)) (idle c.circuits) (λ i. steps_same b k c x (time_step now e) r i (counts_time now e)) (λ i. idle_same k c r)

pub end_counts : (b : Bool) (k : Side) (c : Core) (x n : ℕ) → Steady c.circuits → Same c (acts k c (end_at b c.circuits x n)).core (acts k c (end_at b c.circuits x n)).frames
end_counts b k c x n r =
    let e : End = (c.circuits.circuit_at x).end in
    act_cond k c (lives e) (steps_at b c.circuits x (finish n e)) (idle c.circuits) (λ i. steps_same b k c x (finish n e) r i (counts_finish n e)) (λ i. idle_same k c r)

pub outlive_counts : (k : Side) (from source : ℕ) (xs : List ℕ) (c : Core) → Steady c.circuits → Same c (with_circuits c (outlive from source xs c.circuits)) []
outlive_counts k from source [] c r = core_none c r
outlive_counts k from source (x ∷ xs) c r =
    let d : Core = with_circuits c (outlive_at from source x c.circuits) in
    let one : Same c d [] = go (is_outlived (c.circuits.circuit_at x) from source) refl in
    core_then c d (with_circuits d (outlive from source xs d.circuits)) [] [] (λ y. 0) one (outlive_counts k from source xs d one.steady)
  where
    e : End
    e = (c.circuits.circuit_at x).end

    go : (n : Bool) → is_outlived (c.circuits.circuit_at x) from source ≡ n → Same c (with_circuits c (cond n (steps_at false c.circuits x (lapse 5 e)).table c.circuits)) []
    go true i = steps_same false k c x (lapse 5 e) r (and_parts (nat_eq (c.circuits.circuit_at x).address from && follows e.peer source) (lives e) i).1 (quiet e (lapse 5 e) refl refl)
    go false i = core_none c r

-- a new circuit has formed and taken nothing
pub new_counts : (b : Bool) (k : Side) (c : Core) (address : ℕ) (s : Step) → Steady c.circuits → s.end.half.link ≡ fresh → NoRun s.sent → Same c (acts k c (put_at b c.circuits (suc c.circuits.drawn) (next_id c.circuits) address s)).core (acts k c (put_at b c.circuits (suc c.circuits.drawn) (next_id c.circuits) address s)).frames
new_counts b k c address s r f h =
    let n : ℕ = next_id c.circuits in
    let e : End = (c.circuits.circuit_at n).end in
    let u : (lives e ≡ false) × (e.half.link ≡ fresh) = r.unused n (next_new c.circuits.first c.circuits.drawn) in
    more_as c.circuits (acts k c (put_at b c.circuits (suc c.circuits.drawn) n address s)).core.circuits (acts k c (put_at b c.circuits (suc c.circuits.drawn) n address s)).frames _ (λ y. 0) (λ y. cond_none (nat_eq n y))
    (put_counts b k c (suc c.circuits.drawn) n address s 0 r (λ y l. (undrawn_other c.circuits.first c.circuits.drawn y l, undrawn_before c.circuits.first c.circuits.drawn y l)) (of_counts e s (plainly e s h (f ∙ sym u.1))))

pub call_counts : (k : Side) (c : Core) (u : Setup) (address now : ℕ) → Steady c.circuits → Same c (acts k c (call_at u c.circuits address now)).core (acts k c (call_at u c.circuits address now)).frames
call_counts k c u address now r = new_counts true k c address (called u now) r refl tt
