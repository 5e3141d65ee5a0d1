-- What became of a core in one act of its circuits.
use Rattle.std.proofs.Common.{◌≡◌, ℕ, suc, ◌<◌, Bool, true, false, not, cond, ◌&&◌, ◌||◌, nat_eq, nat_lt, eqb-true, List, [], ◌∷◌, None, refl, sym, ap, subst, ◌∙◌, arith}
use Rattle.std.proofs.lemmas.Bool.{true≢false, both_ways, and_parts, cond_both, eqb-false}
use Rattle.lat_model.specs.Lists.{updated}
use Rattle.lat_model.specs.sessions.Slots.{Slot}
use Rattle.lat_model.specs.sessions.Calls.{Call}
use Rattle.lat_model.specs.numbers.Link.{Frame}
use Rattle.lat_model.specs.ends.End.{End, Step, still, lives, call_end, finish, lapse}
use Rattle.lat_model.specs.ends.Timers.{note_empty, time_step}
use Rattle.lat_model.specs.ends.Run.{run_end}
use Rattle.lat_model.specs.ends.Starting.{Agreed, make_slave, hear_reply, hear_stop, again_start}
use Rattle.lat_model.specs.circuits.World.{CircuitEntry, Table, first_end}
use Rattle.lat_model.specs.Reasons as reasons
use Rattle.lat_model.specs.sessions.EndOk.{EndOk}
use Rattle.lat_session.specs.Stands.{AllBegun}
use Rattle.lat_model.specs.circuits.Arriving.{is_of, living, slave_of}
use Rattle.lat_model.specs.circuits.Ids.{ids, next_id, is_known, IdsStay, Rises}
use Rattle.lat_model.proofs.circuits.Ids.{drawn_behind, known_zero, known_apart}
use Rattle.lat_model.proofs.circuits.IdLists.{ids_rise}
use Rattle.lat_machines.specs.values.Names.{Name}
use Rattle.lat_machines.specs.values.Messages.{Head, Message, RunMessage, WideMessage, StartMessage, StopMessage}
use Rattle.lat_machines.specs.values.Timing.{agreed_by}
use Rattle.lat_machines.specs.values.Answers.{Running, Again, Ended}
use Rattle.lat_machines.specs.cores.Acts.{Acted, idle, steps_at, called}
use Rattle.lat_machines.specs.cores.Hearing.{follows, is_outlived, HeardAct, foreign, names, fits_kind, numbers_at, run_frame, run_at, hear_run, hear_stop_at, hear_reply_at, StartFact, Repeats, Makes, Refuses, start_fact, start_at}
use Rattle.lat_machines.specs.cores.Cores.{Core, Side, Doing, setup_of, with_circuits, acts, at_moment, rests, then_doing, passes_time, ends_all}
use Rattle.lat_machines.specs.node.Node.{names_for}
use Rattle.lat_machines.proofs.queue.Rooms.{least_true}
use Rattle.lat_lines.specs.circuits.Kept as circuits
use Rattle.lat_lines.specs.circuits.Stands as stands
use Rattle.lat_lines.specs.circuits.Stands.{calling}
use Rattle.lat_lines.specs.circuits.Hears.{HeardCore, of_act, untouched, start_core, heard_core}
use Rattle.lat_lines.specs.circuits.Opens.{called_core}
use Rattle.lat_lines.specs.circuits.Times.{passes_one}
use Rattle.lat_lines.specs.circuits.Ending.{ends_one, outlives_one, outlived_core}
use Rattle.lat_lines.specs.Later.{EndLater, Unheard}
use Rattle.lat_lines.specs.Cores.{CoreLater}
use Rattle.lat_lines.proofs.later.Known.{end_later_refl}
use Rattle.lat_lines.proofs.later.Calls.{call_later, call_unheard}
use Rattle.lat_lines.proofs.later.Ends.{time_later, time_unheard, finish_later, finish_unheard, move_later, move_unheard, again_later, again_unheard, stop_later, stop_unheard, reply_later, reply_unheard, run_later, run_unheard}
use Rattle.lat_lines.proofs.circuits.Each.{does_each, steps_one}
use Rattle.lat_lines.proofs.circuits.Passing.{times_are, ends_are, outlives_are}
use Rattle.lat_lines.proofs.reaping.Held.{IsStood, stood_at}

-- what is known of the circuits of a core that others stand for
pub record CoreOk (c : Core) : Type 0 where
  pub stood : (x : ℕ) → lives (c.circuits.circuit_at x).end ≡ true → IsStood (c.circuits.circuit_at x).end
  pub unheard : (x : ℕ) → Unheard (c.circuits.circuit_at x).end

pub core_ok : (k : circuits.Kept) (c : Core) → stands.Stands k c → ((x : ℕ) → Unheard (c.circuits.circuit_at x).end) → CoreOk c
core_ok k c st u = record { stood = λ x h. stood_at k c x st (st.all x h); unheard = u }

-- its circuits do nothing

pub circuits_still : (c : Core) (moment : ℕ) (names : ℕ → Name) → CoreOk c → CoreLater c (record c { moment = moment; names = names })
circuits_still c moment names ok = record {
  seats = refl;
  ids = λ x h. h;
  address = λ x l. refl;
  living = λ x l h. end_later_refl (c.circuits.circuit_at x).end (ok.stood x h).good;
  dead = λ x l h. refl;
  unheard = ok.unheard;
}

pub core_still : (c : Core) → CoreOk c → CoreLater c c
core_still c ok = circuits_still c c.moment c.names ok

pub moment_later : (now : ℕ) (c : Core) → CoreOk c → CoreLater c (at_moment now c)
moment_later now c ok = circuits_still c (at_moment now c).moment c.names ok

-- a circuit 0 that doesn't live goes on not to live
pub none_later : (c d : Core) → CoreLater c d → lives (c.circuits.circuit_at 0).end ≡ false → lives (d.circuits.circuit_at 0).end ≡ false
none_later c d l h = ap lives (l.dead 0 (known_zero c.circuits) h) ∙ h

-- One circuit does something

pub updated_at : (P : CircuitEntry → Type 0) (f : ℕ → CircuitEntry) (x y : ℕ) (e : CircuitEntry) → (y ≡ x → P e) → P (f y) → P (updated f x e y)
updated_at P f x y e here there = cond_both (nat_eq y x) e (f y) P (λ h. here (eqb-true y x h)) (λ h. there)

-- what the circuit was that became f: one of c that lives, or none yet
abbrev Was : Core → ℕ → ℕ → End → Type 0
Was c x address f = is_known c.circuits x ≡ true → (address ≡ (c.circuits.circuit_at x).address) × (lives (c.circuits.circuit_at x).end ≡ true) × EndLater (c.circuits.circuit_at x).end f

touched_later : (c d : Core) (x drawn address : ℕ) (f : End) → CoreLater c d → IdsStay d.circuits (record (d.circuits) { drawn = drawn }) → Was c x address f → Unheard f
    → CoreLater c (with_circuits d (record (d.circuits) { drawn = drawn; circuit_at = updated d.circuits.circuit_at x (record { address = address; end = f }) }))
touched_later c d x drawn address f later more was u = record {
  seats = later.seats;
  ids = λ y h. more y (later.ids y h);
  address = λ y l. updated_at (λ z. z.address ≡ (c.circuits.circuit_at y).address) d.circuits.circuit_at x y entry (λ e. (was (subst (λ z. is_known c.circuits z ≡ true) e l)).0 ∙ ap (λ z. (c.circuits.circuit_at z).address) (sym e)) (later.address y l);
  living = λ y l h. updated_at (λ z. EndLater (c.circuits.circuit_at y).end z.end) d.circuits.circuit_at x y entry (λ e. subst (λ z. EndLater (c.circuits.circuit_at z).end f) (sym e) (was (subst (λ z. is_known c.circuits z ≡ true) e l)).2) (later.living y l h);
  dead = λ y l h. updated_at (λ z. z.end ≡ (c.circuits.circuit_at y).end) d.circuits.circuit_at x y entry (λ e. absurd (both_ways (lives (c.circuits.circuit_at x).end) (subst (λ z. lives (c.circuits.circuit_at z).end ≡ false) e h) (was (subst (λ z. is_known c.circuits z ≡ true) e l)).1)) (later.dead y l h);
  unheard = λ y. updated_at (λ z. Unheard z.end) d.circuits.circuit_at x y entry (λ e. u) (later.unheard y);
}
  where
    entry : CircuitEntry
    entry = record { address = address; end = f }

-- a step of a circuit that lives
step_later : (b : Bool) (c : Core) (x : ℕ) (s : Step) → CoreOk c → lives (c.circuits.circuit_at x).end ≡ true
    → EndLater (c.circuits.circuit_at x).end (note_empty (c.circuits.circuit_at x).end s).end → Unheard (note_empty (c.circuits.circuit_at x).end s).end
    → CoreLater c (with_circuits c (steps_at b c.circuits x s).table)
step_later b c x s ok h later u = touched_later c c x c.circuits.drawn (c.circuits.circuit_at x).address (note_empty (c.circuits.circuit_at x).end s).end (core_still c ok) (λ y q. q) (λ l. (refl, h, later)) u

abbrev Acts : Core → Acted → Type 0
Acts c a = CoreLater c (with_circuits c a.table)

-- local calls

pub calling_later : (k : Side) (x : ℕ) (call : Call) (c : Core) → CoreOk c → CoreLater c (calling k x call c)
calling_later k x call c ok =
    let e : End = (c.circuits.circuit_at x).end in
    let s : Step = record { end = call_end call e; sent = [] } in
    cond_both (lives e) (steps_at k.server c.circuits x s) (idle c.circuits) (Acts c)
    (λ h. step_later k.server c x s ok h (call_later call e (ok.stood x h).good (ok.stood x h).begun) (call_unheard call e (ok.unheard x)))
    (λ h. core_still c ok)

-- one on a circuit that is new since c
pub calling_new : (k : Side) (x : ℕ) (call : Call) (c d : Core) → CoreLater c d → is_known c.circuits x ≡ false → CoreLater c (calling k x call d)
calling_new k x call c d later new =
    let e : End = (d.circuits.circuit_at x).end in
    let s : Step = record { end = call_end call e; sent = [] } in
    cond_both (lives e) (steps_at k.server d.circuits x s) (idle d.circuits) (λ a. CoreLater c (with_circuits d a.table))
    (λ h. touched_later c d x d.circuits.drawn (d.circuits.circuit_at x).address (note_empty e s).end later (λ y q. q) (λ l. absurd (true≢false (sym l ∙ new))) (call_unheard call e (later.unheard x)))
    (λ h. later)

-- a circuit is called
pub called_later : (k : Side) (address : ℕ) (node : Name) (c : Core) → CoreOk c → CoreLater c (called_core k address node c).core
called_later k address node c ok =
    let x : ℕ = next_id c.circuits in
    let d : Core = record c { names = updated c.names x node } in
    touched_later c d x (suc c.circuits.drawn) address (called (setup_of k.timing) c.moment).end (circuits_still c c.moment d.names ok) (λ y q. drawn_behind c.circuits.first c.circuits.drawn y q) (λ l. absurd (known_apart c.circuits x l refl)) (λ r y. refl)

-- an act on each circuit

-- the circuits up to the id n have had theirs
record Passed (c d : Core) (n : ℕ) : Type 0 where
  later : CoreLater c d
  rest : (x : ℕ) → n < x → d.circuits.circuit_at x ≡ c.circuits.circuit_at x

-- a step of the next one, which lives
passed_step : (b : Bool) (s : End → Step) (c d : Core) (n x : ℕ) → n < x → CoreOk c → Passed c d n
    → ((e : End) → EndOk e.half.sessions → AllBegun e.half.sessions → EndLater e (note_empty e (s e)).end) → ((e : End) → Unheard e → Unheard (note_empty e (s e)).end)
    → lives (d.circuits.circuit_at x).end ≡ true → Passed c (with_circuits d (steps_at b d.circuits x (s (d.circuits.circuit_at x).end)).table) x
passed_step b s c d n x above ok p is_later is_unheard h = record {
  later = touched_later c d x d.circuits.drawn (d.circuits.circuit_at x).address (ends (d.circuits.circuit_at x)) p.later (λ y q. q)
      (λ q. (ap (λ z. z.address) same, alive, subst (λ z. EndLater e (ends z)) (sym same) (is_later e (ok.stood x alive).good (ok.stood x alive).begun)))
      (subst (λ z. Unheard (ends z)) (sym same) (is_unheard e (ok.unheard x)));
  rest = λ y m. updated_at (λ z. z ≡ c.circuits.circuit_at y) d.circuits.circuit_at x y (record { address = (d.circuits.circuit_at x).address; end = ends (d.circuits.circuit_at x) }) (λ q. absurd (omega (arith, m, q))) (p.rest y (omega (arith, above, m)));
}
  where
    e : End
    e = (c.circuits.circuit_at x).end

    ends : CircuitEntry → End
    ends z = (note_empty z.end (s z.end)).end

    same : d.circuits.circuit_at x ≡ c.circuits.circuit_at x
    same = p.rest x above

    alive : lives e ≡ true
    alive = subst (λ z. lives z.end ≡ true) same h

passed_idle : (c d : Core) (n x : ℕ) → n < x → Passed c d n → Passed c d x
passed_idle c d n x above p = record { later = p.later; rest = λ y l. p.rest y (omega (arith, above, l)) }

-- An act that a circuit has in its turn
abbrev IsTurn : (ℕ → Core → Doing) → Type 0
IsTurn f = (c d : Core) (n x : ℕ) → n < x → CoreOk c → Passed c d n → Passed c (f x d).core x

steps_turn : (k : Side) (s : Core → End → Step)
    → ((d : Core) (e : End) → EndOk e.half.sessions → AllBegun e.half.sessions → EndLater e (note_empty e (s d e)).end) → ((d : Core) (e : End) → Unheard e → Unheard (note_empty e (s d e)).end)
    → IsTurn (steps_one k s)
steps_turn k s is_later is_unheard c d n x above ok p =
    cond_both (lives (d.circuits.circuit_at x).end) (steps_at k.server d.circuits x (s d (d.circuits.circuit_at x).end)) (idle d.circuits) (λ a. Passed c (with_circuits d a.table) x)
    (passed_step k.server (s d) c d n x above ok p (is_later d) (is_unheard d))
    (λ h. passed_idle c d n x above p)

turn_each : (f : ℕ → Core → Doing) → IsTurn f → (c : Core) (n : ℕ) (xs : List ℕ) (d : Doing) → Rises n xs → CoreOk c → Passed c d.core n → CoreLater c (does_each f xs d).core
turn_each f turn c n [] d r ok p = p.later
turn_each f turn c n (x ∷ xs) d r ok p = turn_each f turn c x xs (then_doing d (f x)) r.1 ok (turn c d.core n x r.0 ok p)

turns_later : (f : ℕ → Core → Doing) → IsTurn f → (c : Core) → CoreOk c → CoreLater c (does_each f (ids c.circuits) (rests c)).core
turns_later f turn c ok = turn_each f turn c 0 (ids c.circuits) (rests c) (ids_rise c.circuits.first c.circuits.drawn) ok (record { later = core_still c ok; rest = λ x l. refl })

pub time_passes_later : (k : Side) (c : Core) → CoreOk c → CoreLater c (passes_time k c).core
time_passes_later k c ok =
    subst (λ (d : Doing). CoreLater c d.core) (sym (times_are k (ids c.circuits) (rests c)))
    (turns_later (passes_one k) (steps_turn k (λ d e. time_step d.moment e) (λ d. time_later d.moment) (λ d. time_unheard d.moment)) c ok)

pub ends_later : (k : Side) (reason : ℕ) (c : Core) → CoreOk c → CoreLater c (ends_all k reason c).core
ends_later k reason c ok =
    subst (λ (d : Doing). CoreLater c d.core) (sym (ends_are k reason (ids c.circuits) (rests c)))
    (turns_later (ends_one k reason) (steps_turn k (λ d e. finish reason e) (λ d. finish_later reason) (λ d. finish_unheard reason)) c ok)

outlives_turn : (from source : ℕ) → IsTurn (outlives_one from source)
outlives_turn from source c d n x above ok p =
    let z : CircuitEntry = d.circuits.circuit_at x in
    cond_both (is_outlived z from source) (steps_at false d.circuits x (lapse reasons.no_circuit z.end)).table d.circuits (λ t. Passed c (with_circuits d t) x)
    (λ h. passed_step false (lapse reasons.no_circuit) c d n x above ok p (finish_later reasons.no_circuit) (finish_unheard reasons.no_circuit)
    (and_parts (nat_eq z.address from && follows z.end.peer source) (lives z.end) h).1)
    (λ h. passed_idle c d n x above p)

pub outlived_later : (from source : ℕ) (c : Core) → CoreOk c → CoreLater c (outlived_core from source c)
outlived_later from source c ok =
    subst (λ (d : Doing). CoreLater c d.core) (outlives_are from source (ids c.circuits) c)
    (turns_later (outlives_one from source) (outlives_turn from source) c ok)

-- messages

abbrev Hears : Core → HeardAct → Type 0
Hears c h = Acts c h.act

run_at_later : (b : Bool) (c : Core) (x : ℕ) (fits : Bool) (now : ℕ) (ask : Bool) (f : Frame (List Slot)) → CoreOk c → lives (c.circuits.circuit_at x).end ≡ true → (c.circuits.circuit_at x).end.running ≡ true → Hears c (run_at b c.circuits x fits now ask f)
run_at_later b c x fits now ask f ok h r = by fits
  where
    e : End
    e = (c.circuits.circuit_at x).end

    by : (t : Bool) → Hears c (run_at b c.circuits x t now ask f)
    by true = step_later b c x (run_end now ask f e).step ok h (run_later now ask f e (ok.stood x h).good (ok.stood x h).begun) (run_unheard now ask f e (ok.stood x h).good (ok.stood x h).begun r)
    by false =
        cond_both (lives e) (steps_at b c.circuits x (record { end = record e { moment = now }; sent = [] })) (idle c.circuits) (Acts c)
        (λ g. step_later b c x (still (record e { moment = now })) ok g (move_later now e (ok.stood x g).good (ok.stood x g).begun) (move_unheard now e (ok.unheard x)))
        (λ g. core_still c ok)

run_heard : (b : Bool) (c : Core) (from : ℕ) (wide : Bool) (h : Head) (slots : List Slot) → CoreOk c → Hears c (hear_run b c.circuits from wide h slots None c.moment)
run_heard b c from wide h slots ok =
    let t : Table = c.circuits in
    let e : End = (t.circuit_at h.to).end in
    let f : Frame (List Slot) = run_frame (numbers_at e h None) slots in
    cond_both (names t from h.to h.from) (run_at b t h.to (fits_kind e h.master wide) c.moment h.ask f) (foreign t) (Hears c)
    (λ q. let p = and_parts (is_of (t.circuit_at h.to) from h.from && lives e) e.running q in
    run_at_later b c h.to (fits_kind e h.master wide) c.moment h.ask f ok (and_parts (is_of (t.circuit_at h.to) from h.from) (lives e) p.0).1 p.1)
    (λ q. core_still c ok)

stop_heard : (b : Bool) (c : Core) (from to source r : ℕ) → CoreOk c → Hears c (hear_stop_at b c.circuits from to source c.moment r)
stop_heard b c from to source r ok =
    let t : Table = c.circuits in
    let e : End = (t.circuit_at to).end in
    cond_both (nat_eq (t.circuit_at to).address from && (nat_eq e.peer source || nat_eq source 0) && lives e) (record { act = steps_at b t to (hear_stop c.moment r e); answer = Ended r }) (foreign t) (Hears c)
    (λ q. let h = (and_parts (nat_eq (t.circuit_at to).address from && (nat_eq e.peer source || nat_eq source 0)) (lives e) q).1 in
    step_later b c to (hear_stop c.moment r e) ok h (stop_later c.moment r e (ok.stood to h).good (ok.stood to h).begun) (stop_unheard c.moment r e (ok.unheard to)))
    (λ q. core_still c ok)

reply_heard : (c : Core) (from to source : ℕ) (g : Agreed) → CoreOk c → Hears c (hear_reply_at c.circuits from to source c.moment g)
reply_heard c from to source g ok =
    let t : Table = c.circuits in
    let e : End = (t.circuit_at to).end in
    cond_both (nat_eq (t.circuit_at to).address from && lives e && (not e.running || nat_eq e.peer source)) (record { act = steps_at true t to (hear_reply c.moment source g e); answer = cond e.running Again Running }) (foreign t) (Hears c)
    (λ q. let h = (and_parts (nat_eq (t.circuit_at to).address from) (lives e) (and_parts (nat_eq (t.circuit_at to).address from && lives e) (not e.running || nat_eq e.peer source) q).0).1 in
    step_later true c to (hear_reply c.moment source g e) ok h (reply_later c.moment source g e (ok.stood to h).good (ok.stood to h).begun) (reply_unheard c.moment source g e (ok.unheard to)))
    (λ q. core_still c ok)

-- a START at a node

-- which circuit a START is for
abbrev IsFact : Table → StartFact → Type 0
IsFact t (Repeats x) = lives (t.circuit_at x).end ≡ true
IsFact t (Makes x) = x ≡ next_id t
IsFact t Refuses = Unit {0}

is_fact : (t : Table) (from source : ℕ) → IsFact t (start_fact t from source)
is_fact t from source =
    cond_both (nat_eq (slave_of t from source) 0) (cond (nat_lt (living t) 8 && nat_lt t.drawn 65535) (Makes (next_id t)) Refuses) (Repeats (slave_of t from source)) (IsFact t)
    (λ h. cond_both (nat_lt (living t) 8 && nat_lt t.drawn 65535) (Makes (next_id t)) Refuses (IsFact t) (λ m. refl) (λ m. tt))
    (λ h. let x : ℕ = slave_of t from source in
    (and_parts (is_of (t.circuit_at x) from source) (lives (t.circuit_at x).end) (least_true (λ i. is_of (t.circuit_at i) from source && lives (t.circuit_at i).end) (ids t) (eqb-false x 0 h))).1)

start_heard : (k : Side) (c : Core) (from source : ℕ) (name : Name) (g : Agreed) (fact : StartFact) → CoreOk c → IsFact c.circuits fact
    → CoreLater c (acts k (names_for fact name c) (start_at (setup_of k.timing) (names_for fact name c).circuits from source (names_for fact name c).moment g fact)).core
start_heard k c from source name g (Repeats x) ok h =
    let e : End = (c.circuits.circuit_at x).end in
    step_later false c x (again_start c.moment e) ok h (again_later c.moment e (ok.stood x h).good (ok.stood x h).begun) (again_unheard c.moment e (ok.unheard x))
start_heard k c from source name g (Makes x) ok h =
    touched_later c (names_for (Makes x) name c) x (suc c.circuits.drawn) from (make_slave c.moment source g (first_end false false (setup_of k.timing))).end (circuits_still c c.moment (updated c.names x name) ok) (λ y q. drawn_behind c.circuits.first c.circuits.drawn y q) (λ l. absurd (known_apart c.circuits x l h)) (λ r y. refl)
start_heard k c from source name g Refuses ok h = core_still c ok

abbrev HearsIn : Core → HeardCore → Type 0
HearsIn c h = CoreLater c h.doing.core

pub heard_later : (k : Side) (from : ℕ) (m : Message) (c : Core) → CoreOk c → CoreLater c (heard_core k from m c).doing.core
heard_later k from (RunMessage h slots) c ok = run_heard k.server c from false h slots ok
heard_later k from (WideMessage h slots) c ok = run_heard k.server c from true h slots ok
heard_later k from (StartMessage true ask to source info) c ok =
    cond_both k.server (untouched c) (start_core k c from source info (start_fact c.circuits from source)) (HearsIn c) (λ h. core_still c ok)
    (λ h. start_heard k c from source info.name (agreed_by k.timing info) (start_fact c.circuits from source) ok (is_fact c.circuits from source))
heard_later k from (StartMessage false ask to source info) c ok =
    cond_both k.server (of_act k c (hear_reply_at c.circuits from to source c.moment (agreed_by k.timing info))) (untouched c) (HearsIn c) (λ h. reply_heard c from to source (agreed_by k.timing info) ok)
    (λ h. core_still c ok)
heard_later k from (StopMessage master ask to source reason text) c ok = stop_heard k.server c from to source reason ok
