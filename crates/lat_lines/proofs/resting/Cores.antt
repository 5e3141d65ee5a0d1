-- A time and a message that leave each session as its line knows it.
use Rattle.std.proofs.Common.{◌≡◌, ℕ, Bool, true, false, not, ◌||◌, cond, nat_eq, eqb-true, List, [], ◌∷◌, map, length, Option, Some, None, is_none, refl, sym, ap, subst, ◌∙◌, arith}
use Rattle.std.specs.List.{list_any}
use Rattle.std.proofs.lemmas.Bool.{cond_both, false≢true, or_parts}
use Rattle.std.proofs.lemmas.List.{length-map, length-append}
use Rattle.lat_base.specs.declared.outbox.OutFrame.{OutFrame}
use Rattle.lat_model.specs.Lists.{Each}
use Rattle.lat_model.specs.circuits.Ids.{ids}
use Rattle.lat_model.specs.ends.End.{End, Sent, Step, lives}
use Rattle.lat_model.specs.ends.Timers.{note_empty, time_step}
use Rattle.lat_model.specs.circuits.World.{CircuitEntry, wire_all}
use Rattle.lat_machines.specs.values.Frames as machines
use Rattle.lat_circuit.specs.Frames.{frame_view}
use Rattle.lat_payload.specs.Frames.{Emits, expected}
use Rattle.lat_machines.specs.cores.Acts.{Acted, idle, steps_at, time_at}
use Rattle.lat_machines.specs.cores.Cores.{Core, Side, Doing, with_circuits, acts, rests, then_doing, sent_frame, time_each, passes_time}
use Rattle.lat_circuit.specs.Kept as circuit
use Rattle.lat_lines.specs.circuits.Kept.{Kept, has_id}
use Rattle.lat_lines.specs.circuits.Stands.{Stands, IsCircuit}
use Rattle.lat_lines.proofs.CircuitsHeld.{eqb_self}
use Rattle.lat_lines.specs.Calm.{IsCalm, CoreCalm}
use Rattle.lat_lines.proofs.CoresLater.{updated_at}
use Rattle.lat_lines.proofs.resting.Ends.{calm_refl}
use Rattle.lat_lines.proofs.resting.Quiet.{IsQuiet, quiet_calm, nil_parts, time_quiet}

pub core_refl : (c : Core) → CoreCalm c c
core_refl c x = calm_refl (c.circuits.circuit_at x).end

core_trans : (c d e : Core) → CoreCalm c d → CoreCalm d e → CoreCalm c e
core_trans c d e p q x = record {
  lives = (q x).lives ∙ (p x).lives;
  reason = (q x).reason ∙ (p x).reason;
  peer = (q x).peer ∙ (p x).peer;
  look = λ k. (q x).look k ∙ (p x).look k;
}

-- frames that aren't there were not sent

pub map_nil : {X Y : Type 0} (f : X → Y) (xs : List X) → map f xs ≡ [] → xs ≡ []
map_nil f [] e = refl
map_nil f (x ∷ xs) e = absurd (omega (arith, ap length e))

pub wire_nil : (b : Bool) (x to peer : ℕ) (ss : List Sent) → wire_all b x to peer ss ≡ [] → ss ≡ []
wire_nil b x to peer [] e = refl
wire_nil b x to peer (s ∷ ss) e = absurd (omega (arith, ap length e))

-- nothing was added to what goes out
pub none_added : (frames : List machines.OutFrame) (before after : List OutFrame) → Emits frames before after → length after ≡ length before → frames ≡ []
none_added [] before after a e = refl
none_added (f ∷ fs) before after a e =
    absurd (omega (arith, e, ap length a.same, length-map after frame_view, length-append (map frame_view before) (map expected (f ∷ fs)), length-map before frame_view, length-map (f ∷ fs) expected))

-- one circuit takes a quiet step

pub step_calm : (b : Bool) (c : Core) (x : ℕ) (s : Step) → IsQuiet (c.circuits.circuit_at x).end s.end → CoreCalm c (with_circuits c (steps_at b c.circuits x s).table)
step_calm b c x s q y =
    updated_at (λ z. IsCalm (c.circuits.circuit_at y).end z.end) c.circuits.circuit_at x y entry
    (λ same. subst (λ i. IsCalm (c.circuits.circuit_at i).end entry.end) (sym same) (quiet_calm (c.circuits.circuit_at x).end entry.end calm))
    (calm_refl (c.circuits.circuit_at y).end)
  where
    entry : CircuitEntry
    entry = record { address = (c.circuits.circuit_at x).address; end = (note_empty (c.circuits.circuit_at x).end s).end }

    calm : IsQuiet (c.circuits.circuit_at x).end entry.end
    calm = record { sessions = q.sessions; exists = q.exists; ended = q.ended; peer = q.peer }

-- what the circuit x does in its time

-- circuits that live go on to live
abbrev pub GoOn : Core → Core → Type 0
GoOn c d = (x : ℕ) → lives (c.circuits.circuit_at x).end ≡ true → lives (d.circuits.circuit_at x).end ≡ true

abbrev timed : Side → Core → ℕ → Doing
timed k c x = acts k c (time_at k.server c.circuits x c.moment)

timed_calm : (k : Side) (c : Core) (x : ℕ) → (timed k c x).frames ≡ [] → GoOn c (timed k c x).core → CoreCalm c (timed k c x).core
timed_calm k c x =
    cond_both (lives e) (steps_at k.server c.circuits x s) (idle c.circuits) (λ a. (acts k c a).frames ≡ [] → GoOn c (acts k c a).core → CoreCalm c (acts k c a).core)
    (λ h none goes. step_calm k.server c x s (time_quiet c.moment e (unsent none) (sym (ap (λ b. lives (cond b entry (c.circuits.circuit_at x)).end) (eqb_self x)) ∙ goes x h)))
    (λ h none goes. core_refl c)
  where
    e : End
    e = (c.circuits.circuit_at x).end

    s : Step
    s = time_step c.moment e

    entry : CircuitEntry
    entry = record { address = (c.circuits.circuit_at x).address; end = (note_empty e s).end }

    unsent : (acts k c (steps_at k.server c.circuits x s)).frames ≡ [] → s.sent ≡ []
    unsent none =
        let a : Acted = steps_at k.server c.circuits x s in
        wire_nil k.server x (c.circuits.circuit_at x).address (note_empty e s).end.peer s.sent (map_nil (sent_frame k (with_circuits c a.table)) a.sent none)

-- a circuit that lives after its time lived before
timed_back : (k : Side) (c : Core) (x : ℕ) → GoOn (timed k c x).core c
timed_back k c x y =
    cond_both (lives (c.circuits.circuit_at x).end) (steps_at k.server c.circuits x s) (idle c.circuits) (λ a. lives (a.table.circuit_at y).end ≡ true → lives (c.circuits.circuit_at y).end ≡ true)
    (λ h. updated_at (λ z. lives z.end ≡ true → lives (c.circuits.circuit_at y).end ≡ true) c.circuits.circuit_at x y entry (λ same l. subst (λ i. lives (c.circuits.circuit_at i).end ≡ true) (sym same) h) (λ l. l))
    (λ h l. l)
  where
    s : Step
    s = time_step c.moment (c.circuits.circuit_at x).end

    entry : CircuitEntry
    entry = record { address = (c.circuits.circuit_at x).address; end = (note_empty (c.circuits.circuit_at x).end s).end }

-- the times of all

abbrev next : Side → Doing → ℕ → Doing
next k d x = then_doing d (λ c. timed k c x)

each_unsent : (k : Side) (xs : List ℕ) (d : Doing) → (time_each k xs d).frames ≡ [] → d.frames ≡ []
each_unsent k [] d none = none
each_unsent k (x ∷ xs) d none = (nil_parts d.frames (timed k d.core x).frames (each_unsent k xs (next k d x) none)).0

each_back : (k : Side) (xs : List ℕ) (d : Doing) → GoOn (time_each k xs d).core d.core
each_back k [] d y l = l
each_back k (x ∷ xs) d y l = timed_back k d.core x y (each_back k xs (next k d x) y l)

each_calm : (k : Side) (xs : List ℕ) (d : Doing) → (time_each k xs d).frames ≡ [] → GoOn d.core (time_each k xs d).core → CoreCalm d.core (time_each k xs d).core
each_calm k [] d none goes = core_refl d.core
each_calm k (x ∷ xs) d none goes =
    let one : Doing = next k d x in
    let all : Doing = time_each k xs one in
    let unsent = (nil_parts d.frames (timed k d.core x).frames (each_unsent k xs one none)).1 in
    core_trans d.core one.core all.core
    (timed_calm k d.core x unsent (λ y l. each_back k xs one y (goes y l)))
    (each_calm k xs one none (λ y l. goes y (timed_back k d.core x y l)))

pub time_calm : (k : Side) (c : Core) → (passes_time k c).frames ≡ [] → GoOn c (passes_time k c).core → CoreCalm c (passes_time k c).core
time_calm k c none goes = each_calm k (ids c.circuits) (rests c) none goes

-- where no circuit that has ended is held, those that are held live

abbrev pub has_ended : List circuit.Kept → Bool
has_ended qs = list_any (λ (q : circuit.Kept). not (is_none q.ended)) qs

one_lives : (c : Core) (q : circuit.Kept) → IsCircuit c q → not (is_none q.ended) ≡ false → lives (c.circuits.circuit_at q.facts.id).end ≡ true
one_lives c q h e = by q.ended refl e
  where
    f : End
    f = (c.circuits.circuit_at q.facts.id).end

    by : (o : Option ℕ) → q.ended ≡ o → not (is_none o) ≡ false → lives f ≡ true
    by None g e = ap (λ (o : Option ℕ). elim o [ None ↦ f.exists | Some r ↦ false ]) (sym h.end.ended ∙ g) ∙ h.end.exists
    by (Some r) g e = absurd (false≢true (sym e))

held_lives : (c : Core) (x : ℕ) (qs : List circuit.Kept) → Each (IsCircuit c) qs → has_ended qs ≡ false → list_any (nat_eq x) (map (λ (q : circuit.Kept). q.facts.id) qs) ≡ true → lives (c.circuits.circuit_at x).end ≡ true
held_lives c x [] e none h = absurd (false≢true h)
held_lives c x (q ∷ qs) e none h = by (nat_eq x q.facts.id) refl h (held_lives c x qs e.1 parts.1)
  where
    parts : (not (is_none q.ended) ≡ false) × (has_ended qs ≡ false)
    parts = or_parts (not (is_none q.ended)) (has_ended qs) none

    by : (b : Bool) → nat_eq x q.facts.id ≡ b → b || list_any (nat_eq x) (map (λ (q : circuit.Kept). q.facts.id) qs) ≡ true
        → (list_any (nat_eq x) (map (λ (q : circuit.Kept). q.facts.id) qs) ≡ true → lives (c.circuits.circuit_at x).end ≡ true)
        → lives (c.circuits.circuit_at x).end ≡ true
    by true s i ih = subst (λ z. lives (c.circuits.circuit_at z).end ≡ true) (sym (eqb-true x q.facts.id s)) (one_lives c q e.0 parts.0)
    by false s i ih = ih i

pub all_go_on : (k q : Kept) (c d : Core) → Stands k c → Stands q d → ((x : ℕ) → has_id x k ≡ true → has_id x q ≡ true) → has_ended q.held ≡ false → GoOn c d
all_go_on k q c d st h held none x l = held_lives d x q.held h.each none (held x (st.all x l))
