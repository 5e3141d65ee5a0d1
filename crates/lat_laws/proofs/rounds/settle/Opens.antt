-- What a server's time event posts of one circuit begins with what the time of that circuit sends.
use Rattle.std.proofs.Common.{◌≡◌, ◌≢◌, ℕ, ◌<◌, ◌≤◌, sym, ap, ◌∙◌, subst, arith, Bool, true, false, cond, List, [], ◌∷◌, ◌++◌, map, max, inl, inr}
use Rattle.std.proofs.lemmas.List.{append_assoc}
use Rattle.lat_model.specs.ends.End.{Sent, Step, lives}
use Rattle.lat_model.specs.ends.Timers.{note_empty, time_step}
use Rattle.lat_model.specs.circuits.World.{CircuitEntry, Wired, wire_all}
use Rattle.lat_model.specs.circuits.Ids.{is_drawn, ids}
use Rattle.lat_model.proofs.circuits.IdLists.{Once, id_once}
use Rattle.lat_machines.specs.values.Frames.{OutFrame}
use Rattle.lat_machines.specs.cores.Acts.{Acted, idle, steps_at, time_at}
use Rattle.lat_machines.specs.cores.Cores.{Core, Side, Doing, rests, then_doing, acts, with_circuits, at_moment, time_each, passes_time, sent_frame}
use Rattle.lat_machines.proofs.events.Leads.{each_more}
use Rattle.lat_laws.proofs.rounds.rounds.Empty.{sent_circuit}
use Rattle.lat_laws.proofs.rounds.shape.Times.{time_other}
use Rattle.lat_laws.proofs.rounds.settle.Wires.{NotOf}

-- of this circuit, these frames begin with this one
pub record Begin (x : ℕ) (fs : List OutFrame) (f : OutFrame) : Type 0 where
  pub front : List OutFrame
  pub back : List OutFrame
  pub parts : fs ≡ front ++ f ∷ back
  pub others : NotOf x front

abbrev pub wired : Bool → ℕ → CircuitEntry → Step → Sent → Wired
wired b x c st s = record { by_server = b; circuit = x; to = c.address; destination = st.end.peer; source = x; sent = s }

abbrev one_time : Side → ℕ → Doing → Doing
one_time k y d = then_doing d (λ c. acts k c (time_at k.server c.circuits y c.moment))

wires_apart : (k : Side) (c : Core) (b : Bool) (y to d x : ℕ) → x ≢ y → (ss : List Sent) → NotOf x (map (sent_frame k c) (wire_all b y to d ss))
wires_apart k c b y to d x n [] = tt
wires_apart k c b y to d x n (s ∷ ss) = ((λ q. n (sym q ∙ sent_circuit k c (record { by_server = b; circuit = y; to = to; destination = d; source = y; sent = s }))), wires_apart k c b y to d x n ss)

-- another circuit's time
other_apart : (k : Side) (d : Doing) (x y : ℕ) → x ≢ y → NotOf x d.frames → NotOf x (one_time k y d).frames
other_apart k d x y n h = each_more (λ (f : OutFrame). f.circuit ≢ x) d.frames _ h (go (lives (d.core.circuits.circuit_at y).end))
  where
    go : (b : Bool) → NotOf x (acts k d.core (cond {A = Acted} b (steps_at k.server d.core.circuits y (time_step d.core.moment (d.core.circuits.circuit_at y).end)) (idle d.core.circuits))).frames
    go true =
        let st : Step = note_empty (d.core.circuits.circuit_at y).end (time_step d.core.moment (d.core.circuits.circuit_at y).end) in
        wires_apart k (with_circuits d.core (steps_at k.server d.core.circuits y (time_step d.core.moment (d.core.circuits.circuit_at y).end)).table) k.server y (d.core.circuits.circuit_at y).address st.end.peer x n st.sent
    go false = tt

-- what comes behind leaves what there is
times_more : (k : Side) (xs : List ℕ) (d : Doing) (x : ℕ) (f : OutFrame) → Begin x d.frames f → Begin x (time_each k xs d).frames f
times_more k [] d x f h = h
times_more k (y ∷ xs) d x f h = times_more k xs (one_time k y d) x f (record {
  front = h.front;
  back = h.back ++ (acts k d.core (time_at k.server d.core.circuits y d.core.moment)).frames;
  parts = ap (λ z. z ++ (acts k d.core (time_at k.server d.core.circuits y d.core.moment)).frames) h.parts ∙ append_assoc h.front (f ∷ h.back) (acts k d.core (time_at k.server d.core.circuits y d.core.moment)).frames;
  others = h.others;
})

-- its own time
own_begins : (k : Side) (d : Doing) (x : ℕ) (s : Sent) (rest : List Sent) → lives (d.core.circuits.circuit_at x).end ≡ true → (time_step d.core.moment (d.core.circuits.circuit_at x).end).sent ≡ s ∷ rest → NotOf x d.frames → (c : Core) × Begin x (one_time k x d).frames (sent_frame k c (wired k.server x (d.core.circuits.circuit_at x) (time_step d.core.moment (d.core.circuits.circuit_at x).end) s))
own_begins k d x s rest l e h = (c, record { front = d.frames; back = map (sent_frame k c) (wire_all k.server x z.address st.end.peer rest); parts = ap (λ v. d.frames ++ v) frames; others = h })
  where
    z : CircuitEntry
    z = d.core.circuits.circuit_at x

    st : Step
    st = time_step d.core.moment (d.core.circuits.circuit_at x).end

    c : Core
    c = with_circuits d.core (time_at k.server d.core.circuits x d.core.moment).table

    sent : (time_at k.server d.core.circuits x d.core.moment).sent ≡ wire_all k.server x (d.core.circuits.circuit_at x).address (time_step d.core.moment (d.core.circuits.circuit_at x).end).end.peer (s ∷ rest)
    sent =
        ap (λ b. (cond {A = Acted} b (steps_at k.server d.core.circuits x (time_step d.core.moment (d.core.circuits.circuit_at x).end)) (idle d.core.circuits)).sent) l
        ∙ ap (wire_all k.server x (d.core.circuits.circuit_at x).address (time_step d.core.moment (d.core.circuits.circuit_at x).end).end.peer) e

    frames : (acts k d.core (time_at k.server d.core.circuits x d.core.moment)).frames ≡ sent_frame k (with_circuits d.core (time_at k.server d.core.circuits x d.core.moment).table) (wired k.server x (d.core.circuits.circuit_at x) (time_step d.core.moment (d.core.circuits.circuit_at x).end) s) ∷ map (sent_frame k (with_circuits d.core (time_at k.server d.core.circuits x d.core.moment).table)) (wire_all k.server x (d.core.circuits.circuit_at x).address (time_step d.core.moment (d.core.circuits.circuit_at x).end).end.peer rest)
    frames = ap (map (sent_frame k (with_circuits d.core (time_at k.server d.core.circuits x d.core.moment).table))) sent

-- a circuit, at the moment of its time
abbrev Result : Side → ℕ → Sent → ℕ → CircuitEntry → List OutFrame → Type 0
Result k x s now z fs = (c : Core) × Begin x fs (sent_frame k c (wired k.server x z (time_step now z.end) s))

times_begin : (k : Side) (xs : List ℕ) (d : Doing) (x : ℕ) (s : Sent) (rest : List Sent) → Once x xs → lives (d.core.circuits.circuit_at x).end ≡ true → (time_step d.core.moment (d.core.circuits.circuit_at x).end).sent ≡ s ∷ rest → NotOf x d.frames → Result k x s d.core.moment (d.core.circuits.circuit_at x) (time_each k xs d).frames
times_begin k [] d x s rest a l e h = absurd a
times_begin k (y ∷ xs) d x s rest (inl a) l e h =
    let f : OutFrame = sent_frame k g.0 (wired k.server x (d.core.circuits.circuit_at x) (time_step d.core.moment (d.core.circuits.circuit_at x).end) s) in
    (g.0, times_more k xs (one_time k y d) x f (subst (λ z. Begin x (one_time k z d).frames f) (sym a.0) g.1))
  where
    g : Result k x s d.core.moment (d.core.circuits.circuit_at x) (one_time k x d).frames
    g = own_begins k d x s rest l e h
times_begin k (y ∷ xs) d x s rest (inr a) l e h =
    let n : x ≢ y = λ q. a.0 (sym q) in
    let o : (one_time k y d).core.circuits.circuit_at x ≡ d.core.circuits.circuit_at x = time_other k d.core.circuits x y d.core.moment n in
    subst (λ z. Result k x s d.core.moment z (time_each k xs (one_time k y d)).frames) o
    (times_begin k xs (one_time k y d) x s rest a.1 (ap (λ (z : CircuitEntry). lives z.end) o ∙ l) (ap (λ (z : CircuitEntry). (time_step d.core.moment z.end).sent) o ∙ e) (other_apart k d x y n h))

-- of a core whose moment is none later
pub time_begins : (k : Side) (c : Core) (now x : ℕ) (s : Sent) (rest : List Sent) → c.moment ≤ now → 0 < x → is_drawn c.circuits x ≡ true → lives (c.circuits.circuit_at x).end ≡ true → (time_step now (c.circuits.circuit_at x).end).sent ≡ s ∷ rest → Result k x s now (c.circuits.circuit_at x) (passes_time k (at_moment now c)).frames
time_begins k c now x s rest m a b l e = subst (λ n. Result k x s n (c.circuits.circuit_at x) (passes_time k (at_moment now c)).frames) latest
    (times_begin k (ids c.circuits) (rests (at_moment now c)) x s rest (id_once c.circuits.first c.circuits.drawn x b) l (ap (λ n. (time_step n (c.circuits.circuit_at x).end).sent) latest ∙ e) tt)
  where
    latest : max c.moment now ≡ now
    latest = omega (arith, m)
