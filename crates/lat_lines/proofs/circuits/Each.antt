-- An act on each circuit, one after another, is one on those that are held.
use Rattle.std.proofs.Common.{◌≡◌, ℕ, ◌+◌, ◌<◌, ◌≤◌, Bool, true, false, cond, ◌&&◌, nat_eq, ne_eqb, List, [], ◌∷◌, ◌++◌, append-nil, length, take, is_none, Some, slice_get, slice_index, refl, sym, ap, subst, ◌∙◌, arith}
use Rattle.std.proofs.lemmas.List.{length-map, take_more, take_all}
use Rattle.lat_base.specs.declared.outbox.OutFrame.{OutFrame}
use Rattle.lat_model.specs.Lists.{keep}
use Rattle.lat_model.specs.circuits.Ids.{ids as drawn_ids, Rises}
use Rattle.lat_model.proofs.circuits.IdLists.{ids_rise}
use Rattle.lat_model.specs.Reasons as reasons
use Rattle.lat_model.specs.ends.End.{Step, End, lives, lapse}
use Rattle.lat_model.specs.ends.Timers.{note_empty}
use Rattle.lat_model.specs.circuits.World.{CircuitEntry}
use Rattle.lat_machines.specs.cores.Acts.{put_at, idle, steps_at}
use Rattle.lat_machines.specs.cores.Cores.{Side, Core, Doing, acts, rests, then_doing, with_circuits}
use Rattle.lat_machines.specs.cores.Hearing.{follows, is_outlived}
use Rattle.lat_payload.specs.Frames.{Emits}
use Rattle.lat_payload.proofs.Frames.{adds_none, adds_then}
use Rattle.lat_circuit.specs.Kept as circuit
use Rattle.lat_circuit.specs.Stands as circuit_stands
use Rattle.lat_lines.specs.circuits.Ending.{outlives_one}
use Rattle.lat_lines.specs.circuits.Kept.{Kept, Holds, IsOwn, SameCircuits, ids, side_of}
use Rattle.lat_lines.specs.circuits.Stands.{Stands, IsCircuit, Simulates}
use Rattle.lat_lines.proofs.CircuitsHeld.{each_at}
use Rattle.lat_lines.proofs.circuits.Places.{id_of, Became, id_read, lives_at, act_at, adds_at}
use Rattle.lat_lines.proofs.circuits.Ids.{kept_held}

abbrev pub lives_in : Core → ℕ → Bool
lives_in c i = lives (c.circuits.circuit_at i).end

-- an act on the circuits of these ids
abbrev pub does_each : (ℕ → Core → Doing) → List ℕ → Doing → Doing
does_each f [] d = d
does_each f (x ∷ xs) d = does_each f xs (then_doing d (f x))

-- It does nothing with a circuit that doesn't live, and the others are as they were
pub record IsAlone (f : ℕ → Core → Doing) : Type 0 where
  pub idle : (x : ℕ) (c : Core) → lives_in c x ≡ false → f x c ≡ rests c
  pub others : (x : ℕ) (c : Core) (i : ℕ) → (i ≡ x → ⊥) → lives_in (f x c).core i ≡ lives_in c i

-- a step of the circuit, where it lives
abbrev pub steps_one : Side → (Core → End → Step) → ℕ → Core → Doing
steps_one k s x c = acts k c (cond (lives_in c x) (steps_at k.server c.circuits x (s c (c.circuits.circuit_at x).end)) (idle c.circuits))

pub steps_alone : (k : Side) (s : Core → End → Step) → IsAlone (steps_one k s)
steps_alone k s = record {
  idle = λ x c h. ap (λ b. acts k c (cond b (steps_at k.server c.circuits x (s c (c.circuits.circuit_at x).end)) (idle c.circuits))) h;
  others = others;
}
  where
    others : (x : ℕ) (c : Core) (i : ℕ) → (i ≡ x → ⊥) → lives_in (steps_one k s x c).core i ≡ lives_in c i
    others x c i other = by (lives_in c x)
      where
        entry : CircuitEntry
        entry = record { address = (c.circuits.circuit_at x).address; end = (note_empty (c.circuits.circuit_at x).end (s c (c.circuits.circuit_at x).end)).end }

        by : (b : Bool) → lives_in (acts k c (cond b (steps_at k.server c.circuits x (s c (c.circuits.circuit_at x).end)) (idle c.circuits))).core i ≡ lives_in c i
        by true = ap (λ b. lives (cond b entry (c.circuits.circuit_at i)).end) (ne_eqb i x other)
        by false = refl

-- a circuit that a START may follow
pub outlives_alone : (from source : ℕ) → IsAlone (outlives_one from source)
outlives_alone from source = record { idle = unfollowed; others = others }
  where
    ended : Core → ℕ → Core
    ended c x = with_circuits c (steps_at false c.circuits x (lapse reasons.no_circuit (c.circuits.circuit_at x).end)).table

    unfollowed : (x : ℕ) (c : Core) → lives_in c x ≡ false → outlives_one from source x c ≡ rests c
    unfollowed x c h =
        let b : Bool = nat_eq (c.circuits.circuit_at x).address from && follows (c.circuits.circuit_at x).end.peer source in
        ap (λ l. rests (with_circuits c (cond (b && l) (ended c x).circuits c.circuits))) h ∙ by b
      where
        by : (b : Bool) → rests (with_circuits c (cond (b && false) (ended c x).circuits c.circuits)) ≡ rests c
        by true = refl
        by false = refl

    others : (x : ℕ) (c : Core) (i : ℕ) → (i ≡ x → ⊥) → lives_in (outlives_one from source x c).core i ≡ lives_in c i
    others x c i other = by (is_outlived (c.circuits.circuit_at x) from source)
      where
        entry : CircuitEntry
        entry = record { address = (c.circuits.circuit_at x).address; end = (note_empty (c.circuits.circuit_at x).end (lapse reasons.no_circuit (c.circuits.circuit_at x).end)).end }

        by : (b : Bool) → lives_in (with_circuits c (cond b (ended c x).circuits c.circuits)) i ≡ lives_in c i
        by true = ap (λ b. lives (cond b entry (c.circuits.circuit_at i)).end) (ne_eqb i x other)
        by false = refl

-- all ids, and those that are held

then_idle : (f : ℕ → Core → Doing) → IsAlone f → (x : ℕ) (d : Doing) → lives_in d.core x ≡ false → then_doing d (f x) ≡ d
then_idle f alone x d h =
    ap (λ (e : Doing). record { core = e.core; frames = d.frames ++ e.frames }) (alone.idle x d.core h)
    ∙ ap (λ fs. record { core = d.core; frames = fs }) (append-nil d.frames)

-- they are those that live, since none changes another
each_kept : (f : ℕ → Core → Doing) → IsAlone f → (p : ℕ → Bool) (n : ℕ) (xs : List ℕ) (d : Doing) → Rises n xs → ((i : ℕ) → n < i → lives_in d.core i ≡ p i)
    → does_each f xs d ≡ does_each f (keep p xs) d
each_kept f alone p n [] d r same = refl
each_kept f alone p n (x ∷ xs) d r same = by (p x) refl (λ e s. each_kept f alone p x xs e r.1 s)
  where
    Rest : Doing → Type 0
    Rest e = ((i : ℕ) → x < i → lives_in e.core i ≡ p i) → does_each f xs e ≡ does_each f (keep p xs) e

    by : (b : Bool) → p x ≡ b → ((e : Doing) → Rest e) → does_each f (x ∷ xs) d ≡ does_each f (cond b (x ∷ keep p xs) (keep p xs)) d
    by true e rest = rest (then_doing d (f x)) (λ i l. alone.others x d.core i (λ q. absurd (omega (arith, l, q))) ∙ same i (omega (arith, l, r.0)))
    by false e rest = ap (does_each f xs) (then_idle f alone x d (same x r.0 ∙ e)) ∙ rest d (λ i l. same i (omega (arith, l, r.0)))

each_held : (f : ℕ → Core → Doing) → IsAlone f → (k : Kept) (c : Core) → Holds k → Stands k c → does_each f (drawn_ids c.circuits) (rests c) ≡ does_each f (ids k) (rests c)
each_held f alone k c h st =
    each_kept f alone (lives_in c) 0 (drawn_ids c.circuits) (rests c) (ids_rise c.circuits.first c.circuits.drawn) (λ i l. refl)
    ∙ ap (λ xs. does_each f xs (rests c)) (kept_held k c (lives_in c) h st (record { lives = λ i e. e }))
    ∙ sym (each_kept f alone (lives_in c) 0 (ids k) (rests c) h.rising (λ i l. refl))

-- one after the others
each_then : (f : ℕ → Core → Doing) (xs : List ℕ) (x : ℕ) (d : Doing) → does_each f (xs ++ x ∷ []) d ≡ then_doing (does_each f xs d) (f x)
each_then f [] x d = refl
each_then f (y ∷ ys) x d = each_then f ys x (then_doing d (f y))

-- steps one after another

did_then : (f g : Core → Doing) (k m n : Kept) (x y z : List OutFrame) → Simulates f k m x y → Simulates g m n y z → Simulates (λ c. then_doing (f c) g) k n x z
did_then f g k m n x y z one two = λ c st.
    let p = one c st in
    let q = two (f c).core p.0 in
    (q.0, adds_then (f c).frames (g (f c).core).frames x y z p.1 q.1)

pub did_as : (f g : Core → Doing) (k m : Kept) (x y : List OutFrame) → ((c : Core) → Stands k c → g c ≡ f c) → Simulates f k m x y → Simulates g k m x y
did_as f g k m x y same did = λ c st. subst (λ (d : Doing). Stands m d.core × Emits d.frames x y) (sym (same c st)) (did c st)

pub did_nothing : (k : Kept) (x : List OutFrame) → Simulates rests k k x x
did_nothing k x = λ c st. (st, adds_none x)

-- what the circuits have done up to a place

abbrev pub Done : (ℕ → Core → Doing) → ℕ → (k m : Kept) → (x y : List OutFrame) → Type 0
Done f at k m x y = Simulates (λ c. does_each f (take at (ids k)) (rests c)) k m x y

pub done_more : (f : ℕ → Core → Doing) (k m n : Kept) (at : ℕ) (x y z : List OutFrame) → at < length k.held → SameCircuits k m
    → Done f at k m x y → Simulates (f (slice_index (ids m) at)) m n y z → Done f (at + 1) k n x z
done_more f k m n at x y z low same did one =
    let next : Simulates (f (slice_index (ids k) at)) m n y z = subst (λ i. Simulates (f (slice_index i at)) m n y z) same.ids one in
    let long : at < length (ids k) = omega (arith, low, length-map k.held id_of) in
    did_as (λ c. then_doing (does_each f (take at (ids k)) (rests c)) (f (slice_index (ids k) at)))
    (λ c. does_each f (take (at + 1) (ids k)) (rests c)) k n x z
    (λ c st. ap (λ is. does_each f is (rests c)) (take_more (ids k) at 0 long) ∙ each_then f (take at (ids k)) (slice_index (ids k) at) (rests c))
    (did_then (λ c. does_each f (take at (ids k)) (rests c)) (f (slice_index (ids k) at)) k m n x y z did next)

-- and all of them
pub done_all : (f : ℕ → Core → Doing) → IsAlone f → (k m : Kept) (n : ℕ) (x y : List OutFrame) → Holds k → length k.held ≤ n
    → Done f n k m x y → Simulates (λ c. does_each f (drawn_ids c.circuits) (rests c)) k m x y
done_all f alone k m n x y h long did =
    did_as (λ c. does_each f (take n (ids k)) (rests c)) (λ c. does_each f (drawn_ids c.circuits) (rests c)) k m x y
    (λ c st. each_held f alone k c h st ∙ ap (λ is. does_each f is (rests c)) (sym (take_all n (ids k) (omega (arith, long, length-map k.held id_of)))))
    did

-- the circuit at a place

-- one that doesn't live
pub one_ended : (f : ℕ → Core → Doing) → IsAlone f → (k : Kept) (at : ℕ) (q : circuit.Kept) (out : List OutFrame) → slice_get k.held at ≡ Some q → is_none q.ended ≡ false
    → Simulates (f (slice_index (ids k) at)) k k out out
one_ended f alone k at q out here ended = λ c st.
    let idle : f (slice_index (ids k) at) c ≡ rests c =
    ap (λ z. f z c) (id_read k at q here) ∙ alone.idle q.facts.id c (lives_at k c at q st here ∙ ended) in
    subst (λ (d : Doing). Stands k d.core × Emits d.frames out out) (sym idle) (st, adds_none out)

-- one that lives
pub one_lives : (s : Core → End → Step) (k : Kept) (at : ℕ) (q r : circuit.Kept) (l : Kept) (before after : List OutFrame) → Holds k → Became k at q r l → IsOwn k r → is_none q.ended ≡ true
    → ((c : Core) → Stands k c → circuit_stands.Simulates (λ e. note_empty e (s c e)) q r before after)
    → Simulates (steps_one (side_of k) s (slice_index (ids k) at)) k l before after
one_lives s k at q r l before after h b own alive did = λ c st.
    let x : ℕ = q.facts.id in
    let e : End = (c.circuits.circuit_at x).end in
    let is = each_at (IsCircuit c) k.held at q st.each b.here in
    let t : Step = note_empty e (s c e) in
    let d = did c st e is.end in
    let P : Doing → Type 0 = λ z. Stands l z.core × Emits z.frames before after in
    let goes : steps_one (side_of k) s (slice_index (ids k) at) c ≡ acts (side_of k) c (put_at k.server c.circuits c.circuits.drawn x (c.circuits.circuit_at x).address t) =
    ap (λ z. steps_one (side_of k) s z c) (id_read k at q b.here)
    ∙ ap (λ b. acts (side_of k) c (cond b (steps_at k.server c.circuits x (s c e)) (idle c.circuits))) (lives_at k c at q st b.here ∙ alive) in
    subst P (sym goes) (act_at k c at q r l t h st b d.0, adds_at k c at q r l t before after st b own d.0 d.1 d.2)
