-- The time of all circuits, their end by the core itself, and by a START that they don't outlive.
use Rattle.std.proofs.Common.{◌≡◌, ℕ, ◌≤◌, Bool, true, false, not, cond, ◌&&◌, nat_eq, List, [], ◌∷◌, ◌++◌, map, length, is_none, Some, slice_get, slice_index, refl, sym, ap, subst, ◌∙◌}
use Rattle.lat_base.specs.declared.outbox.OutFrame.{OutFrame}
use Rattle.lat_model.specs.circuits.Ids.{ids as drawn_ids}
use Rattle.lat_model.specs.Reasons as reasons
use Rattle.lat_model.specs.sessions.Sessions.{held}
use Rattle.lat_model.specs.ends.End.{Step, End, still, finish, lapse, lives}
use Rattle.lat_model.specs.ends.Timers.{note_empty, time_step}
use Rattle.lat_machines.specs.values.Addresses.{address}
use Rattle.lat_machines.specs.cores.Cores.{Side, Core, Doing, rests, then_doing, with_circuits, time_each, passes_time, end_each, ends_all}
use Rattle.lat_machines.specs.cores.Acts.{steps_at}
use Rattle.lat_machines.specs.cores.Hearing.{follows, is_outlived, outlive_at, outlive}
use Rattle.lat_circuit.specs.Kept as circuit
use Rattle.lat_circuit.specs.Stands as circuit_stands
use Rattle.lat_circuit.specs.Frames.{timing_shown, frame_sent, AreFormed}
use Rattle.lat_lines.specs.circuits.Ending.{ends_one, outlives_one, outlived_core}
use Rattle.lat_lines.specs.circuits.Kept.{Kept, Holds, IsOwn, SameCore, SameCircuits, ids, side_of}
use Rattle.lat_lines.specs.circuits.Stands.{Stands, IsCircuit, Simulates}
use Rattle.lat_lines.specs.circuits.Times.{passes_one}
use Rattle.lat_lines.proofs.CircuitsHeld.{each_at}
use Rattle.lat_lines.proofs.circuits.Places.{Became, id_read, lives_at, act_at}
use Rattle.lat_lines.proofs.circuits.Each.{does_each, steps_alone, outlives_alone, did_as, Done, done_all, one_lives}

-- the same core

pub side_same : (k m : Kept) → SameCore k m → side_of m ≡ side_of k
side_same k m s =
    ap (λ b. record { server = b; timing = timing_shown m.timing; name = m.name }) s.server
    ∙ ap (λ t. record { server = k.server; timing = timing_shown t; name = m.name }) s.timing
    ∙ ap (λ n. record { server = k.server; timing = timing_shown k.timing; name = n }) s.name

pub same_then : (k m n : Kept) → SameCircuits k m → SameCircuits m n → SameCircuits k n
same_then k m n a b = record {
  core = record { own = b.core.own ∙ a.core.own; name = b.core.name ∙ a.core.name; timing = b.core.timing ∙ a.core.timing; server = b.core.server ∙ a.core.server; first = b.core.first ∙ a.core.first; memory = b.core.memory ∙ a.core.memory };
  ids = b.ids ∙ a.ids;
  drawn = b.drawn ∙ a.drawn;
  moment = b.moment ∙ a.moment;
}

pub same_none : (k : Kept) → SameCircuits k k
same_none k = record { core = record { own = refl; name = refl; timing = refl; server = refl; first = refl; memory = refl }; ids = refl; drawn = refl; moment = refl }

-- the time of each

pub times_are : (k : Side) (xs : List ℕ) (d : Doing) → time_each k xs d ≡ does_each (passes_one k) xs d
times_are k [] d = refl
times_are k (x ∷ xs) d = times_are k xs (then_doing d (passes_one k x))

pub times_all : (k m : Kept) (n : ℕ) (x y : List OutFrame) → Holds k → length k.held ≤ n → Done (passes_one (side_of k)) n k m x y → Simulates (passes_time (side_of k)) k m x y
times_all k m n x y h long did =
    did_as (λ c. does_each (passes_one (side_of k)) (drawn_ids c.circuits) (rests c)) (passes_time (side_of k)) k m x y
    (λ c st. times_are (side_of k) (drawn_ids c.circuits) (rests c))
    (done_all (passes_one (side_of k)) (steps_alone (side_of k) (λ c e. time_step c.moment e)) k m n x y h long did)

pub time_lives : (k : Kept) (at : ℕ) (q r : circuit.Kept) (l : Kept) (before after : List OutFrame) → Holds k → Became k at q r l → IsOwn k r → is_none q.ended ≡ true
    → circuit_stands.Simulates (λ e. note_empty e (time_step k.moment e)) q r before after
    → Simulates (passes_one (side_of k) (slice_index (ids k) at)) k l before after
time_lives k at q r l before after h b own alive did =
    one_lives (λ c e. time_step c.moment e) k at q r l before after h b own alive
    (λ c st. subst (λ n. circuit_stands.Simulates (λ e. note_empty e (time_step n e)) q r before after) st.moment did)

-- the end of each

pub ends_are : (k : Side) (reason : ℕ) (xs : List ℕ) (d : Doing) → end_each k reason xs d ≡ does_each (ends_one k reason) xs d
ends_are k reason [] d = refl
ends_are k reason (x ∷ xs) d = ends_are k reason xs (then_doing d (ends_one k reason x))

pub ends_every : (reason : ℕ) (k m : Kept) (n : ℕ) (x y : List OutFrame) → Holds k → length k.held ≤ n → Done (ends_one (side_of k) reason) n k m x y → Simulates (ends_all (side_of k) reason) k m x y
ends_every reason k m n x y h long did =
    did_as (λ c. does_each (ends_one (side_of k) reason) (drawn_ids c.circuits) (rests c)) (ends_all (side_of k) reason) k m x y
    (λ c st. ends_are (side_of k) reason (drawn_ids c.circuits) (rests c))
    (done_all (ends_one (side_of k) reason) (steps_alone (side_of k) (λ c e. finish reason e)) k m n x y h long did)

-- an end that holds as many sessions as before has nothing to note

never : (b : Bool) → not b && b ≡ false
never true = refl
never false = refl

pub note_finish : (reason : ℕ) (e : End) → note_empty e (finish reason e) ≡ finish reason e
note_finish reason e =
    ap (λ b. record { end = record e { ended = Some reason; empty_at = cond b e.moment e.empty_at }; sent = (finish reason e).sent }) (never (nat_eq (held e.half.sessions) 0))

pub note_lapse : (reason : ℕ) (e : End) → note_empty e (lapse reason e) ≡ lapse reason e
note_lapse reason e =
    ap (λ b. still (record e { ended = Some reason; empty_at = cond b e.moment e.empty_at })) (never (nat_eq (held e.half.sessions) 0))

pub end_lives : (reason : ℕ) (k : Kept) (at : ℕ) (q r : circuit.Kept) (l : Kept) (before after : List OutFrame) → Holds k → Became k at q r l → IsOwn k r → is_none q.ended ≡ true
    → circuit_stands.Simulates (finish reason) q r before after
    → Simulates (ends_one (side_of k) reason (slice_index (ids k) at)) k l before after
end_lives reason k at q r l before after h b own alive did =
    one_lives (λ c e. finish reason e) k at q r l before after h b own alive
    (λ c st e is. subst (λ (s : Step). circuit_stands.Stands r s.end × (after ≡ before ++ map (frame_sent r.facts) s.sent) × AreFormed r.facts s.sent) (sym (note_finish reason e)) (did e is))

-- those that a START follows

pub outlives_are : (from source : ℕ) (xs : List ℕ) (c : Core) → does_each (outlives_one from source) xs (rests c) ≡ rests (with_circuits c (outlive from source xs c.circuits))
outlives_are from source [] c = refl
outlives_are from source (x ∷ xs) c = outlives_are from source xs (with_circuits c (outlive_at from source x c.circuits))

pub outlives_every : (from source : ℕ) (k m : Kept) (n : ℕ) → Holds k → length k.held ≤ n → Done (outlives_one from source) n k m [] []
    → (c : Core) → Stands k c → Stands m (outlived_core from source c)
outlives_every from source k m n h long did c st =
    subst (λ (d : Doing). Stands m d.core) (outlives_are from source (drawn_ids c.circuits) c)
    (done_all (outlives_one from source) (outlives_alone from source) k m n [] [] h long did c st).0

-- the circuit at a place, which the START follows or not

abbrev pub is_followed : ℕ → ℕ → circuit.Kept → Bool
is_followed from source q = nat_eq (address q.facts.config.peer.0) from && follows q.facts.peer source && is_none q.ended

followed_is : (k : Kept) (c : Core) (from source at : ℕ) (q : circuit.Kept) → slice_get k.held at ≡ Some q → Stands k c → is_outlived (c.circuits.circuit_at q.facts.id) from source ≡ is_followed from source q
followed_is k c from source at q here st =
    let is = each_at (IsCircuit c) k.held at q st.each here in
    ap (λ n. nat_eq n from && follows (c.circuits.circuit_at q.facts.id).end.peer source && lives (c.circuits.circuit_at q.facts.id).end) (sym is.address)
    ∙ ap (λ n. nat_eq (address q.facts.config.peer.0) from && follows n source && lives (c.circuits.circuit_at q.facts.id).end) (sym is.end.peer)
    ∙ ap (λ b. nat_eq (address q.facts.config.peer.0) from && follows q.facts.peer source && b) (lives_at k c at q st here)

outlive_is : (k : Kept) (c : Core) (from source at : ℕ) (q : circuit.Kept) (b : Bool) → slice_get k.held at ≡ Some q → is_followed from source q ≡ b → Stands k c
    → with_circuits c (outlive_at from source (slice_index (ids k) at) c.circuits)
    ≡ with_circuits c (cond b (steps_at false c.circuits q.facts.id (lapse reasons.no_circuit (c.circuits.circuit_at q.facts.id).end)).table c.circuits)
outlive_is k c from source at q b here is st =
    ap (λ z. with_circuits c (outlive_at from source z c.circuits)) (id_read k at q here)
    ∙ ap (λ t. with_circuits c (cond t (steps_at false c.circuits q.facts.id (lapse reasons.no_circuit (c.circuits.circuit_at q.facts.id).end)).table c.circuits)) (followed_is k c from source at q here st ∙ is)

pub one_unfollowed : (k : Kept) (from source at : ℕ) (q : circuit.Kept) → slice_get k.held at ≡ Some q → is_followed from source q ≡ false
    → (c : Core) → Stands k c → Stands k (with_circuits c (outlive_at from source (slice_index (ids k) at) c.circuits))
one_unfollowed k from source at q here un c st = subst (Stands k) (sym (outlive_is k c from source at q false here un st)) st

pub one_followed : (k : Kept) (from source at : ℕ) (q r : circuit.Kept) (l : Kept) → Holds k → Became k at q r l → is_followed from source q ≡ true
    → ((e : End) → circuit_stands.Stands q e → circuit_stands.Stands r (lapse reasons.no_circuit e).end)
    → (c : Core) → Stands k c → Stands l (with_circuits c (outlive_at from source (slice_index (ids k) at) c.circuits))
one_followed k from source at q r l h b goes did c st =
    let e : End = (c.circuits.circuit_at q.facts.id).end in
    let is = each_at (IsCircuit c) k.held at q st.each b.here in
    subst (Stands l) (sym (outlive_is k c from source at q true b.here goes st))
    (act_at k c at q r l (note_empty e (lapse reasons.no_circuit e)) h st b (subst (λ (s : Step). circuit_stands.Stands r s.end) (sym (note_lapse reasons.no_circuit e)) (did e is.end)))
