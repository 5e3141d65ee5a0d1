-- Memory for circuits that are to come.
use Rattle.std.proofs.Common.{◌≡◌, ℕ, zero, suc, ◌+◌, ◌<◌, ◌≤◌, List, [], ◌∷◌, length, map, replicate, sym, ap, subst, ◌∙◌, arith}
use Rattle.std.specs.Prelude.{Result, Ok, Err, IfOk, OnErr}
use Rattle.std.proofs.lemmas.List.{length-map, length-replicate}
use Rattle.lat_model.specs.Lists.{Each}
use Rattle.lat_machines.specs.cores.Cores.{Core}
use Rattle.lat_circuit.specs.Kept as circuit
use Rattle.lat_lines.specs.circuits.Kept.{Kept, Holds, IsOwn, SameCircuits, HasRooms, AreRooms, ids, with_memory}
use Rattle.lat_lines.specs.circuits.Stands.{Stands}

abbrev id_of : circuit.Kept → ℕ
id_of q = q.facts.id

-- with these rooms
abbrev pub with_rooms : Kept → List ℕ → Kept
with_rooms k rooms = record k { rooms = rooms }

pub holds_reserved : (k : Kept) (rooms : List ℕ) → Holds k → length k.held + length rooms ≤ 8 → Each (λ n. k.timing.sessions ≤ n) rooms → Holds (with_rooms k rooms)
holds_reserved k rooms h few each = record {
  timing = h.timing;
  first = h.first;
  places = few;
  rooms = each;
  rising = h.rising;
  drawn = h.drawn;
  each = again k.held h.each;
}
  where
    again : (ps : List circuit.Kept) → Each (IsOwn k) ps → Each (IsOwn (with_rooms k rooms)) ps
    again [] e = tt
    again (p ∷ ps) e = (record { own = e.0.own; name = e.0.name; timing = e.0.timing; master = e.0.master; side = e.0.side; moment = e.0.moment; places = e.0.places }, again ps e.1)

pub stands_reserved : (k : Kept) (c : Core) (rooms : List ℕ) → Stands k c → Stands (with_rooms k rooms) c
stands_reserved k c rooms st = record { own = st.own; moment = st.moment; first = st.first; drawn = st.drawn; each = st.each; all = st.all }

-- with the rooms that are wanted there is memory for as many
pub ready_with : (count : ℕ) (k m : Kept) (more : List ℕ) → AreRooms count k more → m ≡ with_rooms k m.rooms → length m.rooms ≡ length k.rooms + length more → HasRooms count m
ready_with count k m more are is long = λ few.
    let held : length m.held ≡ length k.held = ap (λ (z : Kept). length z.held) is in
    let all : length k.held + length k.rooms + length more ≡ 8 = are.enough (omega (arith, few, long)) in
    omega (arith, held, all, long)

pub each_replicate : (n size count : ℕ) → n ≤ size → Each (λ s. n ≤ s) (replicate count size)
each_replicate n size zero low = tt
each_replicate n size (suc count) low = (low, each_replicate n size count low)

-- there is memory for one more where fewer than 8 are held
pub one_ready : (k : Kept) → HasRooms 1 k → length k.held < 8 → 0 < length k.rooms
one_ready k ready few = by k.rooms ready
  where
    by : (rooms : List ℕ) → (length rooms < 1 → length k.held + length rooms ≡ 8) → 0 < length rooms
    by [] ready = let full : length k.held + 0 ≡ 8 = ready (omega arith) in absurd (omega (arith, full, few))
    by (r ∷ rs) ready = omega arith

-- the same circuits, and as many rooms
pub rooms_same : (k m : Kept) → SameCircuits k m → length m.rooms ≡ length k.rooms
rooms_same k m s =
    let held : length m.held ≡ length k.held = sym (length-map m.held id_of) ∙ ap length s.ids ∙ length-map k.held id_of in
    let all : length m.held + length m.rooms ≡ length k.held + length k.rooms = s.core.memory in
    omega (arith, held, all)

pub rooms_stay : (k m : Kept) → SameCircuits k m → length k.rooms ≤ length m.rooms
rooms_stay k m s = omega (arith, rooms_same k m s)

pub are_rooms : (count : ℕ) (k : Kept) (missing size : ℕ) (more : List ℕ) → size ≡ k.timing.sessions → (length k.rooms + missing < count → with_memory k + missing ≡ 8) → (0 < missing → length k.rooms + missing ≤ count) → with_memory k + missing ≤ 8
    → more ≡ replicate missing size → AreRooms count k more
are_rooms count k missing size more sessions enough few most is =
    let long : length more ≡ missing = ap length is ∙ length-replicate missing size in
    record {
      enough = λ few. subst (λ n. with_memory k + n ≡ 8) (sym long) (enough (subst (λ n. length k.rooms + n < count) long few));
      few = λ some. subst (λ n. length k.rooms + n ≤ count) (sym long) (few (subst (λ n. 0 < n) long some));
      most = subst (λ n. with_memory k + n ≤ 8) (sym long) most;
      each = subst (Each (λ n. k.timing.sessions ≤ n)) (sym is) (each_replicate k.timing.sessions size missing (omega (arith, sessions)));
    }

pub if_ok : {A E : Type 0} (r : Result A E) (P Q : A → Type 0) → ((a : A) → P a → Q a) → IfOk r P → IfOk r Q
if_ok (Ok a) P Q f h = f a h
if_ok (Err e) P Q f h = h

pub on_err : {A E P Q : Type 0} (r : Result A E) → (P → Q) → OnErr r P → OnErr r Q
on_err (Ok a) f h = h
on_err (Err e) f h = f h
