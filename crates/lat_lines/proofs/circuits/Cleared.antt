-- Circuits that have ended are let go of.
use Rattle.std.proofs.Common.{◌≡◌, ℕ, ◌+◌, ◌≤◌, Bool, true, false, not, nat_eq, List, [], ◌∷◌, ◌++◌, length, Option, Some, None, is_none, position, slice_get, length-append, refl, sym, ap, ◌∙◌, arith}
use Rattle.std.specs.List.{remove}
use Rattle.std.proofs.lemmas.Bool.{true≢false, not-true, ne_eqb}
use Rattle.std.proofs.lemmas.List.Edits.{length-remove}
use Rattle.std.proofs.lemmas.Option.{slice_get_within}
use Rattle.lat_model.specs.Lists.{Each}
use Rattle.lat_model.specs.ends.End.{lives}
use Rattle.lat_machines.specs.cores.Cores.{Core}
use Rattle.lat_circuit.specs.Kept as circuit
use Rattle.lat_lines.specs.circuits.Kept.{Kept, Holds, IsOwn, IsClear, is_drawn, with_memory}
use Rattle.lat_lines.specs.circuits.Stands.{Stands, IsCircuit}
use Rattle.lat_lines.proofs.CircuitsHeld.{each_at, each_push, each_remove, rises_remove, any_remove, not_any}
use Rattle.lat_lines.proofs.circuits.Places.{id_of, lives_at}

-- the one at a place is let go of; its memory is a room
abbrev pub cleared : Kept → ℕ → ℕ → Kept
cleared k at room = record k { held = remove k.held at; rooms = k.rooms ++ room ∷ [] }

abbrev pub has_ended : circuit.Kept → Bool
has_ended q = not (is_none q.ended)

-- and as many have memory as before
pub memory_cleared : (k : Kept) (at room : ℕ) (q : circuit.Kept) → slice_get k.held at ≡ Some q → with_memory (cleared k at room) ≡ with_memory k
memory_cleared k at room q here =
    omega (arith, length-remove k.held at (slice_get_within k.held at q here), length-append k.rooms (room ∷ []))

pub holds_cleared : (k : Kept) (at room : ℕ) (q : circuit.Kept) → Holds k → slice_get k.held at ≡ Some q → room ≡ length q.sessions.sessions → Holds (cleared k at room)
holds_cleared k at room q h here is = record {
  timing = h.timing;
  first = h.first;
  places = let few : length k.held + length k.rooms ≤ 8 = h.places in omega (arith, few, length-remove k.held at (slice_get_within k.held at q here), length-append k.rooms (room ∷ []));
  rooms = each_push (λ n. k.timing.sessions ≤ n) k.rooms room h.rooms (omega (arith, is, own.places));
  rising = rises_remove id_of 0 k.held at h.rising;
  drawn = each_remove (λ p. is_drawn k (id_of p) ≡ true) k.held at h.drawn;
  each = again (remove k.held at) (each_remove (IsOwn k) k.held at h.each);
}
  where
    own : IsOwn k q
    own = each_at (IsOwn k) k.held at q h.each here

    again : (ps : List circuit.Kept) → Each (IsOwn k) ps → Each (IsOwn (cleared k at room)) ps
    again [] e = tt
    again (p ∷ ps) e = (record { own = e.0.own; name = e.0.name; timing = e.0.timing; master = e.0.master; side = e.0.side; moment = e.0.moment; places = e.0.places }, again ps e.1)

-- those that live are still held
pub stands_cleared : (k : Kept) (c : Core) (at room : ℕ) (q : circuit.Kept) → Stands k c → slice_get k.held at ≡ Some q → has_ended q ≡ true → Stands (cleared k at room) c
stands_cleared k c at room q st here ended = record {
  own = st.own;
  moment = st.moment;
  first = st.first;
  drawn = st.drawn;
  each = each_remove (IsCircuit c) k.held at st.each;
  all = λ i l. any_remove id_of k.held at q i here (other i l) (st.all i l);
}
  where
    gone : lives (c.circuits.circuit_at q.facts.id).end ≡ false
    gone = lives_at k c at q st here ∙ not-true (is_none q.ended) ended

    other : (i : ℕ) → lives (c.circuits.circuit_at i).end ≡ true → nat_eq i q.facts.id ≡ false
    other i l = ne_eqb i q.facts.id (λ e. true≢false (sym (ap (λ z. lives (c.circuits.circuit_at z).end) (sym e) ∙ l) ∙ gone))

-- where none has ended
pub all_clear : (k : Kept) → position has_ended k.held ≡ None → IsClear k
all_clear k h = go k.held (not_any has_ended k.held h)
  where
    none : (o : Option ℕ) → not (is_none o) ≡ false → o ≡ None
    none None e = refl
    none (Some r) e = absurd (true≢false e)

    go : (qs : List circuit.Kept) → Each (λ q. has_ended q ≡ false) qs → Each (λ (q : circuit.Kept). q.ended ≡ None) qs
    go [] e = tt
    go (q ∷ qs) e = (none q.ended e.0, go qs e.1)
