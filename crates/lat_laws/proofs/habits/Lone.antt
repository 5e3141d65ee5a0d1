-- A table in which no two circuits that live have one key: what is done at a circuit that lives, and a new circuit.
use Rattle.std.proofs.Common.{◌≡◌, ◌≢◌, ℕ, suc, refl, sym, ap, ◌∙◌, Bool, true, false, cond, nat_eq, eqb-true, List, ◌∷◌, []}
use Rattle.std.proofs.lemmas.Bool.{true≢false, true_from_ne_false}
use Rattle.lat_model.specs.Lists.{least, Each}
use Rattle.lat_model.specs.ends.End.{End, Step, lives}
use Rattle.lat_model.specs.ends.Timers.{note_empty}
use Rattle.lat_model.specs.circuits.World.{CircuitEntry, Table}
use Rattle.lat_model.proofs.sessions.Words.{upd_other}
use Rattle.lat_model.proofs.circuits.Ids.{drawn_some, undrawn_before, undrawn_other}
use Rattle.lat_model.proofs.circuits.IdLists.{each_id, id_at_each}
use Rattle.lat_model.specs.circuits.Ids.{ids, is_drawn, next_id}
use Rattle.lat_machines.specs.cores.Acts.{put_at, steps_at}

abbrev entry_at : ℕ → End → CircuitEntry
entry_at address e = record { address = address; end = e }

pub record Lone {K : Type 0} (key : CircuitEntry → K) (t : Table) : Type 0 where
  pub new : (k : ℕ) → is_drawn t k ≡ false → lives (t.circuit_at k).end ≡ false
  pub one : (x y : ℕ) → lives (t.circuit_at x).end ≡ true → lives (t.circuit_at y).end ≡ true → key (t.circuit_at x) ≡ key (t.circuit_at y) → x ≡ y

-- a circuit that lives was drawn
lone_drawn : {K : Type 0} (key : CircuitEntry → K) (t : Table) (k : ℕ) → Lone key t → lives (t.circuit_at k).end ≡ true → is_drawn t k ≡ true
lone_drawn key t k h l = true_from_ne_false (is_drawn t k) (λ q. true≢false (sym l ∙ h.new k q))

-- a step of a circuit that lives, which keeps its key
pub lone_steps : {K : Type 0} (key : CircuitEntry → K) (b : Bool) (t : Table) (x : ℕ) (s : Step) → Lone key t → lives (t.circuit_at x).end ≡ true → key (entry_at (t.circuit_at x).address (note_empty (t.circuit_at x).end s).end) ≡ key (t.circuit_at x) → Lone key (steps_at b t x s).table
lone_steps key b t x s h l q = record {
  new = λ k d. ap (λ (z : CircuitEntry). lives z.end) (upd_other t.circuit_at x next k (other k (h.new k d))) ∙ h.new k d;
  one = λ y z m n e. h.one y z (was y (nat_eq y x) refl m) (was z (nat_eq z x) refl n) (sym (same y (nat_eq y x) refl) ∙ (e ∙ same z (nat_eq z x) refl));
}
  where
    next : CircuitEntry
    next = entry_at (t.circuit_at x).address (note_empty (t.circuit_at x).end s).end

    other : (k : ℕ) → lives (t.circuit_at k).end ≡ false → k ≢ x
    other k f e = true≢false (sym l ∙ (ap (λ i. lives (t.circuit_at i).end) (sym e) ∙ f))

    was : (y : ℕ) (c : Bool) → nat_eq y x ≡ c → lives (cond c next (t.circuit_at y)).end ≡ true → lives (t.circuit_at y).end ≡ true
    was y true i m = ap (λ z. lives (t.circuit_at z).end) (eqb-true y x i) ∙ l
    was y false i m = m

    same : (y : ℕ) (c : Bool) → nat_eq y x ≡ c → key (cond c next (t.circuit_at y)) ≡ key (t.circuit_at y)
    same y true i = q ∙ ap (λ z. key (t.circuit_at z)) (sym (eqb-true y x i))
    same y false i = refl

-- a circuit more, where none that lives has its key
pub lone_makes : {K : Type 0} (key : CircuitEntry → K) (b : Bool) (t : Table) (address : ℕ) (s : Step) → Lone key t → ((i : ℕ) → is_drawn t i ≡ true → lives (t.circuit_at i).end ≡ true → key (t.circuit_at i) ≢ key (entry_at address s.end)) → Lone key (put_at b t (suc t.drawn) (next_id t) address s).table
lone_makes key b t address s h none = record {
  new = λ k d. ap (λ (z : CircuitEntry). lives z.end) (upd_other t.circuit_at (next_id t) next k (undrawn_other t.first t.drawn k d)) ∙ h.new k (undrawn_before t.first t.drawn k d);
  one = λ y z m n e. one y z (nat_eq y (next_id t)) refl (nat_eq z (next_id t)) refl m n e;
}
  where
    next : CircuitEntry
    next = entry_at address s.end

    apart : (y : ℕ) → lives (t.circuit_at y).end ≡ true → key (t.circuit_at y) ≢ key next
    apart y l = none y (lone_drawn key t y h l) l

    one : (y z : ℕ) (c : Bool) → nat_eq y (next_id t) ≡ c → (d : Bool) → nat_eq z (next_id t) ≡ d → lives (cond c next (t.circuit_at y)).end ≡ true → lives (cond d next (t.circuit_at z)).end ≡ true → key (cond c next (t.circuit_at y)) ≡ key (cond d next (t.circuit_at z)) → y ≡ z
    one y z true i true j m n e = eqb-true y (next_id t) i ∙ sym (eqb-true z (next_id t) j)
    one y z true i false j m n e = absurd (apart z n (sym e))
    one y z false i true j m n e = absurd (apart y m e)
    one y z false i false j m n e = h.one y z m n e

-- where the least number that passes is 0, none passes
least_fails : (p : ℕ → Bool) (xs : List ℕ) → Each (λ i. i ≢ 0) xs → least p xs ≡ 0 → Each (λ i. p i ≡ false) xs
least_fails p [] n q = tt
least_fails p (x ∷ xs) n q = go (p x) refl q (least_fails p xs n.1)
  where
    go : (c : Bool) → p x ≡ c → cond c x (least p xs) ≡ 0 → (least p xs ≡ 0 → Each (λ i. p i ≡ false) xs) → (p x ≡ false) × Each (λ i. p i ≡ false) xs
    go true e z r = absurd (n.0 z)
    go false e z r = (e, r z)

pub least_none : (p : ℕ → Bool) (t : Table) → least p (ids t) ≡ 0 → (i : ℕ) → is_drawn t i ≡ true → p i ≡ false
least_none p t q i d = id_at_each (λ j. p j ≡ false) t.first t.drawn (least_fails p (ids t) (each_id (λ j. j ≢ 0) t.first t.drawn (drawn_some t.first t.drawn)) q) i d
