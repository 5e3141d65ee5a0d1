-- The ids of what is held, among all ids that were drawn.
use Rattle.std.proofs.Common.{◌≡◌, ℕ, Bool, true, false, cond, ◌||◌, nat_eq, List, [], ◌∷◌, map, length, refl, sym, ap, ap₂, subst, ◌∙◌}
use Rattle.std.specs.List.{list_any}
use Rattle.std.proofs.lemmas.Bool.{false≢true, eqb-true}
use Rattle.lat_model.specs.Lists.{Each, keep, least}
use Rattle.lat_model.specs.ends.End.{lives}
use Rattle.lat_model.specs.circuits.Arriving.{living}
use Rattle.lat_model.specs.circuits.Ids.{id_behind, is_id_of}
use Rattle.lat_model.specs.circuits.Ids as tables
use Rattle.lat_model.proofs.circuits.IdLists.{ids_any, ids_rise, keep_rises}
use Rattle.lat_machines.specs.cores.Cores.{Core}
use Rattle.lat_circuit.specs.Kept as circuit
use Rattle.lat_lines.specs.circuits.Kept.{Kept, Holds, ids, has_id, next_id, is_drawn}
use Rattle.lat_lines.specs.circuits.Stands.{Stands}

-- what is drawn at the core, and what is next

pub drawn_core : (k : Kept) (c : Core) (x : ℕ) → Stands k c → is_drawn k x ≡ tables.is_drawn c.circuits x
drawn_core k c x st = ap₂ (λ f n. is_id_of f n x) st.first st.drawn

pub next_core : (k : Kept) (c : Core) → Stands k c → next_id k ≡ tables.next_id c.circuits
next_core k c st = ap₂ id_behind st.first st.drawn

-- a circuit that is held was drawn

each_has : (P : ℕ → Type 0) (x : ℕ) (qs : List circuit.Kept) → Each (λ (q : circuit.Kept). P q.facts.id) qs → list_any (nat_eq x) (map (λ (q : circuit.Kept). q.facts.id) qs) ≡ true → P x
each_has P x [] e h = absurd (false≢true h)
each_has P x (q ∷ qs) e h = by (nat_eq x q.facts.id) refl h (each_has P x qs e.1)
  where
    by : (b : Bool) → nat_eq x q.facts.id ≡ b → b || list_any (nat_eq x) (map (λ (q : circuit.Kept). q.facts.id) qs) ≡ true → (list_any (nat_eq x) (map (λ (q : circuit.Kept). q.facts.id) qs) ≡ true → P x) → P x
    by true i h ih = subst P (sym (eqb-true x q.facts.id i)) e.0
    by false i h ih = ih h

pub held_drawn : (k : Kept) (x : ℕ) → Holds k → has_id x k ≡ true → is_drawn k x ≡ true
held_drawn k x h has = each_has (λ i. is_drawn k i ≡ true) x k.held h.drawn has

-- the least that passes is the first of those that are kept
least_keep : (p : ℕ → Bool) (xs ys : List ℕ) → keep p xs ≡ keep p ys → least p xs ≡ least p ys
least_keep p xs ys e = first p xs ∙ ap head e ∙ sym (first p ys)
  where
    head : List ℕ → ℕ
    head [] = 0
    head (x ∷ xs) = x

    first : (p : ℕ → Bool) (xs : List ℕ) → least p xs ≡ head (keep p xs)
    first p [] = refl
    first p (x ∷ xs) = by (p x) (first p xs)
      where
        by : (b : Bool) → least p xs ≡ head (keep p xs) → cond b x (least p xs) ≡ head (cond b (x ∷ keep p xs) (keep p xs))
        by true h = refl
        by false h = h

-- what passes only where a circuit lives is sought among what is held

pub record OfLiving (c : Core) (p : ℕ → Bool) : Type 0 where
  pub lives : (i : ℕ) → p i ≡ true → lives (c.circuits.circuit_at i).end ≡ true

pub kept_held : (k : Kept) (c : Core) (p : ℕ → Bool) → Holds k → Stands k c → OfLiving c p → keep p (tables.ids c.circuits) ≡ keep p (ids k)
kept_held k c p h st of =
    keep_rises p 0 (tables.ids c.circuits) (ids k) (ids_rise c.circuits.first c.circuits.drawn) h.rising
    (λ i is. let held : has_id i k ≡ true = st.all i (of.lives i is) in
    ids_any c.circuits.first c.circuits.drawn i ∙ sym (drawn_core k c i st) ∙ held_drawn k i h held ∙ sym held)

pub least_held : (k : Kept) (c : Core) (p : ℕ → Bool) → Holds k → Stands k c → OfLiving c p → least p (tables.ids c.circuits) ≡ least p (ids k)
least_held k c p h st of = least_keep p (tables.ids c.circuits) (ids k) (kept_held k c p h st of)

pub living_held : (k : Kept) (c : Core) → Holds k → Stands k c → living c.circuits ≡ length (keep (λ i. lives (c.circuits.circuit_at i).end) (ids k))
living_held k c h st = ap length (kept_held k c (λ i. lives (c.circuits.circuit_at i).end) h st (record { lives = λ i e. e }))
