-- One circuit more among those that are held, at the place of its id.
use Rattle.std.proofs.Common.{◌≡◌, ◌≢◌, ℕ, suc, ◌+◌, ◌<◌, Bool, true, false, not, cond, ◌||◌, nat_eq, nat_lt, eq-eqb, ne_eqb, List, [], ◌∷◌, length, map, Option, Some, None, refl, ap, ◌∙◌, arith}
use Rattle.std.specs.List.{find, insert, list_any, position, position_or_len}
use Rattle.std.specs.Option.{unwrap_or}
use Rattle.std.proofs.lemmas.Bool.{false≢true, or_right, ltb-true, ltb-false}
use Rattle.std.proofs.lemmas.List.Sums.{prefix_len-le-length}
use Rattle.lat_model.specs.Lists.{Each}
use Rattle.lat_model.specs.circuits.Ids.{Rises}
use Rattle.lat_circuit.specs.Kept as circuit
use Rattle.lat_lines.specs.circuits.Kept.{held_with}
use Rattle.lat_lines.proofs.CircuitFound.{has_same}
use Rattle.lat_lines.proofs.circuits.Places.{id_of}

abbrev pub is_above : ℕ → circuit.Kept → Bool
is_above x q = nat_lt x q.facts.id

-- it is put before the first one above it
pub insert_is : (q : circuit.Kept) (ps : List circuit.Kept) → insert ps (position_or_len (is_above q.facts.id) ps) q ≡ held_with q ps
insert_is q [] = refl
insert_is q (p ∷ ps) = by (nat_lt q.facts.id p.facts.id) (insert_is q ps)
  where
    at : ℕ
    at = position_or_len (is_above q.facts.id) ps

    next : 1 + at ≡ suc at
    next = omega arith

    by : (b : Bool) → insert ps at q ≡ held_with q ps → insert (p ∷ ps) (cond (not b) (1 + at) 0) q ≡ cond b (q ∷ p ∷ ps) (p ∷ held_with q ps)
    by true ih = refl
    by false ih = ap (λ n. insert (p ∷ ps) n q) next ∙ ap (λ z. p ∷ z) ih

-- or at the end, where there is none
pub place_is : (p : circuit.Kept → Bool) (ps : List circuit.Kept) (o : Option ℕ) (n : ℕ) → o ≡ position p ps → n ≡ length ps → unwrap_or o n ≡ position_or_len p ps
place_is p ps o n is many = ap (λ z. unwrap_or z n) is ∙ ap (unwrap_or (position p ps)) many ∙ by (nat_lt at (length ps)) refl
  where
    at : ℕ
    at = position_or_len p ps

    by : (b : Bool) → nat_lt at (length ps) ≡ b → unwrap_or (cond b (Some at) None) (length ps) ≡ at
    by true e = refl
    by false e = omega (arith, ltb-false at (length ps) e, prefix_len-le-length (λ q. not (p q)) ps)

pub each_among : (P : circuit.Kept → Type 0) (q : circuit.Kept) (ps : List circuit.Kept) → Each P ps → P q → Each P (held_with q ps)
each_among P q [] e h = (h, tt)
each_among P q (p ∷ ps) e h = by (nat_lt q.facts.id p.facts.id) (each_among P q ps e.1 h)
  where
    by : (b : Bool) → Each P (held_with q ps) → Each P (cond b (q ∷ p ∷ ps) (p ∷ held_with q ps))
    by true ih = (h, e)
    by false ih = (e.0, ih)

pub length_among : (q : circuit.Kept) (ps : List circuit.Kept) → length (held_with q ps) ≡ suc (length ps)
length_among q [] = refl
length_among q (p ∷ ps) = by (nat_lt q.facts.id p.facts.id) (length_among q ps)
  where
    by : (b : Bool) → length (held_with q ps) ≡ suc (length ps) → length (cond b (q ∷ p ∷ ps) (p ∷ held_with q ps)) ≡ suc (suc (length ps))
    by true ih = refl
    by false ih = ap suc ih

-- the ids rise, where none of the others has its id
pub rises_among : (n : ℕ) (q : circuit.Kept) (ps : List circuit.Kept) → Rises n (map id_of ps) → n < q.facts.id → Each (λ (p : circuit.Kept). p.facts.id ≢ q.facts.id) ps → Rises n (map id_of (held_with q ps))
rises_among n q [] r l e = (l, tt)
rises_among n q (p ∷ ps) r l e = by (nat_lt q.facts.id p.facts.id) refl (λ m. rises_among p.facts.id q ps r.1 m e.1)
  where
    by : (b : Bool) → nat_lt q.facts.id p.facts.id ≡ b → (p.facts.id < q.facts.id → Rises p.facts.id (map id_of (held_with q ps))) → Rises n (map id_of (cond b (q ∷ p ∷ ps) (p ∷ held_with q ps)))
    by true i ih = (l, (ltb-true q.facts.id p.facts.id i, r.1))
    by false i ih = (r.0, ih (omega (arith, ltb-false q.facts.id p.facts.id i, e.0)))

-- which ids there are

pub has_new : (i : ℕ) (q : circuit.Kept) (ps : List circuit.Kept) → nat_eq i q.facts.id ≡ true → list_any (nat_eq i) (map id_of (held_with q ps)) ≡ true
has_new i q [] h = ap (λ b. b || false) h
has_new i q (p ∷ ps) h = by (nat_lt q.facts.id p.facts.id) (has_new i q ps h)
  where
    by : (b : Bool) → list_any (nat_eq i) (map id_of (held_with q ps)) ≡ true → list_any (nat_eq i) (map id_of (cond b (q ∷ p ∷ ps) (p ∷ held_with q ps))) ≡ true
    by true ih = ap (λ b. b || list_any (nat_eq i) (map id_of (p ∷ ps))) h
    by false ih = or_right (nat_eq i p.facts.id) (list_any (nat_eq i) (map id_of (held_with q ps))) ih

-- what was held is held
pub has_more : (i : ℕ) (q : circuit.Kept) (ps : List circuit.Kept) → list_any (nat_eq i) (map id_of ps) ≡ true → list_any (nat_eq i) (map id_of (held_with q ps)) ≡ true
has_more i q [] h = absurd (false≢true h)
has_more i q (p ∷ ps) h = by (nat_lt q.facts.id p.facts.id) (or_more (nat_eq i p.facts.id) h (has_more i q ps))
  where
    or_more : (b : Bool) → b || list_any (nat_eq i) (map id_of ps) ≡ true → (list_any (nat_eq i) (map id_of ps) ≡ true → list_any (nat_eq i) (map id_of (held_with q ps)) ≡ true) → b || list_any (nat_eq i) (map id_of (held_with q ps)) ≡ true
    or_more true h ih = refl
    or_more false h ih = ih h

    by : (b : Bool) → nat_eq i p.facts.id || list_any (nat_eq i) (map id_of (held_with q ps)) ≡ true → list_any (nat_eq i) (map id_of (cond b (q ∷ p ∷ ps) (p ∷ held_with q ps))) ≡ true
    by true ih = or_right (nat_eq i q.facts.id) (list_any (nat_eq i) (map id_of (p ∷ ps))) h
    by false ih = ih

-- it is found by its id
pub found_among : (x : ℕ) (q : circuit.Kept) (ps : List circuit.Kept) → q.facts.id ≡ x → Each (λ (p : circuit.Kept). p.facts.id ≢ x) ps → find (has_same x) (held_with q ps) ≡ Some q
found_among x q [] is e = ap (λ b. cond b (Some q) None) (eq-eqb q.facts.id x is)
found_among x q (p ∷ ps) is e = by (nat_lt q.facts.id p.facts.id) (found_among x q ps is e.1)
  where
    by : (b : Bool) → find (has_same x) (held_with q ps) ≡ Some q → find (has_same x) (cond b (q ∷ p ∷ ps) (p ∷ held_with q ps)) ≡ Some q
    by true ih = ap (λ b. cond b (Some q) (find (has_same x) (p ∷ ps))) (eq-eqb q.facts.id x is)
    by false ih = ap (λ b. cond b (Some p) (find (has_same x) (held_with q ps))) (ne_eqb p.facts.id x e.0) ∙ ih
