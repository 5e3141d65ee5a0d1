-- The ids of a core's circuits: which they are, and what the next draw changes.
use Rattle.std.proofs.Common.{◌≡◌, ◌≢◌, ℕ, zero, suc, ◌+◌, ◌-◌, ◌<◌, ◌≤◌, ◌⊎◌, inl, inr, ⊎_elim, sym, ◌∙◌, refl, subst, arith, Bool, true, false, cond, ◌&&◌, ◌||◌, min, nat_eq, nat_lt, nat_le, eqb-true, ltb-true, ltb-false, lt-ltb, leb-true, le-leb}
use Rattle.std.proofs.lemmas.Bool.{and_parts, and_from, or_cases, or_left, or_right, false_from_ne_true, true≢false, cases_lt, eqb-false}
use Rattle.lat_model.specs.circuits.Ids.{ids_up, ids_round, id_behind, is_id_of, next_id, is_drawn, is_known, IdsStay}
use Rattle.lat_model.specs.circuits.World.{Table}

-- where an id lies: from the first one up, behind 65,535, or beyond
pub data Lies (f n x : ℕ) : Type 0 where
  Up : f - 1 < x → x ≤ f - 1 + min (ids_up f) n → Lies f n x
  Round : 0 < x → x ≤ ids_round f n → Lies f n x
  Beyond : 65535 < x → x ≤ n → Lies f n x

abbrev pub is_up : ℕ → ℕ → ℕ → Bool
is_up f n x = nat_lt (f - 1) x && nat_le x (f - 1 + min (ids_up f) n)

abbrev pub is_round : ℕ → ℕ → ℕ → Bool
is_round f n x = nat_lt 0 x && nat_le x (ids_round f n)

abbrev pub is_beyond : ℕ → ℕ → Bool
is_beyond n x = nat_lt 65535 x && nat_le x n

pub id_lies : (f n x : ℕ) → is_id_of f n x ≡ true → Lies f n x
unfolding is_id_of
id_lies f n x h =
    ⊎_elim {C = Lies f n x}
    (λ e. ⊎_elim {C = Lies f n x}
    (λ e. let p : (nat_lt (f - 1) x ≡ true) × _ = and_parts (nat_lt (f - 1) x) (nat_le x (f - 1 + min (ids_up f) n)) e in Up (ltb-true (f - 1) x p.0) (leb-true x (f - 1 + min (ids_up f) n) p.1))
    (λ e. let p : (nat_lt 0 x ≡ true) × _ = and_parts (nat_lt 0 x) (nat_le x (ids_round f n)) e in Round (ltb-true 0 x p.0) (leb-true x (ids_round f n) p.1))
    (or_cases (is_up f n x) (is_round f n x) e))
    (λ e. let p : (nat_lt 65535 x ≡ true) × _ = and_parts (nat_lt 65535 x) (nat_le x n) e in Beyond (ltb-true 65535 x p.0) (leb-true x n p.1))
    (or_cases (is_up f n x || is_round f n x) (is_beyond n x) h)

pub lies_id : (f n x : ℕ) → Lies f n x → is_id_of f n x ≡ true
unfolding is_id_of
lies_id f n x (Up l m) = or_left (is_up f n x || is_round f n x) (is_beyond n x) (or_left (is_up f n x) (is_round f n x) (and_from _ _ (lt-ltb (f - 1) x l) (le-leb x (f - 1 + min (ids_up f) n) m)))
lies_id f n x (Round l m) = or_left (is_up f n x || is_round f n x) (is_beyond n x) (or_right (is_up f n x) (is_round f n x) (and_from _ _ (lt-ltb 0 x l) (le-leb x (ids_round f n) m)))
lies_id f n x (Beyond l m) = or_right (is_up f n x || is_round f n x) (is_beyond n x) (and_from _ _ (lt-ltb 65535 x l) (le-leb x n m))

-- the id that comes next, by cases
pub data Next (f n x : ℕ) : Type 0 where
  NextUp : n < ids_up f → x ≡ suc (f - 1 + n) → Next f n x
  NextRound : ids_up f ≤ n → n < 65535 → x ≡ suc (n - ids_up f) → Next f n x
  NextBeyond : 65535 ≤ n → x ≡ suc n → Next f n x

pub next_is : (f n : ℕ) → Next f n (id_behind f n)
next_is f n = go (nat_lt n (ids_up f)) refl (nat_lt n 65535) refl
  where
    go : (b : Bool) → nat_lt n (ids_up f) ≡ b → (c : Bool) → nat_lt n 65535 ≡ c → Next f n (cond b (suc (f - 1 + n)) (cond c (suc (n - ids_up f)) (suc n)))
    go true e c i = NextUp (ltb-true n (ids_up f) e) refl
    go false e true i = NextRound (ltb-false n (ids_up f) e) (ltb-true n 65535 i) refl
    go false e false i = NextBeyond (ltb-false n 65535 i) refl

-- what a draw changes

next_apart : (f n x : ℕ) → Next f n x → Lies f n x → ⊥
next_apart f n x (NextUp u e) (Up l m) = absurd (omega (arith, u, e, m))
next_apart f n x (NextUp u e) (Round l m) = absurd (omega (arith, u, e, l, m))
next_apart f n x (NextUp u e) (Beyond l m) = absurd (omega (arith, u, l, m))
next_apart f n x (NextRound u w e) (Up l m) = absurd (omega (arith, u, w, e, l, m))
next_apart f n x (NextRound u w e) (Round l m) = absurd (omega (arith, u, w, e, m))
next_apart f n x (NextRound u w e) (Beyond l m) = absurd (omega (arith, w, l, m))
next_apart f n x (NextBeyond u e) (Up l m) = absurd (omega (arith, u, e, l, m))
next_apart f n x (NextBeyond u e) (Round l m) = absurd (omega (arith, u, e, m))
next_apart f n x (NextBeyond u e) (Beyond l m) = absurd (omega (arith, e, m))

next_lies : (f n x : ℕ) → Next f n x → Lies f (suc n) x
next_lies f n x (NextUp u e) = Up (omega (arith, u, e)) (omega (arith, u, e))
next_lies f n x (NextRound u w e) = Round (omega (arith, u, w, e)) (omega (arith, u, w, e))
next_lies f n x (NextBeyond u e) = Beyond (omega (arith, u, e)) (omega (arith, e))

lies_before : (f n x y : ℕ) → Next f n x → y ≢ x → Lies f (suc n) y → Lies f n y
lies_before f n x y (NextUp u e) q (Up l m) = Up l (omega (arith, u, e, q, l, m))
lies_before f n x y (NextUp u e) q (Round l m) = absurd (omega (arith, u, l, m))
lies_before f n x y (NextUp u e) q (Beyond l m) = absurd (omega (arith, u, l, m))
lies_before f n x y (NextRound u w e) q (Up l m) = Up l (omega (arith, u, m))
lies_before f n x y (NextRound u w e) q (Round l m) = Round l (omega (arith, u, w, e, q, m))
lies_before f n x y (NextRound u w e) q (Beyond l m) = absurd (omega (arith, w, l, m))
lies_before f n x y (NextBeyond u e) q (Up l m) = Up l (omega (arith, u, m))
lies_before f n x y (NextBeyond u e) q (Round l m) = Round l (omega (arith, u, m))
lies_before f n x y (NextBeyond u e) q (Beyond l m) = Beyond l (omega (arith, e, q, m))

lies_behind : (f n y : ℕ) → Lies f n y → Lies f (suc n) y
lies_behind f n y (Up l m) = Up l (omega (arith, m))
lies_behind f n y (Round l m) = Round l (omega (arith, m))
lies_behind f n y (Beyond l m) = Beyond l (omega (arith, m))

-- the next id isn't drawn
pub next_new : (f n : ℕ) → is_id_of f n (id_behind f n) ≡ false
next_new f n = false_from_ne_true (is_id_of f n (id_behind f n)) (λ h. next_apart f n (id_behind f n) (next_is f n) (id_lies f n (id_behind f n) h))

-- it is, behind the draw
pub next_drawn : (f n : ℕ) → is_id_of f (suc n) (id_behind f n) ≡ true
next_drawn f n = lies_id f (suc n) (id_behind f n) (next_lies f n (id_behind f n) (next_is f n))

-- whatever else is drawn then was before
pub drawn_before : (f n x : ℕ) → x ≢ id_behind f n → is_id_of f (suc n) x ≡ true → is_id_of f n x ≡ true
drawn_before f n x q h = lies_id f n x (lies_before f n (id_behind f n) x (next_is f n) q (id_lies f (suc n) x h))

-- and stays so
pub drawn_behind : (f n x : ℕ) → is_id_of f n x ≡ true → is_id_of f (suc n) x ≡ true
drawn_behind f n x h = lies_id f (suc n) x (lies_behind f n x (id_lies f n x h))

pub undrawn_before : (f n x : ℕ) → is_id_of f (suc n) x ≡ false → is_id_of f n x ≡ false
undrawn_before f n x h = false_from_ne_true (is_id_of f n x) (λ p. true≢false (sym (drawn_behind f n x p) ∙ h))

-- the other ids are those before
pub drawn_other : (f n x : ℕ) → x ≢ id_behind f n → is_id_of f (suc n) x ≡ is_id_of f n x
drawn_other f n x q = go (is_id_of f n x) refl
  where
    go : (b : Bool) → is_id_of f n x ≡ b → is_id_of f (suc n) x ≡ b
    go true h = drawn_behind f n x h
    go false h = false_from_ne_true (is_id_of f (suc n) x) (λ p. true≢false (sym (drawn_before f n x q p) ∙ h))

-- an id that isn't drawn is no drawn one
pub drawn_not : (f n k x : ℕ) → is_id_of f n k ≡ false → is_id_of f n x ≡ true → k ≢ x
drawn_not f n k x h d q = true≢false (sym d ∙ subst (λ z. is_id_of f n z ≡ false) q h)

-- an id that isn't drawn behind the draw is another one than the next
pub undrawn_other : (f n x : ℕ) → is_id_of f (suc n) x ≡ false → x ≢ id_behind f n
undrawn_other f n x h = drawn_not f (suc n) x (id_behind f n) h (next_drawn f n)

-- an id that is drawn is another one than the next
pub drawn_apart : (f n x : ℕ) → is_id_of f n x ≡ true → x ≢ id_behind f n
drawn_apart f n x h q = drawn_not f n (id_behind f n) x (next_new f n) h (sym q)

-- no id is 0, and none of the first 65,535 above 65,535

pub drawn_some : (f n x : ℕ) → is_id_of f n x ≡ true → x ≢ 0
drawn_some f n x h q = go (id_lies f n x h)
  where
    go : Lies f n x → ⊥
    go (Up l m) = absurd (omega (arith, q, l))
    go (Round l m) = absurd (omega (arith, q, l))
    go (Beyond l m) = absurd (omega (arith, q, l))

pub zero_undrawn : (f n : ℕ) → is_id_of f n 0 ≡ false
zero_undrawn f n = false_from_ne_true (is_id_of f n 0) (λ h. drawn_some f n 0 h refl)

pub drawn_low : (f n x : ℕ) → n ≤ 65535 → is_id_of f n x ≡ true → x ≤ 65535
drawn_low f n x k h = go (id_lies f n x h)
  where
    go : Lies f n x → x ≤ 65535
    go (Up l m) = omega (arith, l, m)
    go (Round l m) = omega (arith, m)
    go (Beyond l m) = omega (arith, k, m)

-- at first none is drawn
pub none_drawn : (f x : ℕ) → is_id_of f 0 x ≡ false
none_drawn f x = false_from_ne_true (is_id_of f 0 x) (λ h. go (id_lies f 0 x h))
  where
    go : Lies f 0 x → ⊥
    go (Up l m) = absurd (omega (arith, l, m))
    go (Round l m) = absurd (omega (arith, l, m))
    go (Beyond l m) = absurd (omega (arith, l, m))

pub next_some : (f n : ℕ) → id_behind f n ≢ 0
next_some f n = drawn_some f (suc n) (id_behind f n) (next_drawn f n)

pub next_low : (f n : ℕ) → n < 65535 → id_behind f n ≤ 65535
next_low f n l = drawn_low f (suc n) (id_behind f n) (omega (arith, l)) (next_drawn f n)

-- 0 and the ids that are drawn

pub known_zero : (t : Table) → is_known t 0 ≡ true
known_zero t = refl

pub drawn_known : (t : Table) (x : ℕ) → is_drawn t x ≡ true → is_known t x ≡ true
drawn_known t x h = or_right (nat_eq x 0) (is_drawn t x) h

pub known_drawn : (t : Table) (x : ℕ) → x ≢ 0 → is_known t x ≡ true → is_drawn t x ≡ true
known_drawn t x n h = ⊎_elim {C = is_drawn t x ≡ true} (λ q. absurd (n (eqb-true x 0 q))) (λ q. q) (or_cases (nat_eq x 0) (is_drawn t x) h)

pub known_stays : (t v : Table) (x : ℕ) → IdsStay t v → is_known t x ≡ true → is_known v x ≡ true
known_stays t v x s h =
    ⊎_elim {C = is_known v x ≡ true} (λ q. or_left (nat_eq x 0) (is_drawn v x) q) (λ q. drawn_known v x (s x q)) (or_cases (nat_eq x 0) (is_drawn t x) h)

-- the next id is none of them
pub known_apart : (t : Table) (x : ℕ) → is_known t x ≡ true → x ≢ next_id t
known_apart t x h q =
    ⊎_elim {C = ⊥} (λ e. next_some t.first t.drawn (sym q ∙ eqb-true x 0 e)) (λ e. drawn_apart t.first t.drawn x e q) (or_cases (nat_eq x 0) (is_drawn t x) h)

pub next_unknown : (t : Table) → is_known t (next_id t) ≡ false
next_unknown t = false_from_ne_true (is_known t (next_id t)) (λ h. known_apart t (next_id t) h refl)

pub known_not : (t : Table) (x y : ℕ) → is_known t x ≡ false → is_known t y ≡ true → y ≢ x
known_not t x y h k q = true≢false (sym k ∙ subst (λ z. is_known t z ≡ false) (sym q) h)

-- an id is drawn or not
pub drawn_or : (t : Table) (x : ℕ) → (is_drawn t x ≡ false) ⊎ (is_drawn t x ≡ true)
drawn_or t x = go (is_drawn t x)
  where
    go : (b : Bool) → (b ≡ false) ⊎ (b ≡ true)
    go true = inr refl
    go false = inl refl

pub none_left : (t : Table) (x : ℕ) → is_drawn t x ≡ true → is_drawn t x ≡ false → ⊥
none_left t x h q = true≢false (sym h ∙ q)

pub undrawn_earlier : (t v : Table) (x : ℕ) → IdsStay t v → is_drawn v x ≡ false → is_drawn t x ≡ false
undrawn_earlier t v x s h = false_from_ne_true (is_drawn t x) (λ q. none_left v x (s x q) h)

-- an earlier table's ids are other ones than the next
pub next_later : (t v : Table) → IdsStay t v → is_drawn t (next_id v) ≡ false
next_later t v s = undrawn_earlier t v (next_id v) s (next_new v.first v.drawn)

-- the ids one behind the other

pub behind_drawn : (f n k : ℕ) → k < n → is_id_of f n (id_behind f k) ≡ true
behind_drawn f zero k l = absurd (omega (arith, l))
behind_drawn f (suc n) k l =
    ⊎_elim {C = is_id_of f (suc n) (id_behind f k) ≡ true}
    (λ b. drawn_behind f n (id_behind f k) (behind_drawn f n k b))
    (λ b. let i : k ≡ n = omega (arith, b, l) in subst (λ z. is_id_of f (suc n) (id_behind f z) ≡ true) (sym i) (next_drawn f n))
    (cases_lt k n)

-- which draw it was
pub record DrawnAs (f n x : ℕ) : Type 0 where
  pub behind : ℕ
  pub before : behind < n
  pub is : id_behind f behind ≡ x

pub drawn_as : (f n x : ℕ) → is_id_of f n x ≡ true → DrawnAs f n x
drawn_as f zero x h = absurd (true≢false (sym h ∙ none_drawn f x))
drawn_as f (suc n) x h = go (nat_eq x (id_behind f n)) refl (drawn_as f n x)
  where
    go : (b : Bool) → nat_eq x (id_behind f n) ≡ b → (is_id_of f n x ≡ true → DrawnAs f n x) → DrawnAs f (suc n) x
    go true e ih = record { behind = n; before = omega arith; is = sym (eqb-true x (id_behind f n) e) }
    go false e ih = (let o : DrawnAs f n x = ih (drawn_before f n x (eqb-false x (id_behind f n) e) h) in record { behind = o.behind; before = (let l : o.behind < n = o.before in omega (arith, l)); is = o.is })

-- no id comes twice
pub ids_apart : (f m n : ℕ) → m ≢ n → id_behind f m ≢ id_behind f n
ids_apart f m n d q =
    ⊎_elim {C = ⊥}
    (λ l. drawn_apart f n (id_behind f m) (behind_drawn f n m l) q)
    (λ l. drawn_apart f m (id_behind f n) (behind_drawn f m n (omega (arith, l, d))) (sym q))
    (cases_lt m n)

first_by : (f x : ℕ) → 1 ≤ f → f ≤ 65535 → Next f 0 x → x ≡ f
first_by f x l m (NextUp u e) = omega (arith, l, m, u, e)
first_by f x l m (NextRound u w e) = absurd (omega (arith, m, u))
first_by f x l m (NextBeyond u e) = absurd (omega (arith, u))

pub first_is : (f : ℕ) → 1 ≤ f → f ≤ 65535 → id_behind f 0 ≡ f
first_is f l m = first_by f (id_behind f 0) l m (next_is f 0)

next_by : (f n x y : ℕ) → 1 ≤ f → f ≤ 65535 → n + 1 < 65535 → Next f n x → Next f (suc n) y → y ≡ cond (nat_eq x 65535) 1 (suc x)
next_by f n x y l m o a b = go (nat_eq x 65535) refl a b
  where
    go : (c : Bool) → nat_eq x 65535 ≡ c → Next f n x → Next f (suc n) y → y ≡ cond c 1 (suc x)
    go true q (NextUp u e) (NextUp u' e') = let i : x ≡ 65535 = eqb-true x 65535 q in absurd (omega (arith, l, m, u', e, i))
    go true q (NextUp u e) (NextRound u' w' e') = let i : x ≡ 65535 = eqb-true x 65535 q in omega (arith, l, m, u, u', e, e', i)
    go true q (NextUp u e) (NextBeyond u' e') = absurd (omega (arith, o, u'))
    go true q (NextRound u w e) b = let i : x ≡ 65535 = eqb-true x 65535 q in absurd (omega (arith, l, m, u, w, e, i, o))
    go true q (NextBeyond u e) b = absurd (omega (arith, o, u))
    go false q (NextUp u e) (NextUp u' e') = omega (arith, e, e')
    go false q (NextUp u e) (NextRound u' w' e') = let i : x ≢ 65535 = eqb-false x 65535 q in absurd (omega (arith, l, m, u, u', e, i))
    go false q (NextUp u e) (NextBeyond u' e') = absurd (omega (arith, o, u'))
    go false q (NextRound u w e) (NextUp u' e') = absurd (omega (arith, u, u'))
    go false q (NextRound u w e) (NextRound u' w' e') = omega (arith, u, e, e')
    go false q (NextRound u w e) (NextBeyond u' e') = absurd (omega (arith, o, u'))
    go false q (NextBeyond u e) b = absurd (omega (arith, o, u))

-- 1 comes behind 65,535
pub next_follows : (f n : ℕ) → 1 ≤ f → f ≤ 65535 → n + 1 < 65535 → id_behind f (suc n) ≡ cond (nat_eq (id_behind f n) 65535) 1 (suc (id_behind f n))
next_follows f n l m o = next_by f n (id_behind f n) (id_behind f (suc n)) l m o (next_is f n) (next_is f (suc n))
