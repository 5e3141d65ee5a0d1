-- The places of the grants.
use Rattle.std.proofs.Common.{◌≡◌, ◌≢◌, ℕ, zero, suc, ◌+◌, ◌-◌, ◌<◌, ◌⊎◌, inl, inr, refl, sym, ap, ap₂, ◌∙◌, subst, arith, Bool, true, false, nat_eq, eqb-true, List, [], ◌∷◌, ◌++◌, length, Option, Some, None, slice_set}
use Rattle.std.specs.Prelude.{slice_get, Result, Ok, Err, OnOk}
use Rattle.std.specs.List.{flat_map}
use Rattle.std.proofs.lemmas.Bool.{eqb-false}
use Rattle.lat_machines.specs.values.Keys as keys
use Rattle.lat_machines.specs.server.Queue.{QueueEvent, Request, records, LegalQueue}
use Rattle.lat_machines.specs.server.Records as machine
use Rattle.lat_machines.specs.server.Records.{grants_of, grant_of, record_at}
use Rattle.lat_base.specs.declared.memory.Memory.{Memory}
use Rattle.lat_queue.specs.Histories.{key_shown, record_shown}
use Rattle.lat_queue.specs.declared.key.Key.{Key}
use Rattle.lat_queue.specs.declared.record.Record.{Record}
use Rattle.lat_replay.specs.Places.{Holds, SameKeys, IsPut, Places}
use Rattle.lat_replay.proofs.Granted.{at_in, in_at, Granted, granted_at, grant_is}

-- one empty place more

more_back : (xs : List (Option Key)) (i : ℕ) (k : Key) → Holds (xs ++ None ∷ []) i k → Holds xs i k
more_back [] zero k h = let z : ⊥ = cc in absurd z
more_back [] (suc i) k h = h
more_back (x ∷ xs) zero k h = h
more_back (x ∷ xs) (suc i) k h = more_back xs i k h

more_stay : (xs : List (Option Key)) (i : ℕ) (k : Key) → Holds xs i k → Holds (xs ++ None ∷ []) i k
more_stay [] i k h = let z : ⊥ = cc in absurd z
more_stay (x ∷ xs) zero k h = h
more_stay (x ∷ xs) (suc i) k h = more_stay xs i k h

pub same_none : (xs : List (Option Key)) → SameKeys xs xs
same_none xs = record { back = λ i k h. h; stay = λ i k h. h }

pub same_more : (xs ys : List (Option Key)) → SameKeys xs ys → SameKeys xs (ys ++ None ∷ [])
same_more xs ys s = record { back = λ i k h. s.back i k (more_back ys i k h); stay = λ i k h. more_stay ys i k (s.stay i k h) }

-- a key more

set_here : (xs : List (Option Key)) (i : ℕ) (key : Key) → i < length xs → Holds (slice_set xs i (Some key)) i key
set_here [] i key l = absurd (omega (arith, l))
set_here (x ∷ xs) zero key l = refl
set_here (x ∷ xs) (suc i) key l = set_here xs i key (omega (arith, l))

set_back : (xs : List (Option Key)) (i : ℕ) (key : Key) → i < length xs → (j : ℕ) (k : Key) → Holds (slice_set xs i (Some key)) j k → ((j ≡ i) × (k ≡ key)) ⊎ Holds xs j k
set_back [] i key l j k h = absurd (omega (arith, l))
set_back (x ∷ xs) zero key l zero k h = let e : k ≡ key = cc in inl (refl, e)
set_back (x ∷ xs) zero key l (suc j) k h = inr h
set_back (x ∷ xs) (suc i) key l zero k h = inr h
set_back (x ∷ xs) (suc i) key l (suc j) k h = turn (set_back xs i key (omega (arith, l)) j k h)
  where
    turn : ((j ≡ i) × (k ≡ key)) ⊎ Holds xs j k → ((suc j ≡ suc i) × (k ≡ key)) ⊎ Holds xs j k
    turn (inl p) = inl (ap suc p.0, p.1)
    turn (inr p) = inr p

set_stay : (xs : List (Option Key)) (i : ℕ) (key : Key) → (j : ℕ) (k : Key) → Holds xs j k → (other : Key) × Holds (slice_set xs i (Some key)) j other
set_stay [] i key j k h = let z : ⊥ = cc in absurd z
set_stay (x ∷ xs) zero key zero k h = (key, refl)
set_stay (x ∷ xs) zero key (suc j) k h = (k, h)
set_stay (x ∷ xs) (suc i) key zero k h = (k, h)
set_stay (x ∷ xs) (suc i) key (suc j) k h = set_stay xs i key j k h

pub put_in : (xs ys : List (Option Key)) (i : ℕ) (key : Key) → SameKeys xs ys → i < length ys → IsPut i key xs (slice_set ys i (Some key))
put_in xs ys i key s l = record {
  here = set_here ys i key l;
  back = λ j k h. turn j k (set_back ys i key l j k h);
  stay = λ j k h. set_stay ys i key j k (s.stay j k h);
}
  where
    turn : (j : ℕ) (k : Key) → ((j ≡ i) × (k ≡ key)) ⊎ Holds ys j k → ((j ≡ i) × (k ≡ key)) ⊎ Holds xs j k
    turn j k (inl p) = inl p
    turn j k (inr p) = inr (s.back j k p)

-- a record more

record Shown (q : List QueueEvent) (n : ℕ) (request : Record) : Type 0 where
  record_is : Request
  there : slice_get (records q) n ≡ Some record_is
  key : record_is.key ≡ key_shown request.key
  grant : grant_of record_is.key q ≡ request.grant

shown_at : (q : List QueueEvent) (n : ℕ) (request : Record) → record_at n q ≡ Some (record_shown request) → Shown q n request
shown_at q n request e = go (slice_get (records q) n) refl e
  where
    go : (o : Option Request) → slice_get (records q) n ≡ o → ◌≡◌ {A = Option machine.Record} (elim o [ None ↦ None | Some r ↦ Some (machine.shown q r) ]) (Some (record_shown request)) → Shown q n request
    go None t e = let z : ⊥ = cc in absurd z
    go (Some r) t e =
        let s : machine.shown q r ≡ record_shown request = cc in
        record { record_is = r; there = t; key = ap (λ (z : machine.Record). z.key) s; grant = ap (λ (z : machine.Record). z.grant) s }

-- it is the new one, or one of those before
last_or : (j n : ℕ) → j < n + 1 → (j ≡ n) ⊎ (j < n)
last_or j n l = go (nat_eq j n) refl
  where
    go : (b : Bool) → nat_eq j n ≡ b → (j ≡ n) ⊎ (j < n)
    go true q = inl (eqb-true j n q)
    go false q = let d : j ≢ n = eqb-false j n q in let b : j < n = omega (arith, l, d) in inr b

pub placed_more : (q : List QueueEvent) (n i : ℕ) (request : Record) (xs ys : List (Option Key)) → LegalQueue q → record_at n q ≡ Some (record_shown request) → request.grant ≡ Some (suc i) → IsPut i request.key xs ys → Places q n xs → Places q (n + 1) ys
placed_more q n i request xs ys l e g p old = record {
  grants = λ j k h. back j k (p.back j k h);
  placed = λ j m r lt t is. at j m r t is (last_or j n lt);
}
  where
    s : Shown q n request
    s = shown_at q n request e

    own : slice_get (grants_of q) i ≡ Some (key_shown request.key)
    own = grant_is q l s.record_is (at_in (records q) n s.record_is s.there) i (s.grant ∙ g) ∙ ap Some s.key

    back : (j : ℕ) (k : Key) → ((j ≡ i) × (k ≡ request.key)) ⊎ Holds xs j k → slice_get (grants_of q) j ≡ Some (key_shown k)
    back j k (inl a) = ap (slice_get (grants_of q)) a.0 ∙ (own ∙ ap (λ z. Some (key_shown z)) (sym a.1))
    back j k (inr a) = old.grants j k a

    at : (j m : ℕ) (r : Request) → slice_get (records q) j ≡ Some r → grant_of r.key q ≡ Some (suc m) → (j ≡ n) ⊎ (j < n) → (k : Key) × Holds ys m k
    at j m r t is (inr lt) = let o : (k : Key) × Holds xs m k = old.placed j m r lt t is in p.stay m o.0 o.1
    at j m r t is (inl a) =
        let same : Some r ≡ Some s.record_is = sym t ∙ (ap (slice_get (records q)) a ∙ s.there) in
        let one : r ≡ s.record_is = cc in
        let both : Some (suc m) ≡ Some (suc i) = sym is ∙ (ap (λ (z : Request). grant_of z.key q) one ∙ (s.grant ∙ g)) in
        let at_i : suc m ≡ suc i = cc in
        let m_is : m ≡ i = omega (arith, at_i) in
        (request.key, subst (λ z. Holds ys z request.key) (sym m_is) p.here)

-- one without a grant
pub placed_none : (q : List QueueEvent) (n : ℕ) (request : Record) (xs : List (Option Key)) → record_at n q ≡ Some (record_shown request) → ((i : ℕ) → request.grant ≡ Some (suc i) → ⊥) → Places q n xs → Places q (n + 1) xs
placed_none q n request xs e none old = record {
  grants = old.grants;
  placed = λ j m r lt t is. at j m r t is (last_or j n lt);
}
  where
    s : Shown q n request
    s = shown_at q n request e

    at : (j m : ℕ) (r : Request) → slice_get (records q) j ≡ Some r → grant_of r.key q ≡ Some (suc m) → (j ≡ n) ⊎ (j < n) → (k : Key) × Holds xs m k
    at j m r t is (inr lt) = old.placed j m r lt t is
    at j m r t is (inl a) =
        let same : Some r ≡ Some s.record_is = sym t ∙ (ap (slice_get (records q)) a ∙ s.there) in
        let one : r ≡ s.record_is = cc in
        absurd (none m (sym s.grant ∙ (sym (ap (λ (z : Request). grant_of z.key q) one) ∙ is)))

pub placed_no_more : (q : List QueueEvent) → Places q 0 []
placed_no_more q = record {
  grants = λ i k h. let z : ⊥ = cc in absurd z;
  placed = λ j i r l t is. absurd (omega (arith, l));
}

-- behind the last record the places hold all grants, in order

pub record Filled (gs : List keys.Key) (places : List (Option Key)) : Type 0 where
  pub grants : (i : ℕ) (k : Key) → Holds places i k → slice_get gs i ≡ Some (key_shown k)
  pub filled : (i : ℕ) (g : keys.Key) → slice_get gs i ≡ Some g → (k : Key) × Holds places i k

pub all_placed : (q : List QueueEvent) (n : ℕ) (places : List (Option Key)) → LegalQueue q → record_at n q ≡ None → Places q n places → Filled (grants_of q) places
all_placed q n places l e p = record {
  grants = p.grants;
  filled = λ i g t.
      let a : Granted q i g = granted_at q l i g t in
      let j : (j : ℕ) × (slice_get (records q) j ≡ Some a.request) = in_at (records q) a.request a.there in
      p.placed j.0 i a.request (before (records q) n j.0 a.request past j.1) j.1 a.number;
}
  where
    past : slice_get (records q) n ≡ None
    past = go (slice_get (records q) n) e
      where
        go : (o : Option Request) → ◌≡◌ {A = Option machine.Record} (elim o [ None ↦ None | Some r ↦ Some (machine.shown q r) ]) None → o ≡ None
        go None e = refl
        go (Some r) e = let z : ⊥ = cc in absurd z

    before : (xs : List Request) (n j : ℕ) (r : Request) → slice_get xs n ≡ None → slice_get xs j ≡ Some r → j < n
    before [] n j r a b = let z : ⊥ = cc in absurd z
    before (x ∷ xs) zero j r a b = let z : ⊥ = cc in absurd z
    before (x ∷ xs) (suc n) zero r a b = omega arith
    before (x ∷ xs) (suc n) (suc j) r a b = let l : j < n = before xs n j r a b in omega (arith, l)

pub texts_placed : (text : keys.Key → List ℕ) (slot : Option Key → List ℕ) → (slot None ≡ []) → ((k : Key) → slot (Some k) ≡ text (key_shown k)) → (gs : List keys.Key) (places : List (Option Key)) → Filled gs places → flat_map slot places ≡ flat_map text gs
texts_placed text slot none some [] [] f = refl
texts_placed text slot none some (g ∷ gs) [] f = let a : (k : Key) × Holds [] 0 k = f.filled 0 g refl in let h : Holds [] 0 a.0 = a.1 in let z : ⊥ = cc in absurd z
texts_placed text slot none some [] (None ∷ ps) f = ap₂ (λ a b. a ++ b) none (texts_placed text slot none some [] ps (record { grants = λ i k h. f.grants (suc i) k h; filled = λ i g h. let z : ⊥ = cc in absurd z }))
texts_placed text slot none some [] (Some k ∷ ps) f = let e : slice_get [] 0 ≡ Some (key_shown k) = f.grants 0 k refl in let z : ⊥ = cc in absurd z
texts_placed text slot none some (g ∷ gs) (None ∷ ps) f = let a : (k : Key) × Holds (None ∷ ps) 0 k = f.filled 0 g refl in let h : Holds (None ∷ ps) 0 a.0 = a.1 in let z : ⊥ = cc in absurd z
texts_placed text slot none some (g ∷ gs) (Some k ∷ ps) f =
    let e : Some g ≡ Some (key_shown k) = f.grants 0 k refl in
    let same : g ≡ key_shown k = cc in
    ap₂ (λ a b. a ++ b) (some k ∙ ap text (sym same)) (texts_placed text slot none some gs ps (record { grants = λ i j h. f.grants (suc i) j h; filled = λ i j h. f.filled (suc i) j h }))

-- as `put` says it
pub put_more : (o : Result (Unit {0}) Memory) (number : ℕ) (request : Record) (xs ys : List (Option Key)) → request.grant ≡ Some number → 0 < number → OnOk o (IsPut (number - 1) request.key xs ys) → OnOk o ((q : List QueueEvent) (n : ℕ) → LegalQueue q → record_at n q ≡ Some (record_shown request) → Places q n xs → Places q (n + 1) ys)
put_more (Ok u) number request xs ys g p put = λ q n l e old. placed_more q n (number - 1) request xs ys l e (g ∙ ap Some back) put old
  where
    back : number ≡ suc (number - 1)
    back = omega (arith, p)
put_more (Err e) number request xs ys g p put = tt
