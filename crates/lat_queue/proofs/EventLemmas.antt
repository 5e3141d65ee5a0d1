-- One event more at the end of a history.
use Rattle.std.proofs.Common.{◌≡◌, ℕ, suc, ◌+◌, ◌<◌, arith, refl, sym, ap, ap₂, ◌∙◌, Bool, true, false, not, cond, ◌||◌, List, [], ◌∷◌, ◌++◌, map, length, filter, Some, None, find, true≢false}
use Rattle.std.specs.List.{list_any}
use Rattle.std.proofs.lemmas.List.{append-nil}
use Rattle.lat_machines.specs.values.Names.{Name}
use Rattle.lat_machines.specs.values.Notices.{Kept}
use Rattle.lat_machines.specs.values.Keys.{Key, same_key}
use Rattle.lat_machines.specs.server.Queue.{QueueEvent, Asks, Cancels, Grants, Finishes, Request, first_asks, is_overfull, records}
use Rattle.lat_machines.specs.server.Records.{grants_of, place_among, record_of}
use Rattle.lat_queue.proofs.KeyLemmas.{key_turn, key_left, key_right}

abbrev pub extend : QueueEvent → Request → Request
extend e r = record r { later = r.later ++ e ∷ [] }

-- first asks

abbrev seen_after : List Key → List QueueEvent → List Key
seen_after seen [] = seen
seen_after seen (Asks k from service answer ∷ h) = cond (list_any (same_key k) seen) (seen_after seen h) (seen_after (k ∷ seen) h)
seen_after seen (Cancels k ∷ h) = seen_after seen h
seen_after seen (Grants k s ∷ h) = seen_after seen h
seen_after seen (Finishes k ∷ h) = seen_after seen h

asks_more : (seen : List Key) (h : List QueueEvent) (e : QueueEvent) → first_asks seen (h ++ e ∷ []) ≡ map (extend e) (first_asks seen h) ++ first_asks (seen_after seen h) (e ∷ [])
asks_more seen [] e = refl
asks_more seen (Asks k from service answer ∷ h) e = by (list_any (same_key k) seen) (asks_more seen h e) (asks_more (k ∷ seen) h e)
  where
    by : (b : Bool) → first_asks seen (h ++ e ∷ []) ≡ map (extend e) (first_asks seen h) ++ first_asks (seen_after seen h) (e ∷ []) → first_asks (k ∷ seen) (h ++ e ∷ []) ≡ map (extend e) (first_asks (k ∷ seen) h) ++ first_asks (seen_after (k ∷ seen) h) (e ∷ [])
        → cond b (first_asks seen (h ++ e ∷ [])) (record { key = k; from = from; service = service; answer = answer; later = h ++ e ∷ [] } ∷ first_asks (k ∷ seen) (h ++ e ∷ []))
        ≡ map (extend e) (cond b (first_asks seen h) (record { key = k; from = from; service = service; answer = answer; later = h } ∷ first_asks (k ∷ seen) h)) ++ first_asks (cond b (seen_after seen h) (seen_after (k ∷ seen) h)) (e ∷ [])
    by true p q = p
    by false p q = ap (λ z. record { key = k; from = from; service = service; answer = answer; later = h ++ e ∷ [] } ∷ z) q
asks_more seen (Cancels k ∷ h) e = asks_more seen h e
asks_more seen (Grants k s ∷ h) e = asks_more seen h e
asks_more seen (Finishes k ∷ h) e = asks_more seen h e

any_false : (b : Bool) → b ≡ b || false
any_false true = refl
any_false false = refl

seen_is : (k : Key) (seen : List Key) (h : List QueueEvent) → list_any (same_key k) (seen_after seen h) ≡ list_any (same_key k) seen || list_any (λ (r : Request). same_key r.key k) (first_asks seen h)
seen_is k seen [] = any_false (list_any (same_key k) seen)
seen_is k seen (Asks j from service answer ∷ h) = by (list_any (same_key j) seen) (seen_is k seen h) (seen_is k (j ∷ seen) h)
  where
    swap : (a b c d : Bool) → a ≡ b → (a || c) || d ≡ c || (b || d)
    swap true true true d q = refl
    swap true true false d q = refl
    swap true false c d q = absurd (true≢false q)
    swap false true c d q = absurd (true≢false (sym q))
    swap false false true d q = refl
    swap false false false d q = refl

    by : (b : Bool) → list_any (same_key k) (seen_after seen h) ≡ list_any (same_key k) seen || list_any (λ (r : Request). same_key r.key k) (first_asks seen h) → list_any (same_key k) (seen_after (j ∷ seen) h) ≡ list_any (same_key k) (j ∷ seen) || list_any (λ (r : Request). same_key r.key k) (first_asks (j ∷ seen) h)
        → list_any (same_key k) (cond b (seen_after seen h) (seen_after (j ∷ seen) h)) ≡ list_any (same_key k) seen || list_any (λ (r : Request). same_key r.key k) (cond b (first_asks seen h) (record { key = j; from = from; service = service; answer = answer; later = h } ∷ first_asks (j ∷ seen) h))
    by true p q = p
    by false p q = q ∙ swap (same_key k j) (same_key j k) (list_any (same_key k) seen) (list_any (λ (r : Request). same_key r.key k) (first_asks (j ∷ seen) h)) (key_turn k j)
seen_is k seen (Cancels j ∷ h) = seen_is k seen h
seen_is k seen (Grants j s ∷ h) = seen_is k seen h
seen_is k seen (Finishes j ∷ h) = seen_is k seen h

-- records

abbrev full_not : Request → Bool
full_not r = not (is_overfull r.answer)

filter_extend : (e : QueueEvent) (xs ys : List Request) → filter full_not (map (extend e) xs ++ ys) ≡ map (extend e) (filter full_not xs) ++ filter full_not ys
filter_extend e [] ys = refl
filter_extend e (x ∷ xs) ys = by (full_not x) (filter_extend e xs ys)
  where
    by : (b : Bool) → filter full_not (map (extend e) xs ++ ys) ≡ map (extend e) (filter full_not xs) ++ filter full_not ys → cond b (extend e x ∷ filter full_not (map (extend e) xs ++ ys)) (filter full_not (map (extend e) xs ++ ys)) ≡ map (extend e) (cond b (x ∷ filter full_not xs) (filter full_not xs)) ++ filter full_not ys
    by true q = ap (λ z. extend e x ∷ z) q
    by false q = q

-- how the records come out of one event more
pub record Grows (h : List QueueEvent) (e : QueueEvent) (new : List Request) : Type 0 where
  pub are : records (h ++ e ∷ []) ≡ map (extend e) (records h) ++ new
  pub room : length (records h) < 65536 → records h ≡ first_asks [] h → records (h ++ e ∷ []) ≡ first_asks [] (h ++ e ∷ [])

grows : (h : List QueueEvent) (e : QueueEvent) (new : List Request) → first_asks (seen_after [] h) (e ∷ []) ≡ new → filter full_not new ≡ new → Grows h e new
grows h e new q f =
    let all : first_asks [] (h ++ e ∷ []) ≡ map (extend e) (first_asks [] h) ++ new = asks_more [] h e ∙ ap (λ z. map (extend e) (first_asks [] h) ++ z) q in
    let rs : records (h ++ e ∷ []) ≡ map (extend e) (records h) ++ new = ap (filter full_not) all ∙ filter_extend e (first_asks [] h) new ∙ ap (λ z. map (extend e) (records h) ++ z) f in
    record { are = rs; room = λ l s. rs ∙ ap (λ z. map (extend e) z ++ new) s ∙ sym all }

pub grows_cancel : (h : List QueueEvent) (k : Key) → Grows h (Cancels k) []
grows_cancel h k = grows h (Cancels k) [] refl refl

pub grows_grant : (h : List QueueEvent) (k : Key) (s : Name) → Grows h (Grants k s) []
grows_grant h k s = grows h (Grants k s) [] refl refl

pub grows_finish : (h : List QueueEvent) (k : Key) → Grows h (Finishes k) []
grows_finish h k = grows h (Finishes k) [] refl refl

-- a known key

any_found : (k : Key) (xs : List Request) (r : Request) → find (λ (x : Request). same_key x.key k) (filter full_not xs) ≡ Some r → list_any (λ (x : Request). same_key x.key k) xs ≡ true
any_found k [] r q = let z : ⊥ = cc in absurd z
any_found k (x ∷ xs) r q = by (full_not x) (same_key x.key k) refl (any_found k xs r) q
  where
    by : (a b : Bool) → same_key x.key k ≡ b → (find (λ (x : Request). same_key x.key k) (filter full_not xs) ≡ Some r → list_any (λ (x : Request). same_key x.key k) xs ≡ true)
        → find (λ (x : Request). same_key x.key k) (cond a (x ∷ filter full_not xs) (filter full_not xs)) ≡ Some r → b || list_any (λ (x : Request). same_key x.key k) xs ≡ true
    by a true i m q = refl
    by true false i m q = m (sym (ap (λ z. cond z (Some x) (find (λ (x : Request). same_key x.key k) (filter full_not xs))) i) ∙ q)
    by false false i m q = m q

pub grows_again : (h : List QueueEvent) (k : Key) (from : ℕ) (s : Name) (a : Kept) (r : Request) → record_of k h ≡ Some r → Grows h (Asks k from s a) []
grows_again h k from s a r q =
    grows h (Asks k from s a) [] (ap (λ z. cond z [] (record { key = k; from = from; service = s; answer = a; later = [] } ∷ [])) (seen_is k [] h ∙ any_found k (first_asks [] h) r q)) refl

-- a new key that finds no room
pub full_asks : (h : List QueueEvent) (k : Key) (from : ℕ) (s : Name) (a : Kept) → is_overfull a ≡ true → records (h ++ Asks k from s a ∷ []) ≡ map (extend (Asks k from s a)) (records h)
full_asks h k from s a o =
    let new : Request = record { key = k; from = from; service = s; answer = a; later = [] } in
    ap (filter full_not) (asks_more [] h (Asks k from s a)) ∙ filter_extend (Asks k from s a) (first_asks [] h) (first_asks (seen_after [] h) (Asks k from s a ∷ []))
    ∙ ap (λ z. map (extend (Asks k from s a)) (records h) ++ z) (none (list_any (same_key k) (seen_after [] h))) ∙ append-nil (map (extend (Asks k from s a)) (records h))
  where
    none : (b : Bool) → filter full_not (cond b [] (record { key = k; from = from; service = s; answer = a; later = [] } ∷ [])) ≡ []
    none true = refl
    none false = ap (λ z. cond (not z) (record { key = k; from = from; service = s; answer = a; later = [] } ∷ []) []) o

-- a new key

none_any : (k : Key) (xs : List Request) → find (λ (x : Request). same_key x.key k) xs ≡ None → list_any (λ (x : Request). same_key x.key k) xs ≡ false
none_any k [] q = refl
none_any k (x ∷ xs) q = by (same_key x.key k) (none_any k xs) q
  where
    by : (b : Bool) → (find (λ (x : Request). same_key x.key k) xs ≡ None → list_any (λ (x : Request). same_key x.key k) xs ≡ false) → cond b (Some x) (find (λ (x : Request). same_key x.key k) xs) ≡ None → b || list_any (λ (x : Request). same_key x.key k) xs ≡ false
    by true m q = let z : ⊥ = cc in absurd z
    by false m q = m q

pub grows_new : (h : List QueueEvent) (k : Key) (from : ℕ) (s : Name) (a : Kept) → record_of k h ≡ None → records h ≡ first_asks [] h → is_overfull a ≡ false → Grows h (Asks k from s a) (record { key = k; from = from; service = s; answer = a; later = [] } ∷ [])
grows_new h k from s a q all o =
    let new : Request = record { key = k; from = from; service = s; answer = a; later = [] } in
    let none : find (λ (x : Request). same_key x.key k) (first_asks [] h) ≡ None = ap (find (λ (x : Request). same_key x.key k)) (sym all) ∙ q in
    grows h (Asks k from s a) (new ∷ []) (ap (λ z. cond z [] (new ∷ [])) (seen_is k [] h ∙ none_any k (first_asks [] h) none)) (ap (λ z. cond (not z) (new ∷ []) []) o)

-- what came behind a first ask

pub any_more : (f : QueueEvent → Bool) (xs : List QueueEvent) (e : QueueEvent) → list_any f (xs ++ e ∷ []) ≡ list_any f xs || f e
any_more f [] e = sym (any_false (f e))
any_more f (x ∷ xs) e = by (f x) (any_more f xs e)
  where
    by : (b : Bool) → list_any f (xs ++ e ∷ []) ≡ list_any f xs || f e → b || list_any f (xs ++ e ∷ []) ≡ (b || list_any f xs) || f e
    by true q = refl
    by false q = q

pub any_not_more : (f : QueueEvent → Bool) (xs : List QueueEvent) (e : QueueEvent) → f e ≡ false → list_any f (xs ++ e ∷ []) ≡ list_any f xs
any_not_more f xs e q = any_more f xs e ∙ ap (λ z. list_any f xs || z) q ∙ sym (any_false (list_any f xs))

-- grants

pub grants_more : (h : List QueueEvent) (e : QueueEvent) → grants_of (h ++ e ∷ []) ≡ grants_of h ++ grants_of (e ∷ [])
grants_more [] e = refl
grants_more (Asks k from s a ∷ h) e = grants_more h e
grants_more (Cancels k ∷ h) e = grants_more h e
grants_more (Grants k s ∷ h) e = ap (λ z. k ∷ z) (grants_more h e)
grants_more (Finishes k ∷ h) e = grants_more h e

pub place_other : (k j : Key) (n : ℕ) (gs : List Key) → same_key k j ≡ false → place_among k n (gs ++ j ∷ []) ≡ place_among k n gs
place_other k j n [] q = ap (λ z. cond z (Some n) None) q
place_other k j n (g ∷ gs) q = ap (λ z. cond (same_key k g) (Some n) z) (place_other k j (suc n) gs q)

pub place_own : (k j : Key) (n : ℕ) (gs : List Key) → same_key k j ≡ true → place_among k n gs ≡ None → place_among k n (gs ++ j ∷ []) ≡ Some (n + length gs)
place_own k j n [] q p = ap (λ z. cond z (Some n) None) q ∙ ap Some (let e : n ≡ n + 0 = omega arith in e)
place_own k j n (g ∷ gs) q p = by (same_key k g) (place_own k j (suc n) gs q) p
  where
    by : (b : Bool) → (place_among k (suc n) gs ≡ None → place_among k (suc n) (gs ++ j ∷ []) ≡ Some (suc n + length gs)) → cond b (Some n) (place_among k (suc n) gs) ≡ None → cond b (Some n) (place_among k (suc n) (gs ++ j ∷ [])) ≡ Some (n + suc (length gs))
    by true m p = let z : ⊥ = cc in absurd z
    by false m p = m p ∙ ap Some (let e : suc n + length gs ≡ n + suc (length gs) = omega arith in e)

pub place_some : (k j : Key) (n m : ℕ) (gs : List Key) → place_among k n gs ≡ Some m → place_among k n (gs ++ j ∷ []) ≡ Some m
place_some k j n m [] p = let z : ⊥ = cc in absurd z
place_some k j n m (g ∷ gs) p = by (same_key k g) (place_some k j (suc n) m gs) p
  where
    by : (b : Bool) → (place_among k (suc n) gs ≡ Some m → place_among k (suc n) (gs ++ j ∷ []) ≡ Some m) → cond b (Some n) (place_among k (suc n) gs) ≡ Some m → cond b (Some n) (place_among k (suc n) (gs ++ j ∷ [])) ≡ Some m
    by true i p = p
    by false i p = i p

-- looking for a key

pub find_extend : (k : Key) (e : QueueEvent) (xs : List Request) → find (λ (x : Request). same_key x.key k) (map (extend e) xs) ≡ None → find (λ (x : Request). same_key x.key k) xs ≡ None
find_extend k e [] q = refl
find_extend k e (x ∷ xs) q = by (same_key x.key k) (find_extend k e xs) q
  where
    by : (b : Bool) → (find (λ (x : Request). same_key x.key k) (map (extend e) xs) ≡ None → find (λ (x : Request). same_key x.key k) xs ≡ None) → cond b (Some (extend e x)) (find (λ (x : Request). same_key x.key k) (map (extend e) xs)) ≡ None → cond b (Some x) (find (λ (x : Request). same_key x.key k) xs) ≡ None
    by true m q = let z : ⊥ = cc in absurd z
    by false m q = m q

pub find_front : (k : Key) (xs ys : List Request) → find (λ (x : Request). same_key x.key k) (xs ++ ys) ≡ None → find (λ (x : Request). same_key x.key k) xs ≡ None
find_front k [] ys q = refl
find_front k (x ∷ xs) ys q = by (same_key x.key k) (find_front k xs ys) q
  where
    by : (b : Bool) → (find (λ (x : Request). same_key x.key k) (xs ++ ys) ≡ None → find (λ (x : Request). same_key x.key k) xs ≡ None) → cond b (Some x) (find (λ (x : Request). same_key x.key k) (xs ++ ys)) ≡ None → cond b (Some x) (find (λ (x : Request). same_key x.key k) xs) ≡ None
    by true m q = let z : ⊥ = cc in absurd z
    by false m q = m q

pub find_same : (k j : Key) (xs : List Request) → same_key k j ≡ true → find (λ (x : Request). same_key x.key k) xs ≡ find (λ (x : Request). same_key x.key j) xs
find_same k j [] q = refl
find_same k j (x ∷ xs) q = ap₂ (λ b z. cond b (Some x) z) (key_right x.key k j q) (find_same k j xs q)

pub place_same : (a b : Key) (n : ℕ) (gs : List Key) → same_key a b ≡ true → place_among a n gs ≡ place_among b n gs
place_same a b n [] q = refl
place_same a b n (g ∷ gs) q = ap₂ (λ c z. cond c (Some n) z) (key_left a b g q) (place_same a b (suc n) gs q)
