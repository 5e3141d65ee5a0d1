-- Who waits in a queue isn't changed by an ask that isn't told to wait, or whose key is known, nor by the cancel of a key that
-- doesn't wait.
use Rattle.std.proofs.Common.{◌≡◌, ℕ, refl, sym, ap, ap₂, ◌∙◌, subst, Bool, true, false, not, cond, ◌&&◌, ◌||◌, List, [], ◌∷◌, ◌++◌, map, Option, Some, None, nat_eq, filter, find}
use Rattle.std.specs.List.{list_any}
use Rattle.std.proofs.lemmas.Bool.{and_parts, not-false, true≢false, false≢true}
use Rattle.std.proofs.lemmas.Cmp.{nat_eq_equiv, nat_list_eq_equiv}
use Rattle.std.proofs.lemmas.List.{append-nil}
use Rattle.std.proofs.lemmas.List.Elements.{filter-append}
use Rattle.lat_model.specs.Lists.{Each}
use Rattle.lat_model.proofs.numbers.Net.{each_imp}
use Rattle.lat_machines.specs.values.Names.{Name, folded, same}
use Rattle.lat_machines.specs.values.Notices.{Kept, Waiting, Granted, Cancelled, QueueFull, NoService, RecordsFull, Done}
use Rattle.lat_machines.specs.values.Keys.{Key, same_key}
use Rattle.lat_machines.specs.server.Queue.{QueueEvent, Asks, Cancels, Grants, Finishes, Request, cancels, grants, finishes, first_asks, is_waiting, is_overfull, records, waits, waiting, first}
use Rattle.lat_machines.specs.server.Records.{place_in, waited, kept_now, record_of, kept_for}
use Rattle.lat_machines.proofs.queue.Grants.{extend, distinct_asks, distinct_filter, only_one, any_more}

-- those that wait for each service are the same, but for the event behind them
abbrev pub Still : List QueueEvent → QueueEvent → Type 0
Still h e = (service : Name) → waiting service (h ++ e ∷ []) ≡ map (extend e) (waiting service h)

abbrev kept : Request → Bool
kept r = not (is_overfull r.answer)

abbrev waits_for : Name → Request → Bool
waits_for service r = waits r && same r.service service

abbrev keyed : Key → Request → Bool
keyed k r = same_key r.key k

-- keys

key_congr : (a b c : Key) → same_key a b ≡ true → same_key a c ≡ same_key b c
key_congr a b c q =
    let p : (same a.node b.node ≡ true) × ((nat_eq a.incarnation b.incarnation && nat_eq a.request b.request) ≡ true) = and_parts (same a.node b.node) (nat_eq a.incarnation b.incarnation && nat_eq a.request b.request) q in
    let r : (nat_eq a.incarnation b.incarnation ≡ true) × (nat_eq a.request b.request ≡ true) = and_parts (nat_eq a.incarnation b.incarnation) (nat_eq a.request b.request) p.1 in
    ap₂ (λ x y. x && y) (nat_list_eq_equiv.congr (folded a.node) (folded b.node) (folded c.node) p.0)
    (ap₂ (λ x y. x && y) (nat_eq_equiv.congr a.incarnation b.incarnation c.incarnation r.0) (nat_eq_equiv.congr a.request b.request c.request r.1))

key_turned : (a b : Key) → same_key a b ≡ same_key b a
key_turned a b =
    ap₂ (λ x y. x && y) (nat_list_eq_equiv.symm (folded a.node) (folded b.node)) (ap₂ (λ x y. x && y) (nat_eq_equiv.symm a.incarnation b.incarnation) (nat_eq_equiv.symm a.request b.request))

-- lists

append_none : {A : Type 0} → (xs ys : List A) → ys ≡ [] → xs ++ ys ≡ xs
append_none xs ys q = ap (λ z. xs ++ z) q ∙ append-nil xs

filter_extended : (e : QueueEvent) (test : Request → Bool) (xs : List Request) → Each (λ (x : Request). test (extend e x) ≡ test x) xs → filter test (map (extend e) xs) ≡ map (extend e) (filter test xs)
filter_extended e test [] h = refl
filter_extended e test (x ∷ xs) h = ap (λ b. cond b (extend e x ∷ filter test (map (extend e) xs)) (filter test (map (extend e) xs))) h.0 ∙ go (test x) (filter_extended e test xs h.1)
  where
    go : (b : Bool) → filter test (map (extend e) xs) ≡ map (extend e) (filter test xs) → cond b (extend e x ∷ filter test (map (extend e) xs)) (filter test (map (extend e) xs)) ≡ map (extend e) (cond b (x ∷ filter test xs) (filter test xs))
    go true q = ap (λ z. extend e x ∷ z) q
    go false q = q

all_of : (P : Request → Type 0) (xs : List Request) → ((x : Request) → P x) → Each P xs
all_of P [] f = tt
all_of P (x ∷ xs) f = (f x, all_of P xs f)

-- where the first asks go on with some that don't wait
still_by : (h : List QueueEvent) (e : QueueEvent) (new : List Request) → first_asks [] (h ++ e ∷ []) ≡ map (extend e) (first_asks [] h) ++ new → ((service : Name) → filter (waits_for service) (filter kept new) ≡ []) → Each (λ (x : Request). waits (extend e x) ≡ waits x) (records h) → Still h e
still_by h e new q none same_waits service =
    ap (λ z. filter (waits_for service) (filter kept z)) q
    ∙ (ap (filter (waits_for service)) (filter-append kept (map (extend e) (first_asks [] h)) new ∙ ap (λ z. z ++ filter kept new) (filter_extended e kept (first_asks [] h) (all_of (λ (x : Request). kept (extend e x) ≡ kept x) (first_asks [] h) (λ x. refl))))
    ∙ (filter-append (waits_for service) (map (extend e) (records h)) (filter kept new)
    ∙ (append_none (filter (waits_for service) (map (extend e) (records h))) (filter (waits_for service) (filter kept new)) (none service)
    ∙ filter_extended e (waits_for service) (records h) (each_imp (λ (x : Request). waits (extend e x) ≡ waits x) (λ (x : Request). waits_for service (extend e x) ≡ waits_for service x) (λ x w. ap (λ b. b && same x.service service) w) (records h) same_waits))))

-- an ask

asked : Key → ℕ → Name → Kept → Request
asked k from service a = record { key = k; from = from; service = service; answer = a; later = [] }

abbrev known : Key → List Request → Bool
known k xs = list_any (λ (r : Request). same_key k r.key) xs

asks_more : (seen : List Key) (h : List QueueEvent) (k : Key) (from : ℕ) (service : Name) (a : Kept) → first_asks seen (h ++ Asks k from service a ∷ []) ≡ map (extend (Asks k from service a)) (first_asks seen h) ++ cond (list_any (same_key k) seen || known k (first_asks seen h)) [] (asked k from service a ∷ [])
unfolding asked
asks_more seen [] k from service a = ap (λ b. cond b [] (asked k from service a ∷ [])) (or_none (list_any (same_key k) seen))
  where
    or_none : (b : Bool) → b ≡ b || false
    or_none true = refl
    or_none false = refl
asks_more seen (Asks j f t b ∷ h) k from service a = go (list_any (same_key j) seen) (asks_more seen h k from service a) (asks_more (j ∷ seen) h k from service a)
  where
    e : QueueEvent
    e = Asks k from service a

    older : List QueueEvent → Request
    older later = record { key = j; from = f; service = t; answer = b; later = later }

    turned : (x y z : Bool) → (x || y) || z ≡ y || (x || z)
    turned true true z = refl
    turned true false z = refl
    turned false y z = refl

    new : Bool → List Request
    new n = cond n [] (asked k from service a ∷ [])

    go : (n : Bool) → first_asks seen (h ++ e ∷ []) ≡ map (extend e) (first_asks seen h) ++ new (list_any (same_key k) seen || known k (first_asks seen h)) → first_asks (j ∷ seen) (h ++ e ∷ []) ≡ map (extend e) (first_asks (j ∷ seen) h) ++ new ((same_key k j || list_any (same_key k) seen) || known k (first_asks (j ∷ seen) h)) → cond n (first_asks seen (h ++ e ∷ [])) (older (h ++ e ∷ []) ∷ first_asks (j ∷ seen) (h ++ e ∷ [])) ≡ map (extend e) (cond n (first_asks seen h) (older h ∷ first_asks (j ∷ seen) h)) ++ new (list_any (same_key k) seen || known k (cond n (first_asks seen h) (older h ∷ first_asks (j ∷ seen) h)))
    go true p q = p
    go false p q = ap (λ z. older (h ++ e ∷ []) ∷ z) (q ∙ ap (λ n. map (extend e) (first_asks (j ∷ seen) h) ++ new n) (turned (same_key k j) (list_any (same_key k) seen) (known k (first_asks (j ∷ seen) h))))
asks_more seen (Cancels j ∷ h) k from service a = asks_more seen h k from service a
asks_more seen (Grants j s ∷ h) k from service a = asks_more seen h k from service a
asks_more seen (Finishes j ∷ h) k from service a = asks_more seen h k from service a

-- an ask ends no waiting
ask_waits : (k : Key) (from : ℕ) (service : Name) (a : Kept) (x : Request) → waits (extend (Asks k from service a) x) ≡ waits x
ask_waits k from service a x = ap (λ b. is_waiting x.answer && not b) (any_more (λ e. cancels x.key e || grants x.key e) x.later (Asks k from service a) ∙ or_none (list_any (λ e. cancels x.key e || grants x.key e) x.later))
  where
    or_none : (b : Bool) → b || false ≡ b
    or_none true = refl
    or_none false = refl

ask_still : (h : List QueueEvent) (k : Key) (from : ℕ) (service : Name) (a : Kept) (n : Bool) → known k (first_asks [] h) ≡ n → ((s : Name) → filter (waits_for s) (filter kept (cond n [] (asked k from service a ∷ []))) ≡ []) → Still h (Asks k from service a)
ask_still h k from service a n q none =
    still_by h (Asks k from service a) (cond n [] (asked k from service a ∷ []))
    (asks_more [] h k from service a ∙ ap (λ b. map (extend (Asks k from service a)) (first_asks [] h) ++ cond b [] (asked k from service a ∷ [])) q)
    none (all_of (λ (x : Request). waits (extend (Asks k from service a) x) ≡ waits x) (records h) (ask_waits k from service a))

-- one that isn't told to wait
pub turned_still : (h : List QueueEvent) (k : Key) (from : ℕ) (service : Name) (a : Kept) → is_waiting a ≡ false → Still h (Asks k from service a)
unfolding asked
turned_still h k from service a w = ask_still h k from service a (known k (first_asks [] h)) refl (none (known k (first_asks [] h)))
  where
    one : (s : Name) (b : Bool) → filter (waits_for s) (cond b (asked k from service a ∷ []) []) ≡ []
    one s true = ap (λ n. cond ((n && true) && same service s) (asked k from service a ∷ []) []) w
    one s false = refl

    none : (n : Bool) (s : Name) → filter (waits_for s) (filter kept (cond n [] (asked k from service a ∷ []))) ≡ []
    none true s = refl
    none false s = one s (not (is_overfull a))

-- one whose key is known
find_known : (k : Key) (r : Request) (xs : List Request) → find (keyed k) (filter kept xs) ≡ Some r → known k xs ≡ true
find_known k r [] q = let z : ⊥ = cc in absurd z
find_known k r (x ∷ xs) q = go (kept x) (find_known k r xs) q
  where
    behind : (b : Bool) → known k xs ≡ true → b || known k xs ≡ true
    behind true p = refl
    behind false p = p

    at : (n : Bool) → same_key x.key k ≡ n → (find (keyed k) (filter kept xs) ≡ Some r → known k xs ≡ true) → cond n (Some x) (find (keyed k) (filter kept xs)) ≡ Some r → known k (x ∷ xs) ≡ true
    at true i p q = ap (λ b. b || known k xs) (key_turned k x.key ∙ i)
    at false i p q = behind (same_key k x.key) (p q)

    go : (b : Bool) → (find (keyed k) (filter kept xs) ≡ Some r → known k xs ≡ true) → find (keyed k) (cond b (x ∷ filter kept xs) (filter kept xs)) ≡ Some r → known k (x ∷ xs) ≡ true
    go true p q = at (same_key x.key k) refl p q
    go false p q = behind (same_key k x.key) (p q)

pub known_still : (h : List QueueEvent) (k : Key) (from : ℕ) (service : Name) (a : Kept) (r : Request) → record_of k h ≡ Some r → Still h (Asks k from service a)
known_still h k from service a r q = ask_still h k from service a true (find_known k r (first_asks [] h) q) (λ s. refl)

-- a cancel

cancels_more : (seen : List Key) (h : List QueueEvent) (k : Key) → first_asks seen (h ++ Cancels k ∷ []) ≡ map (extend (Cancels k)) (first_asks seen h)
cancels_more seen [] k = refl
cancels_more seen (Asks j f t b ∷ h) k = go (list_any (same_key j) seen) (cancels_more seen h k) (cancels_more (j ∷ seen) h k)
  where
    e : QueueEvent
    e = Cancels k

    older : List QueueEvent → Request
    older later = record { key = j; from = f; service = t; answer = b; later = later }

    go : (n : Bool) → first_asks seen (h ++ e ∷ []) ≡ map (extend e) (first_asks seen h) → first_asks (j ∷ seen) (h ++ e ∷ []) ≡ map (extend e) (first_asks (j ∷ seen) h) → cond n (first_asks seen (h ++ e ∷ [])) (older (h ++ e ∷ []) ∷ first_asks (j ∷ seen) (h ++ e ∷ [])) ≡ map (extend e) (cond n (first_asks seen h) (older h ∷ first_asks (j ∷ seen) h))
    go true p q = p
    go false p q = ap (λ z. older (h ++ e ∷ []) ∷ z) q
cancels_more seen (Cancels j ∷ h) k = cancels_more seen h k
cancels_more seen (Grants j s ∷ h) k = cancels_more seen h k
cancels_more seen (Finishes j ∷ h) k = cancels_more seen h k

cancels_records : (h : List QueueEvent) (k : Key) → records (h ++ Cancels k ∷ []) ≡ map (extend (Cancels k)) (records h)
cancels_records h k = ap (filter kept) (cancels_more [] h k) ∙ filter_extended (Cancels k) kept (first_asks [] h) (all_of (λ (x : Request). kept (extend (Cancels k) x) ≡ kept x) (first_asks [] h) (λ x. refl))

-- the records with this key don't wait
cancel_still : (h : List QueueEvent) (k : Key) → Each (λ (x : Request). same_key x.key k ≡ true → waits x ≡ false) (records h) → Still h (Cancels k)
cancel_still h k none =
    still_by h (Cancels k) [] (cancels_more [] h k ∙ sym (append_none (map (extend (Cancels k)) (first_asks [] h)) [] refl)) (λ s. refl)
    (each_imp (λ (x : Request). same_key x.key k ≡ true → waits x ≡ false) (λ (x : Request). waits (extend (Cancels k) x) ≡ waits x) same_waits (records h) none)
  where
    same_waits : (x : Request) → (same_key x.key k ≡ true → waits x ≡ false) → waits (extend (Cancels k) x) ≡ waits x
    same_waits x n = ap (λ b. is_waiting x.answer && not b) (any_more (λ e. cancels x.key e || grants x.key e) x.later (Cancels k)) ∙ go (is_waiting x.answer) (list_any (λ e. cancels x.key e || grants x.key e) x.later) (same_key x.key k) n
      where
        go : (a b c : Bool) → (c ≡ true → (a && not b) ≡ false) → (a && not (b || (c || false))) ≡ (a && not b)
        go true true c m = refl
        go true false true m = sym (m refl)
        go true false false m = refl
        go false b c m = refl

-- the record that is found is the only one with its key
find_none : (k : Key) (xs : List Request) → find (keyed k) xs ≡ None → Each (λ (x : Request). same_key x.key k ≡ false) xs
find_none k [] q = tt
find_none k (x ∷ xs) q = go (same_key x.key k) refl (find_none k xs) q
  where
    go : (n : Bool) → same_key x.key k ≡ n → (find (keyed k) xs ≡ None → Each (λ (y : Request). same_key y.key k ≡ false) xs) → cond n (Some x) (find (keyed k) xs) ≡ None → Each (λ (y : Request). same_key y.key k ≡ false) (x ∷ xs)
    go true i p q = let z : ⊥ = cc in absurd z
    go false i p q = (i, p q)

find_first : (k : Key) (xs : List Request) → first (filter (keyed k) xs) ≡ find (keyed k) xs
find_first k [] = refl
find_first k (x ∷ xs) = go (same_key x.key k) (find_first k xs)
  where
    go : (n : Bool) → first (filter (keyed k) xs) ≡ find (keyed k) xs → first (cond n (x ∷ filter (keyed k) xs) (filter (keyed k) xs)) ≡ cond n (Some x) (find (keyed k) xs)
    go true p = refl
    go false p = p

find_keyed : (k : Key) (r : Request) (xs : List Request) → find (keyed k) xs ≡ Some r → same_key r.key k ≡ true
find_keyed k r [] q = let z : ⊥ = cc in absurd z
find_keyed k r (x ∷ xs) q = go (same_key x.key k) refl (find_keyed k r xs) q
  where
    go : (n : Bool) → same_key x.key k ≡ n → (find (keyed k) xs ≡ Some r → same_key r.key k ≡ true) → cond n (Some x) (find (keyed k) xs) ≡ Some r → same_key r.key k ≡ true
    go true i p q = let e : x ≡ r = cc in subst (λ (z : Request). same_key z.key k ≡ true) e i
    go false i p q = p q

find_extended : (e : QueueEvent) (k : Key) (xs : List Request) (r : Request) → find (keyed k) xs ≡ Some r → find (keyed k) (map (extend e) xs) ≡ Some (extend e r)
find_extended e k [] r q = let z : ⊥ = cc in absurd z
find_extended e k (x ∷ xs) r q = go (same_key x.key k) (find_extended e k xs r) q
  where
    go : (n : Bool) → (find (keyed k) xs ≡ Some r → find (keyed k) (map (extend e) xs) ≡ Some (extend e r)) → cond n (Some x) (find (keyed k) xs) ≡ Some r → cond n (Some (extend e x)) (find (keyed k) (map (extend e) xs)) ≡ Some (extend e r)
    go true p q = let i : x ≡ r = cc in ap (λ z. Some (extend e z)) i
    go false p q = p q

-- the cancel of a key whose record doesn't wait, and what is kept of it then

module _ (h : List QueueEvent) (k : Key) (r : Request) (f : record_of k h ≡ Some r) (w : waits r ≡ false) where
  pub resting_still : Still h (Cancels k)
  resting_still =
      let one : Each (λ (x : Request). same_key x.key r.key ≡ true → x ≡ r) (records h) = only_one (keyed k) (records h) r (distinct_filter kept (first_asks [] h) (distinct_asks [] h)) (find_first k (records h) ∙ f) in
      cancel_still h k (each_imp (λ (x : Request). same_key x.key r.key ≡ true → x ≡ r) (λ (x : Request). same_key x.key k ≡ true → waits x ≡ false) (λ x g s. ap waits (g (key_congr x.key k r.key s ∙ (key_turned k r.key ∙ find_keyed k r (records h) f))) ∙ w) (records h) one)

  there : record_of k (h ++ Cancels k ∷ []) ≡ Some (extend (Cancels k) r)
  there = ap (find (keyed k)) (cancels_records h k) ∙ find_extended (Cancels k) k (records h) r f

  -- it was granted or cancelled, if it was ever told to wait
  settled : is_waiting r.answer ≡ true → list_any (cancels r.key) r.later || list_any (grants r.key) r.later ≡ true
  settled q = either r.later ∙ not-false (list_any (λ e. cancels r.key e || grants r.key e) r.later) (sym (ap (λ b. b && not (list_any (λ e. cancels r.key e || grants r.key e) r.later)) q) ∙ w)
    where
      turned : (a b c d : Bool) → (a || c) || (b || d) ≡ (a || b) || (c || d)
      turned true b c d = refl
      turned false true true d = refl
      turned false true false d = refl
      turned false false c d = refl

      either : (es : List QueueEvent) → list_any (cancels r.key) es || list_any (grants r.key) es ≡ list_any (λ e. cancels r.key e || grants r.key e) es
      either [] = refl
      either (e ∷ es) = turned (cancels r.key e) (grants r.key e) (list_any (cancels r.key) es) (list_any (grants r.key) es) ∙ ap (λ b. (cancels r.key e || grants r.key e) || b) (either es)

  kept_same : kept_now (h ++ Cancels k ∷ []) (extend (Cancels k) r) ≡ kept_now h r
  kept_same = go (is_waiting r.answer) refl
    where
      after : List QueueEvent
      after = h ++ Cancels k ∷ []

      or_none : (b : Bool) → b || false ≡ b
      or_none true = refl
      or_none false = refl

      told : Bool → Bool → Bool → ℕ → Kept
      told a b c n = cond a (cond b Done Granted) (cond c Cancelled (Waiting n))

      -- a cancel more changes nothing of what was granted or cancelled
      same_told : (a b c d : Bool) (n i : ℕ) → c || a ≡ true → told a b (c || d) n ≡ told a b c i
      same_told true b c d n i s = refl
      same_told false b true d n i s = refl
      same_told false b false d n i s = absurd (false≢true s)

      go : (n : Bool) → is_waiting r.answer ≡ n → cond n (waited after (extend (Cancels k) r)) r.answer ≡ cond n (waited h r) r.answer
      go false q = refl
      go true q =
          ap₂ (λ a b. told a b (list_any (cancels r.key) (r.later ++ Cancels k ∷ [])) (place_in r.key (waiting r.service after)))
          (any_more (grants r.key) r.later (Cancels k) ∙ or_none (list_any (grants r.key) r.later))
          (any_more (finishes r.key) r.later (Cancels k) ∙ or_none (list_any (finishes r.key) r.later))
          ∙ (ap (λ c. told (list_any (grants r.key) r.later) (list_any (finishes r.key) r.later) c (place_in r.key (waiting r.service after))) (any_more (cancels r.key) r.later (Cancels k))
          ∙ same_told (list_any (grants r.key) r.later) (list_any (finishes r.key) r.later) (list_any (cancels r.key) r.later) (cancels r.key (Cancels k)) (place_in r.key (waiting r.service after)) (place_in r.key (waiting r.service h)) (settled q))

  pub resting_kept : kept_for k (h ++ Cancels k ∷ []) ≡ Some (kept_now h r)
  resting_kept = ap told there ∙ ap (λ z. Some z) kept_same
    where
      told : Option Request → Option Kept
      told o = elim o [ None ↦ None | Some y ↦ Some (kept_now (h ++ Cancels k ∷ []) y) ]

-- an answer that stands for the whole run, other than those of a request that waited
abbrev pub unwaited : Kept → Bool
unwaited QueueFull = true
unwaited NoService = true
unwaited RecordsFull = true
unwaited k = false

abbrev pub IsUnwaited : Option Kept → Type 0
IsUnwaited None = Unit {0}
IsUnwaited (Some k) = unwaited k ≡ true

never_waited : (h : List QueueEvent) (r : Request) → unwaited (kept_now h r) ≡ true → is_waiting r.answer ≡ false
never_waited h r q = go (is_waiting r.answer) q
  where
    told : (a b c : Bool) (n : ℕ) → unwaited (cond a (cond b Done Granted) (cond c Cancelled (Waiting n))) ≡ false
    told true true c n = refl
    told true false c n = refl
    told false b true n = refl
    told false b false n = refl

    go : (w : Bool) → unwaited (cond w (waited h r) r.answer) ≡ true → w ≡ false
    go true p = absurd (true≢false (sym p ∙ told (list_any (grants r.key) r.later) (list_any (finishes r.key) r.later) (list_any (cancels r.key) r.later) (place_in r.key (waiting r.service h))))
    go false p = refl

-- the cancel of a key without a record, or with such an answer
pub unwaited_still : (h : List QueueEvent) (k : Key) (o : Option Kept) → kept_for k (h ++ Cancels k ∷ []) ≡ o → IsUnwaited o → Still h (Cancels k)
unwaited_still h k o q u = go (find (keyed k) (records h)) refl
  where
    after : List QueueEvent
    after = h ++ Cancels k ∷ []

    told : Option Request → Option Kept
    told f = elim f [ None ↦ None | Some r ↦ Some (kept_now after r) ]

    answer_is : (r : Request) (o : Option Kept) → Some (kept_now after r) ≡ o → IsUnwaited o → unwaited (kept_now after r) ≡ true
    answer_is r None p w = let z : ⊥ = cc in absurd z
    answer_is r (Some a) p w = (let e : kept_now after r ≡ a = cc in ap unwaited e ∙ w)

    go : (f : Option Request) → find (keyed k) (records h) ≡ f → Still h (Cancels k)
    go None f = cancel_still h k (each_imp (λ (x : Request). same_key x.key k ≡ false) (λ (x : Request). same_key x.key k ≡ true → waits x ≡ false) (λ x n s. absurd (true≢false (sym s ∙ n))) (records h) (find_none k (records h) f))
    go (Some r) f =
        let there : record_of k after ≡ Some (extend (Cancels k) r) = ap (find (keyed k)) (cancels_records h k) ∙ find_extended (Cancels k) k (records h) r f in
        let w : waits r ≡ false = ap (λ b. b && not (list_any (λ e. cancels r.key e || grants r.key e) r.later)) (never_waited after (extend (Cancels k) r) (answer_is (extend (Cancels k) r) o (sym (ap told there) ∙ q) u)) in
        resting_still h k r f w
