-- What becomes of a granted request in the queue: it stays granted, and stays finished once its session was over.
use Rattle.std.proofs.Common.{◌≡◌, ℕ, refl, sym, ap, ap₂, ◌∙◌, subst, Bool, true, false, not, cond, ◌&&◌, ◌||◌, List, [], ◌∷◌, ◌++◌, map, Option, Some, None, nat_eq, filter, find}
use Rattle.std.proofs.lemmas.Bool.{and_parts, true≢false, eqb-false}
use Rattle.std.specs.List.{list_any}
use Rattle.std.specs.Prelude.{bytes_eq}
use Rattle.lat_model.specs.Lists.{Each}
use Rattle.lat_machines.specs.values.Names.{Name, folded, same}
use Rattle.lat_machines.specs.values.Keys.{Key, same_key}
use Rattle.lat_machines.specs.values.Notices.{Waiting, Granted, Cancelled, Done}
use Rattle.lat_machines.specs.server.Queue.{QueueEvent, Asks, Cancels, Grants, Finishes, Request, cancels, grants, finishes, first_asks, is_waiting, is_overfull, records, waits, waiting, first, next_request}
use Rattle.lat_machines.specs.server.Records.{place_in, kept_now, record_of, kept_for, is_granted}
use Rattle.lat_machines.specs.cores.Cores.{Seat, Core}
use Rattle.lat_machines.specs.cores.Lines.{over}
use Rattle.lat_machines.specs.server.Server.{finish_one, finish_all}
use Rattle.lat_machines.proofs.queue.Grants.{extend, distinct_asks, distinct_filter, only_one, any_more}

-- the records of a queue with one more event

abbrev More : QueueEvent → List Request → List Request → Type 0
More e xs ys = (new : List Request) × (ys ≡ map (extend e) xs ++ new)

first_all : (seen : List Key) (h : List QueueEvent) (e : QueueEvent) → More e (first_asks seen h) (first_asks seen (h ++ e ∷ []))
first_all seen [] e = (first_asks seen (e ∷ []), refl)
first_all seen (Asks j from service answer ∷ h) e = go (list_any (same_key j) seen) (first_all seen h e) (first_all (j ∷ seen) h e)
  where
    asked : List QueueEvent → Request
    asked later = record { key = j; from = from; service = service; answer = answer; later = later }

    go : (b : Bool) → More e (first_asks seen h) (first_asks seen (h ++ e ∷ [])) → More e (first_asks (j ∷ seen) h) (first_asks (j ∷ seen) (h ++ e ∷ [])) → More e (cond b (first_asks seen h) (asked h ∷ first_asks (j ∷ seen) h)) (cond b (first_asks seen (h ++ e ∷ [])) (asked (h ++ e ∷ []) ∷ first_asks (j ∷ seen) (h ++ e ∷ [])))
    go true p q = p
    go false p q = (q.0, ap (λ z. asked (h ++ e ∷ []) ∷ z) q.1)
first_all seen (Cancels j ∷ h) e = first_all seen h e
first_all seen (Grants j s ∷ h) e = first_all seen h e
first_all seen (Finishes j ∷ h) e = first_all seen h e

abbrev kept : Request → Bool
kept r = not (is_overfull r.answer)

abbrev keyed : Key → Request → Bool
keyed k r = same_key r.key k

abbrev found_in : Key → List Request → Option Request
found_in k xs = find (keyed k) (filter kept xs)

found_on : (e : QueueEvent) (new : List Request) (k : Key) (r : Request) (xs : List Request) → found_in k xs ≡ Some r → found_in k (map (extend e) xs ++ new) ≡ Some (extend e r)
found_on e new k r [] q = let z : ⊥ = cc in absurd z
found_on e new k r (x ∷ xs) q = lifts (kept x) (extend e x) rest ∙ by (kept x) (same_key x.key k) (found_on e new k r xs) (sym (lifts (kept x) x (filter kept xs)) ∙ q)
  where
    rest : List Request
    rest = filter kept (map (extend e) xs ++ new)

    at : (n : Bool) → (found_in k xs ≡ Some r → find (keyed k) rest ≡ Some (extend e r)) → cond n (Some x) (found_in k xs) ≡ Some r → cond n (Some (extend e x)) (find (keyed k) rest) ≡ Some (extend e r)
    at true p q = let i : x ≡ r = cc in ap (λ z. Some (extend e z)) i
    at false p q = p q

    in_list : Bool → Bool → List Request → Request → Option Request
    in_list b n ys y = cond b (cond n (Some y) (find (keyed k) ys)) (find (keyed k) ys)

    -- the first of a list that is kept or not
    lifts : (b : Bool) (y : Request) (ys : List Request) → find (keyed k) (cond b (y ∷ ys) ys) ≡ in_list b (same_key y.key k) ys y
    lifts true y ys = refl
    lifts false y ys = refl

    by : (b n : Bool) → (found_in k xs ≡ Some r → find (keyed k) rest ≡ Some (extend e r)) → in_list b n (filter kept xs) x ≡ Some r → in_list b n rest (extend e x) ≡ Some (extend e r)
    by true n p q = at n p q
    by false n p q = p q

-- a record goes on with the event behind it
record_on : (h : List QueueEvent) (e : QueueEvent) (k : Key) (r : Request) → record_of k h ≡ Some r → record_of k (h ++ e ∷ []) ≡ Some (extend e r)
record_on h e k r q =
    let m : More e (first_asks [] h) (first_asks [] (h ++ e ∷ [])) = first_all [] h e in
    ap (found_in k) m.1 ∙ found_on e m.0 k r (first_asks [] h) q

-- keys

number_same : (n : ℕ) → nat_eq n n ≡ true
number_same n = go (nat_eq n n) refl
  where
    go : (b : Bool) → nat_eq n n ≡ b → b ≡ true
    go true q = refl
    go false q = absurd (eqb-false n n q refl)

text_same : (xs : List ℕ) → bytes_eq xs xs ≡ true
text_same [] = refl
text_same (x ∷ xs) = ap₂ (λ a b. a && b) (number_same x) (text_same xs)

key_same : (k : Key) → same_key k k ≡ true
key_same k = ap₂ (λ a b. a && b) (text_same (folded k.node)) (ap₂ (λ a b. a && b) (number_same k.incarnation) (number_same k.request))

-- what is found has the key that was looked for
found_key : (k : Key) (r : Request) (xs : List Request) → find (keyed k) xs ≡ Some r → same_key r.key k ≡ true
found_key k r [] q = let z : ⊥ = cc in absurd z
found_key k r (x ∷ xs) q = go (same_key x.key k) refl (found_key k r xs) q
  where
    go : (n : Bool) → same_key x.key k ≡ n → (find (keyed k) xs ≡ Some r → same_key r.key k ≡ true) → cond n (Some x) (find (keyed k) xs) ≡ Some r → same_key r.key k ≡ true
    go true i p q = let e : x ≡ r = cc in subst (λ (z : Request). same_key z.key k ≡ true) e i
    go false i p q = p q

-- the next request is found by its key, and waits
find_next : (test : Request → Bool) (r : Request) (xs : List Request) → first (filter test xs) ≡ Some r → Each (λ (x : Request). same_key x.key r.key ≡ true → x ≡ r) xs → find (keyed r.key) xs ≡ Some r
find_next test r [] q o = let z : ⊥ = cc in absurd z
find_next test r (x ∷ xs) q o = go (same_key x.key r.key) refl (test x) (find_next test r xs) q
  where
    go : (n : Bool) → same_key x.key r.key ≡ n → (b : Bool) → (first (filter test xs) ≡ Some r → Each (λ (y : Request). same_key y.key r.key ≡ true → y ≡ r) xs → find (keyed r.key) xs ≡ Some r) → first (cond b (x ∷ filter test xs) (filter test xs)) ≡ Some r → cond n (Some x) (find (keyed r.key) xs) ≡ Some r
    go true i b p q = ap (λ z. Some z) (o.0 i)
    go false i true p q = let e : x ≡ r = cc in absurd (true≢false (sym (key_same r.key) ∙ (ap (λ (z : Request). same_key z.key r.key) (sym e) ∙ i)))
    go false i false p q = p q o.1

next_passes : (test : Request → Bool) (r : Request) (xs : List Request) → first (filter test xs) ≡ Some r → test r ≡ true
next_passes test r [] q = let z : ⊥ = cc in absurd z
next_passes test r (x ∷ xs) q = go (test x) refl (next_passes test r xs) q
  where
    go : (b : Bool) → test x ≡ b → (first (filter test xs) ≡ Some r → test r ≡ true) → first (cond b (x ∷ filter test xs) (filter test xs)) ≡ Some r → test r ≡ true
    go true i p q = let e : x ≡ r = cc in subst (λ z. test z ≡ true) e i
    go false i p q = p q

-- a request that was granted, and one that is finished too

pub record Served_as (h : List QueueEvent) (k : Key) : Type 0 where
  pub request : Request
  pub found : record_of k h ≡ Some request
  pub waited : is_waiting request.answer ≡ true
  pub granted : list_any (grants request.key) request.later ≡ true

pub record Ended_as (h : List QueueEvent) (k : Key) : Type 0 where
  pub request : Request
  pub found : record_of k h ≡ Some request
  pub finished : list_any (finishes request.key) request.later ≡ true

-- of the request of a line session, where it was granted for one
abbrev pub Served : List QueueEvent → Option Key → Type 0
Served h None = Unit {0}
Served h (Some k) = Served_as h k

abbrev pub Ended : List QueueEvent → Option Key → Type 0
Ended h None = Unit {0}
Ended h (Some k) = Ended_as h k

any_on : (f : QueueEvent → Bool) (xs : List QueueEvent) (e : QueueEvent) → list_any f xs ≡ true → list_any f (xs ++ e ∷ []) ≡ true
any_on f xs e q = any_more f xs e ∙ ap (λ z. z || f e) q

any_last : (f : QueueEvent → Bool) (xs : List QueueEvent) (e : QueueEvent) → f e ≡ true → list_any f (xs ++ e ∷ []) ≡ true
any_last f xs e q = any_more f xs e ∙ (ap (λ z. list_any f xs || z) q ∙ or_true (list_any f xs))
  where
    or_true : (b : Bool) → b || true ≡ true
    or_true true = refl
    or_true false = refl

pub served_on : (h : List QueueEvent) (e : QueueEvent) (o : Option Key) → Served h o → Served (h ++ e ∷ []) o
served_on h e None p = tt
served_on h e (Some k) p = record { request = extend e p.request; found = record_on h e k p.request p.found; waited = p.waited; granted = any_on (grants p.request.key) p.request.later e p.granted }

pub ended_on : (h : List QueueEvent) (e : QueueEvent) (o : Option Key) → Ended h o → Ended (h ++ e ∷ []) o
ended_on h e None p = tt
ended_on h e (Some k) p = record { request = extend e p.request; found = record_on h e k p.request p.found; finished = any_on (finishes p.request.key) p.request.later e p.finished }

-- a grant serves the next request
pub grant_serves : (h : List QueueEvent) (service : Name) (r : Request) → next_request service h ≡ Some r → Served (h ++ Grants r.key service ∷ []) (Some r.key)
grant_serves h service r q =
    let test : Request → Bool = λ x. waits x && same x.service service in
    let d : Each (λ (x : Request). same_key x.key r.key ≡ true → x ≡ r) (records h) = only_one test (records h) r (distinct_filter kept (first_asks [] h) (distinct_asks [] h)) q in
    let w : (waits r ≡ true) × (same r.service service ≡ true) = and_parts (waits r) (same r.service service) (next_passes test r (records h) q) in
    record {
      request = extend (Grants r.key service) r;
      found = record_on h (Grants r.key service) r.key r (find_next test r (records h) q d);
      waited = (and_parts (is_waiting r.answer) (not (list_any (λ e. cancels r.key e || grants r.key e) r.later)) w.0).0;
      granted = any_last (grants r.key) r.later (Grants r.key service) (key_same r.key);
    }

-- as it is kept
kept_as : (h : List QueueEvent) (k : Key) (r : Request) → record_of k h ≡ Some r → kept_for k h ≡ Some (kept_now h r)
kept_as h k r q = ap (λ (o : Option Request). elim o [ None ↦ None | Some r ↦ Some (kept_now h r) ]) q

served_kept : (h : List QueueEvent) (k : Key) (p : Served_as h k) (b : Bool) → list_any (finishes p.request.key) p.request.later ≡ b → is_granted (kept_for k h) ≡ not b
served_kept h k p b q =
    ap is_granted (kept_as h k p.request p.found)
    ∙ (ap₂ (λ x y. is_granted (Some (cond x (cond y (cond (list_any (finishes p.request.key) p.request.later) Done Granted) (cond (list_any (cancels p.request.key) p.request.later) Cancelled (Waiting (place_in p.request.key (waiting p.request.service h))))) p.request.answer))) p.waited p.granted
    ∙ (ap (λ z. is_granted (Some (cond z Done Granted))) q ∙ go b))
  where
    go : (b : Bool) → is_granted (Some (cond b Done Granted)) ≡ not b
    go true = refl
    go false = refl

-- finishing

one_served : (c : Core) (key o : Option Key) (b : Bool) (h : List QueueEvent) → Served h o → Served (finish_one c key b h) o
one_served c None o b h p = p
one_served c (Some k) o b h p = go (b && is_granted (kept_for k h))
  where
    go : (n : Bool) → Served (cond n (h ++ Finishes k ∷ []) h) o
    go true = served_on h (Finishes k) o p
    go false = p

one_ended : (c : Core) (key o : Option Key) (b : Bool) (h : List QueueEvent) → Ended h o → Ended (finish_one c key b h) o
one_ended c None o b h p = p
one_ended c (Some k) o b h p = go (b && is_granted (kept_for k h))
  where
    go : (n : Bool) → Ended (cond n (h ++ Finishes k ∷ []) h) o
    go true = ended_on h (Finishes k) o p
    go false = p

-- a session that is over: its request is finished then
one_ends : (c : Core) (o : Option Key) (b : Bool) (h : List QueueEvent) → Served h o → b ≡ true → Ended (finish_one c o b h) o
one_ends c None b h p q = tt
one_ends c (Some k) b h p q = go (list_any (finishes p.request.key) p.request.later) refl
  where
    after : Bool → List QueueEvent
    after n = cond n (h ++ Finishes k ∷ []) h

    go : (n : Bool) → list_any (finishes p.request.key) p.request.later ≡ n → Ended (after (b && is_granted (kept_for k h))) (Some k)
    go true i = subst (λ z. Ended (after z) (Some k)) (sym (ap₂ (λ x y. x && y) q (served_kept h k p true i))) (record { request = p.request; found = p.found; finished = i })
    go false i = subst (λ z. Ended (after z) (Some k)) (sym (ap₂ (λ x y. x && y) q (served_kept h k p false i)))
        (record { request = extend (Finishes k) p.request; found = record_on h (Finishes k) k p.request p.found; finished = any_last (finishes p.request.key) p.request.later (Finishes k) (found_key k p.request (records h) p.found) })

all_served : (c : Core) (ss : List Seat) (o : Option Key) (h : List QueueEvent) → Served h o → Served (finish_all c ss h) o
all_served c [] o h p = p
all_served c (s ∷ ss) o h p = all_served c ss o (finish_one c s.key (over c s) h) (one_served c s.key o (over c s) h p)

all_ended : (c : Core) (ss : List Seat) (o : Option Key) (h : List QueueEvent) → Ended h o → Ended (finish_all c ss h) o
all_ended c [] o h p = p
all_ended c (s ∷ ss) o h p = all_ended c ss o (finish_one c s.key (over c s) h) (one_ended c s.key o (over c s) h p)

-- each line session's request was granted, and is finished where the session is over
pub record Seated (c : Core) (h : List QueueEvent) (s : Seat) : Type 0 where
  pub served : Served h s.key
  pub ended : over c s ≡ true → Ended h s.key

abbrev pub AllServed : List QueueEvent → List Seat → Type 0
AllServed h ss = Each (λ (s : Seat). Served h s.key) ss

abbrev pub AllSeated : Core → List QueueEvent → List Seat → Type 0
AllSeated c h ss = Each (Seated c h) ss

pub finish_seats : (c : Core) (ss : List Seat) (h : List QueueEvent) → AllServed h ss → AllSeated c (finish_all c ss h) ss
finish_seats c [] h p = tt
finish_seats c (s ∷ ss) h p =
    let q : List QueueEvent = finish_one c s.key (over c s) h in (
      record { served = all_served c ss s.key q (one_served c s.key s.key (over c s) h p.0); ended = λ i. all_ended c ss s.key q (one_ends c s.key (over c s) h p.0 i) },
      finish_seats c ss q (served_all c s.key (over c s) h ss p.1),
    )
  where
    served_all : (c : Core) (key : Option Key) (b : Bool) (h : List QueueEvent) (ss : List Seat) → AllServed h ss → AllServed (finish_one c key b h) ss
    served_all c key b h [] p = tt
    served_all c key b h (s ∷ ss) p = (one_served c key s.key b h p.0, served_all c key b h ss p.1)

-- nothing is left to be finished
pub finish_none : (c : Core) (ss : List Seat) (h : List QueueEvent) → AllSeated c h ss → finish_all c ss h ≡ h
finish_none c [] h p = refl
finish_none c (s ∷ ss) h p = ap (finish_all c ss) (one s.key (over c s) refl p.0.served p.0.ended) ∙ finish_none c ss h p.1
  where
    one : (o : Option Key) (b : Bool) → over c s ≡ b → Served h o → (over c s ≡ true → Ended h o) → finish_one c o b h ≡ h
    one None b i v e = refl
    one (Some k) false i v e = refl
    one (Some k) true i v e = ap (λ z. cond z (h ++ Finishes k ∷ []) h) (served_kept h k v true (finished (e i)))
      where
        finished : Ended_as h k → list_any (finishes v.request.key) v.request.later ≡ true
        finished n = let both : Some v.request ≡ Some n.request = sym v.found ∙ n.found in let same : v.request ≡ n.request = cc in subst (λ (z : Request). list_any (finishes z.key) z.later ≡ true) (sym same) n.finished
