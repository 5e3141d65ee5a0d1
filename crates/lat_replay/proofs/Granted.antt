-- Each grant has its record, and a record's number leads to its grant.
use Rattle.std.proofs.Common.{◌≡◌, ℕ, zero, suc, ◌+◌, ◌⊎◌, inl, inr, refl, sym, ap, ◌∙◌, subst, arith, Bool, true, false, not, cond, ◌&&◌, ◌||◌, List, [], ◌∷◌, ◌++◌, length, Some, filter}
use Rattle.std.specs.Prelude.{slice_get}
use Rattle.std.specs.List.{list_any}
use Rattle.std.proofs.lemmas.Bool.{and_parts, true≢false}
use Rattle.lat_model.specs.Lists.{Each}
use Rattle.lat_machines.specs.values.Names.{Name, same}
use Rattle.lat_machines.specs.values.Keys.{Key, same_key}
use Rattle.lat_machines.specs.server.Queue.{QueueEvent, Asks, Cancels, Grants, Finishes, Request, cancels, grants, is_waiting, is_overfull, first_asks, records, waits, waiting, first, next_request, LegalQueue}
use Rattle.lat_machines.specs.server.Records.{grants_of, grant_of, place_among}
use Rattle.lat_queue.proofs.KeyLemmas.{key_self, key_turn}
use Rattle.lat_queue.proofs.RecordLemmas.{Distinct, distinct_records}

-- records among others

abbrev pub In : Request → List Request → Type 0
In r [] = ⊥
In r (x ∷ xs) = (r ≡ x) ⊎ In r xs

pub at_in : (xs : List Request) (j : ℕ) (r : Request) → slice_get xs j ≡ Some r → In r xs
at_in [] j r q = let z : ⊥ = cc in absurd z
at_in (x ∷ xs) zero r q = let e : r ≡ x = cc in inl e
at_in (x ∷ xs) (suc j) r q = inr (at_in xs j r q)

pub in_at : (xs : List Request) (r : Request) → In r xs → (j : ℕ) × (slice_get xs j ≡ Some r)
in_at [] r i = absurd i
in_at (x ∷ xs) r (inl e) = (0, ap Some (sym e))
in_at (x ∷ xs) r (inr i) = let p : (j : ℕ) × (slice_get xs j ≡ Some r) = in_at xs r i in (suc p.0, p.1)

each_in : (P : Request → Type 0) (xs : List Request) (r : Request) → Each P xs → In r xs → P r
each_in P [] r e i = absurd i
each_in P (x ∷ xs) r e (inl q) = subst P (sym q) e.0
each_in P (x ∷ xs) r e (inr i) = each_in P xs r e.1 i

in_filter : (test : Request → Bool) (xs : List Request) (r : Request) → In r (filter test xs) → In r xs × (test r ≡ true)
in_filter test [] r i = absurd i
in_filter test (x ∷ xs) r i = go (test x) refl i (in_filter test xs r)
  where
    go : (b : Bool) → test x ≡ b → In r (cond b (x ∷ filter test xs) (filter test xs)) → (In r (filter test xs) → In r xs × (test r ≡ true)) → In r (x ∷ xs) × (test r ≡ true)
    go true t (inl e) n = (inl e, ap test e ∙ t)
    go true t (inr j) n = (inr (n j).0, (n j).1)
    go false t j n = (inr (n j).0, (n j).1)

to_filter : (test : Request → Bool) (xs : List Request) (r : Request) → In r xs → test r ≡ true → In r (filter test xs)
to_filter test [] r i t = absurd i
to_filter test (x ∷ xs) r (inl e) t = subst (λ b. In r (cond b (x ∷ filter test xs) (filter test xs))) (sym (ap test (sym e) ∙ t)) (inl e)
to_filter test (x ∷ xs) r (inr j) t = go (test x) (to_filter test xs r j t)
  where
    go : (b : Bool) → In r (filter test xs) → In r (cond b (x ∷ filter test xs) (filter test xs))
    go true k = inr k
    go false k = k

-- no two records have one key
one_of : (xs : List Request) (a b : Request) → Distinct xs → In a xs → In b xs → same_key a.key b.key ≡ true → a ≡ b
one_of [] a b d i j s = absurd i
one_of (x ∷ xs) a b d (inl p) (inl q) s = p ∙ sym q
one_of (x ∷ xs) a b d (inl p) (inr j) s =
    absurd (true≢false (sym (key_turn b.key a.key ∙ s) ∙ (ap (λ (z : Request). same_key b.key z.key) p ∙ each_in (λ (y : Request). same_key y.key x.key ≡ false) xs b d.0 j)))
one_of (x ∷ xs) a b d (inr i) (inl q) s =
    absurd (true≢false (sym s ∙ (ap (λ (z : Request). same_key a.key z.key) q ∙ each_in (λ (y : Request). same_key y.key x.key ≡ false) xs a d.0 i)))
one_of (x ∷ xs) a b d (inr i) (inr j) s = one_of xs a b d.1 i j s

-- a record stays when more comes behind

abbrev with_later : List QueueEvent → Request → Request
with_later more r = record r { later = r.later ++ more }

asks_stay : (seen : List Key) (h more : List QueueEvent) (r : Request) → In r (first_asks seen h) → In (with_later more r) (first_asks seen (h ++ more))
asks_stay seen [] more r i = absurd i
asks_stay seen (Asks k from service answer ∷ h) more r i = go (list_any (same_key k) seen) i (asks_stay seen h more r) (asks_stay (k ∷ seen) h more r)
  where
    own : List QueueEvent → Request
    own later = record { key = k; from = from; service = service; answer = answer; later = later }

    go : (b : Bool) → In r (cond b (first_asks seen h) (own h ∷ first_asks (k ∷ seen) h)) → (In r (first_asks seen h) → In (with_later more r) (first_asks seen (h ++ more))) → (In r (first_asks (k ∷ seen) h) → In (with_later more r) (first_asks (k ∷ seen) (h ++ more))) → In (with_later more r) (cond b (first_asks seen (h ++ more)) (own (h ++ more) ∷ first_asks (k ∷ seen) (h ++ more)))
    go true i p q = p i
    go false (inl e) p q = inl (ap (with_later more) e)
    go false (inr j) p q = inr (q j)
asks_stay seen (Cancels k ∷ h) more r i = asks_stay seen h more r i
asks_stay seen (Grants k s ∷ h) more r i = asks_stay seen h more r i
asks_stay seen (Finishes k ∷ h) more r i = asks_stay seen h more r i

record_stays : (h more : List QueueEvent) (r : Request) → In r (records h) → In (with_later more r) (records (h ++ more))
record_stays h more r i =
    let p : In r (first_asks [] h) × (not (is_overfull r.answer) ≡ true) = in_filter (λ (x : Request). not (is_overfull x.answer)) (first_asks [] h) r i in
    to_filter (λ (x : Request). not (is_overfull x.answer)) (first_asks [] (h ++ more)) (with_later more r) (asks_stay [] h more r p.0) p.1

-- lists

append_more : {A : Type 0} → (xs ys zs : List A) → (xs ++ ys) ++ zs ≡ xs ++ (ys ++ zs)
append_more [] ys zs = refl
append_more (x ∷ xs) ys zs = ap (λ z. x ∷ z) (append_more xs ys zs)

any_there : (test : QueueEvent → Bool) (xs ys : List QueueEvent) (e : QueueEvent) → test e ≡ true → list_any test (xs ++ e ∷ ys) ≡ true
any_there test [] ys e t = ap (λ b. b || list_any test ys) t
any_there test (x ∷ xs) ys e t = go (test x) (any_there test xs ys e t)
  where
    go : (b : Bool) → list_any test (xs ++ e ∷ ys) ≡ true → (b || list_any test (xs ++ e ∷ ys)) ≡ true
    go true q = refl
    go false q = q

grants_more : (a b : List QueueEvent) → grants_of (a ++ b) ≡ grants_of a ++ grants_of b
grants_more [] b = refl
grants_more (Asks k from s r ∷ a) b = grants_more a b
grants_more (Cancels k ∷ a) b = grants_more a b
grants_more (Grants k s ∷ a) b = ap (λ z. k ∷ z) (grants_more a b)
grants_more (Finishes k ∷ a) b = grants_more a b

-- where a grant stands

record Cut (h : List QueueEvent) (i : ℕ) (k : Key) : Type 0 where
  before : List QueueEvent
  after : List QueueEvent
  service : Name
  is : h ≡ before ++ Grants k service ∷ after
  place : length (grants_of before) ≡ i

cut : (h : List QueueEvent) (i : ℕ) (k : Key) → slice_get (grants_of h) i ≡ Some k → Cut h i k
cut [] i k q = let z : ⊥ = cc in absurd z
cut (Grants j s ∷ h) zero k q = let e : j ≡ k = cc in record { before = []; after = h; service = s; is = ap (λ z. Grants z s ∷ h) e; place = refl }
cut (Grants j s ∷ h) (suc i) k q =
    let c : Cut h i k = cut h i k q in
    record { before = Grants j s ∷ c.before; after = c.after; service = c.service; is = ap (λ z. Grants j s ∷ z) c.is; place = ap suc c.place }
cut (Asks j from s a ∷ h) i k q =
    let c : Cut h i k = cut h i k q in
    record { before = Asks j from s a ∷ c.before; after = c.after; service = c.service; is = ap (λ z. Asks j from s a ∷ z) c.is; place = c.place }
cut (Cancels j ∷ h) i k q =
    let c : Cut h i k = cut h i k q in
    record { before = Cancels j ∷ c.before; after = c.after; service = c.service; is = ap (λ z. Cancels j ∷ z) c.is; place = c.place }
cut (Finishes j ∷ h) i k q =
    let c : Cut h i k = cut h i k q in
    record { before = Finishes j ∷ c.before; after = c.after; service = c.service; is = ap (λ z. Finishes j ∷ z) c.is; place = c.place }

legal_front : (a b : List QueueEvent) → LegalQueue (a ++ b) → LegalQueue a
legal_front a b l before after k service q = l before (after ++ b) k service (ap (λ z. z ++ b) q ∙ append_more before (Grants k service ∷ after) b)

-- the one that was granted stood there, and waited

record Waited (h : List QueueEvent) (k : Key) : Type 0 where
  request : Request
  there : In request (records h)
  still : waits request ≡ true
  key : request.key ≡ k

first_in : (xs : List Request) (r : Request) → first xs ≡ Some r → In r xs
first_in [] r q = let z : ⊥ = cc in absurd z
first_in (x ∷ xs) r q = let e : r ≡ x = cc in inl e

waited_for : (h before after : List QueueEvent) (k : Key) (service : Name) → LegalQueue h → h ≡ before ++ Grants k service ∷ after → Waited before k
waited_for h before after k service l q =
    let n : (r : Request) × (next_request service before ≡ Some r) × (r.key ≡ k) = l before after k service q in
    let p : In n.0 (records before) × ((waits n.0 && same (n.0).service service) ≡ true) = in_filter (λ (r : Request). waits r && same r.service service) (records before) n.0 (first_in (waiting service before) n.0 n.1) in
    record { request = n.0; there = p.0; still = (and_parts (waits n.0) (same (n.0).service service) p.1).0; key = n.2 }

waits_not : (r : Request) → waits r ≡ true → list_any (λ e. cancels r.key e || grants r.key e) r.later ≡ false
waits_not r w = flip (list_any (λ e. cancels r.key e || grants r.key e) r.later) (and_parts (is_waiting r.answer) (not (list_any (λ e. cancels r.key e || grants r.key e) r.later)) w).1
  where
    flip : (b : Bool) → not b ≡ true → b ≡ false
    flip true q = absurd (true≢false (sym q))
    flip false q = refl

-- and it wasn't granted before
not_before : (before : List QueueEvent) (k : Key) → LegalQueue before → Waited before k → (i : ℕ) (j : Key) → slice_get (grants_of before) i ≡ Some j → same_key k j ≡ true → ⊥
not_before before k l w i j q s =
    let c : Cut before i j = cut before i j q in
    let v : Waited c.before j = waited_for before c.before c.after j c.service l c.is in
    let tail : List QueueEvent = Grants j c.service ∷ c.after in
    let there : In (with_later tail v.request) (records before) = subst (λ z. In (with_later tail v.request) (records z)) (sym c.is) (record_stays c.before tail v.request v.there) in
    let one : same_key w.request.key (with_later tail v.request).key ≡ true = ap (λ z. same_key z v.request.key) w.key ∙ (ap (same_key k) v.key ∙ s) in
    let e : w.request ≡ with_later tail v.request = one_of (records before) w.request (with_later tail v.request) (distinct_records before) w.there there one in
    let none : list_any (λ e. cancels w.request.key e || grants w.request.key e) w.request.later ≡ false = waits_not w.request w.still in
    true≢false (sym (any_there (λ e. cancels w.request.key e || grants w.request.key e) v.request.later c.after (Grants j c.service) (ap (λ z. same_key z j) w.key ∙ s)) ∙ (sym (ap (λ (z : Request). list_any (λ e. cancels w.request.key e || grants w.request.key e) z.later) e) ∙ none))

-- numbers

among_first : (k : Key) (n : ℕ) (js rest : List Key) → ((i : ℕ) (j : Key) → slice_get js i ≡ Some j → same_key k j ≡ true → ⊥) → place_among k n (js ++ k ∷ rest) ≡ Some (n + length js)
among_first k n [] rest unseen = ap (λ b. cond b (Some n) (place_among k (suc n) rest)) (key_self k) ∙ ap Some plus
  where
    plus : n ≡ n + 0
    plus = omega arith
among_first k n (j ∷ js) rest unseen = go (same_key k j) refl (among_first k (suc n) js rest (λ i. unseen (suc i)))
  where
    plus : suc n + length js ≡ n + suc (length js)
    plus = omega arith

    go : (b : Bool) → same_key k j ≡ b → place_among k (suc n) (js ++ k ∷ rest) ≡ Some (suc n + length js) → cond b (Some n) (place_among k (suc n) (js ++ k ∷ rest)) ≡ Some (n + suc (length js))
    go true q r = absurd (unseen 0 j refl q)
    go false q r = r ∙ ap Some plus

record Among (k : Key) (n m : ℕ) (js : List Key) : Type 0 where
  place : ℕ
  is : m ≡ n + place
  key : Key
  there : slice_get js place ≡ Some key
  same : same_key k key ≡ true

among_is : (k : Key) (n m : ℕ) (js : List Key) → place_among k n js ≡ Some m → Among k n m js
among_is k n m [] q = let z : ⊥ = cc in absurd z
among_is k n m (j ∷ js) q = go (same_key k j) refl q (among_is k (suc n) m js)
  where
    go : (b : Bool) → same_key k j ≡ b → cond b (Some n) (place_among k (suc n) js) ≡ Some m → (place_among k (suc n) js ≡ Some m → Among k (suc n) m js) → Among k n m (j ∷ js)
    go true s q more =
        let e : n ≡ m = cc in
        let i : m ≡ n + 0 = omega (arith, e) in
        record { place = 0; is = i; key = j; there = refl; same = s }
    go false s q more =
        let a : Among k (suc n) m js = more q in
        let i : m ≡ n + suc a.place = omega (arith, a.is) in
        record { place = suc a.place; is = i; key = a.key; there = a.there; same = a.same }

-- each grant has its record, with its number
pub record Granted (h : List QueueEvent) (i : ℕ) (k : Key) : Type 0 where
  pub request : Request
  pub there : In request (records h)
  pub key : request.key ≡ k
  pub number : grant_of request.key h ≡ Some (suc i)

pub granted_at : (h : List QueueEvent) → LegalQueue h → (i : ℕ) (k : Key) → slice_get (grants_of h) i ≡ Some k → Granted h i k
granted_at h l i k q =
    let c : Cut h i k = cut h i k q in
    let w : Waited c.before k = waited_for h c.before c.after k c.service l c.is in
    let front : LegalQueue c.before = legal_front c.before (Grants k c.service ∷ c.after) (subst LegalQueue c.is l) in
    let tail : List QueueEvent = Grants k c.service ∷ c.after in
    let number : place_among k 1 (grants_of c.before ++ k ∷ grants_of c.after) ≡ Some (1 + length (grants_of c.before)) = among_first k 1 (grants_of c.before) (grants_of c.after) (not_before c.before k front w) in
    let plus : 1 + length (grants_of c.before) ≡ suc i = omega (arith, c.place) in
    let all : grants_of h ≡ grants_of c.before ++ k ∷ grants_of c.after = ap grants_of c.is ∙ grants_more c.before tail in
    record {
      request = with_later tail w.request;
      there = subst (λ z. In (with_later tail w.request) (records z)) (sym c.is) (record_stays c.before tail w.request w.there);
      key = w.key;
      number = ap (λ z. grant_of z h) w.key ∙ (ap (place_among k 1) all ∙ (number ∙ ap Some plus));
    }

-- a record with a number has the key of the grant of this number
pub grant_is : (h : List QueueEvent) → LegalQueue h → (r : Request) → In r (records h) → (i : ℕ) → grant_of r.key h ≡ Some (suc i) → slice_get (grants_of h) i ≡ Some r.key
grant_is h l r there i q =
    let a : Among r.key 1 (suc i) (grants_of h) = among_is r.key 1 (suc i) (grants_of h) q in
    let at : a.place ≡ i = omega (arith, a.is) in
    let g : Granted h a.place a.key = granted_at h l a.place a.key a.there in
    let e : r ≡ g.request = one_of (records h) r g.request (distinct_records h) there g.there (ap (same_key r.key) g.key ∙ a.same) in
    subst (λ z. slice_get (grants_of h) z ≡ Some r.key) at (a.there ∙ ap Some (sym g.key ∙ sym (ap (λ (z : Request). z.key) e)))
