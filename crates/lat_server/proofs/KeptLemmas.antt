-- What is kept of a request once the queue was told one event more.
use Rattle.std.proofs.Common.{◌≡◌, ◌≢◌, ℕ, ◌⊎◌, inl, inr, refl, sym, ap, ◌∙◌, subst, Bool, true, false, not, cond, ◌||◌, List, [], ◌∷◌, ◌++◌, map, Option, Some, None, find, filter, true≢false}
use Rattle.std.specs.List.{list_any}
use Rattle.lat_machines.specs.values.Keys.{Key, same_key}
use Rattle.lat_machines.specs.values.Notices.{Kept, Waiting, Granted, Cancelled, Done}
use Rattle.lat_machines.specs.server.Queue.{QueueEvent, Asks, Cancels, Grants, Finishes, Request, cancels, grants, finishes, is_waiting, is_overfull, first_asks, records, waiting}
use Rattle.lat_machines.specs.server.Records.{place_in, kept_now, record_of, kept_for}
use Rattle.lat_queue.specs.Histories.{is_first_answer}
use Rattle.lat_queue.proofs.EventLemmas.{extend, Grows, grows_finish, any_more}
use Rattle.lat_queue.proofs.StandLemmas.{each_map, each_append}
use Rattle.lat_queue.proofs.InfoLemmas.{each_found}
use Rattle.lat_model.specs.Lists.{Each}

-- the record stays, with the event behind it

abbrev look : Key → List Request → Option Request
look k rs = find (λ (r : Request). same_key r.key k) (filter (λ (r : Request). not (is_overfull r.answer)) rs)

found_more : (k : Key) (seen : List Key) (h : List QueueEvent) (e : QueueEvent) (r : Request) → look k (first_asks seen h) ≡ Some r → look k (first_asks seen (h ++ e ∷ [])) ≡ Some (extend e r)
found_more k seen [] e r q = let z : ⊥ = cc in absurd z
found_more k seen (Asks j from service answer ∷ h) e r q = by (list_any (same_key j) seen) (found_more k seen h e r) (found_more k (j ∷ seen) h e r) q
  where
    x : Request
    x = record { key = j; from = from; service = service; answer = answer; later = h }

    found : (a b : Bool) (rest more : List Request) → (look k rest ≡ Some r → look k more ≡ Some (extend e r))
        → cond a (cond b (Some x) (look k rest)) (look k rest) ≡ Some r → cond a (cond b (Some (extend e x)) (look k more)) (look k more) ≡ Some (extend e r)
    found true true rest more f q = let i : x ≡ r = cc in ap (λ z. Some (extend e z)) i
    found true false rest more f q = f q
    found false b rest more f q = f q

    pushed : (a : Bool) (y : Request) (rest : List Request) → find (λ (z : Request). same_key z.key k) (cond a (y ∷ rest) rest) ≡ cond a (cond (same_key y.key k) (Some y) (find (λ (z : Request). same_key z.key k) rest)) (find (λ (z : Request). same_key z.key k) rest)
    pushed true y rest = refl
    pushed false y rest = refl

    by : (b : Bool) → (look k (first_asks seen h) ≡ Some r → look k (first_asks seen (h ++ e ∷ [])) ≡ Some (extend e r)) → (look k (first_asks (j ∷ seen) h) ≡ Some r → look k (first_asks (j ∷ seen) (h ++ e ∷ [])) ≡ Some (extend e r))
        → look k (cond b (first_asks seen h) (x ∷ first_asks (j ∷ seen) h)) ≡ Some r → look k (cond b (first_asks seen (h ++ e ∷ [])) (extend e x ∷ first_asks (j ∷ seen) (h ++ e ∷ []))) ≡ Some (extend e r)
    by true f g q = f q
    by false f g q =
        pushed (not (is_overfull answer)) (extend e x) (filter (λ (z : Request). not (is_overfull z.answer)) (first_asks (j ∷ seen) (h ++ e ∷ [])))
        ∙ found (not (is_overfull answer)) (same_key j k) (first_asks (j ∷ seen) h) (first_asks (j ∷ seen) (h ++ e ∷ [])) g (sym (pushed (not (is_overfull answer)) x (filter (λ (z : Request). not (is_overfull z.answer)) (first_asks (j ∷ seen) h))) ∙ q)
found_more k seen (Cancels j ∷ h) e r q = found_more k seen h e r q
found_more k seen (Grants j s ∷ h) e r q = found_more k seen h e r q
found_more k seen (Finishes j ∷ h) e r q = found_more k seen h e r q

pub record_more : (k : Key) (h : List QueueEvent) (e : QueueEvent) (r : Request) → record_of k h ≡ Some r → record_of k (h ++ e ∷ []) ≡ Some (extend e r)
record_more k h e r q = found_more k [] h e r q

-- what is kept, by what came behind the first ask

abbrev pub kept_by : (told : Bool) (answer : Kept) (granted finished cancelled : Bool) (place : ℕ) → Kept
kept_by w a g f c p = cond w (cond g (cond f Done Granted) (cond c Cancelled (Waiting p))) a

done_by : (w : Bool) (a : Kept) (g f c x y z : Bool) (p n : ℕ) → kept_by w a g f c p ≡ Done → kept_by w a (g || x) (f || y) (c || z) n ≡ Done
done_by false a g f c x y z p n q = q
done_by true a true true c x y z p n q = refl
done_by true a true false c x y z p n q = let e : ⊥ = cc in absurd e
done_by true a false f true x y z p n q = let e : ⊥ = cc in absurd e
done_by true a false f false x y z p n q = let e : ⊥ = cc in absurd e

granted_by : (w : Bool) (a : Kept) (g f c x y z : Bool) (p n : ℕ) → y ≡ false → kept_by w a g f c p ≡ Granted → kept_by w a (g || x) (f || y) (c || z) n ≡ Granted
granted_by false a g f c x y z p n e q = q
granted_by true a true true c x y z p n e q = let e : ⊥ = cc in absurd e
granted_by true a true false c x y z p n e q = ap (λ b. cond b Done Granted) e
granted_by true a false f true x y z p n e q = let e : ⊥ = cc in absurd e
granted_by true a false f false x y z p n e q = let e : ⊥ = cc in absurd e

ended_by : (w : Bool) (a : Kept) (g f c x y z : Bool) (p n : ℕ) → a ≢ Granted → y ≡ true → kept_by w a g f c p ≡ Granted → kept_by w a (g || x) (f || y) (c || z) n ≡ Done
ended_by false a g f c x y z p n o e q = absurd (o q)
ended_by true a true true c x y z p n o e q = refl
ended_by true a true false c x y z p n o e q = ap (λ b. cond b Done Granted) e
ended_by true a false f true x y z p n o e q = let e : ⊥ = cc in absurd e
ended_by true a false f false x y z p n o e q = let e : ⊥ = cc in absurd e

-- granted or done, whatever comes
either_by : (w : Bool) (a : Kept) (g f c x y z : Bool) (p n : ℕ) → kept_by w a g f c p ≡ Granted → (kept_by w a (g || x) (f || y) (c || z) n ≡ Done) ⊎ (kept_by w a (g || x) (f || y) (c || z) n ≡ Granted)
either_by false a g f c x y z p n q = inr q
either_by true a true true c x y z p n q = inl refl
either_by true a true false c x true z p n q = inl refl
either_by true a true false c x false z p n q = inr refl
either_by true a false f true x y z p n q = let e : ⊥ = cc in absurd e
either_by true a false f false x y z p n q = let e : ⊥ = cc in absurd e

-- the record that is kept as this, and what is kept once one event more has come
record KeptAs (k : Key) (h : List QueueEvent) (a : Kept) : Type 0 where
  pub request : Request
  pub found : record_of k h ≡ Some request
  pub is : kept_now h request ≡ a

kept_as : (k : Key) (h : List QueueEvent) (a : Kept) → kept_for k h ≡ Some a → KeptAs k h a
kept_as k h a q = by (record_of k h) refl q
  where
    by : (o : Option Request) → record_of k h ≡ o → elim o [ None ↦ None | Some r ↦ Some (kept_now h r) ] ≡ Some a → KeptAs k h a
    by None i q = let z : ⊥ = cc in absurd z
    by (Some r) i q = record { request = r; found = i; is = (let e : kept_now h r ≡ a = cc in e) }

abbrev pub kept_then : List QueueEvent → QueueEvent → Request → Kept
kept_then h e r =
    kept_by (is_waiting r.answer) r.answer (list_any (grants r.key) r.later || grants r.key e) (list_any (finishes r.key) r.later || finishes r.key e) (list_any (cancels r.key) r.later || cancels r.key e)
    (place_in r.key (waiting r.service (h ++ e ∷ [])))

pub kept_more : (k : Key) (h : List QueueEvent) (e : QueueEvent) (r : Request) → record_of k h ≡ Some r → kept_for k (h ++ e ∷ []) ≡ Some (kept_then h e r)
kept_more k h e r q =
    let n : ℕ = place_in r.key (waiting r.service (h ++ e ∷ [])) in
    ap (λ o. elim o [ None ↦ None | Some x ↦ Some (kept_now (h ++ e ∷ []) x) ]) (record_more k h e r q)
    ∙ ap (λ b. Some (kept_by (is_waiting r.answer) r.answer b (list_any (finishes r.key) (r.later ++ e ∷ [])) (list_any (cancels r.key) (r.later ++ e ∷ [])) n)) (any_more (grants r.key) r.later e)
    ∙ ap (λ b. Some (kept_by (is_waiting r.answer) r.answer (list_any (grants r.key) r.later || grants r.key e) b (list_any (cancels r.key) (r.later ++ e ∷ [])) n)) (any_more (finishes r.key) r.later e)
    ∙ ap (λ b. Some (kept_by (is_waiting r.answer) r.answer (list_any (grants r.key) r.later || grants r.key e) (list_any (finishes r.key) r.later || finishes r.key e) b n)) (any_more (cancels r.key) r.later e)

-- a request that is done stays done
pub done_stays : (k : Key) (h : List QueueEvent) (e : QueueEvent) → kept_for k h ≡ Some Done → kept_for k (h ++ e ∷ []) ≡ Some Done
done_stays k h e q =
    let a : KeptAs k h Done = kept_as k h Done q in
    let r : Request = a.request in
    kept_more k h e r a.found ∙ ap Some (done_by (is_waiting r.answer) r.answer (list_any (grants r.key) r.later) (list_any (finishes r.key) r.later) (list_any (cancels r.key) r.later) (grants r.key e) (finishes r.key e) (cancels r.key e) (place_in r.key (waiting r.service h)) (place_in r.key (waiting r.service (h ++ e ∷ []))) a.is)

-- one that is granted stays granted until its end
pub granted_stays : (k : Key) (h : List QueueEvent) (e : QueueEvent) → ((j : Key) → finishes j e ≡ false) → kept_for k h ≡ Some Granted → kept_for k (h ++ e ∷ []) ≡ Some Granted
granted_stays k h e f q =
    let a : KeptAs k h Granted = kept_as k h Granted q in
    let r : Request = a.request in
    kept_more k h e r a.found ∙ ap Some (granted_by (is_waiting r.answer) r.answer (list_any (grants r.key) r.later) (list_any (finishes r.key) r.later) (list_any (cancels r.key) r.later) (grants r.key e) (finishes r.key e) (cancels r.key e) (place_in r.key (waiting r.service h)) (place_in r.key (waiting r.service (h ++ e ∷ []))) (f r.key) a.is)

-- and is done then
pub granted_goes_on : (k : Key) (h : List QueueEvent) (e : QueueEvent) → kept_for k h ≡ Some Granted → (kept_for k (h ++ e ∷ []) ≡ Some Done) ⊎ (kept_for k (h ++ e ∷ []) ≡ Some Granted)
granted_goes_on k h e q =
    let a : KeptAs k h Granted = kept_as k h Granted q in
    let r : Request = a.request in
    by r a.found (either_by (is_waiting r.answer) r.answer (list_any (grants r.key) r.later) (list_any (finishes r.key) r.later) (list_any (cancels r.key) r.later) (grants r.key e) (finishes r.key e) (cancels r.key e) (place_in r.key (waiting r.service h)) (place_in r.key (waiting r.service (h ++ e ∷ []))) a.is)
  where
    by : (r : Request) → record_of k h ≡ Some r → (kept_then h e r ≡ Done) ⊎ (kept_then h e r ≡ Granted) → (kept_for k (h ++ e ∷ []) ≡ Some Done) ⊎ (kept_for k (h ++ e ∷ []) ≡ Some Granted)
    by r f (inl d) = inl (kept_more k h e r f ∙ ap Some d)
    by r f (inr g) = inr (kept_more k h e r f ∙ ap Some g)

-- what new requests were told
abbrev pub Firsts : List QueueEvent → Type 0
Firsts h = Each (λ (r : Request). is_first_answer r.answer ≡ true) (records h)

found_is : (k : Key) (rs : List Request) (r : Request) → find (λ (x : Request). same_key x.key k) rs ≡ Some r → same_key r.key k ≡ true
found_is k [] r q = let z : ⊥ = cc in absurd z
found_is k (x ∷ xs) r q = by (same_key x.key k) refl (found_is k xs r) q
  where
    by : (b : Bool) → same_key x.key k ≡ b → (find (λ (y : Request). same_key y.key k) xs ≡ Some r → same_key r.key k ≡ true) → cond b (Some x) (find (λ (y : Request). same_key y.key k) xs) ≡ Some r → same_key r.key k ≡ true
    by true t m q = let i : x ≡ r = cc in subst (λ (y : Request). same_key y.key k ≡ true) i t
    by false t m q = m q

pub granted_ends : (k : Key) (h : List QueueEvent) → Firsts h → kept_for k h ≡ Some Granted → kept_for k (h ++ Finishes k ∷ []) ≡ Some Done
granted_ends k h f q =
    let a : KeptAs k h Granted = kept_as k h Granted q in
    let r : Request = a.request in
    let e : QueueEvent = Finishes k in
    let first : is_first_answer r.answer ≡ true = each_found (λ (x : Request). is_first_answer x.answer ≡ true) (λ (x : Request). same_key x.key k) (records h) r f a.found in
    kept_more k h e r a.found ∙ ap Some (ended_by (is_waiting r.answer) r.answer (list_any (grants r.key) r.later) (list_any (finishes r.key) r.later) (list_any (cancels r.key) r.later) (grants r.key e) (finishes r.key e) (cancels r.key e) (place_in r.key (waiting r.service h)) (place_in r.key (waiting r.service (h ++ e ∷ [])))
    (λ i. true≢false (sym first ∙ ap is_first_answer i)) (found_is k (records h) r a.found) a.is)

pub firsts_finish : (k : Key) (h : List QueueEvent) → Firsts h → Firsts (h ++ Finishes k ∷ [])
firsts_finish k h f =
    let g : Grows h (Finishes k) [] = grows_finish h k in
    subst (Each (λ (r : Request). is_first_answer r.answer ≡ true)) (sym g.are) (each_append (λ (r : Request). is_first_answer r.answer ≡ true) (map (extend (Finishes k)) (records h)) [] (each_map (λ (r : Request). is_first_answer r.answer ≡ true) (extend (Finishes k)) (records h) f) tt)
