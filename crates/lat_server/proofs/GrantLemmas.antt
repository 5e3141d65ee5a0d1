-- The request that a line grants is granted then, and its session isn't over.
use Rattle.std.proofs.Common.{◌≡◌, ℕ, inl, inr, refl, sym, ap, ◌∙◌, subst, Bool, true, false, not, cond, ◌&&◌, ◌||◌, List, [], ◌∷◌, ◌++◌, Option, Some, None, find, filter, true≢false}
use Rattle.std.specs.List.{list_any}
use Rattle.std.specs.Option.{is_some}
use Rattle.std.proofs.lemmas.Bool.{and_parts, or_parts}
use Rattle.lat_model.specs.Lists.{Each}
use Rattle.lat_machines.specs.values.Names.{Name, same}
use Rattle.lat_machines.specs.values.Keys.{Key, same_key}
use Rattle.lat_machines.specs.values.Notices.{Waiting, Granted, Cancelled, Done}
use Rattle.lat_machines.specs.cores.Cores.{Seat, Core}
use Rattle.lat_machines.specs.cores.Lines.{over}
use Rattle.lat_machines.specs.server.Queue.{QueueEvent, Grants, Request, cancels, grants, finishes, is_waiting, records, waits, waiting, first, next_request}
use Rattle.lat_machines.specs.server.Records.{place_in, grant_of, kept_for}
use Rattle.lat_queue.specs.Tables.{Table}
use Rattle.lat_queue.specs.Histories as queue
use Rattle.lat_queue.specs.Histories.{IsFirst}
use Rattle.lat_queue.proofs.KeyLemmas.{key_self, key_turn}
use Rattle.lat_queue.proofs.RecordLemmas.{Distinct, distinct_records}
use Rattle.lat_queue.proofs.StandLemmas.{each_append}
use Rattle.lat_queue.proofs.InfoLemmas.{each_found}
use Rattle.lat_queue.proofs.WaitLemmas.{any_either}
use Rattle.lat_lines.specs.Stands.{IsSeat}
use Rattle.lat_server.specs.Concluded.{IsConcluded, AreConcluded, Concluded}
use Rattle.lat_server.proofs.KeptLemmas.{kept_then, kept_more, done_stays, granted_stays}
use Rattle.lat_server.proofs.Openings.{Opening}

-- the first that passes is found by its key

first_each : (P : Request → Type 0) (test : Request → Bool) (rs : List Request) (r : Request) → Each P rs → first (filter test rs) ≡ Some r → P r
first_each P test [] r p q = let z : ⊥ = cc in absurd z
first_each P test (x ∷ xs) r p q = by (test x) (first_each P test xs r p.1) q
  where
    by : (b : Bool) → (first (filter test xs) ≡ Some r → P r) → first (cond b (x ∷ filter test xs) (filter test xs)) ≡ Some r → P r
    by true m q = let e : x ≡ r = cc in subst P e p.0
    by false m q = m q

record FirstFound (test : Request → Bool) (rs : List Request) (r : Request) : Type 0 where
  pub found : find (λ (x : Request). same_key x.key r.key) rs ≡ Some r
  pub passes : test r ≡ true

first_found : (test : Request → Bool) (rs : List Request) (r : Request) → Distinct rs → first (filter test rs) ≡ Some r → FirstFound test rs r
first_found test [] r d q = let z : ⊥ = cc in absurd z
first_found test (x ∷ xs) r d q = by (test x) refl (first_found test xs r d.1) q
  where
    by : (b : Bool) → test x ≡ b → (first (filter test xs) ≡ Some r → FirstFound test xs r) → first (cond b (x ∷ filter test xs) (filter test xs)) ≡ Some r → FirstFound test (x ∷ xs) r
    by true t m q =
        let e : x ≡ r = cc in
        subst (FirstFound test (x ∷ xs)) e (record { found = ap (λ z. cond z (Some x) (find (λ (y : Request). same_key y.key x.key) xs)) (key_self x.key); passes = t })
    by false t m q =
        let f : FirstFound test xs r = m q in
        let apart : same_key x.key r.key ≡ false = key_turn x.key r.key ∙ first_each (λ (y : Request). same_key y.key x.key ≡ false) test xs r d.0 q in
        record { found = ap (λ z. cond z (Some x) (find (λ (y : Request). same_key y.key r.key) xs)) apart ∙ f.found; passes = f.passes }

-- it waits, and is granted by the event

pub not_true : (b : Bool) → not b ≡ true → b ≡ false
not_true true q = absurd (true≢false (sym q))
not_true false q = refl

or_true : (b : Bool) → b || true ≡ true
or_true true = refl
or_true false = refl

or_false : (b : Bool) → b ≡ false → b || false ≡ false
or_false b q = ap (λ z. z || false) q

none_of : (o : Option ℕ) → is_some o ≡ false → o ≡ None
none_of None q = refl
none_of (Some n) q = absurd (true≢false q)

grants_it : (offered : List Name) (h : List QueueEvent) (s : Name) (r : Request) → IsFirst offered h r → waits r ≡ true → kept_then h (Grants r.key s) r ≡ Granted
grants_it offered h s r first w =
    let two : (is_waiting r.answer ≡ true) × (not (list_any (λ e. cancels r.key e || grants r.key e) r.later) ≡ true) = and_parts (is_waiting r.answer) (not (list_any (λ e. cancels r.key e || grants r.key e) r.later)) w in
    let n : list_any (cancels r.key) r.later || list_any (grants r.key) r.later ≡ false = sym (any_either (cancels r.key) (grants r.key) r.later) ∙ not_true (list_any (λ e. cancels r.key e || grants r.key e) r.later) two.1 in
    let g : list_any (grants r.key) r.later ≡ false = (or_parts (list_any (cancels r.key) r.later) (list_any (grants r.key) r.later) n).1 in
    let f : list_any (finishes r.key) r.later ≡ false = first.ended_then (none_of (grant_of r.key h) (sym first.granted_then ∙ g)) in
    by (is_waiting r.answer) (list_any (grants r.key) r.later || same_key r.key r.key) (list_any (finishes r.key) r.later || false) two.0 (ap (λ b. list_any (grants r.key) r.later || b) (key_self r.key) ∙ or_true (list_any (grants r.key) r.later)) (or_false (list_any (finishes r.key) r.later) f)
  where
    by : (a g f : Bool) → a ≡ true → g ≡ true → f ≡ false → cond a (cond g (cond f Done Granted) (cond (list_any (cancels r.key) r.later || false) Cancelled (Waiting (place_in r.key (waiting r.service (h ++ Grants r.key s ∷ [])))))) r.answer ≡ Granted
    by false g f p q t = absurd (true≢false (sym p))
    by true false f p q t = absurd (true≢false (sym q))
    by true true true p q t = absurd (true≢false t)
    by true true false p q t = refl

pub granted_then : (t : Table) (h : List QueueEvent) (s : Name) (r : Request) → queue.Stands t h → next_request s h ≡ Some r → kept_for r.key (h ++ Grants r.key s ∷ []) ≡ Some Granted
granted_then t h s r st q =
    let test : Request → Bool = λ x. waits x && same x.service s in
    let f : FirstFound test (records h) r = first_found test (records h) r (distinct_records h) q in
    let first : IsFirst t.offered h r = each_found (IsFirst t.offered h) (λ (y : Request). same_key y.key r.key) (records h) r st.firsts f.found in
    kept_more r.key h (Grants r.key s) r f.found ∙ ap Some (grants_it t.offered h s r first (and_parts (waits r) (same r.service s) f.passes).0)

-- the line sessions after a grant

each_two : {A : Type 0} (P Q R : A → Type 0) (xs : List A) → ((x : A) → P x → Q x → R x) → Each P xs → Each Q xs → Each R xs
each_two P Q R [] f p q = tt
each_two P Q R (x ∷ xs) f p q = (f x p.0 q.0, each_two P Q R xs f p.1 q.1)

each_last : {A : Type 0} (P : A → Type 0) (xs : List A) (y : A) → Each P (xs ++ y ∷ []) → P y
each_last P [] y p = p.0
each_last P (x ∷ xs) y p = each_last P xs y p.1

pub grant_concluded : (m n : ℕ) (c d : Core) (h : List QueueEvent) (k : Key) (s : Name) → Opening c (Some k) d → Each (IsSeat m c) c.seats → Each (IsSeat n d) d.seats → kept_for k (h ++ Grants k s ∷ []) ≡ Some Granted → Concluded c h → Concluded d (h ++ Grants k s ∷ [])
grant_concluded m n c d h k s o i j g p =
    subst (AreConcluded d (h ++ Grants k s ∷ [])) (sym o.seats)
    (each_append (λ (t : Seat). IsConcluded (h ++ Grants k s ∷ []) t.key (over d t)) c.seats (o.seat ∷ [])
    (each_two (IsSeat m c) (λ (t : Seat). IsConcluded h t.key (over c t)) (λ (t : Seat). IsConcluded (h ++ Grants k s ∷ []) t.key (over d t)) c.seats (λ t a b. one t a t.key b) i p)
    (subst (λ z. IsConcluded (h ++ Grants k s ∷ []) z (over d o.seat)) (sym o.key) (inr (o.held n (each_last (IsSeat n d) c.seats o.seat (subst (Each (IsSeat n d)) o.seats j)), g)), tt))
  where
    one : (t : Seat) → IsSeat m c t → (z : Option Key) → IsConcluded h z (over c t) → IsConcluded (h ++ Grants k s ∷ []) z (over d t)
    one t a None b = tt
    one t a (Some x) (inl e) = inl (done_stays x h (Grants k s) e)
    one t a (Some x) (inr e) = inr (o.kept t a.drawn e.0, granted_stays x h (Grants k s) (λ y. refl) e.1)
