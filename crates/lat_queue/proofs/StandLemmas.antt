-- The queue stands for one event more.
use Rattle.std.proofs.Common.{◌≡◌, ◌≢◌, ℕ, ◌+◌, ◌<◌, arith, refl, sym, ap, ap₂, ◌∙◌, subst, Bool, true, false, cond, ◌||◌, List, [], ◌∷◌, ◌++◌, map, length, Option, Some, None, find, true≢false}
use Rattle.std.specs.List.{list_any}
use Rattle.std.specs.Option.{is_some}
use Rattle.std.proofs.lemmas.List.{append-nil, length-append}
use Rattle.lat_model.specs.Lists.{Each}
use Rattle.lat_machines.specs.values.Names.{Name}
use Rattle.lat_machines.specs.values.Notices as answers
use Rattle.lat_machines.specs.values.Keys as keys
use Rattle.lat_machines.specs.values.Keys.{same_key}
use Rattle.lat_machines.specs.server.Queue.{QueueEvent, Cancels, Grants, Finishes, Request, cancels, grants, finishes, is_waiting, first_asks, records, LegalQueue}
use Rattle.lat_machines.specs.server.Records.{grants_of, grant_of, place_among, record_of}
use Rattle.lat_queue.specs.declared.key.Key.{Key}
use Rattle.lat_queue.specs.declared.entry.Entry.{Entry}
use Rattle.lat_queue.specs.declared.entry.Standing.{Standing}
use Rattle.lat_queue.specs.declared.entry.Standing.TheVariants.{Waits, Granted, Done, Cancelled}
use Rattle.lat_queue.specs.Tables.{Table, waits_somewhere}
use Rattle.lat_queue.specs.Histories.{Noted, noted, refused_as, waited, line_of, standing_in, noted_in, IsFirst, Stands}
use Rattle.lat_queue.proofs.EventLemmas.{extend, any_more, any_not_more, grants_more, place_other, place_own, place_some, find_extend, find_front, find_same}
use Rattle.lat_queue.proofs.RecordLemmas.{restand, each_all}

-- one record

-- as it stands by its grant, and whether a cancel and an end came
abbrev pub as_noted : List Name → Request → Option ℕ → Bool → Bool → Noted
as_noted o r g c f = record { key = r.key; from = r.from; service = r.service; standing = cond (is_waiting r.answer) (waited g c f (Waits (line_of o r.service))) (refused_as r.answer) }

pub grant_still : (h : List QueueEvent) (e : QueueEvent) (k : keys.Key) → grants_of (e ∷ []) ≡ [] → grant_of k (h ++ e ∷ []) ≡ grant_of k h
grant_still h e k q = ap (place_among k 1) (grants_more h e ∙ ap (λ z. grants_of h ++ z) q ∙ append-nil (grants_of h))

pub stays : (o : List Name) (h : List QueueEvent) (e : QueueEvent) (r : Request) → grant_of r.key (h ++ e ∷ []) ≡ grant_of r.key h → cancels r.key e ≡ false → finishes r.key e ≡ false → noted_in o (h ++ e ∷ []) (extend e r) ≡ noted_in o h r
stays o h e r g c f =
    ap (λ z. as_noted o r z (list_any (cancels r.key) (r.later ++ e ∷ [])) (list_any (finishes r.key) (r.later ++ e ∷ []))) g
    ∙ ap (λ z. as_noted o r (grant_of r.key h) z (list_any (finishes r.key) (r.later ++ e ∷ []))) (any_not_more (cancels r.key) r.later e c)
    ∙ ap (λ z. as_noted o r (grant_of r.key h) (list_any (cancels r.key) r.later) z) (any_not_more (finishes r.key) r.later e f)

pub not_turned : (a : answers.Kept) → waits_somewhere (refused_as a) ≡ false
not_turned (answers.Waiting p) = refl
not_turned answers.Granted = refl
not_turned answers.Cancelled = refl
not_turned answers.QueueFull = refl
not_turned answers.NoService = refl
not_turned answers.RecordsFull = refl
not_turned answers.Done = refl

turned_not : (a : answers.Kept) (i : ℕ) → refused_as a ≡ Waits i → ⊥
turned_not a i q = true≢false (sym (ap waits_somewhere q) ∙ not_turned a)

-- who waits was told so, has no grant, and was not cancelled
pub record IsWaiting (g : Option ℕ) (a c : Bool) : Type 0 where
  pub told : a ≡ true
  pub no_grant : g ≡ None
  pub no_cancel : c ≡ false

pub is_waiting_now : (a : Bool) (g : Option ℕ) (c f : Bool) (w t : Standing) → waits_somewhere t ≡ false → waits_somewhere (cond a (waited g c f w) t) ≡ true → IsWaiting g a c
is_waiting_now false g c f w t n q = absurd (true≢false (sym q ∙ n))
is_waiting_now true None true f w t n q = absurd (true≢false (sym q))
is_waiting_now true None false f w t n q = record { told = refl; no_grant = refl; no_cancel = refl }
is_waiting_now true (Some m) c true w t n q = absurd (true≢false (sym q))
is_waiting_now true (Some m) c false w t n q = absurd (true≢false (sym q))

pub waiting_is : (o : List Name) (h : List QueueEvent) (r : Request) (i : ℕ) → standing_in o h r ≡ Waits i → IsWaiting (grant_of r.key h) (is_waiting r.answer) (list_any (cancels r.key) r.later)
waiting_is o h r i q = is_waiting_now (is_waiting r.answer) (grant_of r.key h) (list_any (cancels r.key) r.later) (list_any (finishes r.key) r.later) (Waits (line_of o r.service)) (refused_as r.answer) (not_turned r.answer) (ap waits_somewhere q)

pub cancel_waits : (o : List Name) (h : List QueueEvent) (k : keys.Key) (r : Request) (i : ℕ) → same_key r.key k ≡ true → standing_in o h r ≡ Waits i → noted_in o (h ++ Cancels k ∷ []) (extend (Cancels k) r) ≡ restand Cancelled (noted_in o h r)
cancel_waits o h k r i t q =
    let w : IsWaiting (grant_of r.key h) (is_waiting r.answer) (list_any (cancels r.key) r.later) = waiting_is o h r i q in
    let e : QueueEvent = Cancels k in
    ap (λ z. as_noted o r z (list_any (cancels r.key) (r.later ++ e ∷ [])) (list_any (finishes r.key) (r.later ++ e ∷ []))) (grant_still h e r.key refl ∙ w.no_grant)
    ∙ ap (λ z. as_noted o r None z (list_any (finishes r.key) (r.later ++ e ∷ []))) (any_more (cancels r.key) r.later e ∙ ap₂ (λ a b. a || b) w.no_cancel t)
    ∙ ap (λ z. record { key = r.key; from = r.from; service = r.service; standing = cond z Cancelled (refused_as r.answer) }) w.told

cancel_other : (a : Bool) (g : Option ℕ) (c f : Bool) (i : ℕ) (t : Standing) → waits_somewhere (cond a (waited g c f (Waits i)) t) ≡ false → cond a (waited g (c || true) f (Waits i)) t ≡ cond a (waited g c f (Waits i)) t
cancel_other false g c f i t q = refl
cancel_other true None true f i t q = refl
cancel_other true None false f i t q = absurd (true≢false q)
cancel_other true (Some m) c true i t q = refl
cancel_other true (Some m) c false i t q = refl

-- a cancel of one that doesn't wait
pub cancel_stays : (o : List Name) (h : List QueueEvent) (k : keys.Key) (r : Request) → same_key r.key k ≡ true → waits_somewhere (standing_in o h r) ≡ false → noted_in o (h ++ Cancels k ∷ []) (extend (Cancels k) r) ≡ noted_in o h r
cancel_stays o h k r t q =
    let e : QueueEvent = Cancels k in
    ap (λ z. as_noted o r z (list_any (cancels r.key) (r.later ++ e ∷ [])) (list_any (finishes r.key) (r.later ++ e ∷ []))) (grant_still h e r.key refl)
    ∙ ap (λ z. as_noted o r (grant_of r.key h) (list_any (cancels r.key) (r.later ++ e ∷ [])) z) (any_not_more (finishes r.key) r.later e refl)
    ∙ ap (λ z. as_noted o r (grant_of r.key h) z (list_any (finishes r.key) r.later)) (any_more (cancels r.key) r.later e ∙ ap (λ z. list_any (cancels r.key) r.later || z) t)
    ∙ ap (λ z. record { key = r.key; from = r.from; service = r.service; standing = z }) (cancel_other (is_waiting r.answer) (grant_of r.key h) (list_any (cancels r.key) r.later) (list_any (finishes r.key) r.later) (line_of o r.service) (refused_as r.answer) q)

-- a grant of one that waits
pub grant_waits : (o : List Name) (h : List QueueEvent) (k : keys.Key) (s : Name) (r : Request) (i : ℕ) → IsFirst o h r → same_key r.key k ≡ true → standing_in o h r ≡ Waits i → noted_in o (h ++ Grants k s ∷ []) (extend (Grants k s) r) ≡ restand (Granted (length (grants_of h) + 1)) (noted_in o h r)
grant_waits o h k s r i first t q =
    let w : IsWaiting (grant_of r.key h) (is_waiting r.answer) (list_any (cancels r.key) r.later) = waiting_is o h r i q in
    let e : QueueEvent = Grants k s in
    let n : 1 + length (grants_of h) ≡ length (grants_of h) + 1 = omega arith in
    ap (λ z. as_noted o r z (list_any (cancels r.key) (r.later ++ e ∷ [])) (list_any (finishes r.key) (r.later ++ e ∷ []))) (ap (place_among r.key 1) (grants_more h e) ∙ place_own r.key k 1 (grants_of h) t w.no_grant ∙ ap Some n)
    ∙ ap (λ z. as_noted o r (Some (length (grants_of h) + 1)) (list_any (cancels r.key) (r.later ++ e ∷ [])) z) (any_not_more (finishes r.key) r.later e refl ∙ first.ended_then w.no_grant)
    ∙ ap (λ z. record { key = r.key; from = r.from; service = r.service; standing = cond z (Granted (length (grants_of h) + 1)) (refused_as r.answer) }) w.told

not_granted : (a : answers.Kept) (n : ℕ) → refused_as a ≢ Granted n
not_granted (answers.Waiting p) n q = let z : ⊥ = cc in z
not_granted answers.Granted n q = let z : ⊥ = cc in z
not_granted answers.Cancelled n q = let z : ⊥ = cc in z
not_granted answers.QueueFull n q = let z : ⊥ = cc in z
not_granted answers.NoService n q = let z : ⊥ = cc in z
not_granted answers.RecordsFull n q = let z : ⊥ = cc in z
not_granted answers.Done n q = let z : ⊥ = cc in z

pub record IsGranted (g : Option ℕ) (a f : Bool) (n : ℕ) : Type 0 where
  pub told : a ≡ true
  pub grant : g ≡ Some n
  pub no_end : f ≡ false

granted_now : (a : Bool) (g : Option ℕ) (c f : Bool) (i n : ℕ) (t : Standing) → t ≢ Granted n → cond a (waited g c f (Waits i)) t ≡ Granted n → IsGranted g a f n
granted_now false g c f i n t never q = absurd (never q)
granted_now true None true f i n t never q = let z : ⊥ = cc in absurd z
granted_now true None false f i n t never q = let z : ⊥ = cc in absurd z
granted_now true (Some m) c true i n t never q = let z : ⊥ = cc in absurd z
granted_now true (Some m) c false i n t never q = let e : m ≡ n = cc in record { told = refl; grant = ap Some e; no_end = refl }

pub granted_is : (o : List Name) (h : List QueueEvent) (r : Request) (n : ℕ) → standing_in o h r ≡ Granted n → IsGranted (grant_of r.key h) (is_waiting r.answer) (list_any (finishes r.key) r.later) n
granted_is o h r n q = granted_now (is_waiting r.answer) (grant_of r.key h) (list_any (cancels r.key) r.later) (list_any (finishes r.key) r.later) (line_of o r.service) n (refused_as r.answer) (not_granted r.answer n) q

or_true : (b : Bool) → b || true ≡ true
or_true true = refl
or_true false = refl

-- the end of one that is granted
pub finish_granted : (o : List Name) (h : List QueueEvent) (k : keys.Key) (r : Request) (n : ℕ) → same_key r.key k ≡ true → standing_in o h r ≡ Granted n → noted_in o (h ++ Finishes k ∷ []) (extend (Finishes k) r) ≡ restand (Done n) (noted_in o h r)
finish_granted o h k r n t q =
    let w : IsGranted (grant_of r.key h) (is_waiting r.answer) (list_any (finishes r.key) r.later) n = granted_is o h r n q in
    let e : QueueEvent = Finishes k in
    ap (λ z. as_noted o r z (list_any (cancels r.key) (r.later ++ e ∷ [])) (list_any (finishes r.key) (r.later ++ e ∷ []))) (grant_still h e r.key refl ∙ w.grant)
    ∙ ap (λ z. as_noted o r (Some n) (list_any (cancels r.key) (r.later ++ e ∷ [])) z) (any_more (finishes r.key) r.later e ∙ ap (λ z. list_any (finishes r.key) r.later || z) t ∙ or_true (list_any (finishes r.key) r.later))
    ∙ ap (λ z. record { key = r.key; from = r.from; service = r.service; standing = cond z (Done n) (refused_as r.answer) }) w.told

-- first asks

pub each_map : {A B : Type 0} (P : B → Type 0) (f : A → B) (xs : List A) → Each (λ x. P (f x)) xs → Each P (map f xs)
each_map P f [] h = tt
each_map P f (x ∷ xs) h = (h.0, each_map P f xs h.1)

pub each_append : {A : Type 0} (P : A → Type 0) (xs ys : List A) → Each P xs → Each P ys → Each P (xs ++ ys)
each_append P [] ys p q = q
each_append P (x ∷ xs) ys p q = (p.0, each_append P xs ys p.1 q)

first_still : (o : List Name) (h : List QueueEvent) (e : QueueEvent) (r : Request) → grants_of (e ∷ []) ≡ [] → grants r.key e ≡ false → (grant_of r.key h ≡ None → finishes r.key e ≡ false) → IsFirst o h r → IsFirst o (h ++ e ∷ []) (extend e r)
first_still o h e r q g f i = record {
  answered = i.answered;
  offered_then = i.offered_then;
  asked_then = λ w. grant_still h e r.key q ∙ i.asked_then w;
  granted_then = any_not_more (grants r.key) r.later e g ∙ i.granted_then ∙ ap is_some (sym (grant_still h e r.key q));
  ended_then = λ n. (let m : grant_of r.key h ≡ None = sym (grant_still h e r.key q) ∙ n in any_not_more (finishes r.key) r.later e (f m) ∙ i.ended_then m);
}

first_granted : (o : List Name) (h : List QueueEvent) (k : keys.Key) (s : Name) (r : Request) → (same_key r.key k ≡ true → is_waiting r.answer ≡ true) → IsFirst o h r → IsFirst o (h ++ Grants k s ∷ []) (extend (Grants k s) r)
first_granted o h k s r told i = record {
  answered = i.answered;
  offered_then = i.offered_then;
  granted_then = any_more (grants r.key) r.later (Grants k s) ∙ ap (λ z. z || same_key r.key k) i.granted_then ∙ by (same_key r.key k) refl (grant_of r.key h) refl ∙ ap (λ z. is_some (place_among r.key 1 z)) (sym (grants_more h (Grants k s)));
  asked_then = λ w. ap (place_among r.key 1) (grants_more h (Grants k s)) ∙ place_other r.key k 1 (grants_of h) (apart w (same_key r.key k) refl) ∙ i.asked_then w;
  ended_then = λ n. any_not_more (finishes r.key) r.later (Grants k s) refl ∙ i.ended_then (none (grant_of r.key h) refl (ap (place_among r.key 1) (sym (grants_more h (Grants k s))) ∙ n));
}
  where
    apart : is_waiting r.answer ≡ false → (b : Bool) → same_key r.key k ≡ b → same_key r.key k ≡ false
    apart w true q = absurd (true≢false (sym (told q) ∙ w))
    apart w false q = q

    by : (b : Bool) → same_key r.key k ≡ b → (g : Option ℕ) → grant_of r.key h ≡ g → is_some g || b ≡ is_some (place_among r.key 1 (grants_of h ++ k ∷ []))
    by true t None q = ap is_some (sym (place_own r.key k 1 (grants_of h) t q))
    by true t (Some m) q = ap is_some (sym (place_some r.key k 1 m (grants_of h) q))
    by false t None q = ap is_some (sym (place_other r.key k 1 (grants_of h) t ∙ q))
    by false t (Some m) q = ap is_some (sym (place_some r.key k 1 m (grants_of h) q))

    none : (g : Option ℕ) → grant_of r.key h ≡ g → place_among r.key 1 (grants_of h ++ k ∷ []) ≡ None → grant_of r.key h ≡ None
    none None q n = q
    none (Some m) q n = let z : ⊥ = (let p : Some m ≡ None = sym (place_some r.key k 1 m (grants_of h) q) ∙ n in cc) in absurd z

each_both : {A : Type 0} (P Q R : A → Type 0) (xs : List A) → ((x : A) → P x → Q x → R x) → Each P xs → Each Q xs → Each R xs
each_both P Q R [] f p q = tt
each_both P Q R (x ∷ xs) f p q = (f x p.0 q.0, each_both P Q R xs f p.1 q.1)

-- the whole queue

pub stands_quiet : (t : Table) (es : List (Key × Entry)) (h : List QueueEvent) (e : QueueEvent) (new : List Request) → Stands t h → grants_of (e ∷ []) ≡ [] → ((k : keys.Key) → grants k e ≡ false) → ((r : Request) → grant_of r.key h ≡ None → finishes r.key e ≡ false)
    → records (h ++ e ∷ []) ≡ map (extend e) (records h) ++ new → (length (records (h ++ e ∷ [])) < 65536 → records (h ++ e ∷ []) ≡ first_asks [] (h ++ e ∷ [])) → Each (IsFirst t.offered (h ++ e ∷ [])) new
    → map noted es ≡ map (noted_in t.offered (h ++ e ∷ [])) (map (extend e) (records h) ++ new) → LegalQueue (h ++ e ∷ []) → Stands (record { offered = t.offered; entries = es; granted = t.granted }) (h ++ e ∷ [])
stands_quiet t es h e new st q g f rec room firsts entries legal = record {
  entries = entries ∙ ap (map (noted_in t.offered (h ++ e ∷ []))) (sym rec);
  granted = st.granted ∙ ap length (sym (grants_more h e ∙ ap (λ z. grants_of h ++ z) q ∙ append-nil (grants_of h)));
  firsts = subst (Each (IsFirst t.offered (h ++ e ∷ []))) (sym rec) (each_append (IsFirst t.offered (h ++ e ∷ [])) (map (extend e) (records h)) new (each_map (IsFirst t.offered (h ++ e ∷ [])) (extend e) (records h) (each_all (IsFirst t.offered h) (λ (r : Request). IsFirst t.offered (h ++ e ∷ []) (extend e r)) (records h) (λ r i. first_still t.offered h e r q (g r.key) (f r) i) st.firsts)) firsts);
  known = λ k n. grant_still h e k q ∙ st.known k (find_extend k e (records h) (find_front k (map (extend e) (records h)) new (ap (find (λ (x : Request). same_key x.key k)) (sym rec) ∙ n)));
  room = room;
  legal = legal;
}

pub stands_grant : (t : Table) (es : List (Key × Entry)) (h : List QueueEvent) (k : keys.Key) (s : Name) (r : Request) → Stands t h → record_of k h ≡ Some r → Each (λ (x : Request). same_key x.key k ≡ true → is_waiting x.answer ≡ true) (records h) → records (h ++ Grants k s ∷ []) ≡ map (extend (Grants k s)) (records h) → (length (records (h ++ Grants k s ∷ [])) < 65536 → records (h ++ Grants k s ∷ []) ≡ first_asks [] (h ++ Grants k s ∷ []))
    → map noted es ≡ map (noted_in t.offered (h ++ Grants k s ∷ [])) (map (extend (Grants k s)) (records h)) → LegalQueue (h ++ Grants k s ∷ []) → Stands (record { offered = t.offered; entries = es; granted = t.granted + 1 }) (h ++ Grants k s ∷ [])
stands_grant t es h k s r st there told rec room entries legal = record {
  entries = entries ∙ ap (map (noted_in t.offered (h ++ e ∷ []))) (sym rec);
  granted = ap (λ z. z + 1) st.granted ∙ sym (ap length (grants_more h e) ∙ length-append (grants_of h) (k ∷ []));
  firsts = subst (Each (IsFirst t.offered (h ++ e ∷ []))) (sym rec) (each_map (IsFirst t.offered (h ++ e ∷ [])) (extend e) (records h) (each_both (λ (x : Request). same_key x.key k ≡ true → is_waiting x.answer ≡ true) (IsFirst t.offered h) (λ (x : Request). IsFirst t.offered (h ++ e ∷ []) (extend e x)) (records h) (λ x w i. first_granted t.offered h k s x w i) told st.firsts));
  known = λ j n. (let none : record_of j h ≡ None = find_extend j e (records h) (ap (find (λ (x : Request). same_key x.key j)) (sym rec) ∙ n) in ap (place_among j 1) (grants_more h e) ∙ place_other j k 1 (grants_of h) (other j none (same_key j k) refl) ∙ st.known j none);
  room = room;
  legal = legal;
}
  where
    e : QueueEvent
    e = Grants k s

    other : (j : keys.Key) → record_of j h ≡ None → (b : Bool) → same_key j k ≡ b → same_key j k ≡ false
    other j n false q = q
    other j n true q = let z : ⊥ = (let p : Some r ≡ None = sym there ∙ sym (find_same j k (records h) q) ∙ n in cc) in absurd z
