-- What the queue stands for after each call.
use Rattle.std.proofs.Common.{◌≡◌, ℕ, ◌+◌, ◌<◌, ◌≤◌, arith, refl, sym, ap, ap₂, ◌∙◌, subst, Bool, true, false, not, cond, ◌&&◌, ◌||◌, List, [], ◌∷◌, ◌++◌, map, length, filter, Option, Some, None, find, position, nat_le, true≢false}
use Rattle.std.specs.List.{list_any}
use Rattle.std.specs.Option.{is_some}
use Rattle.std.specs.Prelude.{Result, Ok, Err, IfOk, OnOk}
use Rattle.std.specs.Map.{lookup}
use Rattle.std.proofs.lemmas.List.{append-nil, length-map, length-append, map-append}
use Rattle.std.proofs.lemmas.Bool.{and_parts, or_parts}
use Rattle.indexmap.specs.IndexMap.{insert_entry}
use Rattle.lat_model.specs.Lists.{Each}
use Rattle.lat_machines.specs.values.Names.{Name, same}
use Rattle.lat_machines.specs.values.Keys as keys
use Rattle.lat_machines.specs.values.Keys.{same_key}
use Rattle.lat_machines.specs.values.Notices as answers
use Rattle.lat_machines.specs.values.Notices.{Kept}
use Rattle.lat_machines.specs.server.Queue.{QueueEvent, Asks, Cancels, Grants, Finishes, Request, cancels, grants, finishes, is_waiting, is_overfull, first_asks, records, waits, first, next_request, LegalQueue}
use Rattle.lat_machines.specs.server.Records.{grants_of, grant_of, place_among, kept_for, record_of, is_granted}
use Rattle.lat_base.specs.declared.addr.Addr.{Addr}
use Rattle.lat_base.specs.declared.kept.Kept as base
use Rattle.lat_machines.specs.values.Addresses.{address}
use Rattle.lat_queue.specs.declared.key.Key.{Key}
use Rattle.lat_queue.specs.declared.entry.Entry.{Entry}
use Rattle.lat_queue.specs.declared.entry.Standing.{Standing}
use Rattle.lat_queue.specs.declared.entry.Standing.TheVariants as stands
use Rattle.lat_queue.specs.KeyHash.{one_key}
use Rattle.lat_queue.specs.Tables.{Table, waits_somewhere, waiters, info_of, entry_info, info, standing_at, new_standing, new_info, added, with_standing, restood, waiting_entry, waiting_found, waiting_of, cancelled_by, cancelled, given_by, given, finished_entry, finished_by, finished, first_of}
use Rattle.lat_queue.specs.Histories.{Noted, noted, key_shown, some_kept, some_first, some_request, request_key, waited, refused_as, line_of, standing_in, noted_in, is_first_answer, IsFirst, Stands, finish_history}
use Rattle.lat_queue.specs.KeptValues.{kept_shown}
use Rattle.lat_queue.proofs.KeyLemmas.{key_self, key_turn, key_right}
use Rattle.lat_queue.proofs.EventLemmas.{extend, Grows, grows_cancel, grows_grant, grows_finish, grows_again, full_asks, grows_new, grants_more, place_other, place_same}
use Rattle.lat_machines.proofs.queue.Legal.{legal_none}
use Rattle.lat_queue.proofs.LegalLemmas.{legal_ask, legal_cancel, legal_finish, legal_grant}
use Rattle.lat_queue.proofs.RecordLemmas.{Distinct, distinct_records, each_all, Found, restand, map_same, map_twice, moved, unmoved, unmoved_none}
use Rattle.lat_queue.proofs.StandLemmas.{grant_still, stays, cancel_waits, cancel_stays, grant_waits, granted_is, finish_granted, stands_quiet, stands_grant}
use Rattle.lat_queue.proofs.InfoLemmas.{info_known, unknown, info_right, count_is, each_found}
use Rattle.lat_queue.proofs.WaitLemmas.{Stood, stood, first_right, any_either}

each_of : {A : Type 0} (P : A → Type 0) → ((x : A) → P x) → (xs : List A) → Each P xs
each_of P f [] = tt
each_of P f (x ∷ xs) = (f x, each_of P f xs)

rooms : (t : Table) (h : List QueueEvent) (e : QueueEvent) (new : List Request) → Stands t h → Grows h e new → length (records (h ++ e ∷ [])) < 65536 → records (h ++ e ∷ []) ≡ first_asks [] (h ++ e ∷ [])
rooms t h e new st g l =
    let n : length (records (h ++ e ∷ [])) ≡ length (records h) + length new = ap length g.are ∙ length-append (map (extend e) (records h)) new ∙ ap (λ z. z + length new) (length-map (records h) (extend e)) in
    let few : length (records h) < 65536 = omega (arith, l, n) in
    g.room few (st.room few)

-- no new record
still_stands : (t : Table) (es : List (Key × Entry)) (h : List QueueEvent) (e : QueueEvent) → Stands t h → Grows h e [] → grants_of (e ∷ []) ≡ [] → ((k : keys.Key) → grants k e ≡ false) → ((r : Request) → grant_of r.key h ≡ None → finishes r.key e ≡ false)
    → map noted es ≡ map (λ r. noted_in t.offered (h ++ e ∷ []) (extend e r)) (records h) → LegalQueue (h ++ e ∷ []) → Stands (record { offered = t.offered; entries = es; granted = t.granted }) (h ++ e ∷ [])
still_stands t es h e st g q n f entries legal =
    stands_quiet t es h e [] st q n f g.are (rooms t h e [] st g) tt (entries ∙ sym (map_twice (noted_in t.offered (h ++ e ∷ [])) (extend e) (records h)) ∙ ap (map (noted_in t.offered (h ++ e ∷ []))) (sym (append-nil (map (extend e) (records h))))) legal

-- an ask changes no record
asks_stay : (o : List Name) (h : List QueueEvent) (k : keys.Key) (from : ℕ) (s : Name) (a : Kept) (rs : List Request) → map (noted_in o h) rs ≡ map (λ r. noted_in o (h ++ Asks k from s a ∷ []) (extend (Asks k from s a) r)) rs
asks_stay o h k from s a rs = sym (map_same (λ (r : Request). noted_in o (h ++ Asks k from s a ∷ []) (extend (Asks k from s a) r)) (noted_in o h) rs (each_of (λ (r : Request). noted_in o (h ++ Asks k from s a ∷ []) (extend (Asks k from s a) r) ≡ noted_in o h r) (λ r. stays o h (Asks k from s a) r (grant_still h (Asks k from s a) r.key refl) refl refl) rs))

pub stands_again : (t : Table) (h : List QueueEvent) (k : Key) (from : Addr) (s : Name) (a : base.Kept) → Stands t h → info t k ≡ Some a → Stands t (h ++ Asks (key_shown k) (address from.0) s (kept_shown a) ∷ [])
stands_again t h k from s a st q = by (lookup (one_key k) t.entries) refl q
  where
    e : QueueEvent
    e = Asks (key_shown k) (address from.0) s (kept_shown a)

    by : (o : Option Entry) → lookup (one_key k) t.entries ≡ o → entry_info t.entries k o ≡ Some a → Stands t (h ++ e ∷ [])
    by None l q = let z : ⊥ = cc in absurd z
    by (Some x) l q =
        let f : Found (noted_in t.offered h) (records h) k x = info_known t h k x st l in
        still_stands t t.entries h e st (grows_again h (key_shown k) (address from.0) s (kept_shown a) f.request f.found) refl (λ j. refl) (λ r n. refl)
        (st.entries ∙ asks_stay t.offered h (key_shown k) (address from.0) s (kept_shown a) (records h)) (legal_ask h (key_shown k) (address from.0) s (kept_shown a) st.legal)

pub stands_full : (t : Table) (h : List QueueEvent) (k : Key) (from : Addr) (s : Name) → Stands t h → 65536 ≤ length t.entries → Stands t (h ++ Asks (key_shown k) (address from.0) s answers.RecordsFull ∷ [])
stands_full t h k from s st n =
    let e : QueueEvent = Asks (key_shown k) (address from.0) s answers.RecordsFull in
    let are : records (h ++ e ∷ []) ≡ map (extend e) (records h) = full_asks h (key_shown k) (address from.0) s answers.RecordsFull refl in
    let c : length (records (h ++ e ∷ [])) ≡ length t.entries = ap length are ∙ length-map (records h) (extend e) ∙ sym (count_is t h st) in
    stands_quiet t t.entries h e [] st refl (λ j. refl) (λ r m. refl) (are ∙ sym (append-nil (map (extend e) (records h)))) (λ l. absurd (omega (arith, l, c, n))) tt
    (st.entries ∙ asks_stay t.offered h (key_shown k) (address from.0) s answers.RecordsFull (records h) ∙ sym (map_twice (noted_in t.offered (h ++ e ∷ [])) (extend e) (records h)) ∙ ap (map (noted_in t.offered (h ++ e ∷ []))) (sym (append-nil (map (extend e) (records h)))))
    (legal_ask h (key_shown k) (address from.0) s answers.RecordsFull st.legal)

-- a new record

record NewStands (o : List Name) (s : Name) (a : Kept) (standing : Standing) : Type 0 where
  pub not_full : is_overfull a ≡ false
  pub answered : is_first_answer a ≡ true
  pub stands : standing ≡ cond (is_waiting a) (stands.Waits (line_of o s)) (refused_as a)
  pub offered : is_waiting a ≡ true → line_of o s < length o

new_stands : (t : Table) (s : Name) → NewStands t.offered s (kept_shown (new_info t (new_standing t s))) (new_standing t s)
new_stands t s = by (position (λ n. same s n) t.offered) refl
  where
    at : (i : ℕ) → line_of t.offered s ≡ i → i < length t.offered → (b : Bool) → NewStands t.offered s (kept_shown (new_info t (cond b stands.QueueFull (stands.Waits i)))) (cond b stands.QueueFull (stands.Waits i))
    at i l w true = record { not_full = refl; answered = refl; stands = refl; offered = λ q. absurd (true≢false (sym q)) }
    at i l w false = record { not_full = refl; answered = refl; stands = ap stands.Waits (sym l); offered = λ q. subst (λ z. z < length t.offered) (sym l) w }

    by : (p : Option ℕ) → position (λ n. same s n) t.offered ≡ p → NewStands t.offered s (kept_shown (new_info t (standing_at t.entries p))) (standing_at t.entries p)
    by None q = record { not_full = refl; answered = refl; stands = refl; offered = λ m. absurd (true≢false (sym m)) }
    by (Some i) q = let p : Stood t.offered s (position (λ n. same s n) t.offered) i = stood t.offered s i q in at i p.line p.within (nat_le 64 (length (waiters i t.entries)))

pub stands_new : (t : Table) (h : List QueueEvent) (k : Key) (from : Addr) (s : Name) → Stands t h → lookup (one_key k) t.entries ≡ None → length t.entries < 65536
    → Stands (added t k (record { from = from; service = s; standing = new_standing t s })) (h ++ Asks (key_shown k) (address from.0) s (kept_shown (new_info t (new_standing t s))) ∷ [])
stands_new t h k from s st l n =
    stands_quiet t (t.entries ++ (k, entry) ∷ []) h e (new ∷ []) st refl (λ j. refl) (λ r m. refl) grown.are (rooms t h e (new ∷ []) st grown) (first, tt)
    (map-append noted t.entries ((k, entry) ∷ []) ∙ ap₂ (λ a b. a ++ b ∷ []) (st.entries ∙ asks_stay t.offered h (key_shown k) (address from.0) s answer (records h) ∙ sym (map_twice (noted_in t.offered (h ++ e ∷ [])) (extend e) (records h))) one ∙ sym (map-append (noted_in t.offered (h ++ e ∷ [])) (map (extend e) (records h)) (new ∷ [])))
    (legal_ask h (key_shown k) (address from.0) s answer st.legal)
  where
    answer : Kept
    answer = kept_shown (new_info t (new_standing t s))

    e : QueueEvent
    e = Asks (key_shown k) (address from.0) s answer

    entry : Entry
    entry = record { from = from; service = s; standing = new_standing t s }

    new : Request
    new = record { key = key_shown k; from = address from.0; service = s; answer = answer; later = [] }

    is : NewStands t.offered s answer (new_standing t s)
    is = new_stands t s

    none : record_of (key_shown k) h ≡ None
    none = unknown t h k st l

    no_grant : grant_of (key_shown k) (h ++ e ∷ []) ≡ None
    no_grant = grant_still h e (key_shown k) refl ∙ st.known (key_shown k) none

    grown : Grows h e (new ∷ [])
    grown = grows_new h (key_shown k) (address from.0) s answer none (st.room (let c : length t.entries ≡ length (records h) = count_is t h st in omega (arith, c, n))) is.not_full

    first : IsFirst t.offered (h ++ e ∷ []) new
    first = record { answered = is.answered; offered_then = is.offered; granted_then = ap is_some (sym no_grant); asked_then = λ m. no_grant; ended_then = λ m. refl }

    one : noted (k, entry) ≡ noted_in t.offered (h ++ e ∷ []) new
    one = ap (λ z. record { key = key_shown k; from = address from.0; service = s; standing = z }) (is.stands ∙ ap (λ z. cond (is_waiting answer) (waited z false false (stands.Waits (line_of t.offered s))) (refused_as answer)) (sym no_grant))

-- a cancel

pub stands_cancelled : (t : Table) (h : List QueueEvent) (k : Key) → Stands t h → Stands (cancelled t k) (h ++ Cancels (key_shown k) ∷ [])
stands_cancelled t h k st = by (lookup (one_key k) t.entries) refl
  where
    e : QueueEvent
    e = Cancels (key_shown k)

    g : Request → Noted
    g = noted_in t.offered h

    g' : Request → Noted
    g' r = noted_in t.offered (h ++ e ∷ []) (extend e r)

    others : (r : Request) → same_key r.key (key_shown k) ≡ false → g' r ≡ g r
    others r q = stays t.offered h e r (grant_still h e r.key refl) q refl

    then : (es : List (Key × Entry)) → map noted es ≡ map g' (records h) → Stands (record { offered = t.offered; entries = es; granted = t.granted }) (h ++ e ∷ [])
    then es q = still_stands t es h e st (grows_cancel h (key_shown k)) refl (λ j. refl) (λ r n. refl) q (legal_cancel h (key_shown k) st.legal)

    idle : (x : Entry) → lookup (one_key k) t.entries ≡ Some x → waits_somewhere x.standing ≡ false → Stands t (h ++ e ∷ [])
    idle x l w = then t.entries (unmoved g g' (λ r. refl) k x others (λ r q s. cancel_stays t.offered h (key_shown k) r q (ap waits_somewhere s ∙ w)) t.entries (records h) st.entries (distinct_records h) l)

    at : (x : Entry) (s : Standing) → x.standing ≡ s → lookup (one_key k) t.entries ≡ Some x → Stands (cancelled_by t k (waiting_entry x s)) (h ++ e ∷ [])
    at x (stands.Waits i) q l = then (insert_entry one_key t.entries k (with_standing x stands.Cancelled)) (moved (λ r. Unit {0}) g g' (λ r. refl) k x stands.Cancelled others (λ r u p s. cancel_waits t.offered h (key_shown k) r i p (s ∙ q)) t.entries (records h) st.entries (distinct_records h) (each_of (λ r. Unit {0}) (λ r. tt) (records h)) l)
    at x (stands.Granted n) q l = idle x l (ap waits_somewhere q)
    at x (stands.Done n) q l = idle x l (ap waits_somewhere q)
    at x stands.Cancelled q l = idle x l (ap waits_somewhere q)
    at x stands.QueueFull q l = idle x l (ap waits_somewhere q)
    at x stands.NoService q l = idle x l (ap waits_somewhere q)

    by : (o : Option Entry) → lookup (one_key k) t.entries ≡ o → Stands (cancelled_by t k (waiting_found o)) (h ++ e ∷ [])
    by None l = then t.entries (st.entries ∙ sym (unmoved_none g g' (key_shown k) others (records h) (unknown t h k st l)))
    by (Some x) l = at x x.standing refl l

-- an end

pub stands_finished : (t : Table) (h : List QueueEvent) (k : Key) → Stands t h → Stands (finished t k) (finish_history (key_shown k) h)
stands_finished t h k st = by (lookup (one_key k) t.entries) refl (info_right t h k st)
  where
    e : QueueEvent
    e = Finishes (key_shown k)

    g : Request → Noted
    g = noted_in t.offered h

    g' : Request → Noted
    g' r = noted_in t.offered (h ++ e ∷ []) (extend e r)

    others : (r : Request) → same_key r.key (key_shown k) ≡ false → g' r ≡ g r
    others r q = stays t.offered h e r (grant_still h e r.key refl) refl q

    idle : is_granted (kept_for (key_shown k) h) ≡ false → Stands t (finish_history (key_shown k) h)
    idle q = subst (λ b. Stands t (cond b (h ++ e ∷ []) h)) (sym q) st

    granted_of : (n : ℕ) (x : Entry) → x.standing ≡ stands.Granted n → (f : Found g (records h) k x) → grant_of (key_shown k) h ≡ Some n
    granted_of n x q f = sym (place_same f.request.key (key_shown k) 1 (grants_of h) f.key) ∙ (granted_is t.offered h f.request n (f.standing ∙ q)).grant

    apart : (n : ℕ) → grant_of (key_shown k) h ≡ Some n → (r : Request) → grant_of r.key h ≡ None → (b : Bool) → same_key r.key (key_shown k) ≡ b → same_key r.key (key_shown k) ≡ false
    apart n q r m false p = p
    apart n q r m true p = let z : ⊥ = (let w : Some n ≡ None = sym q ∙ sym (place_same r.key (key_shown k) 1 (grants_of h) p) ∙ m in cc) in absurd z

    ends : (x : Entry) (n : ℕ) → x.standing ≡ stands.Granted n → lookup (one_key k) t.entries ≡ Some x → Stands (restood t k x (stands.Done n) t.granted) (h ++ e ∷ [])
    ends x n q l =
        let f : Found g (records h) k x = info_known t h k x st l in
        still_stands t (insert_entry one_key t.entries k (with_standing x (stands.Done n))) h e st (grows_finish h (key_shown k)) refl (λ j. refl) (λ r m. apart n (granted_of n x q f) r m (same_key r.key (key_shown k)) refl)
        (moved (λ r. Unit {0}) g g' (λ r. refl) k x (stands.Done n) others (λ r u p s. finish_granted t.offered h (key_shown k) r n p (s ∙ q)) t.entries (records h) st.entries (distinct_records h) (each_of (λ r. Unit {0}) (λ r. tt) (records h)) l) (legal_finish h (key_shown k) st.legal)

    at : (x : Entry) (s : Standing) → x.standing ≡ s → lookup (one_key k) t.entries ≡ Some x → Some (kept_shown (info_of t.entries k s)) ≡ kept_for (key_shown k) h → Stands (finished_entry t k x s) (finish_history (key_shown k) h)
    at x (stands.Granted n) q l r = subst (λ b. Stands (restood t k x (stands.Done n) t.granted) (cond b (h ++ e ∷ []) h)) (ap is_granted r) (ends x n q l)
    at x (stands.Waits i) q l r = idle (sym (ap is_granted r))
    at x (stands.Done n) q l r = idle (sym (ap is_granted r))
    at x stands.Cancelled q l r = idle (sym (ap is_granted r))
    at x stands.QueueFull q l r = idle (sym (ap is_granted r))
    at x stands.NoService q l r = idle (sym (ap is_granted r))

    by : (o : Option Entry) → lookup (one_key k) t.entries ≡ o → some_kept (info t k) ≡ kept_for (key_shown k) h → Stands (finished_by t k o) (finish_history (key_shown k) h)
    by None l r = idle (sym (ap is_granted (sym (ap (λ o. some_kept (entry_info t.entries k o)) l) ∙ r)))
    by (Some x) l r = at x x.standing refl l (sym (ap (λ o. some_kept (entry_info t.entries k o)) l) ∙ r)

-- a grant

first_each : (P : Request → Type 0) (test : Request → Bool) (rs : List Request) (r : Request) → Each P rs → first (filter test rs) ≡ Some r → P r
first_each P test [] r p q = let z : ⊥ = cc in absurd z
first_each P test (x ∷ xs) r p q = by (test x) (first_each P test xs r p.1) q
  where
    by : (b : Bool) → (first (filter test xs) ≡ Some r → P r) → first (cond b (x ∷ filter test xs) (filter test xs)) ≡ Some r → P r
    by true m q = let e : x ≡ r = cc in subst P e p.0
    by false m q = m q

record FirstFound (test : Request → Bool) (rs : List Request) (r : Request) : Type 0 where
  pub found : find (λ (x : Request). same_key x.key r.key) rs ≡ Some r
  pub passes : test r ≡ true

first_found : (test : Request → Bool) (rs : List Request) (r : Request) → Distinct rs → first (filter test rs) ≡ Some r → FirstFound test rs r
first_found test [] r d q = let z : ⊥ = cc in absurd z
first_found test (x ∷ xs) r d q = by (test x) refl (first_found test xs r d.1) q
  where
    by : (b : Bool) → test x ≡ b → (first (filter test xs) ≡ Some r → FirstFound test xs r) → first (cond b (x ∷ filter test xs) (filter test xs)) ≡ Some r → FirstFound test (x ∷ xs) r
    by true t m q =
        let e : x ≡ r = cc in
        subst (FirstFound test (x ∷ xs)) e (record { found = ap (λ z. cond z (Some x) (find (λ (y : Request). same_key y.key x.key) xs)) (key_self x.key); passes = t })
    by false t m q =
        let f : FirstFound test xs r = m q in
        let apart : same_key x.key r.key ≡ false = key_turn x.key r.key ∙ first_each (λ (y : Request). same_key y.key x.key ≡ false) test xs r d.0 q in
        record { found = ap (λ z. cond z (Some x) (find (λ (y : Request). same_key y.key r.key) xs)) apart ∙ f.found; passes = f.passes }

only_found : (k : keys.Key) (rs : List Request) (r : Request) → Distinct rs → find (λ (x : Request). same_key x.key k) rs ≡ Some r → Each (λ (x : Request). same_key x.key k ≡ true → x ≡ r) rs
only_found k [] r d q = tt
only_found k (x ∷ xs) r d q = by (same_key x.key k) refl (only_found k xs r d.1) q
  where
    by : (b : Bool) → same_key x.key k ≡ b → (find (λ (y : Request). same_key y.key k) xs ≡ Some r → Each (λ (y : Request). same_key y.key k ≡ true → y ≡ r) xs) → cond b (Some x) (find (λ (y : Request). same_key y.key k) xs) ≡ Some r → Each (λ (y : Request). same_key y.key k ≡ true → y ≡ r) (x ∷ xs)
    by true t m q = let e : x ≡ r = cc in (λ s. e, each_all (λ (y : Request). same_key y.key x.key ≡ false) (λ (y : Request). same_key y.key k ≡ true → y ≡ r) xs (λ y n s. absurd (true≢false (sym s ∙ sym (key_right y.key x.key k t) ∙ n))) d.0)
    by false t m q = (λ s. absurd (true≢false (sym s ∙ t)), m q)

waits_stands : (o : List Name) (h : List QueueEvent) (r : Request) → IsFirst o h r → waits r ≡ true → standing_in o h r ≡ stands.Waits (line_of o r.service)
waits_stands o h r first w = by (is_waiting r.answer) (grant_of r.key h) (list_any (cancels r.key) r.later) (list_any (finishes r.key) r.later) two.0 c (sym first.granted_then ∙ g)
  where
    two : (is_waiting r.answer ≡ true) × (not (list_any (λ e. cancels r.key e || grants r.key e) r.later) ≡ true)
    two = and_parts (is_waiting r.answer) (not (list_any (λ e. cancels r.key e || grants r.key e) r.later)) w

    turned : (b : Bool) → not b ≡ true → b ≡ false
    turned true q = absurd (true≢false (sym q))
    turned false q = refl

    either : (f g : QueueEvent → Bool) (xs : List QueueEvent) → list_any (λ e. f e || g e) xs ≡ false → (list_any f xs ≡ false) × (list_any g xs ≡ false)
    either f g xs q = or_parts (list_any f xs) (list_any g xs) (sym (any_either f g xs) ∙ q)

    both : (list_any (cancels r.key) r.later ≡ false) × (list_any (grants r.key) r.later ≡ false)
    both = either (cancels r.key) (grants r.key) r.later (turned (list_any (λ e. cancels r.key e || grants r.key e) r.later) two.1)

    c : list_any (cancels r.key) r.later ≡ false
    c = both.0

    g : list_any (grants r.key) r.later ≡ false
    g = both.1

    by : (a : Bool) (n : Option ℕ) (c f : Bool) → a ≡ true → c ≡ false → is_some n ≡ false → cond a (waited n c f (stands.Waits (line_of o r.service))) (refused_as r.answer) ≡ stands.Waits (line_of o r.service)
    by false n c f q p m = absurd (true≢false (sym q))
    by true None true f q p m = absurd (true≢false p)
    by true None false f q p m = refl
    by true (Some n) c f q p m = absurd (true≢false m)

pub stands_given : (t : Table) (h : List QueueEvent) (s : Name) (k : Key) (from : Addr) → Stands t h → first_of t s ≡ Some (k, from) → Stands (given t k) (h ++ Grants (key_shown k) s ∷ [])
stands_given t h s k from st q = by (next_request s h) refl (sym (ap some_first q) ∙ first_right t h s st)
  where
    e : QueueEvent
    e = Grants (key_shown k) s

    g : Request → Noted
    g = noted_in t.offered h

    g' : Request → Noted
    g' r = noted_in t.offered (h ++ e ∷ []) (extend e r)

    others : (r : Request) → same_key r.key (key_shown k) ≡ false → g' r ≡ g r
    others r p = stays t.offered h e r (ap (place_among r.key 1) (grants_more h e) ∙ place_other r.key (key_shown k) 1 (grants_of h) p) refl refl

    grants_it : (r : Request) (x : Entry) (l : ℕ) → next_request s h ≡ Some r → r.key ≡ key_shown k → find (λ (y : Request). same_key y.key (key_shown k)) (records h) ≡ Some r → is_waiting r.answer ≡ true → x.standing ≡ stands.Waits l → lookup (one_key k) t.entries ≡ Some x
        → Stands (restood t k x (stands.Granted (t.granted + 1)) (t.granted + 1)) (h ++ e ∷ [])
    grants_it r x l n i there w p look =
        let told : Each (λ (y : Request). same_key y.key (key_shown k) ≡ true → is_waiting y.answer ≡ true) (records h) = each_all (λ (y : Request). same_key y.key (key_shown k) ≡ true → y ≡ r) (λ (y : Request). same_key y.key (key_shown k) ≡ true → is_waiting y.answer ≡ true) (records h) (λ y f m. ap (λ (z : Request). is_waiting z.answer) (f m) ∙ w) (only_found (key_shown k) (records h) r (distinct_records h) there) in
        let grown : Grows h e [] = grows_grant h (key_shown k) s in
        stands_grant t (insert_entry one_key t.entries k (with_standing x (stands.Granted (t.granted + 1)))) h (key_shown k) s r st there told (grown.are ∙ append-nil (map (extend e) (records h))) (rooms t h e [] st grown)
        (moved (IsFirst t.offered h) g g' (λ y. refl) k x (stands.Granted (t.granted + 1)) others (λ y f m c. grant_waits t.offered h (key_shown k) s y l f m (c ∙ p) ∙ ap (λ z. restand (stands.Granted (z + 1)) (g y)) (sym st.granted)) t.entries (records h) st.entries (distinct_records h) st.firsts look ∙ sym (map_twice (noted_in t.offered (h ++ e ∷ [])) (extend e) (records h)))
        (legal_grant h r (key_shown k) s n i st.legal)

    at : (r : Request) → next_request s h ≡ Some r → r.key ≡ key_shown k → (o : Option Entry) → lookup (one_key k) t.entries ≡ o → Stands (given_by t k (waiting_found o)) (h ++ e ∷ [])
    at r n i None l =
        let f : FirstFound (λ x. waits x && same x.service s) (records h) r = first_found (λ x. waits x && same x.service s) (records h) r (distinct_records h) n in
        let z : ⊥ = (let p : Some r ≡ None = sym (subst (λ j. find (λ (y : Request). same_key y.key j) (records h) ≡ Some r) i f.found) ∙ unknown t h k st l in cc) in absurd z
    at r n i (Some x) l =
        let test : Request → Bool = λ y. waits y && same y.service s in
        let f : FirstFound test (records h) r = first_found test (records h) r (distinct_records h) n in
        let there : find (λ (y : Request). same_key y.key (key_shown k)) (records h) ≡ Some r = subst (λ j. find (λ (y : Request). same_key y.key j) (records h) ≡ Some r) i f.found in
        let d : Found g (records h) k x = info_known t h k x st l in
        let one : Some d.request ≡ Some r = sym d.found ∙ there in
        let is : d.request ≡ r = cc in
        let first : IsFirst t.offered h r = each_found (IsFirst t.offered h) (λ (y : Request). same_key y.key (key_shown k)) (records h) r st.firsts there in
        let w : waits r ≡ true = (and_parts (waits r) (same r.service s) f.passes).0 in
        let p : x.standing ≡ stands.Waits (line_of t.offered r.service) = sym d.standing ∙ ap (standing_in t.offered h) is ∙ waits_stands t.offered h r first w in
        subst (λ z. Stands (given_by t k (waiting_entry x z)) (h ++ e ∷ [])) (sym p) (grants_it r x (line_of t.offered r.service) n i there (and_parts (is_waiting r.answer) (not (list_any (λ y. cancels r.key y || grants r.key y) r.later)) w).0 p l)

    by : (o : Option Request) → next_request s h ≡ o → Some (key_shown k, address from.0) ≡ some_request o → Stands (given t k) (h ++ e ∷ [])
    by None n p = let z : ⊥ = cc in absurd z
    by (Some r) n p =
        let pair : (key_shown k, address from.0) ≡ (r.key, r.from) = cc in
        at r n (sym (ap (λ (z : keys.Key × ℕ). z.0) pair)) (lookup (one_key k) t.entries) refl

-- who is first waits
pub first_waits : (t : Table) (h : List QueueEvent) (s : Name) (k : Key) (from : Addr) → Stands t h → first_of t s ≡ Some (k, from) → is_some (waiting_of t k) ≡ true
first_waits t h s k from st q = by (next_request s h) refl (sym (ap some_first q) ∙ first_right t h s st)
  where
    at : (r : Request) → next_request s h ≡ Some r → r.key ≡ key_shown k → (o : Option Entry) → lookup (one_key k) t.entries ≡ o → is_some (waiting_found o) ≡ true
    at r n i None l =
        let f : FirstFound (λ x. waits x && same x.service s) (records h) r = first_found (λ x. waits x && same x.service s) (records h) r (distinct_records h) n in
        let z : ⊥ = (let p : Some r ≡ None = sym (subst (λ j. find (λ (y : Request). same_key y.key j) (records h) ≡ Some r) i f.found) ∙ unknown t h k st l in cc) in absurd z
    at r n i (Some x) l =
        let test : Request → Bool = λ y. waits y && same y.service s in
        let f : FirstFound test (records h) r = first_found test (records h) r (distinct_records h) n in
        let there : find (λ (y : Request). same_key y.key (key_shown k)) (records h) ≡ Some r = subst (λ j. find (λ (y : Request). same_key y.key j) (records h) ≡ Some r) i f.found in
        let d : Found (noted_in t.offered h) (records h) k x = info_known t h k x st l in
        let one : Some d.request ≡ Some r = sym d.found ∙ there in
        let is : d.request ≡ r = cc in
        let first : IsFirst t.offered h r = each_found (IsFirst t.offered h) (λ (y : Request). same_key y.key (key_shown k)) (records h) r st.firsts there in
        let w : waits r ≡ true = (and_parts (waits r) (same r.service s) f.passes).0 in
        let p : x.standing ≡ stands.Waits (line_of t.offered r.service) = sym d.standing ∙ ap (standing_in t.offered h) is ∙ waits_stands t.offered h r first w in
        ap (λ z. is_some (waiting_entry x z)) p

    by : (o : Option Request) → next_request s h ≡ o → Some (key_shown k, address from.0) ≡ some_request o → is_some (waiting_of t k) ≡ true
    by None n p = let z : ⊥ = cc in absurd z
    by (Some r) n p =
        let pair : (key_shown k, address from.0) ≡ (r.key, r.from) = cc in
        at r n (sym (ap (λ (z : keys.Key × ℕ). z.0) pair)) (lookup (one_key k) t.entries) refl

-- no event

pub stands_none : (o : List Name) → Stands (record { offered = o; entries = []; granted = 0 }) []
stands_none o = record { entries = refl; granted = refl; firsts = tt; known = λ k n. refl; room = λ l. refl; legal = legal_none }

pub info_none : (es : List (Key × Entry)) (k : Key) (o : Option Entry) → entry_info es k o ≡ None → o ≡ None
info_none es k None q = refl
info_none es k (Some e) q = let z : ⊥ = cc in absurd z

-- results

pub ok_both : {A E : Type 0} (r : Result A E) (P Q : A → Type 0) (N : Type 0) → IfOk r P → OnOk r N → ((a : A) → P a → N → Q a) → IfOk r Q
ok_both (Ok a) P Q N p n f = f a p n
ok_both (Err e) P Q N p n f = tt

pub key_right_some : (t : Table) (h : List QueueEvent) (s : Name) (k : Key) (from : Addr) → Stands t h → first_of t s ≡ Some (k, from) → Some (key_shown k) ≡ request_key (next_request s h)
key_right_some t h s k from st q = by (next_request s h) (sym (ap some_first q) ∙ first_right t h s st)
  where
    by : (o : Option Request) → Some (key_shown k, address from.0) ≡ some_request o → Some (key_shown k) ≡ request_key o
    by None p = let z : ⊥ = cc in absurd z
    by (Some r) p = let pair : (key_shown k, address from.0) ≡ (r.key, r.from) = cc in ap Some (ap (λ (z : keys.Key × ℕ). z.0) pair)

pub key_right_none : (t : Table) (h : List QueueEvent) (s : Name) → Stands t h → first_of t s ≡ None → None ≡ request_key (next_request s h)
key_right_none t h s st q = by (next_request s h) (sym (ap some_first q) ∙ first_right t h s st)
  where
    by : (o : Option Request) → None ≡ some_request o → None ≡ request_key o
    by None p = refl
    by (Some r) p = let z : ⊥ = cc in absurd z
