-- What the table tells is what the events say.
use Rattle.std.proofs.Common.{◌≡◌, ℕ, zero, suc, ◌+◌, ◌<◌, ◌≤◌, arith, refl, sym, ap, ◌∙◌, subst, Bool, true, false, not, cond, List, [], ◌∷◌, map, length, Option, Some, None, find, slice_get, position, nat_le, true≢false}
use Rattle.std.specs.List.{list_any}
use Rattle.std.specs.Option.{is_some}
use Rattle.std.specs.Map.{lookup}
use Rattle.std.proofs.lemmas.List.{length-map}
use Rattle.std.proofs.lemmas.Bool.Decides.{nat_tests}
use Rattle.lat_model.specs.Lists.{Each}
use Rattle.lat_machines.specs.values.Names.{Name, same}
use Rattle.lat_machines.specs.values.Keys.{same_key}
use Rattle.lat_machines.specs.values.Notices as answers
use Rattle.lat_machines.specs.values.Notices.{Kept}
use Rattle.lat_machines.specs.server.Queue.{QueueEvent, Request, cancels, finishes, is_waiting, records, waiting}
use Rattle.lat_machines.specs.server.Records.{Record, grant_of, place_in, kept_now, kept_for, record_of, new_answer, ask_answer, shown, record_at}
use Rattle.lat_queue.specs.declared.key.Key.{Key}
use Rattle.lat_queue.specs.declared.entry.Entry.{Entry}
use Rattle.lat_queue.specs.declared.entry.Standing.{Standing}
use Rattle.lat_queue.specs.declared.entry.Standing.TheVariants as stands
use Rattle.lat_base.specs.declared.kept.Kept as base
use Rattle.lat_queue.specs.KeyHash.{one_key}
use Rattle.lat_queue.specs.Lines.{place_of}
use Rattle.lat_queue.specs.Tables as tables
use Rattle.lat_queue.specs.Tables.{Table, waiters, info_of, entry_info, info, grant_info, shown_entry, standing_at, new_standing, new_info}
use Rattle.lat_queue.specs.Histories.{Noted, noted, key_shown, record_shown, some_kept, some_record, waited, refused_as, line_of, standing_in, noted_in, is_first_answer, IsFirst, Stands}
use Rattle.lat_queue.specs.KeptValues.{kept_shown}
use Rattle.lat_queue.proofs.KeyLemmas.{key_self}
use Rattle.lat_queue.proofs.RecordLemmas.{Found, look_found, look_none}
use Rattle.lat_queue.proofs.WaitLemmas.{Stood, stood, not_stood, any_line, waiter_in, request_in, lines_wait, place_right}

info_is : (es : List (Key × Entry)) (k : Key) (a : Bool) (g : Option ℕ) (c f : Bool) (l p : ℕ) (ans : Kept) → is_waiting ans ≡ a → is_first_answer ans ≡ true → (a ≡ true → place_of k (waiters l es) ≡ p)
    → kept_shown (info_of es k (cond a (waited g c f (stands.Waits l)) (refused_as ans))) ≡ cond a (cond (is_some g) (cond f answers.Done answers.Granted) (cond c answers.Cancelled (answers.Waiting p))) ans
info_is es k true None true f l p ans w q m = refl
info_is es k true None false f l p ans w q m = ap answers.Waiting (m refl)
info_is es k true (Some n) c true l p ans w q m = refl
info_is es k true (Some n) c false l p ans w q m = refl
info_is es k false g c f l p (answers.Waiting x) w q m = absurd (true≢false w)
info_is es k false g c f l p answers.QueueFull w q m = refl
info_is es k false g c f l p answers.NoService w q m = refl
info_is es k false g c f l p answers.Granted w q m = absurd (true≢false (sym q))
info_is es k false g c f l p answers.Cancelled w q m = absurd (true≢false (sym q))
info_is es k false g c f l p answers.RecordsFull w q m = absurd (true≢false (sym q))
info_is es k false g c f l p answers.Done w q m = absurd (true≢false (sym q))

-- a record, by any key that is its own
pub record_info : (t : Table) (h : List QueueEvent) (k : Key) (r : Request) (s : Standing) → Stands t h → IsFirst t.offered h r → same_key r.key (key_shown k) ≡ true → standing_in t.offered h r ≡ s → kept_shown (info_of t.entries k s) ≡ kept_now h r
record_info t h k r s st first q i =
    ap (λ z. kept_shown (info_of t.entries k z)) (sym i)
    ∙ info_is t.entries k (is_waiting r.answer) (grant_of r.key h) (list_any (cancels r.key) r.later) (list_any (finishes r.key) r.later) (line_of t.offered r.service) (place_in r.key (waiting r.service h)) r.answer refl first.answered
    (λ w. place_right k r.key q (waiters (line_of t.offered r.service) t.entries) (waiting r.service h) (lines_wait t h r.service (line_of t.offered r.service) st refl (first.offered_then w)))
    ∙ ap (λ z. cond (is_waiting r.answer) (cond z (cond (list_any (finishes r.key) r.later) answers.Done answers.Granted) (cond (list_any (cancels r.key) r.later) answers.Cancelled (answers.Waiting (place_in r.key (waiting r.service h))))) r.answer) (sym first.granted_then)

pub each_found : (P : Request → Type 0) (test : Request → Bool) (rs : List Request) (r : Request) → Each P rs → find test rs ≡ Some r → P r
each_found P test [] r p q = let z : ⊥ = cc in absurd z
each_found P test (x ∷ xs) r p q = by (test x) q (each_found P test xs r p.1)
  where
    by : (b : Bool) → cond b (Some x) (find test xs) ≡ Some r → (find test xs ≡ Some r → P r) → P r
    by true q m = let e : x ≡ r = cc in subst P e p.0
    by false q m = m q

abbrev kept_found : List QueueEvent → Option Request → Option Kept
kept_found h o = elim o [ None ↦ None | Some r ↦ Some (kept_now h r) ]

-- a known key
pub info_known : (t : Table) (h : List QueueEvent) (k : Key) (e : Entry) → Stands t h → lookup (one_key k) t.entries ≡ Some e → Found (noted_in t.offered h) (records h) k e
info_known t h k e st l = look_found (noted_in t.offered h) (λ r. refl) k e t.entries (records h) st.entries l

pub unknown : (t : Table) (h : List QueueEvent) (k : Key) → Stands t h → lookup (one_key k) t.entries ≡ None → record_of (key_shown k) h ≡ None
unknown t h k st l = look_none (noted_in t.offered h) (λ r. refl) k t.entries (records h) st.entries l

pub found_info : (t : Table) (h : List QueueEvent) (k : Key) (e : Entry) → Stands t h → (f : Found (noted_in t.offered h) (records h) k e) → kept_shown (info_of t.entries k e.standing) ≡ kept_now h f.request
found_info t h k e st f = record_info t h k f.request e.standing st (each_found (IsFirst t.offered h) (λ (x : Request). same_key x.key (key_shown k)) (records h) f.request st.firsts f.found) f.key f.standing

pub info_right : (t : Table) (h : List QueueEvent) (k : Key) → Stands t h → some_kept (info t k) ≡ kept_for (key_shown k) h
info_right t h k st = by (lookup (one_key k) t.entries) refl
  where
    by : (o : Option Entry) → lookup (one_key k) t.entries ≡ o → some_kept (entry_info t.entries k o) ≡ kept_found h (record_of (key_shown k) h)
    by None l = sym (ap (kept_found h) (unknown t h k st l))
    by (Some e) l =
        let f : Found (noted_in t.offered h) (records h) k e = info_known t h k e st l in
        ap Some (found_info t h k e st f) ∙ sym (ap (kept_found h) f.found)

-- what an ask is answered

abbrev answer_found : List Name → Name → List QueueEvent → Option Request → Kept
answer_found o s h r = elim r [ None ↦ new_answer o s h | Some x ↦ kept_now h x ]

pub known_answer : (t : Table) (h : List QueueEvent) (k : Key) (s : Name) (a : base.Kept) → Stands t h → info t k ≡ Some a → kept_shown a ≡ ask_answer t.offered (key_shown k) s h
known_answer t h k s a st q = by (lookup (one_key k) t.entries) refl q
  where
    by : (o : Option Entry) → lookup (one_key k) t.entries ≡ o → entry_info t.entries k o ≡ Some a → kept_shown a ≡ answer_found t.offered s h (record_of (key_shown k) h)
    by None l q = let z : ⊥ = cc in absurd z
    by (Some e) l q =
        let f : Found (noted_in t.offered h) (records h) k e = info_known t h k e st l in
        let i : info_of t.entries k e.standing ≡ a = cc in
        ap kept_shown (sym i) ∙ found_info t h k e st f ∙ sym (ap (answer_found t.offered s h) f.found)

pub count_is : (t : Table) (h : List QueueEvent) → Stands t h → length t.entries ≡ length (records h)
count_is t h st = sym (length-map t.entries noted) ∙ ap length st.entries ∙ length-map (records h) (noted_in t.offered h)

waits_is : (t : Table) (h : List QueueEvent) (s : Name) (i : ℕ) → Stands t h → Stood t.offered s (position (λ n. same s n) t.offered) i → length (waiters i t.entries) ≡ length (waiting s h)
waits_is t h s i st p = sym (length-map (waiters i t.entries) waiter_in) ∙ ap length (lines_wait t h s i st p.line p.within) ∙ length-map (waiting s h) request_in

pub full_answer : (t : Table) (h : List QueueEvent) (k : Key) (s : Name) → Stands t h → lookup (one_key k) t.entries ≡ None → 65536 ≤ length t.entries → answers.RecordsFull ≡ ask_answer t.offered (key_shown k) s h
full_answer t h k s st l n =
    let c : length t.entries ≡ length (records h) = count_is t h st in
    let full : nat_le 65536 (length (records h)) ≡ true = grind (arith, nat_tests) in
    sym (ap (answer_found t.offered s h) (unknown t h k st l) ∙ ap (λ z. cond z answers.RecordsFull (cond (not (list_any (same s) t.offered)) answers.NoService (cond (nat_le 64 (length (waiting s h))) answers.QueueFull (answers.Waiting (suc (length (waiting s h))))))) full)

pub new_right : (t : Table) (h : List QueueEvent) (k : Key) (s : Name) → Stands t h → lookup (one_key k) t.entries ≡ None → length t.entries < 65536 → kept_shown (new_info t (new_standing t s)) ≡ ask_answer t.offered (key_shown k) s h
new_right t h k s st l n =
    let c : length t.entries ≡ length (records h) = count_is t h st in
    let room : nat_le 65536 (length (records h)) ≡ false = grind (arith, nat_tests) in
    by (position (λ n. same s n) t.offered) refl
    ∙ sym (ap (answer_found t.offered s h) (unknown t h k st l) ∙ ap (λ z. cond z answers.RecordsFull (cond (not (list_any (same s) t.offered)) answers.NoService (cond (nat_le 64 (length (waiting s h))) answers.QueueFull (answers.Waiting (suc (length (waiting s h))))))) room)
  where
    at : (i : ℕ) (b : Bool) → length (waiters i t.entries) ≡ length (waiting s h) → kept_shown (new_info t (cond b stands.QueueFull (stands.Waits i))) ≡ cond b answers.QueueFull (answers.Waiting (suc (length (waiting s h))))
    at i true e = refl
    at i false e = ap answers.Waiting (let x : length (waiters i t.entries) + 1 ≡ suc (length (waiting s h)) = omega (arith, e) in x)

    by : (p : Option ℕ) → position (λ n. same s n) t.offered ≡ p → kept_shown (new_info t (standing_at t.entries p)) ≡ cond (not (list_any (same s) t.offered)) answers.NoService (cond (nat_le 64 (length (waiting s h))) answers.QueueFull (answers.Waiting (suc (length (waiting s h)))))
    by None q = sym (ap (λ z. cond (not z) answers.NoService (cond (nat_le 64 (length (waiting s h))) answers.QueueFull (answers.Waiting (suc (length (waiting s h)))))) (any_line t.offered s ∙ not_stood t.offered s q))
    by (Some i) q =
        let p : Stood t.offered s (position (λ n. same s n) t.offered) i = stood t.offered s i q in
        let e : length (waiters i t.entries) ≡ length (waiting s h) = waits_is t h s i st p in
        at i (nat_le 64 (length (waiters i t.entries))) e ∙ ap (λ z. cond (nat_le 64 z) answers.QueueFull (answers.Waiting (suc (length (waiting s h))))) e
        ∙ sym (ap (λ z. cond (not z) answers.NoService (cond (nat_le 64 (length (waiting s h))) answers.QueueFull (answers.Waiting (suc (length (waiting s h)))))) p.any)

-- what is shown

grant_is : (a : Bool) (g : Option ℕ) (c f : Bool) (l : ℕ) (ans : Kept) → (a ≡ false → g ≡ None) → grant_info (cond a (waited g c f (stands.Waits l)) (refused_as ans)) ≡ g
grant_is true None true f l ans m = refl
grant_is true None false f l ans m = refl
grant_is true (Some n) c true l ans m = refl
grant_is true (Some n) c false l ans m = refl
grant_is false g c f l (answers.Waiting x) m = sym (m refl)
grant_is false g c f l answers.QueueFull m = sym (m refl)
grant_is false g c f l answers.NoService m = sym (m refl)
grant_is false g c f l answers.Granted m = sym (m refl)
grant_is false g c f l answers.Cancelled m = sym (m refl)
grant_is false g c f l answers.RecordsFull m = sym (m refl)
grant_is false g c f l answers.Done m = sym (m refl)

record_right : (t : Table) (h : List QueueEvent) (x : Key × Entry) (r : Request) → Stands t h → IsFirst t.offered h r → noted x ≡ noted_in t.offered h r → record_shown (record { key = x.0; service = x.1.service; kept = info_of t.entries x.0 x.1.standing; grant = grant_info x.1.standing }) ≡ shown h r
record_right t h x r st first q =
    let k : key_shown x.0 ≡ r.key = ap (λ (z : Noted). z.key) q in
    let s : x.1.standing ≡ standing_in t.offered h r = ap (λ (z : Noted). z.standing) q in
    let kept : kept_shown (info_of t.entries x.0 x.1.standing) ≡ kept_now h r = record_info t h x.0 r x.1.standing st first (subst (λ z. same_key r.key z ≡ true) (sym k) (key_self r.key)) (sym s) in
    let grant : grant_info x.1.standing ≡ grant_of r.key h = ap grant_info s ∙ grant_is (is_waiting r.answer) (grant_of r.key h) (list_any (cancels r.key) r.later) (list_any (finishes r.key) r.later) (line_of t.offered r.service) r.answer first.asked_then in
    λ i. record { key = k i; service = ap (λ (z : Noted). z.service) q i; kept = kept i; grant = grant i }

abbrev shown_found : List QueueEvent → Option Request → Option Record
shown_found h o = elim o [ None ↦ None | Some r ↦ Some (shown h r) ]

shown_places : (t : Table) (h : List QueueEvent) → Stands t h → (place : ℕ) (es : List (Key × Entry)) (rs : List Request) → map noted es ≡ map (noted_in t.offered h) rs → Each (IsFirst t.offered h) rs → some_record (shown_entry t.entries (slice_get es place)) ≡ shown_found h (slice_get rs place)
shown_places t h st place [] [] q f = refl
shown_places t h st place [] (r ∷ rs) q f = let z : ⊥ = cc in absurd z
shown_places t h st place (x ∷ xs) [] q f = let z : ⊥ = cc in absurd z
shown_places t h st zero (x ∷ xs) (r ∷ rs) q f = let one : noted x ≡ noted_in t.offered h r = cc in ap Some (record_right t h x r st f.0 one)
shown_places t h st (suc n) (x ∷ xs) (r ∷ rs) q f = let rest : map noted xs ≡ map (noted_in t.offered h) rs = cc in shown_places t h st n xs rs rest f.1

pub shown_right : (t : Table) (h : List QueueEvent) (place : ℕ) → Stands t h → some_record (tables.shown t place) ≡ record_at place h
shown_right t h place st = shown_places t h st place t.entries (records h) st.entries st.firsts
