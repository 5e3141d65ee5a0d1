-- The lines of a table are the waiting requests of its events.
use Rattle.std.proofs.Common.{◌≡◌, ℕ, zero, suc, ◌+◌, ◌<◌, arith, refl, sym, ap, ap₂, ◌∙◌, subst, Bool, true, false, not, cond, ◌&&◌, ◌||◌, List, [], ◌∷◌, map, length, filter, Option, Some, None, slice_get, position, nat_eq, nat_lt, true≢false}
use Rattle.std.specs.List.{list_any, position_from}
use Rattle.std.specs.Option.{is_some, option_map}
use Rattle.std.proofs.lemmas.Bool.Decides.{nat_tests}
use Rattle.std.proofs.lemmas.Iterator.Adapters.{position_from-zero}
use Rattle.lat_model.specs.Lists.{Each}
use Rattle.lat_machines.specs.values.Addresses.{address}
use Rattle.lat_machines.specs.values.Names.{Name, same}
use Rattle.lat_machines.specs.values.Keys as keys
use Rattle.lat_machines.specs.values.Keys.{same_key}
use Rattle.lat_machines.specs.server.Queue.{QueueEvent, Request, cancels, grants, finishes, is_waiting, records, waits, waiting, first, next_request}
use Rattle.lat_machines.specs.server.Records.{grant_of, place_in}
use Rattle.lat_queue.specs.declared.key.Key.{Key}
use Rattle.lat_queue.specs.declared.entry.Entry.{Entry}
use Rattle.lat_queue.specs.declared.entry.Waiter.{Waiter}
use Rattle.lat_queue.specs.declared.entry.Standing.{Standing}
use Rattle.lat_queue.specs.declared.entry.Standing.TheVariants.{Waits}
use Rattle.lat_queue.specs.Lines.{has_key, place_at, place_of}
use Rattle.lat_queue.specs.Tables as tables
use Rattle.lat_queue.specs.Tables.{Table, waits_at, waits_somewhere, waiters, waiter_info, first_waiter, first_of, waiter_at}
use Rattle.lat_queue.specs.Looks.{waiter_look, waiter_told, waiter_look_of}
use Rattle.lat_queue.specs.Histories.{Noted, noted, key_shown, waited, refused_as, line_of, standing_in, noted_in, some_first, some_request, IsFirst, Stands}
use Rattle.lat_queue.proofs.KeyLemmas.{key_left, name_turn, name_left}
use Rattle.lat_queue.proofs.TableLemmas.{not_at}
use Rattle.lat_queue.proofs.RecordLemmas.{each_all}
use Rattle.lat_queue.proofs.StandLemmas.{not_turned}

-- places of services

eq_suc : (a b : ℕ) → nat_eq (1 + a) (1 + b) ≡ nat_eq a b
eq_suc a b = grind (arith, nat_tests)

lt_suc : (a b : ℕ) → nat_lt (1 + a) (suc b) ≡ nat_lt a b
lt_suc a b = grind (arith, nat_tests)

zero_lt : (b : ℕ) → nat_lt 0 (suc b) ≡ true
zero_lt b = grind (arith, nat_tests)

zero_eq : (b : ℕ) → nat_eq 0 (1 + b) ≡ false
zero_eq b = grind (arith, nat_tests)

eq_zero : (b : ℕ) → nat_eq (1 + b) 0 ≡ false
eq_zero b = grind (arith, nat_tests)

-- two services have one line where they are one
pub line_same : (o : List Name) (s r : Name) → line_of o s < length o → nat_eq (line_of o s) (line_of o r) ≡ same r s
line_same [] s r l = absurd (omega (arith, l))
line_same (n ∷ o) s r l = by (same s n) (same r n) refl refl l (line_same o s r)
  where
    turn : same s n ≡ true → same r s ≡ same r n
    turn q = name_turn r s ∙ name_left s n r q ∙ name_turn n r

    by : (a b : Bool) → same s n ≡ a → same r n ≡ b → cond (not a) (1 + line_of o s) 0 < suc (length o) → (line_of o s < length o → nat_eq (line_of o s) (line_of o r) ≡ same r s) → nat_eq (cond (not a) (1 + line_of o s) 0) (cond (not b) (1 + line_of o r) 0) ≡ same r s
    by true true p q l m = sym (turn p ∙ q)
    by true false p q l m = zero_eq (line_of o r) ∙ sym (turn p ∙ q)
    by false true p q l m = eq_zero (line_of o s) ∙ sym (name_left r n s q ∙ name_turn n s ∙ p)
    by false false p q l m = eq_suc (line_of o s) (line_of o r) ∙ m (omega (arith, l))

pub line_one : (o : List Name) (s r : Name) → same r s ≡ true → line_of o r ≡ line_of o s
line_one [] s r q = refl
line_one (n ∷ o) s r q = ap₂ (λ b z. cond (not b) (1 + z) 0) (name_left r s n q) (line_one o s r q)

pub any_line : (o : List Name) (s : Name) → list_any (same s) o ≡ nat_lt (line_of o s) (length o)
any_line [] s = refl
any_line (n ∷ o) s = by (same s n) (any_line o s)
  where
    by : (b : Bool) → list_any (same s) o ≡ nat_lt (line_of o s) (length o) → b || list_any (same s) o ≡ nat_lt (cond (not b) (1 + line_of o s) 0) (suc (length o))
    by true m = sym (zero_lt (length o))
    by false m = m ∙ sym (lt_suc (line_of o s) (length o))

-- where a service stands, and whether it is offered
pub record Stood (o : List Name) (s : Name) (p : Option ℕ) (i : ℕ) : Type 0 where
  pub place : p ≡ Some i
  pub line : line_of o s ≡ i
  pub within : i < length o
  pub any : list_any (same s) o ≡ true

pub stood : (o : List Name) (s : Name) (i : ℕ) → position (λ n. same s n) o ≡ Some i → Stood o s (position (λ n. same s n) o) i
stood o s i q = by (nat_lt (line_of o s) (length o)) refl q
  where
    by : (b : Bool) → nat_lt (line_of o s) (length o) ≡ b → cond b (Some (line_of o s)) None ≡ Some i → Stood o s (position (λ n. same s n) o) i
    by true l p = let e : line_of o s ≡ i = cc in record { place = q; line = e; within = (let w : line_of o s < length o = grind (arith, nat_tests) in subst (λ z. z < length o) e w); any = any_line o s ∙ l }
    by false l p = let z : ⊥ = cc in absurd z

pub not_stood : (o : List Name) (s : Name) → position (λ n. same s n) o ≡ None → nat_lt (line_of o s) (length o) ≡ false
not_stood o s q = by (nat_lt (line_of o s) (length o)) refl q
  where
    by : (b : Bool) → nat_lt (line_of o s) (length o) ≡ b → cond b (Some (line_of o s)) None ≡ None → nat_lt (line_of o s) (length o) ≡ false
    by true l p = let z : ⊥ = cc in absurd z
    by false l p = l

-- who waits

pub any_either : (f g : QueueEvent → Bool) (xs : List QueueEvent) → list_any (λ e. f e || g e) xs ≡ list_any f xs || list_any g xs
any_either f g [] = refl
any_either f g (x ∷ xs) = ap (λ z. (f x || g x) || z) (any_either f g xs) ∙ by (f x) (g x) (list_any f xs) (list_any g xs)
  where
    by : (a b c d : Bool) → (a || b) || (c || d) ≡ (a || c) || (b || d)
    by true b c d = refl
    by false true true d = refl
    by false true false d = refl
    by false false c d = refl

waits_is : (a : Bool) (g : Option ℕ) (c f : Bool) (i l : ℕ) (t : Standing) (m : Bool) → waits_somewhere t ≡ false → nat_eq i l ≡ m → waits_at i (cond a (waited g c f (Waits l)) t) ≡ (a && not (c || is_some g)) && m
waits_is false g c f i l t m n q = not_at i t n
waits_is true None true f i l t m n q = refl
waits_is true None false f i l t m n q = q
waits_is true (Some k) true true i l t m n q = refl
waits_is true (Some k) true false i l t m n q = refl
waits_is true (Some k) false true i l t m n q = refl
waits_is true (Some k) false false i l t m n q = refl

waits_test : (o : List Name) (h : List QueueEvent) (s : Name) (i : ℕ) (r : Request) → line_of o s ≡ i → i < length o → IsFirst o h r → waits_at i (standing_in o h r) ≡ (waits r && same r.service s)
waits_test o h s i r l w first =
    waits_is (is_waiting r.answer) (grant_of r.key h) (list_any (cancels r.key) r.later) (list_any (finishes r.key) r.later) i (line_of o r.service) (refused_as r.answer) (same r.service s) (not_turned r.answer)
    (ap (λ z. nat_eq z (line_of o r.service)) (sym l) ∙ line_same o s r.service (subst (λ z. z < length o) (sym l) w))
    ∙ ap (λ z. (is_waiting r.answer && not z) && same r.service s) (ap (λ z. list_any (cancels r.key) r.later || z) (sym first.granted_then) ∙ sym (any_either (cancels r.key) (grants r.key) r.later))

abbrev pub waiter_in : Waiter → keys.Key × ℕ
waiter_in w = (key_shown w.key, address w.from.0)

abbrev pub request_in : Request → keys.Key × ℕ
request_in r = (r.key, r.from)

lines_are : (g : Request → Noted) → ((r : Request) → ((g r).key ≡ r.key) × ((g r).from ≡ r.from)) → (i : ℕ) (test : Request → Bool) (es : List (Key × Entry)) (rs : List Request) → map noted es ≡ map g rs → Each (λ (r : Request). waits_at i (g r).standing ≡ test r) rs → map waiter_in (waiters i es) ≡ map request_in (filter test rs)
lines_are g keep i test [] [] q t = refl
lines_are g keep i test [] (r ∷ rs) q t = let z : ⊥ = cc in absurd z
lines_are g keep i test (x ∷ xs) [] q t = let z : ⊥ = cc in absurd z
lines_are g keep i test (x ∷ xs) (r ∷ rs) q t =
    let one : noted x ≡ g r = cc in
    let rest : map noted xs ≡ map g rs = cc in
    ap (λ b. map waiter_in (cond b (record { key = x.0; from = x.1.from } ∷ waiters i xs) (waiters i xs))) (ap (λ (z : Noted). waits_at i z.standing) one ∙ t.0) ∙ by one (test r) (lines_are g keep i test xs rs rest t.1)
  where
    by : noted x ≡ g r → (b : Bool) → map waiter_in (waiters i xs) ≡ map request_in (filter test rs) → map waiter_in (cond b (record { key = x.0; from = x.1.from } ∷ waiters i xs) (waiters i xs)) ≡ map request_in (cond b (r ∷ filter test rs) (filter test rs))
    by one true m =
        let k : key_shown x.0 ≡ r.key = ap (λ (z : Noted). z.key) one ∙ (keep r).0 in
        let f : address x.1.from.0 ≡ r.from = ap (λ (z : Noted). z.from) one ∙ (keep r).1 in
        ap₂ (λ y z. y ∷ z) (ap₂ (λ a b. (a, b)) k f) m
    by one false m = m

-- a line has those that wait for its service
pub lines_wait : (t : Table) (h : List QueueEvent) (s : Name) (i : ℕ) → Stands t h → line_of t.offered s ≡ i → i < length t.offered → map waiter_in (waiters i t.entries) ≡ map request_in (waiting s h)
lines_wait t h s i st l w =
    lines_are (noted_in t.offered h) (λ r. (refl, refl)) i (λ r. waits r && same r.service s) t.entries (records h) st.entries
    (each_all (IsFirst t.offered h) (λ (r : Request). waits_at i (standing_in t.offered h r) ≡ (waits r && same r.service s)) (records h) (λ r f. waits_test t.offered h s i r l w f) st.firsts)

none_waits : (o : List Name) (h : List QueueEvent) (s : Name) → nat_lt (line_of o s) (length o) ≡ false → (rs : List Request) → Each (IsFirst o h) rs → filter (λ r. waits r && same r.service s) rs ≡ []
none_waits o h s n [] f = refl
none_waits o h s n (r ∷ rs) f = by (is_waiting r.answer) (same r.service s) (not (list_any (λ e. cancels r.key e || grants r.key e) r.later)) refl refl (none_waits o h s n rs f.1)
  where
    by : (a b c : Bool) → is_waiting r.answer ≡ a → same r.service s ≡ b → filter (λ x. waits x && same x.service s) rs ≡ [] → cond ((a && c) && b) (r ∷ filter (λ x. waits x && same x.service s) rs) (filter (λ x. waits x && same x.service s) rs) ≡ []
    by false b c p q m = m
    by true b false p q m = m
    by true false true p q m = m
    by true true true p q m =
        let w : line_of o s < length o = subst (λ z. z < length o) (line_one o s r.service q) (f.0.offered_then p) in
        absurd (true≢false (let y : nat_lt (line_of o s) (length o) ≡ true = grind (arith, nat_tests) in sym y ∙ n))

-- nobody waits for what isn't offered
pub nobody_waits : (t : Table) (h : List QueueEvent) (s : Name) → Stands t h → nat_lt (line_of t.offered s) (length t.offered) ≡ false → waiting s h ≡ []
nobody_waits t h s st n = none_waits t.offered h s n (records h) st.firsts

-- the first that waits

first_is : (ws : List Waiter) (rs : List Request) → map waiter_in ws ≡ map request_in rs → some_first (waiter_info (slice_get ws 0)) ≡ some_request (first rs)
first_is [] [] q = refl
first_is [] (r ∷ rs) q = let z : ⊥ = cc in absurd z
first_is (w ∷ ws) [] q = let z : ⊥ = cc in absurd z
first_is (w ∷ ws) (r ∷ rs) q = let p : waiter_in w ≡ request_in r = cc in ap Some p

pub first_right : (t : Table) (h : List QueueEvent) (s : Name) → Stands t h → some_first (first_of t s) ≡ some_request (next_request s h)
first_right t h s st = by (position (λ n. same s n) t.offered) refl
  where
    by : (p : Option ℕ) → position (λ n. same s n) t.offered ≡ p → some_first (waiter_info (first_waiter t.entries p)) ≡ some_request (first (waiting s h))
    by None q = sym (ap (λ z. some_request (first z)) (nobody_waits t h s st (not_stood t.offered s q)))
    by (Some i) q = let p : Stood t.offered s (position (λ n. same s n) t.offered) i = stood t.offered s i q in first_is (waiters i t.entries) (waiting s h) (lines_wait t h s i st p.line p.within)

-- each that waits, by its place

told_at : (ws : List Waiter) (rs : List Request) → map waiter_in ws ≡ map request_in rs → (at : ℕ) → option_map waiter_told (slice_get ws at) ≡ option_map waiter_look_of (slice_get rs at)
told_at [] [] q at = refl
told_at [] (r ∷ rs) q at = let z : ⊥ = cc in absurd z
told_at (w ∷ ws) [] q at = let z : ⊥ = cc in absurd z
told_at (w ∷ ws) (r ∷ rs) q zero = let p : waiter_in w ≡ request_in r = cc in ap (λ (z : keys.Key × ℕ). Some (waiter_look z.0 z.1)) p
told_at (w ∷ ws) (r ∷ rs) q (suc n) = let rest : map waiter_in ws ≡ map request_in rs = cc in told_at ws rs rest n

pub waiter_right : (t : Table) (h : List QueueEvent) (s : Name) (at : ℕ) → Stands t h → option_map waiter_told (waiter_at t s at) ≡ option_map waiter_look_of (slice_get (waiting s h) at)
waiter_right t h s at st = by (position (λ n. same s n) t.offered) refl
  where
    by : (p : Option ℕ) → position (λ n. same s n) t.offered ≡ p → option_map waiter_told (tables.waiter_in t.entries p at) ≡ option_map waiter_look_of (slice_get (waiting s h) at)
    by None q = sym (ap (λ z. option_map waiter_look_of (slice_get z at)) (nobody_waits t h s st (not_stood t.offered s q)))
    by (Some i) q = let p : Stood t.offered s (position (λ n. same s n) t.offered) i = stood t.offered s i q in told_at (waiters i t.entries) (waiting s h) (lines_wait t h s i st p.line p.within) at

-- places

placed : Key → List Waiter → ℕ
placed k [] = 0
placed k (w ∷ ws) = cond (has_key k w) 1 (suc (placed k ws))

placed_from : (k : Key) (n : ℕ) (ws : List Waiter) → place_at (n + length ws) (position_from (has_key k) n ws) ≡ n + placed k ws
unfolding placed
placed_from k n [] = refl
placed_from k n (w ∷ ws) = by (has_key k w) (placed_from k (n + 1) ws)
  where
    by : (b : Bool) → place_at (n + 1 + length ws) (position_from (has_key k) (n + 1) ws) ≡ n + 1 + placed k ws → place_at (n + suc (length ws)) (cond b (Some n) (position_from (has_key k) (n + 1) ws)) ≡ n + cond b 1 (suc (placed k ws))
    by true m = refl
    by false m =
        let a : n + suc (length ws) ≡ n + 1 + length ws = omega arith in
        let b : n + 1 + placed k ws ≡ n + suc (placed k ws) = omega arith in
        ap (λ z. place_at z (position_from (has_key k) (n + 1) ws)) a ∙ m ∙ b

placed_in : (k : Key) (j : keys.Key) → same_key j (key_shown k) ≡ true → (ws : List Waiter) (rs : List Request) → map waiter_in ws ≡ map request_in rs → placed k ws ≡ place_in j rs
unfolding placed
placed_in k j q [] [] e = refl
placed_in k j q [] (r ∷ rs) e = let z : ⊥ = cc in absurd z
placed_in k j q (w ∷ ws) [] e = let z : ⊥ = cc in absurd z
placed_in k j q (w ∷ ws) (r ∷ rs) e =
    let p : waiter_in w ≡ request_in r = cc in
    let rest : map waiter_in ws ≡ map request_in rs = cc in
    let i : key_shown w.key ≡ r.key = ap (λ (z : keys.Key × ℕ). z.0) p in
    ap₂ (λ b z. cond b 1 (suc z)) (sym (key_left j (key_shown k) (key_shown w.key) q) ∙ ap (same_key j) i) (placed_in k j q ws rs rest)

pub place_right : (k : Key) (j : keys.Key) → same_key j (key_shown k) ≡ true → (ws : List Waiter) (rs : List Request) → map waiter_in ws ≡ map request_in rs → place_of k ws ≡ place_in j rs
place_right k j q ws rs e =
    let z : length ws ≡ 0 + length ws = omega arith in
    let y : 0 + placed k ws ≡ placed k ws = omega arith in
    ap (place_at (length ws)) (position_from-zero (has_key k) ws) ∙ ap (λ x. place_at x (position_from (has_key k) 0 ws)) z ∙ placed_from k 0 ws ∙ y ∙ placed_in k j q ws rs e
