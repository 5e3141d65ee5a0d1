-- Whether anybody waits, by the lines and by the events.
use Rattle.std.proofs.Common.{◌≡◌, ℕ, zero, suc, ◌<◌, arith, refl, sym, ap, ◌∙◌, subst, Bool, true, false, not, cond, ◌&&◌, ◌||◌, List, [], ◌∷◌, map, length, Option, Some, None, slice_get, nat_eq, nat_lt, true≢false}
use Rattle.std.specs.List.{list_any}
use Rattle.std.specs.Option.{is_some}
use Rattle.std.proofs.lemmas.Bool.Decides.{nat_tests}
use Rattle.lat_model.specs.Lists.{Each}
use Rattle.lat_machines.specs.values.Names.{Name}
use Rattle.lat_machines.specs.server.Queue.{QueueEvent, Request, cancels, grants, finishes, is_waiting, records, waits}
use Rattle.lat_machines.specs.server.Records.{grant_of}
use Rattle.lat_queue.specs.declared.key.Key.{Key}
use Rattle.lat_queue.specs.declared.entry.Entry.{Entry}
use Rattle.lat_queue.specs.declared.entry.Waiter.{Waiter}
use Rattle.lat_queue.specs.declared.entry.Standing.{Standing}
use Rattle.lat_queue.specs.declared.entry.Standing.TheVariants.{Waits, Granted, Done, Cancelled, QueueFull, NoService}
use Rattle.lat_queue.specs.Tables.{Table, Holds, OnLine, waits_at, waits_somewhere, waiter_of, waiters}
use Rattle.lat_queue.specs.Histories.{Noted, noted, waited, refused_as, line_of, standing_in, noted_in, IsFirst, Stands, is_any_waiting}
use Rattle.lat_queue.proofs.TableLemmas.{not_at}
use Rattle.lat_queue.proofs.RecordLemmas.{each_all}
use Rattle.lat_queue.proofs.StandLemmas.{not_turned}
use Rattle.lat_queue.proofs.WaitLemmas.{any_either}

-- a line in which somebody waits
abbrev pub has_waiter : List Waiter → Bool
has_waiter ws = nat_lt 0 (length ws)

abbrev entry_waits : Key × Entry → Bool
entry_waits e = waits_somewhere e.1.standing

first_waits : (w : Waiter) (ws : List Waiter) → has_waiter (w ∷ ws) ≡ true
first_waits w ws = grind (arith, nat_tests)

-- the lines and the records

none_there : (i : ℕ) (es : List (Key × Entry)) → list_any entry_waits es ≡ false → waiters i es ≡ []
none_there i [] q = refl
none_there i (e ∷ es) q = by (waits_somewhere e.1.standing) refl q (none_there i es)
  where
    by : (b : Bool) → waits_somewhere e.1.standing ≡ b → b || list_any entry_waits es ≡ false → (list_any entry_waits es ≡ false → waiters i es ≡ []) → cond (waits_at i e.1.standing) (waiter_of e ∷ waiters i es) (waiters i es) ≡ []
    by true w q m = absurd (true≢false q)
    by false w q m = ap (λ b. cond b (waiter_of e ∷ waiters i es) (waiters i es)) (not_at i e.1.standing w) ∙ m q

all_empty : (ls : List (List Waiter)) → ((i : ℕ) → i < length ls → slice_get ls i ≡ Some []) → list_any has_waiter ls ≡ false
all_empty [] q = refl
all_empty (w ∷ ws) q =
    let e : w ≡ [] = (let p : Some w ≡ Some [] = q 0 (omega arith) in cc) in
    ap (λ z. has_waiter z || list_any has_waiter ws) e ∙ all_empty ws (λ i m. q (suc i) (omega (arith, m)))

one_there : (ls : List (List Waiter)) (i : ℕ) (w : List Waiter) → slice_get ls i ≡ Some w → has_waiter w ≡ true → list_any has_waiter ls ≡ true
one_there [] i w q h = let z : ⊥ = cc in absurd z
one_there (x ∷ xs) zero w q h = let e : x ≡ w = cc in ap (λ z. has_waiter z || list_any has_waiter xs) e ∙ ap (λ b. b || list_any has_waiter xs) h
one_there (x ∷ xs) (suc i) w q h = by (has_waiter x) (one_there xs i w q h)
  where
    by : (b : Bool) → list_any has_waiter xs ≡ true → b || list_any has_waiter xs ≡ true
    by true m = refl
    by false m = m

-- a line in which one of the records waits
record WaitingLine (n : ℕ) (es : List (Key × Entry)) : Type 0 where
  pub line : ℕ
  pub within : line < n
  pub has : has_waiter (waiters line es) ≡ true

line_there : (n : ℕ) (es : List (Key × Entry)) → Each (λ (e : Key × Entry). OnLine n e.1.standing) es → list_any entry_waits es ≡ true → WaitingLine n es
line_there n [] p q = absurd (true≢false (sym q))
line_there n (e ∷ es) p q = at e.1.standing refl p.0 (line_there n es p.1)
  where
    more : (i : ℕ) → (b : Bool) → has_waiter (waiters i es) ≡ true → has_waiter (cond b (waiter_of e ∷ waiters i es) (waiters i es)) ≡ true
    more i true h = first_waits (waiter_of e) (waiters i es)
    more i false h = h

    later : WaitingLine n es → WaitingLine n (e ∷ es)
    later l = record { line = l.line; within = l.within; has = more l.line (waits_at l.line e.1.standing) l.has }

    rest : (s : Standing) → e.1.standing ≡ s → waits_somewhere s ≡ false → list_any entry_waits es ≡ true
    rest s w z = sym (ap (λ b. b || list_any entry_waits es) (ap waits_somewhere w ∙ z)) ∙ q

    own : (i : ℕ) → nat_eq i i ≡ true
    own i = grind (arith, nat_tests)

    at : (s : Standing) → e.1.standing ≡ s → OnLine n e.1.standing → (list_any entry_waits es ≡ true → WaitingLine n es) → WaitingLine n (e ∷ es)
    at (Waits i) w o m = record {
      line = i;
      within = subst (OnLine n) w o;
      has = ap (λ b. has_waiter (cond b (waiter_of e ∷ waiters i es) (waiters i es))) (ap (waits_at i) w ∙ own i) ∙ first_waits (waiter_of e) (waiters i es);
    }
    at (Granted g) w o m = later (m (rest (Granted g) w refl))
    at (Done g) w o m = later (m (rest (Done g) w refl))
    at Cancelled w o m = later (m (rest Cancelled w refl))
    at QueueFull w o m = later (m (rest QueueFull w refl))
    at NoService w o m = later (m (rest NoService w refl))

lines_any : (t : Table) (ls : List (List Waiter)) → Holds t ls → list_any has_waiter ls ≡ list_any entry_waits t.entries
lines_any t ls h = by (list_any entry_waits t.entries) refl
  where
    by : (b : Bool) → list_any entry_waits t.entries ≡ b → list_any has_waiter ls ≡ list_any entry_waits t.entries
    by true q =
        let l : WaitingLine (length t.offered) t.entries = line_there (length t.offered) t.entries h.placed q in
        one_there ls l.line (waiters l.line t.entries) (h.each l.line l.within) l.has ∙ sym q
    by false q = all_empty ls (λ i m. h.each i (subst (λ z. i < z) h.count m) ∙ ap Some (none_there i t.entries q)) ∙ sym q

-- the records and the events

waits_is : (a : Bool) (g : Option ℕ) (c f : Bool) (l : ℕ) (t : Standing) → waits_somewhere t ≡ false → waits_somewhere (cond a (waited g c f (Waits l)) t) ≡ (a && not (c || is_some g))
waits_is false g c f l t n = n
waits_is true None true f l t n = refl
waits_is true None false f l t n = refl
waits_is true (Some k) true true l t n = refl
waits_is true (Some k) true false l t n = refl
waits_is true (Some k) false true l t n = refl
waits_is true (Some k) false false l t n = refl

waits_test : (o : List Name) (h : List QueueEvent) (r : Request) → IsFirst o h r → waits_somewhere (standing_in o h r) ≡ waits r
waits_test o h r first =
    waits_is (is_waiting r.answer) (grant_of r.key h) (list_any (cancels r.key) r.later) (list_any (finishes r.key) r.later) (line_of o r.service) (refused_as r.answer) (not_turned r.answer)
    ∙ ap (λ z. is_waiting r.answer && not z) (ap (λ z. list_any (cancels r.key) r.later || z) (sym first.granted_then) ∙ sym (any_either (cancels r.key) (grants r.key) r.later))

entries_any : (g : Request → Noted) (es : List (Key × Entry)) (rs : List Request) → map noted es ≡ map g rs → Each (λ (r : Request). waits_somewhere (g r).standing ≡ waits r) rs → list_any entry_waits es ≡ list_any waits rs
entries_any g [] [] q t = refl
entries_any g [] (r ∷ rs) q t = let z : ⊥ = cc in absurd z
entries_any g (x ∷ xs) [] q t = let z : ⊥ = cc in absurd z
entries_any g (x ∷ xs) (r ∷ rs) q t =
    let one : noted x ≡ g r = cc in
    let rest : map noted xs ≡ map g rs = cc in
    ap (λ b. b || list_any entry_waits xs) (ap (λ (z : Noted). waits_somewhere z.standing) one ∙ t.0) ∙ ap (λ z. waits r || z) (entries_any g xs rs rest t.1)

pub any_right : (t : Table) (ls : List (List Waiter)) (h : List QueueEvent) → Holds t ls → Stands t h → list_any has_waiter ls ≡ is_any_waiting h
any_right t ls h holds st =
    lines_any t ls holds
    ∙ entries_any (noted_in t.offered h) t.entries (records h) st.entries
    (each_all (IsFirst t.offered h) (λ (r : Request). waits_somewhere (standing_in t.offered h r) ≡ waits r) (records h) (λ r f. waits_test t.offered h r f) st.firsts)
