-- What a change of one record leaves of the lines.
use Rattle.std.proofs.Common.{◌≡◌, ◌≢◌, ℕ, zero, suc, ◌+◌, ◌<◌, ◌≤◌, arith, refl, sym, ap, ap₂, ◌∙◌, subst, Bool, true, false, cond, ◌&&◌, ◌||◌, List, [], ◌∷◌, ◌++◌, length, Option, Some, None, slice_get, slice_set, take, drop, append_assoc, nat_eq, eqb-true}
use Rattle.std.proofs.lemmas.Bool.{eqb-false}
use Rattle.std.proofs.lemmas.List.{length-append, length-set, append-nil}
use Rattle.std.proofs.Math.Seq.{take-append_seam, drop-append-add}
use Rattle.std.proofs.lemmas.Iterator.Adapters.{position_from-zero}
use Rattle.std.specs.List.{list_any, position_from}
use Rattle.std.specs.Option.{is_some}
use Rattle.std.specs.Map.{lookup}
use Rattle.indexmap.specs.IndexMap.{insert_entry}
use Rattle.lat_model.specs.Lists.{Each}
use Rattle.lat_queue.specs.declared.key.Key.{Key}
use Rattle.lat_queue.specs.declared.entry.Standing.{Standing}
use Rattle.lat_queue.specs.declared.entry.Standing.TheVariants.{Waits, Granted, Done, Cancelled, QueueFull, NoService}
use Rattle.lat_queue.specs.declared.entry.Entry.{Entry}
use Rattle.lat_queue.specs.declared.entry.Waiter.{Waiter}
use Rattle.lat_queue.specs.Histories.{key_shown}
use Rattle.lat_queue.specs.KeyHash.{one_key}
use Rattle.lat_queue.proofs.KeyLemmas.{key_self}
use Rattle.lat_queue.specs.Lines.{has_key, without_at, without}
use Rattle.lat_queue.specs.Tables.{Table, InLine, Holds, MayStand, added, restood, waiting_entry, waiting_found, waits_at, waits_somewhere, waiter_of, waiters, waiting_count, OnLine, with_standing}

pub lookup_each : (P : Entry → Type 0) (k : Key) (es : List (Key × Entry)) (e : Entry) → Each (λ (x : Key × Entry). P x.1) es → lookup (one_key k) es ≡ Some e → P e
lookup_each P k [] e p q = let z : ⊥ = cc in absurd z
lookup_each P k (x ∷ xs) e p q = go (one_key k x.0) q (lookup_each P k xs e p.1)
  where
    go : (b : Bool) → cond b (Some x.1) (lookup (one_key k) xs) ≡ Some e → (lookup (one_key k) xs ≡ Some e → P e) → P e
    go true q r = let i : x.1 ≡ e = cc in subst P i p.0
    go false q r = r q

-- the line without the first that has the key
pub dropped : Key → List Waiter → List Waiter
dropped k [] = []
dropped k (w ∷ ws) = cond (has_key k w) ws (w ∷ dropped k ws)

dropped_from : (k : Key) (n : ℕ) (pre ws : List Waiter) → length pre ≡ n → without_at (pre ++ ws) (position_from (has_key k) n ws) ≡ pre ++ dropped k ws
unfolding dropped
dropped_from k n pre [] q = refl
dropped_from k n pre (w ∷ ws) q = by (has_key k w) (dropped_from k (n + 1) (pre ++ w ∷ []) ws (length-append pre (w ∷ []) ∙ ap (λ z. z + 1) q))
  where
    at_seam : take n (pre ++ w ∷ ws) ++ drop (suc n) (pre ++ w ∷ ws) ≡ pre ++ ws
    at_seam = subst (λ z. take z (pre ++ w ∷ ws) ++ drop (suc z) (pre ++ w ∷ ws) ≡ pre ++ ws) q
        (let one : length pre + 1 ≡ suc (length pre) = omega arith in ap₂ (λ a b. a ++ b) (take-append_seam pre (w ∷ ws)) (ap (λ z. drop z (pre ++ w ∷ ws)) (sym one) ∙ drop-append-add pre (w ∷ ws) 1))

    by : (b : Bool) → without_at ((pre ++ w ∷ []) ++ ws) (position_from (has_key k) (n + 1) ws) ≡ (pre ++ w ∷ []) ++ dropped k ws → without_at (pre ++ w ∷ ws) (cond b (Some n) (position_from (has_key k) (n + 1) ws)) ≡ pre ++ cond b ws (w ∷ dropped k ws)
    by true h = at_seam
    by false h = ap (λ z. without_at z (position_from (has_key k) (n + 1) ws)) (sym (append_assoc pre (w ∷ []) ws)) ∙ h ∙ append_assoc pre (w ∷ []) (dropped k ws)

pub without_dropped : (k : Key) (ws : List Waiter) → without k ws ≡ dropped k ws
without_dropped k ws = ap (without_at ws) (position_from-zero (has_key k) ws) ∙ dropped_from k 0 [] ws refl

waiters_step : (i : ℕ) (k : Key) (e : Entry) (st : Standing) (x : Key × Entry) (xs : List (Key × Entry)) → waits_at i st ≡ false → (a b : Bool) → one_key k x.0 ≡ a → waits_at i x.1.standing ≡ b
    → (lookup (one_key k) xs ≡ Some e → waiters i (insert_entry one_key xs k (with_standing e st)) ≡ cond (waits_at i e.standing) (dropped k (waiters i xs)) (waiters i xs))
    → lookup (one_key k) (x ∷ xs) ≡ Some e → waiters i (insert_entry one_key (x ∷ xs) k (with_standing e st)) ≡ cond (waits_at i e.standing) (dropped k (waiters i (x ∷ xs))) (waiters i (x ∷ xs))
unfolding dropped
waiters_step i k e st x xs w true b p q more h =
    let l : Some x.1 ≡ Some e = rw p at h in
    let s : x.1 ≡ e = cc in
    rw (p, w) (subst (λ (y : Entry). waiters i xs ≡ cond (waits_at i y.standing) (dropped k (waiters i (x ∷ xs))) (waiters i (x ∷ xs))) s (by b q))
  where
    by : (b : Bool) → waits_at i x.1.standing ≡ b → waiters i xs ≡ cond (waits_at i x.1.standing) (dropped k (waiters i (x ∷ xs))) (waiters i (x ∷ xs))
    by true q = rw (q, p) refl
    by false q = rw q refl
waiters_step i k e st x xs w false b p q more h = by b (waits_at i e.standing) q (more (rw p at h))
  where
    by : (b c : Bool) → waits_at i x.1.standing ≡ b → waiters i (insert_entry one_key xs k (with_standing e st)) ≡ cond c (dropped k (waiters i xs)) (waiters i xs) → waiters i (insert_entry one_key (x ∷ xs) k (with_standing e st)) ≡ cond c (dropped k (waiters i (x ∷ xs))) (waiters i (x ∷ xs))
    by true true q m = rw (p, q, p) (ap (λ z. waiter_of x ∷ z) m)
    by true false q m = rw (p, q) (ap (λ z. waiter_of x ∷ z) m)
    by false true q m = rw (p, q) m
    by false false q m = rw (p, q) m

pub waiters_insert : (i : ℕ) (k : Key) (e : Entry) (st : Standing) (es : List (Key × Entry)) → waits_at i st ≡ false → lookup (one_key k) es ≡ Some e → waiters i (insert_entry one_key es k (with_standing e st)) ≡ cond (waits_at i e.standing) (dropped k (waiters i es)) (waiters i es)
waiters_insert i k e st [] w h = let z : ⊥ = cc in absurd z
waiters_insert i k e st (x ∷ xs) w h = waiters_step i k e st x xs w (one_key k x.0) (waits_at i x.1.standing) refl refl (waiters_insert i k e st xs w) h

unfoldable pub one_if : Bool → ℕ
one_if true = 1
one_if false = 0

pub count_insert : (k : Key) (e : Entry) (st : Standing) (es : List (Key × Entry)) → waits_somewhere st ≡ false → lookup (one_key k) es ≡ Some e → one_if (waits_somewhere e.standing) + waiting_count (insert_entry one_key es k (with_standing e st)) ≡ waiting_count es
unfolding one_if
count_insert k e st [] w h = let z : ⊥ = cc in absurd z
count_insert k e st (x ∷ xs) w h = by (one_key k x.0) refl h (count_insert k e st xs w)
  where
    plus : (b : Bool) (n : ℕ) → one_if b + n ≡ cond b (suc n) n
    plus true n = omega arith
    plus false n = omega arith

    shift : (b c : Bool) (n m : ℕ) → one_if b + n ≡ m → one_if b + cond c (suc n) n ≡ cond c (suc m) m
    shift b true n m q = omega (arith, q)
    shift b false n m q = q

    by : (a : Bool) → one_key k x.0 ≡ a → lookup (one_key k) (x ∷ xs) ≡ Some e → (lookup (one_key k) xs ≡ Some e → one_if (waits_somewhere e.standing) + waiting_count (insert_entry one_key xs k (with_standing e st)) ≡ waiting_count xs)
        → one_if (waits_somewhere e.standing) + waiting_count (insert_entry one_key (x ∷ xs) k (with_standing e st)) ≡ waiting_count (x ∷ xs)
    by true p h more =
        let l : Some x.1 ≡ Some e = rw p at h in
        let s : x.1 ≡ e = cc in
        rw (p, w) (subst (λ (y : Entry). one_if (waits_somewhere y.standing) + waiting_count xs ≡ waiting_count (x ∷ xs)) s (plus (waits_somewhere x.1.standing) (waiting_count xs)))
    by false p h more = rw p (shift (waits_somewhere e.standing) (waits_somewhere x.1.standing) (waiting_count (insert_entry one_key xs k (with_standing e st))) (waiting_count xs) (more (rw p at h)))

pub each_insert : (P : Entry → Type 0) (k : Key) (e : Entry) (es : List (Key × Entry)) → P e → Each (λ (x : Key × Entry). P x.1) es → Each (λ (x : Key × Entry). P x.1) (insert_entry one_key es k e)
each_insert P k e [] p q = (p, tt)
each_insert P k e (x ∷ xs) p q = by (one_key k x.0) (each_insert P k e xs p q.1)
  where
    by : (a : Bool) → Each (λ (x : Key × Entry). P x.1) (insert_entry one_key xs k e) → Each (λ (x : Key × Entry). P x.1) (cond a ((x.0, e) ∷ xs) (x ∷ insert_entry one_key xs k e))
    by true r = (p, q.1)
    by false r = (q.0, r)

pub length_insert : (k : Key) (e v : Entry) (es : List (Key × Entry)) → lookup (one_key k) es ≡ Some e → length (insert_entry one_key es k v) ≡ length es
length_insert k e v [] h = let z : ⊥ = cc in absurd z
length_insert k e v (x ∷ xs) h = by (one_key k x.0) h (length_insert k e v xs)
  where
    by : (a : Bool) → cond a (Some x.1) (lookup (one_key k) xs) ≡ Some e → (lookup (one_key k) xs ≡ Some e → length (insert_entry one_key xs k v) ≡ length xs) → length (cond a ((x.0, v) ∷ xs) (x ∷ insert_entry one_key xs k v)) ≡ suc (length xs)
    by true h r = refl
    by false h r = ap suc (r h)

-- a new record

pub insert_new : (k : Key) (v : Entry) (es : List (Key × Entry)) → lookup (one_key k) es ≡ None → insert_entry one_key es k v ≡ es ++ (k, v) ∷ []
insert_new k v [] h = refl
insert_new k v (x ∷ xs) h = by (one_key k x.0) h (insert_new k v xs)
  where
    by : (a : Bool) → cond a (Some x.1) (lookup (one_key k) xs) ≡ None → (lookup (one_key k) xs ≡ None → insert_entry one_key xs k v ≡ xs ++ (k, v) ∷ []) → cond a ((x.0, v) ∷ xs) (x ∷ insert_entry one_key xs k v) ≡ x ∷ xs ++ (k, v) ∷ []
    by true h r = let z : ⊥ = cc in absurd z
    by false h r = ap (λ z. x ∷ z) (r h)

pub waiters_more : (i : ℕ) (es : List (Key × Entry)) (x : Key × Entry) → waiters i (es ++ x ∷ []) ≡ waiters i es ++ cond (waits_at i x.1.standing) (waiter_of x ∷ []) []
waiters_more i [] x = refl
waiters_more i (y ∷ ys) x = by (waits_at i y.1.standing) (waiters_more i ys x)
  where
    by : (a : Bool) → waiters i (ys ++ x ∷ []) ≡ waiters i ys ++ cond (waits_at i x.1.standing) (waiter_of x ∷ []) [] → cond a (waiter_of y ∷ waiters i (ys ++ x ∷ [])) (waiters i (ys ++ x ∷ [])) ≡ cond a (waiter_of y ∷ waiters i ys) (waiters i ys) ++ cond (waits_at i x.1.standing) (waiter_of x ∷ []) []
    by true h = ap (λ z. waiter_of y ∷ z) h
    by false h = h

pub count_more : (es : List (Key × Entry)) (x : Key × Entry) → waiting_count (es ++ x ∷ []) ≡ one_if (waits_somewhere x.1.standing) + waiting_count es
unfolding one_if
count_more [] x = by (waits_somewhere x.1.standing)
  where
    by : (a : Bool) → cond a 1 0 ≡ one_if a + 0
    by true = refl
    by false = refl
count_more (y ∷ ys) x = by (waits_somewhere y.1.standing) (waits_somewhere x.1.standing) (waiting_count ys) (waiting_count (ys ++ x ∷ [])) (count_more ys x)
  where
    by : (a b : Bool) (n m : ℕ) → m ≡ one_if b + n → cond a (suc m) m ≡ one_if b + cond a (suc n) n
    by true b n m q = omega (arith, q)
    by false b n m q = q

each_more : {A : Type 0} (P : A → Type 0) (xs : List A) (x : A) → Each P xs → P x → Each P (xs ++ x ∷ [])
each_more P [] x h p = (p, tt)
each_more P (y ∷ ys) x h p = (h.0, each_more P ys x h.1 p)

-- lines

pub get_set_same : {A : Type 0} (xs : List A) (i : ℕ) (x : A) → i < length xs → slice_get (slice_set xs i x) i ≡ Some x
get_set_same [] i x h = absurd (omega (arith, h))
get_set_same (y ∷ ys) zero x h = refl
get_set_same (y ∷ ys) (suc i) x h = get_set_same ys i x (omega (arith, h))

pub get_set_other : {A : Type 0} (xs : List A) (i j : ℕ) (x : A) → j ≢ i → slice_get (slice_set xs i x) j ≡ slice_get xs j
get_set_other [] i j x h = refl
get_set_other (y ∷ ys) zero zero x h = absurd (h refl)
get_set_other (y ∷ ys) zero (suc j) x h = refl
get_set_other (y ∷ ys) (suc i) zero x h = refl
get_set_other (y ∷ ys) (suc i) (suc j) x h = get_set_other ys i j x (λ q. h (ap suc q))

pub not_at : (i : ℕ) (st : Standing) → waits_somewhere st ≡ false → waits_at i st ≡ false
not_at i (Waits j) h = let z : ⊥ = cc in absurd z
not_at i (Granted n) h = refl
not_at i (Done n) h = refl
not_at i Cancelled h = refl
not_at i QueueFull h = refl
not_at i NoService h = refl

pub not_waiting : (st : Standing) → ((i : ℕ) → st ≢ Waits i) → waits_somewhere st ≡ false
not_waiting (Waits j) h = absurd (h j refl)
not_waiting (Granted n) h = refl
not_waiting (Done n) h = refl
not_waiting Cancelled h = refl
not_waiting QueueFull h = refl
not_waiting NoService h = refl

off_line : (n : ℕ) (st : Standing) → waits_somewhere st ≡ false → OnLine n st
off_line i (Waits j) h = let z : ⊥ = cc in absurd z
off_line i (Granted n) h = tt
off_line i (Done n) h = tt
off_line i Cancelled h = tt
off_line i QueueFull h = tt
off_line i NoService h = tt

room_line : (t : Table) (st : Standing) → MayStand t st → OnLine (length t.offered) st
room_line t (Waits j) h = h.0
room_line t (Granted n) h = absurd h
room_line t (Done n) h = absurd h
room_line t Cancelled h = absurd h
room_line t QueueFull h = tt
room_line t NoService h = tt

-- one that waited waits no more
pub holds_left : (t : Table) (ls : List (List Waiter)) (k : Key) (e : Entry) (i : ℕ) (st : Standing) (g : ℕ) (line : List Waiter) → Holds t ls → lookup (one_key k) t.entries ≡ Some e → e.standing ≡ Waits i → waits_somewhere st ≡ false → g ≤ t.granted + 1
    → line ≡ without k (waiters i t.entries) → Holds (restood t k e st g) (slice_set ls i line)
unfolding one_if
holds_left t ls k e i st g line h l w s b n = record {
  count = length-set ls i line ∙ h.count;
  each = λ j m. at j m (nat_eq j i) refl;
  placed = each_insert (λ (x : Entry). OnLine (length t.offered) x.standing) k (with_standing e st) t.entries (off_line (length t.offered) st s) h.placed;
  bound = omega (arith, len, h.bound, b, fewer);
  few = h.few;
  size = omega (arith, len, h.size);
}
  where
    es : List (Key × Entry)
    es = insert_entry one_key t.entries k (with_standing e st)

    len : length es ≡ length t.entries
    len = length_insert k e (with_standing e st) t.entries l

    fewer : 1 + waiting_count es ≡ waiting_count t.entries
    fewer = subst (λ z. one_if (waits_somewhere z) + waiting_count es ≡ waiting_count t.entries) w (count_insert k e st t.entries s l)

    here : i < length ls
    here = let p : OnLine (length t.offered) (Waits i) = subst (OnLine (length t.offered)) w (lookup_each (λ (x : Entry). OnLine (length t.offered) x.standing) k t.entries e h.placed l) in omega (arith, p, h.count)

    then_is : (j : ℕ) → waiters j es ≡ cond (nat_eq j i) (dropped k (waiters j t.entries)) (waiters j t.entries)
    then_is j = waiters_insert j k e st t.entries (not_at j st s) l ∙ ap (λ z. cond (waits_at j z) (dropped k (waiters j t.entries)) (waiters j t.entries)) w

    at : (j : ℕ) → j < length t.offered → (a : Bool) → nat_eq j i ≡ a → slice_get (slice_set ls i line) j ≡ Some (waiters j es)
    at j m true q =
        let same : j ≡ i = eqb-true j i q in
        ap (slice_get (slice_set ls i line)) same ∙ get_set_same ls i line here ∙ ap Some (n ∙ without_dropped k (waiters i t.entries) ∙ ap (λ z. dropped k (waiters z t.entries)) (sym same) ∙ sym (then_is j ∙ ap (λ z. cond z (dropped k (waiters j t.entries)) (waiters j t.entries)) q))
    at j m false q = get_set_other ls i j line (eqb-false j i q) ∙ h.each j m ∙ ap Some (sym (then_is j ∙ ap (λ z. cond z (dropped k (waiters j t.entries)) (waiters j t.entries)) q))

-- one that didn't wait stands otherwise
pub holds_still : (t : Table) (ls : List (List Waiter)) (k : Key) (e : Entry) (st : Standing) → Holds t ls → lookup (one_key k) t.entries ≡ Some e → waits_somewhere e.standing ≡ false → waits_somewhere st ≡ false → Holds (restood t k e st t.granted) ls
unfolding one_if
holds_still t ls k e st h l w s = record {
  count = h.count;
  each = λ j m. h.each j m ∙ ap Some (sym (waiters_insert j k e st t.entries (not_at j st s) l ∙ ap (λ z. cond z (dropped k (waiters j t.entries)) (waiters j t.entries)) (not_at j e.standing w)));
  placed = each_insert (λ (x : Entry). OnLine (length t.offered) x.standing) k (with_standing e st) t.entries (off_line (length t.offered) st s) h.placed;
  bound = let same : 0 + waiting_count es ≡ waiting_count t.entries = subst (λ z. one_if z + waiting_count es ≡ waiting_count t.entries) w (count_insert k e st t.entries s l) in omega (arith, len, h.bound, same);
  few = h.few;
  size = omega (arith, len, h.size);
}
  where
    es : List (Key × Entry)
    es = insert_entry one_key t.entries k (with_standing e st)

    len : length es ≡ length t.entries
    len = length_insert k e (with_standing e st) t.entries l

-- a new record, waiting or not
pub holds_joined : (t : Table) (ls : List (List Waiter)) (k : Key) (e : Entry) (i : ℕ) (line : List Waiter) → Holds t ls → MayStand t e.standing → length t.entries < 65536 → e.standing ≡ Waits i → line ≡ waiters i t.entries ++ waiter_of (k, e) ∷ [] → Holds (added t k e) (slice_set ls i line)
unfolding one_if
holds_joined t ls k e i line h room few w n = record {
  count = length-set ls i line ∙ h.count;
  each = λ j m. at j m (nat_eq j i) refl;
  placed = each_more (λ (x : Key × Entry). OnLine (length t.offered) x.1.standing) t.entries (k, e) h.placed (room_line t e.standing room);
  bound = let more : waiting_count es ≡ 1 + waiting_count t.entries = count_more t.entries (k, e) ∙ ap (λ z. one_if (waits_somewhere z) + waiting_count t.entries) w in omega (arith, len, h.bound, more);
  few = h.few;
  size = omega (arith, len, few);
}
  where
    es : List (Key × Entry)
    es = t.entries ++ (k, e) ∷ []

    len : length es ≡ length t.entries + 1
    len = length-append t.entries ((k, e) ∷ [])

    here : i < length ls
    here = let p : OnLine (length t.offered) (Waits i) = subst (OnLine (length t.offered)) w (room_line t e.standing room) in omega (arith, p, h.count)

    then_is : (j : ℕ) → waiters j es ≡ waiters j t.entries ++ cond (nat_eq j i) (waiter_of (k, e) ∷ []) []
    then_is j = waiters_more j t.entries (k, e) ∙ ap (λ z. waiters j t.entries ++ cond (waits_at j z) (waiter_of (k, e) ∷ []) []) w

    at : (j : ℕ) → j < length t.offered → (a : Bool) → nat_eq j i ≡ a → slice_get (slice_set ls i line) j ≡ Some (waiters j es)
    at j m true q =
        let same : j ≡ i = eqb-true j i q in
        ap (slice_get (slice_set ls i line)) same ∙ get_set_same ls i line here ∙ ap Some (n ∙ ap (λ z. waiters z t.entries ++ waiter_of (k, e) ∷ []) (sym same) ∙ sym (then_is j ∙ ap (λ z. waiters j t.entries ++ cond z (waiter_of (k, e) ∷ []) []) q))
    at j m false q = get_set_other ls i j line (eqb-false j i q) ∙ h.each j m ∙ ap Some (sym (then_is j ∙ ap (λ z. waiters j t.entries ++ cond z (waiter_of (k, e) ∷ []) []) q ∙ append-nil (waiters j t.entries)))

pub holds_added : (t : Table) (ls : List (List Waiter)) (k : Key) (e : Entry) → Holds t ls → length t.entries < 65536 → waits_somewhere e.standing ≡ false → Holds (added t k e) ls
unfolding one_if
holds_added t ls k e h few w = record {
  count = h.count;
  each = λ j m. h.each j m ∙ ap Some (sym (waiters_more j t.entries (k, e) ∙ ap (λ z. waiters j t.entries ++ cond z (waiter_of (k, e) ∷ []) []) (not_at j e.standing w) ∙ append-nil (waiters j t.entries)));
  placed = each_more (λ (x : Key × Entry). OnLine (length t.offered) x.1.standing) t.entries (k, e) h.placed (off_line (length t.offered) e.standing w);
  bound = let more : waiting_count es ≡ 0 + waiting_count t.entries = count_more t.entries (k, e) ∙ ap (λ z. one_if z + waiting_count t.entries) w in omega (arith, len, h.bound, more);
  few = h.few;
  size = omega (arith, len, few);
}
  where
    es : List (Key × Entry)
    es = t.entries ++ (k, e) ∷ []

    len : length es ≡ length t.entries + 1
    len = length-append t.entries ((k, e) ∷ [])

pub record WaitsThere (t : Table) (k : Key) (e : Entry) (i : ℕ) : Type 0 where
  pub found : lookup (one_key k) t.entries ≡ Some e
  pub waits : e.standing ≡ Waits i

pub waits_there : (t : Table) (k : Key) (e : Entry) (i : ℕ) → waiting_found (lookup (one_key k) t.entries) ≡ Some (e, i) → WaitsThere t k e i
waits_there t k e i h = by (lookup (one_key k) t.entries) refl h
  where
    at : (x : Entry) (s : Standing) → x.standing ≡ s → lookup (one_key k) t.entries ≡ Some x → waiting_entry x s ≡ Some (e, i) → WaitsThere t k e i
    at x (Waits j) q l h = let p : (x, j) ≡ (e, i) = cc in let a : x ≡ e = ap (λ (z : Entry × ℕ). z.0) p in let b : j ≡ i = ap (λ (z : Entry × ℕ). z.1) p in record { found = l ∙ ap Some a; waits = ap (λ (z : Entry). z.standing) (sym a) ∙ q ∙ ap Waits b }
    at x (Granted n) q l h = let z : ⊥ = cc in absurd z
    at x (Done n) q l h = let z : ⊥ = cc in absurd z
    at x Cancelled q l h = let z : ⊥ = cc in absurd z
    at x QueueFull q l h = let z : ⊥ = cc in absurd z
    at x NoService q l h = let z : ⊥ = cc in absurd z

    by : (o : Option Entry) → lookup (one_key k) t.entries ≡ o → waiting_found o ≡ Some (e, i) → WaitsThere t k e i
    by None q h = let z : ⊥ = cc in absurd z
    by (Some x) q h = at x x.standing refl q h

-- places

-- a record of the key that waits in a line
abbrev waits_as : ℕ → Key → Key × Entry → Bool
waits_as i k x = one_key k x.0 && waits_at i x.1.standing

-- its key stands in the line
found_in : (i n : ℕ) (k : Key) (es : List (Key × Entry)) → list_any (waits_as i k) es ≡ true → is_some (position_from (has_key k) n (waiters i es)) ≡ true
found_in i n k [] h = let z : ⊥ = cc in absurd z
found_in i n k (x ∷ xs) h = by (one_key k x.0) (waits_at i x.1.standing) refl h (λ m. found_in i m k xs)
  where
    by : (a b : Bool) → one_key k x.0 ≡ a → ((a && b) || list_any (waits_as i k) xs) ≡ true → ((m : ℕ) → list_any (waits_as i k) xs ≡ true → is_some (position_from (has_key k) m (waiters i xs)) ≡ true)
        → is_some (position_from (has_key k) n (cond b (waiter_of x ∷ waiters i xs) (waiters i xs))) ≡ true
    by true true q h m = rw q refl
    by true false q h m = m n h
    by false true q h m = rw q (m (n + 1) h)
    by false false q h m = m n h

in_line : (k : Key) (es : List (Key × Entry)) (s : Standing) → ((i : ℕ) → s ≡ Waits i → list_any (waits_as i k) es ≡ true) → InLine es k s
in_line k es (Waits i) h = subst (λ o. is_some o ≡ true) (sym (position_from-zero (has_key k) (waiters i es))) (found_in i 0 k es (h i refl))
in_line k es (Granted n) h = tt
in_line k es (Done n) h = tt
in_line k es Cancelled h = tt
in_line k es QueueFull h = tt
in_line k es NoService h = tt

same_line : (i : ℕ) → nat_eq i i ≡ true
same_line i = by (nat_eq i i) refl
  where
    by : (b : Bool) → nat_eq i i ≡ b → nat_eq i i ≡ true
    by true q = q
    by false q = absurd (eqb-false i i q refl)

at_line : (i : ℕ) (s : Standing) → s ≡ Waits i → waits_at i s ≡ true
at_line i s w = ap (waits_at i) w ∙ same_line i

-- of the record that a key leads to
pub found_in_line : (k : Key) (es : List (Key × Entry)) (e : Entry) → lookup (one_key k) es ≡ Some e → InLine es k e.standing
found_in_line k es e l = in_line k es e.standing (λ i w. go i es (at_line i e.standing w) l)
  where
    go : (i : ℕ) (xs : List (Key × Entry)) → waits_at i e.standing ≡ true → lookup (one_key k) xs ≡ Some e → list_any (waits_as i k) xs ≡ true
    go i [] w l = let z : ⊥ = cc in absurd z
    go i (x ∷ xs) w l = by (one_key k x.0) l (go i xs w)
      where
        by : (a : Bool) → cond a (Some x.1) (lookup (one_key k) xs) ≡ Some e → (lookup (one_key k) xs ≡ Some e → list_any (waits_as i k) xs ≡ true) → ((a && waits_at i x.1.standing) || list_any (waits_as i k) xs) ≡ true
        by true l m = let s : e ≡ x.1 = cc in ap (λ b. b || list_any (waits_as i k) xs) (sym (ap (λ (z : Entry). waits_at i z.standing) s) ∙ w)
        by false l m = m l

-- of the record at a place
pub placed_in_line : (k : Key) (es : List (Key × Entry)) (e : Entry) (place : ℕ) → slice_get es place ≡ Some (k, e) → InLine es k e.standing
placed_in_line k es e place l = in_line k es e.standing (λ i w. go i es place (at_line i e.standing w) l)
  where
    go : (i : ℕ) (xs : List (Key × Entry)) (n : ℕ) → waits_at i e.standing ≡ true → slice_get xs n ≡ Some (k, e) → list_any (waits_as i k) xs ≡ true
    go i [] n w l = let z : ⊥ = cc in absurd z
    go i (x ∷ xs) zero w l =
        let s : x ≡ (k, e) = cc in
        let here : waits_as i k x ≡ true = ap (waits_as i k) s ∙ ap (λ b. b && waits_at i e.standing) (key_self (key_shown k)) ∙ w in
        ap (λ b. b || list_any (waits_as i k) xs) here
    go i (x ∷ xs) (suc n) w l = by (waits_as i k x) (go i xs n w l)
      where
        by : (b : Bool) → list_any (waits_as i k) xs ≡ true → (b || list_any (waits_as i k) xs) ≡ true
        by true h = refl
        by false h = h
