-- How many wait once a record has changed, or one more is there.
use Rattle.std.proofs.Common.{◌≡◌, ℕ, ◌+◌, ◌≤◌, arith, refl, ap, ◌∙◌, subst, Bool, true, false, List, [], ◌∷◌, ◌++◌, Option, Some, None}
use Rattle.std.specs.Option.{is_some}
use Rattle.std.specs.Prelude.{Result, Ok, Err, OnOk}
use Rattle.std.specs.Map.{lookup}
use Rattle.indexmap.specs.IndexMap.{insert_entry}
use Rattle.lat_queue.specs.declared.key.Key.{Key}
use Rattle.lat_queue.specs.declared.entry.Standing.{Standing}
use Rattle.lat_queue.specs.declared.entry.Standing.TheVariants.{Waits, Granted, Done, Cancelled, QueueFull, NoService}
use Rattle.lat_queue.specs.declared.entry.Entry.{Entry}
use Rattle.lat_queue.specs.KeyHash.{one_key}
use Rattle.lat_queue.specs.Tables.{Table, waits_somewhere, waiting_count, with_standing, added, waiting_of, cancelled_by, cancelled, given_by, given, finished_entry, finished_by, finished}
use Rattle.lat_queue.proofs.TableLemmas.{one_if, count_insert, count_more, WaitsThere, waits_there}

-- one that waited waits no more
pub count_left : (es : List (Key × Entry)) (k : Key) (e : Entry) (i : ℕ) (st : Standing) → lookup (one_key k) es ≡ Some e → e.standing ≡ Waits i → waits_somewhere st ≡ false
    → waiting_count (insert_entry one_key es k (with_standing e st)) + 1 ≡ waiting_count es
unfolding one_if
count_left es k e i st l w s =
    let fewer : 1 + waiting_count (insert_entry one_key es k (with_standing e st)) ≡ waiting_count es =
    subst (λ z. one_if (waits_somewhere z) + waiting_count (insert_entry one_key es k (with_standing e st)) ≡ waiting_count es) w (count_insert k e st es s l) in
    omega (arith, fewer)

-- one that didn't wait stands otherwise
pub count_still : (es : List (Key × Entry)) (k : Key) (e : Entry) (st : Standing) → lookup (one_key k) es ≡ Some e → waits_somewhere e.standing ≡ false → waits_somewhere st ≡ false
    → waiting_count (insert_entry one_key es k (with_standing e st)) ≡ waiting_count es
unfolding one_if
count_still es k e st l w s =
    let same : 0 + waiting_count (insert_entry one_key es k (with_standing e st)) ≡ waiting_count es =
    subst (λ z. one_if z + waiting_count (insert_entry one_key es k (with_standing e st)) ≡ waiting_count es) w (count_insert k e st es s l) in
    omega (arith, same)

pub count_joined : (es : List (Key × Entry)) (k : Key) (e : Entry) (i : ℕ) → e.standing ≡ Waits i → waiting_count (es ++ (k, e) ∷ []) ≡ waiting_count es + 1
unfolding one_if
count_joined es k e i w =
    let more : waiting_count (es ++ (k, e) ∷ []) ≡ 1 + waiting_count es = count_more es (k, e) ∙ ap (λ z. one_if (waits_somewhere z) + waiting_count es) w in
    omega (arith, more)

pub count_beside : (es : List (Key × Entry)) (k : Key) (e : Entry) → waits_somewhere e.standing ≡ false → waiting_count (es ++ (k, e) ∷ []) ≡ waiting_count es
unfolding one_if
count_beside es k e w =
    let more : waiting_count (es ++ (k, e) ∷ []) ≡ 0 + waiting_count es = count_more es (k, e) ∙ ap (λ z. one_if z + waiting_count es) w in
    omega (arith, more)

-- a new record, waiting or not
pub count_added : (t : Table) (k : Key) (e : Entry) → waiting_count (added t k e).entries ≤ waiting_count t.entries + 1
unfolding one_if
count_added t k e = by (waits_somewhere e.standing) (count_more t.entries (k, e))
  where
    by : (b : Bool) → waiting_count (t.entries ++ (k, e) ∷ []) ≡ one_if b + waiting_count t.entries → waiting_count (t.entries ++ (k, e) ∷ []) ≤ waiting_count t.entries + 1
    by true q = omega (arith, q)
    by false q = omega (arith, q)

pub count_cancelled : (t : Table) (k : Key) → waiting_count (cancelled t k).entries ≤ waiting_count t.entries
count_cancelled t k = by (waiting_of t k) refl
  where
    by : (o : Option (Entry × ℕ)) → waiting_of t k ≡ o → waiting_count (cancelled_by t k o).entries ≤ waiting_count t.entries
    by None q = omega arith
    by (Some p) q = let w : WaitsThere t k p.0 p.1 = waits_there t k p.0 p.1 q in omega (arith, count_left t.entries k p.0 p.1 Cancelled w.found w.waits refl)

pub count_given : (t : Table) (k : Key) → is_some (waiting_of t k) ≡ true → waiting_count (given t k).entries + 1 ≡ waiting_count t.entries
count_given t k s = by (waiting_of t k) refl s
  where
    by : (o : Option (Entry × ℕ)) → waiting_of t k ≡ o → is_some o ≡ true → waiting_count (given_by t k o).entries + 1 ≡ waiting_count t.entries
    by None q s = let z : ⊥ = cc in absurd z
    by (Some p) q s = let w : WaitsThere t k p.0 p.1 = waits_there t k p.0 p.1 q in count_left t.entries k p.0 p.1 (Granted (t.granted + 1)) w.found w.waits refl

pub given_none : (t : Table) (k : Key) → is_some (waiting_of t k) ≡ false → given t k ≡ t
given_none t k s = by (waiting_of t k) s
  where
    by : (o : Option (Entry × ℕ)) → is_some o ≡ false → given_by t k o ≡ t
    by None s = refl
    by (Some p) s = let z : ⊥ = cc in absurd z

pub count_finished : (t : Table) (k : Key) → waiting_count (finished t k).entries ≡ waiting_count t.entries
count_finished t k = by (lookup (one_key k) t.entries) refl
  where
    at : (e : Entry) (s : Standing) → e.standing ≡ s → lookup (one_key k) t.entries ≡ Some e → waiting_count (finished_entry t k e s).entries ≡ waiting_count t.entries
    at e (Granted n) q l = count_still t.entries k e (Done n) l (ap waits_somewhere q) refl
    at e (Waits i) q l = refl
    at e (Done n) q l = refl
    at e Cancelled q l = refl
    at e QueueFull q l = refl
    at e NoService q l = refl

    by : (o : Option Entry) → lookup (one_key k) t.entries ≡ o → waiting_count (finished_by t k o).entries ≡ waiting_count t.entries
    by None q = refl
    by (Some e) q = at e e.standing refl q

pub on_ok : {A E P Q : Type 0} (r : Result A E) → (P → Q) → OnOk r P → OnOk r Q
on_ok (Ok a) f h = f h
on_ok (Err e) f h = h
