-- Records as the table has them and as the events have them.
use Rattle.std.proofs.Common.{◌≡◌, refl, sym, ap, ap₂, ◌∙◌, Bool, true, false, not, cond, List, [], ◌∷◌, map, filter, Some, None, find}
use Rattle.std.specs.List.{list_any}
use Rattle.std.specs.Map.{lookup}
use Rattle.std.proofs.lemmas.Bool.{or_parts}
use Rattle.indexmap.specs.IndexMap.{insert_entry}
use Rattle.lat_model.specs.Lists.{Each}
use Rattle.lat_machines.specs.values.Keys as keys
use Rattle.lat_machines.specs.values.Keys.{same_key}
use Rattle.lat_machines.specs.server.Queue.{QueueEvent, Asks, Cancels, Grants, Finishes, Request, first_asks, is_overfull, records}
use Rattle.lat_queue.specs.declared.key.Key.{Key}
use Rattle.lat_queue.specs.declared.entry.Entry.{Entry}
use Rattle.lat_queue.specs.declared.entry.Standing.{Standing}
use Rattle.lat_queue.specs.KeyHash.{one_key}
use Rattle.lat_queue.specs.Tables.{with_standing}
use Rattle.lat_queue.specs.Histories.{Noted, noted, key_shown}
use Rattle.lat_queue.proofs.KeyLemmas.{key_turn, key_right}

-- no two records have one key

abbrev pub Distinct : List Request → Type 0
Distinct [] = Unit {0}
Distinct (x ∷ xs) = Each (λ (y : Request). same_key y.key x.key ≡ false) xs × Distinct xs

pub each_all : {A : Type 0} (P Q : A → Type 0) (xs : List A) → ((x : A) → P x → Q x) → Each P xs → Each Q xs
each_all P Q [] f p = tt
each_all P Q (x ∷ xs) f p = (f x p.0, each_all P Q xs f p.1)

each_filter : {A : Type 0} (P : A → Type 0) (test : A → Bool) (xs : List A) → Each P xs → Each P (filter test xs)
each_filter P test [] p = tt
each_filter P test (x ∷ xs) p = by (test x) (each_filter P test xs p.1)
  where
    by : (b : Bool) → Each P (filter test xs) → Each P (cond b (x ∷ filter test xs) (filter test xs))
    by true r = (p.0, r)
    by false r = r

unseen : (seen : List keys.Key) (h : List QueueEvent) → Each (λ (y : Request). list_any (same_key y.key) seen ≡ false) (first_asks seen h)
unseen seen [] = tt
unseen seen (Asks k from service answer ∷ h) = go (list_any (same_key k) seen) refl (unseen seen h) (unseen (k ∷ seen) h)
  where
    go : (b : Bool) → list_any (same_key k) seen ≡ b → Each (λ (y : Request). list_any (same_key y.key) seen ≡ false) (first_asks seen h) → Each (λ (y : Request). list_any (same_key y.key) (k ∷ seen) ≡ false) (first_asks (k ∷ seen) h) → Each (λ (y : Request). list_any (same_key y.key) seen ≡ false) (cond b (first_asks seen h) (record { key = k; from = from; service = service; answer = answer; later = h } ∷ first_asks (k ∷ seen) h))
    go true q p r = p
    go false q p r = (q, each_all (λ (y : Request). list_any (same_key y.key) (k ∷ seen) ≡ false) (λ (y : Request). list_any (same_key y.key) seen ≡ false) (first_asks (k ∷ seen) h) (λ y o. (or_parts (same_key y.key k) (list_any (same_key y.key) seen) o).1) r)
unseen seen (Cancels k ∷ h) = unseen seen h
unseen seen (Grants k s ∷ h) = unseen seen h
unseen seen (Finishes k ∷ h) = unseen seen h

distinct_asks : (seen : List keys.Key) (h : List QueueEvent) → Distinct (first_asks seen h)
distinct_asks seen [] = tt
distinct_asks seen (Asks k from service answer ∷ h) = go (list_any (same_key k) seen) (distinct_asks seen h) (distinct_asks (k ∷ seen) h)
  where
    go : (b : Bool) → Distinct (first_asks seen h) → Distinct (first_asks (k ∷ seen) h) → Distinct (cond b (first_asks seen h) (record { key = k; from = from; service = service; answer = answer; later = h } ∷ first_asks (k ∷ seen) h))
    go true p q = p
    go false p q = (each_all (λ (y : Request). list_any (same_key y.key) (k ∷ seen) ≡ false) (λ (y : Request). same_key y.key k ≡ false) (first_asks (k ∷ seen) h) (λ y o. (or_parts (same_key y.key k) (list_any (same_key y.key) seen) o).0) (unseen (k ∷ seen) h), q)
distinct_asks seen (Cancels k ∷ h) = distinct_asks seen h
distinct_asks seen (Grants k s ∷ h) = distinct_asks seen h
distinct_asks seen (Finishes k ∷ h) = distinct_asks seen h

distinct_filter : (test : Request → Bool) (xs : List Request) → Distinct xs → Distinct (filter test xs)
distinct_filter test [] d = tt
distinct_filter test (x ∷ xs) d = go (test x) (distinct_filter test xs d.1)
  where
    go : (b : Bool) → Distinct (filter test xs) → Distinct (cond b (x ∷ filter test xs) (filter test xs))
    go true i = (each_filter (λ (y : Request). same_key y.key x.key ≡ false) test xs d.0, i)
    go false i = i

pub distinct_records : (h : List QueueEvent) → Distinct (records h)
distinct_records h = distinct_filter (λ (x : Request). not (is_overfull x.answer)) (first_asks [] h) (distinct_asks [] h)

-- the table's look-up finds the record of the events

pub record Found (g : Request → Noted) (rs : List Request) (k : Key) (e : Entry) : Type 0 where
  pub request : Request
  pub found : find (λ (x : Request). same_key x.key (key_shown k)) rs ≡ Some request
  pub standing : (g request).standing ≡ e.standing
  pub key : same_key request.key (key_shown k) ≡ true

-- `g` keeps the key
abbrev pub KeepsKey : (Request → Noted) → Type 0
KeepsKey g = (r : Request) → (g r).key ≡ r.key

head_key : (g : Request → Noted) → KeepsKey g → (x : Key × Entry) (r : Request) → noted x ≡ g r → (k : Key) → same_key r.key (key_shown k) ≡ one_key k x.0
head_key g keep x r q k = ap (λ z. same_key z (key_shown k)) (sym (keep r)) ∙ ap (λ (z : Noted). same_key z.key (key_shown k)) (sym q) ∙ key_turn (key_shown x.0) (key_shown k)

pub look_found : (g : Request → Noted) → KeepsKey g → (k : Key) (e : Entry) (es : List (Key × Entry)) (rs : List Request) → map noted es ≡ map g rs → lookup (one_key k) es ≡ Some e → Found g rs k e
look_found g keep k e [] rs q h = let z : ⊥ = cc in absurd z
look_found g keep k e (x ∷ xs) [] q h = let z : ⊥ = cc in absurd z
look_found g keep k e (x ∷ xs) (r ∷ rs) q h =
    let one : noted x ≡ g r = cc in
    let rest : map noted xs ≡ map g rs = cc in
    by one (one_key k x.0) refl h (look_found g keep k e xs rs rest)
  where
    by : noted x ≡ g r → (b : Bool) → one_key k x.0 ≡ b → cond b (Some x.1) (lookup (one_key k) xs) ≡ Some e → (lookup (one_key k) xs ≡ Some e → Found g rs k e) → Found g (r ∷ rs) k e
    by one true i h m =
        let s : x.1 ≡ e = cc in
        let t : same_key r.key (key_shown k) ≡ true = head_key g keep x r one k ∙ i in
        record { request = r; found = ap (λ z. cond z (Some r) (find (λ (y : Request). same_key y.key (key_shown k)) rs)) t; standing = ap (λ (z : Noted). z.standing) (sym one) ∙ ap (λ (z : Entry). z.standing) s; key = t }
    by one false i h m =
        let f : Found g rs k e = m h in
        record { request = f.request; found = ap (λ z. cond z (Some r) (find (λ (y : Request). same_key y.key (key_shown k)) rs)) (head_key g keep x r one k ∙ i) ∙ f.found; standing = f.standing; key = f.key }

pub look_none : (g : Request → Noted) → KeepsKey g → (k : Key) (es : List (Key × Entry)) (rs : List Request) → map noted es ≡ map g rs → lookup (one_key k) es ≡ None → find (λ (x : Request). same_key x.key (key_shown k)) rs ≡ None
look_none g keep k [] [] q h = refl
look_none g keep k [] (r ∷ rs) q h = let z : ⊥ = cc in absurd z
look_none g keep k (x ∷ xs) [] q h = let z : ⊥ = cc in absurd z
look_none g keep k (x ∷ xs) (r ∷ rs) q h =
    let one : noted x ≡ g r = cc in
    let rest : map noted xs ≡ map g rs = cc in
    ap (λ z. cond z (Some r) (find (λ (y : Request). same_key y.key (key_shown k)) rs)) (head_key g keep x r one k) ∙ by (one_key k x.0) h (look_none g keep k xs rs rest)
  where
    by : (b : Bool) → cond b (Some x.1) (lookup (one_key k) xs) ≡ None → (lookup (one_key k) xs ≡ None → find (λ (y : Request). same_key y.key (key_shown k)) rs ≡ None) → cond b (Some r) (find (λ (y : Request). same_key y.key (key_shown k)) rs) ≡ None
    by true h m = let z : ⊥ = cc in absurd z
    by false h m = m h

-- changes

abbrev pub restand : Standing → Noted → Noted
restand s n = record { key = n.key; from = n.from; service = n.service; standing = s }

pub map_same : {A B : Type 0} (f g : A → B) (xs : List A) → Each (λ x. f x ≡ g x) xs → map f xs ≡ map g xs
map_same f g [] h = refl
map_same f g (x ∷ xs) h = ap₂ (λ a b. a ∷ b) (h.0) (map_same f g xs h.1)

pub map_twice : {A B C : Type 0} (f : B → C) (g : A → B) (xs : List A) → map f (map g xs) ≡ map (λ x. f (g x)) xs
map_twice f g [] = refl
map_twice f g (x ∷ xs) = ap (λ z. f (g x) ∷ z) (map_twice f g xs)

-- the other records of a list stay where they differ in the key
tail_stays : (g g' : Request → Noted) (k : Key) (r : Request) (rs : List Request) → same_key r.key (key_shown k) ≡ true → Each (λ (y : Request). same_key y.key r.key ≡ false) rs → ((y : Request) → same_key y.key (key_shown k) ≡ false → g' y ≡ g y) → map g' rs ≡ map g rs
tail_stays g g' k r rs t d others =
    map_same g' g rs (each_all (λ (y : Request). same_key y.key r.key ≡ false) (λ (y : Request). g' y ≡ g y) rs (λ y n. others y (sym (key_right y.key r.key (key_shown k) t) ∙ n)) d)

pub moved : (P : Request → Type 0) (g g' : Request → Noted) → KeepsKey g → (k : Key) (e : Entry) (s : Standing) → ((y : Request) → same_key y.key (key_shown k) ≡ false → g' y ≡ g y) → ((y : Request) → P y → same_key y.key (key_shown k) ≡ true → (g y).standing ≡ e.standing → g' y ≡ restand s (g y))
    → (es : List (Key × Entry)) (rs : List Request) → map noted es ≡ map g rs → Distinct rs → Each P rs → lookup (one_key k) es ≡ Some e → map noted (insert_entry one_key es k (with_standing e s)) ≡ map g' rs
moved P g g' keep k e s others this [] rs q d p h = let z : ⊥ = cc in absurd z
moved P g g' keep k e s others this (x ∷ xs) [] q d p h = let z : ⊥ = cc in absurd z
moved P g g' keep k e s others this (x ∷ xs) (r ∷ rs) q d p h =
    let one : noted x ≡ g r = cc in
    let rest : map noted xs ≡ map g rs = cc in
    by one rest (one_key k x.0) refl h (moved P g g' keep k e s others this xs rs rest d.1 p.1)
  where
    by : noted x ≡ g r → map noted xs ≡ map g rs → (b : Bool) → one_key k x.0 ≡ b → cond b (Some x.1) (lookup (one_key k) xs) ≡ Some e → (lookup (one_key k) xs ≡ Some e → map noted (insert_entry one_key xs k (with_standing e s)) ≡ map g' rs)
        → map noted (cond b ((x.0, with_standing e s) ∷ xs) (x ∷ insert_entry one_key xs k (with_standing e s))) ≡ g' r ∷ map g' rs
    by one rest true i h m =
        let a : x.1 ≡ e = cc in
        let t : same_key r.key (key_shown k) ≡ true = head_key g keep x r one k ∙ i in
        let n : noted (x.0, with_standing e s) ≡ restand s (noted x) = ap (λ (z : Entry). restand s (noted (x.0, z))) (sym a) in
        ap₂ (λ y z. y ∷ z) (n ∙ ap (restand s) one ∙ sym (this r p.0 t (ap (λ (z : Noted). z.standing) (sym one) ∙ ap (λ (z : Entry). z.standing) a))) (rest ∙ sym (tail_stays g g' k r rs t d.0 others))
    by one rest false i h m = ap₂ (λ y z. y ∷ z) (one ∙ sym (others r (head_key g keep x r one k ∙ i))) (m h)

pub unmoved : (g g' : Request → Noted) → KeepsKey g → (k : Key) (e : Entry) → ((y : Request) → same_key y.key (key_shown k) ≡ false → g' y ≡ g y) → ((y : Request) → same_key y.key (key_shown k) ≡ true → (g y).standing ≡ e.standing → g' y ≡ g y)
    → (es : List (Key × Entry)) (rs : List Request) → map noted es ≡ map g rs → Distinct rs → lookup (one_key k) es ≡ Some e → map noted es ≡ map g' rs
unmoved g g' keep k e others this [] rs q d h = let z : ⊥ = cc in absurd z
unmoved g g' keep k e others this (x ∷ xs) [] q d h = let z : ⊥ = cc in absurd z
unmoved g g' keep k e others this (x ∷ xs) (r ∷ rs) q d h =
    let one : noted x ≡ g r = cc in
    let rest : map noted xs ≡ map g rs = cc in
    by one rest (one_key k x.0) refl h (unmoved g g' keep k e others this xs rs rest d.1)
  where
    by : noted x ≡ g r → map noted xs ≡ map g rs → (b : Bool) → one_key k x.0 ≡ b → cond b (Some x.1) (lookup (one_key k) xs) ≡ Some e → (lookup (one_key k) xs ≡ Some e → map noted xs ≡ map g' rs) → noted x ∷ map noted xs ≡ g' r ∷ map g' rs
    by one rest true i h m =
        let a : x.1 ≡ e = cc in
        let t : same_key r.key (key_shown k) ≡ true = head_key g keep x r one k ∙ i in
        ap₂ (λ y z. y ∷ z) (one ∙ sym (this r t (ap (λ (z : Noted). z.standing) (sym one) ∙ ap (λ (z : Entry). z.standing) a))) (rest ∙ sym (tail_stays g g' k r rs t d.0 others))
    by one rest false i h m = ap₂ (λ y z. y ∷ z) (one ∙ sym (others r (head_key g keep x r one k ∙ i))) (m h)

-- where no record has the key, all stay
pub unmoved_none : (g g' : Request → Noted) (k : keys.Key) → ((y : Request) → same_key y.key k ≡ false → g' y ≡ g y) → (rs : List Request) → find (λ (x : Request). same_key x.key k) rs ≡ None → map g' rs ≡ map g rs
unmoved_none g g' k others [] q = refl
unmoved_none g g' k others (r ∷ rs) q = by (same_key r.key k) refl q (unmoved_none g g' k others rs)
  where
    by : (b : Bool) → same_key r.key k ≡ b → cond b (Some r) (find (λ (x : Request). same_key x.key k) rs) ≡ None → (find (λ (x : Request). same_key x.key k) rs ≡ None → map g' rs ≡ map g rs) → g' r ∷ map g' rs ≡ g r ∷ map g rs
    by true i q m = let z : ⊥ = cc in absurd z
    by false i q m = ap₂ (λ y z. y ∷ z) (others r i) (m q)
