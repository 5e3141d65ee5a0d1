-- A row that is changed beside the one that it shows.
use Rattle.std.proofs.Common.{◌≡◌, ◌≢◌, ℕ, zero, suc, ◌+◌, ◌-◌, ◌<◌, ◌≤◌, refl, sym, ap, ap₂, ◌∙◌, subst, arith, Bool, true, false, cond, ◌&&◌, List, [], ◌∷◌, ◌++◌, length, length-append, get_or, get_or-set_same, get_or-set_other, slice_set, slice_index, nat_eq, eqb-true}
use Rattle.std.proofs.lemmas.Bool.{eqb-false}
use Rattle.std.proofs.lemmas.List.{map-append, append-nil, length-replicate}
use Rattle.std.specs.Prelude.{map, replicate, slice_get, Some, None}
use Rattle.lat_base.specs.declared.item.Item.{Item}
use Rattle.lat_base.specs.declared.item.Item.TheVariants.{Byte}
use Rattle.lat_model.specs.sessions.Slots as slots
use Rattle.lat_stream.specs.Kept.{item_of}
use Rattle.lat_replay.specs.declared.roster.row.Flow.{Flow}
use Rattle.lat_laws.specs.tales.Keeping.{with_items, adds, lines_of}
use Rattle.lat_laws.specs.tales.Rows as rows
use Rattle.lat_laws.specs.tales.Rows.{RowAfter}
use Rattle.lat_replay.specs.declared.roster.figures.Figures.{Figures}
use Rattle.lat_machines.specs.cores.Cores.{Seat}
use Rattle.lat_laws.specs.tales.Keeping.{change, no_rows, new_row, connects, accepts}
use Rattle.lat_replay.specs.declared.roster.names.RowKey.{RowKey}
use Rattle.lat_replay.specs.declared.roster.row.Row.{Row}
use Rattle.lat_replay.specs.roster.Rows.{ShowsFigures, ShowsRow, IsSeat, HasReserved, some_line}
use Rattle.lat_replay.specs.roster.Roster.{Kept, ShowsRows, HasRows, Holds, last_row}
use Rattle.lat_replay.specs.roster.Names.{key_of, place_of, same_key}

changed_at : (ks : List Row) (rs : List rows.RowAfter) (i : ℕ) (d k : Row) (f : rows.RowAfter → rows.RowAfter) → i < length ks → ShowsRows ks rs → ((r : rows.RowAfter) → ShowsRow (get_or ks i d) r → ShowsRow k (f r)) → ShowsRows (slice_set ks i k) (change (suc i) f rs)
changed_at [] rs i d k f l h g = absurd (omega (arith, l))
changed_at (x ∷ ks) [] i d k f l h g = absurd h
changed_at (x ∷ ks) (r ∷ rs) zero d k f l h g = (g r h.0, h.1)
changed_at (x ∷ ks) (r ∷ rs) (suc i) d k f l h g = (h.0, changed_at ks rs i d k f (omega (arith, l)) h.1 g)

pub shows_changed : (ks : List Row) (rs : List rows.RowAfter) (place : ℕ) (d k : Row) (f : rows.RowAfter → rows.RowAfter) → 0 < place → place ≤ length ks → ShowsRows ks rs → ((r : rows.RowAfter) → ShowsRow (get_or ks (place - 1) d) r → ShowsRow k (f r)) → ShowsRows (slice_set ks (place - 1) k) (change place f rs)
shows_changed ks rs zero d k f a b h g = absurd (omega (arith, a))
shows_changed ks rs (suc i) d k f a b h g =
    let e : suc i - 1 ≡ i = omega arith in
    subst (λ j. ShowsRows (slice_set ks j k) (change (suc i) f rs)) (sym e) (changed_at ks rs i d k f (omega (arith, b)) h (λ r q. g r (subst (λ j. ShowsRow (get_or ks j d) r) (sym e) q)))

-- the line of the node

pub line_given : (line : ℕ) → 0 < line → Some line ≡ some_line line
line_given line l = go (nat_eq line 0) refl
  where
    go : (b : Bool) → nat_eq line 0 ≡ b → Some line ≡ cond b None (Some line)
    go true q = absurd (let e : line ≡ 0 = eqb-true line 0 q in omega (arith, e, l))
    go false q = refl

pub given_line : (n line : ℕ) → Some line ≡ some_line n → (n ≡ line) × (line ≢ 0)
given_line n line e = go (nat_eq n 0) refl e
  where
    go : (b : Bool) → nat_eq n 0 ≡ b → Some line ≡ cond b None (Some n) → (n ≡ line) × (line ≢ 0)
    go true q e = let z : ⊥ = cc in absurd z
    go false q e = let s : n ≡ line = cc in (s, λ z. eqb-false n 0 q (s ∙ z))

pub none_given : (n : ℕ) → None ≡ some_line n → n ≡ 0
none_given n e = go (nat_eq n 0) refl e
  where
    go : (b : Bool) → nat_eq n 0 ≡ b → None ≡ cond b None (Some n) → n ≡ 0
    go true q e = eqb-true n 0 q
    go false q e = let z : ⊥ = cc in absurd z

-- lists of places

zero_at : (n i : ℕ) → get_or {A = ℕ} (replicate n 0) i 0 ≡ 0
zero_at zero i = refl
zero_at (suc n) zero = refl
zero_at (suc n) (suc i) = zero_at n i

zeros : (n : ℕ) (xs : List ℕ) (i : ℕ) → xs ≡ replicate n 0 → get_or xs i 0 ≡ 0
zeros n xs i e = ap (λ z. get_or z i 0) e ∙ zero_at n i

-- each line has the place 0

pub holds_none : (n : ℕ) (k : Kept) → n ≡ 256 → k.server_lines ≡ replicate n 0 → k.node_lines ≡ replicate n 0 → ((key : RowKey) → place_of k.names key ≡ 0) → Holds k
holds_none n k all server node names = record {
  server_len = ap length server ∙ (length-replicate n 0 ∙ all);
  node_len = ap length node ∙ (length-replicate n 0 ∙ all);
  server_places = λ line. let e = zeros n k.server_lines line server in omega (arith, e);
  node_places = λ line. let e = zeros n k.node_lines line node in omega (arith, e);
  name_places = λ key. let e = names key in omega (arith, e);
}

pub shows_none : (n : ℕ) (k : Kept) → k.rows ≡ [] → k.server_lines ≡ replicate n 0 → k.node_lines ≡ replicate n 0 → ((key : RowKey) → place_of k.names key ≡ 0) → HasRows k no_rows
shows_none n k rows server node names = record {
  rows = subst (λ z. ShowsRows z []) (sym rows) refl;
  server_lines = λ line l. zeros n k.server_lines line server;
  node_lines = λ line l. zeros n k.node_lines line node;
  names = λ circuit id. names (key_of circuit id);
}

-- one row more

pub shows_more : (ks : List Row) (rs : List rows.RowAfter) (k : Row) (r : rows.RowAfter) → ShowsRows ks rs → ShowsRow k r → ShowsRows (ks ++ k ∷ []) (rs ++ r ∷ [])
shows_more [] [] k r h s = (s, refl)
shows_more [] (x ∷ rs) k r h s = let z : ⊥ = cc in absurd z
shows_more (x ∷ ks) [] k r h s = absurd h
shows_more (x ∷ ks) (y ∷ rs) k r h s = (h.0, shows_more ks rs k r h.1 s)

pub shows_length : (ks : List Row) (rs : List rows.RowAfter) → ShowsRows ks rs → length rs ≡ length ks
shows_length [] rs h = ap length h
shows_length (k ∷ ks) [] h = absurd h
shows_length (k ∷ ks) (r ∷ rs) h = ap suc (shows_length ks rs h.1)

pub change_length : (place : ℕ) (f : rows.RowAfter → rows.RowAfter) (rs : List rows.RowAfter) → length (change place f rs) ≡ length rs
change_length zero f rs = refl
change_length (suc k) f [] = refl
change_length (suc zero) f (r ∷ rs) = refl
change_length (suc (suc k)) f (r ∷ rs) = ap suc (change_length (suc k) f rs)

-- a change that keeps the ids

pub last_changed : (circuit id n found place : ℕ) (f : rows.RowAfter → rows.RowAfter) (rs : List rows.RowAfter) → ((r : rows.RowAfter) → ((f r).circuit ≡ r.circuit) × ((f r).id ≡ r.id)) → last_row circuit id n found (change place f rs) ≡ last_row circuit id n found rs
last_changed circuit id n found zero f rs h = refl
last_changed circuit id n found (suc k) f [] h = refl
last_changed circuit id n found (suc zero) f (r ∷ rs) h = ap₂ (λ c i. last_row circuit id (suc n) (cond (nat_eq c circuit && nat_eq i id) (suc n) found) rs) (h r).0 (h r).1
last_changed circuit id n found (suc (suc k)) f (r ∷ rs) h = last_changed circuit id (suc n) (cond (nat_eq r.circuit circuit && nat_eq r.id id) (suc n) found) (suc k) f rs h

pub last_more : (circuit id n found : ℕ) (rs : List rows.RowAfter) (r : rows.RowAfter) → last_row circuit id n found (rs ++ r ∷ []) ≡ cond (nat_eq r.circuit circuit && nat_eq r.id id) (suc (n + length rs)) (last_row circuit id n found rs)
last_more circuit id n found [] r = ap (λ k. cond (nat_eq r.circuit circuit && nat_eq r.id id) (suc k) found) (plus n)
  where
    plus : (n : ℕ) → n ≡ n + 0
    plus n = omega arith
last_more circuit id n found (y ∷ rs) r =
    last_more circuit id (suc n) (cond (nat_eq y.circuit circuit && nat_eq y.id id) (suc n) found) rs r
    ∙ ap (λ k. cond (nat_eq r.circuit circuit && nat_eq r.id id) (suc k) (last_row circuit id (suc n) (cond (nat_eq y.circuit circuit && nat_eq y.id id) (suc n) found) rs)) (plus n (length rs))
  where
    plus : (n m : ℕ) → suc n + m ≡ n + suc m
    plus n m = omega arith

-- the places of lines

lines_set : (xs : List ℕ) (i v j : ℕ) → i < length xs → get_or (slice_set xs i v) j 0 ≡ cond (nat_eq j i) v (get_or xs j 0)
lines_set xs i v j l = go (nat_eq j i) refl
  where
    go : (b : Bool) → nat_eq j i ≡ b → get_or (slice_set xs i v) j 0 ≡ cond b v (get_or xs j 0)
    go true q = (let e : j ≡ i = eqb-true j i q in ap (λ z. get_or (slice_set xs i v) z 0) e ∙ get_or-set_same xs i v 0 l)
    go false q = get_or-set_other xs i j v 0 (eqb-false j i q)

default_same : (xs : List ℕ) (i d e : ℕ) → i < length xs → get_or xs i d ≡ get_or xs i e
default_same [] i d e l = absurd (omega (arith, l))
default_same (x ∷ xs) zero d e l = refl
default_same (x ∷ xs) (suc i) d e l = default_same xs i d e (omega (arith, l))

-- what was read at a line's place
pub read_at : (xs ys : List ℕ) (i line v : ℕ) → v ≡ get_or xs i v → xs ≡ ys → i ≡ line → line < length ys → v ≡ get_or ys line 0
read_at xs ys i line v h p q l = h ∙ (ap₂ (λ z j. get_or z j v) p q ∙ default_same ys line v 0 l)

pub accepted : (k v : Kept) (r : rows.RowsAfter) (f : rows.Figures) (b : Figures) (line place left : ℕ) → HasRows k r → length k.node_lines ≡ 256 → line < 256 → left ≡ get_or k.node_lines line 0 → (get_or k.node_lines line 0 ≢ 0 → ShowsFigures b f) → (ShowsRows k.rows r.rows → (left ≢ 0 → ShowsFigures b f) → ShowsRows v.rows (change place (λ y. record y { node_line = line }) (change left (λ y. record y { node = f }) r.rows))) → v.server_lines ≡ k.server_lines → v.node_lines ≡ slice_set k.node_lines line place → v.names ≡ k.names → HasRows v (accepts line place f r)
accepted k v r f b line place left h n l e g changed server node names = record {
  rows = subst (λ z. ShowsRows v.rows (change place (λ y. record y { node_line = line }) (change z (λ y. record y { node = f }) r.rows))) (e ∙ h.node_lines line l) (changed h.rows (λ z. g (λ y. z (e ∙ y))));
  server_lines = λ j m. ap (λ z. get_or z j 0) server ∙ h.server_lines j m;
  node_lines = λ j m. ap (λ z. get_or z j 0) node ∙ (lines_set k.node_lines line place j (omega (arith, n, l)) ∙ ap (λ z. cond (nat_eq j line) place z) (h.node_lines j m));
  names = λ c i. ap (λ z. place_of z (key_of c i)) names ∙ (h.names c i ∙ sym (last_changed c i 0 0 place (λ y. record y { node_line = line }) (change (r.node_lines line) (λ y. record y { node = f }) r.rows) (λ y. (refl, refl)) ∙ last_changed c i 0 0 (r.node_lines line) (λ y. record y { node = f }) r.rows (λ y. (refl, refl))));
}

pub connected : (k v : Kept) (r : rows.RowsAfter) (f : rows.Figures) (b : Figures) (s : Seat) (row : Row) (list : List Row) (line circuit id left : ℕ) → HasRows k r → IsSeat s line circuit id → length k.server_lines ≡ 256 → line < 256 → left ≡ get_or k.server_lines line 0 → (get_or k.server_lines line 0 ≢ 0 → ShowsFigures b f) → (ShowsRows k.rows r.rows → (left ≢ 0 → ShowsFigures b f) → ShowsRows list (change left (λ y. record y { server = f }) r.rows)) → ShowsRow row (new_row s) → v.rows ≡ list ++ row ∷ [] → v.server_lines ≡ slice_set k.server_lines line (length v.rows) → v.node_lines ≡ k.node_lines → ((q : RowKey) → place_of v.names q ≡ cond (same_key (key_of circuit id) q) (length v.rows) (place_of k.names q)) → HasRows v (connects s f r)
connected k v r f b s row list line circuit id left h is n l e g leaves new at server node names = record {
  rows = subst (λ z. ShowsRows z (changed ++ new_row s ∷ [])) (sym at) (shows_more list changed row (new_row s) shown new);
  server_lines = λ j o. ap (λ z. get_or z j 0) server ∙ (lines_set k.server_lines line (length v.rows) j (omega (arith, n, l)) ∙ (ap₂ (λ y z. cond (nat_eq j line) y z) count (h.server_lines j o) ∙ ap (λ z. cond (nat_eq j z) (suc (length r.rows)) (r.server_lines j)) (sym is.line)));
  node_lines = λ j o. ap (λ z. get_or z j 0) node ∙ h.node_lines j o;
  names = λ c i.
      names (key_of c i)
      ∙ (ap (λ z. cond (nat_eq circuit c && nat_eq id i) (length v.rows) z) (h.names c i ∙ sym (last_changed c i 0 0 (r.server_lines s.line) (λ y. record y { server = f }) r.rows (λ y. (refl, refl))))
      ∙ sym (last_more c i 0 0 changed (new_row s) ∙ (ap₂ (λ x y. cond (nat_eq x c && nat_eq y i) (suc (0 + length changed)) (last_row c i 0 0 changed)) is.circuit is.id ∙ ap (λ z. cond (nat_eq circuit c && nat_eq id i) z (last_row c i 0 0 changed)) (sym count2))));
}
  where
    changed : List RowAfter
    changed = change (r.server_lines s.line) (λ y. record y { server = f }) r.rows

    shown : ShowsRows list changed
    shown = subst (λ z. ShowsRows list (change z (λ y. record y { server = f }) r.rows)) (e ∙ (h.server_lines line l ∙ ap r.server_lines (sym is.line))) (leaves h.rows (λ z. g (λ y. z (e ∙ y))))

    same : length changed ≡ length r.rows
    same = change_length (r.server_lines s.line) (λ y. record y { server = f }) r.rows

    count : length v.rows ≡ suc (length r.rows)
    count = (let a : length changed ≡ length list = shows_length list changed shown in let o : length v.rows ≡ length list + 1 = ap length at ∙ length-append list (row ∷ []) in omega (arith, a, o, same))

    count2 : length v.rows ≡ suc (0 + length changed)
    count2 = omega (arith, count, same)

-- what is put and taken more

pub bytes_shown : (xs : List ℕ) → map item_of (map slots.Byte xs) ≡ map Byte xs
bytes_shown [] = refl
bytes_shown (x ∷ xs) = ap (λ z. Byte x ∷ z) (bytes_shown xs)

more_bytes : (xs ys : List Item) (ps : List slots.Item) (bs : List ℕ) → ys ≡ xs ++ map Byte bs → xs ≡ map item_of ps → ys ≡ map item_of (ps ++ map slots.Byte bs)
more_bytes xs ys ps bs e h = e ∙ (ap₂ (λ x y. x ++ y) h (sym (bytes_shown bs)) ∙ sym (map-append item_of ps (map slots.Byte bs)))

nothing_more : (xs : List Item) (ps : List slots.Item) → xs ≡ map item_of ps → xs ≡ map item_of (ps ++ [])
nothing_more xs ps h = h ∙ ap (map item_of) (sym (append-nil ps))

pub puts_up : (k v : Row) (r : rows.RowAfter) (bs : List ℕ) → v.up.put.items ≡ k.up.put.items ++ map Byte bs → v.up.taken.items ≡ k.up.taken.items → v.down ≡ k.down → (v.line ≡ k.line) × (v.circuit ≡ k.circuit) × (v.id ≡ k.id) × (v.node_line ≡ k.node_line) × (v.server ≡ k.server) × (v.node ≡ k.node) → ShowsRow k r → ShowsRow v (with_items true (map slots.Byte bs) [] r)
puts_up k v r bs e t d o h = record {
  line = o.0 ∙ h.line;
  circuit = o.1 ∙ h.circuit;
  id = o.2 ∙ h.id;
  node_line = o.3 ∙ h.node_line;
  put_up = more_bytes k.up.put.items v.up.put.items r.put_up bs e h.put_up;
  taken_up = t ∙ h.taken_up;
  put_down = ap (λ (w : Flow). w.put.items) d ∙ h.put_down;
  taken_down = nothing_more v.down.taken.items r.taken_down (ap (λ (w : Flow). w.taken.items) d ∙ h.taken_down);
  server = subst (λ z. ShowsFigures z r.server) (sym o.4) h.server;
  node = subst (λ z. ShowsFigures z r.node) (sym o.5) h.node;
}

pub puts_down : (k v : Row) (r : rows.RowAfter) (bs : List ℕ) → v.down.put.items ≡ k.down.put.items ++ map Byte bs → v.down.taken.items ≡ k.down.taken.items → v.up ≡ k.up → (v.line ≡ k.line) × (v.circuit ≡ k.circuit) × (v.id ≡ k.id) × (v.node_line ≡ k.node_line) × (v.server ≡ k.server) × (v.node ≡ k.node) → ShowsRow k r → ShowsRow v (with_items false (map slots.Byte bs) [] r)
puts_down k v r bs e t d o h = record {
  line = o.0 ∙ h.line;
  circuit = o.1 ∙ h.circuit;
  id = o.2 ∙ h.id;
  node_line = o.3 ∙ h.node_line;
  put_down = more_bytes k.down.put.items v.down.put.items r.put_down bs e h.put_down;
  taken_down = t ∙ h.taken_down;
  put_up = ap (λ (w : Flow). w.put.items) d ∙ h.put_up;
  taken_up = nothing_more v.up.taken.items r.taken_up (ap (λ (w : Flow). w.taken.items) d ∙ h.taken_up);
  server = subst (λ z. ShowsFigures z r.server) (sym o.4) h.server;
  node = subst (λ z. ShowsFigures z r.node) (sym o.5) h.node;
}

-- what goes into the row of a line's newest session

pub added : (k v : Kept) (r : rows.RowsAfter) (b : Bool) (line place : ℕ) (ps ts : List slots.Item) → HasRows k r → line < 256 → place ≡ slice_index (cond b k.server_lines k.node_lines) line → (ShowsRows k.rows r.rows → ShowsRows v.rows (change place (with_items b ps ts) r.rows)) → v.server_lines ≡ k.server_lines → v.node_lines ≡ k.node_lines → v.names ≡ k.names → HasRows v (adds b line ps ts r)
added k v r b line place ps ts h l e changed server node names = record {
  rows = subst (λ z. ShowsRows v.rows (change z (with_items b ps ts) r.rows)) (e ∙ at b) (changed h.rows);
  server_lines = λ j m. ap (λ z. slice_index z j) server ∙ h.server_lines j m;
  node_lines = λ j m. ap (λ z. slice_index z j) node ∙ h.node_lines j m;
  names = λ c i. ap (λ z. place_of z (key_of c i)) names ∙ (h.names c i ∙ sym (last_changed c i 0 0 (lines_of b r line) (with_items b ps ts) r.rows (ids b)));
}
  where
    at : (b : Bool) → slice_index (cond b k.server_lines k.node_lines) line ≡ lines_of b r line
    at true = h.server_lines line l
    at false = h.node_lines line l

    ids : (b : Bool) (y : RowAfter) → ((with_items b ps ts y).circuit ≡ y.circuit) × ((with_items b ps ts y).id ≡ y.id)
    ids true y = (refl, refl)
    ids false y = (refl, refl)

-- a row that is changed where what it shows stays

change_none : (place : ℕ) (rs : List rows.RowAfter) → change place (λ r. r) rs ≡ rs
change_none zero rs = refl
change_none (suc k) [] = refl
change_none (suc zero) (r ∷ rs) = refl
change_none (suc (suc k)) (r ∷ rs) = ap (λ z. r ∷ z) (change_none (suc k) rs)

pub shows_stays : (ks : List Row) (rs : List rows.RowAfter) (place : ℕ) (d k : Row) → 0 < place → place ≤ length ks → ShowsRows ks rs → ((r : rows.RowAfter) → ShowsRow (get_or ks (place - 1) d) r → ShowsRow k r) → ShowsRows (slice_set ks (place - 1) k) rs
shows_stays ks rs place d k a b h g = subst (λ z. ShowsRows (slice_set ks (place - 1) k) z) (change_none place rs) (shows_changed ks rs place d k (λ r. r) a b h g)

got_set : (ks : List Row) (i : ℕ) (x k : Row) → slice_get (slice_set ks i x) i ≡ Some k → x ≡ k
got_set [] i x k h = let z : ⊥ = cc in absurd z
got_set (y ∷ ks) zero x k h = cc
got_set (y ∷ ks) (suc i) x k h = got_set ks i x k h

pub room_set : (ks : List Row) (place i : ℕ) (b : Bool) (put taken : ℕ) (x k : Row) → place ≡ suc i → slice_get (slice_set ks (place - 1) x) i ≡ Some k → HasReserved b put taken x → HasReserved b put taken k
room_set ks place i b put taken x k e h r = let j : place - 1 ≡ i = omega (arith, e) in subst (λ z. HasReserved b put taken z) (got_set ks i x k (subst (λ z. slice_get (slice_set ks z x) i ≡ Some k) j h)) r
