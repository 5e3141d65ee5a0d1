-- The ids of a core's circuits as a list, which rises: each stands in it once, and the next one has its place.
use Rattle.std.proofs.Common.{◌≡◌, ◌≢◌, ℕ, zero, suc, ◌+◌, ◌-◌, ◌<◌, ◌≤◌, ◌⊎◌, inl, inr, ⊎_elim, sym, ap, ap₂, ◌∙◌, refl, subst, arith, Bool, true, false, cond, ◌||◌, List, [], ◌∷◌, ◌++◌, length, length-append, append_assoc, min, nat_eq, eqb-true, eq-eqb, ne_eqb, append-nil}
use Rattle.std.proofs.lemmas.Bool.{or_right, false_from_ne_true, true≢false, cases_lt}
use Rattle.std.specs.List.{list_any}
use Rattle.lat_model.specs.Lists.{Each, upwards, keep}
use Rattle.lat_model.specs.circuits.Ids.{ids_up, ids_round, id_behind, ids_of, is_id_of, Rises}
use Rattle.lat_model.proofs.numbers.Net.{each_append}
use Rattle.lat_model.proofs.circuits.Ids.{Lies, Up, Round, Beyond, id_lies, lies_id, Next, NextUp, NextRound, NextBeyond, next_is, drawn_not}

-- the ids as a list

upwards_more : (n k : ℕ) → upwards n (suc k) ≡ upwards n k ++ suc (n + k) ∷ []
upwards_more n zero = ap (λ z. suc z ∷ []) (omega arith)
upwards_more n (suc k) = ap (λ z. suc n ∷ z) (upwards_more (suc n) k ∙ ap (λ z. upwards (suc n) k ++ suc z ∷ []) (omega arith))

upwards_length : (n k : ℕ) → length (upwards n k) ≡ k
upwards_length n zero = refl
upwards_length n (suc k) = ap suc (upwards_length (suc n) k)

pub ids_length : (f n : ℕ) → length (ids_of f n) ≡ n
ids_length f n =
    let a : List ℕ = upwards 0 (ids_round f n) in
    let b : List ℕ = upwards (f - 1) (min (ids_up f) n) in
    let c : List ℕ = upwards 65535 (n - 65535) in
    let i : length a ≡ ids_round f n = upwards_length 0 (ids_round f n) in
    let j : length b ≡ min (ids_up f) n = upwards_length (f - 1) (min (ids_up f) n) in
    let k : length c ≡ n - 65535 = upwards_length 65535 (n - 65535) in
    length-append a (b ++ c) ∙ (ap (λ z. length a + z) (length-append b c) ∙ omega (arith, i, j, k))

-- where the next id stands among those before
pub record Draw (f n : ℕ) : Type 0 where
  pub front : List ℕ
  pub back : List ℕ
  pub before : ids_of f n ≡ front ++ back
  pub behind : ids_of f (suc n) ≡ front ++ id_behind f n ∷ back

abbrev pub three : ℕ → ℕ → ℕ → ℕ → List ℕ
three f i j k = upwards 0 i ++ (upwards f j ++ upwards 65535 k)

three_as : (f i i' j j' k k' : ℕ) → i ≡ i' → j ≡ j' → k ≡ k' → three f i j k ≡ three f i' j' k'
three_as f i i' j j' k k' p q r = ap₂ (λ a b. upwards 0 a ++ (upwards f b ++ upwards 65535 k)) p q ∙ ap (λ c. three f i' j' c) r

-- one more at the end of the first, the second and the third
first_more : (i : ℕ) (rest : List ℕ) → upwards 0 (suc i) ++ rest ≡ upwards 0 i ++ suc i ∷ rest
first_more i rest =
    let plus : 0 + i ≡ i = omega arith in
    ap (λ z. z ++ rest) (upwards_more 0 i) ∙ (append_assoc (upwards 0 i) (suc (0 + i) ∷ []) rest ∙ ap (λ z. upwards 0 i ++ suc z ∷ rest) plus)

second_more : (f i : ℕ) (rest : List ℕ) → upwards f (suc i) ++ rest ≡ upwards f i ++ suc (f + i) ∷ rest
second_more f i rest = ap (λ z. z ++ rest) (upwards_more f i) ∙ append_assoc (upwards f i) (suc (f + i) ∷ []) rest

pub draw : (f n : ℕ) → Draw f n
draw f n = go (id_behind f n) (next_is f n) refl
  where
    u : ℕ
    u = ids_up f

    go : (x : ℕ) → Next f n x → id_behind f n ≡ x → Draw f n
    go x (NextUp l e) q = record {
      front = upwards (f - 1) n;
      back = [];
      before = three_as (f - 1) (ids_round f n) 0 (min u n) n (n - 65535) 0 (omega (arith, l)) (omega (arith, l)) (omega (arith, l));
      behind =
          three_as (f - 1) (ids_round f (suc n)) 0 (min u (suc n)) (suc n) (suc n - 65535) 0 (omega (arith, l)) (omega (arith, l)) (omega (arith, l))
          ∙ (second_more (f - 1) n [] ∙ ap (λ z. upwards (f - 1) n ++ z ∷ []) (sym (q ∙ e)));
    }
    go x (NextRound l w e) q = record {
      front = upwards 0 (n - u);
      back = upwards (f - 1) u ++ [];
      before = three_as (f - 1) (ids_round f n) (n - u) (min u n) u (n - 65535) 0 (omega (arith, l, w)) (omega (arith, l)) (omega (arith, w));
      behind =
          three_as (f - 1) (ids_round f (suc n)) (suc (n - u)) (min u (suc n)) u (suc n - 65535) 0 (omega (arith, l, w)) (omega (arith, l)) (omega (arith, w))
          ∙ (first_more (n - u) (upwards (f - 1) u ++ []) ∙ ap (λ z. upwards 0 (n - u) ++ z ∷ (upwards (f - 1) u ++ [])) (sym (q ∙ e)));
    }
    go x (NextBeyond l e) q =
        let a : List ℕ = upwards 0 (65535 - u) in
        let b : List ℕ = upwards (f - 1) u in
        let c : List ℕ = upwards 65535 (n - 65535) in
        record {
          front = a ++ (b ++ c);
          back = [];
          before =
              three_as (f - 1) (ids_round f n) (65535 - u) (min u n) u (n - 65535) (n - 65535) (omega (arith, l)) (omega (arith, l)) refl
              ∙ sym (append-nil (a ++ (b ++ c)));
          behind =
              three_as (f - 1) (ids_round f (suc n)) (65535 - u) (min u (suc n)) u (suc n - 65535) (suc (n - 65535)) (omega (arith, l)) (omega (arith, l)) (omega (arith, l))
              ∙ (ap (λ z. a ++ (b ++ z)) (upwards_more 65535 (n - 65535) ∙ ap (λ z. c ++ suc z ∷ []) (omega (arith, l)))
              ∙ (ap (λ z. a ++ z) (sym (append_assoc b c (suc n ∷ [])))
              ∙ (sym (append_assoc a (b ++ c) (suc n ∷ []))
              ∙ ap (λ z. (a ++ (b ++ c)) ++ z ∷ []) (sym (q ∙ e)))));
        }

-- what holds of each id holds of each in the list

upwards_each : (P : ℕ → Type 0) (n k : ℕ) → ((x : ℕ) → n < x → x ≤ n + k → P x) → Each P (upwards n k)
upwards_each P n zero h = tt
upwards_each P n (suc k) h = (h (suc n) (omega arith) (omega arith), upwards_each P (suc n) k (λ x l m. h x (omega (arith, l)) (omega (arith, m))))

pub each_id : (P : ℕ → Type 0) (f n : ℕ) → ((x : ℕ) → is_id_of f n x ≡ true → P x) → Each P (ids_of f n)
each_id P f n h =
    each_append P (upwards 0 (ids_round f n)) (upwards (f - 1) (min (ids_up f) n) ++ upwards 65535 (n - 65535))
    (upwards_each P 0 (ids_round f n) (λ x l m. h x (lies_id f n x (Round l (omega (arith, m))))))
    (each_append P (upwards (f - 1) (min (ids_up f) n)) (upwards 65535 (n - 65535))
    (upwards_each P (f - 1) (min (ids_up f) n) (λ x l m. h x (lies_id f n x (Up l m))))
    (upwards_each P 65535 (n - 65535) (λ x l m. h x (lies_id f n x (Beyond l (omega (arith, l, m)))))))

-- and the other way

each_left : (P : ℕ → Type 0) (xs ys : List ℕ) → Each P (xs ++ ys) → Each P xs
each_left P [] ys h = tt
each_left P (x ∷ xs) ys h = (h.0, each_left P xs ys h.1)

each_right : (P : ℕ → Type 0) (xs ys : List ℕ) → Each P (xs ++ ys) → Each P ys
each_right P [] ys h = h
each_right P (x ∷ xs) ys h = each_right P xs ys h.1

each_upwards : (P : ℕ → Type 0) (n k : ℕ) → Each P (upwards n k) → (x : ℕ) → n < x → x ≤ n + k → P x
each_upwards P n zero h x l m = absurd (omega (arith, l, m))
each_upwards P n (suc k) h x l m =
    ⊎_elim {C = P x}
    (λ o. each_upwards P (suc n) k h.1 x o (omega (arith, m)))
    (λ o. subst P (omega (arith, o, l)) h.0)
    (cases_lt (suc n) x)

pub id_at_each : (P : ℕ → Type 0) (f n : ℕ) → Each P (ids_of f n) → (x : ℕ) → is_id_of f n x ≡ true → P x
id_at_each P f n h x d = go (id_lies f n x d)
  where
    a : List ℕ
    a = upwards 0 (ids_round f n)

    b : List ℕ
    b = upwards (f - 1) (min (ids_up f) n)

    c : List ℕ
    c = upwards 65535 (n - 65535)

    go : Lies f n x → P x
    go (Up l m) = each_upwards P (f - 1) (min (ids_up f) n) (each_left P b c (each_right P a (b ++ c) h)) x l m
    go (Round l m) = each_upwards P 0 (ids_round f n) (each_left P a (b ++ c) h) x l (omega (arith, m))
    go (Beyond l m) = each_upwards P 65535 (n - 65535) (each_right P b c (each_right P a (b ++ c) h)) x l (omega (arith, l, m))

-- a number that stands in a list exactly once
abbrev pub Once : ℕ → List ℕ → Type 0
Once x [] = ⊥
Once x (y ∷ ys) = ((y ≡ x) × Each (λ z. z ≢ x) ys) ⊎ ((y ≢ x) × Once x ys)

once_left : (x : ℕ) (xs ys : List ℕ) → Once x xs → Each (λ z. z ≢ x) ys → Once x (xs ++ ys)
once_left x [] ys h e = absurd h
once_left x (y ∷ xs) ys (inl p) e = inl (p.0, each_append (λ z. z ≢ x) xs ys p.1 e)
once_left x (y ∷ xs) ys (inr p) e = inr (p.0, once_left x xs ys p.1 e)

once_right : (x : ℕ) (xs ys : List ℕ) → Each (λ z. z ≢ x) xs → Once x ys → Once x (xs ++ ys)
once_right x [] ys e h = h
once_right x (y ∷ xs) ys e h = inr (e.0, once_right x xs ys e.1 h)

once_up : (x n k : ℕ) → n < x → x ≤ n + k → Once x (upwards n k)
once_up x n zero l m = absurd (omega (arith, l, m))
once_up x n (suc k) l m =
    ⊎_elim {C = Once x (upwards n (suc k))}
    (λ o. inr ((λ q. absurd (omega (arith, q, o))), once_up x (suc n) k o (omega (arith, m))))
    (λ o. inl (omega (arith, o, l), upwards_each (λ z. z ≢ x) (suc n) k (λ y a b q. absurd (omega (arith, a, q, o)))))
    (cases_lt (suc n) x)

-- each id that is drawn stands once in the list
pub id_once : (f n x : ℕ) → is_id_of f n x ≡ true → Once x (ids_of f n)
id_once f n x h = go (id_lies f n x h)
  where
    a : List ℕ
    a = upwards 0 (ids_round f n)

    b : List ℕ
    b = upwards (f - 1) (min (ids_up f) n)

    c : List ℕ
    c = upwards 65535 (n - 65535)

    go : Lies f n x → Once x (a ++ (b ++ c))
    go (Up l m) =
        once_right x a (b ++ c) (upwards_each (λ z. z ≢ x) 0 (ids_round f n) (λ y i j q. absurd (omega (arith, i, j, q, l))))
        (once_left x b c (once_up x (f - 1) (min (ids_up f) n) l m) (upwards_each (λ z. z ≢ x) 65535 (n - 65535) (λ y i j q. absurd (omega (arith, i, q, l, m)))))
    go (Round l m) =
        once_left x a (b ++ c) (once_up x 0 (ids_round f n) l (omega (arith, m)))
        (each_append (λ z. z ≢ x) b c (upwards_each (λ z. z ≢ x) (f - 1) (min (ids_up f) n) (λ y i j q. absurd (omega (arith, i, q, m)))) (upwards_each (λ z. z ≢ x) 65535 (n - 65535) (λ y i j q. absurd (omega (arith, i, q, m)))))
    go (Beyond l m) =
        once_right x a (b ++ c) (upwards_each (λ z. z ≢ x) 0 (ids_round f n) (λ y i j q. absurd (omega (arith, j, q, l))))
        (once_right x b c (upwards_each (λ z. z ≢ x) (f - 1) (min (ids_up f) n) (λ y i j q. absurd (omega (arith, i, j, q, l)))) (once_up x 65535 (n - 65535) l (omega (arith, l, m))))

-- the ids rise

rises_up : (n k l : ℕ) (ys : List ℕ) → Rises (n + k) ys → n + k ≤ l → Rises l ys → Rises n (upwards n k ++ ys)
rises_up n zero l ys r h s = subst (λ z. Rises z ys) (omega arith) r
rises_up n (suc k) l ys r h s = (omega arith, rises_up (suc n) k l ys (subst (λ z. Rises z ys) (omega arith) r) (omega (arith, h)) s)

rises_from : (m n : ℕ) (ys : List ℕ) → m ≤ n → Rises n ys → Rises m ys
rises_from m n [] l r = tt
rises_from m n (y ∷ ys) l r = (let q : n < y = r.0 in omega (arith, l, q), r.1)

pub ids_rise : (f n : ℕ) → Rises 0 (ids_of f n)
ids_rise f n = ⊎_elim {C = Rises 0 (a ++ (b ++ c))} late usual (cases_lt 65535 (f - 1))
  where
    a : List ℕ
    a = upwards 0 (ids_round f n)

    b : List ℕ
    b = upwards (f - 1) (min (ids_up f) n)

    c : List ℕ
    c = upwards 65535 (n - 65535)

    rises : (m k : ℕ) (ys : List ℕ) → Rises (m + k) ys → Rises m (upwards m k ++ ys)
    rises m k ys r = rises_up m k (m + k) ys r (omega arith) r

    last : Rises 65535 c
    last = subst (Rises 65535) (append-nil c) (rises 65535 (n - 65535) [] tt)

    -- where the first id is above 65,535, none lies between
    late : 65535 < f - 1 → Rises 0 (a ++ (b ++ c))
    late l =
        let none : 0 ≡ min (ids_up f) n = omega (arith, l) in
        subst (λ k. Rises 0 (a ++ (upwards (f - 1) k ++ c))) none (rises 0 (ids_round f n) c (rises_from (0 + ids_round f n) 65535 c (omega arith) last))

    usual : f - 1 ≤ 65535 → Rises 0 (a ++ (b ++ c))
    usual l =
        rises 0 (ids_round f n) (b ++ c)
        (rises_from (0 + ids_round f n) (f - 1) (b ++ c) (omega (arith, l))
        (rises (f - 1) (min (ids_up f) n) c (rises_from (f - 1 + min (ids_up f) n) 65535 c (omega (arith, l)) last)))

-- which numbers stand in the list

once_any : (x : ℕ) (xs : List ℕ) → Once x xs → list_any (nat_eq x) xs ≡ true
once_any x [] h = absurd h
once_any x (y ∷ xs) (inl p) = ap (λ b. b || list_any (nat_eq x) xs) (eq-eqb x y (sym p.0))
once_any x (y ∷ xs) (inr p) = or_right (nat_eq x y) (list_any (nat_eq x) xs) (once_any x xs p.1)

none_any : (x : ℕ) (xs : List ℕ) → Each (λ y. y ≢ x) xs → list_any (nat_eq x) xs ≡ false
none_any x [] h = refl
none_any x (y ∷ xs) h = ap (λ b. b || list_any (nat_eq x) xs) (ne_eqb x y (λ q. h.0 (sym q))) ∙ none_any x xs h.1

pub ids_any : (f n x : ℕ) → list_any (nat_eq x) (ids_of f n) ≡ is_id_of f n x
ids_any f n x = go (is_id_of f n x) refl
  where
    go : (b : Bool) → is_id_of f n x ≡ b → list_any (nat_eq x) (ids_of f n) ≡ b
    go true h = once_any x (ids_of f n) (id_once f n x h)
    go false h = none_any x (ids_of f n) (each_id (λ y. y ≢ x) f n (λ y d q. drawn_not f n x y h d (sym q)))

-- lists that rise and hold the same numbers that pass keep the same

rises_any : (n x : ℕ) (xs : List ℕ) → Rises n xs → x ≤ n → list_any (nat_eq x) xs ≡ false
rises_any n x [] r l = refl
rises_any n x (y ∷ xs) r l = (let q : n < y = r.0 in ap (λ b. b || list_any (nat_eq x) xs) (ne_eqb x y (λ e. absurd (omega (arith, e, q, l)))) ∙ rises_any y x xs r.1 (omega (arith, q, l)))

-- the first number of the one stands below all of the other: it doesn't pass
passes_not : (p : ℕ → Bool) (x : ℕ) (xs ys : List ℕ) → Rises x ys → ((i : ℕ) → p i ≡ true → list_any (nat_eq i) (x ∷ xs) ≡ list_any (nat_eq i) ys) → p x ≡ false
passes_not p x xs ys r h = false_from_ne_true (p x) (λ i. true≢false (sym (ap (λ b. b || list_any (nat_eq x) xs) (eq-eqb x x refl)) ∙ (h x i ∙ rises_any x x ys r (omega arith))))

others_any : (p : ℕ → Bool) (x : ℕ) (xs ys : List ℕ) → p x ≡ false → ((i : ℕ) → p i ≡ true → list_any (nat_eq i) (x ∷ xs) ≡ list_any (nat_eq i) ys) → (i : ℕ) → p i ≡ true → list_any (nat_eq i) xs ≡ list_any (nat_eq i) ys
others_any p x xs ys n h i q = sym (ap (λ b. b || list_any (nat_eq i) xs) (ne_eqb i x (λ e. true≢false (sym q ∙ (ap p e ∙ n))))) ∙ h i q

both_any : (p : ℕ → Bool) (x : ℕ) (xs ys : List ℕ) → Rises x xs → Rises x ys → ((i : ℕ) → p i ≡ true → list_any (nat_eq i) (x ∷ xs) ≡ list_any (nat_eq i) (x ∷ ys)) → (i : ℕ) → p i ≡ true → list_any (nat_eq i) xs ≡ list_any (nat_eq i) ys
both_any p x xs ys r s h i q = go (nat_eq i x) refl (h i q)
  where
    go : (b : Bool) → nat_eq i x ≡ b → (b || list_any (nat_eq i) xs) ≡ (b || list_any (nat_eq i) ys) → list_any (nat_eq i) xs ≡ list_any (nat_eq i) ys
    go true e k = (let j : i ≡ x = eqb-true i x e in rises_any x i xs r (omega (arith, j)) ∙ sym (rises_any x i ys s (omega (arith, j))))
    go false e k = k

pub keep_rises : (p : ℕ → Bool) (n : ℕ) (xs ys : List ℕ) → Rises n xs → Rises n ys → ((i : ℕ) → p i ≡ true → list_any (nat_eq i) xs ≡ list_any (nat_eq i) ys) → keep p xs ≡ keep p ys
keep_rises p n [] [] r s h = refl
keep_rises p n [] (y ∷ ys) r s h =
    let k : (i : ℕ) → p i ≡ true → list_any (nat_eq i) (y ∷ ys) ≡ list_any (nat_eq i) [] = λ i q. sym (h i q) in
    let no : p y ≡ false = passes_not p y ys [] tt k in
    keep_rises p y [] ys tt s.1 (λ i q. sym (others_any p y ys [] no k i q)) ∙ sym (ap (λ b. cond b (y ∷ keep p ys) (keep p ys)) no)
keep_rises p n (x ∷ xs) [] r s h =
    let no : p x ≡ false = passes_not p x xs [] tt h in
    ap (λ b. cond b (x ∷ keep p xs) (keep p xs)) no ∙ keep_rises p x xs [] r.1 tt (others_any p x xs [] no h)
keep_rises p n (x ∷ xs) (y ∷ ys) r s h =
    ⊎_elim {C = keep p (x ∷ xs) ≡ keep p (y ∷ ys)}
    (λ l.
    let no : p x ≡ false = passes_not p x xs (y ∷ ys) (l, s.1) h in
    ap (λ b. cond b (x ∷ keep p xs) (keep p xs)) no ∙ keep_rises p x xs (y ∷ ys) r.1 (l, s.1) (others_any p x xs (y ∷ ys) no h))
    (λ l. ⊎_elim {C = keep p (x ∷ xs) ≡ keep p (y ∷ ys)}
    (λ m.
    let k : (i : ℕ) → p i ≡ true → list_any (nat_eq i) (y ∷ ys) ≡ list_any (nat_eq i) (x ∷ xs) = λ i q. sym (h i q) in
    let no : p y ≡ false = passes_not p y ys (x ∷ xs) (m, r.1) k in
    keep_rises p y (x ∷ xs) ys (m, r.1) s.1 (λ i q. sym (others_any p y ys (x ∷ xs) no k i q)) ∙ sym (ap (λ b. cond b (y ∷ keep p ys) (keep p ys)) no))
    (λ m.
    let e : y ≡ x = omega (arith, l, m) in
    let s' : Rises x ys = subst (λ z. Rises z ys) e s.1 in
    let h' : (i : ℕ) → p i ≡ true → list_any (nat_eq i) (x ∷ xs) ≡ list_any (nat_eq i) (x ∷ ys) = subst (λ z. (i : ℕ) → p i ≡ true → list_any (nat_eq i) (x ∷ xs) ≡ list_any (nat_eq i) (z ∷ ys)) e h in
    ap (λ z. cond (p x) (x ∷ z) z) (keep_rises p x xs ys r.1 s' (both_any p x xs ys r.1 s' h')) ∙ ap (λ z. cond (p z) (z ∷ keep p ys) (keep p ys)) (sym e))
    (cases_lt y x))
    (cases_lt x y)
