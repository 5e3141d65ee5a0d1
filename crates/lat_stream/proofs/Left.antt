-- Slots that are held, and the items that are left in them.
use Rattle.std.proofs.Common.{◌≡◌, ℕ, ◌+◌, ◌-◌, ◌≤◌, ap, ◌∙◌, refl, arith, Bool, true, false, cond, List, [], ◌∷◌, ◌++◌, length, map, nat_lt, length-append, ltb-true, ltb-false}
use Rattle.std.proofs.lemmas.Bool.{lt-ltb, le-ltb}
use Rattle.lat_base.specs.declared.item.Item.TheVariants as kept_items
use Rattle.lat_model.specs.sessions.Slots.{Byte, Slot, items_of, items}
use Rattle.lat_model.specs.sessions.Session.{held_from}
use Rattle.lat_stream.specs.Kept.{left_in, item_of}
use Rattle.lat_stream.specs.Steps.{still_held}

pub bytes_shown : (bs : List ℕ) → map item_of (map Byte bs) ≡ map kept_items.Byte bs
bytes_shown [] = refl
bytes_shown (b ∷ bs) = ap (λ z. kept_items.Byte b ∷ z) (bytes_shown bs)

-- one count for each held slot
pub left_count : (n : ℕ) (xs : List Slot) → length (left_in n xs) ≡ held_from n xs
left_count n [] = refl
left_count n (x ∷ xs) = go (nat_lt n (length (items_of x))) (left_count (n - length (items_of x)) xs)
  where
    go : (b : Bool) → length (left_in (n - length (items_of x)) xs) ≡ held_from (n - length (items_of x)) xs → length (cond b ((length (items_of x) - n) ∷ left_in (n - length (items_of x)) xs) (left_in (n - length (items_of x)) xs)) ≡ cond b 1 0 + held_from (n - length (items_of x)) xs
    go true ih = omega (arith, ih)
    go false ih = omega (arith, ih)

-- so many items more are taken
pub still_left : (m n : ℕ) (xs : List Slot) → still_held m (left_in n xs) ≡ left_in (n + m) xs
still_left m n [] = refl
still_left m n (x ∷ xs) = go (λ i j. still_left i j xs) (nat_lt n l) (nat_lt (n + m) l) refl refl
  where
    l : ℕ
    l = length (items_of x)

    go : ((i j : ℕ) → still_held i (left_in j xs) ≡ left_in (j + i) xs) → (a b : Bool) → nat_lt n l ≡ a → nat_lt (n + m) l ≡ b → still_held m (cond a ((l - n) ∷ left_in (n - l) xs) (left_in (n - l) xs)) ≡ cond b ((l - (n + m)) ∷ left_in (n + m - l) xs) (left_in (n + m - l) xs)
    go ih true true e f =
        let d : l - n - m ≡ l - (n + m) = omega arith in
        let z : n - l ≡ n + m - l = omega (arith, ltb-true n l e, ltb-true (n + m) l f) in
        ap (λ t. cond t ((l - n - m) ∷ left_in (n - l) xs) (still_held (m - (l - n)) (left_in (n - l) xs))) (lt-ltb m (l - n) (omega (arith, ltb-true n l e, ltb-true (n + m) l f)))
        ∙ ap (λ t. t ∷ left_in (n - l) xs) d
        ∙ ap (λ t. (l - (n + m)) ∷ left_in t xs) z
    go ih true false e f =
        let z : n - l + (m - (l - n)) ≡ n + m - l = omega (arith, ltb-true n l e, ltb-false (n + m) l f) in
        ap (λ t. cond t ((l - n - m) ∷ left_in (n - l) xs) (still_held (m - (l - n)) (left_in (n - l) xs))) (le-ltb m (l - n) (omega (arith, ltb-true n l e, ltb-false (n + m) l f)))
        ∙ ih (m - (l - n)) (n - l)
        ∙ ap (λ t. left_in t xs) z
    go ih false true e f = absurd (omega (arith, ltb-false n l e, ltb-true (n + m) l f))
    go ih false false e f =
        let z : n - l + m ≡ n + m - l = omega (arith, ltb-false n l e) in
        ih m (n - l) ∙ ap (λ t. left_in t xs) z

-- a slot of which no item is taken
pub left_behind : (n : ℕ) (xs : List Slot) (x : Slot) → n ≤ length (items xs) → left_in n (xs ++ x ∷ []) ≡ left_in n xs ++ left_in 0 (x ∷ [])
left_behind n [] x h = ap (λ t. left_in t (x ∷ [])) (zero_is n h)
  where
    zero_is : (k : ℕ) → k ≤ 0 → k ≡ 0
    zero_is k i = omega arith
left_behind n (y ∷ ys) x h =
    go (nat_lt n (length (items_of y))) (left_behind (n - length (items_of y)) ys x (omega (arith, h, length-append (items_of y) (items ys))))
  where
    l : ℕ
    l = length (items_of y)

    go : (b : Bool) → left_in (n - l) (ys ++ x ∷ []) ≡ left_in (n - l) ys ++ left_in 0 (x ∷ []) → cond b ((l - n) ∷ left_in (n - l) (ys ++ x ∷ [])) (left_in (n - l) (ys ++ x ∷ [])) ≡ cond b ((l - n) ∷ left_in (n - l) ys) (left_in (n - l) ys) ++ left_in 0 (x ∷ [])
    go true ih = ap (λ t. (l - n) ∷ t) ih
    go false ih = ih
