-- Lists made from the numbers behind another one.
use Rattle.std.proofs.Common.{◌≡◌, ℕ, zero, suc, ◌+◌, ◌<◌, ◌≤◌, sym, ap, ◌∙◌, refl, arith, Bool, true, false, cond, ◌&&◌, List, [], ◌∷◌, ◌++◌, length, map, replicate, filter, slice_set, slice_get, Some, None}
use Rattle.std.proofs.lemmas.Bool.{true≢false, false≢true}
use Rattle.lat_model.specs.Lists.{upwards, keep}

pub length_upwards : (a n : ℕ) → length (upwards a n) ≡ n
length_upwards a zero = refl
length_upwards a (suc n) = ap suc (length_upwards (suc a) n)

pub length_map : {A : Type 0} (f : ℕ → A) (a n : ℕ) → length (map f (upwards a n)) ≡ n
length_map f a zero = refl
length_map f a (suc n) = ap suc (length_map f (suc a) n)

-- two functions that agree

pub map_same : {A : Type 0} (f g : ℕ → A) (xs : List ℕ) → ((i : ℕ) → f i ≡ g i) → map f xs ≡ map g xs
map_same f g [] h = refl
map_same f g (x ∷ xs) h = rw (h x, map_same f g xs h) refl

pub map_above : {A : Type 0} (f g : ℕ → A) (a n : ℕ) → ((i : ℕ) → a < i → f i ≡ g i) → map f (upwards a n) ≡ map g (upwards a n)
map_above f g a zero h = refl
map_above f g a (suc n) h = rw (h (suc a) (omega arith), map_above f g (suc a) n (λ i l. h i (omega (arith, l)))) refl

pub map_all : {A : Type 0} (x : A) (a n : ℕ) → map (λ i. x) (upwards a n) ≡ replicate n x
map_all x a zero = refl
map_all x a (suc n) = ap (λ z. x ∷ z) (map_all x (suc a) n)

pub keep_same : (p q : ℕ → Bool) (xs : List ℕ) → ((i : ℕ) → p i ≡ q i) → keep p xs ≡ keep q xs
keep_same p q [] h = refl
keep_same p q (x ∷ xs) h = rw (h x, keep_same p q xs h) refl

-- functions that agree but at one number

pub map_set : {A : Type 0} (f g : ℕ → A) (a n d : ℕ) → ((i : ℕ) → a < i → (i ≡ suc a + d → ⊥) → f i ≡ g i) → d < n → map f (upwards a n) ≡ slice_set (map g (upwards a n)) d (f (suc a + d))
map_set f g a zero d h l = absurd (omega (arith, l))
map_set f g a (suc n) zero h l =
    let here : suc a ≡ suc a + 0 = omega arith in
    ap (λ z. f (suc a) ∷ z) (map_above f g (suc a) n (λ i b. h i (omega (arith, b)) (λ q. absurd (omega (arith, b, q))))) ∙ ap (λ z. f z ∷ map g (upwards (suc a) n)) here
map_set {A} f g a (suc n) (suc d) h l =
    let head : f (suc a) ≡ g (suc a) = h (suc a) (omega arith) (λ q. absurd (omega (arith, q))) in
    let here : suc (suc a) + d ≡ suc a + suc d = omega arith in
    let tail : map f (upwards (suc a) n) ≡ slice_set (map g (upwards (suc a) n)) d (f (suc (suc a) + d)) = map_set f g (suc a) n d (λ i b ne. h i (omega (arith, b)) (λ q. ne (q ∙ sym here))) (omega (arith, l)) in
    rw (head, tail, here) refl

pub get_map : {A : Type 0} (f : ℕ → A) (a n d : ℕ) → d < n → slice_get (map f (upwards a n)) d ≡ Some (f (suc a + d))
get_map f a zero d l = absurd (omega (arith, l))
get_map f a (suc n) zero l =
    let here : suc a ≡ suc a + 0 = omega arith in
    ap (λ z. Some (f z)) here
get_map f a (suc n) (suc d) l =
    let here : suc (suc a) + d ≡ suc a + suc d = omega arith in
    get_map f (suc a) n d (omega (arith, l)) ∙ ap (λ z. Some (f z)) here

pub get_past : {A : Type 0} (f : ℕ → A) (a n d : ℕ) → n ≤ d → slice_get (map f (upwards a n)) d ≡ None
get_past f a zero d l = refl
get_past f a (suc n) zero l = absurd (omega (arith, l))
get_past f a (suc n) (suc d) l = get_past f (suc a) n d (omega (arith, l))

-- those of which some are kept

pub keep_none : (p : ℕ → Bool) (xs : List ℕ) → ((i : ℕ) → p i ≡ false) → keep p xs ≡ []
keep_none p [] h = refl
keep_none p (x ∷ xs) h = rw (h x, keep_none p xs h) refl

pub keep_above_none : (p : ℕ → Bool) (a n : ℕ) → ((i : ℕ) → a < i → p i ≡ false) → keep p (upwards a n) ≡ []
keep_above_none p a zero h = refl
keep_above_none p a (suc n) h = rw (h (suc a) (omega arith), keep_above_none p (suc a) n (λ i l. h i (omega (arith, l)))) refl

pub keep_append : (p : ℕ → Bool) (xs ys : List ℕ) → keep p (xs ++ ys) ≡ keep p xs ++ keep p ys
keep_append p [] ys = refl
keep_append p (x ∷ xs) ys = go (p x) (keep_append p xs ys)
  where
    go : (b : Bool) → keep p (xs ++ ys) ≡ keep p xs ++ keep p ys → cond b (x ∷ keep p (xs ++ ys)) (keep p (xs ++ ys)) ≡ cond b (x ∷ keep p xs) (keep p xs) ++ keep p ys
    go true ih = ap (λ z. x ∷ z) ih
    go false ih = ih

pub upwards_split : (a n k : ℕ) → upwards a (n + k) ≡ upwards a n ++ upwards (a + n) k
upwards_split a zero k =
    let none : zero + k ≡ k = omega arith in
    let here : a + zero ≡ a = omega arith in
    rw (none, here) refl
upwards_split a (suc n) k =
    let there : suc a + n ≡ a + suc n = omega arith in
    let sum : suc n + k ≡ suc (n + k) = omega arith in
    rw (sum, upwards_split (suc a) n k, there) refl

-- a filter of what is kept
pub keep_filter : {A : Type 0} (p : A → Bool) (f g : ℕ → A) (q r : ℕ → Bool) (xs : List ℕ) → ((i : ℕ) → r i ≡ (q i && p (f i))) → ((i : ℕ) → r i ≡ true → f i ≡ g i) → filter p (map f (keep q xs)) ≡ map g (keep r xs)
keep_filter p f g q r [] h k = refl
keep_filter {A} p f g q r (x ∷ xs) h k = go (q x) (p (f x)) (r x) refl (h x) (k x) (keep_filter p f g q r xs h k)
  where
    go : (a b c : Bool) → p (f x) ≡ b → c ≡ (a && b) → (c ≡ true → f x ≡ g x) → filter p (map f (keep q xs)) ≡ map g (keep r xs) → filter p (map f (cond a (x ∷ keep q xs) (keep q xs))) ≡ map g (cond c (x ∷ keep r xs) (keep r xs))
    go true true true e i s ih = rw (e, s refl, ih) refl
    go true true false e i s ih = absurd (false≢true i)
    go true false true e i s ih = absurd (true≢false i)
    go true false false e i s ih = rw (e, ih) refl
    go false b true e i s ih = absurd (true≢false i)
    go false b false e i s ih = ih

-- what is kept, each changed
pub keep_change : {A : Type 0} (m : A → A) (f g : ℕ → A) (q r : ℕ → Bool) (xs : List ℕ) → ((i : ℕ) → q i ≡ r i) → ((i : ℕ) → q i ≡ true → m (f i) ≡ g i) → map m (map f (keep q xs)) ≡ map g (keep r xs)
keep_change m f g q r [] h k = refl
keep_change {A} m f g q r (x ∷ xs) h k = go (q x) (r x) (h x) (k x) (keep_change m f g q r xs h k)
  where
    go : (a b : Bool) → a ≡ b → (a ≡ true → m (f x) ≡ g x) → map m (map f (keep q xs)) ≡ map g (keep r xs) → map m (map f (cond a (x ∷ keep q xs) (keep q xs))) ≡ map g (cond b (x ∷ keep r xs) (keep r xs))
    go true true e s ih = rw (s refl, ih) refl
    go true false e s ih = absurd (true≢false e)
    go false true e s ih = absurd (false≢true e)
    go false false e s ih = ih
