-- What came first of each side grows at its end, as the frames that it sent do; so a world at which nothing was lost has no
-- world before it at which something was.
use Rattle.std.proofs.Common.{◌≡◌, ℕ, zero, suc, ◌+◌, ◌<◌, ◌≤◌, sym, ap, ap₂, ◌∙◌, refl, subst, arith, Bool, true, false, cond, List, [], ◌∷◌, ◌++◌, length, slice_get, filter}
use Rattle.std.proofs.lemmas.List.Elements.{filter-append}
use Rattle.std.proofs.lemmas.List.{append_assoc}
use Rattle.lat_model.specs.Lists.{Each, IsPrefixOf}
use Rattle.lat_machines.specs.world.Machines.{Setups, Posted, Machines}
use Rattle.lat_laws.specs.rounds.Lossless.{sends_other, sent_from, is_sent_by, is_in, firsts, came_first, Lossless}

-- what is sent

pub sent_more : (u : Setups) (b : Bool) (n : ℕ) (ps qs : List Posted) → sent_from u b n (ps ++ qs) ≡ sent_from u b n ps ++ sent_from u b (length ps + n) qs
sent_more u b n [] qs = ap (λ z. sent_from u b z qs) (omega arith)
sent_more u b n (p ∷ ps) qs = go (sends_other u b p) (sent_more u b (suc n) ps qs ∙ ap (λ z. sent_from u b (suc n) ps ++ sent_from u b z qs) (omega arith))
  where
    go : (t : Bool) → sent_from u b (suc n) (ps ++ qs) ≡ sent_from u b (suc n) ps ++ sent_from u b (suc (length ps) + n) qs → cond t (n ∷ sent_from u b (suc n) (ps ++ qs)) (sent_from u b (suc n) (ps ++ qs)) ≡ cond t (n ∷ sent_from u b (suc n) ps) (sent_from u b (suc n) ps) ++ sent_from u b (suc (length ps) + n) qs
    go true rest = ap (λ z. n ∷ z) rest
    go false rest = rest

each_up : (n : ℕ) (is : List ℕ) → Each (λ i. suc n ≤ i) is → Each (λ i. n ≤ i) is
each_up n [] h = tt
each_up n (i ∷ is) h = (omega (arith, h.0), each_up n is h.1)

pub sent_at_least : (u : Setups) (b : Bool) (n : ℕ) (ps : List Posted) → Each (λ i. n ≤ i) (sent_from u b n ps)
sent_at_least u b n [] = tt
sent_at_least u b n (p ∷ ps) = go (sends_other u b p) (each_up n (sent_from u b (suc n) ps) (sent_at_least u b (suc n) ps))
  where
    go : (t : Bool) → Each (λ i. n ≤ i) (sent_from u b (suc n) ps) → Each (λ i. n ≤ i) (cond t (n ∷ sent_from u b (suc n) ps) (sent_from u b (suc n) ps))
    go true rest = (omega arith, rest)
    go false rest = rest

-- prefixes

head_is : (x y : ℕ) (xs ys : List ℕ) → x ∷ xs ≡ y ∷ ys → x ≡ y
head_is x y xs ys h = cc

tail_is : (x y : ℕ) (xs ys : List ℕ) → x ∷ xs ≡ y ∷ ys → xs ≡ ys
tail_is x y xs ys h = cc

-- small numbers that begin a list begin its part of small numbers
pub prefix_low : (m : ℕ) (xs ys zs : List ℕ) → Each (λ i. i < m) xs → Each (λ i. m ≤ i) zs → IsPrefixOf xs (ys ++ zs) → IsPrefixOf xs ys
prefix_low m [] ys zs l g p = (ys, refl)
prefix_low m (x ∷ xs) [] [] l g p = let z : ⊥ = (let e : (x ∷ xs) ++ p.0 ≡ [] = p.1 in cc) in absurd z
prefix_low m (x ∷ xs) [] (z ∷ zs) l g p = absurd (omega (arith, l.0, g.0, head_is x z (xs ++ p.0) zs p.1))
prefix_low m (x ∷ xs) (y ∷ ys) zs l g p =
    let q : IsPrefixOf xs ys = prefix_low m xs ys zs l.1 g (p.0, tail_is x y (xs ++ p.0) (ys ++ zs) p.1) in
    (q.0, ap₂ (λ h t. h ∷ t) (head_is x y (xs ++ p.0) (ys ++ zs) p.1) q.1)

pub prefix_then : (xs ys zs : List ℕ) → IsPrefixOf xs ys → IsPrefixOf ys zs → IsPrefixOf xs zs
prefix_then xs ys zs p q = (p.0 ++ q.0, sym (append_assoc xs p.0 q.0) ∙ (ap (λ z. z ++ q.0) p.1 ∙ q.1))

filter_prefix : (test : ℕ → Bool) (xs ys : List ℕ) → IsPrefixOf xs ys → IsPrefixOf (filter test xs) (filter test ys)
filter_prefix test xs ys p = (filter test p.0, sym (filter-append test xs p.0) ∙ ap (filter test) p.1)

-- what came first

pub firsts_more : (seen is js : List ℕ) → IsPrefixOf (firsts seen is) (firsts seen (is ++ js))
firsts_more seen [] js = (firsts seen js, refl)
firsts_more seen (i ∷ is) js = go (is_in i seen) (firsts_more seen is js) (firsts_more (i ∷ seen) is js)
  where
    go : (t : Bool) → IsPrefixOf (firsts seen is) (firsts seen (is ++ js)) → IsPrefixOf (firsts (i ∷ seen) is) (firsts (i ∷ seen) (is ++ js)) → IsPrefixOf (cond t (firsts seen is) (i ∷ firsts (i ∷ seen) is)) (cond t (firsts seen (is ++ js)) (i ∷ firsts (i ∷ seen) (is ++ js)))
    go true p q = p
    go false p q = (q.0, ap (λ z. i ∷ z) q.1)

pub firsts_each : (P : ℕ → Type 0) (seen is : List ℕ) → Each P is → Each P (firsts seen is)
firsts_each P seen [] h = tt
firsts_each P seen (i ∷ is) h = go (is_in i seen) (firsts_each P seen is h.1) (firsts_each P (i ∷ seen) is h.1)
  where
    go : (t : Bool) → Each P (firsts seen is) → Each P (firsts (i ∷ seen) is) → Each P (cond t (firsts seen is) (i ∷ firsts (i ∷ seen) is))
    go true p q = p
    go false p q = (h.0, q)

filter_each : (P : ℕ → Type 0) (test : ℕ → Bool) (is : List ℕ) → Each P is → Each P (filter test is)
filter_each P test [] h = tt
filter_each P test (i ∷ is) h = go (test i) (filter_each P test is h.1)
  where
    go : (t : Bool) → Each P (filter test is) → Each P (cond t (i ∷ filter test is) (filter test is))
    go true p = (h.0, p)
    go false p = p

front_same : {X : Type 0} (xs ys : List X) (i : ℕ) → i < length xs → slice_get (xs ++ ys) i ≡ slice_get xs i
front_same [] ys i h = absurd (omega (arith, h))
front_same (x ∷ xs) ys zero h = refl
front_same (x ∷ xs) ys (suc i) h = front_same xs ys i (omega (arith, h))

pub filter_same : (u : Setups) (b : Bool) (ps qs : List Posted) (is : List ℕ) → Each (λ i. i < length ps) is → filter (λ i. is_sent_by u b (slice_get (ps ++ qs) i)) is ≡ filter (λ i. is_sent_by u b (slice_get ps i)) is
filter_same u b ps qs [] h = refl
filter_same u b ps qs (i ∷ is) h =
    ap₂ (λ t rest. cond t (i ∷ rest) rest) (ap (is_sent_by u b) (front_same ps qs i h.0)) (filter_same u b ps qs is h.1)

-- each delivered frame was sent
abbrev pub Within : Machines → Type 0
Within w = Each (λ i. i < length w.posts) w.delivered

-- a world behind another: more was sent, and more was delivered
pub record Grown (w : Machines) (v : Machines) : Type 0 where
  pub posts : List Posted
  pub more_posts : v.posts ≡ w.posts ++ posts
  pub delivered : List ℕ
  pub more_delivered : v.delivered ≡ w.delivered ++ delivered

pub came_grown : (u : Setups) (b : Bool) (w v : Machines) → Within w → Grown w v → IsPrefixOf (came_first u b w) (came_first u b v)
came_grown u b w v h g = subst (λ z. IsPrefixOf z (came_first u b v)) (filter_same u b w.posts g.posts (firsts [] w.delivered) (firsts_each (λ i. i < length w.posts) [] w.delivered h)) there
  where
    there : IsPrefixOf (filter (λ i. is_sent_by u b (slice_get (w.posts ++ g.posts) i)) (firsts [] w.delivered)) (came_first u b v)
    there = subst (λ z. IsPrefixOf (filter (λ i. is_sent_by u b (slice_get z i)) (firsts [] w.delivered)) (filter (λ i. is_sent_by u b (slice_get v.posts i)) (firsts [] v.delivered))) g.more_posts
        (filter_prefix (λ i. is_sent_by u b (slice_get v.posts i)) (firsts [] w.delivered) (firsts [] v.delivered)
        (subst (λ z. IsPrefixOf (firsts [] w.delivered) (firsts [] z)) (sym g.more_delivered) (firsts_more [] w.delivered g.delivered)))

-- what was lost once stays lost
pub lossless_before : (u : Setups) (w v : Machines) → Within w → Grown w v → Lossless u v → Lossless u w
lossless_before u w v h g l b = prefix_low (length w.posts) (came_first u b w) (sent_from u b 0 w.posts) (sent_from u b (length w.posts + 0) g.posts) low high all
  where
    low : Each (λ i. i < length w.posts) (came_first u b w)
    low = filter_each (λ i. i < length w.posts) (λ i. is_sent_by u b (slice_get w.posts i)) (firsts [] w.delivered) (firsts_each (λ i. i < length w.posts) [] w.delivered h)

    high : Each (λ i. length w.posts ≤ i) (sent_from u b (length w.posts + 0) g.posts)
    high = subst (λ n. Each (λ i. n ≤ i) (sent_from u b (length w.posts + 0) g.posts)) (omega arith) (sent_at_least u b (length w.posts + 0) g.posts)

    all : IsPrefixOf (came_first u b w) (sent_from u b 0 w.posts ++ sent_from u b (length w.posts + 0) g.posts)
    all = subst (λ z. IsPrefixOf (came_first u b w) z) (ap (sent_from u b 0) g.more_posts ∙ sent_more u b 0 w.posts g.posts) (prefix_then (came_first u b w) (came_first u b v) (sent_from u b 0 v.posts) (came_grown u b w v h g) (l b))
