-- A delivery of the undelivered frame of lowest index loses nothing.
use Rattle.std.proofs.Common.{◌≡◌, ℕ, zero, suc, ◌+◌, ◌<◌, ◌≤◌, ◌⊎◌, inl, inr, sym, ap, ap₂, ◌∙◌, refl, subst, arith, Bool, true, false, not, cond, ◌&&◌, ◌||◌, List, [], ◌∷◌, ◌++◌, Some, nat_eq, slice_get, filter, eqb-true}
use Rattle.std.proofs.lemmas.Bool.{true≢false, false≢true, or_left, or_right, eqb-false}
use Rattle.std.proofs.lemmas.Map.Views.{any-filter_same}
use Rattle.lat_model.specs.Lists.{Each}
use Rattle.lat_machines.specs.world.Machines.{Setups, Posted, is_for_other}
use Rattle.lat_laws.specs.rounds.Lossless.{sends_other, sent_from, is_in, firsts}
use Rattle.lat_laws.specs.rounds.Rounds.{undelivered_from}

-- numbers in a list

in_here : (i : ℕ) (xs : List ℕ) → is_in i (i ∷ xs) ≡ true
in_here i xs = or_left (nat_eq i i) (is_in i xs) (refl_eq i)
  where
    refl_eq : (n : ℕ) → nat_eq n n ≡ true
    refl_eq n = go (nat_eq n n) refl
      where
        go : (b : Bool) → nat_eq n n ≡ b → nat_eq n n ≡ true
        go true h = h
        go false h = absurd (eqb-false n n h refl)

pub each_in : (P : ℕ → Type 0) (i : ℕ) (xs : List ℕ) → Each P xs → is_in i xs ≡ true → P i
each_in P i [] h e = absurd (false≢true e)
each_in P i (x ∷ xs) h e = go (nat_eq i x) refl e (λ r. each_in P i xs h.1 r)
  where
    go : (b : Bool) → nat_eq i x ≡ b → (b || is_in i xs) ≡ true → (is_in i xs ≡ true → P i) → P i
    go true q r k = subst P (sym (eqb-true i x q)) h.0
    go false q r k = k r

pub in_append : (i : ℕ) (xs ys : List ℕ) → is_in i (xs ++ ys) ≡ true → (is_in i xs ≡ true) ⊎ (is_in i ys ≡ true)
in_append i [] ys e = inr e
in_append i (x ∷ xs) ys e = go (nat_eq i x) e (λ r. in_append i xs ys r)
  where
    go : (b : Bool) → (b || is_in i (xs ++ ys)) ≡ true → (is_in i (xs ++ ys) ≡ true → (is_in i xs ≡ true) ⊎ (is_in i ys ≡ true)) → ((b || is_in i xs) ≡ true) ⊎ (is_in i ys ≡ true)
    go true r k = inl refl
    go false r k = k r

pub in_middle : (i : ℕ) (xs ys : List ℕ) → is_in i (xs ++ i ∷ ys) ≡ true
in_middle i [] ys = in_here i ys
in_middle i (x ∷ xs) ys = or_right (nat_eq i x) (is_in i (xs ++ i ∷ ys)) (in_middle i xs ys)

pub in_filter : (i : ℕ) (test : ℕ → Bool) (xs : List ℕ) → is_in i (filter test xs) ≡ (test i && is_in i xs)
in_filter i test xs = any-filter_same (nat_eq i) test (test i) (λ k h. ap test (sym (eqb-true i k h))) xs

pub in_firsts : (i : ℕ) (seen xs : List ℕ) → is_in i (firsts seen xs) ≡ (not (is_in i seen) && is_in i xs)
in_firsts i seen [] = go (is_in i seen)
  where
    go : (b : Bool) → false ≡ (not b && false)
    go true = refl
    go false = refl
in_firsts i seen (x ∷ xs) = go (is_in x seen) refl (nat_eq i x) refl (is_in i seen) refl (in_firsts i seen xs) (in_firsts i (x ∷ seen) xs)
  where
    go : (s : Bool) → is_in x seen ≡ s → (q : Bool) → nat_eq i x ≡ q → (t : Bool) → is_in i seen ≡ t → is_in i (firsts seen xs) ≡ (not (is_in i seen) && is_in i xs) → is_in i (firsts (x ∷ seen) xs) ≡ (not (nat_eq i x || is_in i seen) && is_in i xs) → is_in i (cond s (firsts seen xs) (x ∷ firsts (x ∷ seen) xs)) ≡ (not (is_in i seen) && (nat_eq i x || is_in i xs))
    go true e true p true g h k = h ∙ ap₂ (λ y z. not y && z) g refl ∙ sym (ap (λ y. not y && (nat_eq i x || is_in i xs)) g)
    go true e true p false g h k = absurd (true≢false (sym e ∙ (ap (λ z. is_in z seen) (sym (eqb-true i x p)) ∙ g)))
    go true e false p t g h k = h ∙ sym (ap (λ y. not (is_in i seen) && (y || is_in i xs)) p)
    go false e true p true g h k = absurd (true≢false (sym g ∙ (ap (λ z. is_in z seen) (eqb-true i x p) ∙ e)))
    go false e true p false g h k = ap (λ y. y || is_in i (firsts (x ∷ seen) xs)) p ∙ sym (ap₂ (λ y z. not y && (z || is_in i xs)) g p)
    go false e false p t g h k = ap (λ y. y || is_in i (firsts (x ∷ seen) xs)) p ∙ (k ∙ (ap (λ y. not (y || is_in i seen) && is_in i xs) p ∙ sym (ap (λ y. not (is_in i seen) && (y || is_in i xs)) p)))

pub firsts_new : (i : ℕ) (seen xs : List ℕ) → is_in i seen ≡ false → is_in i xs ≡ false → firsts seen (xs ++ i ∷ []) ≡ firsts seen xs ++ i ∷ []
firsts_new i seen [] s h = ap (λ b. cond b [] (i ∷ [])) s
firsts_new i seen (x ∷ xs) s h = go (nat_eq i x) refl h (λ r. firsts_new i seen xs s r) (λ q r. firsts_new i (x ∷ seen) xs q r)
  where
    both : (t : Bool) → firsts seen (xs ++ i ∷ []) ≡ firsts seen xs ++ i ∷ [] → firsts (x ∷ seen) (xs ++ i ∷ []) ≡ firsts (x ∷ seen) xs ++ i ∷ [] → cond t (firsts seen (xs ++ i ∷ [])) (x ∷ firsts (x ∷ seen) (xs ++ i ∷ [])) ≡ cond t (firsts seen xs) (x ∷ firsts (x ∷ seen) xs) ++ i ∷ []
    both true p q = p
    both false p q = ap (λ z. x ∷ z) q

    go : (b : Bool) → nat_eq i x ≡ b → (b || is_in i xs) ≡ false → (is_in i xs ≡ false → firsts seen (xs ++ i ∷ []) ≡ firsts seen xs ++ i ∷ []) → ((nat_eq i x || is_in i seen) ≡ false → is_in i xs ≡ false → firsts (x ∷ seen) (xs ++ i ∷ []) ≡ firsts (x ∷ seen) xs ++ i ∷ []) → firsts seen ((x ∷ xs) ++ i ∷ []) ≡ firsts seen (x ∷ xs) ++ i ∷ []
    go true q r k l = absurd (true≢false r)
    go false q r k l = both (is_in x seen) (k r) (l (ap (λ y. y || is_in i seen) q ∙ s) r)

-- rising numbers

abbrev pub Rising : ℕ → List ℕ → Type 0
Rising n [] = Unit {0}
Rising n (x ∷ xs) = (n ≤ x) × Rising (suc x) xs

rising_less : (m n : ℕ) (xs : List ℕ) → m ≤ n → Rising n xs → Rising m xs
rising_less m n [] l r = tt
rising_less m n (x ∷ xs) l r = (omega (arith, l, r.0), r.1)

each_least : (m n : ℕ) (xs : List ℕ) → m ≤ n → Rising n xs → Each (λ i. m ≤ i) xs
each_least m n [] l r = tt
each_least m n (x ∷ xs) l r = (omega (arith, l, r.0), each_least m (suc x) xs (omega (arith, l, r.0)) r.1)

rising_at : (n : ℕ) (xs : List ℕ) (j : ℕ) (rest : List ℕ) → Rising n (xs ++ j ∷ rest) → n ≤ j
rising_at n [] j rest r = r.0
rising_at n (x ∷ xs) j rest r = omega (arith, r.0, rising_at (suc x) xs j rest r.1)

pub rising_below : (n : ℕ) (xs : List ℕ) (j : ℕ) (rest : List ℕ) → Rising n (xs ++ j ∷ rest) → Each (λ i. i < j) xs
rising_below n [] j rest r = tt
rising_below n (x ∷ xs) j rest r = (omega (arith, rising_at (suc x) xs j rest r.1), rising_below (suc x) xs j rest r.1)

pub rising_above : (n : ℕ) (xs : List ℕ) (j : ℕ) (rest : List ℕ) → Rising n (xs ++ j ∷ rest) → Each (λ i. j ≤ i) (j ∷ rest)
rising_above n [] j rest r = (omega arith, each_least j (suc j) rest (omega arith) r.1)
rising_above n (x ∷ xs) j rest r = rising_above (suc x) xs j rest r.1

pub sent_rising : (u : Setups) (b : Bool) (n : ℕ) (ps : List Posted) → Rising n (sent_from u b n ps)
sent_rising u b n [] = tt
sent_rising u b n (p ∷ ps) = go (sends_other u b p) (sent_rising u b (suc n) ps)
  where
    go : (t : Bool) → Rising (suc n) (sent_from u b (suc n) ps) → Rising n (cond t (n ∷ sent_from u b (suc n) ps) (sent_from u b (suc n) ps))
    go true r = (omega arith, r)
    go false r = rising_less n (suc n) (sent_from u b (suc n) ps) (omega arith) r

-- what is among the sent

pub sent_has : (u : Setups) (b : Bool) (n i k : ℕ) (ps : List Posted) (p : Posted) → i ≡ k + n → slice_get ps k ≡ Some p → sends_other u b p ≡ true → is_in i (sent_from u b n ps) ≡ true
sent_has u b n i k [] p a e s = let z : ⊥ = cc in absurd z
sent_has u b n i zero (x ∷ ps) p a e s = subst (λ z. is_in i (cond z (n ∷ sent_from u b (suc n) ps) (sent_from u b (suc n) ps)) ≡ true) (sym there) (subst (λ z. is_in i (z ∷ sent_from u b (suc n) ps) ≡ true) (omega (arith, a)) (in_here i (sent_from u b (suc n) ps)))
  where
    same : x ≡ p
    same = cc

    there : sends_other u b x ≡ true
    there = ap (sends_other u b) same ∙ s
sent_has u b n i (suc k) (x ∷ ps) p a e s = go (sends_other u b x) (sent_has u b (suc n) i k ps p (omega (arith, a)) e s)
  where
    go : (t : Bool) → is_in i (sent_from u b (suc n) ps) ≡ true → is_in i (cond t (n ∷ sent_from u b (suc n) ps) (sent_from u b (suc n) ps)) ≡ true
    go true r = or_right (nat_eq i n) (is_in i (sent_from u b (suc n) ps)) r
    go false r = r

pub record SentAt (u : Setups) (b : Bool) (n i : ℕ) (ps : List Posted) : Type 0 where
  pub place : ℕ
  pub post : Posted
  pub at : i ≡ place + n
  pub there : slice_get ps place ≡ Some post
  pub sends : sends_other u b post ≡ true

pub sent_of : (u : Setups) (b : Bool) (n i : ℕ) (ps : List Posted) → is_in i (sent_from u b n ps) ≡ true → SentAt u b n i ps
sent_of u b n i [] e = absurd (false≢true e)
sent_of u b n i (x ∷ ps) e = go (sends_other u b x) refl e (λ r. sent_of u b (suc n) i ps r)
  where
    later : SentAt u b (suc n) i ps → SentAt u b n i (x ∷ ps)
    later r = record { place = suc r.place; post = r.post; at = omega (arith, r.at); there = r.there; sends = r.sends }

    here : sends_other u b x ≡ true → (q : Bool) → nat_eq i n ≡ q → (q || is_in i (sent_from u b (suc n) ps)) ≡ true → (is_in i (sent_from u b (suc n) ps) ≡ true → SentAt u b (suc n) i ps) → SentAt u b n i (x ∷ ps)
    here s true h r k = record { place = 0; post = x; at = omega (arith, eqb-true i n h); there = refl; sends = s }
    here s false h r k = later (k r)

    go : (t : Bool) → sends_other u b x ≡ t → is_in i (cond t (n ∷ sent_from u b (suc n) ps) (sent_from u b (suc n) ps)) ≡ true → (is_in i (sent_from u b (suc n) ps) ≡ true → SentAt u b (suc n) i ps) → SentAt u b n i (x ∷ ps)
    go true s r k = here s (nat_eq i n) refl r k
    go false s r k = later (k r)

-- what the undelivered frame of lowest index is

pub record NextOf (u : Setups) (done : List ℕ) (n : ℕ) (ps : List Posted) (i : ℕ) : Type 0 where
  pub place : ℕ
  pub post : Posted
  pub at : i ≡ place + n
  pub there : slice_get ps place ≡ Some post
  pub other : is_for_other u post ≡ true
  pub new : is_in i done ≡ false
  pub before : (k : ℕ) (q : Posted) → k < place → slice_get ps k ≡ Some q → is_for_other u q ≡ true → is_in (k + n) done ≡ true

pub next_of : (u : Setups) (done : List ℕ) (n : ℕ) (ps : List Posted) (i : ℕ) → undelivered_from u done n ps ≡ Some i → NextOf u done n ps i
next_of u done n [] i e = let z : ⊥ = cc in absurd z
next_of u done n (p ∷ ps) i e = go (is_for_other u p) (is_in n done) refl refl e (λ r. next_of u done (suc n) ps i r)
  where
    later : (is_for_other u p ≡ true → is_in n done ≡ true) → NextOf u done (suc n) ps i → NextOf u done n (p ∷ ps) i
    later h r = record { place = suc r.place; post = r.post; at = omega (arith, r.at); there = r.there; other = r.other; new = r.new; before = earlier }
      where
        earlier : (k : ℕ) (q : Posted) → k < suc r.place → slice_get (p ∷ ps) k ≡ Some q → is_for_other u q ≡ true → is_in (k + n) done ≡ true
        earlier zero q l s o = let same : p ≡ q = cc in subst (λ z. is_in z done ≡ true) (omega arith) (h (ap (is_for_other u) same ∙ o))
        earlier (suc k) q l s o = subst (λ z. is_in z done ≡ true) (omega arith) (r.before k q (omega (arith, l)) s o)

    go : (c d : Bool) → is_for_other u p ≡ c → is_in n done ≡ d → cond (c && not d) (Some n) (undelivered_from u done (suc n) ps) ≡ Some i → (undelivered_from u done (suc n) ps ≡ Some i → NextOf u done (suc n) ps i) → NextOf u done n (p ∷ ps) i
    go true false x y r k =
        let same : n ≡ i = cc in
        record { place = 0; post = p; at = omega (arith, same); there = refl; other = x; new = subst (λ z. is_in z done ≡ false) same y; before = λ j q l. absurd (omega (arith, l)) }
    go true true x y r k = later (λ h. y) (k r)
    go false d x y r k = later (λ h. absurd (true≢false (sym h ∙ x))) (k r)
