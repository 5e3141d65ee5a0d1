-- Lists of frames in flight: a frame more, and one that is delivered.
use Rattle.std.proofs.Common.{◌≡◌, ℕ, zero, suc, ◌+◌, ◌<◌, ◌≤◌, ◌⊎◌, inl, inr, ⊎_elim, sym, ap, ap₂, ◌∙◌, refl, arith, Bool, true, false, not, cond, ◌&&◌, ◌||◌, List, [], ◌∷◌, ◌++◌, length, Some, nat_eq, slice_get, eqb-true, eq-eqb, ne_eqb}
use Rattle.std.proofs.lemmas.Bool.{true≢false, and_from, and_left, and_right}
use Rattle.lat_model.specs.ends.End.{Sent}
use Rattle.lat_model.specs.circuits.World.{Wired, wire_all}
use Rattle.lat_laws.specs.rounds.Lossless.{is_side, is_in}
use Rattle.lat_laws.specs.rounds.Carried.{is_of_line, flying_from}

-- no index from n on is among these
abbrev pub Below : ℕ → List ℕ → Type 0
Below n done = (j : ℕ) → n ≤ j → is_in j done ≡ false

flying-skip : (c b : Bool) (x : Sent) (xs : List Sent) → c ≡ false → cond c (x ∷ xs) xs ≡ xs
flying-skip true b x xs e = absurd (true≢false e)
flying-skip false b x xs e = refl

pub flying-append : (other : ℕ) (b : Bool) (x : ℕ) (done : List ℕ) (n : ℕ) (vs ws : List Wired) → flying_from other b x done n (vs ++ ws) ≡ flying_from other b x done n vs ++ flying_from other b x done (n + length vs) ws
flying-append other b x done n [] ws = ap (λ z. flying_from other b x done z ws) (omega arith)
flying-append other b x done n (v ∷ vs) ws = go (is_of_line other b x v && not (is_in n done)) (flying-append other b x done (suc n) vs ws ∙ ap (λ z. flying_from other b x done (suc n) vs ++ flying_from other b x done z ws) (omega arith))
  where
    go : (c : Bool) → flying_from other b x done (suc n) (vs ++ ws) ≡ flying_from other b x done (suc n) vs ++ flying_from other b x done (n + length (v ∷ vs)) ws → cond c (v.sent ∷ flying_from other b x done (suc n) (vs ++ ws)) (flying_from other b x done (suc n) (vs ++ ws)) ≡ cond c (v.sent ∷ flying_from other b x done (suc n) vs) (flying_from other b x done (suc n) vs) ++ flying_from other b x done (n + length (v ∷ vs)) ws
    go true e = ap (λ z. v.sent ∷ z) e
    go false e = e

side_same : (b : Bool) → is_side b b ≡ true
side_same true = refl
side_same false = refl

side_other : (b : Bool) → is_side b (not b) ≡ false
side_other true = refl
side_other false = refl

-- new frames of this circuit
pub flying-new : (other : ℕ) (b : Bool) (x destination : ℕ) (done : List ℕ) (n : ℕ) (ss : List Sent) → Below n done → flying_from other b x done n (wire_all b x other destination ss) ≡ ss
flying-new other b x destination done n [] h = refl
flying-new other b x destination done n (s ∷ ss) h =
    let mine : is_of_line other b x (record { by_server = b; circuit = x; to = other; destination = destination; source = x; sent = s }) ≡ true = and_from (is_side b b) (nat_eq x x && nat_eq other other) (side_same b) (and_from (nat_eq x x) (nat_eq other other) (eq-eqb x x refl) (eq-eqb other other refl)) in
    ap₂ (λ p q. cond (p && not q) (s ∷ flying_from other b x done (suc n) (wire_all b x other destination ss)) (flying_from other b x done (suc n) (wire_all b x other destination ss))) mine (h n (omega arith))
    ∙ ap (λ z. s ∷ z) (flying-new other b x destination done (suc n) ss (λ j l. h j (omega arith)))

-- new frames of another one
pub flying-other : (other : ℕ) (b : Bool) (x : ℕ) (done : List ℕ) (n : ℕ) (c : Bool) (y to destination : ℕ) (ss : List Sent) → (is_side b c ≡ true → y ≡ x → to ≡ other → ⊥) → flying_from other b x done n (wire_all c y to destination ss) ≡ []
flying-other other b x done n c y to destination [] h = refl
flying-other other b x done n c y to destination (s ∷ ss) h = go (is_side b c) (nat_eq y x) (nat_eq to other) refl refl refl (flying-other other b x done (suc n) c y to destination ss h)
  where
    rest : List Sent
    rest = flying_from other b x done (suc n) (wire_all c y to destination ss)

    go : (p q r : Bool) → is_side b c ≡ p → nat_eq y x ≡ q → nat_eq to other ≡ r → rest ≡ [] → cond ((p && (q && r)) && not (is_in n done)) (s ∷ rest) rest ≡ []
    go true true true i j k e = absurd (h i (eqb-true y x j) (eqb-true to other k))
    go true true false i j k e = e
    go true false r i j k e = e
    go false q r i j k e = e

-- a delivery

in_more : (j i : ℕ) (done : List ℕ) → (j ≡ i → ⊥) → is_in j (i ∷ done) ≡ is_in j done
in_more j i done n = ap (λ z. z || is_in j done) (ne_eqb j i n)

in_here : (i : ℕ) (done : List ℕ) → is_in i (i ∷ done) ≡ true
in_here i done = ap (λ z. z || is_in i done) (eq-eqb i i refl)

-- where the index lies before, nothing changes
flying-past : (other : ℕ) (b : Bool) (x i : ℕ) (done : List ℕ) (n : ℕ) (vs : List Wired) → i < n → flying_from other b x (i ∷ done) n vs ≡ flying_from other b x done n vs
flying-past other b x i done n [] l = refl
flying-past other b x i done n (v ∷ vs) l =
    ap₂ (λ p q. cond (is_of_line other b x v && not p) (v.sent ∷ q) q) (in_more n i done (λ e. absurd (omega (arith, e, l)))) (flying-past other b x i done (suc n) vs (omega (arith, l)))

-- a frame of another line, or one again
pub flying-same : (other : ℕ) (b : Bool) (x : ℕ) (done : List ℕ) (n k : ℕ) (vs : List Wired) (v : Wired) → slice_get vs k ≡ Some v → (is_of_line other b x v ≡ false) ⊎ (is_in (n + k) done ≡ true) → flying_from other b x ((n + k) ∷ done) n vs ≡ flying_from other b x done n vs
flying-same other b x done n k [] v e h = cc
flying-same other b x done n zero (y ∷ ys) v e h =
    let q : y ≡ v = cc in
    let z : n + 0 ≡ n = omega arith in
    let here : (is_of_line other b x y && not (is_in n ((n + 0) ∷ done))) ≡ (is_of_line other b x y && not (is_in n done)) = ⊎_elim {C = (is_of_line other b x y && not (is_in n ((n + 0) ∷ done))) ≡ (is_of_line other b x y && not (is_in n done))}
    (λ w. and_left (is_of_line other b x y) (not (is_in n ((n + 0) ∷ done))) (ap (is_of_line other b x) q ∙ w) ∙ sym (and_left (is_of_line other b x y) (not (is_in n done)) (ap (is_of_line other b x) q ∙ w)))
    (λ w. ap (λ t. is_of_line other b x y && not t) (ap (λ t. is_in n (t ∷ done)) z ∙ in_here n done ∙ sym (ap (λ t. is_in t done) (sym z) ∙ w))) h in
    ap₂ (λ p r. cond p (y.sent ∷ r) r) here (flying-past other b x (n + 0) done (suc n) ys (omega arith))
flying-same other b x done n (suc k) (y ∷ ys) v e h =
    let z : n + suc k ≡ suc n + k = omega arith in
    let r : flying_from other b x ((n + suc k) ∷ done) (suc n) ys ≡ flying_from other b x done (suc n) ys = ap (λ t. flying_from other b x (t ∷ done) (suc n) ys) z ∙ flying-same other b x done (suc n) k ys v e (⊎_elim {C = (is_of_line other b x v ≡ false) ⊎ (is_in (suc n + k) done ≡ true)} (λ w. inl w) (λ w. inr (ap (λ t. is_in t done) (sym z) ∙ w)) h) in
    ap₂ (λ p t. cond (is_of_line other b x y && not p) (y.sent ∷ t) t) (in_more n (n + suc k) done (λ q. absurd (omega (arith, q)))) r

-- the next frame of its side, of this line
pub flying-first : (other : ℕ) (b : Bool) (x : ℕ) (done : List ℕ) (n k : ℕ) (vs : List Wired) (v : Wired) → slice_get vs k ≡ Some v → is_of_line other b x v ≡ true → is_in (n + k) done ≡ false → ((j : ℕ) (u : Wired) → j < k → slice_get vs j ≡ Some u → is_of_line other b x u ≡ true → is_in (n + j) done ≡ true) → flying_from other b x done n vs ≡ v.sent ∷ flying_from other b x ((n + k) ∷ done) n vs
flying-first other b x done n k [] v e m d h = cc
flying-first other b x done n zero (y ∷ ys) v e m d h =
    let q : y ≡ v = cc in
    let z : n + 0 ≡ n = omega arith in
    let old : (is_of_line other b x y && not (is_in n done)) ≡ true = and_from (is_of_line other b x y) (not (is_in n done)) (ap (is_of_line other b x) q ∙ m) (ap not (ap (λ t. is_in t done) (sym z) ∙ d)) in
    let new : (is_of_line other b x y && not (is_in n ((n + 0) ∷ done))) ≡ false = and_right (is_of_line other b x y) (not (is_in n ((n + 0) ∷ done))) (ap not (ap (λ t. is_in n (t ∷ done)) z ∙ in_here n done)) in
    ap (λ p. cond p (y.sent ∷ flying_from other b x done (suc n) ys) (flying_from other b x done (suc n) ys)) old
    ∙ ap₂ (λ p t. p.sent ∷ t) q (sym (flying-past other b x (n + 0) done (suc n) ys (omega arith)))
    ∙ ap (λ p. v.sent ∷ cond p (y.sent ∷ flying_from other b x ((n + 0) ∷ done) (suc n) ys) (flying_from other b x ((n + 0) ∷ done) (suc n) ys)) (sym new)
flying-first other b x done n (suc k) (y ∷ ys) v e m d h = go (is_of_line other b x y) refl (flying-first other b x done (suc n) k ys v e m (ap (λ t. is_in t done) (sym z) ∙ d) (λ j u l g w. ap (λ t. is_in t done) (omega arith) ∙ h (suc j) u (omega (arith, l)) g w))
  where
    z : n + suc k ≡ suc n + k
    z = omega arith

    same : is_in n ((n + suc k) ∷ done) ≡ is_in n done
    same = in_more n (n + suc k) done (λ q. absurd (omega (arith, q)))

    go : (c : Bool) → is_of_line other b x y ≡ c → flying_from other b x done (suc n) ys ≡ v.sent ∷ flying_from other b x ((suc n + k) ∷ done) (suc n) ys → cond (is_of_line other b x y && not (is_in n done)) (y.sent ∷ flying_from other b x done (suc n) ys) (flying_from other b x done (suc n) ys) ≡ v.sent ∷ cond (is_of_line other b x y && not (is_in n ((n + suc k) ∷ done))) (y.sent ∷ flying_from other b x ((n + suc k) ∷ done) (suc n) ys) (flying_from other b x ((n + suc k) ∷ done) (suc n) ys)
    go true q ih =
        let d0 : is_in n done ≡ true = ap (λ t. is_in t done) (omega arith) ∙ h 0 y (omega arith) refl q in
        ap₂ (λ p t. cond (p && not t) (y.sent ∷ flying_from other b x done (suc n) ys) (flying_from other b x done (suc n) ys)) q d0 ∙ ih ∙ ap (λ t. v.sent ∷ flying_from other b x (t ∷ done) (suc n) ys) (sym z)
        ∙ ap₂ (λ p t. v.sent ∷ cond (p && not t) (y.sent ∷ flying_from other b x ((n + suc k) ∷ done) (suc n) ys) (flying_from other b x ((n + suc k) ∷ done) (suc n) ys)) (sym q) (sym (same ∙ d0))
    go false q ih =
        ap (λ p. cond (p && not (is_in n done)) (y.sent ∷ flying_from other b x done (suc n) ys) (flying_from other b x done (suc n) ys)) q ∙ ih ∙ ap (λ t. v.sent ∷ flying_from other b x (t ∷ done) (suc n) ys) (sym z)
        ∙ ap (λ p. v.sent ∷ cond (p && not (is_in n ((n + suc k) ∷ done))) (y.sent ∷ flying_from other b x ((n + suc k) ∷ done) (suc n) ys) (flying_from other b x ((n + suc k) ∷ done) (suc n) ys)) (sym q)
