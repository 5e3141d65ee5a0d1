-- The frames of circuits that were delivered, as indices of the world of circuits.
use Rattle.std.proofs.Common.{◌≡◌, ℕ, zero, suc, ◌+◌, ◌<◌, ◌⊎◌, inl, inr, ⊎_elim, sym, ap, ap₂, ◌∙◌, refl, subst, arith, Bool, true, false, not, cond, ◌&&◌, ◌||◌, List, [], ◌∷◌, ◌++◌, length, Option, Some, None, nat_eq, eqb-true, slice_get}
use Rattle.std.proofs.lemmas.Bool.{true≢false, false≢true, or_left, or_right, eqb-false, cases_lt}
use Rattle.lat_model.specs.Lists.{Each}
use Rattle.lat_model.specs.circuits.World.{Wired}
use Rattle.lat_machines.specs.world.Machines.{Setups, Posted, Machines, is_for_other, marked_delivered}
use Rattle.lat_machines.specs.world.Ties.{IsNotice, Shown, Shows}
use Rattle.lat_laws.specs.rounds.Lossless.{is_in}
use Rattle.lat_laws.proofs.rounds.rounds.Places.{is_notice, is_notice_value, place, place_rises, shown_circuit}
use Rattle.lat_laws.proofs.rounds.rounds.Prefixes.{Within}

-- with the frame of this place, where it is one of a circuit to the other end
abbrev pub place_too : Setups → ℕ → Option Posted → List ℕ → List ℕ
place_too u j None done = done
place_too u j (Some p) done = cond (is_for_other u p && not (is_notice p)) (j ∷ done) done

abbrev pub places : Setups → List Posted → List ℕ → List ℕ → List ℕ
places u ps [] done = done
places u ps (i ∷ is) done = places u ps is (place_too u (place ps i) (slice_get ps i) done)

-- latest first
abbrev pub done_of : Setups → Machines → List ℕ
done_of u m = places u m.posts m.delivered []

places_then : (u : Setups) (ps : List Posted) (is js : List ℕ) (done : List ℕ) → places u ps (is ++ js) done ≡ places u ps js (places u ps is done)
places_then u ps [] js done = refl
places_then u ps (i ∷ is) js done = places_then u ps is js (place_too u (place ps i) (slice_get ps i) done)

-- one more is delivered
pub done_marked : (u : Setups) (m : Machines) (i : ℕ) (o : Option Posted) → slice_get m.posts i ≡ o → done_of u (marked_delivered i m) ≡ place_too u (place m.posts i) o (done_of u m)
done_marked u m i o e = places_then u m.posts m.delivered (i ∷ []) [] ∙ ap (λ z. place_too u (place m.posts i) z (done_of u m)) e

-- more is sent

place_zero : (ps : List Posted) → place ps 0 ≡ 0
place_zero [] = refl
place_zero (p ∷ ps) = refl

place_front : (ps qs : List Posted) (i : ℕ) → i < length ps → place (ps ++ qs) i ≡ place ps i
place_front [] qs i h = absurd (omega (arith, h))
place_front (p ∷ ps) qs zero h = refl
place_front (p ∷ ps) qs (suc i) h = ap (λ z. cond (is_notice p) 0 1 + z) (place_front ps qs i (omega (arith, h)))

pub get_front : (ps qs : List Posted) (i : ℕ) → i < length ps → slice_get (ps ++ qs) i ≡ slice_get ps i
get_front [] qs i h = absurd (omega (arith, h))
get_front (p ∷ ps) qs zero h = refl
get_front (p ∷ ps) qs (suc i) h = get_front ps qs i (omega (arith, h))

places_front : (u : Setups) (ps qs : List Posted) (is done : List ℕ) → Each (λ i. i < length ps) is → places u (ps ++ qs) is done ≡ places u ps is done
places_front u ps qs [] done h = refl
places_front u ps qs (i ∷ is) done h =
    places_front u ps qs is (place_too u (place (ps ++ qs) i) (slice_get (ps ++ qs) i) done) h.1
    ∙ ap (places u ps is) (ap₂ (λ j o. place_too u j o done) (place_front ps qs i h.0) (get_front ps qs i h.0))

pub done_posted : (u : Setups) (w v : Machines) (ps : List Posted) → v.posts ≡ w.posts ++ ps → v.delivered ≡ w.delivered → Within w → done_of u v ≡ done_of u w
done_posted u w v ps p d h = ap₂ (λ y z. places u y z []) p d ∙ places_front u w.posts ps w.delivered [] h

-- two frames of circuits have two places

abbrev one : Bool → ℕ
one b = cond b 0 1

place_next : (ps : List Posted) (k : ℕ) (q : Posted) → slice_get ps k ≡ Some q → is_notice q ≡ false → place ps (suc k) ≡ suc (place ps k)
place_next [] k q e n = let z : ⊥ = cc in absurd z
place_next (p ∷ ps) zero q e n =
    let same : p ≡ q = cc in
    omega (arith, ap (λ z. one (is_notice z)) same, ap one n, place_zero ps)
place_next (p ∷ ps) (suc k) q e n = omega (arith, place_next ps k q e n)

place_same : (ps : List Posted) (i k : ℕ) (p q : Posted) → slice_get ps i ≡ Some p → is_notice p ≡ false → slice_get ps k ≡ Some q → is_notice q ≡ false → place ps i ≡ place ps k → i ≡ k
place_same ps i k p q e n f o h = ⊎_elim {C = i ≡ k} (λ l. absurd (omega (arith, h, place_next ps i p e n, place_rises ps (suc i) k (omega (arith, l))))) (λ g. ⊎_elim {C = i ≡ k} (λ l. absurd (omega (arith, h, place_next ps k q f o, place_rises ps (suc k) i (omega (arith, l))))) (λ l. omega (arith, g, l)) (cases_lt k i)) (cases_lt i k)

-- which of them are done

same_nat : (n : ℕ) → nat_eq n n ≡ true
same_nat n = go (nat_eq n n) refl
  where
    go : (b : Bool) → nat_eq n n ≡ b → nat_eq n n ≡ true
    go true h = h
    go false h = absurd (eqb-false n n h refl)

place_keeps : (u : Setups) (x j : ℕ) (o : Option Posted) (done : List ℕ) → is_in x done ≡ true → is_in x (place_too u j o done) ≡ true
place_keeps u x j None done h = h
place_keeps u x j (Some p) done h = go (is_for_other u p && not (is_notice p))
  where
    go : (t : Bool) → is_in x (cond t (j ∷ done) done) ≡ true
    go true = or_right (nat_eq x j) (is_in x done) h
    go false = h

places_keep : (u : Setups) (ps : List Posted) (is done : List ℕ) (x : ℕ) → is_in x done ≡ true → is_in x (places u ps is done) ≡ true
places_keep u ps [] done x h = h
places_keep u ps (i ∷ is) done x h = places_keep u ps is (place_too u (place ps i) (slice_get ps i) done) x (place_keeps u x (place ps i) (slice_get ps i) done h)

in_places : (u : Setups) (ps : List Posted) (is done : List ℕ) (k : ℕ) (q : Posted) → slice_get ps k ≡ Some q → is_for_other u q ≡ true → is_notice q ≡ false → is_in k is ≡ true → is_in (place ps k) (places u ps is done) ≡ true
in_places u ps [] done k q e t n h = absurd (false≢true h)
in_places u ps (i ∷ is) done k q e t n h = go (nat_eq k i) refl h (λ r. in_places u ps is (place_too u (place ps i) (slice_get ps i) done) k q e t n r)
  where
    here : place_too u (place ps k) (slice_get ps k) done ≡ place ps k ∷ done
    here = ap (λ z. place_too u (place ps k) z done) e ∙ ap₂ (λ y z. cond (y && not z) (place ps k ∷ done) done) t n

    go : (b : Bool) → nat_eq k i ≡ b → (b || is_in k is) ≡ true → (is_in k is ≡ true → is_in (place ps k) (places u ps is (place_too u (place ps i) (slice_get ps i) done)) ≡ true) → is_in (place ps k) (places u ps is (place_too u (place ps i) (slice_get ps i) done)) ≡ true
    go true s r f = subst (λ z. is_in (place ps k) (places u ps is (place_too u (place ps z) (slice_get ps z) done)) ≡ true) (eqb-true k i s) (places_keep u ps is (place_too u (place ps k) (slice_get ps k) done) (place ps k) (subst (λ z. is_in (place ps k) z ≡ true) (sym here) (or_left (nat_eq (place ps k) (place ps k)) (is_in (place ps k) done) (same_nat (place ps k)))))
    go false s r f = f r

of_places : (u : Setups) (ps : List Posted) (is done : List ℕ) (k : ℕ) (q : Posted) → slice_get ps k ≡ Some q → is_notice q ≡ false → is_in (place ps k) (places u ps is done) ≡ true → (is_in k is ≡ true) ⊎ (is_in (place ps k) done ≡ true)
of_places u ps [] done k q e n h = inr h
of_places u ps (i ∷ is) done k q e n h = ⊎_elim {C = ((nat_eq k i || is_in k is) ≡ true) ⊎ (is_in (place ps k) done ≡ true)} (λ r. inl (or_right (nat_eq k i) (is_in k is) r)) (λ r. at (slice_get ps i) refl r) (of_places u ps is (place_too u (place ps i) (slice_get ps i) done) k q e n h)
  where
    at : (o : Option Posted) → slice_get ps i ≡ o → is_in (place ps k) (place_too u (place ps i) o done) ≡ true → ((nat_eq k i || is_in k is) ≡ true) ⊎ (is_in (place ps k) done ≡ true)
    at None f r = inr r
    at (Some p) f r = go (is_for_other u p) (is_notice p) refl (nat_eq (place ps k) (place ps i)) refl r
      where
        go : (t b : Bool) → is_notice p ≡ b → (c : Bool) → nat_eq (place ps k) (place ps i) ≡ c → is_in (place ps k) (cond (t && not b) (place ps i ∷ done) done) ≡ true → ((nat_eq k i || is_in k is) ≡ true) ⊎ (is_in (place ps k) done ≡ true)
        go true false x true y z = inl (or_left (nat_eq k i) (is_in k is) (subst (λ j. nat_eq k j ≡ true) (place_same ps k i q p e n f x (eqb-true (place ps k) (place ps i) y)) (same_nat k)))
        go true false x false y z = inr (sym (ap (λ c. c || is_in (place ps k) done) y) ∙ z)
        go true true x c y z = inr z
        go false b x c y z = inr z

pub done_has : (u : Setups) (m : Machines) (k : ℕ) (q : Posted) → slice_get m.posts k ≡ Some q → is_for_other u q ≡ true → is_notice q ≡ false → is_in k m.delivered ≡ true → is_in (place m.posts k) (done_of u m) ≡ true
done_has u m k q e t n h = in_places u m.posts m.delivered [] k q e t n h

pub not_done : (u : Setups) (m : Machines) (k : ℕ) (q : Posted) → slice_get m.posts k ≡ Some q → is_notice q ≡ false → is_in k m.delivered ≡ false → is_in (place m.posts k) (done_of u m) ≡ false
not_done u m k q e n h = go (is_in (place m.posts k) (done_of u m)) refl
  where
    go : (b : Bool) → is_in (place m.posts k) (done_of u m) ≡ b → is_in (place m.posts k) (done_of u m) ≡ false
    go false r = r
    go true r = ⊎_elim {C = is_in (place m.posts k) (done_of u m) ≡ false} (λ x. absurd (true≢false (sym x ∙ h))) (λ x. absurd (false≢true x)) (of_places u m.posts m.delivered [] k q e n r)

-- the frame of the world that a frame of the machines is stands at its place

abbrev pub FoundAt : List Wired → Posted → ℕ → Type 0
FoundAt ws p j = (v : Wired) × (slice_get ws j ≡ Some v) × Shown p v

pub shown_at : (ps : List Posted) (ws : List Wired) (i : ℕ) (p : Posted) → Shows ps ws → slice_get ps i ≡ Some p → IsNotice p ⊎ FoundAt ws p (place ps i)
shown_at [] ws i p s q = let z : ⊥ = cc in absurd z
shown_at (x ∷ ps) ws zero p s q =
    let e : x ≡ p = cc in
    ⊎_elim {C = IsNotice p ⊎ FoundAt ws p 0} (λ n. inl (subst IsNotice e n.0)) (λ n. inr (n.0, ap (λ z. slice_get z 0) n.2, subst (λ z. Shown z n.0) e n.3)) s
shown_at (x ∷ ps) ws (suc i) p s q =
    ⊎_elim {C = IsNotice p ⊎ FoundAt ws p (cond (is_notice x) 0 1 + place ps i)}
    (λ n. subst (λ z. IsNotice p ⊎ FoundAt ws p z) (omega (arith, ap (λ z. one (is_notice_value z)) n.0.1)) (shown_at ps ws i p n.1 q))
    (λ n. ⊎_elim {C = IsNotice p ⊎ FoundAt ws p (cond (is_notice x) 0 1 + place ps i)} (λ m. inl m)
    (λ m. inr (m.0, subst (λ z. slice_get ws z ≡ Some m.0) (omega (arith, ap one (shown_circuit x n.0 n.3))) (ap (λ z. slice_get z (suc (place ps i))) n.2 ∙ m.1), m.2)) (shown_at ps n.1 i p n.4 q)) s
