-- Line sessions by their places in a list, counted from n + 1 on.
use Rattle.std.proofs.Common.{◌≡◌, ℕ, suc, ◌+◌, ◌<◌, ◌≤◌, ◌⊎◌, inl, inr, ⊎_elim, refl, sym, ap, ◌∙◌, subst, arith, Bool, true, false, cond, ◌&&◌, List, [], ◌∷◌, ◌++◌, length, nat_eq, eqb-true}
use Rattle.std.proofs.lemmas.Bool.{true≢false, and_parts}
use Rattle.lat_model.specs.Lists.{Each}
use Rattle.lat_machines.specs.cores.Cores.{Seat, no_seat}
use Rattle.lat_machines.specs.cores.Lines.{last_on}
use Rattle.lat_machines.specs.world.Machines.{Setups, Machines}
use Rattle.lat_machines.specs.world.Reports.{is_partner, partner_in}
use Rattle.lat_laws.specs.rounds.Seated.{IsSeat}
use Rattle.lat_laws.specs.tales.Mates.{last_named, mate_in}
use Rattle.lat_laws.specs.tales.Rows.{newest_place}
use Rattle.lat_laws.proofs.tales.seats.Sound.{Apart, Distinct, last_serial}

abbrev pub IsAt : Seat → ℕ → ℕ → List Seat → Type 0
IsAt s k n [] = ⊥
IsAt s k n (x ∷ xs) = ((s ≡ x) × (k ≡ suc n)) ⊎ IsAt s k (suc n) xs

pub at_seat : (s : Seat) (k n : ℕ) (xs : List Seat) → IsAt s k n xs → IsSeat s xs
at_seat s k n [] h = absurd h
at_seat s k n (x ∷ xs) h = ⊎_elim {C = (s ≡ x) ⊎ IsSeat s xs} (λ p. inl p.0) (λ p. inr (at_seat s k (suc n) xs p)) h

pub at_above : (s : Seat) (k n : ℕ) (xs : List Seat) → IsAt s k n xs → n < k
at_above s k n [] h = absurd h
at_above s k n (x ∷ xs) h = ⊎_elim {C = n < k} (λ p. omega (arith, p.1)) (λ p. let l : suc n < k = at_above s k (suc n) xs p in omega (arith, l)) h

pub at_below : (s : Seat) (k n : ℕ) (xs : List Seat) → IsAt s k n xs → k ≤ n + length xs
at_below s k n [] h = absurd h
at_below s k n (x ∷ xs) h = ⊎_elim {C = k ≤ n + suc (length xs)} (λ p. omega (arith, p.1)) (λ p. let l : k ≤ suc n + length xs = at_below s k (suc n) xs p in omega (arith, l)) h

apart_self : (x : Seat) (xs : List Seat) → Each (Apart x) xs → IsSeat x xs → ⊥
apart_self x [] e i = i
apart_self x (y ∷ ys) e i = ⊎_elim {C = ⊥} (λ q. e.0 (ap (λ (z : Seat). z.circuit) q) (ap (λ (z : Seat). z.serial) q)) (λ q. apart_self x ys e.1 q) i

pub one_place : (s : Seat) (k j n : ℕ) (xs : List Seat) → Distinct xs → IsAt s k n xs → IsAt s j n xs → k ≡ j
one_place s k j n [] d a b = absurd a
one_place s k j n (x ∷ xs) d a b = ⊎_elim {C = k ≡ j}
    (λ p. ⊎_elim {C = k ≡ j} (λ q. p.1 ∙ sym q.1) (λ q. absurd (apart_self x xs d.0 (subst (λ z. IsSeat z xs) p.0 (at_seat s j (suc n) xs q)))) b)
    (λ p. ⊎_elim {C = k ≡ j} (λ q. absurd (apart_self x xs d.0 (subst (λ z. IsSeat z xs) q.0 (at_seat s k (suc n) xs p)))) (λ q. one_place s k j (suc n) xs d.1 p q) b)
    a

pub one_seat : (s t : Seat) (k n : ℕ) (xs : List Seat) → IsAt s k n xs → IsAt t k n xs → s ≡ t
one_seat s t k n [] a b = absurd a
one_seat s t k n (x ∷ xs) a b = ⊎_elim {C = s ≡ t}
    (λ p. ⊎_elim {C = s ≡ t} (λ q. p.0 ∙ sym q.0) (λ q. absurd (let l : suc n < k = at_above t k (suc n) xs q in omega (arith, l, p.1))) b)
    (λ p. ⊎_elim {C = s ≡ t} (λ q. absurd (let l : suc n < k = at_above s k (suc n) xs p in omega (arith, l, q.1))) (λ q. one_seat s t k (suc n) xs p q) b)
    a

-- behind other sessions

pub at_front : (s : Seat) (k n : ℕ) (xs ys : List Seat) → IsAt s k n xs → IsAt s k n (xs ++ ys)
at_front s k n [] ys h = absurd h
at_front s k n (x ∷ xs) ys h = ⊎_elim {C = IsAt s k n (x ∷ xs ++ ys)} (λ p. inl p) (λ p. inr (at_front s k (suc n) xs ys p)) h

pub at_end : (s : Seat) (k n : ℕ) (xs : List Seat) → k ≡ suc (n + length xs) → IsAt s k n (xs ++ s ∷ [])
at_end s k n [] h = inl (refl, omega (arith, h))
at_end s k n (x ∷ xs) h = inr (at_end s k (suc n) xs (omega (arith, h)))

pub at_either : (s t : Seat) (k n : ℕ) (xs : List Seat) → IsAt s k n (xs ++ t ∷ []) → IsAt s k n xs ⊎ ((s ≡ t) × (k ≡ suc (n + length xs)))
at_either s t k n [] h = ⊎_elim {C = ⊥ ⊎ ((s ≡ t) × (k ≡ suc (n + 0)))} (λ p. inr (p.0, omega (arith, p.1))) (λ p. absurd p) h
at_either s t k n (x ∷ xs) h = ⊎_elim {C = IsAt s k n (x ∷ xs) ⊎ ((s ≡ t) × (k ≡ suc (n + suc (length xs))))}
    (λ p. inl (inl p))
    (λ p. ⊎_elim {C = IsAt s k n (x ∷ xs) ⊎ ((s ≡ t) × (k ≡ suc (n + suc (length xs))))} (λ q. inl (inr q)) (λ q. inr (q.0, omega (arith, q.1))) (at_either s t k (suc n) xs p))
    h

-- the place of a mate

pub mate_at : (u : Setups) (w : Machines) (t s : Seat) (k n : ℕ) (xs : List Seat) → Distinct xs → IsAt s k n xs → is_partner u w s t ≡ true → ((v : Seat) → IsSeat v xs → is_partner u w v t ≡ true → v ≡ s) → mate_in u w t n xs ≡ k
mate_at u w t s k n [] d a p o = absurd a
mate_at u w t s k n (x ∷ xs) d a p o = go (is_partner u w x t) refl (λ z. mate_at u w t s k (suc n) xs d.1 z p (λ v i. o v (inr i)))
  where
    go : (b : Bool) → is_partner u w x t ≡ b → (IsAt s k (suc n) xs → mate_in u w t (suc n) xs ≡ k) → mate_in u w t n (x ∷ xs) ≡ k
    go true q ih = ap (λ b. cond b (suc n) (mate_in u w t (suc n) xs)) q ∙ ⊎_elim {C = suc n ≡ k} (λ z. sym z.1) (λ z. absurd (apart_self x xs d.0 (subst (λ y. IsSeat y xs) (sym (o x (inl refl) q)) (at_seat s k (suc n) xs z)))) a
    go false q ih = ap (λ b. cond b (suc n) (mate_in u w t (suc n) xs)) q ∙ ⊎_elim {C = mate_in u w t (suc n) xs ≡ k} (λ z. absurd (true≢false (sym p ∙ (ap (λ y. is_partner u w y t) z.0 ∙ q)))) ih a

pub mate_none : (u : Setups) (w : Machines) (t : Seat) (n : ℕ) (xs : List Seat) → ((v : Seat) → IsSeat v xs → is_partner u w v t ≡ false) → mate_in u w t n xs ≡ 0
mate_none u w t n [] h = refl
mate_none u w t n (x ∷ xs) h = ap (λ b. cond b (suc n) (mate_in u w t (suc n) xs)) (h x (inl refl)) ∙ mate_none u w t (suc n) xs (λ v i. h v (inr i))

pub record MateFound (u : Setups) (w : Machines) (t : Seat) (n : ℕ) (xs : List Seat) : Type 0 where
  pub seat : Seat
  pub at : IsAt seat (mate_in u w t n xs) n xs
  pub partner : is_partner u w seat t ≡ true

pub mate_found : (u : Setups) (w : Machines) (t : Seat) (n : ℕ) (xs : List Seat) → ((mate_in u w t n xs ≡ 0) × ((v : Seat) → IsSeat v xs → is_partner u w v t ≡ false)) ⊎ MateFound u w t n xs
mate_found u w t n [] = inl (refl, λ v i. absurd i)
mate_found u w t n (x ∷ xs) = go (is_partner u w x t) refl (mate_found u w t (suc n) xs)
  where
    go : (b : Bool) → is_partner u w x t ≡ b → ((mate_in u w t (suc n) xs ≡ 0) × ((v : Seat) → IsSeat v xs → is_partner u w v t ≡ false)) ⊎ MateFound u w t (suc n) xs → ((mate_in u w t n (x ∷ xs) ≡ 0) × ((v : Seat) → IsSeat v (x ∷ xs) → is_partner u w v t ≡ false)) ⊎ MateFound u w t n (x ∷ xs)
    go true q r = inr (record { seat = x; at = inl (refl, ap (λ b. cond b (suc n) (mate_in u w t (suc n) xs)) q); partner = q })
    go false q (inl r) = inl (ap (λ b. cond b (suc n) (mate_in u w t (suc n) xs)) q ∙ r.0, λ v i. ⊎_elim {C = is_partner u w v t ≡ false} (λ z. ap (λ y. is_partner u w y t) z ∙ q) (λ z. r.1 v z) i)
    go false q (inr r) = inr (record { seat = r.seat; at = inr (subst (λ z. IsAt r.seat z (suc n) xs) (sym (ap (λ b. cond b (suc n) (mate_in u w t (suc n) xs)) q)) r.at); partner = r.partner })

-- a partner among the node's

pub partner_none : (u : Setups) (w : Machines) (s : Seat) (ts : List Seat) → ((t : Seat) → IsSeat t ts → is_partner u w s t ≡ false) → partner_in u w s ts ≡ no_seat
partner_none u w s [] h = refl
partner_none u w s (t ∷ ts) h = ap (λ b. cond b t (partner_in u w s ts)) (h t (inl refl)) ∙ partner_none u w s ts (λ v i. h v (inr i))

pub partner_is : (u : Setups) (w : Machines) (s t : Seat) (ts : List Seat) → IsSeat t ts → is_partner u w s t ≡ true → ((v : Seat) → IsSeat v ts → is_partner u w s v ≡ true → v ≡ t) → partner_in u w s ts ≡ t
partner_is u w s t [] i p o = absurd i
partner_is u w s t (x ∷ xs) i p o = go (is_partner u w s x) refl (λ z. partner_is u w s t xs z p (λ v j. o v (inr j)))
  where
    go : (b : Bool) → is_partner u w s x ≡ b → (IsSeat t xs → partner_in u w s xs ≡ t) → partner_in u w s (x ∷ xs) ≡ t
    go true q ih = ap (λ b. cond b x (partner_in u w s xs)) q ∙ o x (inl refl) q
    go false q ih = ap (λ b. cond b x (partner_in u w s xs)) q ∙ ⊎_elim {C = partner_in u w s xs ≡ t} (λ z. absurd (true≢false (sym p ∙ (ap (is_partner u w s) z ∙ q)))) ih i

pub record PartnerFound (u : Setups) (w : Machines) (s : Seat) (ts : List Seat) : Type 0 where
  pub is_seat : IsSeat (partner_in u w s ts) ts
  pub partner : is_partner u w s (partner_in u w s ts) ≡ true

pub partner_found : (u : Setups) (w : Machines) (s : Seat) (ts : List Seat) → ((partner_in u w s ts ≡ no_seat) × ((t : Seat) → IsSeat t ts → is_partner u w s t ≡ false)) ⊎ PartnerFound u w s ts
partner_found u w s [] = inl (refl, λ t i. absurd i)
partner_found u w s (x ∷ xs) = go (is_partner u w s x) refl (partner_found u w s xs)
  where
    at : (b : Bool) → is_partner u w s x ≡ b → partner_in u w s (x ∷ xs) ≡ cond b x (partner_in u w s xs)
    at b q = ap (λ b. cond b x (partner_in u w s xs)) q

    go : (b : Bool) → is_partner u w s x ≡ b → ((partner_in u w s xs ≡ no_seat) × ((t : Seat) → IsSeat t xs → is_partner u w s t ≡ false)) ⊎ PartnerFound u w s xs → ((partner_in u w s (x ∷ xs) ≡ no_seat) × ((t : Seat) → IsSeat t (x ∷ xs) → is_partner u w s t ≡ false)) ⊎ PartnerFound u w s (x ∷ xs)
    go true q r = inr (record { is_seat = inl (at true q); partner = ap (is_partner u w s) (at true q) ∙ q })
    go false q (inl r) = inl (at false q ∙ r.0, λ v i. ⊎_elim {C = is_partner u w s v ≡ false} (λ z. ap (is_partner u w s) z ∙ q) (λ z. r.1 v z) i)
    go false q (inr r) = inr (record { is_seat = inr (subst (λ z. IsSeat z xs) (sym (at false q)) r.is_seat); partner = ap (is_partner u w s) (at false q) ∙ r.partner })

-- the last session under an id

pub record NamedAt (x : ℕ) (i : ℕ) (k : ℕ) (serial : ℕ) (n : ℕ) (xs : List Seat) : Type 0 where
  pub seat : Seat
  pub at : IsAt seat k n xs
  pub circuit : seat.circuit ≡ x
  pub serial_is : seat.serial ≡ serial

pub named_at : (x i n found serial : ℕ) (xs : List Seat) → ((last_named x i n found xs ≡ found) × (last_serial x i serial xs ≡ serial)) ⊎ NamedAt x i (last_named x i n found xs) (last_serial x i serial xs) n xs
named_at x i n found serial [] = inl (refl, refl)
named_at x i n found serial (y ∷ ys) = go (nat_eq y.circuit x && nat_eq y.id i) refl (named_at x i (suc n) (cond (nat_eq y.circuit x && nat_eq y.id i) (suc n) found) (cond (nat_eq y.circuit x && nat_eq y.id i) y.serial serial) ys)
  where
    k : ℕ
    k = last_named x i n found (y ∷ ys)

    l : ℕ
    l = last_serial x i serial (y ∷ ys)

    go : (b : Bool) → (nat_eq y.circuit x && nat_eq y.id i) ≡ b → ((k ≡ cond (nat_eq y.circuit x && nat_eq y.id i) (suc n) found) × (l ≡ cond (nat_eq y.circuit x && nat_eq y.id i) y.serial serial)) ⊎ NamedAt x i k l (suc n) ys → ((k ≡ found) × (l ≡ serial)) ⊎ NamedAt x i k l n (y ∷ ys)
    go b q (inr r) = inr (record { seat = r.seat; at = inr r.at; circuit = r.circuit; serial_is = r.serial_is })
    go true q (inl r) = inr (record {
      seat = y;
      at = inl (refl, r.0 ∙ ap (λ b. cond b (suc n) found) q);
      circuit = eqb-true y.circuit x (and_parts (nat_eq y.circuit x) (nat_eq y.id i) q).0;
      serial_is = sym (r.1 ∙ ap (λ b. cond b y.serial serial) q);
    })
    go false q (inl r) = inl (r.0 ∙ ap (λ b. cond b (suc n) found) q, r.1 ∙ ap (λ b. cond b y.serial serial) q)

-- the newest session of a line

pub newest_at : (line n found : ℕ) (s : Seat) (xs : List Seat) → ((newest_place line n found xs ≡ found) × (last_on line s xs ≡ s)) ⊎ (IsAt (last_on line s xs) (newest_place line n found xs) n xs × ((last_on line s xs).line ≡ line))
newest_at line n found s [] = inl (refl, refl)
newest_at line n found s (y ∷ ys) = go (nat_eq y.line line) refl (newest_at line (suc n) (cond (nat_eq y.line line) (suc n) found) (cond (nat_eq y.line line) y s) ys)
  where
    k : ℕ
    k = newest_place line n found (y ∷ ys)

    l : Seat
    l = last_on line s (y ∷ ys)

    go : (b : Bool) → nat_eq y.line line ≡ b → ((k ≡ cond (nat_eq y.line line) (suc n) found) × (l ≡ cond (nat_eq y.line line) y s)) ⊎ (IsAt l k (suc n) ys × (l.line ≡ line)) → ((k ≡ found) × (l ≡ s)) ⊎ (IsAt l k n (y ∷ ys) × (l.line ≡ line))
    go b q (inr r) = inr (inr r.0, r.1)
    go true q (inl r) =
        let e : l ≡ y = r.1 ∙ ap (λ b. cond b y s) q in
        inr (inl (e, r.0 ∙ ap (λ b. cond b (suc n) found) q), ap (λ (z : Seat). z.line) e ∙ eqb-true y.line line q)
    go false q (inl r) = inl (r.0 ∙ ap (λ b. cond b (suc n) found) q, r.1 ∙ ap (λ b. cond b y s) q)

pub newest_more : (line n found : ℕ) (xs : List Seat) (s : Seat) → newest_place line n found (xs ++ s ∷ []) ≡ cond (nat_eq s.line line) (suc (n + length xs)) (newest_place line n found xs)
newest_more line n found [] s = ap (λ k. cond (nat_eq s.line line) (suc k) found) (plus n)
  where
    plus : (n : ℕ) → n ≡ n + 0
    plus n = omega arith
newest_more line n found (y ∷ ys) s = newest_more line (suc n) (cond (nat_eq y.line line) (suc n) found) ys s ∙ ap (λ k. cond (nat_eq s.line line) (suc k) (newest_place line (suc n) (cond (nat_eq y.line line) (suc n) found) ys)) (plus n (length ys))
  where
    plus : (n m : ℕ) → suc n + m ≡ n + suc m
    plus n m = omega arith

pub is_at : (s : Seat) (n : ℕ) (xs : List Seat) → IsSeat s xs → (k : ℕ) × IsAt s k n xs
is_at s n [] i = absurd i
is_at s n (x ∷ xs) i = ⊎_elim {C = (k : ℕ) × IsAt s k n (x ∷ xs)} (λ q. (suc n, inl (q, refl))) (λ q. let h : (k : ℕ) × IsAt s k (suc n) xs = is_at s (suc n) xs q in (h.0, inr h.1)) i
