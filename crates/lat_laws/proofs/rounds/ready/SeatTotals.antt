-- What sums over the sessions of a circuit is at most what sums over its seats.
use Rattle.std.proofs.Common.{◌≡◌, ℕ, zero, suc, ◌+◌, ◌<◌, ◌≤◌, ⊎_elim, sym, ap, ap₂, ◌∙◌, refl, arith, Bool, true, false, cond, List, [], ◌∷◌, nat_eq, eqb-true, eq-eqb}
use Rattle.lat_machines.specs.cores.Cores.{Seat, Core}
use Rattle.lat_laws.specs.rounds.Measure.{total}
use Rattle.lat_laws.specs.rounds.Seated.{IsSeat, HasSeat}
use Rattle.lat_laws.proofs.rounds.measure.Totals.{total_most}

-- over the seats of a circuit
abbrev pub seat_total : (ℕ → ℕ) → ℕ → List Seat → ℕ
seat_total f x [] = 0
seat_total f x (s ∷ ss) = cond (nat_eq s.circuit x) (f s.serial) 0 + seat_total f x ss

-- a seat's part in one session
abbrev part : (ℕ → ℕ) → ℕ → Seat → ℕ → ℕ
part f x s k = cond (nat_eq s.circuit x) (cond (nat_eq s.serial k) (f k) 0) 0

abbrev hits : (ℕ → ℕ) → ℕ → List Seat → ℕ → ℕ
hits f x [] k = 0
hits f x (s ∷ ss) k = part f x s k + hits f x ss k

total_add : (g h : ℕ → ℕ) (n : ℕ) → total (λ k. g k + h k) n ≡ total g n + total h n
total_add g h zero = omega arith
total_add g h (suc n) = omega (arith, total_add g h n)

total_zero : (n : ℕ) → total (λ k. 0) n ≡ 0
total_zero zero = refl
total_zero (suc n) = omega (arith, total_zero n)

single_none : (f : ℕ → ℕ) (j n : ℕ) → n < j → total (λ k. cond (nat_eq j k) (f k) 0) n ≡ 0
single_none f j zero l = refl
single_none f j (suc n) l = go (nat_eq j (suc n)) refl (single_none f j n (omega (arith, l)))
  where
    go : (b : Bool) → nat_eq j (suc n) ≡ b → total (λ k. cond (nat_eq j k) (f k) 0) n ≡ 0 → cond b (f (suc n)) 0 + total (λ k. cond (nat_eq j k) (f k) 0) n ≡ 0
    go true q h = let e : j ≡ suc n = eqb-true j (suc n) q in absurd (omega (arith, e, l))
    go false q h = omega (arith, h)

single_most : (f : ℕ → ℕ) (j n : ℕ) → total (λ k. cond (nat_eq j k) (f k) 0) n ≤ f j
single_most f j zero = omega arith
single_most f j (suc n) = go (nat_eq j (suc n)) refl (single_most f j n) (single_none f j n)
  where
    t : ℕ
    t = total (λ k. cond (nat_eq j k) (f k) 0) n

    go : (b : Bool) → nat_eq j (suc n) ≡ b → t ≤ f j → (n < j → t ≡ 0) → cond b (f (suc n)) 0 + t ≤ f j
    go true q h z =
        let e : j ≡ suc n = eqb-true j (suc n) q in
        let w : f j ≡ f (suc n) = ap f e in
        omega (arith, w, z (omega (arith, e)))
    go false q h z = omega (arith, h)

part_most : (f : ℕ → ℕ) (x : ℕ) (s : Seat) (n : ℕ) → total (part f x s) n ≤ cond (nat_eq s.circuit x) (f s.serial) 0
part_most f x s n = go (nat_eq s.circuit x)
  where
    go : (b : Bool) → total (λ k. cond b (cond (nat_eq s.serial k) (f k) 0) 0) n ≤ cond b (f s.serial) 0
    go true = single_most f s.serial n
    go false = omega (arith, total_zero n)

hits_most : (f : ℕ → ℕ) (x : ℕ) (ss : List Seat) (n : ℕ) → total (hits f x ss) n ≤ seat_total f x ss
hits_most f x [] n = omega (arith, total_zero n)
hits_most f x (s ∷ ss) n = omega (arith, total_add (part f x s) (hits f x ss) n, part_most f x s n, hits_most f x ss n)

hit : (f : ℕ → ℕ) (x k : ℕ) (ss : List Seat) (s : Seat) → IsSeat s ss → s.circuit ≡ x → s.serial ≡ k → f k ≤ hits f x ss k
hit f x k [] s i c e = absurd i
hit f x k (t ∷ ss) s i c e = ⊎_elim {B = IsSeat s ss} {C = f k ≤ hits f x (t ∷ ss) k} here (λ q. omega (arith, hit f x k ss s q c e)) i
  where
    here : s ≡ t → f k ≤ hits f x (t ∷ ss) k
    here q =
        let a : nat_eq t.circuit x ≡ true = eq-eqb t.circuit x (sym (ap (λ (z : Seat). z.circuit) q) ∙ c) in
        let b : nat_eq t.serial k ≡ true = eq-eqb t.serial k (sym (ap (λ (z : Seat). z.serial) q) ∙ e) in
        let p : part f x t k ≡ f k = ap₂ (λ y z. cond y (cond z (f k) 0) 0) a b in
        omega (arith, p)

pub seats_total : (f : ℕ → ℕ) (c : Core) (x n : ℕ) → ((k : ℕ) → 0 < k → k ≤ n → HasSeat c x k) → total f n ≤ seat_total f x c.seats
seats_total f c x n h = omega (arith, total_most f (hits f x c.seats) n (λ k a b. (let s : HasSeat c x k = h k a b in hit f x k c.seats s.seat s.is_seat s.circuit s.serial)), hits_most f x c.seats n)
