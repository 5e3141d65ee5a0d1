-- How far the sessions of two ends can come: no further than what was put brings them.
use Rattle.std.proofs.Common.{◌≡◌, ℕ, zero, suc, ◌+◌, ◌<◌, ◌≤◌, sym, ap, ◌∙◌, refl, arith, Bool, true, false, cond, List, [], ◌∷◌, ◌++◌, length, Option, Some, None, length-append}
use Rattle.lat_model.specs.sessions.Slots.{Item, Slot, Start, DataA, DataB, Attention, Reject, Stop, is_attention, is_start, is_stop, items, items_of, costs, cost_of, credits, credits_of}
use Rattle.lat_model.specs.sessions.Session.{Session}
use Rattle.lat_model.specs.sessions.Sessions.{Sessions, of_generation}
use Rattle.lat_model.specs.sessions.Packing.{TaggedSlot}
use Rattle.lat_model.specs.Lists.{Each, IsPrefixOf}
use Rattle.lat_model.specs.sessions.EndOk.{Tail, Shape, SessionOk, Accounts}
use Rattle.lat_model.specs.sessions.Joined.{Joined, slots_of}
use Rattle.lat_model.proofs.sessions.Words.{costs-append}
use Rattle.lat_laws.specs.rounds.Measure.{total, lasting, calm, weight, weights, IsNotIdle, Frugal, AllNumbered, AllFrugal, most_of}
use Rattle.lat_laws.proofs.rounds.measure.Totals.{total_most, total_longer, total_places}

-- each credited slot has an item of its own

cost_item : (x : Slot) → cost_of x ≤ length (items_of x)
cost_item (Start to from c size service request) = omega arith
cost_item (DataA to from c []) = omega arith
cost_item (DataA to from c (b ∷ bs)) = omega arith
cost_item (DataB to from c setting) = omega arith
cost_item (Attention to from flag) = omega arith
cost_item (Reject to from reason) = omega arith
cost_item (Stop to from reason) = omega arith

costs_items : (xs : List Slot) → costs xs ≤ length (items xs)
costs_items [] = omega arith
costs_items (x ∷ xs) = omega (arith, cost_item x, costs_items xs, length-append (items_of x) (items xs))

prefix_most : (xs ys : List Item) → IsPrefixOf xs ys → length xs ≤ length ys
prefix_most xs ys p = omega (arith, ap length p.1, length-append xs p.0)

-- behind its start a session forms data, credits, attentions, and one stop

tail_most : (to from : ℕ) (xs : List Slot) → Tail to from xs → Each IsNotIdle xs → lasting xs ≤ suc (costs xs + credits xs)
tail_most to from [] t e = omega arith
tail_most to from (x ∷ xs) t e = go (is_stop x) (is_attention x) refl refl (tail_most to from xs t.2 e.1)
  where
    go : (s a : Bool) → is_stop x ≡ s → is_attention x ≡ a → lasting xs ≤ suc (costs xs + credits xs) → cond (is_attention x) 0 1 + lasting xs ≤ suc ((cost_of x + costs xs) + (credits_of x + credits xs))
    go true a p q ih =
        let none : lasting xs ≡ 0 = ap lasting (t.1 p) in
        let one : cond {A = ℕ} (is_attention x) 0 1 ≤ 1 = small (is_attention x) in
        omega (arith, none, one)
      where
        small : (b : Bool) → cond {A = ℕ} b 0 1 ≤ 1
        small true = omega arith
        small false = omega arith
    go false true p q ih = let z : cond {A = ℕ} (is_attention x) 0 1 ≡ 0 = ap (λ b. cond b 0 1) q in omega (arith, z, ih)
    go false false p q ih = let z : cond {A = ℕ} (is_attention x) 0 1 ≡ 1 = ap (λ b. cond b 0 1) q in omega (arith, z, ih, e.0 q p)

out_most : (m : Bool) (c : ℕ) (s : Session) → SessionOk m s → Accounts c s → Frugal c s.out → lasting s.out ≤ 2 + (costs s.out + costs s.came)
out_most m c s ok ac f = go s.out ok.shape f refl
  where
    small : (b : Bool) → cond {A = ℕ} b 0 1 ≤ 1
    small true = omega arith
    small false = omega arith

    go : (xs : List Slot) → Shape m s xs → Frugal c xs → s.out ≡ xs → lasting xs ≤ 2 + (costs xs + costs s.came)
    go [] h f q = omega arith
    go (x ∷ xs) h f q = by (is_start x) refl
      where
        by : (b : Bool) → is_start x ≡ b → cond (is_attention x) 0 1 + lasting xs ≤ 2 + ((cost_of x + costs xs) + costs s.came)
        by true e =
            let g : credits (x ∷ xs) ≤ c + costs s.came = omega (arith, ap credits q, ac.gives) in
            omega (arith, small (is_attention x), tail_most _ _ xs h.tail f.1, f.0 e, g)
        by false e = let z : lasting xs ≡ 0 = ap lasting (h.reject e).2 in omega (arith, small (is_attention x), z)

calm_most : (o : Option ℕ) → calm o ≤ 1
calm_most None = omega arith
calm_most (Some flag) = omega arith

-- a formed what it heard of b's slots allows
session_most : (m : Bool) (c d : ℕ) (a b : Session) (wire : List Slot) → SessionOk m a → Accounts c a → Accounts d b → Frugal c a.out → b.out ≡ a.came ++ wire → weight a ≤ 3 + (length a.put + length b.put)
session_most m c d a b wire ok ac bc f q = omega (arith, out_most m c a ok ac f, calm_most a.attention, costs_items a.out, prefix_most (items a.out) a.put ac.framed, costs_items b.out, prefix_most (items b.out) b.put bc.framed, ap costs q, costs-append a.came wire)

-- of all generations
generations_most : (m s : Sessions) (up down : List TaggedSlot) → Joined m s up down → AllFrugal m → AllFrugal s → weights m + weights s ≤ total (λ g. most_of (of_generation m g) (of_generation s g)) m.generations
generations_most m s up down j fm fs = omega (arith, join m.generations s.generations less)
  where
    a : ℕ → ℕ
    a g = weight (of_generation m g)

    b : ℕ → ℕ
    b g = weight (of_generation s g)

    less : s.generations ≤ m.generations
    less = omega (arith, j.asked)

    am : (g : ℕ) → weight (of_generation m g) ≤ 3 + (length (of_generation m g).put + length (of_generation s g).put)
    am g = session_most m.master m.ceiling s.ceiling (of_generation m g) (of_generation s g) (slots_of g down) (j.master_ok.each (m.serial_of g)) (j.master_ok.accounts (m.serial_of g)) (j.slave_ok.accounts (s.serial_of g)) (fm (m.serial_of g)) (j.flow_down.at_generation g)

    bm : (g : ℕ) → weight (of_generation s g) ≤ 3 + (length (of_generation s g).put + length (of_generation m g).put)
    bm g = session_most s.master s.ceiling m.ceiling (of_generation s g) (of_generation m g) (slots_of g up) (j.slave_ok.each (s.serial_of g)) (j.slave_ok.accounts (s.serial_of g)) (j.master_ok.accounts (m.serial_of g)) (fs (s.serial_of g)) (j.flow_up.at_generation g)

    both : (n : ℕ) → total (λ g. weight (of_generation m g)) n + total (λ g. weight (of_generation s g)) n ≤ total (λ g. most_of (of_generation m g) (of_generation s g)) n
    both zero = omega arith
    both (suc n) = omega (arith, both n, am (suc n), bm (suc n))

    join : (n k : ℕ) → k ≤ n → total (λ g. weight (of_generation m g)) n + total (λ g. weight (of_generation s g)) k ≤ total (λ g. most_of (of_generation m g) (of_generation s g)) n
    join n k l = omega (arith, both n, total_longer (λ g. weight (of_generation s g)) k n l)

-- of all sessions that the master made
pub sessions_most : (m s : Sessions) (up down : List TaggedSlot) → Joined m s up down → AllFrugal m → AllFrugal s → AllNumbered m → weights m + weights s ≤ total (λ k. most_of (m.session k) (of_generation s (m.session k).generation)) m.made
sessions_most m s up down j fm fs n = omega (arith, generations_most m s up down j fm fs, same, places)
  where
    f : ℕ → ℕ
    f k = most_of (m.session k) (of_generation s (m.session k).generation)

    named : (g : ℕ) → 0 < g → g ≤ m.generations → (m.session (m.serial_of g)).generation ≡ g
    named g p l = j.master_ok.generation_found g (λ q. absurd (omega (arith, n g p l, q)))

    same : total (λ g. most_of (of_generation m g) (of_generation s g)) m.generations ≤ total (λ g. most_of (m.session (m.serial_of g)) (of_generation s (m.session (m.serial_of g)).generation)) m.generations
    same = total_most (λ g. most_of (of_generation m g) (of_generation s g)) (λ g. most_of (m.session (m.serial_of g)) (of_generation s (m.session (m.serial_of g)).generation)) m.generations (λ g p l. let q : most_of (m.session (m.serial_of g)) (of_generation s (m.session (m.serial_of g)).generation) ≡ most_of (of_generation m g) (of_generation s g) = ap (λ z. most_of (of_generation m g) (of_generation s z)) (named g p l) in omega (arith, q))

    places : total (λ g. most_of (m.session (m.serial_of g)) (of_generation s (m.session (m.serial_of g)).generation)) m.generations ≤ total (λ k. most_of (m.session k) (of_generation s (m.session k).generation)) m.made
    places = total_places (λ k. most_of (m.session k) (of_generation s (m.session k).generation)) m.serial_of m.generations m.made (λ g p l. n g p l) (λ g l. j.master_ok.serial_made g) (λ g h l k p q e. sym (named g p l) ∙ ap (λ z. (m.session z).generation) e ∙ named h q k)
