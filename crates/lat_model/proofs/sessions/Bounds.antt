-- How many heard items wait at most.
use Rattle.std.proofs.Common.{◌≡◌, ℕ, ◌+◌, ◌-◌, ◌*◌, ◌≤◌, ap, refl, arith, Bool, true, false, cond, List, [], ◌∷◌, ◌++◌, length, nat_lt, length-append, ltb-true, ltb-false}
use Rattle.lat_model.specs.sessions.Slots.{Slot, items, items_of}
use Rattle.lat_model.specs.sessions.Session.{Session, held_from, held_slots}
use Rattle.lat_model.specs.sessions.EndOk.{Accounts, Small}

waiting_held : (n : ℕ) (xs : List Slot) → Small xs → length (items xs) - n ≤ 255 * held_from n xs
waiting_held n [] h = omega arith
waiting_held n (x ∷ xs) h = go (nat_lt n l) refl (waiting_held (n - l) xs h.1)
  where
    l : ℕ
    l = length (items_of x)

    sum : length (items_of x ++ items xs) ≡ l + length (items xs)
    sum = length-append (items_of x) (items xs)

    go : (b : Bool) → nat_lt n l ≡ b → length (items xs) - (n - l) ≤ 255 * held_from (n - l) xs → length (items_of x ++ items xs) - n ≤ 255 * (cond b 1 0 + held_from (n - l) xs)
    go true e ih = omega (arith, sum, h.0, ltb-true n l e)
    go false e ih = omega (arith, sum, ltb-false n l e)

pub heard_fit : (ceiling : ℕ) (s : Session) → ceiling ≤ 15 → Accounts ceiling s → Small s.came → s.closed ≡ false → length (items s.came) - s.taken ≤ 3825
heard_fit c s i ac sm q =
    let h : held_slots s ≡ held_from s.taken s.came = ap (λ b. cond b 0 (held_from s.taken s.came)) q in
    omega (arith, waiting_held s.taken s.came sm, h, ac.gives, ac.spent)
