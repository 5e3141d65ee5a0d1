-- No more items wait than a Take of 4,096 takes.
use Rattle.std.proofs.Common.{◌≡◌, ℕ, ◌+◌, ◌*◌, ◌-◌, ◌≤◌, sym, ap, ◌∙◌, refl, subst, arith, Bool, true, false, cond, List, [], ◌∷◌, ◌++◌, length, map, nat_eq, nat_lt, eqb-true, length-append, ltb-true, ltb-false}
use Rattle.std.proofs.lemmas.Bool.{eqb-false}
use Rattle.lat_model.specs.sessions.Slots.{Byte, Slot, Start, DataA, DataB, Attention, Reject, Stop, items_of, items}
use Rattle.lat_model.specs.sessions.Session.{Session, held_from}
use Rattle.lat_model.specs.sessions.Sessions.{Sessions, of_generation}
use Rattle.lat_model.specs.sessions.Packing.{TaggedSlot}
use Rattle.lat_model.specs.Lists.{Each}
use Rattle.lat_model.specs.sessions.EndOk.{EndOk, Accounts, Small}
use Rattle.lat_model.specs.sessions.Joined.{Joined, slots_of}
use Rattle.lat_laws.specs.rounds.Plain.{Neat, Plain}

bytes_long : (bs : List ℕ) → length (map Byte bs) ≡ length bs
bytes_long [] = refl
bytes_long (b ∷ bs) = omega (arith, bytes_long bs)

neat_one : (x : Slot) → Neat x → length (items_of x) ≤ 255
neat_one (Start to from c size service request) n = omega arith
neat_one (DataA to from c bytes) n = omega (arith, n, bytes_long bytes)
neat_one (DataB to from c setting) n = omega arith
neat_one (Attention to from flag) n = omega arith
neat_one (Reject to from reason) n = omega arith
neat_one (Stop to from reason) n = omega arith

neat_small : (xs ys : List Slot) → Each Neat (xs ++ ys) → Small xs
neat_small [] ys e = tt
neat_small (x ∷ xs) ys e = (neat_one x e.0, neat_small xs ys e.1)

-- what is held bounds what waits
held_most : (n : ℕ) (xs : List Slot) → Small xs → length (items xs) ≤ n + 255 * held_from n xs
held_most n [] h = omega arith
held_most n (x ∷ xs) h = go (nat_lt n (length (items_of x))) refl (held_most (n - length (items_of x)) xs h.1)
  where
    l : ℕ
    l = length (items_of x)

    all : length (items (x ∷ xs)) ≡ l + length (items xs)
    all = length-append (items_of x) (items xs)

    go : (b : Bool) → nat_lt n l ≡ b → length (items xs) ≤ (n - l) + 255 * held_from (n - l) xs → length (items (x ∷ xs)) ≤ n + 255 * (cond b 1 0 + held_from (n - l) xs)
    go true q rest = omega (arith, rest, all, h.0, ltb-true n l q)
    go false q rest = omega (arith, rest, all, ltb-false n l q)

-- what waits at a session that is still open
abbrev pub Waits_few : Session → Type 0
Waits_few s = s.closed ≡ false → length (items s.came) ≤ s.taken + 4096

waits_few : (ceiling : ℕ) (s : Session) → ceiling ≤ 15 → Accounts ceiling s → Small s.came → Waits_few s
waits_few ceiling s c a h q =
    let e : cond s.closed 0 (held_from s.taken s.came) ≡ held_from s.taken s.came = ap (λ b. cond b 0 (held_from s.taken s.came)) q in
    omega (arith, c, a.gives, a.spent, e, held_most s.taken s.came h)

came_small : (e o : Sessions) (back : List TaggedSlot) → EndOk e → Plain o → ((k : ℕ) → (e.session k).generation ≡ 0 → (e.session k).came ≡ []) → ((g : ℕ) → (of_generation o g).out ≡ (of_generation e g).came ++ slots_of g back) → (k : ℕ) → Small (e.session k).came
came_small e o back ok q quiet flow k = go (nat_eq (e.session k).generation 0) refl
  where
    go : (b : Bool) → nat_eq (e.session k).generation 0 ≡ b → Small (e.session k).came
    go true w = subst Small (sym (quiet k (eqb-true (e.session k).generation 0 w))) tt
    go false w =
        let g : ℕ = (e.session k).generation in
        let named : of_generation e g ≡ e.session k = ap e.session (ok.serial_found k (eqb-false g 0 w)) in
        let out : (of_generation o g).out ≡ (e.session k).came ++ slots_of g back = flow g ∙ ap (λ (z : Session). z.came ++ slots_of g back) named in
        neat_small (e.session k).came (slots_of g back) (subst (λ z. Each Neat z) out (q.each (o.serial_of g)).neat)

pub few_master : (m s : Sessions) (up down : List TaggedSlot) → Joined m s up down → Plain s → m.ceiling ≤ 15 → (k : ℕ) → Waits_few (m.session k)
few_master m s up down j q c k = waits_few m.ceiling (m.session k) c (j.master_ok.accounts k) (came_small m s down j.master_ok q j.quiet_up j.flow_down.at_generation k)

pub few_slave : (m s : Sessions) (up down : List TaggedSlot) → Joined m s up down → Plain m → s.ceiling ≤ 15 → (k : ℕ) → Waits_few (s.session k)
few_slave m s up down j q c k = waits_few s.ceiling (s.session k) c (j.slave_ok.accounts k) (came_small s m up j.slave_ok q j.quiet_down j.flow_up.at_generation k)
