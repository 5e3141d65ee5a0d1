-- Who is chosen for a service, and who isn't.
use Rattle.std.proofs.Common.{◌≡◌, ◌≢◌, ℕ, zero, suc, ◌+◌, ◌*◌, ◌/◌, ◌%◌, ◌^◌, ◌<◌, ◌≤◌, ◌⊎◌, inl, inr, ⊎_elim, arith, refl, sym, ap, ◌∙◌, subst, Bool, true, false, cond, ◌&&◌, ◌||◌, List, [], ◌∷◌, ◌++◌, Option, Some, None, nat_eq, nat_lt, eqb-true, ltb-true, filter}
use Rattle.std.proofs.lemmas.Cmp.{nat_list_eq_equiv}
use Rattle.std.proofs.lemmas.Bool.{and_parts, or_parts, or_cases, true≢false, false≢true, eqb-false, ltb-false}
use Rattle.std.proofs.Math.Nat.{div-div-eq-div-mul, div-one, pow-succ'}
use Rattle.lat_model.specs.Lists.{is_empty, Each}
use Rattle.lat_model.proofs.numbers.Net.{each_imp}
use Rattle.lat_machines.specs.values.Names.{Name, folded, same, is_before}
use Rattle.lat_machines.specs.values.Notices.{Announcement}
use Rattle.lat_machines.specs.server.Directory.{HeardAnnouncement, share_bits, share_group, meets, of_node, any_of, latest, is_live, live, Best, rating_of, offer_of, beats, better, best_in}
use Rattle.lat_laws.specs.habits.Chosen.{SharesGroup, IsNoBetter, IsChosen, ChosenAreWilling, NoneIsWilling, IsLatest, UnwillingAreNotChosen}
use Rattle.lat_laws.proofs.habits.Orders.{before_none, behind_through, behind_back}

-- masks

-- two bytes that share a bit
abbrev SharesBit : ℕ → ℕ → ℕ → Type 0
SharesBit n x y = (i : ℕ) × (i < n) × (x / 2 ^ i % 2 ≡ 1) × (y / 2 ^ i % 2 ≡ 1)

bits_at : (n x y : ℕ) → share_bits n x y ≡ true → SharesBit n x y
bits_at zero x y q = absurd (false≢true q)
bits_at (suc n) x y q = ⊎_elim {C = SharesBit (suc n) x y} first (λ r. later (bits_at n (x / 2) (y / 2) r)) (or_cases (nat_eq (x % 2) 1 && nat_eq (y % 2) 1) (share_bits n (x / 2) (y / 2)) q)
  where
    low : (z : ℕ) → nat_eq (z % 2) 1 ≡ true → z / 2 ^ 0 % 2 ≡ 1
    low z r = ap (λ w. w % 2) (div-one z) ∙ eqb-true (z % 2) 1 r

    first : (nat_eq (x % 2) 1 && nat_eq (y % 2) 1) ≡ true → SharesBit (suc n) x y
    first r = (let p : (nat_eq (x % 2) 1 ≡ true) × (nat_eq (y % 2) 1 ≡ true) = and_parts (nat_eq (x % 2) 1) (nat_eq (y % 2) 1) r in (0, omega arith, low x p.0, low y p.1))

    high : (i z : ℕ) → z / 2 / 2 ^ i % 2 ≡ 1 → z / 2 ^ suc i % 2 ≡ 1
    high i z r = ap (λ w. z / w % 2) (pow-succ' 2 i) ∙ (ap (λ w. w % 2) (sym (div-div-eq-div-mul z 2 (2 ^ i))) ∙ r)

    later : SharesBit n (x / 2) (y / 2) → SharesBit (suc n) x y
    later r = (let l : r.0 < n = r.1 in (suc r.0, omega (arith, l), high r.0 x r.2, high r.0 y r.3))

group_at : (xs ys : List ℕ) → share_group xs ys ≡ true → SharesGroup xs ys
group_at [] ys q = absurd (false≢true q)
group_at (x ∷ xs) [] q = absurd (false≢true q)
group_at (x ∷ xs) (y ∷ ys) q = ⊎_elim {C = SharesGroup (x ∷ xs) (y ∷ ys)} first (λ r. later (group_at xs ys r)) (or_cases (share_bits 8 x y) (share_group xs ys) q)
  where
    first : share_bits 8 x y ≡ true → SharesGroup (x ∷ xs) (y ∷ ys)
    first r = (let s : SharesBit 8 x y = bits_at 8 x y r in record { byte = 0; bit = s.0; within = s.1; announced = s.2; listened = s.3 })

    later : SharesGroup xs ys → SharesGroup (x ∷ xs) (y ∷ ys)
    later s = record { byte = suc s.byte; bit = s.bit; within = s.within; announced = s.announced; listened = s.listened }

meets_in : (groups : List ℕ) (a : Announcement) → meets groups a ≡ true → (a.groups ≡ []) ⊎ (SharesGroup a.groups groups)
meets_in groups a q = ⊎_elim {C = (a.groups ≡ []) ⊎ (SharesGroup a.groups groups)} (λ r. inl (none a.groups r)) (λ r. inr (group_at a.groups groups r)) (or_cases (is_empty a.groups) (share_group a.groups groups) q)
  where
    none : (xs : List ℕ) → is_empty xs ≡ true → xs ≡ []
    none [] r = refl
    none (x ∷ xs) r = absurd (false≢true r)

-- the latest announcements of all nodes

abbrev IsIn : HeardAnnouncement → List HeardAnnouncement → Type 0
IsIn e [] = ⊥
IsIn e (x ∷ xs) = (e ≡ x) ⊎ IsIn e xs

in_filter : (test : HeardAnnouncement → Bool) (e : HeardAnnouncement) (xs : List HeardAnnouncement) → IsIn e (filter test xs) → IsIn e xs × (test e ≡ true)
in_filter test e [] i = absurd i
in_filter test e (x ∷ xs) i = go (test x) refl (in_filter test e xs) i
  where
    go : (b : Bool) → test x ≡ b → (IsIn e (filter test xs) → IsIn e xs × (test e ≡ true)) → IsIn e (cond b (x ∷ filter test xs) (filter test xs)) → IsIn e (x ∷ xs) × (test e ≡ true)
    go true q r j = ⊎_elim {C = IsIn e (x ∷ xs) × (test e ≡ true)} (λ p. (inl p, ap test p ∙ q)) (λ p. (inr (r p).0, (r p).1)) j
    go false q r j = (inr (r j).0, (r j).1)

record Stands (h : List HeardAnnouncement) (e : HeardAnnouncement) : Type 0 where
  pub before : List HeardAnnouncement
  pub after : List HeardAnnouncement
  pub among : h ≡ before ++ e ∷ after
  pub latest : IsLatest e after

in_latest : (h : List HeardAnnouncement) (e : HeardAnnouncement) → IsIn e (latest h) → Stands h e
in_latest [] e i = absurd i
in_latest (x ∷ xs) e i = go (any_of x.announcement.node xs) refl (in_latest xs e) i
  where
    later : Stands xs e → Stands (x ∷ xs) e
    later s = record { before = x ∷ s.before; after = s.after; among = ap (λ z. x ∷ z) s.among; latest = s.latest }

    here : any_of x.announcement.node xs ≡ false → e ≡ x → Stands (x ∷ xs) e
    here q p = record { before = []; after = xs; among = ap (λ z. z ∷ xs) (sym p); latest = ap (λ (z : HeardAnnouncement). any_of z.announcement.node xs) p ∙ q }

    go : (b : Bool) → any_of x.announcement.node xs ≡ b → (IsIn e (latest xs) → Stands xs e) → IsIn e (cond b (latest xs) (x ∷ latest xs)) → Stands (x ∷ xs) e
    go true q r j = later (r j)
    go false q r j = ⊎_elim {C = Stands (x ∷ xs) e} (here q) (λ p. later (r p)) j

-- the best of some announcements

abbrev rates : Name → HeardAnnouncement → ℕ
rates service e = rating_of service e.announcement.services

record Offers (service : Name) (b : Best) (es : List HeardAnnouncement) : Type 0 where
  pub entry : HeardAnnouncement
  pub among : IsIn entry es
  pub offer : offer_of service entry ≡ b
  pub some : rates service entry ≢ 0

best_offers : (service : Name) (b : Best) (es : List HeardAnnouncement) → best_in service es ≡ Some b → Offers service b es
best_offers service b [] q = let z : ⊥ = cc in absurd z
best_offers service b (e ∷ es) q = go (nat_eq (rates service e) 0) refl (best_in service es) (best_offers service b es) q
  where
    later : Offers service b es → Offers service b (e ∷ es)
    later o = record { entry = o.entry; among = inr o.among; offer = o.offer; some = o.some }

    here : rates service e ≢ 0 → offer_of service e ≡ b → Offers service b (e ∷ es)
    here n p = record { entry = e; among = inl refl; offer = p; some = n }

    either : (n : Bool) (y : Best) → rates service e ≢ 0 → (Some y ≡ Some b → Offers service b es) → cond n (Some y) (Some (offer_of service e)) ≡ Some b → Offers service b (e ∷ es)
    either true y n r p = later (r p)
    either false y n r p = here n (let z : offer_of service e ≡ b = cc in z)

    go : (n : Bool) → nat_eq (rates service e) 0 ≡ n → (o : Option Best) → (o ≡ Some b → Offers service b es) → cond n o (better (offer_of service e) o) ≡ Some b → Offers service b (e ∷ es)
    go true i o r p = later (r p)
    go false i None r p = here (eqb-false (rates service e) 0 i) (let z : offer_of service e ≡ b = cc in z)
    go false i (Some y) r p = either (beats y (offer_of service e)) y (eqb-false (rates service e) 0 i) r p

-- what isn't better than what was the best so far
abbrev IsBelow : Name → Option Best → HeardAnnouncement → Type 0
IsBelow service None e = rates service e ≡ 0
IsBelow service (Some b) e = IsNoBetter service b e

-- one that is beaten, or rated 0, doesn't change the best
beaten : (service : Name) (y : Best) (e : HeardAnnouncement) → beats y (offer_of service e) ≡ true → IsNoBetter service y e
beaten service y e q = ⊎_elim {C = IsNoBetter service y e} (λ r. inl (ltb-true (rates service e) y.rating r)) alike (or_cases (nat_lt (rates service e) y.rating) (nat_eq y.rating (rates service e) && is_before (folded y.node) (folded e.announcement.node)) q)
  where
    alike : (nat_eq y.rating (rates service e) && is_before (folded y.node) (folded e.announcement.node)) ≡ true → IsNoBetter service y e
    alike r =
        let p : (nat_eq y.rating (rates service e) ≡ true) × (is_before (folded y.node) (folded e.announcement.node) ≡ true) = and_parts (nat_eq y.rating (rates service e)) (is_before (folded y.node) (folded e.announcement.node)) r in
        inr (sym (eqb-true y.rating (rates service e) p.0), behind_back (folded y.node) (folded e.announcement.node) p.1)

-- and what was no better than one that doesn't beat it is no better than it
still_below : (service : Name) (y : Best) (e x : HeardAnnouncement) → beats y (offer_of service e) ≡ false → IsNoBetter service y x → IsNoBetter service (offer_of service e) x
still_below service y e x q = ⊎_elim {C = IsNoBetter service (offer_of service e) x} lower alike
  where
    p : (nat_lt (rates service e) y.rating ≡ false) × ((nat_eq y.rating (rates service e) && is_before (folded y.node) (folded e.announcement.node)) ≡ false)
    p = or_parts (nat_lt (rates service e) y.rating) (nat_eq y.rating (rates service e) && is_before (folded y.node) (folded e.announcement.node)) q

    l : y.rating ≤ rates service e
    l = ltb-false (rates service e) y.rating p.0

    lower : rates service x < y.rating → IsNoBetter service (offer_of service e) x
    lower r = inl (omega (arith, r, l))

    alike : (rates service x ≡ y.rating) × (is_before (folded x.announcement.node) (folded y.node) ≡ false) → IsNoBetter service (offer_of service e) x
    alike r = go (nat_eq y.rating (rates service e)) refl
      where
        go : (b : Bool) → nat_eq y.rating (rates service e) ≡ b → IsNoBetter service (offer_of service e) x
        go true i = inr (r.0 ∙ eqb-true y.rating (rates service e) i, behind_through (folded x.announcement.node) (folded y.node) (folded e.announcement.node) r.1 (ap (λ b. b && is_before (folded y.node) (folded e.announcement.node)) (sym i) ∙ p.1))
        go false i = (let n : y.rating ≢ rates service e = eqb-false y.rating (rates service e) i in let a : rates service x ≡ y.rating = r.0 in inl (omega (arith, n, l, a)))

all_below : (service : Name) (es : List HeardAnnouncement) → Each (IsBelow service (best_in service es)) es
all_below service [] = tt
all_below service (e ∷ es) = go (nat_eq (rates service e) 0) refl (best_in service es) refl (all_below service es)
  where
    own : IsNoBetter service (offer_of service e) e
    own = inr (refl, before_none (folded e.announcement.node))

    by : (b : Bool) (y : Best) → beats y (offer_of service e) ≡ b → Each (IsNoBetter service y) es → Each (IsBelow service (cond b (Some y) (Some (offer_of service e)))) (e ∷ es)
    by true y q h = (beaten service y e q, h)
    by false y q h = (own, each_imp (IsNoBetter service y) (IsNoBetter service (offer_of service e)) (λ x. still_below service y e x q) es h)

    go : (b : Bool) → nat_eq (rates service e) 0 ≡ b → (o : Option Best) → best_in service es ≡ o → Each (IsBelow service o) es → Each (IsBelow service (cond b o (better (offer_of service e) o))) (e ∷ es)
    go true i None q h = (eqb-true (rates service e) 0 i, h)
    go true i (Some y) q h =
        let o : Offers service y es = best_offers service y es q in
        let n : rates service o.entry ≢ 0 = o.some in
        let r : rates service o.entry ≡ y.rating = ap (λ (z : Best). z.rating) o.offer in
        let z : rates service e ≡ 0 = eqb-true (rates service e) 0 i in
        (inl (omega (arith, n, r, z)), h)
    go false i None q h = (let n : rates service e ≢ 0 = eqb-false (rates service e) 0 i in (own, each_imp (λ x. rates service x ≡ 0) (IsNoBetter service (offer_of service e)) (λ x z. inl (omega (arith, n, z))) es h))
    go false i (Some y) q h = by (beats y (offer_of service e)) y refl h

pub none_willing : NoneIsWilling
none_willing groups service now heard q = subst (λ o. Each (IsBelow service o) (live groups now heard)) q (all_below service (live groups now heard))

pub chosen : ChosenAreWilling
chosen groups service now heard b q = record {
  before = s.before;
  entry = e;
  after = s.after;
  among = s.among;
  latest = s.latest;
  in_time = ltb-true now (e.at + 3000 * e.announcement.timer) p.1;
  reaches = meets_in groups e.announcement p.0;
  from = ap (λ (z : Best). z.from) (sym o.offer);
  node = ap (λ (z : Best). z.node) (sym o.offer);
  rating = rated;
  willing = above;
  highest = subst (λ z. Each (IsBelow service z) (live groups now heard)) q (all_below service (live groups now heard));
}
  where
    o : Offers service b (live groups now heard)
    o = best_offers service b (live groups now heard) q

    e : HeardAnnouncement
    e = o.entry

    i : IsIn e (latest heard) × (is_live groups now e ≡ true)
    i = in_filter (is_live groups now) e (latest heard) o.among

    s : Stands heard e
    s = in_latest heard e i.0

    p : (meets groups e.announcement ≡ true) × (nat_lt now (e.at + 3000 * e.announcement.timer) ≡ true)
    p = and_parts (meets groups e.announcement) (nat_lt now (e.at + 3000 * e.announcement.timer)) i.1

    rated : b.rating ≡ rating_of service e.announcement.services
    rated = ap (λ (z : Best). z.rating) (sym o.offer)

    above : 0 < b.rating
    above = (let n : rates service e ≢ 0 = o.some in omega (arith, n, rated))

-- who stands last with one name is one

same_turned : (a b : Name) → same a b ≡ same b a
same_turned a b = nat_list_eq_equiv.symm (folded a) (folded b)

-- what stands behind with this name is found
any_in : (node : Name) (xs ys : List HeardAnnouncement) (e : HeardAnnouncement) → of_node node e ≡ true → any_of node (xs ++ e ∷ ys) ≡ true
any_in node [] ys e q = ap (λ b. b || any_of node ys) q
any_in node (x ∷ xs) ys e q = ap (λ b. of_node node x || b) (any_in node xs ys e q) ∙ or_true (of_node node x)
  where
    or_true : (b : Bool) → b || true ≡ true
    or_true true = refl
    or_true false = refl

one_latest : (xs ys us vs : List HeardAnnouncement) (e f : HeardAnnouncement) → xs ++ e ∷ ys ≡ us ++ f ∷ vs → IsLatest e ys → IsLatest f vs → same f.announcement.node e.announcement.node ≡ true → e ≡ f
one_latest [] ys [] vs e f q p r s = cc
one_latest [] ys (u ∷ us) vs e f q p r s = (let z : ys ≡ us ++ f ∷ vs = cc in absurd (true≢false (sym (any_in e.announcement.node us vs f s) ∙ (ap (any_of e.announcement.node) (sym z) ∙ p))))
one_latest (x ∷ xs) ys [] vs e f q p r s = (let z : vs ≡ xs ++ e ∷ ys = cc in absurd (true≢false (sym (any_in f.announcement.node xs ys e (same_turned e.announcement.node f.announcement.node ∙ s)) ∙ (ap (any_of f.announcement.node) (sym z) ∙ r))))
one_latest (x ∷ xs) ys (u ∷ us) vs e f q p r s = (let z : xs ++ e ∷ ys ≡ us ++ f ∷ vs = cc in one_latest xs ys us vs e f z p r s)

pub unwilling : UnwillingAreNotChosen
unwilling groups service now before after e b l z q = go (same b.node e.announcement.node) refl
  where
    c : IsChosen groups service now (before ++ e ∷ after) b
    c = chosen groups service now (before ++ e ∷ after) b q

    none : same b.node e.announcement.node ≡ true → ⊥
    none s =
        let i : e ≡ c.entry = one_latest before after c.before c.after e c.entry c.among l c.latest (ap (λ n. same n e.announcement.node) (sym c.node) ∙ s) in
        let n : rating_of service c.entry.announcement.services ≡ 0 = ap (rates service) (sym i) ∙ z in
        omega (arith, c.willing, c.rating, n)

    go : (n : Bool) → same b.node e.announcement.node ≡ n → same b.node e.announcement.node ≡ false
    go true s = absurd (none s)
    go false s = s
