-- The book of a line tells its newest session; of a new session it is the present one, with the one before it.
use Rattle.std.proofs.Common.{◌≡◌, ℕ, suc, ◌+◌, ◌<◌, ◌⊎◌, inl, inr, ⊎_elim, refl, sym, ap, ap₂, ◌∙◌, subst, arith, Bool, true, false, not, cond, List, [], ◌∷◌, ◌++◌, length, Option, Some, None, nat_eq, eqb-true, eq-eqb}
use Rattle.lat_model.specs.Lists.{Each}
use Rattle.lat_machines.specs.cores.Cores.{Seat, no_seat, Core}
use Rattle.lat_machines.specs.cores.Lines.{over, last_on, seat_at, has_session}
use Rattle.lat_machines.specs.cores.Books.{LineSession, line_session, line_history, book_of, book}
use Rattle.lat_laws.specs.rounds.Seated.{IsSeat}
use Rattle.lat_laws.specs.tales.Rows.{newest_place}
use Rattle.lat_laws.specs.tales.Books.{newest_of, newest_info}
use Rattle.lat_laws.proofs.tales.seats.Sound.{Distinct, Sound, IsNew, seat_behind}
use Rattle.lat_laws.proofs.tales.rows.By.{distinct_apart}

append_nil : {A : Type 0} → (xs : List A) → xs ++ [] ≡ xs
append_nil [] = refl
append_nil (x ∷ xs) = ap (λ z. x ∷ z) (append_nil xs)

append_more : {A : Type 0} → (xs ys zs : List A) → (xs ++ ys) ++ zs ≡ xs ++ (ys ++ zs)
append_more [] ys zs = refl
append_more (x ∷ xs) ys zs = ap (λ z. x ∷ z) (append_more xs ys zs)

-- the history of a line, in two parts
history_more : (c : Core) (line n : ℕ) (xs ys : List Seat) → line_history c line n (xs ++ ys) ≡ line_history c line (n + length xs) ys ++ line_history c line n xs
history_more c line n [] ys = ap (λ z. line_history c line z ys) plus ∙ sym (append_nil (line_history c line (n + 0) ys))
  where
    plus : n ≡ n + 0
    plus = omega arith
history_more c line n (x ∷ xs) ys =
    ap (λ z. z ++ cond (nat_eq x.line line) (line_session c (suc n) x ∷ []) []) (history_more c line (suc n) xs ys ∙ ap (λ z. line_history c line z ys ++ line_history c line (suc n) xs) plus)
    ∙ append_more (line_history c line (n + suc (length xs)) ys) (line_history c line (suc n) xs) (cond (nat_eq x.line line) (line_session c (suc n) x ∷ []) [])
  where
    plus : suc n + length xs ≡ n + suc (length xs)
    plus = omega arith

history_none : (c : Core) (line n : ℕ) (xs : List Seat) → Each (λ (s : Seat). nat_eq s.line line ≡ false) xs → line_history c line n xs ≡ []
history_none c line n [] e = refl
history_none c line n (x ∷ xs) e = ap₂ (λ y b. y ++ cond b (line_session c (suc n) x ∷ []) []) (history_none c line (suc n) xs e.1) e.0

first_of : List LineSession → Option LineSession
first_of [] = None
first_of (x ∷ xs) = Some x

-- its first is the newest
record First (c : Core) (line n found : ℕ) (s : Seat) (xs : List Seat) (h : List LineSession) : Type 0 where
  pub rest : List LineSession
  pub first : h ≡ line_session c (newest_place line n found xs) (last_on line s xs) ∷ rest

history_first : (c : Core) (line n found : ℕ) (s : Seat) (xs : List Seat) → ((line_history c line n xs ≡ []) × (newest_place line n found xs ≡ found) × (last_on line s xs ≡ s)) ⊎ (First c line n found s xs (line_history c line n xs) × (n < newest_place line n found xs))
history_first c line n found s [] = inl (refl, refl, refl)
history_first c line n found s (x ∷ xs) = go (nat_eq x.line line) refl (history_first c line (suc n) (cond (nat_eq x.line line) (suc n) found) (cond (nat_eq x.line line) x s) xs)
  where
    k : ℕ
    k = newest_place line n found (x ∷ xs)

    l : Seat
    l = last_on line s (x ∷ xs)

    own : List LineSession
    own = cond (nat_eq x.line line) (line_session c (suc n) x ∷ []) []

    go : (b : Bool) → nat_eq x.line line ≡ b → ((line_history c line (suc n) xs ≡ []) × (k ≡ cond (nat_eq x.line line) (suc n) found) × (l ≡ cond (nat_eq x.line line) x s)) ⊎ (First c line (suc n) (cond (nat_eq x.line line) (suc n) found) (cond (nat_eq x.line line) x s) xs (line_history c line (suc n) xs) × (suc n < k)) → ((line_history c line n (x ∷ xs) ≡ []) × (k ≡ found) × (l ≡ s)) ⊎ (First c line n found s (x ∷ xs) (line_history c line n (x ∷ xs)) × (n < k))
    go b q (inr r) = inr (record { rest = r.0.rest ++ own; first = ap (λ z. z ++ own) r.0.first }, omega (arith, r.1))
    go true q (inl r) =
        let a : k ≡ suc n = r.1 ∙ ap (λ b. cond b (suc n) found) q in
        let e : l ≡ x = r.2 ∙ ap (λ b. cond b x s) q in
        inr (record { rest = []; first = ap₂ (λ y b. y ++ cond b (line_session c (suc n) x ∷ []) []) r.0 q ∙ ap₂ (λ y z. line_session c y z ∷ []) (sym a) (sym e) }, omega (arith, a))
    go false q (inl r) = inl (ap₂ (λ y b. y ++ cond b (line_session c (suc n) x ∷ []) []) r.0 q, r.1 ∙ ap (λ b. cond b (suc n) found) q, r.2 ∙ ap (λ b. cond b x s) q)

first_is_newest : (c : Core) (line : ℕ) (xs : List Seat) → first_of (line_history c line 0 xs) ≡ newest_of c line xs
unfolding first_of
first_is_newest c line xs = ⊎_elim {C = first_of (line_history c line 0 xs) ≡ newest_of c line xs}
    (λ z. ap first_of z.0 ∙ sym (ap (λ b. cond b None (Some (line_session c (newest_place line 0 0 xs) (last_on line no_seat xs)))) (eq-eqb (newest_place line 0 0 xs) 0 z.1)))
    (λ z. ap first_of z.0.first ∙ sym (ap (λ b. cond b None (Some (line_session c (newest_place line 0 0 xs) (last_on line no_seat xs)))) (some (newest_place line 0 0 xs) z.1)))
    (history_first c line 0 0 no_seat xs)
  where
    some : (k : ℕ) → 0 < k → nat_eq k 0 ≡ false
    some k l = go (nat_eq k 0) refl
      where
        go : (b : Bool) → nat_eq k 0 ≡ b → nat_eq k 0 ≡ false
        go true q = absurd (let e : k ≡ 0 = eqb-true k 0 q in omega (arith, e, l))
        go false q = q

-- the newest session of a line is told by its book
pub book_newest : (c : Core) (line : ℕ) → newest_info (book c line) ≡ newest_of c line c.seats
unfolding first_of
book_newest c line = told (has_session c line) (line_history c line 0 c.seats) ∙ first_is_newest c line c.seats
  where
    told : (b : Bool) (xs : List LineSession) → newest_info (book_of b xs) ≡ first_of xs
    told b [] = refl
    told true (x ∷ []) = refl
    told true (x ∷ y ∷ xs) = refl
    told false (x ∷ xs) = refl

-- a new session: those behind it are of other lines

module _ (m : Bool) (lines : ℕ) (d : Core) (h : Sound m lines d) (before ss : List Seat) (s : Seat) (q : d.seats ≡ before ++ s ∷ ss) (new : IsNew d s) where
  is_seat : IsSeat s d.seats
  is_seat = subst (IsSeat s) (sym q) (seat_behind s before (s ∷ ss) (inl refl))

  newest : seat_at d s.line ≡ s
  newest = h.seated.last s is_seat new.held

  split : (xs ys : List Seat) → xs ++ s ∷ ys ≡ (xs ++ s ∷ []) ++ ys
  split [] ys = refl
  split (x ∷ xs) ys = ap (λ z. x ∷ z) (split xs ys)

  last_through : (line : ℕ) (t : Seat) (xs ys : List Seat) → last_on line t (xs ++ ys) ≡ last_on line (last_on line t xs) ys
  last_through line t [] ys = refl
  last_through line t (x ∷ xs) ys = last_through line (cond (nat_eq x.line line) x t) xs ys

  last_or : (line : ℕ) (t : Seat) (ys : List Seat) → Each (λ (y : Seat). nat_eq y.line line ≡ false) ys ⊎ IsSeat (last_on line t ys) ys
  last_or line t [] = inl tt
  last_or line t (y ∷ ys) = go (nat_eq y.line line) refl (last_or line t ys) (last_or line y ys) (last_is line y ys)
    where
      last_is : (line : ℕ) (t : Seat) (zs : List Seat) → (last_on line t zs ≡ t) ⊎ IsSeat (last_on line t zs) zs
      last_is line t [] = inl refl
      last_is line t (z ∷ zs) = by (nat_eq z.line line) (last_is line t zs) (last_is line z zs)
        where
          by : (b : Bool) → (last_on line t zs ≡ t) ⊎ IsSeat (last_on line t zs) zs → (last_on line z zs ≡ z) ⊎ IsSeat (last_on line z zs) zs → (last_on line (cond b z t) zs ≡ t) ⊎ ((last_on line (cond b z t) zs ≡ z) ⊎ IsSeat (last_on line (cond b z t) zs) zs)
          by true a (inl b) = inr (inl b)
          by true a (inr b) = inr (inr b)
          by false (inl a) b = inl a
          by false (inr a) b = inr (inr a)

      go : (b : Bool) → nat_eq y.line line ≡ b → Each (λ (z : Seat). nat_eq z.line line ≡ false) ys ⊎ IsSeat (last_on line t ys) ys → Each (λ (z : Seat). nat_eq z.line line ≡ false) ys ⊎ IsSeat (last_on line y ys) ys → (last_on line y ys ≡ y) ⊎ IsSeat (last_on line y ys) ys → Each (λ (z : Seat). nat_eq z.line line ≡ false) (y ∷ ys) ⊎ ((last_on line (cond b y t) ys ≡ y) ⊎ IsSeat (last_on line (cond b y t) ys) ys)
      go true e a b (inl c) = inr (inl c)
      go true e a b (inr c) = inr (inr c)
      go false e (inl a) b c = inl (e, a)
      go false e (inr a) b c = inr (inr a)

  -- no session behind it is of its line
  pub none_behind : Each (λ (y : Seat). nat_eq y.line s.line ≡ false) ss
  none_behind = ⊎_elim {C = Each (λ (y : Seat). nat_eq y.line s.line ≡ false) ss} (λ z. z) (λ z. absurd (again z)) (last_or s.line (last_on s.line no_seat (before ++ s ∷ [])) ss)
    where
      again : IsSeat (last_on s.line (last_on s.line no_seat (before ++ s ∷ [])) ss) ss → ⊥
      again i =
          let whole : d.seats ≡ (before ++ s ∷ []) ++ ss = q ∙ split before ss in
          let same : last_on s.line (last_on s.line no_seat (before ++ s ∷ [])) ss ≡ s = sym (last_through s.line no_seat (before ++ s ∷ []) ss) ∙ (ap (last_on s.line no_seat) (sym whole) ∙ newest) in
          distinct_apart (before ++ s ∷ []) ss s s (subst Distinct whole h.rest.distinct) (seat_behind s before (s ∷ []) (inl refl)) (subst (λ y. IsSeat y ss) same i) refl refl

  history : line_history d s.line 0 d.seats ≡ line_session d (suc (length before)) s ∷ line_history d s.line 0 before
  history =
      ap (line_history d s.line 0) q
      ∙ (history_more d s.line 0 before (s ∷ ss)
      ∙ ap (λ z. z ++ line_history d s.line 0 before) (ap₂ (λ y b. y ++ cond b (line_session d (suc (0 + length before)) s ∷ []) []) (history_none d s.line (suc (0 + length before)) ss none_behind) (eq-eqb s.line s.line refl) ∙ ap (λ z. line_session d (suc z) s ∷ []) plus))
    where
      plus : 0 + length before ≡ length before
      plus = omega arith

  -- its book tells it as the present one, and the newest before it as the last
  pub book_of_new : book d s.line ≡ record { present = Some (line_session d (suc (length before)) s); last = newest_of d s.line before }
  unfolding first_of
  book_of_new =
      ap₂ book_of (ap (λ z. not (over d z)) newest ∙ ap not new.held) history
      ∙ (both (line_history d s.line 0 before) ∙ ap (λ z. record { present = Some (line_session d (suc (length before)) s); last = z }) (first_is_newest d s.line before))
    where
      both : (xs : List LineSession) → book_of true (line_session d (suc (length before)) s ∷ xs) ≡ record { present = Some (line_session d (suc (length before)) s); last = first_of xs }
      both [] = refl
      both (x ∷ xs) = refl
