-- The new sessions of a move are of different lines, and stand in the books of these.
use Rattle.std.proofs.Common.{◌≡◌, ℕ, zero, suc, ◌<◌, ◌≤◌, inl, refl, sym, inr, ap, ◌∙◌, subst, arith, Bool, true, false, not, cond, ◌&&◌, List, [], ◌∷◌, ◌++◌, length, drop, Option, Some, None, nat_eq, nat_lt, nat_le, eqb-true, slice_get}
use Rattle.std.proofs.lemmas.Bool.{eqb-false, ltb-true, leb-true}
use Rattle.std.proofs.Math.Seq.{drop-append_seam}
use Rattle.lat_model.specs.Lists.{Each}
use Rattle.lat_machines.specs.values.Events.{Event, Hears, is_heard}
use Rattle.lat_machines.specs.cores.Cores.{Seat, Core}
use Rattle.lat_machines.specs.cores.Lines.{line_exists}
use Rattle.lat_machines.specs.world.Machines.{Setups, Posted, Machines, core_of, Move, Does, HearsFrame, HearsForeign, tell, is_for_other, heard_as, counted, marked_delivered, comes, is_own, happens, run, open_machines}
use Rattle.lat_machines.specs.world.Safe.{Fit}
use Rattle.lat_laws.specs.rounds.Seated.{IsSeat}
use Rattle.lat_laws.specs.tales.Keeping.{new_seats}
use Rattle.lat_laws.specs.tales.Books.{InBooks, CoreGrows, lines_at}
use Rattle.lat_laws.proofs.tales.seats.Sound.{Sound, IsNew, seat_behind}
use Rattle.lat_laws.proofs.tales.seats.Told.{server_tale, node_tale}
use Rattle.lat_laws.proofs.tales.mates.Reach.{BothSound, reach_run, marked_sound}
use Rattle.lat_laws.proofs.tales.rows.Books.{none_behind, book_of_new}

-- seats of different lines, each from 1 to some bound

abbrev Differ : List Seat → Type 0
Differ [] = Unit {0}
Differ (s ∷ ss) = Each (λ (y : Seat). nat_eq y.line s.line ≡ false) ss × Differ ss

abbrev Within : ℕ → Seat → Type 0
Within n s = (0 < s.line) × (s.line ≤ n)

-- without those of one line
abbrev others : ℕ → List Seat → List Seat
others n [] = []
others n (s ∷ ss) = cond (nat_eq s.line n) (others n ss) (s ∷ others n ss)

others_each : (P : Seat → Type 0) (n : ℕ) (ss : List Seat) → Each P ss → Each P (others n ss)
others_each P n [] h = tt
others_each P n (s ∷ ss) h = go (nat_eq s.line n) (others_each P n ss h.1)
  where
    go : (b : Bool) → Each P (others n ss) → Each P (cond b (others n ss) (s ∷ others n ss))
    go true r = r
    go false r = (h.0, r)

others_differ : (n : ℕ) (ss : List Seat) → Differ ss → Differ (others n ss)
others_differ n [] h = tt
others_differ n (s ∷ ss) h = go (nat_eq s.line n) (others_differ n ss h.1)
  where
    go : (b : Bool) → Differ (others n ss) → Differ (cond b (others n ss) (s ∷ others n ss))
    go true r = r
    go false r = (others_each (λ (y : Seat). nat_eq y.line s.line ≡ false) n ss h.0, r)

others_all : (n : ℕ) (ss : List Seat) → Each (λ (y : Seat). nat_eq y.line n ≡ false) ss → others n ss ≡ ss
others_all n [] h = refl
others_all n (s ∷ ss) h = ap (λ b. cond b (others n ss) (s ∷ others n ss)) h.0 ∙ ap (λ z. s ∷ z) (others_all n ss h.1)

others_few : (n : ℕ) (ss : List Seat) → Differ ss → length ss ≤ suc (length (others n ss))
others_few n [] h = omega arith
others_few n (s ∷ ss) h = go (nat_eq s.line n) refl (others_few n ss h.1)
  where
    go : (b : Bool) → nat_eq s.line n ≡ b → length ss ≤ suc (length (others n ss)) → suc (length ss) ≤ suc (length (cond b (others n ss) (s ∷ others n ss)))
    go true q r =
        let e : s.line ≡ n = eqb-true s.line n q in
        let same : length (others n ss) ≡ length ss = ap length (others_all n ss (subst (λ z. Each (λ (y : Seat). nat_eq y.line z ≡ false) ss) e h.0)) in
        omega (arith, same)
    go false q r = omega (arith, r)

others_within : (n : ℕ) (ss : List Seat) → Each (Within (suc n)) ss → Each (Within n) (others (suc n) ss)
others_within n [] h = tt
others_within n (s ∷ ss) h = go (nat_eq s.line (suc n)) refl (others_within n ss h.1)
  where
    go : (b : Bool) → nat_eq s.line (suc n) ≡ b → Each (Within n) (others (suc n) ss) → Each (Within n) (cond b (others (suc n) ss) (s ∷ others (suc n) ss))
    go true q r = r
    go false q r = ((h.0.0, below s.line n h.0.1 (eqb-false s.line (suc n) q)), r)
      where
        below : (a n : ℕ) → a ≤ suc n → (a ≡ suc n → ⊥) → a ≤ n
        below a n l z = leq (nat_le a n) refl
          where
            leq : (b : Bool) → nat_le a n ≡ b → a ≤ n
            leq true q = leb-true a n q
            leq false q = omega (arith, l, z)

few : (n : ℕ) (ss : List Seat) → Differ ss → Each (Within n) ss → length ss ≤ n
few n [] d h = omega arith
few zero (s ∷ ss) d h = absurd (let a : 0 < s.line = h.0.0 in let b : s.line ≤ 0 = h.0.1 in omega (arith, a, b))
few (suc n) (s ∷ ss) d h =
    let a : length (s ∷ ss) ≤ suc (length (others (suc n) (s ∷ ss))) = others_few (suc n) (s ∷ ss) d in
    let b : length (others (suc n) (s ∷ ss)) ≤ n = few n (others (suc n) (s ∷ ss)) (others_differ (suc n) (s ∷ ss) d) (others_within n (s ∷ ss) h) in
    omega (arith, a, b)

-- the sessions that an event made

line_within : (lines : ℕ) (s : Seat) → line_exists lines s.line ≡ true → Within lines s
line_within lines s h = go (nat_lt 0 s.line) refl (nat_le s.line lines) refl h
  where
    go : (a : Bool) → nat_lt 0 s.line ≡ a → (b : Bool) → nat_le s.line lines ≡ b → (a && b) ≡ true → (0 < s.line) × (s.line ≤ lines)
    go true p true q h = (ltb-true 0 s.line p, leb-true s.line lines q)
    go false p b q h = let z : ⊥ = cc in absurd z
    go true p false q h = let z : ⊥ = cc in absurd z

module _ (m : Bool) (lines : ℕ) (d : Core) (h : Sound m lines d) where
  new_differ : (before ss : List Seat) → d.seats ≡ before ++ ss → Each (IsNew d) ss → Differ ss
  new_differ before [] q n = tt
  new_differ before (s ∷ ss) q n = (none_behind m lines d h before ss s q n.0, new_differ (before ++ s ∷ []) ss (q ∙ split before ss) n.1)
    where
      split : (xs ys : List Seat) → xs ++ s ∷ ys ≡ (xs ++ s ∷ []) ++ ys
      split [] ys = refl
      split (x ∷ xs) ys = ap (λ z. x ∷ z) (split xs ys)

  new_books : (before ss : List Seat) → d.seats ≡ before ++ ss → Each (IsNew d) ss → InBooks d before ss
  new_books before [] q n = tt
  new_books before (s ∷ ss) q n = (book_of_new m lines d h before ss s q n.0, new_books (before ++ s ∷ []) ss (q ∙ split before ss) n.1)
    where
      split : (xs ys : List Seat) → xs ++ s ∷ ys ≡ (xs ++ s ∷ []) ++ ys
      split [] ys = refl
      split (x ∷ xs) ys = ap (λ z. x ∷ z) (split xs ys)

  new_within : (before ss : List Seat) → d.seats ≡ before ++ ss → Each (Within lines) ss
  new_within before ss q = each ss (λ s i. line_within lines s (h.seated.placed s (subst (IsSeat s) (sym q) (seat_behind s before ss i))).line)
    where
      each : (xs : List Seat) → ((s : Seat) → IsSeat s xs → Within lines s) → Each (Within lines) xs
      each [] f = tt
      each (x ∷ xs) f = (f x (inl refl), each xs (λ s i. f s (inr i)))

  new_comes : (c : Core) (more : List Seat) → d.seats ≡ c.seats ++ more → Each (IsNew d) more → CoreGrows lines c d
  new_comes c more q n = record {
    behind = q ∙ ap (λ z. c.seats ++ z) (sym new);
    few = subst (λ z. length z ≤ lines) (sym new) (few lines more (new_differ c.seats more q n) (new_within c.seats more q));
    books = subst (InBooks d c.seats) (sym new) (new_books c.seats more q n);
  }
    where
      new : new_seats c d ≡ more
      new = ap (drop (length c.seats)) q ∙ drop-append_seam c.seats more

same_comes : (m : Bool) (lines : ℕ) (c : Core) → Sound m lines c → CoreGrows lines c c
same_comes m lines c h = new_comes m lines c h c [] (sym (append_nil c.seats)) tt
  where
    append_nil : (xs : List Seat) → xs ++ [] ≡ xs
    append_nil [] = refl
    append_nil (x ∷ xs) = ap (λ z. x ∷ z) (append_nil xs)

-- a move

abbrev Comer : Setups → Machines → Machines → Type 0
Comer u w x = (server : Bool) → CoreGrows (lines_at server u) (core_of w server) (core_of x server)

stay_comes : (u : Setups) (w : Machines) → BothSound u w → Comer u w w
stay_comes u w h true = same_comes true u.server.lines w.server.core h.server
stay_comes u w h false = same_comes false u.node.lines w.node.core h.node

tell_comes : (u : Setups) (w : Machines) (b : Bool) (e : Event) (rates : List ℕ) → 0 < u.server.timing.sessions → BothSound u w → Comer u w (tell u w b e rates)
tell_comes u w true e rates pos h true = (let t = server_tale u.server w.server e pos h.server in new_comes true u.server.lines (tell u w true e rates).server.core t.sound w.server.core t.more t.seats t.new)
tell_comes u w true e rates pos h false = same_comes false u.node.lines w.node.core h.node
tell_comes u w false e rates pos h true = same_comes true u.server.lines w.server.core h.server
tell_comes u w false e rates pos h false = (let t = node_tale u.node rates w.node e h.node in new_comes false u.node.lines (tell u w false e rates).node.core t.sound w.node.core t.more t.seats t.new)

cond_comes : (u : Setups) (b : Bool) (w x y : Machines) → Comer u w x → Comer u w y → Comer u w (cond b x y)
cond_comes u true w x y p q = p
cond_comes u false w x y p q = q

move_comes : (u : Setups) (w : Machines) (m : Move) → 0 < u.server.timing.sessions → BothSound u w → Comer u w (happens u w m)
move_comes u w (Does b e rates) pos h = cond_comes u (is_heard e) w w (tell u w b e rates) (stay_comes u w h) (tell_comes u w b e rates pos h)
move_comes u w (HearsForeign b from payload now rates) pos h = cond_comes u (is_own u from) w w (tell u w b (Hears from payload None now) rates) (stay_comes u w h) (tell_comes u w b (Hears from payload None now) rates pos h)
move_comes u w (HearsFrame i now rates) pos h = go (slice_get w.posts i)
  where
    marked : Machines
    marked = marked_delivered i w

    here : (b : Bool) (e : Event) → Comer u w (tell u (marked_delivered i w) b e rates)
    here b e = tell_comes u (marked_delivered i w) b e rates pos (marked_sound u i w h)

    still : Comer u w (counted (marked_delivered i w))
    still true = same_comes true u.server.lines w.server.core h.server
    still false = same_comes false u.node.lines w.node.core h.node

    go : (o : Option Posted) → Comer u w (comes u w i now rates o)
    go None = stay_comes u w h
    go (Some p) = cond_comes u (is_for_other u p) w (tell u (marked_delivered i w) (not p.by_server) (heard_as u p now) rates) (counted (marked_delivered i w)) (here (not p.by_server) (heard_as u p now)) still

pub run_comes : (u : Setups) (moves : List Move) (m : Move) (server : Bool) → Fit u → CoreGrows (lines_at server u) (core_of (run u moves (open_machines u)) server) (core_of (happens u (run u moves (open_machines u)) m) server)
run_comes u moves m server f = move_comes u (run u moves (open_machines u)) m f.sessions (reach_run u moves f).sound server
