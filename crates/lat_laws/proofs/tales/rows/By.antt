-- A row by what it is beside: the newest sessions of the lines, and the node's session that belongs to it.
use Rattle.std.proofs.Common.{◌≡◌, ◌≢◌, ℕ, ◌<◌, ◌⊎◌, inl, inr, ⊎_elim, refl, sym, ap, ◌∙◌, subst, arith, Bool, true, false, cond, List, [], ◌∷◌, ◌++◌, length, take, drop, nat_eq, nat_lt, eqb-true, ltb-true}
use Rattle.std.proofs.lemmas.Bool.{and_parts, eqb-false}
use Rattle.lat_model.specs.sessions.Slots.{Item, items}
use Rattle.lat_model.specs.sessions.Session.{Session}
use Rattle.lat_model.specs.Lists.{Each, updated}
use Rattle.lat_machines.specs.cores.Cores.{Seat, no_seat, Core}
use Rattle.lat_machines.specs.cores.Lines.{session_of, over, last_on, seat_at, line_exists}
use Rattle.lat_machines.specs.world.Machines.{Setups, Machines}
use Rattle.lat_machines.specs.world.Reports.{partner}
use Rattle.lat_laws.specs.rounds.Seated.{IsSeat}
use Rattle.lat_laws.specs.tales.Items.{taken_of}
use Rattle.lat_laws.specs.tales.Rows.{figures_of, RowAfter, KeepsRow, newest_place}
use Rattle.lat_laws.proofs.tales.steps.Goes.{Untouched}
use Rattle.lat_laws.proofs.tales.seats.Sound.{Apart, Distinct, Sound}
use Rattle.lat_laws.proofs.tales.mates.Places.{IsAt, at_seat, at_above, one_place, one_seat, newest_at, is_at}

pub record RowBy (u : Setups) (w : Machines) (newest : ℕ → Seat) (node_newest : ℕ → Seat) (t : Seat) (s : Seat) (r : RowAfter) : Type 0 where
  pub line : r.line ≡ s.line
  pub circuit : r.circuit ≡ s.circuit
  pub id : r.id ≡ s.id
  pub node_line : r.node_line ≡ t.line
  pub put_up : r.put_up ≡ (session_of w.server.core s).put
  pub taken_up : r.taken_up ≡ taken_of (session_of w.node.core t)
  pub put_down : r.put_down ≡ (session_of w.node.core t).put
  pub taken_down : r.taken_down ≡ taken_of (session_of w.server.core s)
  pub server : (newest s.line ≡ s → ⊥) → r.server ≡ figures_of w.server.core s
  pub node : (node_newest t.line ≡ t → ⊥) → r.node ≡ figures_of w.node.core t

pub row_by : (u : Setups) (w : Machines) (s : Seat) (r : RowAfter) → KeepsRow u w s r → RowBy u w (seat_at w.server.core) (seat_at w.node.core) (partner u w s) s r
row_by u w s r k = record { line = k.line; circuit = k.circuit; id = k.id; node_line = k.node_line; put_up = k.put_up; taken_up = k.taken_up; put_down = k.put_down; taken_down = k.taken_down; server = k.server; node = k.node }

pub by_row : (u : Setups) (w : Machines) (s : Seat) (r : RowAfter) → RowBy u w (seat_at w.server.core) (seat_at w.node.core) (partner u w s) s r → KeepsRow u w s r
by_row u w s r k = record { line = k.line; circuit = k.circuit; id = k.id; node_line = k.node_line; put_up = k.put_up; taken_up = k.taken_up; put_down = k.put_down; taken_down = k.taken_down; server = k.server; node = k.node }

pub append_nil : {A : Type 0} → (xs : List A) → xs ++ [] ≡ xs
append_nil [] = refl
append_nil (x ∷ xs) = ap (λ z. x ∷ z) (append_nil xs)

-- no session is on line 0

pub line_some : (lines : ℕ) (s : Seat) → line_exists lines s.line ≡ true → s.line ≢ 0
line_some lines s h z = absurd (let l : 0 < s.line = ltb-true 0 s.line (and_parts (nat_lt 0 s.line) _ h).0 in omega (arith, l, z))

pub none_on_zero : (m : Bool) (lines : ℕ) (c : Core) → Sound m lines c → seat_at c 0 ≡ no_seat
none_on_zero m lines c h = ⊎_elim {C = seat_at c 0 ≡ no_seat} (λ q. q.1) (λ q. absurd (line_some lines (seat_at c 0) (h.seated.placed (seat_at c 0) (at_seat (seat_at c 0) (newest_place 0 0 0 c.seats) 0 c.seats q.0)).line q.1)) (newest_at 0 0 0 no_seat c.seats)

-- a session that isn't the newest of its line is over
pub older_over : (m : Bool) (lines : ℕ) (c : Core) (s : Seat) → Sound m lines c → IsSeat s c.seats → (seat_at c s.line ≡ s → ⊥) → over c s ≡ true
older_over m lines c s h i n = go (over c s) refl
  where
    go : (b : Bool) → over c s ≡ b → over c s ≡ true
    go true q = q
    go false q = absurd (n (h.seated.last s i q))

pub none_taken : (s : Session) → Untouched s → taken_of s ≡ []
none_taken s u = ap (λ n. take n (items s.came)) u.taken ∙ none (items s.came)
  where
    none : (xs : List Item) → take 0 xs ≡ []
    none [] = refl
    none (x ∷ xs) = refl

-- the newest session of a line stands at its place, and alone
pub newest_is_at : (line : ℕ) (xs : List Seat) (s : Seat) (j : ℕ) → Distinct xs → (s.line ≢ 0) → IsAt s j 0 xs → last_on line no_seat xs ≡ s → j ≡ newest_place line 0 0 xs
newest_is_at line xs s j d n a q = ⊎_elim {C = j ≡ newest_place line 0 0 xs}
    (λ z. absurd (n (ap (λ (y : Seat). y.line) (sym q ∙ z.1))))
    (λ z. one_place s j (newest_place line 0 0 xs) 0 xs d a (subst (λ y. IsAt y (newest_place line 0 0 xs) 0 xs) q z.0))
    (newest_at line 0 0 no_seat xs)

pub at_newest : (line : ℕ) (xs : List Seat) (s : Seat) (j : ℕ) → IsAt s j 0 xs → j ≡ newest_place line 0 0 xs → s ≡ last_on line no_seat xs
at_newest line xs s j a q = ⊎_elim {C = s ≡ last_on line no_seat xs}
    (λ z. absurd (let l : 0 < j = at_above s j 0 xs a in omega (arith, l, q, z.0)))
    (λ z. one_seat s (last_on line no_seat xs) j 0 xs a (subst (λ y. IsAt (last_on line no_seat xs) y 0 xs) (sym q) z.0))
    (newest_at line 0 0 no_seat xs)

pub newest_line : (line : ℕ) (xs : List Seat) → (last_on line no_seat xs ≡ no_seat) ⊎ ((last_on line no_seat xs).line ≡ line)
newest_line line xs = ⊎_elim {C = (last_on line no_seat xs ≡ no_seat) ⊎ ((last_on line no_seat xs).line ≡ line)} (λ z. inl z.1) (λ z. inr z.1) (newest_at line 0 0 no_seat xs)

-- lists of sessions

pub distinct_front : (xs ys : List Seat) → Distinct (xs ++ ys) → Distinct xs
distinct_front [] ys d = tt
distinct_front (x ∷ xs) ys d = (front xs d.0, distinct_front xs ys d.1)
  where
    front : (zs : List Seat) → Each (Apart x) (zs ++ ys) → Each (Apart x) zs
    front [] e = tt
    front (z ∷ zs) e = (e.0, front zs e.1)

pub distinct_apart : (xs ys : List Seat) (s t : Seat) → Distinct (xs ++ ys) → IsSeat s xs → IsSeat t ys → Apart s t
distinct_apart [] ys s t d i j = absurd i
distinct_apart (x ∷ xs) ys s t d i j = ⊎_elim {C = Apart s t} (λ q. subst (λ z. Apart z t) (sym q) (there xs d.0)) (λ q. distinct_apart xs ys s t d.1 q j) i
  where
    in_each : (zs : List Seat) → Each (Apart x) zs → IsSeat t zs → Apart x t
    in_each [] e k = absurd k
    in_each (z ∷ zs) e k = ⊎_elim {C = Apart x t} (λ q. subst (Apart x) (sym q) e.0) (λ q. in_each zs e.1 q) k

    there : (zs : List Seat) → Each (Apart x) (zs ++ ys) → Apart x t
    there [] e = in_each ys e j
    there (z ∷ zs) e = there zs e.1

pub append_one : (xs ss : List Seat) (s : Seat) → xs ++ s ∷ ss ≡ (xs ++ s ∷ []) ++ ss
append_one [] ss s = refl
append_one (x ∷ xs) ss s = ap (λ z. x ∷ z) (append_one xs ss s)

pub drop_front : (xs ys : List Seat) → drop (length xs) (xs ++ ys) ≡ ys
drop_front [] [] = refl
drop_front [] (y ∷ ys) = refl
drop_front (x ∷ xs) ys = drop_front xs ys

pub updated_line : (f : ℕ → ℕ) (k a j : ℕ) → updated f k a j ≡ cond (nat_eq k j) a (f j)
updated_line f k a j = ap (λ b. cond b a (f j)) (both (nat_eq j k) refl (nat_eq k j) refl)
  where
    both : (a : Bool) → nat_eq j k ≡ a → (b : Bool) → nat_eq k j ≡ b → nat_eq j k ≡ nat_eq k j
    both true p true q = p ∙ sym q
    both true p false q = absurd (eqb-false k j q (sym (eqb-true j k p)))
    both false p true q = absurd (eqb-false j k p (sym (eqb-true k j q)))
    both false p false q = p ∙ sym q

-- whether a session is the newest of a line
pub is_newest : (line : ℕ) (xs : List Seat) (s : Seat) → Distinct xs → s.line ≢ 0 → IsSeat s xs → (s ≡ last_on line no_seat xs) ⊎ (s ≡ last_on line no_seat xs → ⊥)
is_newest line xs s d n i = go (nat_eq k (newest_place line 0 0 xs)) refl
  where
    at : (k : ℕ) × IsAt s k 0 xs
    at = is_at s 0 xs i

    k : ℕ
    k = at.0

    go : (b : Bool) → nat_eq k (newest_place line 0 0 xs) ≡ b → (s ≡ last_on line no_seat xs) ⊎ (s ≡ last_on line no_seat xs → ⊥)
    go true q = inl (at_newest line xs s k at.1 (eqb-true k (newest_place line 0 0 xs) q))
    go false q = inr (λ z. eqb-false k (newest_place line 0 0 xs) q (newest_is_at line xs s k d n at.1 (sym z)))
