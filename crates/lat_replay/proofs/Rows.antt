-- Rows, the sessions that they are of, and the figures that are told of them.
use Rattle.std.proofs.Common.{◌≡◌, ◌≢◌, ℕ, zero, suc, ◌+◌, refl, sym, ap, ◌∙◌, subst, arith, Bool, true, false, cond, List, [], ◌∷◌, ◌++◌, length, take, Some, nat_eq, eqb-true, eq-eqb}
use Rattle.std.specs.Prelude.{slice_get}
use Rattle.lat_model.specs.Lists.{Each}
use Rattle.lat_machines.specs.cores.Cores.{Seat}
use Rattle.lat_machines.specs.cores.Lines.{seat_at}
use Rattle.lat_machines.specs.world.Machines.{Setups, Machines}
use Rattle.lat_machines.specs.world.Reports.{is_partner, partner, partner_in}
use Rattle.lat_laws.specs.tales.Keeping.{no_figures}
use Rattle.lat_laws.specs.tales.Rows as rows
use Rattle.lat_laws.specs.tales.Rows.{RowAfter, RowsAfter, KeepsRows, KeepsRow, Pairs, figures_of, newest_place}
use Rattle.lat_laws.specs.tales.Reported.{server_figures, node_figures, report_row, report_rows_from}
use Rattle.lat_replay.specs.declared.roster.figures.Figures.{Figures}
use Rattle.lat_replay.specs.declared.roster.row.Row as own
use Rattle.lat_replay.specs.roster.Rows.{ShowsFigures, ShowsRow}
use Rattle.lat_replay.specs.roster.Roster.{ShowsRows}

-- rows in order

pub take_more : {A : Type 0} → (xs : List A) (i : ℕ) (x : A) → slice_get xs i ≡ Some x → take (suc i) xs ≡ take i xs ++ x ∷ []
take_more [] i x q = let z : ⊥ = cc in absurd z
take_more (y ∷ xs) zero x q = let e : y ≡ x = cc in ap (λ z. z ∷ []) e
take_more (y ∷ xs) (suc i) x q = ap (λ z. y ∷ z) (take_more xs i x q)

pub take_length : {A : Type 0} → (xs : List A) (i : ℕ) (x : A) → slice_get xs i ≡ Some x → length (take i xs) ≡ i
take_length [] i x q = let z : ⊥ = cc in absurd z
take_length (y ∷ xs) zero x q = refl
take_length (y ∷ xs) (suc i) x q = ap suc (take_length xs i x q)

told_behind : (w : Machines) (k : RowsAfter) (p : ℕ) (rs : List RowAfter) (r : RowAfter) → report_rows_from w k p (rs ++ r ∷ []) ≡ report_rows_from w k p rs ++ report_row w k (suc (p + length rs)) r ∷ []
told_behind w k p [] r = ap (λ z. report_row w k (suc z) r ∷ []) plus
  where
    plus : p ≡ p + 0
    plus = omega arith
told_behind w k p (x ∷ rs) r = ap (λ z. report_row w k (suc p) x ∷ z) (told_behind w k (suc p) rs r ∙ ap (λ z. report_rows_from w k (suc p) rs ++ report_row w k (suc z) r ∷ []) plus)
  where
    plus : suc p + length rs ≡ p + suc (length rs)
    plus = omega arith

-- the first rows with one more
pub told_more : (w : Machines) (k : RowsAfter) (i : ℕ) (r : RowAfter) → slice_get k.rows i ≡ Some r → report_rows_from w k 0 (take (suc i) k.rows) ≡ report_rows_from w k 0 (take i k.rows) ++ report_row w k (suc i) r ∷ []
told_more w k i r q =
    ap (report_rows_from w k 0) (take_more k.rows i r q)
    ∙ (told_behind w k 0 (take i k.rows) r ∙ ap (λ z. report_rows_from w k 0 (take i k.rows) ++ report_row w k (suc z) r ∷ []) plus)
  where
    plus : 0 + length (take i k.rows) ≡ i
    plus = let e : length (take i k.rows) ≡ i = take_length k.rows i r q in omega (arith, e)

pub told_length : (w : Machines) (k : RowsAfter) (p : ℕ) (rs : List RowAfter) → length (report_rows_from w k p rs) ≡ length rs
told_length w k p [] = refl
told_length w k p (r ∷ rs) = ap suc (told_length w k (suc p) rs)

-- the row that is shown at a place
pub record Beside (k : own.Row) (i : ℕ) (rs : List RowAfter) : Type 0 where
  pub row : RowAfter
  pub there : slice_get rs i ≡ Some row
  pub shows : ShowsRow k row

pub beside : (ks : List own.Row) (rs : List RowAfter) (i : ℕ) (k : own.Row) → ShowsRows ks rs → slice_get ks i ≡ Some k → Beside k i rs
beside [] rs i k h q = let z : ⊥ = cc in absurd z
beside (x ∷ ks) [] i k h q = absurd h
beside (x ∷ ks) (r ∷ rs) zero k h q = let e : x ≡ k = cc in record { row = r; there = refl; shows = subst (λ z. ShowsRow z r) e h.0 }
beside (x ∷ ks) (r ∷ rs) (suc i) k h q = let b : Beside k i rs = beside ks rs i k h.1 q in record { row = b.row; there = b.there; shows = b.shows }

-- lines with a session

newest_some : (line p found : ℕ) (ss : List Seat) → found ≢ 0 → newest_place line p found ss ≢ 0
newest_some line p found [] n = n
newest_some line p found (s ∷ ss) n = newest_some line (suc p) (cond (nat_eq s.line line) (suc p) found) ss (some (nat_eq s.line line))
  where
    some : (b : Bool) → cond b (suc p) found ≢ 0
    some true = omega arith
    some false = n

-- the line of a session that was found has one
partner_had : (u : Setups) (w : Machines) (s : Seat) (p found : ℕ) (ts : List Seat) → (partner_in u w s ts).line ≢ 0 → newest_place (partner_in u w s ts).line p found ts ≢ 0
partner_had u w s p found [] n = absurd (n refl)
partner_had u w s p found (t ∷ ts) n = go (is_partner u w s t) n (λ f. partner_had u w s (suc p) f ts)
  where
    go : (b : Bool) → (cond b t (partner_in u w s ts)).line ≢ 0 → ((f : ℕ) → (partner_in u w s ts).line ≢ 0 → newest_place (partner_in u w s ts).line (suc p) f ts ≢ 0) → newest_place (cond b t (partner_in u w s ts)).line (suc p) (cond (nat_eq t.line (cond b t (partner_in u w s ts)).line) (suc p) found) ts ≢ 0
    go true n more = newest_some t.line (suc p) (cond (nat_eq t.line t.line) (suc p) found) ts (subst (λ b. cond b (suc p) found ≢ 0) (sym (eq-eqb t.line t.line refl)) (omega arith))
    go false n more = more (cond (nat_eq t.line (partner_in u w s ts).line) (suc p) found) n

record Paired (P : Seat → RowAfter → Type 0) (r : RowAfter) : Type 0 where
  seat : Seat
  holds : P seat r

paired : (P : Seat → RowAfter → Type 0) (ss : List Seat) (rs : List RowAfter) (i : ℕ) (r : RowAfter) → Pairs P ss rs → slice_get rs i ≡ Some r → Paired P r
paired P [] rs i r h q = let z : ⊥ = cc in absurd z
paired P (s ∷ ss) [] i r h q = absurd h
paired P (s ∷ ss) (x ∷ rs) zero r h q = let e : x ≡ r = cc in record { seat = s; holds = subst (P s) e h.0 }
paired P (s ∷ ss) (x ∷ rs) (suc i) r h q = paired P ss rs i r h.1 q

-- the node's line of a row has or had a session
pub node_had : (u : Setups) (w : Machines) (k : RowsAfter) (i : ℕ) (r : RowAfter) → KeepsRows u w k → slice_get k.rows i ≡ Some r → r.node_line ≢ 0 → newest_place r.node_line 0 0 w.node.core.seats ≢ 0
node_had u w k i r h q n =
    let p : Paired (KeepsRow u w) r = paired (KeepsRow u w) w.server.core.seats k.rows i r h.rows q in
    let e : r.node_line ≡ (partner u w p.seat).line = p.holds.node_line in
    subst (λ z. newest_place z 0 0 w.node.core.seats ≢ 0) (sym e) (partner_had u w p.seat 0 0 w.node.core.seats (λ z. n (e ∙ z)))

-- what holds of the line of each session holds of a line that has or had one
pub had_line : (P : Seat → Type 0) (Q : ℕ → Type 0) (line p found : ℕ) (ss : List Seat) → ((s : Seat) → P s → Q s.line) → Each P ss → newest_place line p found ss ≢ found → Q line
had_line P Q line p found [] f e n = absurd (n refl)
had_line P Q line p found (s ∷ ss) f e n = go (nat_eq s.line line) refl n (had_line P Q line (suc p) found ss f e.1)
  where
    go : (b : Bool) → nat_eq s.line line ≡ b → newest_place line (suc p) (cond b (suc p) found) ss ≢ found → (newest_place line (suc p) found ss ≢ found → Q line) → Q line
    go true q n more = subst Q (eqb-true s.line line q) (f s e.0)
    go false q n more = more n

-- the figures that are told

not_eq : (a b : ℕ) → a ≢ b → nat_eq a b ≡ false
not_eq a b n = go (nat_eq a b) refl
  where
    go : (c : Bool) → nat_eq a b ≡ c → nat_eq a b ≡ false
    go true q = absurd (n (eqb-true a b q))
    go false q = q

pub server_new : (w : Machines) (k : RowsAfter) (r : RowAfter) (place line : ℕ) (f : Figures) → k.server_lines line ≡ place → r.line ≡ line → ShowsFigures f (figures_of w.server.core (seat_at w.server.core line)) → ShowsFigures f (server_figures w k place r)
server_new w k r place line f p e s =
    subst (λ z. ShowsFigures f (cond (nat_eq (k.server_lines z) place) (figures_of w.server.core (seat_at w.server.core z)) r.server)) (sym e)
    (subst (λ b. ShowsFigures f (cond b (figures_of w.server.core (seat_at w.server.core line)) r.server)) (sym (eq-eqb (k.server_lines line) place p)) s)

pub server_old : (w : Machines) (k : RowsAfter) (r : RowAfter) (place line : ℕ) (f : Figures) → k.server_lines line ≢ place → r.line ≡ line → ShowsFigures f r.server → ShowsFigures f (server_figures w k place r)
server_old w k r place line f p e s =
    subst (λ z. ShowsFigures f (cond (nat_eq (k.server_lines z) place) (figures_of w.server.core (seat_at w.server.core z)) r.server)) (sym e)
    (subst (λ b. ShowsFigures f (cond b (figures_of w.server.core (seat_at w.server.core line)) r.server)) (sym (not_eq (k.server_lines line) place p)) s)

abbrev node_told : Machines → RowsAfter → ℕ → RowAfter → ℕ → rows.Figures
node_told w k place r line = cond (nat_eq line 0) no_figures (cond (nat_eq (k.node_lines line) place) (figures_of w.node.core (seat_at w.node.core line)) r.node)

pub node_none : (w : Machines) (k : RowsAfter) (r : RowAfter) (place : ℕ) (f : Figures) → r.node_line ≡ 0 → ShowsFigures f no_figures → ShowsFigures f (node_figures w k place r)
node_none w k r place f e s = subst (λ z. ShowsFigures f (node_told w k place r z)) (sym e) s

pub node_new : (w : Machines) (k : RowsAfter) (r : RowAfter) (place line : ℕ) (f : Figures) → line ≢ 0 → k.node_lines line ≡ place → r.node_line ≡ line → ShowsFigures f (figures_of w.node.core (seat_at w.node.core line)) → ShowsFigures f (node_figures w k place r)
node_new w k r place line f n p e s =
    subst (λ z. ShowsFigures f (node_told w k place r z)) (sym e)
    (subst (λ b. ShowsFigures f (cond b no_figures (cond (nat_eq (k.node_lines line) place) (figures_of w.node.core (seat_at w.node.core line)) r.node))) (sym (not_eq line 0 n))
    (subst (λ b. ShowsFigures f (cond b (figures_of w.node.core (seat_at w.node.core line)) r.node)) (sym (eq-eqb (k.node_lines line) place p)) s))

pub node_old : (w : Machines) (k : RowsAfter) (r : RowAfter) (place line : ℕ) (f : Figures) → line ≢ 0 → k.node_lines line ≢ place → r.node_line ≡ line → ShowsFigures f r.node → ShowsFigures f (node_figures w k place r)
node_old w k r place line f n p e s =
    subst (λ z. ShowsFigures f (node_told w k place r z)) (sym e)
    (subst (λ b. ShowsFigures f (cond b no_figures (cond (nat_eq (k.node_lines line) place) (figures_of w.node.core (seat_at w.node.core line)) r.node))) (sym (not_eq line 0 n))
    (subst (λ b. ShowsFigures f (cond b (figures_of w.node.core (seat_at w.node.core line)) r.node)) (sym (not_eq (k.node_lines line) place p)) s))
