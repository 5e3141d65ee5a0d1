-- The texts of the sessions, the requests and the notes.
use Rattle.std.proofs.Common.{◌≡◌, ℕ, zero, suc, ◌+◌, refl, sym, ap, ◌∙◌, arith, List, [], ◌∷◌, ◌++◌, length, map, take, Some, None}
use Rattle.std.specs.Prelude.{slice_get}
use Rattle.std.specs.List.{flat_map}
use Rattle.lat_base.specs.declared.item.Item as base
use Rattle.lat_model.specs.sessions.Slots.{Item}
use Rattle.lat_machines.specs.world.Machines.{Machines}
use Rattle.lat_machines.specs.world.Reports.{Row}
use Rattle.lat_stream.specs.Kept.{item_of}
use Rattle.lat_stream.proofs.Kept.{items_of_back}
use Rattle.lat_laws.specs.tales.Rows.{RowAfter, RowsAfter}
use Rattle.lat_laws.specs.tales.Reported.{report_row, report_rows_from}
use Rattle.lat_wire.specs.report.ReportText.{row_text, rows_text}
use Rattle.lat_wire.specs.report.Rows.{items_in}
use Rattle.lat_replay.proofs.Rows.{told_more, take_length, told_length}

pub append_more : {A : Type 0} → (xs ys zs : List A) → (xs ++ ys) ++ zs ≡ xs ++ (ys ++ zs)
append_more [] ys zs = refl
append_more (x ∷ xs) ys zs = ap (λ z. x ∷ z) (append_more xs ys zs)

pub append_nil : {A : Type 0} → (xs : List A) → xs ++ [] ≡ xs
append_nil [] = refl
append_nil (x ∷ xs) = ap (λ z. x ∷ z) (append_nil xs)

-- sessions

rows_behind : (n : ℕ) (xs : List Row) (r : Row) → rows_text n (xs ++ r ∷ []) ≡ rows_text n xs ++ row_text (n + length xs) r
rows_behind n [] r = append_nil (row_text n r) ∙ ap (λ z. row_text z r) plus
  where
    plus : n ≡ n + 0
    plus = omega arith
rows_behind n (x ∷ xs) r =
    ap (λ z. row_text n x ++ z) (rows_behind (n + 1) xs r ∙ ap (λ z. rows_text (n + 1) xs ++ row_text z r) plus)
    ∙ sym (append_more (row_text n x) (rows_text (n + 1) xs) (row_text (n + suc (length xs)) r))
  where
    plus : (n + 1) + length xs ≡ n + suc (length xs)
    plus = omega arith

-- the texts of the first rows with one more
pub rows_more : (w : Machines) (k : RowsAfter) (i : ℕ) (r : RowAfter) → slice_get k.rows i ≡ Some r → rows_text 1 (report_rows_from w k 0 (take (suc i) k.rows)) ≡ rows_text 1 (report_rows_from w k 0 (take i k.rows)) ++ row_text (suc i) (report_row w k (suc i) r)
rows_more w k i r q =
    ap (rows_text 1) (told_more w k i r q)
    ∙ (rows_behind 1 (report_rows_from w k 0 (take i k.rows)) (report_row w k (suc i) r) ∙ ap (λ z. rows_text 1 (report_rows_from w k 0 (take i k.rows)) ++ row_text z (report_row w k (suc i) r)) plus)
  where
    plus : 1 + length (report_rows_from w k 0 (take i k.rows)) ≡ suc i
    plus = let a : length (report_rows_from w k 0 (take i k.rows)) ≡ i = told_length w k 0 (take i k.rows) ∙ take_length k.rows i r q in omega (arith, a)

pub more_text : (text before xs ys zs : List ℕ) → text ≡ before ++ xs → ys ≡ xs ++ zs → text ++ zs ≡ before ++ ys
more_text text before xs ys zs a b = ap (λ z. z ++ zs) a ∙ (append_more before xs zs ∙ ap (λ z. before ++ z) (sym b))

-- items

pub items_are : (ys : List base.Item) (xs : List Item) → ys ≡ map item_of xs → items_in ys ≡ xs
items_are ys xs q = ap items_in q ∙ items_of_back xs

-- one more of a list of texts
pub flat_more : {A : Type 0} → (f : A → List ℕ) (xs : List A) (i : ℕ) (x : A) → slice_get xs i ≡ Some x → flat_map f (take (suc i) xs) ≡ flat_map f (take i xs) ++ f x
flat_more f [] i x q = let z : ⊥ = cc in absurd z
flat_more {A} f (y ∷ xs) zero x q = let e : y ≡ x = cc in append_nil (f y) ∙ ap f e
flat_more f (y ∷ xs) (suc i) x q = ap (λ z. f y ++ z) (flat_more f xs i x q) ∙ sym (append_more (f y) (flat_map f (take i xs)) (f x))

pub flat_all : {A : Type 0} → (f : A → List ℕ) (xs : List A) (i : ℕ) → slice_get xs i ≡ None → flat_map f (take i xs) ≡ flat_map f xs
flat_all f [] zero q = refl
flat_all f [] (suc i) q = refl
flat_all f (x ∷ xs) zero q = let z : ⊥ = cc in absurd z
flat_all f (x ∷ xs) (suc i) q = ap (λ z. f x ++ z) (flat_all f xs i q)
