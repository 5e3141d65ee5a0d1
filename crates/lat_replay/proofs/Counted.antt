-- How much became of the rows.
use Rattle.std.proofs.Common.{◌≡◌, ℕ, suc, ◌+◌, refl, ap, ap₂, ◌∙◌, List, [], ◌∷◌, length, map}
use Rattle.std.specs.List.{fold, sum_by}
use Rattle.lat_base.specs.declared.item.Item as base
use Rattle.lat_model.specs.sessions.Slots.{Item}
use Rattle.lat_machines.specs.world.Machines.{Machines}
use Rattle.lat_laws.specs.tales.Rows.{RowAfter, RowsAfter}
use Rattle.lat_laws.specs.tales.Reported.{report_rows_from}
use Rattle.lat_stream.specs.Kept.{item_of}
use Rattle.lat_replay.specs.declared.roster.row.Row.{Row}
use Rattle.lat_replay.specs.roster.Roster.{ShowsRows}
use Rattle.lat_replay.specs.Counts.{put_of, taken_of, put_in_row, taken_in_row}

map_length : {A B : Type 0} → (f : A → B) (xs : List A) → length (map f xs) ≡ length xs
map_length f [] = refl
map_length f (x ∷ xs) = ap suc (map_length f xs)

items_length : (ys : List base.Item) (xs : List Item) → ys ≡ map item_of xs → length ys ≡ length xs
items_length ys xs q = ap length q ∙ map_length item_of xs

put_from : (w : Machines) (k : RowsAfter) (p n : ℕ) (ks : List Row) (rs : List RowAfter) → ShowsRows ks rs → fold (λ a x. a + put_in_row x) n ks ≡ fold (λ a x. a + put_of x) n (report_rows_from w k p rs)
put_from w k p n [] [] h = refl
put_from w k p n [] (r ∷ rs) h = let z : ⊥ = cc in absurd z
put_from w k p n (x ∷ ks) [] h = absurd h
put_from w k p n (x ∷ ks) (r ∷ rs) h =
    let e : put_in_row x ≡ length r.put_up + length r.put_down = ap₂ (λ a b. a + b) (items_length x.up.put.items r.put_up h.0.put_up) (items_length x.down.put.items r.put_down h.0.put_down) in
    ap (λ z. fold (λ a y. a + put_in_row y) (n + z) ks) e ∙ put_from w k (suc p) (n + (length r.put_up + length r.put_down)) ks rs h.1

pub put_told : (w : Machines) (k : RowsAfter) (p : ℕ) (ks : List Row) (rs : List RowAfter) → ShowsRows ks rs → sum_by put_in_row ks ≡ sum_by put_of (report_rows_from w k p rs)
put_told w k p ks rs h = put_from w k p 0 ks rs h

taken_from : (w : Machines) (k : RowsAfter) (p n : ℕ) (ks : List Row) (rs : List RowAfter) → ShowsRows ks rs → fold (λ a x. a + taken_in_row x) n ks ≡ fold (λ a x. a + taken_of x) n (report_rows_from w k p rs)
taken_from w k p n [] [] h = refl
taken_from w k p n [] (r ∷ rs) h = let z : ⊥ = cc in absurd z
taken_from w k p n (x ∷ ks) [] h = absurd h
taken_from w k p n (x ∷ ks) (r ∷ rs) h =
    let e : taken_in_row x ≡ length r.taken_up + length r.taken_down = ap₂ (λ a b. a + b) (items_length x.up.taken.items r.taken_up h.0.taken_up) (items_length x.down.taken.items r.taken_down h.0.taken_down) in
    ap (λ z. fold (λ a y. a + taken_in_row y) (n + z) ks) e ∙ taken_from w k (suc p) (n + (length r.taken_up + length r.taken_down)) ks rs h.1

pub taken_told : (w : Machines) (k : RowsAfter) (p : ℕ) (ks : List Row) (rs : List RowAfter) → ShowsRows ks rs → sum_by taken_in_row ks ≡ sum_by taken_of (report_rows_from w k p rs)
taken_told w k p ks rs h = taken_from w k p 0 ks rs h
