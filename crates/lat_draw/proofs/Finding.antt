-- The place of the entry that made a frame.
use Rattle.std.specs.Prelude.{if◌then◌else◌}
use Rattle.std.proofs.Common.{◌≡◌, ℕ, Bool, true, false, cond, List, [], ◌∷◌, Option, Some, None, refl}
use Rattle.std.specs.Prelude.{nat_lt}
use Rattle.std.specs.List.{find}
use Rattle.lat_draw.specs.declared.layout.Place.{Place}
use Rattle.lat_draw.specs.Placed.{row_in}

abbrev pub row_of : (rows : ℕ) → Option Place → ℕ
row_of rows None = rows
row_of rows (Some p) = p.row

by_test : (b : Bool) (x : Place) (rows y : ℕ) (o : Option Place) → row_of rows o ≡ y → row_of rows (cond b (Some x) o) ≡ (if b then x.row else y)
by_test true x rows y o h = refl
by_test false x rows y o h = h

pub row_found : (frame rows : ℕ) (ps : List Place) → row_of rows (find (λ (p : Place). nat_lt frame p.behind) ps) ≡ row_in frame rows ps
unfolding row_in
row_found frame rows [] = refl
row_found frame rows (p ∷ ps) = by_test (nat_lt frame p.behind) p rows (row_in frame rows ps) (find (λ (p : Place). nat_lt frame p.behind) ps) (row_found frame rows ps)
