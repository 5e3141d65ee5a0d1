-- What adds no items leaves the rows as they are.
use Rattle.std.proofs.Common.{◌≡◌, ℕ, zero, suc, refl, sym, ap, ap₂, ◌∙◌, subst, Bool, true, false, List, [], ◌∷◌}
use Rattle.lat_model.specs.sessions.Slots.{Item}
use Rattle.lat_replay.specs.roster.Roster as rosters
use Rattle.lat_replay.specs.roster.Roster.{HasRows}
use Rattle.lat_laws.specs.tales.Keeping.{change, with_items, lines_of, adds}
use Rattle.lat_laws.specs.tales.Rows.{RowAfter, RowsAfter}
use Rattle.lat_laws.proofs.tales.rows.By.{append_nil}

nothing_put : (b : Bool) (r : RowAfter) → with_items b [] [] r ≡ r
nothing_put true r = ap₂ (λ p t. record r { put_up = p; taken_down = t }) (append_nil r.put_up) (append_nil r.taken_down)
nothing_put false r = ap₂ (λ p t. record r { put_down = p; taken_up = t }) (append_nil r.put_down) (append_nil r.taken_up)

change_same : (place : ℕ) (f : RowAfter → RowAfter) (rs : List RowAfter) → ((r : RowAfter) → f r ≡ r) → change place f rs ≡ rs
change_same zero f rs h = refl
change_same (suc k) f [] h = refl
change_same (suc zero) f (r ∷ rs) h = ap (λ z. z ∷ rs) (h r)
change_same (suc (suc k)) f (r ∷ rs) h = ap (λ z. r ∷ z) (change_same (suc k) f rs h)

pub nothing_added : (b : Bool) (line : ℕ) (k : RowsAfter) → adds b line [] [] k ≡ k
nothing_added b line k = ap (λ z. record k { rows = z }) (change_same (lines_of b k line) (with_items b [] []) k.rows (nothing_put b))

-- what adds no items leaves the rows as they are shown
pub shows_same : (k : rosters.Kept) (b : Bool) (line : ℕ) (put taken : List Item) (r : RowsAfter) → put ≡ [] → taken ≡ [] → HasRows k r → HasRows k (adds b line put taken r)
shows_same k b line put taken r p t h =
    subst (HasRows k) (sym (ap₂ (λ x y. adds b line x y r) p t ∙ nothing_added b line r)) h
