-- The rows of what is kept of entries, and those of the entries.
use Rattle.std.specs.Prelude.{if◌then◌else◌}
use Rattle.std.proofs.Common.{◌≡◌, ℕ, zero, suc, ◌+◌, ◌-◌, ◌<◌, ◌≤◌, Bool, length, take, List, [], ◌∷◌, ◌++◌, refl, sym, ap, ◌∙◌, subst, arith}
use Rattle.std.specs.Prelude.{get_or, nat_lt}
use Rattle.lat_machines.specs.world.Machines.{Posted}
use Rattle.lat_model.specs.Lists.{Each}
use Rattle.lat_schedule.specs.declared.event.WorldEvent.{WorldEvent}
use Rattle.lat_trace.specs.declared.entry.Entry as kept
use Rattle.lat_trace.specs.Entries.{Entry}
use Rattle.lat_trace.specs.Shown.{IsWithin, between, shown, shown_from}
use Rattle.lat_draw.specs.declared.layout.Place.{Place}
use Rattle.lat_draw.specs.Layout.{rows, entry_rows, all_rows, row_made}
use Rattle.lat_draw.specs.Placed.{kept_rows, places, behind, row_in}
use Rattle.lat_draw.proofs.Appending.{length_between, take_next}

-- one entry more
places_append : (events : List WorldEvent) (row : ℕ) (ks : List kept.Entry) (k : kept.Entry) → places events row (ks ++ k ∷ []) ≡ places events row ks ++ record { row = behind events row ks; behind = k.behind } ∷ []
unfolding places behind
places_append events row [] k = refl
places_append events row (x ∷ ks) k = ap (λ z. record { row = row; behind = x.behind } ∷ z) (places_append events (row + kept_rows events x) ks k)

behind_append : (events : List WorldEvent) (row : ℕ) (ks : List kept.Entry) (k : kept.Entry) → behind events row (ks ++ k ∷ []) ≡ behind events row ks + kept_rows events k
unfolding behind
behind_append events row [] k = refl
behind_append events row (x ∷ ks) k = behind_append events (row + kept_rows events x) ks k

pub places_more : (events : List WorldEvent) (ks : List kept.Entry) (n : ℕ) (k : kept.Entry) (row : ℕ) (was now : List Place) → n < length ks → k ≡ get_or ks n k → row ≡ behind events 0 (take n ks) → was ≡ places events 0 (take n ks) → now ≡ was ++ record { row = row; behind = k.behind } ∷ [] → now ≡ places events 0 (take (n + 1) ks)
places_more events ks n k row was now low here at before after =
    after
    ∙ (ap (λ z. z ++ record { row = row; behind = k.behind } ∷ []) before
    ∙ (ap (λ (m : ℕ). places events 0 (take n ks) ++ (let p : Place = record { row = m; behind = k.behind } in p) ∷ []) at
    ∙ (sym (places_append events 0 (take n ks) k) ∙ ap (places events 0) (sym (take_next ks n k low here)))))

pub behind_more : (events : List WorldEvent) (ks : List kept.Entry) (n : ℕ) (k : kept.Entry) (row next : ℕ) → n < length ks → k ≡ get_or ks n k → row ≡ behind events 0 (take n ks) → next ≡ row + kept_rows events k → next ≡ behind events 0 (take (n + 1) ks)
behind_more events ks n k row next low here at after =
    after ∙ (ap (λ m. m + kept_rows events k) at ∙ (sym (behind_append events 0 (take n ks) k) ∙ ap (behind events 0) (sym (take_next ks n k low here))))

-- the rows of what is shown
same_rows : (events : List WorldEvent) (posts : List Posted) (n : ℕ) (e : WorldEvent) (k : kept.Entry) → IsWithin (length posts) k → entry_rows events (shown posts n e k) ≡ kept_rows events k
same_rows events posts n e k within = ap (rows events k.first) (length_between k.first k.behind posts within.0 within.1)

pub behind_shown : (events : List WorldEvent) (posts : List Posted) (row n : ℕ) (ks : List kept.Entry) (es : List WorldEvent) → Each (IsWithin (length posts)) ks → length ks ≤ length es → behind events row ks ≡ row + all_rows events (shown_from posts n ks es)
unfolding behind all_rows shown_from
behind_shown events posts row n [] es within few = omega arith
behind_shown events posts row n (k ∷ ks) [] within few = let z : ⊥ = omega (arith, few) in absurd z
behind_shown events posts row n (k ∷ ks) (e ∷ es) within few =
    let ih = behind_shown events posts (row + kept_rows events k) (suc n) ks es within.1 (omega (arith, few)) in
    let same = same_rows events posts n e k within.0 in
    ih ∙ omega (arith, same)

made_here : (b c : Bool) (row x y : ℕ) → b ≡ c → x ≡ y → (if b then row else x) ≡ (if c then row else y)
made_here b c row x y p q = ap (λ t. if t then row else x) p ∙ ap (λ m. if c then row else m) q

made_before : (frame first behind count : ℕ) → first ≤ behind → count ≡ behind - first → nat_lt frame behind ≡ nat_lt frame (first + count)
made_before frame first behind count low same = ap (nat_lt frame) (omega (arith, low, same))

pub made_shown : (events : List WorldEvent) (posts : List Posted) (frame row n : ℕ) (ks : List kept.Entry) (es : List WorldEvent) → Each (IsWithin (length posts)) ks → length ks ≤ length es → row_in frame (behind events row ks) (places events row ks) ≡ row_made events frame row (shown_from posts n ks es)
unfolding behind places row_in row_made shown_from
made_shown events posts frame row n [] es within few = refl
made_shown events posts frame row n (k ∷ ks) [] within few = let z : ⊥ = omega (arith, few) in absurd z
made_shown events posts frame row n (k ∷ ks) (e ∷ es) within few =
    made_here (nat_lt frame k.behind) (nat_lt frame (k.first + length (between k.first k.behind posts))) row _ _
    (made_before frame k.first k.behind (length (between k.first k.behind posts)) within.0.0 (length_between k.first k.behind posts within.0.0 within.0.1))
    (made_shown events posts frame (row + kept_rows events k) (suc n) ks es within.1 (omega (arith, few))
    ∙ ap (λ m. row_made events frame (row + m) (shown_from posts (suc n) ks es)) (sym (same_rows events posts n e k within.0)))

-- where an entry stands
pub place_row : (events : List WorldEvent) (posts : List Posted) (row n i : ℕ) (ks : List kept.Entry) (es : List WorldEvent) (d : Place) → Each (IsWithin (length posts)) ks → length ks ≤ length es → i < length ks → (get_or (places events row ks) i d).row ≡ row + all_rows events (take i (shown_from posts n ks es))
unfolding places all_rows shown_from
place_row events posts row n i [] es d within few h = let z : ⊥ = omega (arith, h) in absurd z
place_row events posts row n i (k ∷ ks) [] d within few h = let z : ⊥ = omega (arith, few) in absurd z
place_row events posts row n zero (k ∷ ks) (e ∷ es) d within few h = omega arith
place_row events posts row n (suc i) (k ∷ ks) (e ∷ es) d within few h =
    let ih = place_row events posts (row + kept_rows events k) (suc n) i ks es d within.1 (omega (arith, few)) (omega (arith, h)) in
    let same = same_rows events posts n e k within.0 in
    ih ∙ omega (arith, same)

pub each_at : {X : Type 0} (P : X → Type 0) (xs : List X) (i : ℕ) (x : X) → Each P xs → i < length xs → x ≡ get_or xs i x → P x
each_at P [] i x all h e = let z : ⊥ = omega (arith, h) in absurd z
each_at P (y ∷ ys) zero x all h e = subst P (sym e) all.0
each_at P (y ∷ ys) (suc i) x all h e = each_at P ys i x all.1 (omega (arith, h)) e

pub length_shown : (posts : List Posted) (n : ℕ) (ks : List kept.Entry) (es : List WorldEvent) → length ks ≤ length es → length (shown_from posts n ks es) ≡ length ks
unfolding shown_from
length_shown posts n [] es few = refl
length_shown posts n (k ∷ ks) [] few = let z : ⊥ = omega (arith, few) in absurd z
length_shown posts n (k ∷ ks) (e ∷ es) few = ap suc (length_shown posts (suc n) ks es (omega (arith, few)))

pub shown_there : (posts : List Posted) (n i : ℕ) (ks : List kept.Entry) (es : List WorldEvent) (k : kept.Entry) (e : WorldEvent) (d : Entry) → i < length ks → i < length es → k ≡ get_or ks i k → e ≡ get_or es i e → get_or (shown_from posts n ks es) i d ≡ shown posts (n + i) e k
unfolding shown_from
shown_there posts n i [] es k e d h g there is = let z : ⊥ = omega (arith, h) in absurd z
shown_there posts n i (x ∷ ks) [] k e d h g there is = let z : ⊥ = omega (arith, g) in absurd z
shown_there posts n zero (x ∷ ks) (y ∷ es) k e d h g there is =
    ap (λ z. shown posts n y z) (sym there) ∙ (ap (λ z. shown posts n z k) (sym is) ∙ ap (λ m. shown posts m e k) (omega arith))
shown_there posts n (suc i) (x ∷ ks) (y ∷ es) k e d h g there is =
    shown_there posts (suc n) i ks es k e d (omega (arith, h)) (omega (arith, g)) there is ∙ ap (λ m. shown posts m e k) (omega arith)
