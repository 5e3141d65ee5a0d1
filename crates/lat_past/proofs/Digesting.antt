-- A digest of one event more.
use Rattle.std.proofs.Common.{◌≡◌, ◌≢◌, ℕ, ◌+◌, ◌<◌, ◌≤◌, List, [], ◌∷◌, ◌++◌, length, sum_by, Bool, true, false, if◌then◌else◌, refl, sym, ap, ◌∙◌, get_or, set, get_or-set_same, get_or-set_other, arith}
use Rattle.std.specs.Prelude.{◌==◌}
use Rattle.std.proofs.lemmas.List.{map_push}
use Rattle.std.proofs.lemmas.List.Sums.{sum_by_push, sum_by-le-sum_by}
use Rattle.std.proofs.lemmas.Bool.Decides.{nat_tests}
use Rattle.lat_past.specs.Counts.{seat_of, put_in, given_in, at_seat, past_events, past_bytes, past_items, bytes_put, items_taken}
use Rattle.lat_past.specs.Entries.{entries_of, entry_of, last_fitting}
use Rattle.lat_past.specs.declared.past.Past.{Past}
use Rattle.lat_past.proofs.Fitting.{fitting_push}

below : (b : Bool) (n : ℕ) → (if b then n else 0) ≤ n
below true n = omega arith
below false n = omega arith

seat_within : (of_past : Past → ℕ) (seat : ℕ) (h : List Past) → sum_by (at_seat of_past seat) h ≤ sum_by of_past h
seat_within of_past seat h = sum_by-le-sum_by (at_seat of_past seat) of_past h (λ p. below (seat_of p.event == seat) (of_past p))

pub seat_bytes_within : (seat : ℕ) (h : List Past) → past_bytes seat h ≤ bytes_put h
seat_bytes_within seat h = seat_within put_in seat h

pub seat_items_within : (seat : ℕ) (h : List Past) → past_items seat h ≤ items_taken h
seat_items_within seat h = seat_within given_in seat h

-- a count of each seat, with one event more of which f counts n for its own seat and none for the others
counted_by : (b : Bool) (xs : List ℕ) (k seat n old : ℕ) → length xs ≡ 256 → k < 256 → (k == seat) ≡ b → get_or xs seat 0 ≡ old → get_or (set xs k (get_or xs k 0 + n)) seat 0 ≡ old + (if b then n else 0)
counted_by true xs k seat n old long low is was =
    let same : k ≡ seat = grind (arith, nat_tests, is) in
    let within : seat < length xs = omega arith in
    rw same (get_or-set_same xs seat (get_or xs seat 0 + n) 0 within ∙ ap (λ m. m + n) was)
counted_by false xs k seat n old long low is was =
    let other : seat ≢ k = grind (arith, nat_tests, is) in
    get_or-set_other xs k seat (get_or xs k 0 + n) 0 other ∙ was ∙ omega arith

pub events_push : (xs : List ℕ) (h : List Past) (p : Past) (k : ℕ) → length xs ≡ 256 → k < 256 → k ≡ seat_of p.event → ((seat : ℕ) → seat < 256 → get_or xs seat 0 ≡ past_events seat h)
    → (seat : ℕ) → seat < 256 → get_or (set xs k (get_or xs k 0 + 1)) seat 0 ≡ past_events seat (h ++ p ∷ [])
events_push xs h p k long low is all seat within =
    counted_by (k == seat) xs k seat 1 (past_events seat h) long low refl (all seat within)
    ∙ ap (λ j. past_events seat h + (if j == seat then 1 else 0)) is ∙ sym (sum_by_push (λ (q : Past). if seat_of q.event == seat then 1 else 0) h p)

amount_push : (of_past : Past → ℕ) (xs : List ℕ) (h : List Past) (p : Past) (k n : ℕ) → length xs ≡ 256 → k < 256 → k ≡ seat_of p.event → n ≡ of_past p
    → ((seat : ℕ) → seat < 256 → get_or xs seat 0 ≡ sum_by (at_seat of_past seat) h)
    → (seat : ℕ) → seat < 256 → get_or (set xs k (get_or xs k 0 + n)) seat 0 ≡ sum_by (at_seat of_past seat) (h ++ p ∷ [])
amount_push of_past xs h p k n long low is amount all seat within =
    counted_by (k == seat) xs k seat n (sum_by (at_seat of_past seat) h) long low refl (all seat within)
    ∙ (λ i. sum_by (at_seat of_past seat) h + (if is i == seat then amount i else 0)) ∙ sym (sum_by_push (at_seat of_past seat) h p)

pub bytes_push : (xs : List ℕ) (h : List Past) (p : Past) (k n : ℕ) → length xs ≡ 256 → k < 256 → k ≡ seat_of p.event → n ≡ put_in p → ((seat : ℕ) → seat < 256 → get_or xs seat 0 ≡ past_bytes seat h)
    → (seat : ℕ) → seat < 256 → get_or (set xs k (get_or xs k 0 + n)) seat 0 ≡ past_bytes seat (h ++ p ∷ [])
bytes_push xs h p k n long low is amount all seat within = amount_push put_in xs h p k n long low is amount all seat within

pub items_push : (xs : List ℕ) (h : List Past) (p : Past) (k n : ℕ) → length xs ≡ 256 → k < 256 → k ≡ seat_of p.event → n ≡ given_in p → ((seat : ℕ) → seat < 256 → get_or xs seat 0 ≡ past_items seat h)
    → (seat : ℕ) → seat < 256 → get_or (set xs k (get_or xs k 0 + n)) seat 0 ≡ past_items seat (h ++ p ∷ [])
items_push xs h p k n long low is amount all seat within = amount_push given_in xs h p k n long low is amount all seat within

pub last_push : (most : ℕ) (h : List Past) (p : Past) → last_fitting most (last_fitting most (entries_of h) ++ entry_of p ∷ []) ≡ last_fitting most (entries_of (h ++ p ∷ []))
last_push most h p = fitting_push most (entries_of h) (entry_of p) ∙ ap (last_fitting most) (sym (map_push entry_of h p))
