-- What is drawn of entries, one after another.
use Rattle.std.proofs.Common.{◌≡◌, ℕ, zero, suc, ◌+◌, ◌-◌, ◌<◌, ◌≤◌, length, take, List, [], ◌∷◌, ◌++◌, refl, sym, ap, ◌∙◌, arith}
use Rattle.std.specs.Prelude.{get_or}
use Rattle.lat_machines.specs.world.Machines.{Posted}
use Rattle.lat_schedule.specs.declared.event.WorldEvent.{WorldEvent}
use Rattle.lat_trace.specs.declared.entry.Entry as kept
use Rattle.lat_trace.specs.declared.run.Run as runs
use Rattle.lat_trace.specs.Entries.{Entry, came_in}
use Rattle.lat_trace.specs.Runs.{Run}
use Rattle.lat_trace.specs.Shown.{ShowsRun, between, shown, shown_from}
use Rattle.lat_draw.specs.declared.layout.Layout.{Layout}
use Rattle.lat_draw.specs.declared.layout.Place.{Place}
use Rattle.lat_draw.specs.Events.{told, happened_drawn, came_drawn, stubs_drawn, entry_drawn, entries_drawn}
use Rattle.lat_draw.specs.Layout.{height, played, entry_rows, all_rows, row_made}
use Rattle.lat_draw.specs.Lines.{margin}
use Rattle.lat_draw.specs.Placed.{IsLayout, places, behind, row_in}
use Rattle.lat_draw.proofs.Appending.{append_more, append_none, take_next}
use Rattle.lat_draw.proofs.Rows.{behind_shown, made_shown, place_row, length_shown, shown_there}

entries_append : (r : Run) (row : ℕ) (es : List Entry) (e : Entry) → entries_drawn r row (es ++ e ∷ []) ≡ entries_drawn r row es ++ entry_drawn r (row + all_rows (played r) es) e
unfolding entries_drawn all_rows
entries_append r row [] e = append_none (entry_drawn r row e) ∙ ap (λ m. entry_drawn r m e) (omega arith)
entries_append r row (x ∷ es) e =
    ap (λ z. entry_drawn r row x ++ z)
    (entries_append r (row + entry_rows (played r) x) es e
    ∙ ap (λ m. entries_drawn r (row + entry_rows (played r) x) es ++ entry_drawn r m e) (omega arith))
    ∙ sym (append_more (entry_drawn r row x) (entries_drawn r (row + entry_rows (played r) x) es) (entry_drawn r (row + (entry_rows (played r) x + all_rows (played r) es)) e))

-- the parts of an entry
entry_is : (r : Run) (posts : List Posted) (k : kept.Entry) (e : WorldEvent) (n row : ℕ) → entry_drawn r row (shown posts n e k) ≡ margin (height row) n k.moment ++ (happened_drawn (height row) (told e (came_in posts e)) e k.answer ++ (came_drawn (played r) (take (n - 1) (played r)) r.entries row e (came_in posts e) ++ stubs_drawn r.schedule.events (played r) (row + 1) k.first (between k.first k.behind posts)))
unfolding entry_drawn
entry_is r posts k e n row = refl

four_more : (t a b c d : List ℕ) → (((t ++ a) ++ b) ++ c) ++ d ≡ t ++ (a ++ (b ++ (c ++ d)))
four_more t a b c d = append_more ((t ++ a) ++ b) c d ∙ (append_more (t ++ a) b (c ++ d) ∙ append_more t a (b ++ (c ++ d)))

take_take : {A : Type 0} (n m : ℕ) (xs : List A) → n ≤ m → take n (take m xs) ≡ take n xs
take_take zero m xs h = refl
take_take (suc n) zero xs h = let z : ⊥ = omega (arith, h) in absurd z
take_take (suc n) (suc m) [] h = refl
take_take (suc n) (suc m) (x ∷ xs) h = ap (λ z. x ∷ z) (take_take n m xs (omega (arith, h)))

pub entries_length : {H : Type 0} (k : runs.Run H) (r : Run) → ShowsRun k r → length r.entries ≡ length k.entries
entries_length k r s = ap length (sym s.entries) ∙ length_shown s.world.posts 1 k.entries r.schedule.events s.few

-- one entry more, in the row in which it stands
pub entries_more :
    {H : Type 0} (run : runs.Run H) (r : Run) (s : ShowsRun run r) (l : Layout) → IsLayout (played r) run.entries l →
    (n : ℕ) (k : kept.Entry) (e : WorldEvent) (d : Place) → n < length run.entries → k ≡ get_or run.entries n k → e ≡ get_or r.schedule.events n e →
    (row : ℕ) → row ≡ (get_or l.places.items n d).row →
    (before : List WorldEvent) → before ≡ take n r.schedule.events →
    (t0 t t1 t2 t3 t4 : List ℕ) → t ≡ t0 ++ entries_drawn r 0 (take n r.entries) →
    t1 ≡ t ++ margin (height row) (n + 1) k.moment →
    t2 ≡ t1 ++ happened_drawn (height row) (told e (came_in s.world.posts e)) e k.answer →
    t3 ≡ t2 ++ came_drawn (played r) before r.entries row e (came_in s.world.posts e) →
    t4 ≡ t3 ++ stubs_drawn r.schedule.events (played r) (row + 1) k.first (between k.first k.behind s.world.posts) →
    t4 ≡ t0 ++ entries_drawn r 0 (take (n + 1) r.entries)
entries_more run r s l lay n k e d low there is row at before first t0 t t1 t2 t3 t4 was h1 h2 h3 h4 =
    let posts = s.world.posts in
    let x : Entry = shown posts (1 + n) e k in
    let long : length r.entries ≡ length run.entries = entries_length run r s in
    let here : get_or r.entries n x ≡ x = ap (λ z. get_or z n x) (sym s.entries) ∙ shown_there posts 1 n run.entries r.schedule.events k e x low (omega (arith, low, s.few)) there is in
    let next : n + 1 ≡ 1 + n = omega arith in
    let more : take (n + 1) r.entries ≡ take n r.entries ++ x ∷ [] = take_next r.entries n x (omega (arith, low, long)) (sym here) in
    let stands : row ≡ 0 + all_rows (played r) (take n r.entries) =
    at ∙ (ap (λ z. (get_or z n d).row) lay.places
    ∙ (place_row (played r) posts 0 1 n run.entries r.schedule.events d s.within s.few low ∙ ap (λ z. 0 + all_rows (played r) (take n z)) s.entries)) in
    let less : 1 + n - 1 ≡ n = omega arith in
    let cut : take (1 + n - 1) (played r) ≡ before =
    ap (λ m. take m (played r)) less ∙ (take_take n (length r.entries) r.schedule.events (omega (arith, low, long)) ∙ sym first) in
    let a = margin (height row) (n + 1) k.moment in
    let b = happened_drawn (height row) (told e (came_in posts e)) e k.answer in
    let c = came_drawn (played r) before r.entries row e (came_in posts e) in
    let f = stubs_drawn r.schedule.events (played r) (row + 1) k.first (between k.first k.behind posts) in
    let whole : t4 ≡ t ++ (a ++ (b ++ (c ++ f))) = h4 ∙ (ap (λ z. z ++ f) (h3 ∙ ap (λ z. z ++ c) (h2 ∙ ap (λ z. z ++ b) h1)) ∙ four_more t a b c f) in
    let parts : a ++ (b ++ (c ++ f)) ≡ entry_drawn r row x =
    ap (λ m. margin (height row) m k.moment ++ (b ++ (c ++ f))) next
    ∙ (ap (λ z. margin (height row) (1 + n) k.moment ++ (b ++ (came_drawn (played r) z r.entries row e (came_in posts e) ++ f))) (sym cut)
    ∙ sym (entry_is r posts k e (1 + n) row)) in
    let grown : entries_drawn r 0 (take (n + 1) r.entries) ≡ entries_drawn r 0 (take n r.entries) ++ entry_drawn r row x =
    ap (entries_drawn r 0) more ∙ (entries_append r 0 (take n r.entries) x ∙ ap (λ m. entries_drawn r 0 (take n r.entries) ++ entry_drawn r m x) (sym stands)) in
    whole
    ∙ (ap (λ z. z ++ (a ++ (b ++ (c ++ f)))) was
    ∙ (append_more t0 (entries_drawn r 0 (take n r.entries)) (a ++ (b ++ (c ++ f)))
    ∙ ap (λ z. t0 ++ z) (ap (λ z. entries_drawn r 0 (take n r.entries) ++ z) parts ∙ sym grown)))

-- the row in which a frame was made
pub rows_made : {H : Type 0} (run : runs.Run H) (r : Run) (s : ShowsRun run r) (l : Layout) → IsLayout (played r) run.entries l → (frame : ℕ) → row_in frame l.rows l.places.items ≡ row_made (played r) frame 0 r.entries
rows_made run r s l lay frame =
    ap (λ m. row_in frame m l.places.items) lay.rows
    ∙ (ap (λ z. row_in frame (behind (played r) 0 run.entries) z) lay.places
    ∙ (made_shown (played r) s.world.posts frame 0 1 run.entries r.schedule.events s.within s.few
    ∙ ap (row_made (played r) frame 0) s.entries))

none_more : (n : ℕ) → 0 + n ≡ n
none_more n = omega arith

-- how many rows there are
pub rows_all : {H : Type 0} (run : runs.Run H) (r : Run) (s : ShowsRun run r) (l : Layout) → IsLayout (played r) run.entries l → l.rows ≡ all_rows (played r) r.entries
rows_all run r s l lay =
    lay.rows
    ∙ (behind_shown (played r) s.world.posts 0 1 run.entries r.schedule.events s.within s.few
    ∙ (none_more (all_rows (played r) (shown_from s.world.posts 1 run.entries r.schedule.events)) ∙ ap (all_rows (played r)) s.entries))
