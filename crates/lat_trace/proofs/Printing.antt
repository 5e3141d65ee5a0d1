-- The text of a trace, entry by entry.
use Rattle.std.proofs.Common.{◌≡◌, ℕ, zero, suc, ◌+◌, ◌≤◌, length, take, List, [], ◌∷◌, ◌++◌, Some, Result, Ok, Err, slice_get, refl, sym, ap, ◌∙◌, subst, arith}
use Rattle.std.proofs.lemmas.List.{append-nil}
use Rattle.std.specs.Prelude.{OnOk}
use Rattle.std.specs.List.{flat_map}
use Rattle.lat_machines.specs.world.Machines.{Posted}
use Rattle.lat_schedule.specs.declared.event.WorldEvent.{WorldEvent}
use Rattle.lat_model.specs.Lists.{Each}
use Rattle.lat_schedule.specs.declared.schedule.Schedule.{Schedule}
use Rattle.lat_trace.specs.declared.entry.Entry as kept
use Rattle.lat_trace.specs.declared.run.Run as runs
use Rattle.lat_trace.specs.Entries.{Entry}
use Rattle.lat_trace.specs.Fates.{AreCounts}
use Rattle.lat_trace.specs.Runs.{Run}
use Rattle.lat_trace.specs.Shown.{IsWithin, ShowsRun, shown, shown_from}
use Rattle.lat_trace.specs.TraceText.{entry_text, frames_text, heading_text, last_line, trace_text}
use Rattle.lat_trace.proofs.Slices.{append_more}

same_kept : (x k : kept.Entry) → Some x ≡ Some k → x ≡ k
same_kept x k e = cc

same_told : (x e : WorldEvent) → Some x ≡ Some e → x ≡ e
same_told x e q = cc

same_entry : (x e : Entry) → Some x ≡ Some e → x ≡ e
same_entry x e q = cc

-- what is kept at a place is shown there
pub shown_at : (posts : List Posted) (number : ℕ) (ks : List kept.Entry) (es : List WorldEvent) (n : ℕ) (k : kept.Entry) (e : WorldEvent) → slice_get ks n ≡ Some k → slice_get es n ≡ Some e → slice_get (shown_from posts number ks es) n ≡ Some (shown posts (number + n) e k)
unfolding shown_from
shown_at posts number [] es n k e p q = let z : ⊥ = cc in absurd z
shown_at posts number (x ∷ xs) [] n k e p q = let z : ⊥ = cc in absurd z
shown_at posts number (x ∷ xs) (y ∷ ys) zero k e p q =
    ap (λ (z : kept.Entry). Some (shown posts number y z)) (same_kept x k p)
    ∙ (ap (λ (z : WorldEvent). Some (shown posts number z k)) (same_told y e q) ∙ ap (λ m. Some (shown posts m e k)) (omega arith))
shown_at posts number (x ∷ xs) (y ∷ ys) (suc n) k e p q = shown_at posts (suc number) xs ys n k e p q ∙ ap (λ m. Some (shown posts m e k)) (omega arith)

shown_length : (posts : List Posted) (number : ℕ) (ks : List kept.Entry) (es : List WorldEvent) → length ks ≤ length es → length (shown_from posts number ks es) ≡ length ks
unfolding shown_from
shown_length posts number [] es few = refl
shown_length posts number (x ∷ xs) [] few = let z : ⊥ = omega (arith, few) in absurd z
shown_length posts number (x ∷ xs) (y ∷ ys) few = ap suc (shown_length posts (suc number) xs ys (omega (arith, few)))

-- one entry more
entries_take : (f : Entry → List ℕ) (xs : List Entry) (n : ℕ) (x : Entry) → slice_get xs n ≡ Some x → flat_map f (take (suc n) xs) ≡ flat_map f (take n xs) ++ f x
entries_take f [] n x q = let z : ⊥ = cc in absurd z
entries_take f (y ∷ ys) zero x q = append-nil (f y) ∙ ap f (same_entry y x q)
entries_take f (y ∷ ys) (suc n) x q = ap (λ z. f y ++ z) (entries_take f ys n x q) ∙ sym (append_more (f y) (flat_map f (take n ys)) (f x))

entries_whole : (xs : List Entry) (n : ℕ) → length xs ≤ n → take n xs ≡ xs
entries_whole [] zero q = refl
entries_whole [] (suc n) q = refl
entries_whole (x ∷ xs) zero q = let z : ⊥ = omega (arith, q) in absurd z
entries_whole (x ∷ xs) (suc n) q = ap (λ z. x ∷ z) (entries_whole xs n (omega (arith, q)))

-- what is within a number at a place
pub within_at : (sent : ℕ) (ks : List kept.Entry) (n : ℕ) (k : kept.Entry) → Each (IsWithin sent) ks → slice_get ks n ≡ Some k → IsWithin sent k
within_at sent [] n k t q = let z : ⊥ = cc in absurd z
within_at sent (x ∷ xs) zero k t q = subst (IsWithin sent) (same_kept x k q) t.0
within_at sent (x ∷ xs) (suc n) k t q = within_at sent xs n k t.1 q

-- one entry more
pub entry_printed :
    {H : Type 0} (k : runs.Run H) (r : Run) (n m : ℕ) (x : kept.Entry) (e : WorldEvent) (before text new : List ℕ) (s : ShowsRun k r) → m ≡ n + 1 → slice_get k.entries n ≡ Some x → slice_get k.schedule.events n ≡ Some e →
    text ≡ before ++ flat_map (entry_text r.schedule.events) (take n r.entries) → new ≡ text ++ entry_text r.schedule.events (shown s.world.posts m e x) →
    new ≡ before ++ flat_map (entry_text r.schedule.events) (take m r.entries)
entry_printed k r n m x e before text new s up here event was now =
    let f : Entry → List ℕ = entry_text r.schedule.events in
    let place : m ≡ 1 + n = omega (arith, up) in
    let next : m ≡ suc n = omega (arith, up) in
    let there : slice_get r.entries n ≡ Some (shown s.world.posts (1 + n) e x) =
    subst (λ (z : List Entry). slice_get z n ≡ Some (shown s.world.posts (1 + n) e x)) s.entries
    (shown_at s.world.posts 1 k.entries r.schedule.events n x e here (subst (λ (z : Schedule). slice_get z.events n ≡ Some e) s.schedule event)) in
    now
    ∙ (ap (λ i. text ++ f (shown s.world.posts i e x)) place
    ∙ (ap (λ z. z ++ f (shown s.world.posts (1 + n) e x)) was
    ∙ (append_more before (flat_map f (take n r.entries)) (f (shown s.world.posts (1 + n) e x))
    ∙ ap (λ z. before ++ z) (sym (entries_take f r.entries n (shown s.world.posts (1 + n) e x) there) ∙ ap (λ i. flat_map f (take i r.entries)) (sym next)))))

-- the deliveries that were counted are those of its events
pub counts_so : {H : Type 0} (k : runs.Run H) (r : Run) (counts : List ℕ) (events : List WorldEvent) → ShowsRun k r → events ≡ k.schedule.events → AreCounts counts events → AreCounts counts r.schedule.events
counts_so k r counts events s same are = subst (λ (z : List WorldEvent). AreCounts counts z) (same ∙ ap (λ (z : Schedule). z.events) s.schedule) are

-- the frames of an entry are among those that the wire kept
pub within_so : {H : Type 0} (k : runs.Run H) (r : Run) (sent n : ℕ) (x : kept.Entry) (s : ShowsRun k r) → length s.world.posts ≡ sent → slice_get k.entries n ≡ Some x → IsWithin sent x
within_so k r sent n x s same here = subst (λ m. IsWithin m x) same (within_at (length s.world.posts) k.entries n x s.within here)

pub all_printed :
    {H : Type 0} (k : runs.Run H) (r : Run) (n : ℕ) (before text new : List ℕ) → ShowsRun k r → length k.entries ≤ n →
    text ≡ before ++ flat_map (entry_text r.schedule.events) (take n r.entries) → new ≡ text ++ last_line k.stop → new ≡ before ++ trace_text r
unfolding trace_text
all_printed k r n before text new s done was now =
    let f : Entry → List ℕ = entry_text r.schedule.events in
    let long : length r.entries ≡ length k.entries = ap length (sym s.entries) ∙ shown_length s.world.posts 1 k.entries r.schedule.events s.few in
    now
    ∙ (ap (λ z. z ++ last_line k.stop) was
    ∙ (append_more before (flat_map f (take n r.entries)) (last_line k.stop)
    ∙ ap (λ z. before ++ z)
    (ap (λ (z : List Entry). flat_map f z ++ last_line k.stop) (entries_whole r.entries n (omega (arith, long, done)))
    ∙ ap (λ z. flat_map f r.entries ++ last_line z) s.stop)))

-- the line of an event, and behind it its frames
pub entry_follows :
    {A E : Type 0} (r : Result A E) (events : List WorldEvent) (x : Entry) (old mid new : List ℕ) → mid ≡ old ++ heading_text x.number x.moment x.event x.answer →
    OnOk r (new ≡ mid ++ frames_text events x.first x.frames) → OnOk r (new ≡ old ++ entry_text events x)
unfolding entry_text
entry_follows (Ok a) events x old mid new was now =
    now ∙ (ap (λ z. z ++ frames_text events x.first x.frames) was ∙ append_more old (heading_text x.number x.moment x.event x.answer) (frames_text events x.first x.frames))
entry_follows (Err e) events x old mid new was now = tt
