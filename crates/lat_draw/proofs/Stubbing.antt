-- The stubs of frames, one after another.
use Rattle.std.specs.Prelude.{if◌then◌else◌}
use Rattle.std.proofs.Common.{◌≡◌, ℕ, zero, suc, ◌+◌, ◌-◌, ◌≤◌, Bool, true, false, length, take, drop, List, [], ◌∷◌, ◌++◌, Some, slice_get, refl, sym, ap, ◌∙◌, arith}
use Rattle.std.proofs.Math.Seq.{drop-nil}
use Rattle.lat_machines.specs.world.Machines.{Posted}
use Rattle.lat_schedule.specs.declared.event.WorldEvent.{WorldEvent}
use Rattle.lat_trace.specs.Shown.{between}
use Rattle.lat_draw.specs.Events.{frame_short, stubs_drawn}
use Rattle.lat_draw.specs.Layout.{height, stays, staying}
use Rattle.lat_draw.specs.Lines.{stub}
use Rattle.lat_draw.proofs.Appending.{append_more, append_none, dropped, length_between, take_there}
use Rattle.lat_draw.proofs.Staying.{one, staying_first, staying_none, staying_one}

by_stay : (b : Bool) (t a1 a0 b1 b0 c : List ℕ) → (b ≡ true → a1 ≡ b1 ++ c) → (b ≡ false → a0 ≡ b0 ++ c) → (if b then t ++ a1 else a0) ≡ (if b then t ++ b1 else b0) ++ c
by_stay true t a1 a0 b1 b0 c there gone = ap (λ z. t ++ z) (there refl) ∙ sym (append_more t b1 c)
by_stay false t a1 a0 b1 b0 c there gone = gone refl

stubs_append : (all events : List WorldEvent) (row first : ℕ) (ps qs : List Posted) → stubs_drawn all events row first (ps ++ qs) ≡ stubs_drawn all events row first ps ++ stubs_drawn all events (row + staying events first (length ps)) (first + length ps) qs
unfolding stubs_drawn
stubs_append all events row first [] qs =
    let none : staying events first 0 ≡ 0 = staying_none events first in
    let e : row ≡ row + staying events first 0 = omega (arith, none) in
    let f : first ≡ first + 0 = omega arith in
    ap (λ m. stubs_drawn all events m first qs) e ∙ ap (λ m. stubs_drawn all events (row + staying events first 0) m qs) f
stubs_append all events row first (p ∷ ps) qs =
    by_stay (stays events first) (stub (stays all first) p.by_server (height row) (frame_short p))
    (stubs_drawn all events (row + 1) (suc first) (ps ++ qs)) (stubs_drawn all events row (suc first) (ps ++ qs))
    (stubs_drawn all events (row + 1) (suc first) ps) (stubs_drawn all events row (suc first) ps)
    (stubs_drawn all events (row + staying events first (suc (length ps))) (first + suc (length ps)) qs)
    (λ h. stubs_append all events (row + 1) (suc first) ps qs ∙ ap (λ z. stubs_drawn all events (row + 1) (suc first) ps ++ z) (same (row + 1) (here true h)))
    (λ h. stubs_append all events row (suc first) ps qs ∙ ap (λ z. stubs_drawn all events row (suc first) ps ++ z) (same row (gone h)))
  where
    here : (b : Bool) → stays events first ≡ b → row + staying events first (suc (length ps)) ≡ (row + one b) + staying events (suc first) (length ps)
    here b h =
        let e : staying events first (suc (length ps)) ≡ one (stays events first) + staying events (suc first) (length ps) = staying_first events first (length ps) in
        let o : one (stays events first) ≡ one b = ap one h in
        omega (arith, e, o)

    gone : stays events first ≡ false → row + staying events first (suc (length ps)) ≡ row + staying events (suc first) (length ps)
    gone h =
        let e : staying events first (suc (length ps)) ≡ one (stays events first) + staying events (suc first) (length ps) = staying_first events first (length ps) in
        let o : one (stays events first) ≡ 0 = ap one h in
        omega (arith, e, o)

    same : (at : ℕ) → row + staying events first (suc (length ps)) ≡ at + staying events (suc first) (length ps) → stubs_drawn all events (at + staying events (suc first) (length ps)) (suc first + length ps) qs ≡ stubs_drawn all events (row + staying events first (suc (length ps))) (first + suc (length ps)) qs
    same at e =
        let f : suc first + length ps ≡ first + suc (length ps) = omega arith in
        ap (λ m. stubs_drawn all events m (suc first + length ps) qs) (sym e) ∙ ap (λ m. stubs_drawn all events (row + staying events first (suc (length ps))) m qs) f

take_plus : {A : Type 0} (n : ℕ) (xs : List A) → take (suc n) xs ≡ take n xs ++ take 1 (drop n xs)
take_plus zero xs = refl
take_plus (suc n) [] = refl
take_plus (suc n) (x ∷ xs) = ap (λ z. x ∷ z) (take_plus n xs)

drop_plus : {A : Type 0} (n m : ℕ) (xs : List A) → drop n (drop m xs) ≡ drop (m + n) xs
drop_plus n zero xs = let e : n ≡ 0 + n = omega arith in ap (λ k. drop k xs) e
drop_plus n (suc m) [] = drop-nil n ∙ sym (drop-nil (suc m + n))
drop_plus n (suc m) (x ∷ xs) = let e : suc (m + n) ≡ suc m + n = omega arith in drop_plus n m xs ∙ ap (λ k. drop k (x ∷ xs)) e

between_here : (n : ℕ) (posts : List Posted) → between n (n + 1) posts ≡ take 1 (drop n posts)
between_here n posts = let e : n + 1 - n ≡ 1 = omega arith in ap (λ k. take k (drop n posts)) e

between_more : (first n : ℕ) (posts : List Posted) → first ≤ n → between first (n + 1) posts ≡ between first n posts ++ between n (n + 1) posts
between_more first n posts low =
    let k : n + 1 - first ≡ suc (n - first) = omega (arith, low) in
    let at : first + (n - first) ≡ n = omega (arith, low) in
    ap (λ m. take m (drop first posts)) k
    ∙ (take_plus (n - first) (drop first posts)
    ∙ (ap (λ z. take (n - first) (drop first posts) ++ take 1 z) (drop_plus (n - first) first posts ∙ ap (λ m. drop m posts) at)
    ∙ ap (λ z. between first n posts ++ z) (sym (between_here n posts))))

-- one frame more
pub stubs_more : (all events : List WorldEvent) (start row first n : ℕ) (posts : List Posted) (before text new : List ℕ) → first ≤ n → n ≤ length posts → row ≡ start + staying events first (n - first) → text ≡ before ++ stubs_drawn all events (start + 1) first (between first n posts) → new ≡ text ++ stubs_drawn all events (row + 1) n (between n (n + 1) posts) → new ≡ before ++ stubs_drawn all events (start + 1) first (between first (n + 1) posts)
stubs_more all events start row first n posts before text new low high at was now =
    let long : length (between first n posts) ≡ n - first = length_between first n posts low high in
    let more = stubs_append all events (start + 1) first (between first n posts) (between n (n + 1) posts) in
    let rows : row + 1 ≡ (start + 1) + staying events first (length (between first n posts)) = omega (arith, at, ap (staying events first) long) in
    let place : n ≡ first + length (between first n posts) = omega (arith, low, long) in
    now
    ∙ (ap (λ z. z ++ stubs_drawn all events (row + 1) n (between n (n + 1) posts)) was
    ∙ (append_more before (stubs_drawn all events (start + 1) first (between first n posts)) (stubs_drawn all events (row + 1) n (between n (n + 1) posts))
    ∙ ap (λ z. before ++ z)
    (ap (λ m. stubs_drawn all events (start + 1) first (between first n posts) ++ stubs_drawn all events m n (between n (n + 1) posts)) rows
    ∙ (ap (λ m. stubs_drawn all events (start + 1) first (between first n posts) ++ stubs_drawn all events ((start + 1) + staying events first (length (between first n posts))) m (between n (n + 1) posts)) place
    ∙ (sym more ∙ ap (stubs_drawn all events (start + 1) first) (sym (between_more first n posts low)))))))

pub rows_more : (events : List WorldEvent) (start row first n new : ℕ) → first ≤ n → row ≡ start + staying events first (n - first) → new ≡ row + staying events n 1 → new ≡ start + staying events first (n + 1 - first)
rows_more events start row first n new low was now =
    let k : n + 1 - first ≡ suc (n - first) = omega (arith, low) in
    let at : first + (n - first) ≡ n = omega (arith, low) in
    let more : staying events first (suc (n - first)) ≡ staying events first (n - first) + one (stays events (first + (n - first))) = staying_one events first (n - first) in
    let here : staying events n 1 ≡ one (stays events n) + staying events (suc n) 0 = staying_first events n 0 in
    let none : staying events (suc n) 0 ≡ 0 = staying_none events (suc n) in
    let same : one (stays events (first + (n - first))) ≡ one (stays events n) = ap (λ m. one (stays events m)) at in
    let e : staying events first (n + 1 - first) ≡ staying events first (suc (n - first)) = ap (staying events first) k in
    omega (arith, was, now, more, here, none, same, e)

pub rows_none : (events : List WorldEvent) (start first : ℕ) → start ≡ start + staying events first (first - first)
rows_none events start first =
    let none : staying events first 0 ≡ 0 = staying_none events first in
    let e : staying events first (first - first) ≡ staying events first 0 = ap (staying events first) (omega arith) in
    omega (arith, none, e)

pub stubs_none : (all events : List WorldEvent) (row first : ℕ) (posts : List Posted) (text : List ℕ) → text ≡ text ++ stubs_drawn all events row first (between first first posts)
unfolding stubs_drawn
stubs_none all events row first posts text =
    let e : first - first ≡ 0 = omega arith in
    sym (ap (λ m. text ++ stubs_drawn all events row first (take m (drop first posts))) e ∙ append_none text)

-- a frame of its own
stays_one : (events : List WorldEvent) (n : ℕ) (b : Bool) → stays events n ≡ b → staying events n 1 ≡ one b
stays_one events n b h =
    let here : staying events n 1 ≡ one (stays events n) + staying events (suc n) 0 = staying_first events n 0 in
    let none : staying events (suc n) 0 ≡ 0 = staying_none events (suc n) in
    omega (arith, here, none, ap one h)

pub row_stays : (events : List WorldEvent) (n row : ℕ) → true ≡ stays events n → row + 1 ≡ row + staying events n 1
row_stays events n row h = omega (arith, stays_one events n true (sym h))

pub row_goes : (events : List WorldEvent) (n row : ℕ) → false ≡ stays events n → row ≡ row + staying events n 1
row_goes events n row h = omega (arith, stays_one events n false (sym h))

none_at : (all events : List WorldEvent) (row n : ℕ) (ps : List Posted) → stays events n ≡ false → stubs_drawn all events row n (take 1 ps) ≡ []
unfolding stubs_drawn
none_at all events row n [] h = refl
none_at all events row n (p ∷ ps) h = rw h refl

one_at : (all events : List WorldEvent) (row n : ℕ) (p : Posted) → stays events n ≡ true → stubs_drawn all events row n (p ∷ []) ≡ stub (stays all n) p.by_server (height row) (frame_short p)
unfolding stubs_drawn
one_at all events row n p h = rw h (append_none (stub (stays all n) p.by_server (height row) (frame_short p)))

pub stub_none : (all events : List WorldEvent) (row n : ℕ) (posts : List Posted) (text : List ℕ) → false ≡ stays events n → text ≡ text ++ stubs_drawn all events row n (between n (n + 1) posts)
stub_none all events row n posts text h =
    sym (ap (λ z. text ++ z) (ap (stubs_drawn all events row n) (between_here n posts) ∙ none_at all events row n (drop n posts) (sym h)) ∙ append_none text)

pub stub_one : (all events : List WorldEvent) (row n : ℕ) (lost : Bool) (posts : List Posted) (p : Posted) (text new : List ℕ) → true ≡ stays events n → lost ≡ stays all n → slice_get posts n ≡ Some p → new ≡ text ++ stub lost p.by_server (height row) (frame_short p) → new ≡ text ++ stubs_drawn all events row n (between n (n + 1) posts)
stub_one all events row n lost posts p text new h is there now =
    let low : n ≤ n = omega arith in
    let zero_at : n - n ≡ 0 = omega arith in
    let first : slice_get (drop n posts) 0 ≡ Some p = ap (λ m. slice_get (drop n posts) m) (sym zero_at) ∙ (dropped n n posts low ∙ there) in
    let all_of : between n (n + 1) posts ≡ p ∷ [] = between_here n posts ∙ take_there (drop n posts) 0 p first in
    now ∙ ap (λ z. text ++ z)
    (ap (λ b. stub b p.by_server (height row) (frame_short p)) is
    ∙ (sym (one_at all events row n p (sym h)) ∙ ap (stubs_drawn all events row n) (sym all_of)))
