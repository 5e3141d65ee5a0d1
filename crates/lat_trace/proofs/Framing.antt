-- The texts of frames and of entries, one after another.
use Rattle.std.proofs.Common.{◌≡◌, ℕ, zero, suc, ◌+◌, ◌-◌, ◌≤◌, take, drop, List, [], ◌∷◌, ◌++◌, Some, slice_get, refl, sym, ap, ◌∙◌, arith}
use Rattle.lat_machines.specs.world.Machines.{Posted}
use Rattle.lat_schedule.specs.declared.event.WorldEvent.{WorldEvent}
use Rattle.lat_trace.specs.Shown.{between}
use Rattle.lat_trace.specs.TraceText.{frame_text, frames_text}
use Rattle.lat_trace.proofs.Slices.{append_more}

same_post : (x p : Posted) → Some x ≡ Some p → x ≡ p
same_post x p q = cc

append_none : (xs : List ℕ) → xs ++ [] ≡ xs
append_none [] = refl
append_none (x ∷ xs) = ap (λ z. x ∷ z) (append_none xs)

-- one frame more
frames_take : (events : List WorldEvent) (first k : ℕ) (ps : List Posted) (p : Posted) → slice_get ps k ≡ Some p → frames_text events first (take (suc k) ps) ≡ frames_text events first (take k ps) ++ frame_text events (first + k) p
unfolding frames_text
frames_take events first k [] p q = let z : ⊥ = cc in absurd z
frames_take events first zero (x ∷ xs) p q = append_none (frame_text events first x) ∙ (ap (frame_text events first) (same_post x p q) ∙ ap (λ n. frame_text events n p) (omega arith))
frames_take events first (suc k) (x ∷ xs) p q =
    ap (λ z. frame_text events first x ++ z) (frames_take events (suc first) k xs p q ∙ ap (λ n. frames_text events (suc first) (take k xs) ++ frame_text events n p) (omega arith))
    ∙ sym (append_more (frame_text events first x) (frames_text events (suc first) (take k xs)) (frame_text events (first + suc k) p))

dropped : (first n : ℕ) (ps : List Posted) → first ≤ n → slice_get (drop first ps) (n - first) ≡ slice_get ps n
dropped zero n ps h = let same : n - 0 ≡ n = omega arith in ap (slice_get ps) same
dropped (suc first) n [] h = refl
dropped (suc first) zero (p ∷ ps) h = let z : ⊥ = omega (arith, h) in absurd z
dropped (suc first) (suc n) (p ∷ ps) h =
    let same : suc n - suc first ≡ n - first = omega arith in
    ap (slice_get (drop first ps)) same ∙ dropped first n ps (omega (arith, h))

pub frames_more : (events : List WorldEvent) (first n : ℕ) (posts : List Posted) (p : Posted) (before : List ℕ) (text new : List ℕ) → first ≤ n → slice_get posts n ≡ Some p → text ≡ before ++ frames_text events first (between first n posts) → new ≡ text ++ frame_text events n p → new ≡ before ++ frames_text events first (between first (suc n) posts)
frames_more events first n posts p before text new low there was now =
    let count : suc n - first ≡ suc (n - first) = omega (arith, low) in
    let place : first + (n - first) ≡ n = omega (arith, low) in
    let more = frames_take events first (n - first) (drop first posts) p (dropped first n posts low ∙ there) in
    now
    ∙ (ap (λ z. z ++ frame_text events n p) was
    ∙ (append_more before (frames_text events first (between first n posts)) (frame_text events n p)
    ∙ ap (λ z. before ++ z)
    (ap (λ m. frames_text events first (between first n posts) ++ frame_text events m p) (sym place)
    ∙ (sym more ∙ ap (λ m. frames_text events first (take m (drop first posts))) (sym count)))))

-- no frame yet
pub frames_none : (events : List WorldEvent) (first : ℕ) (posts : List Posted) (text : List ℕ) → text ≡ text ++ frames_text events first (between first first posts)
unfolding frames_text
frames_none events first posts text =
    let none : first - first ≡ 0 = omega arith in
    sym (append_none text) ∙ ap (λ n. text ++ frames_text events first (take n (drop first posts))) (sym none)
