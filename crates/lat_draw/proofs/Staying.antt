-- How many frames stay, counted frame by frame.
use Rattle.std.specs.Prelude.{if◌then◌else◌}
use Rattle.std.proofs.Common.{◌≡◌, ℕ, zero, suc, ◌+◌, ◌-◌, ◌≤◌, Bool, true, false, List, refl, sym, ap, ◌∙◌, arith}
use Rattle.lat_schedule.specs.declared.event.WorldEvent.{WorldEvent}
use Rattle.lat_draw.specs.Layout.{stays, staying}

-- as a number
abbrev pub one : Bool → ℕ
one true = 1
one false = 0

pub one_if : (b : Bool) → (if b then 1 else 0) ≡ one b
one_if true = refl
one_if false = refl

pub one_most : (b : Bool) → one b ≤ 1
one_most true = omega arith
one_most false = omega arith

pub staying_first : (events : List WorldEvent) (first k : ℕ) → staying events first (suc k) ≡ one (stays events first) + staying events (suc first) k
unfolding staying
staying_first events first k = ap (λ n. n + staying events (suc first) k) (one_if (stays events first))

pub staying_none : (events : List WorldEvent) (first : ℕ) → staying events first 0 ≡ 0
unfolding staying
staying_none events first = refl

-- one frame more
pub staying_one : (events : List WorldEvent) (first k : ℕ) → staying events first (suc k) ≡ staying events first k + one (stays events (first + k))
staying_one events first zero =
    let e : one (stays events first) ≡ one (stays events (first + 0)) = ap (λ n. one (stays events n)) (omega arith) in
    let a : staying events first 1 ≡ one (stays events first) + staying events (suc first) 0 = staying_first events first 0 in
    let b : staying events (suc first) 0 ≡ 0 = staying_none events (suc first) in
    let c : staying events first 0 ≡ 0 = staying_none events first in
    omega (arith, e, a, b, c)
staying_one events first (suc k) =
    let ih : staying events (suc first) (suc k) ≡ staying events (suc first) k + one (stays events (suc first + k)) = staying_one events (suc first) k in
    let e : one (stays events (suc first + k)) ≡ one (stays events (first + suc k)) = ap (λ n. one (stays events n)) (omega arith) in
    let a : staying events first (suc (suc k)) ≡ one (stays events first) + staying events (suc first) (suc k) = staying_first events first (suc k) in
    let b : staying events first (suc k) ≡ one (stays events first) + staying events (suc first) k = staying_first events first k in
    omega (arith, ih, e, a, b)

pub staying_more : (events : List WorldEvent) (first n count new : ℕ) (b : Bool) → first ≤ n → count ≡ staying events first (n - first) → b ≡ stays events n → new ≡ count + one b → new ≡ staying events first (n + 1 - first)
staying_more events first n count new b low was there now =
    let k : n + 1 - first ≡ suc (n - first) = omega (arith, low) in
    let at : first + (n - first) ≡ n = omega (arith, low) in
    let more : staying events first (suc (n - first)) ≡ staying events first (n - first) + one (stays events (first + (n - first))) = staying_one events first (n - first) in
    let here : one b ≡ one (stays events (first + (n - first))) = ap one there ∙ ap (λ m. one (stays events m)) (sym at) in
    let e : staying events first (n + 1 - first) ≡ staying events first (suc (n - first)) = ap (staying events first) k in
    omega (arith, more, here, e, was, now)

pub staying_none_yet : (events : List WorldEvent) (first : ℕ) → 0 ≡ staying events first (first - first)
staying_none_yet events first = sym (ap (staying events first) (omega arith) ∙ staying_none events first)
