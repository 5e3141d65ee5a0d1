-- Bytes at hand.
use Rattle.std.proofs.Common.{◌≡◌, ℕ, ◌+◌, ◌-◌, ◌≤◌, List, take, drop, length, length-take, sym, ap, ◌∙◌, arith}
use Rattle.std.specs.Prelude.{slice_range}
use Rattle.std.proofs.lemmas.List.{drop-take, drop-drop}

pub hand_took : (buf : List ℕ) (at end n : ℕ) → n ≤ length (slice_range buf at end) → slice_range buf (at + n) end ≡ drop n (slice_range buf at end)
hand_took buf at end n le =
    let most : n ≤ end - at = omega (arith, le, length-take (end - at) (drop at buf)) in
    let k = end - (at + n) in
    let whole : end - at ≡ n + k = omega (arith, most) in
    ap (take k) (sym (drop-drop n at buf)) ∙ sym (drop-take n k (drop at buf)) ∙ ap (λ m. drop n (take m (drop at buf))) (sym whole)
