-- What a START tells, and what is noted of sessions.
use Rattle.std.proofs.Common.{◌≡◌, ℕ, zero, suc, ◌<◌, Bool, true, false, not, ◌&&◌, cond, nat_eq, List, [], ◌∷◌, length, map, drop, get_or, min, refl, sym, ap, ◌∙◌, arith}
use Rattle.lat_fields.specs.declared.params.Param.{Param as ReadParam}
use Rattle.lat_machines.specs.values.Timing.{is_wide}
use Rattle.lat_circuit.specs.Messages.{param_shown}

-- the entry at a place decides where its code is 200
pub wide_at : (ps : List ReadParam) (i : ℕ) (p : ReadParam) → i < length ps → p ≡ get_or ps i p
    → is_wide (map param_shown (drop i ps)) ≡ cond (nat_eq p.code 200) (is_wide (record { code = 200; bytes = p.bytes } ∷ [])) (is_wide (map param_shown (drop (suc i) ps)))
wide_at [] i p lt is = absurd (omega (arith, lt))
wide_at (q ∷ ps) zero p lt is =
    ap (λ (z : ReadParam). cond (nat_eq z.code 200) (is_wide (record { code = 200; bytes = z.bytes } ∷ [])) (is_wide (map param_shown ps))) (sym is)
wide_at (q ∷ ps) (suc i) p lt is = wide_at ps i p (omega (arith, lt)) is

pub min_again : (stated r a b : ℕ) → r ≡ min stated a → a ≡ b → min r b ≡ min stated b
min_again stated r a b e f = omega (arith, e, f)

-- what was and no longer is

pub is_lost : (w i x y : Bool) → w ≡ x → i ≡ not y → w ≡ true → i ≡ false → (x && y) ≡ true
is_lost w i x y was is before after = ap (λ z. z && y) (sym was ∙ before) ∙ gone y (sym is ∙ after)
  where
    gone : (y : Bool) → not y ≡ false → y ≡ true
    gone true e = refl
    gone false e = sym e

pub was_not : (w x y : Bool) → w ≡ x → w ≡ false → (x && y) ≡ false
was_not w x y was before = ap (λ z. z && y) (sym was ∙ before)

pub still_is : (i x y : Bool) → i ≡ not y → i ≡ true → (x && y) ≡ false
still_is i x y is after = there x y (sym is ∙ after)
  where
    there : (x y : Bool) → not y ≡ true → (x && y) ≡ false
    there x true e = absurd (cc)
    there true false e = refl
    there false false e = refl

-- the tests of `unused`, the cheap ones first
pub cheap_first : (m r o f : Bool) → ((m && r && o) && f) ≡ (m && r && f && o)
cheap_first false r o f = refl
cheap_first true false o f = refl
cheap_first true true true true = refl
cheap_first true true true false = refl
cheap_first true true false true = refl
cheap_first true true false false = refl
