-- Arrays as functions from their indexes.
use Rattle.std.proofs.Common.{◌≡◌, ℕ, zero, suc, ap₂, refl, get_or}
use Rattle.std.specs.Prelude.{None, replicate}
use Rattle.std.proofs.Math.Path.{fun_ext}
use Rattle.lat_captures.specs.Sums.{Sums, no_account, no_sums, sums_of}

pub at_replicate : {A : Type 0} (n y : ℕ) (a : A) → get_or (replicate n a) y a ≡ a
at_replicate zero y a = refl
at_replicate (suc n) zero a = refl
at_replicate (suc n) (suc y) a = at_replicate n y a

pub empty_sums : sums_of (record { asked = replicate 256 None; slave = replicate 256 no_account; master = replicate 256 no_account }) ≡ no_sums
empty_sums =
    ap₂ (λ a b. let s : Sums = record { asked = a; slave = b; master = b } in s) (fun_ext (λ x. at_replicate 256 x None)) (fun_ext (λ y. at_replicate 256 y no_account))
