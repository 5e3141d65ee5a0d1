-- The address of everyone.
use Rattle.std.proofs.Common.{◌≡◌, ℕ, zero, suc, ◌<◌, refl, ap, List, [], ◌∷◌, get_or, nat_eq, eqb-true, arith}
use Rattle.std.specs.Prelude.{bytes_eq}
use Rattle.std.proofs.lemmas.Bool.{eq-eqb}
use Rattle.std.proofs.lemmas.Bool.Decides.{same_from_decides}
use Rattle.std.proofs.lemmas.Slice.Eq.{bytes_eq-Decides}
use Rattle.lat_machines.specs.values.Addresses.{address, everyone}
use Rattle.lat_payload.proofs.Addresses.{IsStation, address_one}

abbrev all_bytes : List ℕ
all_bytes = 9 ∷ 0 ∷ 43 ∷ 0 ∷ 0 ∷ 15 ∷ []

small : (i : ℕ) → get_or all_bytes i 0 < 256
small zero = omega arith
small (suc zero) = omega arith
small (suc (suc zero)) = omega arith
small (suc (suc (suc zero))) = omega arith
small (suc (suc (suc (suc zero)))) = omega arith
small (suc (suc (suc (suc (suc zero))))) = omega arith
small (suc (suc (suc (suc (suc (suc i)))))) = omega arith

pub everyone_is : (xs : List ℕ) → IsStation xs → bytes_eq xs all_bytes ≡ nat_eq (address xs) everyone
everyone_is xs s =
    same_from_decides (bytes_eq xs all_bytes) (nat_eq (address xs) everyone) (bytes_eq-Decides xs all_bytes)
    (λ h. address_one xs all_bytes s (record { long = refl; small = small }) (eqb-true (address xs) everyone h), λ e. eq-eqb (address xs) everyone (ap address e))
