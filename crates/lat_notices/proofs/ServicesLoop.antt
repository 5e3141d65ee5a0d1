-- The loop that reads services.
use Rattle.std.proofs.Common.{◌≡◌, ℕ, suc, List, [], ◌∷◌, ◌++◌, append_assoc, append-nil, Result, Ok, Err, refl, sym, ap, ◌∙◌}
use Rattle.lat_base.specs.declared.field.Bad.{Bad}
use Rattle.lat_fields.specs.declared.fault.LayoutFault.{LayoutFault}
use Rattle.lat_fields.specs.declared.fault.LayoutFault.TheVariants as faults
use Rattle.lat_fields.specs.Reading.{◌>>=◌, Fails}
use Rattle.lat_notices.specs.declared.services.Service.{Service}
use Rattle.lat_notices.specs.ServicesReading.{service_at, services_at}

-- what was read, behind these
abbrev pub with_front : List Service → Result (List Service × ℕ × List ℕ) Bad → Result (List Service × ℕ × List ℕ) Bad
with_front front read = read >>= (λ x. Ok (front ++ x.0, x.1, x.2))

with_front-more : (front : List Service) (s : Service) (read : Result (List Service × ℕ × List ℕ) Bad) → with_front (front ++ s ∷ []) read ≡ with_front front (read >>= (λ more. Ok (s ∷ more.0, more.1, more.2)))
with_front-more front s (Ok x) = ap (λ es. Ok (es, x.1, x.2)) (append_assoc front (s ∷ []) x.0)
with_front-more front s (Err b) = refl

-- nothing is left to read
pub ends : (front : List Service) (n at : ℕ) (bytes : List ℕ) (all : Result (List Service × ℕ × List ℕ) Bad)
    → with_front front (services_at n at bytes) ≡ all → n ≡ 0 → all ≡ Ok (front, at, bytes)
unfolding services_at
ends front n at bytes all same none =
    sym same ∙ ap (λ m. with_front front (services_at m at bytes)) none ∙ ap (λ es. Ok (es, at, bytes)) (append-nil front)

-- a service more
pub goes_on : (front : List Service) (k n at : ℕ) (bytes : List ℕ) (s : Service) (next : ℕ) (others : List ℕ) (all : Result (List Service × ℕ × List ℕ) Bad)
    → with_front front (services_at n at bytes) ≡ all → n ≡ suc k → service_at at bytes ≡ Ok (s, next, others) → with_front (front ++ s ∷ []) (services_at k next others) ≡ all
unfolding services_at
goes_on front k n at bytes s next others all same is read =
    with_front-more front s (services_at k next others)
    ∙ sym (sym same ∙ ap (λ m. with_front front (services_at m at bytes)) is ∙ rw read refl)

-- a fault in a service
pub no_service : (e : LayoutFault) (front : List Service) (k n at : ℕ) (bytes : List ℕ) (all : Result (List Service × ℕ × List ℕ) Bad)
    → with_front front (services_at n at bytes) ≡ all → n ≡ suc k → Fails e (service_at at bytes) → Fails e all
unfolding services_at
no_service faults.Memory front k n at bytes all same is read = tt
no_service (faults.Bad b) front k n at bytes all same is read = sym same ∙ ap (λ m. with_front front (services_at m at bytes)) is ∙ rw read refl
