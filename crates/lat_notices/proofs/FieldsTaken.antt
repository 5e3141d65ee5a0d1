-- The texts of the fields that notices alone have are read as their values, whatever stands behind them.
use Rattle.std.proofs.Common.{◌≡◌, ℕ, suc, ◌+◌, ◌≤◌, Bool, true, leb, ltb, List, [], ◌∷◌, ◌++◌, length, Ok, refl, ap, ◌∙◌, arith, append_assoc, length-append}
use Rattle.std.specs.List.{flat_map, AllByRecursion}
use Rattle.std.proofs.lemmas.Bool.Decides.{nat_tests}
use Rattle.lat_base.specs.declared.field.Field.{Field}
use Rattle.lat_base.specs.declared.field.Field.TheVariants as fields
use Rattle.lat_base.specs.declared.kept.Kept.TheVariants.{Waiting, Granted, Cancelled, QueueFull, NoService, RecordsFull, Done}
use Rattle.lat_fields.specs.Texts.{counted, number}
use Rattle.lat_fields.proofs.Taken.{number_taken, counted_taken, name_taken}
use Rattle.lat_notices.specs.declared.notice.Action.{Action}
use Rattle.lat_notices.specs.declared.notice.Action.TheVariants as actions
use Rattle.lat_notices.specs.declared.notice.Outcome.{Outcome}
use Rattle.lat_notices.specs.declared.notice.Outcome.TheVariants.{Kept, Unknown}
use Rattle.lat_notices.specs.declared.services.Service.{Service}
use Rattle.lat_notices.specs.Outcomes.{action_number, outcome_number, outcome_place, IsOutcome}
use Rattle.lat_notices.specs.Services.{HasName, service_text}
use Rattle.lat_notices.specs.Fields.{byte_for, groups_at, action_at, outcome_at}
use Rattle.lat_notices.specs.ServicesReading.{service_at, services_at}

pub byte_taken : (right : ℕ → Bool) (f : Field) (place b : ℕ) (rest : List ℕ) → right b ≡ true → byte_for right f place (b ∷ rest) ≡ Ok (b, place + 1, rest)
unfolding byte_for
byte_taken right f place b rest h = rw h refl

pub groups_taken : (place : ℕ) (mask rest : List ℕ) → length mask ≤ 32 → groups_at place (counted mask ++ rest) ≡ Ok (mask, place + 1 + length mask, rest)
unfolding groups_at
groups_taken place mask rest h =
    let small : leb (length mask) 32 ≡ true = grind (arith, nat_tests) in
    rw (counted_taken fields.Groups place place mask rest, small) refl

pub action_taken : (a : Action) (place : ℕ) (rest : List ℕ) → action_at place (action_number a ∷ rest) ≡ Ok (a, place + 1, rest)
unfolding action_at
action_taken actions.Ask place rest = refl
action_taken actions.Cancel place rest = refl

pub outcome_taken : (o : Outcome) (place : ℕ) (rest : List ℕ) → IsOutcome o → outcome_at place (outcome_number o ∷ number (outcome_place o) ++ rest) ≡ Ok (o, place + 1 + 1 + 1, rest)
unfolding outcome_at
outcome_taken (Kept (Waiting queue)) place rest h =
    let some : ltb 0 queue ≡ true = grind (arith, nat_tests) in
    rw (number_taken fields.Place (place + 1) queue rest, some) refl
outcome_taken (Kept Granted) place rest h = rw (number_taken fields.Place (place + 1) 0 rest) refl
outcome_taken (Kept Cancelled) place rest h = rw (number_taken fields.Place (place + 1) 0 rest) refl
outcome_taken (Kept QueueFull) place rest h = rw (number_taken fields.Place (place + 1) 0 rest) refl
outcome_taken (Kept NoService) place rest h = rw (number_taken fields.Place (place + 1) 0 rest) refl
outcome_taken (Kept RecordsFull) place rest h = rw (number_taken fields.Place (place + 1) 0 rest) refl
outcome_taken (Kept Done) place rest h = rw (number_taken fields.Place (place + 1) 0 rest) refl
outcome_taken Unknown place rest h = rw (number_taken fields.Place (place + 1) 0 rest) refl

pub service_taken : (s : Service) (place : ℕ) (rest : List ℕ) → HasName s → service_at place (service_text s ++ rest) ≡ Ok (s, place + length (service_text s), rest)
unfolding service_at
service_taken s place rest h =
    let regroup : service_text s ++ rest ≡ s.rating ∷ (counted s.name ++ (counted s.description ++ rest)) = simp append_assoc in
    let at = place + 1 + 1 + length s.name in
    let places : at + 1 + length s.description ≡ place + length (service_text s) = simp length-append (omega arith) in
    ap (service_at place) regroup
    ∙ rw (name_taken fields.Service (place + 1) s.name (counted s.description ++ rest) h, counted_taken fields.ServiceDescription at at s.description rest) (ap (λ (n : ℕ). Ok (s, n, rest)) places)

pub services_taken : (ss : List Service) (place : ℕ) (rest : List ℕ) → AllByRecursion HasName ss
    → services_at (length ss) place (flat_map service_text ss ++ rest) ≡ Ok (ss, place + length (flat_map service_text ss), rest)
unfolding services_at
services_taken [] place rest all = let none : place ≡ place + 0 = omega arith in ap (λ (n : ℕ). Ok ([], n, rest)) none
services_taken (s ∷ ss) place rest all =
    let regroup : flat_map service_text (s ∷ ss) ++ rest ≡ service_text s ++ (flat_map service_text ss ++ rest) = append_assoc (service_text s) (flat_map service_text ss) rest in
    let places : place + length (service_text s) + length (flat_map service_text ss) ≡ place + length (flat_map service_text (s ∷ ss)) =
    omega (arith, length-append (service_text s) (flat_map service_text ss)) in
    ap (services_at (suc (length ss)) place) regroup
    ∙ rw (service_taken s place (flat_map service_text ss ++ rest) all.0, services_taken ss (place + length (service_text s)) rest all.1) (ap (λ (n : ℕ). Ok (s ∷ ss, n, rest)) places)
