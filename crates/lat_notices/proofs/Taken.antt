-- A text of a notice is read as that notice, whatever stands behind it.
use Rattle.std.proofs.Common.{◌≡◌, ℕ, ◌+◌, ◌<◌, true, List, ◌∷◌, ◌++◌, length, Ok, refl, ap, ◌∙◌, arith, append_assoc, length-append}
use Rattle.std.specs.List.{flat_map}
use Rattle.std.proofs.lemmas.Bool.Decides.{nat_tests}
use Rattle.lat_base.specs.declared.field.Field.TheVariants as fields
use Rattle.lat_fields.specs.Texts.{counted, number}
use Rattle.lat_fields.proofs.Taken.{number_taken, counted_taken, name_taken}
use Rattle.lat_notices.specs.declared.notice.Announcement.{Announcement}
use Rattle.lat_notices.specs.declared.notice.Command.{Command}
use Rattle.lat_notices.specs.declared.notice.Status.{Status}
use Rattle.lat_notices.specs.declared.notice.Solicit.{Solicit}
use Rattle.lat_notices.specs.declared.notice.Response.{Response}
use Rattle.lat_notices.specs.declared.notice.Notice.{Notice}
use Rattle.lat_notices.specs.declared.notice.Notice.TheVariants as notices
use Rattle.lat_notices.specs.Outcomes.{action_number, outcome_number, outcome_place}
use Rattle.lat_notices.specs.Services.{service_text}
use Rattle.lat_notices.specs.Texts.{Fits, announcement_text, command_text, status_text, solicit_text, response_text, fields_text, type_of}
use Rattle.lat_notices.specs.Fields.{is_version, is_timer}
use Rattle.lat_notices.specs.Reading.{announcement_at, command_at, status_at, solicit_at, response_at, fields_at}
use Rattle.lat_notices.proofs.FieldsTaken.{byte_taken, groups_taken, action_taken, outcome_taken, services_taken}

timer_right : (seconds : ℕ) → 0 < seconds → is_timer seconds ≡ true
timer_right seconds h = grind (arith, nat_tests)

announcement_taken : (a : Announcement) (rest : List ℕ) → Fits (notices.Announcement a) → announcement_at (announcement_text a ++ rest) ≡ Ok (notices.Announcement a, 1 + length (announcement_text a), rest)
unfolding announcement_at
announcement_taken a rest h =
    let services = flat_map service_text a.services ++ rest in
    let described = counted a.description ++ (length a.services ∷ services) in
    let named = counted a.node ++ described in
    let masked = counted a.groups ++ named in
    let regroup : announcement_text a ++ rest ≡ a.timer ∷ 5 ∷ number a.incarnation ++ masked = simp append_assoc in
    let node_at = 5 + 1 + length a.groups in
    let description_at = node_at + 1 + length a.node in
    let count_at = description_at + 1 + length a.description in
    let places : count_at + 1 + length (flat_map service_text a.services) ≡ 1 + length (announcement_text a) = simp length-append (omega arith) in
    ap announcement_at regroup
    ∙ rw (
      byte_taken is_timer fields.Timer 1 a.timer (5 ∷ number a.incarnation ++ masked) (timer_right a.timer h.suits.timer),
      byte_taken is_version fields.Version 2 5 (number a.incarnation ++ masked) refl,
      number_taken fields.Incarnation 3 a.incarnation masked,
      groups_taken 5 a.groups named h.suits.groups,
      name_taken fields.NodeName node_at a.node described h.names.0,
      counted_taken fields.Description description_at description_at a.description (length a.services ∷ services),
      services_taken a.services (count_at + 1) rest h.names.1,
    ) (ap (λ (n : ℕ). Ok (notices.Announcement a, n, rest)) places)

command_taken : (c : Command) (rest : List ℕ) → Fits (notices.Command c) → command_at (command_text c ++ rest) ≡ Ok (notices.Command c, 1 + length (command_text c), rest)
unfolding command_at
command_taken c rest h =
    let service = counted c.service ++ rest in
    let named = counted c.node ++ service in
    let acted = action_number c.action ∷ named in
    let requested = number c.request ++ acted in
    let regroup : command_text c ++ rest ≡ 5 ∷ number c.incarnation ++ requested = simp append_assoc in
    let service_at = 7 + 1 + length c.node in
    let places : service_at + 1 + length c.service ≡ 1 + length (command_text c) = simp length-append (omega arith) in
    ap command_at regroup
    ∙ rw (
      byte_taken is_version fields.Version 1 5 (number c.incarnation ++ requested) refl,
      number_taken fields.Incarnation 2 c.incarnation requested,
      number_taken fields.RequestId 4 c.request acted,
      action_taken c.action 6 named,
      name_taken fields.NodeName 7 c.node service h.names.0,
      name_taken fields.Service service_at c.service rest h.names.1,
    ) (ap (λ (n : ℕ). Ok (notices.Command c, n, rest)) places)

status_taken : (s : Status) (rest : List ℕ) → Fits (notices.Status s) → status_at (status_text s ++ rest) ≡ Ok (notices.Status s, 1 + length (status_text s), rest)
unfolding status_at
status_taken s rest h =
    let named = counted s.node ++ rest in
    let placed = outcome_number s.outcome ∷ number (outcome_place s.outcome) ++ named in
    let requested = number s.request ++ placed in
    let regroup : status_text s ++ rest ≡ 5 ∷ number s.incarnation ++ requested = simp append_assoc in
    let places : 9 + 1 + length s.node ≡ 1 + length (status_text s) = simp length-append (omega arith) in
    ap status_at regroup
    ∙ rw (
      byte_taken is_version fields.Version 1 5 (number s.incarnation ++ requested) refl,
      number_taken fields.Incarnation 2 s.incarnation requested,
      number_taken fields.RequestId 4 s.request placed,
      outcome_taken s.outcome 6 named h.suits,
      name_taken fields.NodeName 9 s.node rest h.names,
    ) (ap (λ (n : ℕ). Ok (notices.Status s, n, rest)) places)

solicit_taken : (s : Solicit) (rest : List ℕ) → Fits (notices.Solicit s) → solicit_at (solicit_text s ++ rest) ≡ Ok (notices.Solicit s, 1 + length (solicit_text s), rest)
unfolding solicit_at
solicit_taken s rest h =
    let service = counted s.service ++ rest in
    let named = counted s.asker ++ service in
    let regroup : solicit_text s ++ rest ≡ 5 ∷ number s.id ++ named = simp append_assoc in
    let service_at = 4 + 1 + length s.asker in
    let places : service_at + 1 + length s.service ≡ 1 + length (solicit_text s) = simp length-append (omega arith) in
    ap solicit_at regroup
    ∙ rw (
      byte_taken is_version fields.Version 1 5 (number s.id ++ named) refl,
      number_taken fields.SolicitId 2 s.id named,
      name_taken fields.NodeName 4 s.asker service h.names.0,
      name_taken fields.Service service_at s.service rest h.names.1,
    ) (ap (λ (n : ℕ). Ok (notices.Solicit s, n, rest)) places)

response_taken : (r : Response) (rest : List ℕ) → Fits (notices.Response r) → response_at (response_text r ++ rest) ≡ Ok (notices.Response r, 1 + length (response_text r), rest)
unfolding response_at
response_taken r rest h =
    let service = counted r.service ++ (r.rating ∷ r.timer ∷ rest) in
    let named = counted r.node ++ service in
    let regroup : response_text r ++ rest ≡ 5 ∷ number r.id ++ named = simp append_assoc in
    let service_at = 4 + 1 + length r.node in
    let rating_at = service_at + 1 + length r.service in
    let places : rating_at + 1 + 1 ≡ 1 + length (response_text r) = simp length-append (omega arith) in
    ap response_at regroup
    ∙ rw (
      byte_taken is_version fields.Version 1 5 (number r.id ++ named) refl,
      number_taken fields.SolicitId 2 r.id named,
      name_taken fields.NodeName 4 r.node service h.names.0,
      name_taken fields.Service service_at r.service (r.rating ∷ r.timer ∷ rest) h.names.1,
      byte_taken is_timer fields.Timer (rating_at + 1) r.timer rest (timer_right r.timer h.suits),
    ) (ap (λ (n : ℕ). Ok (notices.Response r, n, rest)) places)

-- the fields of a notice are read as it
pub fields_taken : (n : Notice) (rest : List ℕ) → Fits n → fields_at (type_of n) (fields_text n ++ rest) ≡ Ok (n, 1 + length (fields_text n), rest)
fields_taken (notices.Announcement a) rest h = announcement_taken a rest h
fields_taken (notices.Command c) rest h = command_taken c rest h
fields_taken (notices.Status s) rest h = status_taken s rest h
fields_taken (notices.Solicit s) rest h = solicit_taken s rest h
fields_taken (notices.Response r) rest h = response_taken r rest h
