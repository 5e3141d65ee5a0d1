-- Reading notices: the fields behind the first byte, from place 1 on, in the order of their layouts.
use Rattle.std.specs.Prelude.{ℕ, List, Result, Ok}
use Rattle.lat_base.specs.declared.field.Bad.{Bad}
use Rattle.lat_base.specs.declared.field.Field.TheVariants as fields
use Rattle.lat_fields.specs.Reading.{◌>>=◌, byte_at, number_at, counted_at, name_at}
use Rattle.lat_fields.specs.Payloads.{payload_at}
use Rattle.lat_notices.specs.declared.kind.NoticeKind.{NoticeKind}
use Rattle.lat_notices.specs.declared.kind.NoticeKind.TheVariants as kinds
use Rattle.lat_notices.specs.declared.notice.Notice.{Notice}
use Rattle.lat_notices.specs.declared.notice.Notice.TheVariants as notices
use Rattle.lat_notices.specs.Kinds.{kind_of}
use Rattle.lat_notices.specs.Fields.{is_version, is_timer, byte_for, groups_at, action_at, outcome_at}
use Rattle.lat_notices.specs.ServicesReading.{services_at}
use Rattle.lat_notices.specs.declared.services.Service.{Service}
use Rattle.lat_notices.specs.declared.notice.Action.{Action}
use Rattle.lat_notices.specs.declared.notice.Outcome.{Outcome}

abbrev pub announcement : ℕ → ℕ → List ℕ → List ℕ → List ℕ → List Service → Notice
announcement timer incarnation groups node description services =
    notices.Announcement (record { timer = timer; incarnation = incarnation; groups = groups; node = node; description = description; services = services })

abbrev pub command : ℕ → ℕ → Action → List ℕ → List ℕ → Notice
command incarnation request action node service =
    notices.Command (record { incarnation = incarnation; request = request; action = action; node = node; service = service })

abbrev pub status : ℕ → ℕ → Outcome → List ℕ → Notice
status incarnation request outcome node = notices.Status (record { incarnation = incarnation; request = request; outcome = outcome; node = node })

abbrev pub solicit : ℕ → List ℕ → List ℕ → Notice
solicit id asker service = notices.Solicit (record { id = id; asker = asker; service = service })

abbrev pub response : ℕ → List ℕ → List ℕ → ℕ → ℕ → Notice
response id node service rating timer = notices.Response (record { id = id; node = node; service = service; rating = rating; timer = timer })

unfoldable pub announcement_at : List ℕ → Result (Notice × ℕ × List ℕ) Bad
announcement_at bytes = do
  timer ← byte_for is_timer fields.Timer 1 bytes
  version ← byte_for is_version fields.Version timer.1 timer.2
  incarnation ← number_at fields.Incarnation version.1 version.2
  groups ← groups_at incarnation.1 incarnation.2
  node ← name_at fields.NodeName groups.1 groups.2
  description ← counted_at fields.Description node.1 node.1 node.2
  count ← byte_at fields.ServiceCount description.1 description.1 description.2
  services ← services_at count.0 count.1 count.2
  Ok (announcement timer.0 incarnation.0 groups.0 node.0 description.0 services.0, services.1, services.2)

unfoldable pub command_at : List ℕ → Result (Notice × ℕ × List ℕ) Bad
command_at bytes = do
  version ← byte_for is_version fields.Version 1 bytes
  incarnation ← number_at fields.Incarnation version.1 version.2
  request ← number_at fields.RequestId incarnation.1 incarnation.2
  action ← action_at request.1 request.2
  node ← name_at fields.NodeName action.1 action.2
  service ← name_at fields.Service node.1 node.2
  Ok (command incarnation.0 request.0 action.0 node.0 service.0, service.1, service.2)

unfoldable pub status_at : List ℕ → Result (Notice × ℕ × List ℕ) Bad
status_at bytes = do
  version ← byte_for is_version fields.Version 1 bytes
  incarnation ← number_at fields.Incarnation version.1 version.2
  request ← number_at fields.RequestId incarnation.1 incarnation.2
  outcome ← outcome_at request.1 request.2
  node ← name_at fields.NodeName outcome.1 outcome.2
  Ok (status incarnation.0 request.0 outcome.0 node.0, node.1, node.2)

unfoldable pub solicit_at : List ℕ → Result (Notice × ℕ × List ℕ) Bad
solicit_at bytes = do
  version ← byte_for is_version fields.Version 1 bytes
  id ← number_at fields.SolicitId version.1 version.2
  asker ← name_at fields.NodeName id.1 id.2
  service ← name_at fields.Service asker.1 asker.2
  Ok (solicit id.0 asker.0 service.0, service.1, service.2)

unfoldable pub response_at : List ℕ → Result (Notice × ℕ × List ℕ) Bad
response_at bytes = do
  version ← byte_for is_version fields.Version 1 bytes
  id ← number_at fields.SolicitId version.1 version.2
  node ← name_at fields.NodeName id.1 id.2
  service ← name_at fields.Service node.1 node.2
  rating ← byte_at fields.Rating service.1 service.1 service.2
  timer ← byte_for is_timer fields.Timer rating.1 rating.2
  Ok (response id.0 node.0 service.0 rating.0 timer.0, timer.1, timer.2)

-- the fields that a type has
abbrev pub fields_at : NoticeKind → List ℕ → Result (Notice × ℕ × List ℕ) Bad
fields_at kinds.Announcement bytes = announcement_at bytes
fields_at kinds.Command bytes = command_at bytes
fields_at kinds.Status bytes = status_at bytes
fields_at kinds.Solicit bytes = solicit_at bytes
fields_at kinds.Response bytes = response_at bytes

-- the notice that a payload is, or its first bad field
abbrev pub notice_read : List ℕ → Result Notice Bad
notice_read payload = payload_at kind_of (λ kind first bytes. fields_at kind bytes) payload
