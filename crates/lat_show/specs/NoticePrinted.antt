-- Notices in print.
use Rattle.std.specs.Prelude.{ℕ, List, [], ◌∷◌, ◌++◌, length, codes, decimal}
use Rattle.std.specs.List.{concat, flat_map}
use Rattle.lat_notices.specs.declared.notice.Announcement.{Announcement}
use Rattle.lat_notices.specs.declared.notice.Command.{Command}
use Rattle.lat_notices.specs.declared.notice.Status.{Status}
use Rattle.lat_notices.specs.declared.notice.Solicit.{Solicit}
use Rattle.lat_notices.specs.declared.notice.Response.{Response}
use Rattle.lat_notices.specs.declared.notice.Notice.{Notice}
use Rattle.lat_notices.specs.declared.notice.Notice.TheVariants as notices
use Rattle.lat_notices.specs.declared.services.Service.{Service}
use Rattle.lat_notices.specs.Outcomes.{action_number, outcome_number, outcome_place}
use Rattle.lat_text.specs.HexText.{hex_text}
use Rattle.lat_text.specs.Line.{line}
use Rattle.lat_text.specs.NameText.{name_text}

-- what a node tells of itself or of a service
unfoldable pub description_printed : List ℕ → List ℕ
description_printed description = codes " description " ++ hex_text description

-- how well a node can take a session of a service, and what it tells of the service
unfoldable pub rated_printed : ℕ → List ℕ → List ℕ
rated_printed rating description = concat (codes " rating " ∷ decimal rating ∷ description_printed description ∷ [])

-- the line of an announced service
unfoldable pub service_printed : Service → List ℕ
service_printed service = line (codes "service " ∷ name_text service.name ∷ rated_printed service.rating service.description ∷ [])

-- the first word of the line of a command or a status, and the request that it is about
unfoldable pub request_printed : List ℕ → ℕ → ℕ → List ℕ
request_printed word incarnation request =
    concat (word ∷ codes " version 5 incarnation " ∷ decimal incarnation ∷ codes " request " ∷ decimal request ∷ [])

-- a node and a service by name
unfoldable pub offer_printed : List ℕ → List ℕ → List ℕ
offer_printed node service = concat (codes " node " ∷ name_text node ∷ codes " service " ∷ name_text service ∷ [])

-- for how long an announcement stands, and which run of its node it is
unfoldable pub announcer_printed : Announcement → List ℕ
announcer_printed announcement =
    concat (codes "announcement timer " ∷ decimal announcement.timer ∷ codes " version 5 incarnation " ∷ decimal announcement.incarnation ∷ [])

-- which groups an announcement is for
unfoldable pub groups_printed : List ℕ → List ℕ
groups_printed groups = concat (codes " groups " ∷ hex_text groups ∷ [])

-- a node by name, and what it tells of itself
unfoldable pub node_printed : List ℕ → List ℕ → List ℕ
node_printed node description = concat (codes " node " ∷ name_text node ∷ description_printed description ∷ [])

unfoldable pub announcement_printed : Announcement → List ℕ
announcement_printed announcement =
    line (announcer_printed announcement
    ∷ groups_printed announcement.groups
    ∷ node_printed announcement.node announcement.description
    ∷ codes " services " ∷ decimal (length announcement.services) ∷ [])
    ++ flat_map service_printed announcement.services

unfoldable pub command_printed : Command → List ℕ
command_printed command =
    line (request_printed (codes "command") command.incarnation command.request
    ∷ codes " action " ∷ decimal (action_number command.action)
    ∷ offer_printed command.node command.service ∷ [])

-- an outcome, with the place in the queue, which is 0 unless the request waits
unfoldable pub outcome_printed : ℕ → ℕ → List ℕ
outcome_printed outcome place = concat (codes " outcome " ∷ decimal outcome ∷ codes " place " ∷ decimal place ∷ [])

unfoldable pub status_printed : Status → List ℕ
status_printed status =
    line (request_printed (codes "status") status.incarnation status.request ∷ outcome_printed (outcome_number status.outcome) (outcome_place status.outcome)
    ∷ codes " node " ∷ name_text status.node ∷ [])

-- the first word of the line of a solicit or a response, and the question that it is about
unfoldable pub question_printed : List ℕ → ℕ → List ℕ
question_printed word id = concat (word ∷ codes " version 5 id " ∷ decimal id ∷ [])

unfoldable pub solicit_printed : Solicit → List ℕ
solicit_printed solicit = line (question_printed (codes "solicit") solicit.id ∷ offer_printed solicit.asker solicit.service ∷ [])

unfoldable pub response_printed : Response → List ℕ
response_printed response =
    line (question_printed (codes "response") response.id
    ∷ offer_printed response.node response.service
    ∷ codes " rating " ∷ decimal response.rating
    ∷ codes " timer " ∷ decimal response.timer ∷ [])

-- the line of a notice, and behind that of an announcement the lines of its services
abbrev pub notice_printed : Notice → List ℕ
notice_printed (notices.Announcement announcement) = announcement_printed announcement
notice_printed (notices.Command command) = command_printed command
notice_printed (notices.Status status) = status_printed status
notice_printed (notices.Solicit solicit) = solicit_printed solicit
notice_printed (notices.Response response) = response_printed response
