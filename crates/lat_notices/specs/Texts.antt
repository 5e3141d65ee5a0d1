-- The texts of notices.
use Rattle.std.specs.Prelude.{◌≡◌, ℕ, ◌+◌, ◌*◌, ◌<◌, ◌≤◌, List, [], ◌∷◌, ◌++◌, length}
use Rattle.std.specs.List.{flat_map, AllByRecursion}
use Rattle.lat_base.specs.Names.{IsName}
use Rattle.lat_fields.specs.Texts.{counted, number}
use Rattle.lat_notices.specs.declared.kind.NoticeKind.{NoticeKind}
use Rattle.lat_notices.specs.declared.kind.NoticeKind.TheVariants as kinds
use Rattle.lat_notices.specs.declared.notice.Announcement.{Announcement}
use Rattle.lat_notices.specs.declared.notice.Command.{Command}
use Rattle.lat_notices.specs.declared.notice.Status.{Status}
use Rattle.lat_notices.specs.declared.notice.Solicit.{Solicit}
use Rattle.lat_notices.specs.declared.notice.Response.{Response}
use Rattle.lat_notices.specs.declared.notice.Notice.{Notice}
use Rattle.lat_notices.specs.declared.notice.Notice.TheVariants as notices
use Rattle.lat_notices.specs.Kinds.{bits_of}
use Rattle.lat_notices.specs.Outcomes.{action_number, outcome_number, outcome_place, IsOutcome}
use Rattle.lat_notices.specs.Services.{HasName, HasShortDescription, service_text}

-- its names are names, as its type has it
abbrev pub HasNames : Notice → Type 0
HasNames (notices.Announcement a) = IsName a.node × AllByRecursion HasName a.services
HasNames (notices.Command c) = IsName c.node × IsName c.service
HasNames (notices.Status s) = IsName s.node
HasNames (notices.Solicit s) = IsName s.asker × IsName s.service
HasNames (notices.Response r) = IsName r.node × IsName r.service

-- what an announcement must be beside its names
pub record IsAnnouncement (a : Announcement) : Type 0 where
  pub timer : 0 < a.timer
  pub groups : length a.groups ≤ 32
  pub description : length a.description < 256
  pub count : length a.services < 256
  pub services : AllByRecursion HasShortDescription a.services

-- What a notice must be beside its names to have a text. That each number fits in its one or two bytes is in its type.
abbrev pub Suits : Notice → Type 0
Suits (notices.Announcement a) = IsAnnouncement a
Suits (notices.Command c) = Unit {0}
Suits (notices.Status s) = IsOutcome s.outcome
Suits (notices.Solicit s) = Unit {0}
Suits (notices.Response r) = 0 < r.timer

pub record Fits (n : Notice) : Type 0 where
  pub names : HasNames n
  pub suits : Suits n

-- The five layouts behind their first byte. Each has the version 5.
abbrev pub announcement_text : Announcement → List ℕ
announcement_text a =
    a.timer ∷ 5 ∷ number a.incarnation
    ++ (counted a.groups
    ++ (counted a.node
    ++ (counted a.description
    ++ (length a.services ∷ flat_map service_text a.services))))

abbrev pub command_text : Command → List ℕ
command_text c = 5 ∷ number c.incarnation ++ (number c.request ++ (action_number c.action ∷ counted c.node ++ counted c.service))

abbrev pub status_text : Status → List ℕ
status_text s = 5 ∷ number s.incarnation ++ (number s.request ++ (outcome_number s.outcome ∷ number (outcome_place s.outcome) ++ counted s.node))

abbrev pub solicit_text : Solicit → List ℕ
solicit_text s = 5 ∷ number s.id ++ (counted s.asker ++ counted s.service)

abbrev pub response_text : Response → List ℕ
response_text r = 5 ∷ number r.id ++ (counted r.node ++ (counted r.service ++ (r.rating ∷ r.timer ∷ [])))

abbrev pub fields_text : Notice → List ℕ
fields_text (notices.Announcement a) = announcement_text a
fields_text (notices.Command c) = command_text c
fields_text (notices.Status s) = status_text s
fields_text (notices.Solicit s) = solicit_text s
fields_text (notices.Response r) = response_text r

abbrev pub type_of : Notice → NoticeKind
type_of (notices.Announcement a) = kinds.Announcement
type_of (notices.Command c) = kinds.Command
type_of (notices.Status s) = kinds.Status
type_of (notices.Solicit s) = kinds.Solicit
type_of (notices.Response r) = kinds.Response

-- b is a text of the notice; the two low bits of its first byte may be anything
pub record NoticeText (n : Notice) (b : List ℕ) : Type 0 where
  pub fits : Fits n
  pub low : ℕ
  pub low_bits : low < 4
  pub is : b ≡ (bits_of (type_of n) * 4 + low) ∷ fields_text n

-- the text that is written has 0 there
abbrev pub notice_text : Notice → List ℕ
notice_text n = (bits_of (type_of n) * 4) ∷ fields_text n

-- there is a text of the notice that a payload has room for
pub record IsWritable (n : Notice) : Type 0 where
  pub text : List ℕ
  pub of : NoticeText n text
  pub size : length text ≤ 1500
