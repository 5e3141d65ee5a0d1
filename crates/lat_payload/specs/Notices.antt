-- Notices as the machines know them, and back: the notice that is written of one of the machines.
use Rattle.lat_notices.specs.declared.notice.Action.{Action}
use Rattle.lat_notices.specs.declared.notice.Action.TheVariants as actions
use Rattle.lat_notices.specs.declared.notice.Outcome.{Outcome}
use Rattle.lat_notices.specs.declared.notice.Outcome.TheVariants as outcomes
use Rattle.lat_notices.specs.declared.notice.Command.{Command}
use Rattle.lat_notices.specs.declared.notice.Status.{Status}
use Rattle.lat_notices.specs.declared.notice.Solicit.{Solicit}
use Rattle.lat_notices.specs.declared.notice.Response.{Response}
use Rattle.lat_notices.specs.declared.notice.Notice.{Notice}
use Rattle.lat_notices.specs.declared.notice.Notice.TheVariants as notices
use Rattle.lat_machines.specs.values.Notices as model
use Rattle.lat_dir.specs.Announcements.{announcement_shown, announcement_of}
use Rattle.lat_queue.specs.KeptValues.{kept_shown, kept_of}
use Rattle.lat_queue.specs.Tables.{HasPlace}

abbrev pub action_shown : Action → model.Action
action_shown actions.Ask = model.Ask
action_shown actions.Cancel = model.Cancel

abbrev pub action_of : model.Action → Action
action_of model.Ask = actions.Ask
action_of model.Cancel = actions.Cancel

abbrev pub outcome_shown : Outcome → model.Outcome
outcome_shown (outcomes.Kept k) = model.KeptAs (kept_shown k)
outcome_shown outcomes.Unknown = model.Unknown

abbrev pub outcome_of : model.Outcome → Outcome
outcome_of (model.KeptAs k) = outcomes.Kept (kept_of k)
outcome_of model.Unknown = outcomes.Unknown

abbrev pub command_shown : Command → model.Command
command_shown c = record {
  incarnation = c.incarnation;
  request = c.request;
  action = action_shown c.action;
  node = c.node;
  service = c.service;
}

abbrev pub command_of : model.Command → Command
command_of c = record {
  incarnation = c.incarnation;
  request = c.request;
  action = action_of c.action;
  node = c.node;
  service = c.service;
}

abbrev pub status_shown : Status → model.Status
status_shown s = record { incarnation = s.incarnation; request = s.request; outcome = outcome_shown s.outcome; node = s.node }

abbrev pub status_of : model.Status → Status
status_of s = record { incarnation = s.incarnation; request = s.request; outcome = outcome_of s.outcome; node = s.node }

abbrev pub solicit_shown : Solicit → model.Solicit
solicit_shown s = record { id = s.id; asker = s.asker; service = s.service }

abbrev pub solicit_of : model.Solicit → Solicit
solicit_of s = record { id = s.id; asker = s.asker; service = s.service }

abbrev pub response_shown : Response → model.Response
response_shown r = record { id = r.id; node = r.node; service = r.service; rating = r.rating; timer = r.timer }

abbrev pub response_of : model.Response → Response
response_of r = record { id = r.id; node = r.node; service = r.service; rating = r.rating; timer = r.timer }

abbrev pub notice_shown : Notice → model.Notice
notice_shown (notices.Announcement a) = model.AnnouncementNotice (announcement_shown a)
notice_shown (notices.Command c) = model.CommandNotice (command_shown c)
notice_shown (notices.Status s) = model.StatusNotice (status_shown s)
notice_shown (notices.Solicit s) = model.SolicitNotice (solicit_shown s)
notice_shown (notices.Response r) = model.ResponseNotice (response_shown r)

abbrev pub notice_of : model.Notice → Notice
notice_of (model.AnnouncementNotice a) = notices.Announcement (announcement_of a)
notice_of (model.CommandNotice c) = notices.Command (command_of c)
notice_of (model.StatusNotice s) = notices.Status (status_of s)
notice_of (model.SolicitNotice s) = notices.Solicit (solicit_of s)
notice_of (model.ResponseNotice r) = notices.Response (response_of r)

-- where it tells a place in the queue, it is one that a queue has
abbrev pub IsSendable : Outcome → Type 0
IsSendable (outcomes.Kept k) = HasPlace k
IsSendable outcomes.Unknown = Unit {0}
