-- Announcements as the machines know them, and back: the announcement that is written of one of the machines.
use Rattle.std.specs.Prelude.{map}
use Rattle.lat_notices.specs.declared.services.Service.{Service}
use Rattle.lat_notices.specs.declared.notice.Announcement.{Announcement}
use Rattle.lat_machines.specs.values.Notices as model

abbrev pub service_shown : Service → model.Service
service_shown s = record { rating = s.rating; name = s.name; description = s.description }

abbrev pub service_of : model.Service → Service
service_of s = record { rating = s.rating; name = s.name; description = s.description }

abbrev pub announcement_shown : Announcement → model.Announcement
announcement_shown a = record {
  timer = a.timer;
  incarnation = a.incarnation;
  groups = a.groups;
  node = a.node;
  description = a.description;
  services = map service_shown a.services;
}

abbrev pub announcement_of : model.Announcement → Announcement
announcement_of a = record {
  timer = a.timer;
  incarnation = a.incarnation;
  groups = a.groups;
  node = a.node;
  description = a.description;
  services = map service_of a.services;
}
