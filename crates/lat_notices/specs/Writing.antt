-- Which notices can be written: those that have a text which a payload has room for. Of the names only the length counts.
use Rattle.std.specs.Prelude.{ℕ, ◌+◌, ◌≤◌, List, length, min}
use Rattle.std.specs.List.{sum_by}
use Rattle.lat_notices.specs.declared.services.Service.{Service}
use Rattle.lat_notices.specs.declared.notice.Notice.{Notice}
use Rattle.lat_notices.specs.declared.notice.Notice.TheVariants as notices
use Rattle.lat_notices.specs.Texts.{Suits}

-- how many bytes a name has; by its type it has at most 16
abbrev pub name_len : List ℕ → ℕ
name_len name = min (length name) 16

abbrev pub service_len : Service → ℕ
service_len s = 3 + name_len s.name + length s.description

-- how many bytes the fields behind the first byte have
abbrev pub fields_len : Notice → ℕ
fields_len (notices.Announcement a) = 8 + length a.groups + name_len a.node + length a.description + sum_by service_len a.services
fields_len (notices.Command c) = 8 + name_len c.node + name_len c.service
fields_len (notices.Status s) = 9 + name_len s.node
fields_len (notices.Solicit s) = 5 + name_len s.asker + name_len s.service
fields_len (notices.Response r) = 7 + name_len r.node + name_len r.service

-- what a notice has to be so that it can be written; that its names are names is in its type
pub record CanBeWritten (n : Notice) : Type 0 where
  pub suits : Suits n
  pub size : 1 + fields_len n ≤ 1500
