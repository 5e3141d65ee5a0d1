-- What is heard of a payload.
use Rattle.std.specs.Prelude.{ℕ, List, Result, Ok, Err}
use Rattle.lat_base.specs.declared.field.Bad.{Bad}
use Rattle.lat_base.specs.declared.field.Field.TheVariants.{Kind}
use Rattle.lat_notices.specs.declared.notice.Announcement as notices
use Rattle.lat_notices.specs.declared.notice.Notice.{Notice}
use Rattle.lat_notices.specs.declared.notice.Notice.TheVariants.{Announcement}
use Rattle.lat_notices.specs.Reading.{notice_read}

-- the announcement that was read, or the first bad field; every other notice is refused by its first byte
abbrev pub only_announcement : Result Notice Bad → Result notices.Announcement Bad
only_announcement (Ok (Announcement announcement)) = Ok announcement
only_announcement (Ok notice) = Err (record { field = Kind; at = 0 })
only_announcement (Err bad) = Err bad

-- the announcement that a payload is, or the first bad field by which the reader of notices refuses it
abbrev pub announcement_read : List ℕ → Result notices.Announcement Bad
announcement_read payload = only_announcement (notice_read payload)
