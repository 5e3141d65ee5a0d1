-- What an entry adds to the announcements that were heard, and what is printed of it.
use Rattle.std.specs.Prelude.{ℕ, zero, suc, ◌/◌, ◌%◌, List, [], ◌∷◌, ◌++◌, Option, Some, None, Result, Ok, Err, codes, decimal, if◌then◌else◌}
use Rattle.hex.specs.Hex.{encode_lower}
use Rattle.lat_base.specs.declared.addr.Addr.{Addr}
use Rattle.lat_base.specs.declared.field.Bad.{Bad}
use Rattle.lat_base.specs.FieldWords.{field_word}
use Rattle.lat_notices.specs.declared.notice.Announcement.{Announcement}
use Rattle.lat_text.specs.Line.{line}
use Rattle.lat_machines.specs.server.Directory.{HeardAnnouncement, Best, best, refuses}
use Rattle.lat_dir.specs.Stands.{heard}
use Rattle.lat_dir.specs.Announcements.{announcement_shown}
use Rattle.lat_show.specs.declared.choice.entry.Entry.{Entry}
use Rattle.lat_show.specs.declared.choice.entry.Entry.TheVariants as entries

-- the line that names the first bad field of what line N hears, and its place
abbrev pub bad_line : ℕ → Bad → List ℕ
bad_line number bad = line (codes "line " ∷ decimal number ∷ codes " bad " ∷ field_word bad.field ∷ codes " " ∷ decimal bad.at ∷ [])

-- the line that says that line N is refused, since 256 other nodes are live
abbrev pub full_line : ℕ → List ℕ
full_line number = line (codes "line " ∷ decimal number ∷ codes " full" ∷ [])

-- so many low bytes of a number, the highest first
abbrev pub low_bytes : ℕ → ℕ → List ℕ
low_bytes zero n = []
low_bytes (suc k) n = low_bytes k (n / 256) ++ n % 256 ∷ []

-- the line of a choice: the six bytes of the node's address in lower-case hex, and its rating
abbrev pub choice_line : Option Best → List ℕ
choice_line None = codes "none\n"
choice_line (Some chosen) = line (encode_lower (low_bytes 6 chosen.from) ∷ codes " " ∷ decimal chosen.rating ∷ [])

-- nothing is printed of an announcement that isn't refused, whether its groups are met or not
abbrev pub hear_printed : List ℕ → ℕ → ℕ → Result Announcement Bad → List HeardAnnouncement → List ℕ
hear_printed groups number at (Err bad) h = bad_line number bad
hear_printed groups number at (Ok announcement) h = if refuses groups at (announcement_shown announcement) h then full_line number else []

-- What line N prints, where these announcements were heard and not refused before
abbrev pub entry_printed : List ℕ → ℕ → List HeardAnnouncement → Entry → List ℕ
entry_printed groups number h (entries.Hear at from found) = hear_printed groups number at found h
entry_printed groups number h (entries.Best at service) = choice_line (best groups service at h)

abbrev pub with_heard : List ℕ → ℕ → Addr → Result Announcement Bad → List HeardAnnouncement → List HeardAnnouncement
with_heard groups at from (Err bad) h = h
with_heard groups at from (Ok announcement) h = heard groups at from announcement h

-- the announcements that were heard and not refused, once the line was heard too
abbrev pub heard_after : List ℕ → List HeardAnnouncement → Entry → List HeardAnnouncement
heard_after groups h (entries.Hear at from found) = with_heard groups at from found h
heard_after groups h (entries.Best at service) = h
