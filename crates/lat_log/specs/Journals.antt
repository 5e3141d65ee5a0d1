-- The log of a daemon, as it stands under its lock.
use Rattle.std.specs.Prelude.{ℕ, ◌+◌, ◌-◌, ◌^◌, min, Bool, true, false, List, [], ◌∷◌, ◌++◌, length, Option, Some, None, nat_le, nat_lt, if◌then◌else◌}
use Rattle.std.specs.List.{fold}
use Rattle.log.specs.Level.{allows}
use Rattle.log.specs.declared.level.LevelFilter.{LevelFilter}
use Rattle.log.specs.declared.level.LevelFilter.TheVariants as filters
use Rattle.lat_log.specs.BadRates.{blank, due, due_next, told_after, told_of}
use Rattle.lat_log.specs.Lines.{level_of}
use Rattle.lat_log.specs.Watches.{Seen, Sight, news_of, seen_next, services_new, services_next}
use Rattle.lat_log.specs.declared.bad_rate.BadRate.{BadRate}
use Rattle.lat_log.specs.declared.bad_rate.BadTold.{BadTold}
use Rattle.lat_log.specs.declared.entry.Entry.{Entry}
use Rattle.lat_log.specs.declared.entry.Entry.TheVariants.{Missed}
use Rattle.lat_log.specs.declared.entry.Offered.{Offered}
use Rattle.lat_log.specs.declared.hint.Hint.{Hint}
use Rattle.lat_log.specs.declared.trigger.Trigger.{Trigger}

-- an entry with its moment
pub record Told : Type 0 where
  pub moment : ℕ
  pub entry : Entry

pub record Kept : Type 0 where
  -- how much of the log is wanted
  pub level : LevelFilter
  -- what was seen last of the core
  pub watch : Seen
  pub rate : BadRate
  -- the entries that aren't handed out yet
  pub page : List Told
  -- how many had no room
  pub missed : ℕ

abbrev pub opened : LevelFilter → Seen → Kept
opened level watch = record { level = level; watch = watch; rate = blank; page = []; missed = 0 }

abbrev pub off_at : LevelFilter → Bool
off_at filters.Off = true
off_at level = false

-- nothing is wanted
abbrev pub is_off : Kept → Bool
is_off j = off_at j.level

abbrev pub placed : ℕ → Kept → Entry → Kept
placed moment j entry =
    if nat_le 1000 (length j.page) then record j { missed = min (j.missed + 1) (2 ^ 64 - 1) }
    else record j { page = j.page ++ record { moment = moment; entry = entry } ∷ [] }

-- with an entry more, where it is wanted; where there is no room it is counted
unfoldable pub added : ℕ → Kept → Entry → Kept
added moment j entry = if allows j.level (level_of entry) then placed moment j entry else j

-- with these entries more
abbrev pub all_added : ℕ → Kept → List Entry → Kept
all_added moment j news = fold (added moment) j news

abbrev pub some_added : ℕ → Kept → Option Entry → Kept
some_added moment j None = j
some_added moment j (Some entry) = added moment j entry

abbrev pub bad_told : ℕ → Kept → BadTold → Kept
bad_told moment j bad = some_added moment (some_added moment j bad.before) bad.own

-- with what is told of a bad payload, where it was one
abbrev pub hinted : ℕ → Kept → Option Entry → Kept
hinted moment j None = j
hinted moment j (Some entry) = bad_told moment (record j { rate = told_after j.rate moment }) (told_of j.rate moment entry)

-- with what is new of circuits, sessions and requests
abbrev pub seen_noted : ℕ → Kept → Trigger → Sight → Kept
seen_noted moment j trigger now =
    all_added moment (record j { watch = seen_next j.watch now }) (news_of j.watch trigger now)

-- behind an event
abbrev pub noted : ℕ → Kept → Hint → Sight → Kept
noted moment j hint now =
    if is_off j then j else if hint.concerns then seen_noted moment (hinted moment j hint.bad) hint.trigger now else hinted moment j hint.bad

-- with the number of bad payloads without a line, where their second is over
abbrev pub due_told : ℕ → Kept → Kept
due_told moment j = some_added moment (record j { rate = due_next j.rate moment }) (due j.rate moment)

abbrev pub offers_noted : ℕ → Kept → List Offered → Kept
offers_noted moment j now = all_added moment (record j { watch = services_next j.watch now }) (services_new j.watch now)

-- with what is new of services
abbrev pub services_noted : ℕ → Kept → List Offered → Kept
services_noted moment j now = if is_off j then j else offers_noted moment (due_told moment j) now

abbrev pub with_missed : ℕ → Kept → ℕ → Kept
with_missed moment j missed = if nat_lt 0 missed then added moment j (Missed missed) else j

-- behind its page, with a new one that begins with the number of those that had no room
abbrev pub turned : ℕ → Kept → Kept
turned moment j = with_missed moment (record j { page = []; missed = 0 }) j.missed
