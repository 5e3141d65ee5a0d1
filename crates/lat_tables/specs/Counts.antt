-- What a daemon counts.
use Rattle.std.specs.Prelude.{ℕ, ◌+◌, ◌-◌, ◌^◌, min, List, [], ◌∷◌, ◌++◌, length, map, Option, Some, None, replicate, slice_index, slice_set, ◌==◌, if◌then◌else◌}
use Rattle.std.specs.List.{flat_map}
use Rattle.lat_base.specs.declared.answer.Answer.{Answer}
use Rattle.lat_base.specs.declared.answer.Answer.TheVariants as answers
use Rattle.lat_base.specs.declared.event.Event.{Event}
use Rattle.lat_base.specs.declared.event.Event.TheVariants as events
use Rattle.lat_base.specs.declared.field.Field.{Field}
use Rattle.lat_base.specs.declared.heard.Heard.{Heard as Message}
use Rattle.lat_base.specs.declared.heard.Heard.TheVariants as messages
use Rattle.lat_base.specs.declared.outbox.Mark.{Mark}
use Rattle.lat_base.specs.declared.outbox.Mark.TheVariants as marks
use Rattle.lat_base.specs.declared.outbox.OutFrame.{OutFrame}
use Rattle.lat_log.specs.declared.entry.Entry.{Entry}
use Rattle.lat_log.specs.declared.entry.Entry.TheVariants as entries
use Rattle.lat_log.specs.declared.entry.Over.TheVariants as overs
use Rattle.lat_log.specs.declared.entry.SessionNews.{SessionNews}
use Rattle.lat_log.specs.declared.entry.SessionNews.TheVariants as session_news
use Rattle.lat_log.specs.declared.left.Left.{Left}
use Rattle.lat_tables.specs.FieldPlaces.{all_fields, field_place}
use Rattle.lat_tables.specs.Listings.{Cells}
use Rattle.lat_tables.specs.Tables.{Sheet}
use Rattle.lat_tables.specs.declared.cell.Cell.TheVariants as cells
use Rattle.lat_tables.specs.declared.column.Column.TheVariants as columns
use Rattle.lat_tables.specs.declared.counter.Counter.{Counter}
use Rattle.lat_tables.specs.declared.counter.Counter.TheVariants as counters
use Rattle.lat_tables.specs.declared.counters.Counters.{Counters}
use Rattle.lat_tables.specs.declared.counts.Count.{Count}

abbrev pub none : Counters
none = record {
  events = 0;
  heard = 0;
  sent = 0;
  sent_again = 0;
  stray = 0;
  foreign = 0;
  bad = replicate 47 0;
  starts_refused = 0;
  put = 0;
  taken = 0;
  closed = 0;
  by_circuit = 0;
  unseen = 0;
  no_service = 0;
  no_request = 0;
  no_room = 0;
  rejected = 0;
}

-- so many more; no count passes 2^64 - 1
abbrev pub more : ℕ → ℕ → ℕ
more n count = min (count + n) (2 ^ 64 - 1)

-- ---- events

abbrev pub told : Message → Counters → Counters
told messages.Foreign c = record c { foreign = more 1 c.foreign }
told heard c = c

-- what an answer says
abbrev pub answered : Answer → Counters → Counters
answered (answers.Circuit heard) c = told heard c
answered answers.StartRefused c = record c { starts_refused = more 1 c.starts_refused }
answered (answers.Bad bad) c =
    record c { bad = slice_set c.bad (field_place bad.field) (more 1 (slice_index c.bad (field_place bad.field))) }
answered (answers.Put count) c = record c { put = more count c.put }
answered (answers.Took items) c = record c { taken = more (length items) c.taken }
answered answer c = c

abbrev pub heard_by : Event → Counters → Counters
heard_by (events.Heard from payload now) c = record c { heard = more 1 c.heard }
heard_by event c = c

-- an event with its answer
abbrev pub counted : Event → Answer → Counters → Counters
counted event answer c = answered answer (heard_by event (record c { events = more 1 c.events }))

-- ---- frames

abbrev pub marked : Mark → Counters → Counters
marked (marks.Again below) c = record c { sent_again = more 1 c.sent_again }
marked mark c = c

-- a frame that was sent
abbrev pub framed : OutFrame → Counters → Counters
framed frame c = marked frame.mark (record c { sent = more 1 c.sent })

-- ---- sessions

abbrev pub rejected : ℕ → Counters → Counters
rejected reason c =
    if reason == 4 then record c { no_service = more 1 c.no_service }
    else if reason == 5 then record c { no_request = more 1 c.no_request }
    else if reason == 7 then record c { no_room = more 1 c.no_room }
    else record c { rejected = more 1 c.rejected }

-- what is new of a session
abbrev pub session : SessionNews → Counters → Counters
session (session_news.Rejected reason) c = rejected reason c
session (session_news.Ended overs.Closed flow) c = record c { closed = more 1 c.closed }
session (session_news.Ended (overs.Circuit reason) flow) c = record c { by_circuit = more 1 c.by_circuit }
session (session_news.Ended overs.Unseen flow) c = record c { unseen = more 1 c.unseen }
session session_news.Live c = c
session session_news.Hidden c = c

-- what an entry of the log says of sessions
abbrev pub with_news : Entry → Counters → Counters
with_news (entries.Session line s news) c = session news c
with_news entry c = c

-- ---- the table

abbrev pub counting : Counter → ℕ → Count
counting counter n = record { counter = counter; number = n }

abbrev pub counts : Counters → List Count
counts c =
    counting counters.Events c.events ∷ counting counters.Heard c.heard ∷ counting counters.Sent c.sent ∷ counting counters.SentAgain c.sent_again ∷ counting counters.Stray c.stray ∷ counting counters.Foreign c.foreign ∷ counting counters.StartsRefused c.starts_refused ∷ counting counters.BytesPut c.put ∷ counting counters.ItemsTaken c.taken ∷ counting counters.SessionsClosed c.closed ∷ counting counters.SessionsCircuit c.by_circuit ∷ counting counters.SessionsUnseen c.unseen ∷ counting counters.RejectedService c.no_service ∷ counting counters.RejectedRequest c.no_request ∷ counting counters.RejectedRoom c.no_room ∷ counting counters.RejectedOther c.rejected ∷ []

-- of records, where the core keeps requests
abbrev pub records_counts : Option ℕ → List Count
records_counts None = []
records_counts (Some records) = counting counters.RecordsLeft records ∷ []

-- what is left of what runs out
abbrev pub left_counts : Left → List Count
left_counts left = counting counters.IdsLeft left.ids ∷ records_counts left.records

-- how many frames had this field as their first bad one, where there were any
abbrev pub bad_counts : Counters → Field → List Count
bad_counts c field =
    if slice_index c.bad (field_place field) == 0 then [] else counting (counters.Bad field) (slice_index c.bad (field_place field)) ∷ []

abbrev pub count_row : Count → Cells
count_row x = cells.Counter x.counter ∷ cells.Number x.number ∷ []

-- each counter, behind them what is left, and behind that the fields of bad frames
abbrev pub counters_table : Counters → Left → Sheet
counters_table c left = record {
  columns = columns.Counter ∷ columns.Count ∷ [];
  rows = map count_row (counts c ++ (left_counts left ++ flat_map (bad_counts c) all_fields));
}
