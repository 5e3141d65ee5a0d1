-- The counters' names.
use Rattle.std.specs.Prelude.{ℕ, List, [], ◌++◌, codes}
use Rattle.lat_base.specs.FieldWords.{field_word}
use Rattle.lat_tables.specs.declared.counter.Counter.{Counter}
use Rattle.lat_tables.specs.declared.counter.Counter.TheVariants as counters

abbrev pub counter_word : Counter → List ℕ
counter_word counters.Events = codes "events"
counter_word counters.Heard = codes "frames-heard"
counter_word counters.Sent = codes "frames-sent"
counter_word counters.SentAgain = codes "frames-sent-again"
counter_word counters.Stray = codes "frames-stray"
counter_word counters.Foreign = codes "frames-foreign"
counter_word counters.StartsRefused = codes "starts-refused"
counter_word counters.BytesPut = codes "bytes-put"
counter_word counters.ItemsTaken = codes "items-taken"
counter_word counters.SessionsClosed = codes "sessions-closed"
counter_word counters.SessionsCircuit = codes "sessions-circuit"
counter_word counters.SessionsUnseen = codes "sessions-unseen"
counter_word counters.RejectedService = codes "rejected-no-such-service"
counter_word counters.RejectedRequest = codes "rejected-no-such-request"
counter_word counters.RejectedRoom = codes "rejected-no-room"
counter_word counters.RejectedOther = codes "rejected-otherwise"
counter_word counters.IdsLeft = codes "circuit-ids-left"
counter_word counters.RecordsLeft = codes "request-records-left"
counter_word (counters.Bad field) = codes "bad-"

-- behind the counter of bad frames its field
abbrev pub field_behind : Counter → List ℕ
field_behind (counters.Bad field) = field_word field
field_behind counter = []

abbrev pub counter_text : Counter → List ℕ
counter_text counter = counter_word counter ++ field_behind counter
