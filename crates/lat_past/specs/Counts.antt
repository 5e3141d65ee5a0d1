-- Whose event it is, what is kept of it, and what was put.
use Rattle.std.specs.Prelude.{ℕ, ◌==◌, List, length, sum_by, count_by, if◌then◌else◌}
use Rattle.lat_base.specs.Answers.{items_given}
use Rattle.lat_base.specs.declared.event.Event.{Event}
use Rattle.lat_base.specs.declared.event.Event.TheVariants as events
use Rattle.lat_base.specs.declared.answer.Answer.{Answer}
use Rattle.lat_base.specs.declared.answer.Answer.TheVariants as answers
use Rattle.lat_past.specs.declared.past.Past.{Past}

-- the seat of an event: 0 is the wire, a line has its number, 65 is the clock
abbrev pub seat_of : Event → ℕ
seat_of (events.Heard from payload now) = 0
seat_of (events.Connect line service) = line
seat_of (events.Put line bytes) = line
seat_of (events.Set line setting) = line
seat_of (events.Take line n) = line
seat_of (events.Attend line flag) = line
seat_of (events.Close line) = line
seat_of (events.Time now) = 65
seat_of (events.Request to id service) = 65
seat_of (events.Cancel id) = 65
seat_of events.Announce = 65
seat_of (events.Avoid line) = line
seat_of (events.Ready line ready) = line
seat_of events.Halt = 65

-- how many bytes are kept of an event
abbrev pub bytes_in : Event → ℕ
bytes_in (events.Heard from payload now) = length payload
bytes_in (events.Put line bytes) = length bytes
bytes_in e = 0

-- how many bytes an event would put
abbrev pub put_by : Event → ℕ
put_by (events.Put line bytes) = length bytes
put_by e = 0

-- how many bytes an answer says were put
abbrev pub put_of : Answer → ℕ
put_of (answers.Put n) = n
put_of a = 0

abbrev pub put_in : Past → ℕ
put_in p = put_of p.answer

abbrev pub bytes_put : List Past → ℕ
bytes_put history = sum_by put_in history

abbrev pub given_in : Past → ℕ
given_in p = items_given p.answer

abbrev pub items_taken : List Past → ℕ
items_taken history = sum_by given_in history

abbrev pub past : Event → Answer → Past
past event answer = record { event = event; answer = answer }

-- the events of a seat in a history
abbrev pub past_events : ℕ → List Past → ℕ
past_events seat h = count_by (λ p. seat_of p.event == seat) h

-- what is counted of an event, for its own seat alone
abbrev pub at_seat : (Past → ℕ) → ℕ → Past → ℕ
at_seat of_past seat p = if seat_of p.event == seat then of_past p else 0

-- the bytes of a seat that were put
abbrev pub past_bytes : ℕ → List Past → ℕ
past_bytes seat h = sum_by (at_seat put_in seat) h

-- the items that a seat took
abbrev pub past_items : ℕ → List Past → ℕ
past_items seat h = sum_by (at_seat given_in seat) h
