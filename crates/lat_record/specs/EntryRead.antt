-- What the line of an event says.
use Rattle.std.specs.Prelude.{ℕ, ◌-◌, ◌^◌, Bool, true, false, List, [], ◌∷◌, Option, Some, None, option_map, option_and_then, length, bytes_eq, codes, ◌==◌, if◌then◌else◌}
use Rattle.std.specs.Result.{result_ok}
use Rattle.hex.specs.Hex.{decode_of, decode_sized}
use Rattle.lat_base.specs.declared.event.Event.{Event}
use Rattle.lat_base.specs.declared.event.Event.TheVariants as events
use Rattle.lat_text.specs.Digits.{address_of, byte_of}
use Rattle.lat_text.specs.NameWritten.{name_of}
use Rattle.lat_text.specs.Numbers.{number_within}
use Rattle.lat_text.specs.Words.{first_word, behind_word}
use Rattle.lat_schedule.specs.EventLines as schedule
use Rattle.lat_schedule.specs.EventLines.{◌>>=◌}
use Rattle.lat_record.specs.declared.entry.Entry.{Entry}
use Rattle.lat_record.specs.declared.verb.Verb.{Verb}
use Rattle.lat_record.specs.declared.verb.Verb.TheVariants.{Heard, Time, Connect, Put, Set, Take, Attend, Close, Request, Cancel, Announce, Avoid, Ready, Halt}

-- the bytes that hex digits write, or `-` for no byte
abbrev pub hex_of : List ℕ → Option (List ℕ)
hex_of text = if bytes_eq text (codes "-") then Some [] else if length text == 0 then None else result_ok (decode_of text)

abbrev pub line_of : List ℕ → Option ℕ
line_of text = schedule.line_of text

abbrev pub setting_of : List ℕ → Option (List ℕ)
setting_of text = schedule.setting_of text

abbrev pub flag_of : List ℕ → Option ℕ
flag_of text = schedule.flag_of text

abbrev pub bit_of : List ℕ → Option Bool
bit_of word = schedule.bit_of word

-- `T ADDR HEX`: each of these gives the event, and what stands behind the space that follows its words
abbrev pub heard_of : List ℕ → Option (Event × List ℕ)
heard_of text = do
  first ← first_word text
  second ← first_word first.1
  third ← first_word second.1
  now ← number_within 0 (2 ^ 64 - 1) first.0
  from ← address_of second.0
  payload ← hex_of third.0
  Some (events.Heard from payload now, third.1)

-- `T`
abbrev pub time_of : List ℕ → Option (Event × List ℕ)
time_of text = do
  first ← first_word text
  now ← number_within 0 (2 ^ 64 - 1) first.0
  Some (events.Time now, first.1)

-- `LINE NAME`
abbrev pub connect_of : List ℕ → Option (Event × List ℕ)
connect_of text = do
  first ← first_word text
  second ← first_word first.1
  line ← line_of first.0
  service ← name_of second.0
  Some (events.Connect line service, second.1)

-- `LINE HEX`
abbrev pub put_of : List ℕ → Option (Event × List ℕ)
put_of text = do
  first ← first_word text
  second ← first_word first.1
  line ← line_of first.0
  bytes ← hex_of second.0
  Some (events.Put line bytes, second.1)

-- `LINE HEX`, ten digits
abbrev pub set_of : List ℕ → Option (Event × List ℕ)
set_of text = do
  first ← first_word text
  second ← first_word first.1
  line ← line_of first.0
  setting ← setting_of second.0
  Some (events.Set line setting, second.1)

-- `LINE N`
abbrev pub take_of : List ℕ → Option (Event × List ℕ)
take_of text = do
  first ← first_word text
  second ← first_word first.1
  line ← line_of first.0
  n ← number_within 0 65535 second.0
  Some (events.Take line n, second.1)

-- `LINE HEX`, two digits
abbrev pub attend_of : List ℕ → Option (Event × List ℕ)
attend_of text = do
  first ← first_word text
  second ← first_word first.1
  line ← line_of first.0
  flag ← flag_of second.0
  Some (events.Attend line flag, second.1)

-- `LINE`
abbrev pub close_of : List ℕ → Option (Event × List ℕ)
close_of text = do
  first ← first_word text
  line ← line_of first.0
  Some (events.Close line, first.1)

-- `ID NAME ADDR`
abbrev pub request_of : List ℕ → Option (Event × List ℕ)
request_of text = do
  first ← first_word text
  second ← first_word first.1
  third ← first_word second.1
  id ← number_within 0 65535 first.0
  service ← name_of second.0
  to ← address_of third.0
  Some (events.Request to id service, third.1)

-- `ID`
abbrev pub cancel_of : List ℕ → Option (Event × List ℕ)
cancel_of text = do
  first ← first_word text
  id ← number_within 0 65535 first.0
  Some (events.Cancel id, first.1)

-- `LINE`
abbrev pub avoid_of : List ℕ → Option (Event × List ℕ)
avoid_of text = do
  first ← first_word text
  line ← line_of first.0
  Some (events.Avoid line, first.1)

-- `LINE FLAG`
abbrev pub ready_of : List ℕ → Option (Event × List ℕ)
ready_of text = do
  first ← first_word text
  second ← first_word first.1
  line ← line_of first.0
  ready ← bit_of second.0
  Some (events.Ready line ready, second.1)

-- the verbs of lines and requests
abbrev pub called : List ℕ → Option Verb
called word =
    if bytes_eq word (codes "connect") then Some Connect
    else if bytes_eq word (codes "set") then Some Set
    else if bytes_eq word (codes "attend") then Some Attend
    else if bytes_eq word (codes "close") then Some Close
    else if bytes_eq word (codes "request") then Some Request
    else if bytes_eq word (codes "cancel") then Some Cancel
    else if bytes_eq word (codes "avoid") then Some Avoid
    else if bytes_eq word (codes "ready") then Some Ready
    else None

-- the verb of a word
abbrev pub verb_of : List ℕ → Option Verb
verb_of word =
    if bytes_eq word (codes "heard") then Some Heard
    else if bytes_eq word (codes "put") then Some Put
    else if bytes_eq word (codes "take") then Some Take
    else if bytes_eq word (codes "time") then Some Time
    else if bytes_eq word (codes "announce") then Some Announce
    else if bytes_eq word (codes "halt") then Some Halt
    else called word

-- what stands behind a verb
abbrev pub told_of : Verb → List ℕ → Option (Event × List ℕ)
told_of Heard text = heard_of text
told_of Time text = time_of text
told_of Connect text = connect_of text
told_of Put text = put_of text
told_of Set text = set_of text
told_of Take text = take_of text
told_of Attend text = attend_of text
told_of Close text = close_of text
told_of Request text = request_of text
told_of Cancel text = cancel_of text
told_of Announce text = Some (events.Announce, text)
told_of Avoid text = avoid_of text
told_of Ready text = ready_of text
told_of Halt text = Some (events.Halt, text)

-- the words of an event, `->`, and the words of its answer
abbrev pub entry_of : List ℕ → Option Entry
entry_of line = do
  first ← first_word line
  verb ← verb_of first.0
  told ← told_of verb first.1
  answer ← behind_word (codes "->") told.1
  Some (record { event = told.0; answer = answer })
