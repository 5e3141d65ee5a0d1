-- The line of an event.
use Rattle.std.specs.Prelude.{ℕ, Bool, true, false, List, [], ◌∷◌, Option, Some, None, option_map, option_and_then, bytes_eq, codes, if◌then◌else◌}
use Rattle.std.specs.Result.{result_ok}
use Rattle.hex.specs.Hex.{decode_sized}
use Rattle.lat_base.specs.declared.addr.Addr.{Addr}
use Rattle.lat_base.specs.declared.event.Event.{Event}
use Rattle.lat_base.specs.declared.event.Event.TheVariants as events
use Rattle.lat_text.specs.Words.{first_word}
use Rattle.lat_text.specs.Numbers.{number_within, moment_of}
use Rattle.lat_text.specs.Digits.{address_of, byte_of, bytes_of, payload_of}
use Rattle.lat_text.specs.NameWritten.{name_of}
use Rattle.lat_schedule.specs.declared.event.WorldEvent.{WorldEvent}
use Rattle.lat_schedule.specs.declared.event.WorldEvent.TheVariants.{Local, Deliver, Inject}
use Rattle.lat_schedule.specs.declared.setup_line.Version.{Version}
use Rattle.lat_schedule.specs.declared.verb.Verb.{Verb}
use Rattle.lat_schedule.specs.declared.verb.Verb.TheVariants.{Connect, Put, Set, Take, Attend, Close, Time, Request, Cancel, Avoid, Ready}
use Rattle.lat_schedule.specs.Verbs.{verb_of, is_third, may_say}

-- what stands behind is read where this is right
infixl 10 ◌>>=◌
abbrev pub ◌>>=◌ : {A B : Type 0} → Option A → (A → Option B) → Option B
found >>= f = option_and_then f found

-- a line of an end
abbrev pub line_of : List ℕ → Option ℕ
line_of text = number_within 0 255 text

-- the number of a request
abbrev pub id_of : List ℕ → Option ℕ
id_of text = number_within 0 65535 text

-- the digits of a setting's five bytes
abbrev pub setting_of : List ℕ → Option (List ℕ)
setting_of text = result_ok (decode_sized text 5)

-- the two digits of a flag
abbrev pub flag_of : List ℕ → Option ℕ
flag_of (high ∷ low ∷ []) = byte_of high low
flag_of text = None

-- `LINE NAME`
abbrev pub connect_of : List ℕ → Option Event
connect_of text = do
  first ← first_word text
  line ← line_of first.0
  service ← name_of first.1
  Some (events.Connect line service)

-- `LINE BYTES`
abbrev pub put_of : List ℕ → Option Event
put_of text = do
  first ← first_word text
  line ← line_of first.0
  bytes ← bytes_of 2 8192 first.1
  Some (events.Put line bytes)

-- `LINE BYTES`, ten digits
abbrev pub set_of : List ℕ → Option Event
set_of text = do
  first ← first_word text
  line ← line_of first.0
  setting ← setting_of first.1
  Some (events.Set line setting)

-- `LINE N`
abbrev pub take_of : List ℕ → Option Event
take_of text = do
  first ← first_word text
  line ← line_of first.0
  n ← number_within 0 4096 first.1
  Some (events.Take line n)

-- `LINE BYTES`, two digits
abbrev pub attend_of : List ℕ → Option Event
attend_of text = do
  first ← first_word text
  line ← line_of first.0
  flag ← flag_of first.1
  Some (events.Attend line flag)

-- `LINE`
abbrev pub close_of : List ℕ → Option Event
close_of text = option_map events.Close (line_of text)

-- `T`, a moment
abbrev pub time_of : List ℕ → Option Event
time_of text = option_map events.Time (moment_of text)

-- `ID`
abbrev pub cancel_of : List ℕ → Option Event
cancel_of text = option_map events.Cancel (id_of text)

-- `ID NAME`, a request to the server at this address
abbrev pub request_of : Addr → List ℕ → Option Event
request_of to text = do
  first ← first_word text
  id ← id_of first.0
  service ← name_of first.1
  Some (events.Request to id service)

-- `LINE`
abbrev pub avoid_of : List ℕ → Option Event
avoid_of text = option_map events.Avoid (line_of text)

-- a flag as it is printed
abbrev pub bit_of : List ℕ → Option Bool
bit_of word = if bytes_eq word (codes "1") then Some true else if bytes_eq word (codes "0") then Some false else None

-- `LINE FLAG`
abbrev pub ready_of : List ℕ → Option Event
ready_of text = do
  first ← first_word text
  line ← line_of first.0
  ready ← bit_of first.1
  Some (events.Ready line ready)

-- what stands behind a verb
abbrev pub told_of : Addr → Verb → List ℕ → Option Event
told_of to Connect text = connect_of text
told_of to Put text = put_of text
told_of to Set text = set_of text
told_of to Take text = take_of text
told_of to Attend text = attend_of text
told_of to Close text = close_of text
told_of to Time text = time_of text
told_of to Request text = request_of to text
told_of to Cancel text = cancel_of text
told_of to Avoid text = avoid_of text
told_of to Ready text = ready_of text

-- the letter of an end: `s` for the server, `n` for the node
abbrev pub end_of : List ℕ → Option Bool
end_of word = if bytes_eq word (codes "s") then Some true else if bytes_eq word (codes "n") then Some false else None

-- behind the letter of an end: a verb that it may be told, and what goes with it
abbrev pub local_of : Version → Addr → Bool → List ℕ → Option WorldEvent
local_of version to server text = do
  first ← first_word text
  verb ← verb_of first.0
  event ← if may_say version server verb then told_of to verb first.1 else None
  Some (Local server event)

-- behind `deliver `: the number of a frame, below 10^9
abbrev pub deliver_of : List ℕ → Option WorldEvent
deliver_of text = option_map Deliver (number_within 0 999999999 text)

-- behind `inject `: `E ADDR HEX`
abbrev pub inject_of : List ℕ → Option WorldEvent
inject_of text = do
  first ← first_word text
  second ← first_word first.1
  server ← end_of first.0
  from ← address_of second.0
  payload ← payload_of second.1
  Some (Inject server from payload)

-- behind a first word: what it says of a frame that comes, or of an end
abbrev pub behind_of : Version → Addr → (word rest : List ℕ) → Option WorldEvent
behind_of version to word rest =
    if bytes_eq word (codes "deliver") then deliver_of rest
    else if bytes_eq word (codes "inject") then inject_of rest
    else end_of word >>= λ server. local_of version to server rest

-- every other event line
abbrev pub worded_of : Version → Addr → List ℕ → Option WorldEvent
worded_of version to line = do
  first ← first_word line
  behind_of version to first.0 first.1

-- a halt of the server or of the node, which the third version has
abbrev pub halt_of : List ℕ → Option WorldEvent
halt_of line =
    if bytes_eq line (codes "s halt") then Some (Local true events.Halt)
    else if bytes_eq line (codes "n halt") then Some (Local false events.Halt)
    else None

-- a line that says all without a further word
abbrev pub plain_of : Version → List ℕ → Option WorldEvent
plain_of version line =
    if bytes_eq line (codes "n announce") then Some (Local false events.Announce)
    else if is_third version then halt_of line
    else None

-- the other where there is none
abbrev pub or_else : Option WorldEvent → Option WorldEvent → Option WorldEvent
or_else None other = other
or_else (Some event) other = Some event

-- An event: a line that says all by itself, or one of several words. Requests go to the server at this address
abbrev pub event_of : Version → Addr → List ℕ → Option WorldEvent
event_of version to line = or_else (plain_of version line) (worded_of version to line)
