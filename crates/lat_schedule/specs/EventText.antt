-- The line of an event, as it is printed.
use Rattle.std.specs.Prelude.{ℕ, Bool, List, [], ◌∷◌, ◌++◌, codes, decimal, if◌then◌else◌}
use Rattle.lat_base.specs.declared.addr.Addr.{Addr}
use Rattle.lat_base.specs.declared.event.Event.{Event}
use Rattle.lat_base.specs.declared.event.Event.TheVariants as events
use Rattle.lat_text.specs.AddressText.{address_text}
use Rattle.lat_text.specs.FlagText.{flag_text}
use Rattle.lat_text.specs.HexText.{byte_text, hex_text}
use Rattle.lat_text.specs.Line.{line}
use Rattle.lat_text.specs.NameText.{name_text}
use Rattle.lat_schedule.specs.declared.event.WorldEvent.{WorldEvent}
use Rattle.lat_schedule.specs.declared.event.WorldEvent.TheVariants.{Local, Deliver, Inject}
use Rattle.lat_schedule.specs.declared.verb.Verb.{Verb}
use Rattle.lat_schedule.specs.declared.verb.Verb.TheVariants.{Connect, Put, Set, Take, Attend, Close, Time, Request, Cancel, Avoid, Ready}
use Rattle.lat_schedule.specs.Verbs.{verb_word}

abbrev pub letter : (server : Bool) → List ℕ
letter server = if server then codes "s" else codes "n"

-- a verb and a number
abbrev pub numbered : Verb → ℕ → List ℕ
numbered verb number = verb_word verb ++ codes " " ++ decimal number

-- these and a further word
abbrev pub worded : Verb → ℕ → List ℕ → List ℕ
worded verb number word = numbered verb number ++ codes " " ++ word

-- what stands behind the letter of the end; nothing for what has no line
abbrev pub told_text : Event → List ℕ
told_text (events.Heard from payload now) = []
told_text (events.Time now) = numbered Time now
told_text (events.Connect place service) = worded Connect place (name_text service)
told_text (events.Put place bytes) = worded Put place (hex_text bytes)
told_text (events.Set place setting) = worded Set place (hex_text setting)
told_text (events.Take place n) = worded Take place (decimal n)
told_text (events.Attend place flag) = worded Attend place (byte_text flag)
told_text (events.Close place) = numbered Close place
told_text (events.Request to id service) = worded Request id (name_text service)
told_text (events.Cancel id) = numbered Cancel id
told_text events.Announce = codes "announce"
told_text (events.Avoid place) = numbered Avoid place
told_text (events.Ready place ready) = worded Ready place (flag_text ready)
told_text events.Halt = codes "halt"

abbrev pub local_text : (server : Bool) → Event → List ℕ
local_text server event = line (letter server ∷ codes " " ∷ told_text event ∷ [])

abbrev pub inject_text : (server : Bool) → Addr → List ℕ → List ℕ
inject_text server from payload = line (codes "inject " ∷ letter server ∷ codes " " ∷ address_text from ∷ codes " " ∷ hex_text payload ∷ [])

-- the line of an event, with the line feed that ends it
abbrev pub event_text : WorldEvent → List ℕ
event_text (Local server event) = local_text server event
event_text (Deliver index) = line (codes "deliver " ∷ decimal index ∷ [])
event_text (Inject server from payload) = inject_text server from payload
