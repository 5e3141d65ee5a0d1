-- The words of an event in a record.
use Rattle.std.specs.Prelude.{ℕ, List, ◌++◌, codes, decimal}
use Rattle.lat_base.specs.declared.addr.Addr.{Addr}
use Rattle.lat_base.specs.declared.event.Event.{Event}
use Rattle.lat_base.specs.declared.event.Event.TheVariants as events
use Rattle.lat_text.specs.AddressText.{address_text}
use Rattle.lat_text.specs.HexText.{hex_text}
use Rattle.lat_text.specs.NameText.{name_text}
use Rattle.lat_schedule.specs.EventText.{told_text}

-- a frame that was heard: its moment, its sender and its payload
abbrev pub heard_words : (from : Addr) → (payload : List ℕ) → (now : ℕ) → List ℕ
heard_words from payload now = codes "heard " ++ (decimal now ++ (codes " " ++ (address_text from ++ (codes " " ++ hex_text payload))))

-- a request: its number, its service, and the server that it goes to
abbrev pub request_words : (to : Addr) → (id : ℕ) → (service : List ℕ) → List ℕ
request_words to id service = codes "request " ++ (decimal id ++ (codes " " ++ (name_text service ++ (codes " " ++ address_text to))))

-- every other event has the words of a schedule, behind the letter of the end
abbrev pub event_words : Event → List ℕ
event_words (events.Heard from payload now) = heard_words from payload now
event_words (events.Request to id service) = request_words to id service
event_words (events.Time now) = told_text (events.Time now)
event_words (events.Connect place service) = told_text (events.Connect place service)
event_words (events.Put place bytes) = told_text (events.Put place bytes)
event_words (events.Set place setting) = told_text (events.Set place setting)
event_words (events.Take place n) = told_text (events.Take place n)
event_words (events.Attend place flag) = told_text (events.Attend place flag)
event_words (events.Close place) = told_text (events.Close place)
event_words (events.Cancel id) = told_text (events.Cancel id)
event_words events.Announce = told_text events.Announce
event_words (events.Avoid place) = told_text (events.Avoid place)
event_words (events.Ready place ready) = told_text (events.Ready place ready)
event_words events.Halt = told_text events.Halt
