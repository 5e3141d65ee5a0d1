-- What is printed of an event is read as the event.
use Rattle.std.specs.Prelude.{◌≡◌, ℕ, ◌+◌, Bool, true, false, List, [], ◌∷◌, ◌++◌, length, Some, codes}
use Rattle.std.specs.List.{flat_map}
use Rattle.hex.specs.Hex.{IsBytes}
use Rattle.lat_base.specs.declared.addr.Addr.{Addr}
use Rattle.lat_base.specs.declared.event.Event.{Event}
use Rattle.lat_base.specs.declared.event.Event.TheVariants.{Put, Set, Avoid, Ready, Halt}
use Rattle.lat_model.specs.Lists.{Each}
use Rattle.lat_text.specs.Lines.{Line, lines_of}
use Rattle.lat_schedule.specs.declared.event.WorldEvent.{WorldEvent}
use Rattle.lat_schedule.specs.declared.event.WorldEvent.TheVariants.{Local, Deliver, Inject}
use Rattle.lat_schedule.specs.declared.setup_line.Version.{Version}
use Rattle.lat_schedule.specs.EventLines.{event_of}
use Rattle.lat_schedule.specs.Events.{IsEvent}
use Rattle.lat_schedule.specs.EventText.{event_text}
use Rattle.lat_schedule.specs.Listed.{events_at, saturated_number}
use Rattle.lat_schedule.specs.Places.{Over, Numbered, numbered, is_silent}
use Rattle.lat_schedule.specs.Verbs.{is_third}

-- the bytes of a command are bytes
abbrev pub HasBytes : Event → Type 0
HasBytes (Put line bytes) = IsBytes bytes
HasBytes (Set line setting) = IsBytes setting
HasBytes event = Unit {0}

-- the bytes of an event are bytes, six of them in its address
abbrev pub AreBytes : WorldEvent → Type 0
AreBytes (Local server event) = HasBytes event
AreBytes (Deliver index) = Unit {0}
AreBytes (Inject server from payload) = (length from.0 ≡ 6) × IsBytes from.0 × IsBytes payload

-- the third version alone has these commands
abbrev pub HasCommand : Version → Event → Type 0
HasCommand version (Avoid line) = is_third version ≡ true
HasCommand version (Ready line ready) = is_third version ≡ true
HasCommand version Halt = is_third version ≡ true
HasCommand version event = Unit {0}

abbrev pub HasLine : Version → WorldEvent → Type 0
HasLine version (Local server event) = HasCommand version event
HasLine version (Deliver index) = Unit {0}
HasLine version (Inject server from payload) = Unit {0}

-- an event that a schedule of this version may tell, of bytes
pub record IsWritten (version : Version) (to : Addr) (e : WorldEvent) : Type 0 where
  pub event : IsEvent to e
  pub bytes : AreBytes e
  pub line : HasLine version e

-- its text is one line in front of any other, which isn't silent, and it is read as the event
pub record ReadsBack (version : Version) (to : Addr) (e : WorldEvent) : Type 0 where
  pub line : List ℕ
  pub ends : (rest : List ℕ) → lines_of (event_text e ++ rest) ≡ Line line (lines_of rest)
  pub says : is_silent line ≡ false
  pub is : event_of version to line ≡ Some e

abbrev pub EventsReadBack : Type 0
EventsReadBack = (version : Version) (to : Addr) (e : WorldEvent) → IsWritten version to e → ReadsBack version to e

-- the lines of events, in order
abbrev pub events_text : List WorldEvent → List ℕ
events_text es = flat_map event_text es

-- the numbers of their lines, of which the first is this
abbrev pub lines_from : ℕ → List WorldEvent → List ℕ
lines_from number [] = []
lines_from number (e ∷ es) = saturated_number number ∷ lines_from (number + 1) es

-- the lines of events in front of `end` are read as these events, whatever the number of the first, with the numbers of all
abbrev pub ListsReadBack : Type 0
ListsReadBack =
    (version : Version) (to : Addr) (es : List WorldEvent) → Each (IsWritten version to) es → (silent : Bool) (number : ℕ) →
    events_at version to (numbered silent number (lines_of (events_text es ++ codes "end\n")))
    ≡ (record { lines = lines_from number es; events = es }, Numbered (number + length es) (codes "end") (Over (number + length es + 1)))
