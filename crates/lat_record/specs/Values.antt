-- The bounds of what a core is made of, is told and answers: those of its values' types.
use Rattle.std.specs.Prelude.{◌≡◌, ℕ, ◌^◌, ◌<◌, ◌≤◌, List, length}
use Rattle.hex.specs.Hex.{IsBytes}
use Rattle.lat_base.specs.Names.{IsName}
use Rattle.lat_base.specs.declared.addr.Addr.{Addr}
use Rattle.lat_base.specs.declared.answer.Answer.{Answer}
use Rattle.lat_base.specs.declared.answer.Answer.TheVariants as answers
use Rattle.lat_base.specs.declared.event.Event.{Event}
use Rattle.lat_base.specs.declared.event.Event.TheVariants as events
use Rattle.lat_base.specs.declared.heard.Heard.{Heard}
use Rattle.lat_base.specs.declared.heard.Heard.TheVariants as heard
use Rattle.lat_base.specs.declared.item.Item.{Item}
use Rattle.lat_base.specs.declared.item.Item.TheVariants.{Byte, Set}
use Rattle.lat_base.specs.declared.kept.Kept.{Kept}
use Rattle.lat_base.specs.declared.kept.Kept.TheVariants as kept
use Rattle.lat_model.specs.Lists.{Each}
use Rattle.lat_past.specs.declared.past.Past.{Past}

pub record IsAddress (a : Addr) : Type 0 where
  pub six : length a.0 ≡ 6
  pub bytes : IsBytes a.0

-- an event whose numbers and bytes are those of its type
abbrev pub IsTold : Event → Type 0
IsTold (events.Heard from payload now) = IsAddress from × IsBytes payload × (now < 2 ^ 64)
IsTold (events.Time now) = now < 2 ^ 64
IsTold (events.Connect line service) = (line ≤ 255) × IsName service
IsTold (events.Put line bytes) = (line ≤ 255) × IsBytes bytes
IsTold (events.Set line setting) = (line ≤ 255) × IsBytes setting × (length setting ≡ 5)
IsTold (events.Take line n) = (line ≤ 255) × (n ≤ 65535)
IsTold (events.Attend line flag) = (line ≤ 255) × (flag ≤ 255)
IsTold (events.Close line) = line ≤ 255
IsTold (events.Request to id service) = IsAddress to × (id ≤ 65535) × IsName service
IsTold (events.Cancel id) = id ≤ 65535
IsTold events.Announce = Unit {0}
IsTold (events.Avoid line) = line ≤ 255
IsTold (events.Ready line ready) = line ≤ 255
IsTold events.Halt = Unit {0}

abbrev pub IsItem : Item → Type 0
IsItem (Byte byte) = byte < 256
IsItem (Set setting) = IsBytes setting

abbrev pub IsHeard : Heard → Type 0
IsHeard (heard.Taken slots) = slots < 2 ^ 64
IsHeard (heard.Broke reason) = reason < 2 ^ 64
IsHeard (heard.Ended reason) = reason < 2 ^ 64
IsHeard answer = Unit {0}

abbrev pub IsKept : Kept → Type 0
IsKept (kept.Waiting place) = place < 2 ^ 64
IsKept answer = Unit {0}

-- an answer whose numbers and bytes are those of its type
abbrev pub IsAnswer : Answer → Type 0
IsAnswer (answers.Circuit answer) = IsHeard answer
IsAnswer (answers.Started id) = id < 2 ^ 64
IsAnswer (answers.Kept answer) = IsKept answer
IsAnswer (answers.Bad bad) = bad.at < 2 ^ 64
IsAnswer (answers.Connected circuit session) = (circuit < 2 ^ 64) × (session < 2 ^ 64)
IsAnswer (answers.Put count) = count < 2 ^ 64
IsAnswer (answers.Took items) = Each IsItem items
IsAnswer answer = Unit {0}

pub record IsPast (p : Past) : Type 0 where
  pub event : IsTold p.event
  pub answer : IsAnswer p.answer
