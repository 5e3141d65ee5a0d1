-- What the events of a schedule are.
use Rattle.std.specs.Prelude.{◌≡◌, ◌^◌, ◌<◌, ◌≤◌, Bool, true, false, length}
use Rattle.lat_base.specs.Names.{IsName}
use Rattle.lat_base.specs.declared.addr.Addr.{Addr}
use Rattle.lat_base.specs.declared.event.Event.{Event}
use Rattle.lat_base.specs.declared.event.Event.TheVariants.{Heard, Time, Connect, Put, Set, Take, Attend, Close, Request, Cancel, Announce, Avoid, Ready, Halt}
use Rattle.lat_schedule.specs.declared.event.WorldEvent.{WorldEvent}
use Rattle.lat_schedule.specs.declared.event.WorldEvent.TheVariants.{Local, Deliver, Inject}

-- What an end may be told. A frame is heard by its delivery alone, and requests go to the server at this address
abbrev pub IsTold : Addr → (server : Bool) → Event → Type 0
IsTold to server (Heard from payload now) = ⊥
IsTold to server (Time now) = now < 10 ^ 15
IsTold to server (Connect line service) = (server ≡ true) × (line ≤ 255) × IsName service
IsTold to server (Put line bytes) = (line ≤ 255) × (1 ≤ length bytes) × (length bytes ≤ 4096)
IsTold to server (Set line setting) = (line ≤ 255) × (length setting ≡ 5)
IsTold to server (Take line n) = (line ≤ 255) × (n ≤ 4096)
IsTold to server (Attend line flag) = (line ≤ 255) × (flag ≤ 255)
IsTold to server (Close line) = line ≤ 255
IsTold to server (Request at id service) = (server ≡ false) × (at ≡ to) × (id ≤ 65535) × IsName service
IsTold to server (Cancel id) = (server ≡ false) × (id ≤ 65535)
IsTold to server Announce = server ≡ false
IsTold to server (Avoid line) = (server ≡ true) × (line ≤ 255)
IsTold to server (Ready line ready) = (server ≡ true) × (line ≤ 255)
IsTold to server Halt = Unit {0}

-- what an event of a schedule is
abbrev pub IsEvent : Addr → WorldEvent → Type 0
IsEvent to (Local server event) = IsTold to server event
IsEvent to (Deliver index) = index < 10 ^ 9
IsEvent to (Inject server from payload) = length payload ≤ 4096
