-- What becomes of the frames of a schedule.
use Rattle.std.specs.Prelude.{◌≡◌, ℕ, ◌<◌, Bool, false, List, length, get_or, codes, decimal, nat_eq, if◌then◌else◌, ◌++◌}
use Rattle.std.specs.List.{filter}
use Rattle.lat_schedule.specs.declared.event.WorldEvent.{WorldEvent}
use Rattle.lat_schedule.specs.declared.event.WorldEvent.TheVariants.{Deliver}

-- an event that delivers the frame of this number
abbrev pub delivers : (frame : ℕ) → WorldEvent → Bool
delivers frame (Deliver index) = nat_eq index frame
delivers frame e = false

-- how often events deliver it
unfoldable pub deliveries : (frame : ℕ) → List WorldEvent → ℕ
deliveries frame events = length (filter (delivers frame) events)

abbrev pub fate_text : (deliveries : ℕ) → List ℕ
fate_text n = if nat_eq n 0 then codes "lost" else if nat_eq n 1 then codes "once" else decimal n ++ codes " times"

-- these are the numbers of deliveries of the first frames
abbrev pub AreCounts : List ℕ → List WorldEvent → Type 0
AreCounts counts events = (frame : ℕ) → frame < length counts → get_or counts frame 0 ≡ deliveries frame events
