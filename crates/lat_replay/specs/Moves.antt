-- What the events of a schedule are to the two machines.
use Rattle.std.specs.Prelude.{ℕ, Option}
use Rattle.lat_machines.specs.values.Addresses.{address}
use Rattle.lat_machines.specs.world.Machines.{Setups, Machines, Move, Does, HearsFrame, HearsForeign}
use Rattle.lat_payload.specs.Reads.{reading_of}
use Rattle.lat_lines.specs.Events.{event_shown}
use Rattle.lat_schedule.specs.declared.event.WorldEvent.{WorldEvent}
use Rattle.lat_schedule.specs.declared.event.WorldEvent.TheVariants.{Local, Deliver, Inject}
use Rattle.lat_wire.specs.declared.fault.EventFault.{EventFault}
use Rattle.lat_wire.specs.Rates.{rates}
use Rattle.lat_wire.specs.Refusals.{local_refusal, deliver_refusal, inject_refusal}
use Rattle.lat_wire.specs.Told.{IsLocal, moment_after}

-- a frame is heard by its delivery alone
abbrev pub IsPlayable : WorldEvent → Type 0
IsPlayable (Local server event) = IsLocal (event_shown event)
IsPlayable (Deliver index) = Unit {0}
IsPlayable (Inject server from payload) = Unit {0}

-- an event, at the moment of the schedule, with the ratings of the node's rule
abbrev pub move_of : Setups → Machines → (moment : ℕ) → WorldEvent → Move
move_of u w moment (Local server event) = Does server (event_shown event) (rates u w)
move_of u w moment (Deliver index) = HearsFrame index moment (rates u w)
move_of u w moment (Inject server from payload) = HearsForeign server (address from.0) (reading_of payload) moment (rates u w)

-- a time sets the moment
abbrev pub moment_behind : ℕ → WorldEvent → ℕ
moment_behind moment (Local server event) = moment_after moment (event_shown event)
moment_behind moment (Deliver index) = moment
moment_behind moment (Inject server from payload) = moment

-- why it is refused; None where it isn't
abbrev pub refusal_of : Setups → Machines → (moment : ℕ) → WorldEvent → Option EventFault
refusal_of u w moment (Local server event) = local_refusal w moment (event_shown event)
refusal_of u w moment (Deliver index) = deliver_refusal u w index
refusal_of u w moment (Inject server from payload) = inject_refusal u w (address from.0)
