-- What happens at the events of a schedule.
use Rattle.std.specs.Prelude.{ℕ, suc, List, [], ◌∷◌, length, drop, Option, Some, None, slice_get}
use Rattle.lat_base.specs.declared.answer.Answer.{Answer}
use Rattle.lat_lines.specs.Events.{event_shown}
use Rattle.lat_machines.specs.values.Addresses.{address}
use Rattle.lat_machines.specs.values.Events.{Hears}
use Rattle.lat_machines.specs.world.Machines.{Setups, Posted}
use Rattle.lat_payload.specs.Reads.{reading_of}
use Rattle.lat_replay.specs.Played.{State, next, refusal}
use Rattle.lat_schedule.specs.declared.event.WorldEvent.{WorldEvent}
use Rattle.lat_schedule.specs.declared.event.WorldEvent.TheVariants.{Local, Deliver, Inject}
use Rattle.lat_wire.specs.declared.fault.EventFault.{EventFault}
use Rattle.lat_wire.specs.Told.{answered, answered_to}

-- an event, and what happened at it
pub record Entry : Type 0 where
  pub number : ℕ  -- counted from 1
  pub moment : ℕ  -- of the schedule, behind the event
  pub event : WorldEvent
  pub came : Option Posted  -- the frame that it delivers
  pub answer : Option Answer  -- None where a frame comes to an end that it isn't for
  pub first : ℕ  -- the number of the first frame that it made
  pub frames : List Posted  -- all that it made

-- the frame that an event delivers, of those that were sent
abbrev pub came_in : List Posted → WorldEvent → Option Posted
came_in posts (Deliver index) = slice_get posts index
came_in posts e = None

-- what the end answers that is told it
abbrev pub answer_at : Setups → State → WorldEvent → Option Answer
answer_at u s (Local server event) = Some (answered u s.machines server (event_shown event))
answer_at u s (Deliver index) = answered_to u s.machines s.moment (slice_get s.machines.posts index)
answer_at u s (Inject server from payload) = Some (answered u s.machines server (Hears (address from.0) (reading_of payload) None s.moment))

-- the frames that were sent from one state to the other
abbrev pub made : State → State → List Posted
made s t = drop (length s.machines.posts) t.machines.posts

-- the event of this number, in the state in front of it
unfoldable pub entry_at : Setups → (number : ℕ) → State → WorldEvent → Entry
entry_at u number s e = record {
  number = number;
  moment = (next u s e).moment;
  event = e;
  came = came_in s.machines.posts e;
  answer = answer_at u s e;
  first = length s.machines.posts;
  frames = made s (next u s e);
}

-- nothing follows where an event is refused
abbrev pub unless_refused : Option EventFault → List Entry → List Entry
unless_refused None entries = entries
unless_refused (Some fault) entries = []

-- those of events, of which the first has this number: one for each, up to the first that is refused
unfoldable pub entries_from : Setups → (number : ℕ) → State → List WorldEvent → List Entry
entries_from u number s [] = []
entries_from u number s (e ∷ es) = unless_refused (refusal u s e) (entry_at u number s e ∷ entries_from u (suc number) (next u s e) es)
