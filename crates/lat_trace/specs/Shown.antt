-- What calls keep of a run.
use Rattle.std.specs.Prelude.{◌≡◌, ◌≢◌, ℕ, suc, ◌-◌, ◌≤◌, List, [], ◌∷◌, ◌++◌, length, take, drop, get_or, Option, None, Some, Result, Ok, Err, string_bytes}
use Rattle.lat_machines.specs.world.Machines.{Setups, Machines, Posted}
use Rattle.lat_model.specs.Lists.{Each}
use Rattle.lat_replay.specs.Played.{State, Through, Refused, next, played}
use Rattle.lat_replay.specs.Refusals.{refused_of}
use Rattle.lat_replay.specs.declared.play.Stopped.{Stopped}
use Rattle.lat_schedule.specs.declared.event.WorldEvent.{WorldEvent}
use Rattle.lat_wire.specs.Kept.{Kept}
use Rattle.lat_wire.specs.Stands.{Stands}
use Rattle.lat_wire.specs.declared.fault.EventFault.TheVariants.{Memory}
use Rattle.lat_trace.specs.declared.entry.Entry as kept
use Rattle.lat_trace.specs.declared.run.Run as runs
use Rattle.lat_trace.specs.declared.course.Course.{Course}
use Rattle.lat_trace.specs.declared.course.Course.TheVariants.{Told, Alone}
use Rattle.lat_trace.specs.declared.run.Stop.{Stop}
use Rattle.lat_trace.specs.Entries.{Entry, came_in, entry_at, entries_from}
use Rattle.lat_trace.specs.Runs.{Run}
use Rattle.lat_trace.specs.Courses.{told_of, stop_status}

-- an answer that an end gave, where nothing was refused
abbrev pub some_of : {A E : Type 0} → Result A E → Result (Option A) E
some_of (Ok a) = Ok (Some a)
some_of (Err e) = Err e

-- a wire stands for the machines at this moment
pub record IsAt {H : Type 0} (k : Kept H) (s : State) : Type 0 where
  pub machines : Stands k s.machines
  pub moment : k.moment ≡ s.moment

-- the frames from one number up to another
abbrev pub between : (first behind : ℕ) → List Posted → List Posted
between first behind posts = take (behind - first) (drop first posts)

-- what is kept of an event is this, by all frames that were sent
abbrev pub shown : List Posted → (number : ℕ) → WorldEvent → kept.Entry → Entry
shown posts number e k = record {
  number = number;
  moment = k.moment;
  event = e;
  came = came_in posts e;
  answer = k.answer;
  first = k.first;
  frames = between k.first k.behind posts;
}

-- what is kept of events, of which the first has this number
unfoldable pub shown_from : List Posted → (number : ℕ) → List kept.Entry → List WorldEvent → List Entry
shown_from posts number [] es = []
shown_from posts number (k ∷ ks) [] = []
shown_from posts number (k ∷ ks) (e ∷ es) = shown posts number e k ∷ shown_from posts (suc number) ks es

-- its frames are among so many
abbrev pub IsWithin : (sent : ℕ) → kept.Entry → Type 0
IsWithin sent k = (k.first ≤ k.behind) × (k.behind ≤ sent)

-- what is kept of an event is that of this one, in the state in front of it, whatever is sent later
pub record ShowsEvent (u : Setups) (s : State) (e : WorldEvent) (k : kept.Entry) : Type 0 where
  pub is : (number : ℕ) (more : List Posted) → shown ((next u s e).machines.posts ++ more) number e k ≡ entry_at u number s e
  pub within : IsWithin (length (next u s e).machines.posts) k

-- it was added to what was kept before
abbrev pub Enters : Setups → State → WorldEvent → (before now : List kept.Entry) → Type 0
Enters u s e before now = (k : kept.Entry) × (now ≡ before ++ k ∷ []) × ShowsEvent u s e k

-- The entries are those of events from a state on, whatever is sent behind the other state, and their frames were sent there
pub record AreEntries (u : Setups) (s : State) (es : List WorldEvent) (t : State) (ks : List kept.Entry) : Type 0 where
  pub shown : (more : List Posted) → shown_from (t.machines.posts ++ more) 1 ks es ≡ entries_from u 1 s es
  pub within : Each (IsWithin (length t.machines.posts)) ks
  pub few : length ks ≤ length es

-- A call played these events: all of them, or up to the first one that was refused. The wire is at what it came to
abbrev pub PlaysAs : {A H : Type 0} → Setups → State → List WorldEvent → Result A Stopped → Kept H → List kept.Entry → Type 0
PlaysAs u s es (Ok done) k ks = (t : State) × (played u s es ≡ Through t) × IsAt k t × AreEntries u s es t ks
PlaysAs u s es (Err stopped) k ks =
    (stopped.fault ≢ Memory) → (t : State) × (played u s es ≡ Refused stopped.index stopped.fault t) × IsAt k t × AreEntries u s es t ks

-- the event that was refused, where a call played events of these lines so
abbrev pub IsStop : {A : Type 0} → (lines : List ℕ) → Result A Stopped → Option Stop → Type 0
IsStop lines (Ok done) stop = stop ≡ None
IsStop lines (Err stopped) stop = (stopped.fault ≢ Memory) × (stop ≡ Some (record { line = get_or lines stopped.index 0; why = refused_of stopped.fault }))

-- what is kept of a run is this
pub record ShowsRun {H : Type 0} (k : runs.Run H) (r : Run) : Type 0 where
  pub schedule : k.schedule ≡ r.schedule
  pub stop : k.stop ≡ r.stop
  pub world : Machines
  pub stands : Stands k.wire world
  pub entries : shown_from world.posts 1 k.entries r.schedule.events ≡ r.entries
  pub within : Each (IsWithin (length world.posts)) k.entries
  pub few : length k.entries ≤ length r.schedule.events
  pub most : length r.schedule.events ≤ 100000

-- A run is kept that everything is told of; or it is known what is answered, whatever is to be told
abbrev pub IsCourse : {H : Type 0} → (answer : (Run → List ℕ) → ℕ × List ℕ) → Course H → Type 0
IsCourse answer (Told k) = (r : Run) × ShowsRun k r × ((tell : Run → List ℕ) → answer tell ≡ (stop_status r.stop, tell r))
IsCourse answer (Alone o) = (tell : Run → List ℕ) → answer tell ≡ (o.status, string_bytes o.text)

-- so it is of a text that has no more events than this
abbrev pub Leads : {H : Type 0} → (most : ℕ) → List ℕ → Course H → Type 0
Leads most text course = IsCourse (λ tell. told_of most tell text) course
