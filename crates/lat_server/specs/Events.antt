-- Parts of an event of the server machine.
use Rattle.std.specs.Prelude.{◌≡◌, ℕ, false, List, map, Option, Some, None}
use Rattle.lat_base.specs.declared.addr.Addr.{Addr}
use Rattle.lat_base.specs.declared.answer.Answer.{Answer}
use Rattle.lat_base.specs.declared.event.Event.{Event}
use Rattle.lat_base.specs.declared.event.Event.TheVariants as events
use Rattle.lat_base.specs.declared.outbox.OutFrame.{OutFrame}
use Rattle.lat_model.specs.Lists.{upwards}
use Rattle.lat_machines.specs.cores.Cores.{Core, at_moment}
use Rattle.lat_machines.specs.server.Server.{ServerConfig, Server, ServerStep, Passing, with_core, can_open, grant_lines, passed}
use Rattle.lat_machines.specs.values.Addresses.{address}
use Rattle.lat_payload.specs.Frames.{Emits}
use Rattle.lat_dir.specs.Stands as dir
use Rattle.lat_queue.specs.Histories as queue
use Rattle.lat_queue.specs.Histories.{key_shown}
use Rattle.lat_lines.specs.AnswerValues.{answer_shown}
use Rattle.lat_lines.specs.Stands as lines
use Rattle.lat_lines.specs.Stands.{freed_between}
use Rattle.lat_server.specs.Gates as gates
use Rattle.lat_server.specs.Kept.{Kept, config_of}
use Rattle.lat_server.specs.Concluded.{Concluded, Connects}
use Rattle.lat_server.specs.Stands.{Stands}

-- An event but for what follows every event: the requests of the sessions that it freed are known, and not finished yet. The
-- server stood for `s` before
pub record Underway (s : Server) (t : ServerStep) (new : Kept) (before after : List OutFrame) : Type 0 where
  pub core : lines.Stands new.lines t.state.core
  pub directory : dir.Stands new.directory t.state.heard
  pub waiting : queue.Stands new.queue t.state.queue
  pub solicits : new.solicits ≡ t.state.solicits
  pub gate : gates.StandsFor new.gate t.state.halted t.state.ready
  pub concluded : Concluded s.core t.state.queue
  pub freed : map key_shown new.lines.freed ≡ freed_between s.core t.state.core
  pub frames : Emits t.frames before after

-- it did so, and answered so
pub record HasDone (s : Server) (t : ServerStep) (new : Kept) (answer : Answer) (before after : List OutFrame) : Type 0 where
  pub state : Underway s t new before after
  pub answered : answer_shown answer ≡ t.answer

-- of every state that it stood for
abbrev pub Simulates : (ServerConfig → Server → ServerStep) → (old new : Kept) → Answer → (before after : List OutFrame) → Type 0
Simulates event old new answer before after =
    (s : Server) → Stands old s → HasDone s (event (config_of old) s) new answer before after

-- it did so once time had come to a moment
abbrev pub SimulatesAt : ℕ → (ServerConfig → Server → ServerStep) → (old new : Kept) → Answer → (before after : List OutFrame) → Type 0
SimulatesAt now event = Simulates (λ config s. event config (with_core s (at_moment now s.core)))

-- the lines so far granted what they could
pub record HasPassed (p : Passing) (new : Kept) (before after : List OutFrame) : Type 0 where
  pub state : Stands new p.state
  pub frames : Emits p.frames before after

-- from where the lines before have passed, whatever went out till then
abbrev pub Passes : (ServerConfig → Passing → Passing) → (old new : Kept) → (before after : List OutFrame) → Type 0
Passes step old new before after =
    (p : Passing) (start : List OutFrame) → HasPassed p old start before → HasPassed (step (config_of old) p) new start after

-- no session to this station can be had
abbrev pub IsShut : Option Addr → Kept → Type 0
IsShut None k = Unit {0}
IsShut (Some a) k = (c : Core) → lines.Stands k.lines c → can_open c (address a.0) ≡ false

abbrev pub all_lines : ServerConfig → Passing → Passing
all_lines config p = grant_lines config (upwards 0 config.lines) p

-- what follows an event has been done
pub record HasFollowed (t : ServerStep) (new : Kept) (before after : List OutFrame) : Type 0 where
  pub state : Stands new t.state
  pub frames : Emits t.frames before after

abbrev pub Follows : (old new : Kept) → (middle after : List OutFrame) → Type 0
Follows old new middle after =
    (s : Server) (t : ServerStep) (before : List OutFrame) →
    Underway s t old before middle →
    Connects s.core t.state.core →
    HasFollowed (passed (config_of old) t) new before after

-- the events that take no memory
abbrev pub IsLocal : Event → Type 0
IsLocal (events.Time now) = Unit {0}
IsLocal (events.Connect line service) = Unit {0}
IsLocal (events.Put line bytes) = Unit {0}
IsLocal (events.Set line setting) = Unit {0}
IsLocal (events.Attend line flag) = Unit {0}
IsLocal (events.Close line) = Unit {0}
IsLocal (events.Avoid line) = Unit {0}
IsLocal (events.Ready line ready) = Unit {0}
IsLocal events.Halt = Unit {0}
IsLocal e = ⊥

-- how many circuits it may call beyond those that requests wait for
abbrev pub cost : Event → ℕ
cost (events.Connect line service) = 1
cost e = 0

-- and those that are nothing to a server
abbrev pub TakesNoMemory : Event → Type 0
TakesNoMemory (events.Heard from payload now) = ⊥
TakesNoMemory (events.Take line n) = ⊥
TakesNoMemory e = Unit {0}
