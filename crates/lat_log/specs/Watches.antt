-- What was seen last of a core, and what is new of it.
use Rattle.std.specs.Prelude.{ℕ, zero, suc, ◌+◌, List, [], ◌∷◌, ◌++◌, length, map, Option, None, nat_lt, if◌then◌else◌}
use Rattle.std.specs.List.{flat_map}
use Rattle.lat_base.specs.declared.look.CircuitLook.{CircuitLook}
use Rattle.lat_base.specs.declared.look.Correspondent.{Correspondent}
use Rattle.lat_base.specs.declared.look.LineLook.{LineLook}
use Rattle.lat_base.specs.declared.look.WaiterLook.{WaiterLook}
use Rattle.lat_log.specs.CircuitNews.{circuits_news}
use Rattle.lat_log.specs.LeftNews.{left_news}
use Rattle.lat_log.specs.LineNews.{line_news, line_next}
use Rattle.lat_log.specs.ServiceNews.{services_news}
use Rattle.lat_log.specs.Sights.{gathered, one, sight_of, waiting_for}
use Rattle.lat_log.specs.WaitingNews.{waiting_news}
use Rattle.lat_log.specs.declared.entry.Entry.{Entry}
use Rattle.lat_log.specs.declared.entry.Flow.{Flow}
use Rattle.lat_log.specs.declared.entry.Offered.{Offered}
use Rattle.lat_log.specs.declared.left.Left.{Left}
use Rattle.lat_log.specs.declared.seen.Side.{Side}
use Rattle.lat_log.specs.declared.seen.LineSeen.{LineSeen}
use Rattle.lat_log.specs.declared.seen.LineSight.{LineSight}
use Rattle.lat_log.specs.declared.seen.Waiting.{Waiting}
use Rattle.lat_log.specs.declared.trigger.Trigger.{Trigger}

-- what was seen last
pub record Seen : Type 0 where
  pub side : Side
  -- the services whose queues are looked at
  pub names : List (List ℕ)
  pub circuits : List CircuitLook
  pub lines : List LineSeen
  pub waiting : List Waiting
  pub services : List Offered
  -- how much was left of what runs out
  pub left : Left

-- what a core shows
pub record Sight : Type 0 where
  pub circuits : List CircuitLook
  pub lines : List LineSight
  pub waiting : List Waiting
  pub left : Left

-- so many lines from this one on, of which no session was seen
unfoldable pub unseen_from : ℕ → ℕ → List LineSeen
unseen_from line zero = []
unseen_from line (suc count) = record { line = line; session = None } ∷ unseen_from (line + 1) count

abbrev pub unseen_lines : ℕ → List LineSeen
unseen_lines count = unseen_from 1 count

-- what a core shows that tells this of itself, and whose lines carried so much
abbrev pub shown : (ℕ → Option CircuitLook) → (ℕ → LineLook) → (ℕ → Option Correspondent) → (List ℕ → ℕ → Option WaiterLook) → Left → List Flow → Seen → Sight
shown circuit_of look_of correspondent_of waiter_of left flows seen = record {
  circuits = gathered (one circuit_of) 0 8;
  lines = map (sight_of look_of correspondent_of flows) seen.lines;
  waiting = flat_map (waiting_for waiter_of) seen.names;
  left = left;
}

abbrev pub lines_news : Side → Sight → List Entry
lines_news side now = flat_map (line_news side) now.lines

-- what is new: of circuits, of lines, of requests, of what runs out
abbrev pub news_of : Seen → Trigger → Sight → List Entry
news_of seen trigger now =
    circuits_news seen.side trigger seen.circuits now.circuits
    ++ (lines_news seen.side now ++ (waiting_news (lines_news seen.side now) seen.waiting now.waiting ++ left_news seen.left now.left))

-- what was seen last behind a notice
abbrev pub seen_next : Seen → Sight → Seen
seen_next seen now = record seen { circuits = now.circuits; lines = map line_next now.lines; waiting = now.waiting; left = now.left }

-- what is new of services, where so many can be compared
abbrev pub services_new : Seen → List Offered → List Entry
services_new seen now = if nat_lt 512 (length now) then [] else services_news seen.services now

abbrev pub services_next : Seen → List Offered → Seen
services_next seen now = if nat_lt 512 (length now) then seen else record seen { services = now }
